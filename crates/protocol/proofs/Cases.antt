-- The worked cases of the key line.
use mathlib.Core.Path.{◌≡◌, refl}
use mathlib.Core.List.{[], ◌∷◌, ◌++◌}
use lib.ListN.{replicate}
use Rattle.ascii.specs.Text.{byte, text}
use Rattle.buffers.specs.Bytes.{put, zeros}
use Rattle.rounding.specs.Result.{nearest_even}
use Rattle.statistics.specs.Spread.{variation}
use Rattle.statistics.specs.SampleSize.{t95, sample_size, size_reached}
use Rattle.cumsum.specs.Marks.{compared, failed, undecided}
use Rattle.year.specs.Periods.{periods, needs}
use Rattle.year.specs.Verdict.{verdict}
use Rattle.year.specs.Admissible.{closed, admissible}
use Rattle.journal.specs.Encode.{can_hold, append}
use Rattle.journal.specs.Read.{read_as}
use Rattle.reference.specs.Refusals.{refusals, refusal}
use Rattle.reference.specs.Answers.{journal_after, answer, out_part}
use Rattle.protocol.specs.Number.{is_number, number_at, number_outcome}
use Rattle.ascii.specs.Decimal.{digits, spelt}
use Rattle.protocol.specs.KeyLine.{spaced_number, spaced_outcome, numbers_from, call_of, command_of}
use Rattle.ascii.specs.Decimal.{decimal_up_to, decimal}
use Rattle.protocol.specs.Reply.{reply_to, journal_after_line}
use Rattle.protocol.specs.Preview.{other_replies}
use Rattle.protocol.specs.Run.{run}
use Rattle.protocol.specs.Cases.{Cases}
use Rattle.protocol.proofs.Run.{document-run, preview-run}

long-line : run (replicate 70 (byte "X") ++ text "\nX\n") ≡ text "NO 1\nNO 7\n"
unfolding read_as refusals refusal journal_after answer numbers_from call_of command_of decimal_up_to decimal reply_to journal_after_line
long-line = refl

struck-run : run (text "S 5000 365 800 6100 0 0 0 0\nZ\nE 1 998000 5000000\nZ\nL\nE 1 998000 5000000\n")
    ≡ text "OK 0 0 -- - -\nNO 17\nOK 1 0 -- - -\nOK 0 0 -- - -\nOK\nOK 1 0 -- - -\n"
unfolding put nearest_even variation t95 sample_size size_reached compared failed undecided periods needs verdict closed admissible can_hold append read_as refusals refusal journal_after answer out_part digits spelt is_number number_at spaced_number numbers_from call_of command_of decimal_up_to decimal reply_to journal_after_line
struck-run = refl

previews-replied : other_replies (zeros 544) (text "T 1 1 1" ∷ text "X" ∷ text "T" ∷ text "Y" ∷ []) ≡ text "NO 7" ∷ text "NO 2" ∷ []
unfolding read_as refusals refusal journal_after answer numbers_from call_of command_of decimal_up_to decimal reply_to journal_after_line spaced_number number_at is_number digits spelt
previews-replied = refl

pub cases : Cases
unfolding digits spelt is_number number_at number_outcome spaced_number spaced_outcome numbers_from call_of command_of decimal_up_to decimal
cases =
    record {
      setup = refl;
      engine = refl;
      preview = refl;
      amendment = refl;
      period = refl;
      declaration = refl;
      deletion = refl;
      marks = refl;
      setup_numbers = refl;
      many_readings = refl;
      below_digits = refl;
      above_digits = refl;
      letter_alone = refl;
      four_digits = refl;
      empty_last = refl;
      four_readings = refl;
      no_readings = refl;
      eight_readings = refl;
      odd_readings = refl;
      previewed_four = refl;
      previewed_none = refl;
      previewed_odd = refl;
      previewed_nothing = refl;
      no_number = refl;
      eight_digits = refl;
      nine_digits = refl;
      leading_zero = refl;
      two_zeros = refl;
      number_read = refl;
      number_refused = refl;
      spaced_read = refl;
      space_missing = refl;
      spaced_refused = refl;
      two_spaces = refl;
      number_missing = refl;
      space_at_end = refl;
      no_space = refl;
      tab = refl;
      other_byte = refl;
      other_count = refl;
      seven_numbers = refl;
      nine_numbers = refl;
      three_standards = refl;
      number_after_declaration = refl;
      number_after_marks = refl;
      number_after_deletion = refl;
      number_after_period = refl;
      other_letter = refl;
      small_letter = refl;
      small_deletion = refl;
      small_preview = refl;
      empty_line = refl;
      bytes64 = refl;
      previewed64 = refl;
      previewed65 = refl;
      bytes65 = refl;
      two_lines = refl;
      three_lines = refl;
      refused_by_16 = refl;
      no_marks = refl;
      two_tested = refl;
      long_line = long-line;
      document_run = document-run;
      struck_run = struck-run;
      previews_out = refl;
      previews_replied = previews-replied;
      preview_run = preview-run;
    }
