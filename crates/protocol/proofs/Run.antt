-- Document 01's whole run, line by line, on the definitions. Deviations are proved by their laws; the rest is computed.
use mathlib.Core.Path.{◌≡◌, refl, ap, ◌∙◌}
use mathlib.Core.Bool.{true}
use mathlib.Core.List.{List, [], ◌∷◌}
use Prim.Native.Nat.{ℕ}
use lib.Dec.{lit<, lit≤}
use lib.ListN.{length}
use Rattle.ascii.specs.Text.{byte, text}
use Rattle.buffers.specs.Bytes.{put, zeros}
use Rattle.rounding.specs.Result.{nearest_even}
use Rattle.statistics.specs.Spread.{variation, deviation}
use Rattle.statistics.specs.SampleSize.{t95, sample_size, size_reached, rounded_up}
use Rattle.statistics.specs.Cases.{exactly}
use Rattle.statistics.proofs.Cases as statistics
use Rattle.statistics.proofs.Deviations.{deviation-unique, deviation-none}
use Rattle.std.specs.Prelude.{Option, Some, None}
use Rattle.cumsum.specs.declared.Mark.{Mark}
use Rattle.cumsum.specs.declared.Mark.TheVariants.{Unmarked, Under, Undecided}
use Rattle.cumsum.specs.Marks.{compared, failed, undecided}
use Rattle.year.specs.declared.Setup.{Setup}
use Rattle.year.specs.declared.Event.{Event}
use Rattle.year.specs.declared.Event.TheVariants.{Declaration}
use Rattle.year.specs.Periods.{periods, needs}
use Rattle.year.specs.Verdict.{verdict}
use Rattle.year.specs.Admissible.{closed, admissible, valid}
use Rattle.year.proofs.Valid.{valid-before}
use Rattle.year.specs.Cases.{setup_of, engine}
use Rattle.journal.specs.Encode.{can_hold, encode, append}
use Rattle.journal.specs.Read.{read_as, read_journal}
use Rattle.journal.proofs.Reading.{read_as-encode}
use Rattle.reference.specs.Call.{EnterEngine, EnterChange, Entry}
use Rattle.reference.specs.declared.Change.TheVariants.{Declare}
use Rattle.reference.specs.Refusals.{refusals, refusal}
use Rattle.reference.specs.Answers.{journal_after, answer}
use Rattle.protocol.specs.Number.{is_number, number_at}
use Rattle.protocol.specs.KeyLine.{spaced_number, numbers_from, call_of, command_of}
use Rattle.protocol.specs.Reply.{refusal_reply, status_reply, reply_to, journal_after_line}
use Rattle.ascii.specs.Decimal.{digits, spelt, decimal_up_to, decimal}
use Rattle.protocol.specs.Cases.{marked}
use Rattle.protocol.specs.Run.{printed, run}
use Rattle.protocol.proofs.Preview.{preview-line-promises}
use Rattle.protocol.proofs.Steps.{Does, Stored, entry-does, refused-does, marks-does, end, then, runs-replies}

-- the setup of the run
abbrev plant : Setup
plant = setup_of 5000 800

-- the events of the run, after one, two and three engines and after the declaration
abbrev one : List Event
one = engine 1 998 ∷ []

abbrev two : List Event
two = engine 2 1071 ∷ one

abbrev three : List Event
three = engine 3 900 ∷ two

abbrev declared : List Event
declared = Declaration ∷ three

-- the journal that holds such events
abbrev holding : List Event → List ℕ
holding es = encode 1 plant es

-- an engine with one reading for each pollutant
abbrev entering : ℕ → ℕ → ℕ → Entry
entering number hcnox co = EnterEngine number (record { hcnox = hcnox ∷ []; co = co ∷ [] })

-- the deviation of 998, 1,071, 900; that of the first two is among the cases of `statistics`
of-3 : deviation 1024 3 44174 ≡ exactly 87863 1
of-3 = deviation-unique 1024 3 44174 (lit≤ tt) 87863 (lit≤ tt) (lit< tt)

-- the events could have been entered
valid-declared : valid plant declared ≡ true
unfolding nearest_even variation t95 size_reached compared failed undecided periods needs verdict closed admissible
valid-declared = simp ((statistics.cases).deviation_at_1024, of-3, deviation-none)

valid-three : valid plant three ≡ true
valid-three = valid-before plant Declaration three valid-declared

valid-two : valid plant two ≡ true
valid-two = valid-before plant (engine 3 900) two valid-three

-- so each journal is read as its year
stored : (es : List Event) → length (holding es) ≡ 544 → read_journal (holding es) ≡ read_as (holding es) 1 plant es → can_hold 1 plant es ≡ true
    → valid plant es ≡ true → Stored (holding es) plant es
stored es size same c v = record { size = size; is_year = same ∙ read_as-encode 1 plant es c v }

stored-none : Stored (holding []) plant []
unfolding can_hold
stored-none = stored [] refl refl refl refl

stored_one : Stored (holding one) plant one
unfolding can_hold
stored_one = stored one refl refl refl (valid-before plant (engine 2 1071) one valid-two)

stored-two : Stored (holding two) plant two
unfolding can_hold
stored-two = stored two refl refl refl valid-two

stored-three : Stored (holding three) plant three
unfolding can_hold
stored-three = stored three refl refl refl valid-three

stored-declared : Stored (holding declared) plant declared
unfolding can_hold
stored-declared = stored declared refl refl refl valid-declared

-- the reply that shows n, a verdict, marks and sample sizes
abbrev shown : ℕ → ℕ → Mark → Mark → Option ℕ → Option ℕ → List ℕ
shown n v a b size_a size_b = status_reply (record { n = n; verdict = v; figures = record { hcnox = marked a size_a; co = marked b size_b } })

-- what each line does
record Lines : Type 0 where
  pub line1 : Does (text "S 5000 365 800 6100 0 0 0 0") (zeros 544) (shown 0 0 Unmarked Unmarked None None) (holding [])
  pub line2 : Does (text "E 1 998000 5000000") (holding []) (shown 1 0 Unmarked Unmarked None None) (holding one)
  pub line3 : Does (text "E 2 1071000 5000000") (holding one) (shown 2 1 Undecided Under (Some 30) (Some 10)) (holding two)
  pub line4 : Does (text "E 3 900000 5000000") (holding two) (shown 3 1 Under Under (Some 28) (Some 10)) (holding three)
  pub line5 : Does (text "L") (holding three) (text "OK --?UUU") (holding three)
  pub line6 : Does (text "X") (holding three) (shown 3 7 Under Under (Some 28) (Some 10)) (holding declared)
  pub line7 : Does (text "E 4 1 1") (holding declared) (refusal_reply 8) (holding declared)

lines : Lines
unfolding put nearest_even variation t95 sample_size rounded_up size_reached compared failed undecided periods needs verdict closed admissible append refusals refusal digits spelt is_number number_at spaced_number numbers_from call_of command_of
lines =
    record {
      line1 = unfold can_hold read_as journal_after answer reply_to journal_after_line in record { replied = refl; left = refl };
      line2 = entry-does (holding []) (text "E 1 998000 5000000") plant [] stored-none (entering 1 998000 5000000) (holding one) refl refl refl stored_one;
      line3 = simp ((statistics.cases).deviation_at_1024, deviation-none) at (entry-does (holding one) (text "E 2 1071000 5000000") plant one stored_one
          (entering 2 1071000 5000000) (holding two) refl refl refl stored-two);
      line4 = simp ((statistics.cases).deviation_at_1024, of-3, deviation-none) at (entry-does (holding two) (text "E 3 900000 5000000") plant two stored-two
          (entering 3 900000 5000000) (holding three) refl (simp ((statistics.cases).deviation_at_1024, deviation-none)) refl stored-three);
      line5 = simp ((statistics.cases).deviation_at_1024, of-3, deviation-none) at (marks-does (holding three) (text "L") plant three stored-three 80 refl refl);
      line6 = simp ((statistics.cases).deviation_at_1024, of-3, deviation-none) at (entry-does (holding three) (text "X") plant three stored-three
          (EnterChange Declare) (holding declared) refl (simp ((statistics.cases).deviation_at_1024, of-3, deviation-none)) refl stored-declared);
      line7 = refused-does (holding declared) (text "E 4 1 1") plant declared stored-declared (entering 4 1 1) 8 refl refl (lit< tt);
    }

pub document-run : run (text "S 5000 365 800 6100 0 0 0 0\nE 1 998000 5000000\nE 2 1071000 5000000\nE 3 900000 5000000\nL\nX\nE 4 1 1\n")
    ≡ text "OK 0 0 -- - -\nOK 1 0 -- - -\nOK 2 1 ?U 30 10\nOK 3 1 UU 28 10\nOK --?UUU\nOK 3 7 UU 28 10\nNO 8\n"
unfolding decimal_up_to decimal
document-run =
    ap printed (runs-replies (then lines.line1 (then lines.line2 (then lines.line3 (then lines.line4
    (then lines.line5 (then lines.line6 (then lines.line7 end))))))))

-- the same run with each engine asked about before it is entered, and two of them once more
previewing : (rest journal reply : List ℕ) {left : List ℕ} → Does (byte "E" ∷ rest) journal reply left → Does (byte "T" ∷ rest) journal reply journal
previewing rest journal reply entered = record { replied = preview-line-promises.replied_as rest journal ∙ entered.replied; left = preview-line-promises.kept rest journal }

again : Does (text "E 3 900000 5000000") (holding three) (refusal_reply 10) (holding three)
unfolding nearest_even variation t95 sample_size rounded_up size_reached compared failed undecided periods needs verdict closed admissible append refusals refusal digits spelt is_number number_at spaced_number numbers_from call_of command_of
again = refused-does (holding three) (text "E 3 900000 5000000") plant three stored-three (entering 3 900000 5000000) 10 refl
    (simp ((statistics.cases).deviation_at_1024, of-3, deviation-none)) (lit< tt)

pub preview-run : run (text "S 5000 365 800 6100 0 0 0 0\nT 1 998000 5000000\nE 1 998000 5000000\nT 2 1071000 5000000\nE 2 1071000 5000000\nT 3 900000 5000000\nE 3 900000 5000000\nT 3 900000 5000000\nL\nX\nT 4 1 1\n")
    ≡ text "OK 0 0 -- - -\nOK 1 0 -- - -\nOK 1 0 -- - -\nOK 2 1 ?U 30 10\nOK 2 1 ?U 30 10\nOK 3 1 UU 28 10\nOK 3 1 UU 28 10\nNO 10\nOK --?UUU\nOK 3 7 UU 28 10\nNO 8\n"
unfolding decimal_up_to decimal
preview-run =
    ap printed (runs-replies (then lines.line1 (then (previewing (text " 1 998000 5000000") _ _ lines.line2) (then lines.line2
    (then (previewing (text " 2 1071000 5000000") _ _ lines.line3) (then lines.line3 (then (previewing (text " 3 900000 5000000") _ _ lines.line4) (then lines.line4
    (then (previewing (text " 3 900000 5000000") _ _ again) (then lines.line5 (then lines.line6 (then (previewing (text " 4 1 1") _ _ lines.line7) end))))))))))))
