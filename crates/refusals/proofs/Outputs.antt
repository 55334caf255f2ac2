-- A call that writes an output is refused as status is, and then by its own row if the output is too short: 16 for the marks, 18 for the report.
use mathlib.Core.Path.{◌≡◌}
use mathlib.Core.Bool.{cond}
use mathlib.Core.List.{List}
use Prim.Native.Nat.{ℕ, ◌+◌, ◌*◌, ◌≤◌, ◌<◌}
use lib.Dec.{ltb}
use lib.ListN.{length}
use borrow.Author.Tests.{lt-ltb, le-ltb}
use Rattle.std.specs.Prelude.{Some}
use Rattle.std.proofs.Common.{arith}
use Rattle.year.specs.Replay.{Progress}
use Rattle.journal.specs.Read.{read_journal}
use Rattle.reference.specs.declared.Refusal.{Refusal}
use Rattle.reference.specs.Refused.{number_of}
use Rattle.reference.specs.Call.{Form, Marks, Report, ReadStatus, Write, Ask}
use Rattle.reference.specs.Refusals.{refusals, refusal}
use Rattle.reference.specs.Answers.{refusal_on}
use Rattle.reference.proofs.Refused.{above_0}
use Rattle.slots.specs.Scanned.{year_of}

-- how many bytes the output of a year takes, and the number of the row that tests this
abbrev pub needed : Form → ℕ → ℕ
needed Marks n = 2 * n
needed Report n = 61 * (n + 1)

abbrev pub too_short : Form → ℕ
too_short Marks = 16
too_short Report = 18

module _ (size : ℕ) (journal : List ℕ) where
  pub output_refused : (form : Form) (r : Refusal) → number_of r ≡ refusal_on (Ask ReadStatus) journal → number_of r ≡ refusal_on (Ask (Write form size)) journal
  unfolding refusal refusals
  output_refused Marks r e = grind (arith, above_0)
  output_refused Report r e = grind (arith, above_0)

  pub marks_refused : (r : Refusal) → number_of r ≡ refusal_on (Ask ReadStatus) journal → number_of r ≡ refusal_on (Ask (Write Marks size)) journal
  marks_refused = output_refused Marks

  pub report_refused : (r : Refusal) → number_of r ≡ refusal_on (Ask ReadStatus) journal → number_of r ≡ refusal_on (Ask (Write Report size)) journal
  report_refused = output_refused Report

  module _ (p : Progress) (year : Some p ≡ year_of (read_journal journal)) (none : 0 ≡ refusal_on (Ask ReadStatus) journal) where
    decided : (form : Form) → cond (ltb size (needed form (length p.tested))) (too_short form) 0 ≡ refusal_on (Ask (Write form size)) journal
    unfolding refusal refusals
    decided Marks = grind arith
    decided Report = grind arith

    pub output_too_short : (form : Form) → size < needed form (length p.tested) → too_short form ≡ refusal_on (Ask (Write form size)) journal
    output_too_short form h = rw (lt-ltb size (needed form (length p.tested)) h) at (decided form)

    pub output_fits : (form : Form) → needed form (length p.tested) ≤ size → 0 ≡ refusal_on (Ask (Write form size)) journal
    output_fits form h = rw (le-ltb size (needed form (length p.tested)) h) at (decided form)
