-- What setup promises on a buffer of a journal's size: refused by one of its rows, or with the journal written.
use mathlib.Core.Path.{◌≡◌, sym, ◌∙◌}
use mathlib.Core.Logic.{◌≢◌}
use mathlib.Core.Bool.{true}
use mathlib.Core.List.{List, []}
use Prim.Native.Nat.{ℕ}
use lib.ListN.{length}
use borrow.Author.Tests.{ne_eqb}
use Rattle.year.specs.declared.Setup.{Setup}
use Rattle.year.specs.declared.Status.{Status}
use Rattle.year.specs.Setup.{setup_in_range}
use Rattle.year.specs.Model.{NoSetup}
use Rattle.year.specs.Replay.{start}
use Rattle.year.specs.Status.{status}
use Rattle.journal.specs.Encode.{setup_version, encode}
use Rattle.setup_encoder.specs.Fits.{SetupFits}
use Rattle.setup_encoder.proofs.Fits.{setup-fits}
use Rattle.std.specs.Prelude.{Ok}
use Rattle.reference.specs.Call.{SetUp}
use Rattle.reference.specs.Refusals.{refusals, refusal}
use Rattle.reference.specs.Answers.{refusal_on}
use Rattle.reference.proofs.Validity.{setup-valid}
use Rattle.reference.proofs.Given.{accepted-answer}
use Rattle.reference.proofs.Demand1.{demand-1}
use Rattle.reference.proofs.Demand2.{demand-2}
use Rattle.reference.proofs.Promises.{Promised, promised}

-- 3 is tested first
pub other_size : (s : Setup) (journal : List ℕ) → length journal ≢ 544 → 3 ≡ refusal_on (SetUp s) journal
unfolding refusal refusals
other_size s journal h = rw (ne_eqb (length journal) 544 h)

-- the rest of its rows do not depend on what the buffer holds
pub setup_rows : (s : Setup) (journal : List ℕ) → length journal ≡ 544 → refusal 544 (SetUp s) NoSetup ≡ refusal_on (SetUp s) journal
unfolding refusal refusals
setup_rows s journal size = rw size

module _ (s : Setup) (none : 0 ≡ refusal 544 (SetUp s) NoSetup) where
  ready : setup_in_range s ≡ true
  ready = setup-valid s NoSetup (sym none)

  pub writable : SetupFits s
  writable = setup-fits s ready

  pub done : (journal : List ℕ) → length journal ≡ 544 → (x : Status) (left : List ℕ) → x ≡ status 1024 (start s) → left ≡ encode setup_version s []
      → Promised (SetUp s) journal (Ok x) left
  done journal size x left a e =
      let h = sym (none ∙ setup_rows s journal size) in
      promised (SetUp s) journal (Ok x) left
      (rw (a, accepted-answer (SetUp s) journal h, demand-2.set_up s journal h)) (e ∙ sym (demand-1.setup_written s journal h))
