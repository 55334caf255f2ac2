-- What a public call promises about its answer and the journal, from its two equations.
use mathlib.Core.Path.{◌≡◌, sym, ap, ◌∙◌}
use mathlib.Core.List.{List}
use Prim.Native.Nat.{ℕ}
use native.Mathlib.Omega.{arith}
use Rattle.std.specs.Prelude.{Result, Err, IsErrAnd}
use Rattle.year.specs.declared.Status.{Status}
use Rattle.reference.specs.declared.Refusal.{Refusal}
use Rattle.reference.specs.Call.{Call}
use Rattle.reference.specs.Refused.{number_of}
use Rattle.reference.specs.Answers.{refusal_on, journal_after, answer, outcome_of, outcome}
use Rattle.reference.proofs.Refused.{above_0, err_named, handed-on}
use Rattle.reference.proofs.Given.{refused-answer, answer-outcome}
use Rattle.reference.proofs.Demand1.{demand-1}

-- the answer, its outcome, and the journal that is left
abbrev pub Promised : Call → List ℕ → Result Status Refusal → List ℕ → Type 0
Promised call journal r left =
    record { answer : r ≡ answer call journal; outcome : outcome_of r ≡ outcome call journal; journal_after : left ≡ journal_after call journal }

pub promised : (call : Call) (journal : List ℕ) (r : Result Status Refusal) (left : List ℕ) → r ≡ answer call journal → left ≡ journal_after call journal
    → Promised call journal r left
promised call journal r left a j = record { answer = a; outcome = ap outcome_of a ∙ answer-outcome call journal; journal_after = j }

-- the outcome of a call's answer
pub told : (call : Call) (journal : List ℕ) (r : Result Status Refusal) → r ≡ answer call journal → outcome_of r ≡ outcome call journal
told call journal r e = ap outcome_of e ∙ answer-outcome call journal

-- the answer of a refused call
pub refused_answer : (call : Call) (journal : List ℕ) (r : Refusal) → number_of r ≡ refusal_on call journal → Err r ≡ answer call journal
refused_answer call journal r e = ap Err (err_named r (refusal_on call journal) e) ∙ sym (refused-answer call journal (omega (arith, e, above_0 r)))

-- a refused call, from what a `?` hands on
pub refused : (call : Call) (journal : List ℕ) (r : Refusal) → number_of r ≡ refusal_on call journal
    → {a : Result Status Refusal} → IsErrAnd a (λ e. e ≡ r) → Promised call journal a journal
refused call journal r e {a = a} h =
    promised call journal a journal (handed-on h (refused_answer call journal r e)) (sym (demand-1.refused_journal call journal (omega (arith, e, above_0 r))))
