-- What an engine's entry would answer, its preview answers.
use mathlib.Core.Path.{◌≡◌, sym, ◌∙◌}
use mathlib.Core.List.{List}
use Prim.Native.Nat.{ℕ}
use Rattle.std.specs.Prelude.{Result}
use Rattle.year.specs.declared.Status.{Status}
use Rattle.reference.specs.declared.EngineEntry.{EngineEntry}
use Rattle.reference.specs.declared.Refusal.{Refusal}
use Rattle.reference.specs.Call.{Enter, Ask, entry_of, preview_of}
use Rattle.reference.specs.Answers.{answer, outcome_of, outcome}
use Rattle.reference.proofs.Preview.{answered-as}
use Rattle.reference.proofs.Promises.{Promised, told}

pub previewed : (e : EngineEntry) (journal : List ℕ) {a : Result Status Refusal} {left : List ℕ} → Promised (Enter (entry_of e)) journal a left
    → record { answer : a ≡ answer (Ask (preview_of e)) journal; outcome : outcome_of a ≡ outcome (Ask (preview_of e)) journal }
previewed e journal {a = a} p =
    let same = p.answer ∙ sym (answered-as e.number _ journal) in
    record { answer = same; outcome = told (Ask (preview_of e)) journal a same }
