-- Whether there is a deletion among the events of the first slots, slot by slot.
use mathlib.Core.Path.{◌≡◌, refl, ap, ◌∙◌}
use mathlib.Core.Bool.{Bool, false, ◌||◌, or_comm}
use mathlib.Core.List.{List, [], ◌∷◌}
use Prim.Native.Nat.{ℕ, zero, suc, ◌≤◌}
use native.Mathlib.Omega.{arith}
use lib.Dec.{eqb}
use lib.ListN.{get_or, take, drop}
use Rattle.std.specs.List.{fold}
use Rattle.std.proofs.lemmas.Bool.Decides.{nat_tests}
use Rattle.std.proofs.lemmas.List.{get_or-take}
use Rattle.std.proofs.lemmas.List.Sums.{fold-append}
use Rattle.year.specs.Deletions.{is_deletion, has_deletion}
use Rattle.journal.specs.Encode.{slot_place}
use Rattle.journal.specs.Read.{event_in, events_in, slots_in}
use Rattle.journal.proofs.Slots.{one_more_slot}

-- what one slot adds
abbrev pub with_slot : Bool → List ℕ → Bool
with_slot found slot = found || eqb (get_or slot 0 0) 5

kind_5 : (part : List ℕ) → eqb (get_or part 0 0) 5 ≡ is_deletion (event_in part)
kind_5 part = grind (arith, nat_tests)

pub found-is : (journal : List ℕ) (count : ℕ) → count ≤ 64 → fold with_slot false (take count (slots_in journal)) ≡ has_deletion (events_in journal count)
found-is journal zero h = refl
found-is journal (suc j) h =
    let part = drop (slot_place j) journal in
    let before = has_deletion (events_in journal j) in
    rw (
      one_more_slot journal j (omega arith),
      fold-append with_slot false (take j (slots_in journal)) (take 8 part ∷ []),
      found-is journal j (omega arith),
      get_or-take 8 part 0 0 (omega arith),
    )
    (ap (λ d. before || d) (kind_5 part) ∙ or_comm before (is_deletion (event_in part)))
