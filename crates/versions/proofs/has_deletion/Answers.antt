-- The fold over the first slots.
use Rattle.std.proofs.Common.{rules, ◌≡◌, ◌∙◌, ◌∷◌, [], false, refl, sym, ap}
use Rattle.std.specs.List.{fold}
use Rattle.std.proofs.lemmas.Fn.{fold_over, fronts, slice_gives}
use Rattle.std.proofs.lemmas.List.Sums.{fold-append}
use Rattle.versions.proofs.Deletions.{with_slot, found-is}
use Rattle.versions.proofs.has_deletion.Goals as goal

pub returns : goal.returns
returns c =
    let folded =
    fold_over fronts (λ y. y.now) _ (λ ys a. a ≡ fold with_slot false ys) _
    (λ ys a x b f' h k. let one : b ≡ with_slot a x.now = search rules in (one ∙ ap (λ found. with_slot found x.now) h ∙ sym (fold-append with_slot false ys (x.now ∷ [])), refl))
    c.iter.result _ false c.fold.result (slice_gives c.iter.result) refl c.fold.ensures.ran in
    folded ∙ rw (c.iter.ensures.rest, c.slots_in.ensures.slots) (found-is c.args.journal.now c.args.count c.requires)
