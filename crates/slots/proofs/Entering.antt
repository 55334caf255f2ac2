-- The slots entered one after another: the year after the first j slots, and what one more slot changes.
use mathlib.Core.Path.{◌≡◌, refl, sym, ap, subst, ◌∙◌}
use mathlib.Core.Bool.{Bool, true, false, cond, ◌&&◌, true≢false, and-eq-true_iff}
use mathlib.Core.List.{List, []}
use Prim.Native.Nat.{ℕ, zero, suc, ◌+◌, ◌≤◌, ◌<◌}
use native.Mathlib.Decide.{dec_lt}
use native.Mathlib.Numerals.{add-one}
use native.Mathlib.Omega.{arith}
use lib.ListN.{length, get_or, take, drop}
use Rattle.std.specs.Prelude.{Option, Some, None}
use Rattle.std.proofs.lemmas.List.{get_or-take, length-take}
use Rattle.conditions.proofs.Tests.{and-true}
use Rattle.year.specs.declared.Event.{Event}
use Rattle.year.specs.Setup.{setup_in_range}
use Rattle.year.specs.Replay.{Progress, after}
use Rattle.year.specs.Admissible.{admissible}
use Rattle.year.proofs.Replayed.{replay-setup}
use Rattle.year.specs.Model.{NoSetup, Year}
use Rattle.journal.specs.Encode.{slot_place}
use Rattle.journal.specs.Read.{slots_in, setup_in, event_in, events_in}
use Rattle.journal.specs.Acceptance.{is_slot, enters_at, enters_up_to}
use Rattle.journal.proofs.Slots.{length-slots_in, slot_at}
use Rattle.event_decoder.proofs.Slots.{front_slot, front_event}
use Rattle.progress.specs.State.{MayEnter}
use Rattle.slots.specs.Scanned.{year_of, Entered, entered}

-- if one slot does not enter, the slots up to a later one do not all enter
later : (journal : List ℕ) (j n : ℕ) → j < n → enters_at journal j ≡ false → enters_up_to journal n ≡ true → ⊥
later journal j zero l f h = omega arith
later journal j (suc n) l f h =
    let parts = (and-eq-true_iff (enters_up_to journal n) (enters_at journal n)).0 h in
    by (dec_lt j n) (λ k. later journal j n k f parts.0) parts.1
  where
    by : Dec (j < n) → (j < n → ⊥) → enters_at journal n ≡ true → ⊥
    by (yes k) g t = g k
    by (no k) g t =
        let same : j ≡ n = omega arith in
        true≢false (sym t ∙ ap (enters_at journal) (sym same) ∙ f)

both-fail : (a b : Bool) → (b ≡ true → ⊥) → (a && b) ≡ false
both-fail true true f = absurd (f refl)
both-fail true false f = refl
both-fail false b f = refl

module _ (journal : List ℕ) (n : ℕ) where
  pub none-entered : (setup_in_range (setup_in journal) && enters_up_to journal n) ≡ false → entered journal n ≡ NoSetup
  unfolding entered
  none-entered h = rw h

  pub all-entered : (setup_in_range (setup_in journal) && enters_up_to journal n) ≡ true → entered journal n ≡ Year (setup_in journal) (events_in journal n)
  unfolding entered
  all-entered h = rw h

  -- once the last slot is entered, the year is the one held
  pub finished : (j : ℕ) (p : Progress) → j ≤ n → n ≤ j → Entered journal j p → Some p ≡ year_of (entered journal n)
  finished j p l m u =
      let same : j ≡ n = omega arith in
      let v = subst (λ k. Entered journal k p) same u in
      rw (all-entered (and-true v.setup v.enters), ← v.stands)

-- the first n of a journal's slots
module _ (journal : List ℕ) (n : ℕ) (few : n ≤ 64) (slots : List (List ℕ)) (are : slots ≡ slots_in journal) where
  pub all : length (take n slots) ≡ n
  all = omega (arith, length-take n slots, ap length are, length-slots_in journal)

  pub slot-at : (j : ℕ) → j < length (take n slots) → (j < n) × (get_or (take n slots) j [] ≡ take 8 (drop (slot_place j) journal))
  slot-at j l =
      let below : j < n = omega (arith, all, l) in
      (below, get_or-take n slots j [] below ∙ rw are (slot_at journal j [] (omega arith)))

abbrev given : Event → Option Event → Event
given d (Some e) = e
given d None = d

abbrev is_some : Option Event → Bool
is_some (Some e) = true
is_some None = false

-- a slot as it is read: an event if it is in the one form
from-cond : (b : Bool) (x e : Event) → Some e ≡ cond b (Some x) None → (b ≡ true) × (e ≡ x)
from-cond true x e h = (refl, ap (given x) h)
from-cond false x e h = absurd (true≢false (ap is_some h))

from-none : (b : Bool) (x : Event) → None ≡ cond b (Some x) None → b ≡ false
from-none true x h = absurd (true≢false (sym (ap is_some h)))
from-none false x h = refl

-- one slot, in the year of those before it
module _ {journal : List ℕ} {j : ℕ} {p : Progress} (u : Entered journal j p) where
  abbrev part : List ℕ
  part = drop (slot_place j) journal

  entering : enters_at journal j ≡ (is_slot part && admissible p (event_in part))
  unfolding enters_at
  entering = rw u.stands

  -- it does not enter: the buffer holds no year
  stopped : (n : ℕ) → j < n → (is_slot part && admissible p (event_in part)) ≡ false → None ≡ year_of (entered journal n)
  stopped n l f = rw (none-entered journal n (both-fail (setup_in_range (setup_in journal)) (enters_up_to journal n) (later journal j n l (entering ∙ f))))

  module _ (slot : List ℕ) (is : slot ≡ take 8 part) where
    read : cond (is_slot slot) (Some (event_in slot)) None ≡ cond (is_slot part) (Some (event_in part)) None
    read = rw (is, front_slot part, front_event part)

    -- it is not in the one form
    pub no-slot : (n : ℕ) → j < n → None ≡ cond (is_slot slot) (Some (event_in slot)) None → None ≡ year_of (entered journal n)
    no-slot n l h = let f = from-none (is_slot part) (event_in part) (h ∙ read) in stopped n l (rw f)

    module _ (e : Event) (h : Some e ≡ cond (is_slot slot) (Some (event_in slot)) None) where
      event : (is_slot part ≡ true) × (e ≡ event_in part)
      event = from-cond (is_slot part) (event_in part) e (h ∙ read)

      -- its event is not admissible
      pub no-event : (n : ℕ) → j < n → admissible p e ≡ false → None ≡ year_of (entered journal n)
      no-event n l f = stopped n l (rw (event.0, ← event.1, f))

      -- its event may be entered, and then it is one of those entered
      pub may-enter : admissible p e ≡ true → MayEnter e p
      may-enter a = record { setup = rw (u.stands, replay-setup (setup_in journal) (events_in journal j)) u.setup; admitted = a }

      pub next : admissible p e ≡ true → Entered journal (j + 1) (after e p)
      next a =
          rw (add-one j)
          (record {
            setup = u.setup;
            enters = (and-eq-true_iff (enters_up_to journal j) (enters_at journal j)).1 (u.enters, entering ∙ rw (event.0, ← event.1) a);
            stands = rw (event.1, u.stands);
          })
