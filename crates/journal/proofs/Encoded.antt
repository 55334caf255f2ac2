-- The stored form: its length, its slots, its version, and one more event.
use mathlib.Core.Path.{◌≡◌, refl, sym, ap, ◌∙◌}
use mathlib.Core.Logic.{◌↔◌}
use mathlib.Core.Bool.{Bool, true, false, cond, and-eq-true_iff}
use mathlib.Core.List.{List, [], ◌∷◌, ◌++◌}
use Prim.Native.Nat.{ℕ, ◌+◌, ◌-◌, ◌*◌, ◌≤◌, ◌<◌}
use native.Mathlib.Numerals.{add-one}
use native.Mathlib.Omega.{arith}
use lib.Dec.{eqb}
use lib.ListN.{length, take, drop, length-append}
use lib.Seq.{take_at, drop_at, drop-drop}
use borrow.Author.Tests.{eqb-true, eq-eqb}
use Rattle.std.proofs.lemmas.Bool.Decides.{nat_tests}
use Rattle.buffers.specs.Bytes.{put, zeros}
use Rattle.buffers.proofs.LittleEndian.{from-two}
use Rattle.buffers.proofs.Lists.{length-zeros, drop-zeros}
use Rattle.year.specs.declared.Setup.{Setup}
use Rattle.year.specs.declared.Event.{Event}
use Rattle.year.specs.Deletions.{is_deletion}
use Rattle.journal.specs.Encode.{version, can_hold, header, slot_of, slots, encode, slot_place, with_slot, raises, raised, append}

pub length-slot : (e : Event) → length (slot_of e) ≡ 8
length-slot e = refl

pub length-slots : (es : List Event) → length (slots es) ≡ 8 * length es
length-slots [] = refl
length-slots (e ∷ es) = omega (arith, length-append (slots es) (slot_of e), length-slot e, length-slots es)

pub length-encode : (v : ℕ) (s : Setup) (es : List Event) → length es ≤ 64 → length (encode v s es) ≡ 544
length-encode v s es h =
    omega (arith, length-append (slots es) (zeros (512 - 8 * length es)), length-slots es, length-zeros (512 - 8 * length es))

-- ---- the version

-- byte 3 of a journal of version 1
version-put : (s : Setup) (es : List Event) (v : ℕ) → v ≡ 1 → put (encode v s es) 3 (2 ∷ []) ≡ encode 2 s es
unfolding put
version-put s es v h = rw h

version-next : (e : Event) (es : List Event) → version (e ∷ es) ≡ raised e (version es)
version-next e es = grind (arith, nat_tests)

module _ (v : ℕ) (s : Setup) (es : List Event) where
  pub holds-iff : (can_hold v s es ≡ true) ↔ (v ≡ version es)
  unfolding can_hold
  holds-iff = (eqb-true v (version es), eq-eqb v (version es))

  -- it fits the two bytes 3 and 4
  pub holds-small : can_hold v s es ≡ true → v < 65536
  holds-small h = rw (holds-iff.0 h) (grind (arith, nat_tests))

  pub holds-next : (e : Event) → can_hold v s es ≡ true → can_hold (raised e v) s (e ∷ es) ≡ true
  unfolding can_hold
  holds-next e h = eq-eqb (raised e v) (version (e ∷ es)) (ap (raised e) (holds-iff.0 h) ∙ sym (version-next e es))

-- ---- one more event

module _ (v : ℕ) (s : Setup) (es : List Event) (e : Event) (h : length es < 64) where
  abbrev place : ℕ
  place = slot_place (length es)

  abbrev front : List ℕ
  front = header v s (length es) ++ slots es

  abbrev rest : List ℕ
  rest = zeros (512 - 8 * length es)

  front_length : length front ≡ place
  front_length = omega (arith, length-slots es)

  before : take place (encode v s es) ≡ front
  before = take_at front rest place front_length

  behind : drop (place + length (slot_of e)) (encode v s es) ≡ zeros (512 - 8 * length (e ∷ es))
  behind =
      let a : drop place (encode v s es) ≡ rest = drop_at front rest place front_length in
      let n : 512 - 8 * length es - 8 ≡ 512 - 8 * length (e ∷ es) = omega arith in
      rw (length-slot e) (sym (drop-drop 8 place (encode v s es)) ∙ ap (drop 8) a ∙ drop-zeros 8 (512 - 8 * length es) ∙ ap zeros n)

  -- writing the slot after the last one, and byte 24, gives the stored form with one more event
  slot-encode : with_slot (encode v s es) e ≡ encode v s (e ∷ es)
  unfolding put
  slot-encode = rw (before, behind, add-one (length es))

  -- and byte 3, for the first strike on version 1, its version
  pub append-encode : v < 65536 → append (encode v s es) e ≡ encode (raised e v) s (e ∷ es)
  unfolding append
  append-encode small = rw (from-two v small, slot-encode) (by (raises e v) refl)
    where
      by : (b : Bool) → raises e v ≡ b → cond b (put (encode v s (e ∷ es)) 3 (2 ∷ [])) (encode v s (e ∷ es)) ≡ encode (cond b 2 v) s (e ∷ es)
      by true r = version-put s (e ∷ es) v (eqb-true v 1 ((and-eq-true_iff (is_deletion e) (eqb v 1)).0 r).1)
      by false r = refl
