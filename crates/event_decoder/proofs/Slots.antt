-- The bytes of a slot: of each kind, and as the front of a part of the journal.
use mathlib.Core.Path.{◌≡◌, sym}
use mathlib.Core.Bool.{Bool, true, false, ◌&&◌, and-true}
use mathlib.Core.List.{List}
use Prim.Native.Nat.{ℕ}
use native.Mathlib.Omega.{arith}
use lib.Dec.{eqb}
use lib.ListN.{length, get_or, take}
use lib.Seq.{take-take}
use borrow.Author.Tests.{ne_eqb}
use Rattle.std.proofs.lemmas.List.{get_or-take}
use Rattle.conditions.proofs.Tests.{eqb_refl}
use Rattle.buffers.proofs.Lists.{part-elements}
use Rattle.buffers.proofs.LittleEndian.{Bytes, low, high}
use Rattle.journal.specs.Read.{event_in}
use Rattle.journal.specs.Acceptance.{is_slot}

-- ---- a slot of eight bytes, by its kind

module _ (slot : List ℕ) (bytes : Bytes slot) (size : length slot ≡ 8) where
  abbrev kind : ℕ
  kind = get_or slot 0 0

  abbrev zero_at : ℕ → Bool
  zero_at i = eqb 0 (get_or slot i 0)

  abbrev bare : Bool
  bare = zero_at 1 && (zero_at 2 && (zero_at 3 && (zero_at 4 && (zero_at 5 && (zero_at 6 && zero_at 7)))))

  pub engine : kind ≡ 1 → is_slot slot ≡ true
  unfolding is_slot
  engine e = rw (part-elements slot 0 8 (omega arith), e) (simp (low slot bytes, high slot bytes, eqb_refl))

  -- bytes 1, 6 and 7 of an amendment are not named
  pub amendment : kind ≡ 2 → is_slot slot ≡ (zero_at 1 && (zero_at 6 && zero_at 7))
  unfolding is_slot
  amendment e = rw (part-elements slot 0 8 (omega arith), e) (simp (low slot bytes, high slot bytes, eqb_refl, and-true))

  -- nor are those of kinds 3, 4 and 5
  pub next_period : kind ≡ 3 → is_slot slot ≡ bare
  unfolding is_slot
  next_period e = rw (part-elements slot 0 8 (omega arith), e) (simp and-true)

  pub declaration : kind ≡ 4 → is_slot slot ≡ bare
  unfolding is_slot
  declaration e = rw (part-elements slot 0 8 (omega arith), e) (simp and-true)

  pub deletion : kind ≡ 5 → is_slot slot ≡ bare
  unfolding is_slot
  deletion e = rw (part-elements slot 0 8 (omega arith), e) (simp and-true)

  -- any other kind is read as a declaration, which is kind 4
  pub no_kind : (kind ≡ 1 → ⊥) → (kind ≡ 2 → ⊥) → (kind ≡ 3 → ⊥) → (kind ≡ 4 → ⊥) → (kind ≡ 5 → ⊥) → is_slot slot ≡ false
  unfolding is_slot
  no_kind one two three four five =
      rw (
        part-elements slot 0 8 (omega arith),
        ne_eqb kind 1 one,
        ne_eqb kind 2 two,
        ne_eqb kind 3 three,
        ne_eqb kind 5 five,
        ne_eqb 4 kind (λ e. four (sym e)),
      )

-- ---- a slot, as the front of a part of the journal

module _ (part : List ℕ) where
  pub front_event : event_in (take 8 part) ≡ event_in part
  front_event =
      rw (
        get_or-take 8 part 0 0 (omega arith),
        get_or-take 8 part 1 0 (omega arith),
        get_or-take 8 part 2 0 (omega arith),
        get_or-take 8 part 3 0 (omega arith),
        get_or-take 8 part 4 0 (omega arith),
        get_or-take 8 part 5 0 (omega arith),
        get_or-take 8 part 6 0 (omega arith),
        get_or-take 8 part 7 0 (omega arith),
      )

  pub front_slot : is_slot (take 8 part) ≡ is_slot part
  unfolding is_slot
  front_slot = rw (front_event, take-take 8 8 part (omega arith))
