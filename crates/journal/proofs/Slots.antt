-- The slots of a journal: slot j is the eight bytes at its place.
use mathlib.Core.Path.{◌≡◌, refl, ap, ◌∙◌}
use mathlib.Core.List.{List, [], ◌∷◌, ◌++◌}
use Prim.Native.Nat.{ℕ, zero, suc, ◌+◌, ◌*◌, ◌/◌, ◌<◌}
use native.Mathlib.Omega.{arith}
use lib.ListN.{length, get_or, take, drop, length-drop}
use lib.Seq.{drop-drop, take-suc, take_all}
use Rattle.std.specs.Simd.{first_chunks}
use Rattle.journal.specs.Encode.{slot_place}
use Rattle.journal.specs.Read.{slots_in}

chunk_at : (k j : ℕ) (xs d : List ℕ) → j < k → get_or (first_chunks 8 k xs) j d ≡ take 8 (drop (8 * j) xs)
chunk_at zero j xs d h = absurd (omega arith)
chunk_at (suc k) zero xs d h = refl
chunk_at (suc k) (suc j) xs d h =
    let more : 8 + 8 * j ≡ 8 * suc j = omega arith in
    chunk_at k j (drop 8 xs) d (omega arith) ∙ ap (take 8) (drop-drop (8 * j) 8 xs ∙ ap (λ n. drop n xs) more)

length-chunks : (k : ℕ) (xs : List ℕ) → length (first_chunks 8 k xs) ≡ k
length-chunks zero xs = refl
length-chunks (suc k) xs = ap suc (length-chunks k (drop 8 xs))

module _ (journal : List ℕ) where
  pub length-slots_in : length (slots_in journal) ≡ 64
  unfolding slots_in
  length-slots_in = length-chunks 64 (drop 32 journal)

  pub slot_at : (j : ℕ) (d : List ℕ) → j < 64 → get_or (slots_in journal) j d ≡ take 8 (drop (slot_place j) journal)
  unfolding slots_in
  slot_at j d h = chunk_at 64 j (drop 32 journal) d h ∙ ap (take 8) (drop-drop (8 * j) 32 journal)

  -- the first slots, and one more
  pub one_more_slot : (j : ℕ) → j < 64 → take (suc j) (slots_in journal) ≡ take j (slots_in journal) ++ (take 8 (drop (slot_place j) journal) ∷ [])
  one_more_slot j h = take-suc (slots_in journal) j [] (omega (arith, length-slots_in)) ∙ rw (slot_at j [] h)

  -- the part after the header, cut into slots
  pub part_slots : length journal ≡ 544 → first_chunks 8 (length (take 512 (drop 32 journal)) / 8) (take 512 (drop 32 journal)) ≡ slots_in journal
  unfolding slots_in
  part_slots h =
      let size : length (drop 32 journal) ≡ 512 = omega (arith, length-drop 32 journal) in
      rw (take_all 512 (drop 32 journal) (omega arith), size)
