-- A list is all zeros exactly if its elements, joined bit by bit, are zero.
use Rattle.std.proofs.Common.{◌≡◌, ℕ, ◌&&◌, nat_eq, List, [], ◌∷◌, arith, bit_or}
use mathlib.Core.Bool.{and-true, and_assoc}
use Rattle.std.specs.List.{fold}
use Rattle.std.proofs.lemmas.Nat.{le_or_l, le_or_r}
use Rattle.buffers.specs.Bytes.{is_zero}

-- two numbers joined are zero exactly if both are
or_zero : (a b : ℕ) → nat_eq (bit_or a b) 0 ≡ (nat_eq a 0 && nat_eq 0 b)
or_zero a b = grind (arith, le_or_l, le_or_r)

joined_zero : (a : ℕ) (xs : List ℕ) → nat_eq (fold bit_or a xs) 0 ≡ (nat_eq a 0 && is_zero xs)
joined_zero a [] = rw and-true
joined_zero a (x ∷ xs) = rw (joined_zero (bit_or a x) xs, or_zero a x, and_assoc)

pub joined_is_zero : (xs : List ℕ) → nat_eq (fold bit_or 0 xs) 0 ≡ is_zero xs
joined_is_zero xs = joined_zero 0 xs
