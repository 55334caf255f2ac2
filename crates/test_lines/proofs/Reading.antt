-- Bytes of a line are read one after another.
use mathlib.Core.Path.{◌≡◌, refl, ◌∙◌}
use mathlib.Core.List.{List}
use Prim.Native.Nat.{ℕ, ◌+◌, ◌<◌, ◌≤◌}
use lib.ListN.{length, drop, get_or, set}
use Rattle.std.proofs.lemmas.List.{drop_more, drop_all, set_past}
use Rattle.std.proofs.lemmas.Bool.{ne_eqb}
use Rattle.test_lines.specs.Numbers.{with_digit, read_on}

pub nothing_left : (bytes : List ℕ) (i place : ℕ) (numbers : List ℕ) → length bytes ≤ i → read_on (drop i bytes) place numbers ≡ numbers
unfolding read_on
nothing_left bytes i place numbers past = rw (drop_all i bytes past) refl

module _ (bytes : List ℕ) (i place : ℕ) (numbers : List ℕ) (more : i < length bytes) where
  pub space_read : get_or bytes i 0 ≡ 32 → read_on (drop i bytes) place numbers ≡ read_on (drop (i + 1) bytes) (place + 1) numbers
  unfolding read_on
  space_read e = rw (drop_more bytes i 0 more, e) refl

  pub digit_read : (get_or bytes i 0 ≡ 32 → ⊥)
      → read_on (drop i bytes) place numbers ≡ read_on (drop (i + 1) bytes) place (set numbers place (with_digit (get_or numbers place 0) (get_or bytes i 0)))
  unfolding read_on
  digit_read e = rw (drop_more bytes i 0 more, ne_eqb (get_or bytes i 0) 32 e) refl

  pub past_read : (get_or bytes i 0 ≡ 32 → ⊥) → length numbers ≤ place → read_on (drop i bytes) place numbers ≡ read_on (drop (i + 1) bytes) place numbers
  past_read e out = digit_read e ∙ rw (set_past numbers place (with_digit (get_or numbers place 0) (get_or bytes i 0)) out) refl
