-- The numbers of a line as the test programs read them.
use Rattle.std.specs.Prelude.{cond, List, [], ◌∷◌, ℕ, ◌+◌, ◌*◌, ◌%◌, ◌^◌, eqb, get_or, set}

-- a number with one more digit, modulo 2^32; any byte is a digit, by its last four bits
abbrev pub with_digit : ℕ → ℕ → ℕ
with_digit number byte = (number * 10 + byte % 16) % 2 ^ 32

-- numbers after more bytes, the first of which belongs to the number at a place; a space goes on to the next place
unfoldable pub read_on : List ℕ → ℕ → List ℕ → List ℕ
read_on [] place numbers = numbers
read_on (b ∷ bs) place numbers = cond (eqb b 32) (read_on bs (place + 1) numbers) (read_on bs place (set numbers place (with_digit (get_or numbers place 0) b)))
