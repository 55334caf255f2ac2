-- "Every number is decimal" (document 01, "The year that a book holds"): the digits of a number, and the number that digits spell.
use Rattle.std.specs.Prelude.{Bool, cond, List, [], ◌∷◌, ◌++◌, ℕ, zero, suc, ◌+◌, ◌*◌, ◌-◌, ◌/◌, ◌%◌, ltb}
use Rattle.conditions.specs.Ranges.{within}
use Rattle.ascii.specs.Text.{byte}

-- '0' to '9'
abbrev pub is_digit : ℕ → Bool
is_digit = within (byte "0") (byte "9")

-- how many digits the bytes start with
unfoldable pub digits : List ℕ → ℕ
digits [] = 0
digits (b ∷ bs) = cond (is_digit b) (suc (digits bs)) 0

-- the decimal number that digits spell, continuing from v, the number spelt so far
unfoldable pub spelt : ℕ → List ℕ → ℕ
spelt v [] = v
spelt v (b ∷ bs) = spelt (v * 10 + (b - byte "0")) bs

-- the digits of a number, at most `most` of them, with no leading zero except in 0 itself
unfoldable pub decimal_up_to : ℕ → ℕ → List ℕ
decimal_up_to zero n = []
decimal_up_to (suc most) n = cond (ltb n 10) ((byte "0" + n) ∷ []) (decimal_up_to most (n / 10) ++ ((byte "0" + n % 10) ∷ []))

-- the digits of a number; n has at most n + 1 of them
unfoldable pub decimal : ℕ → List ℕ
decimal n = decimal_up_to (suc n) n
