-- Document 01, "Periods".
use Rattle.std.specs.Prelude.{cond, ℕ, leb, ltb, eqb}

-- "P below 1,600 gives one period. Otherwise D up to 120 gives one, 121 to 210 two, 211 to 300 three, 301 and more four."
unfoldable pub periods : ℕ → ℕ → ℕ
periods p d = cond (ltb p 1600) 1 (cond (leb d 120) 1 (cond (leb d 210) 2 (cond (leb d 300) 3 4)))

-- "The first period needs two engines, a later one needs one." Periods count from 1
unfoldable pub needs : ℕ → ℕ
needs period = cond (eqb period 1) 2 1
