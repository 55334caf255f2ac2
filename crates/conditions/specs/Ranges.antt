-- Ranges and distances of whole numbers.
use Rattle.std.specs.Prelude.{Bool, ◌&&◌, ℕ, ◌+◌, ◌-◌, leb}

-- x lies between low and high, both included
abbrev pub within : ℕ → ℕ → ℕ → Bool
within low high x = leb low x && leb x high

-- how far apart two numbers are. (`-` stops at 0, so one of the two differences is 0.)
abbrev pub distance : ℕ → ℕ → ℕ
distance a b = (a - b) + (b - a)
