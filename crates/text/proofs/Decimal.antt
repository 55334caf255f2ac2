-- A number with a space in front of it, as it is put: its decimal digits.
use mathlib.Core.Path.{◌≡◌}
use mathlib.Core.List.{List, [], ◌∷◌, ◌++◌, append_assoc}
use Prim.Native.Nat.{ℕ, ◌^◌, ◌<◌}
use Rattle.std.specs.Fmt as fmt
use Rattle.ascii.specs.Text.{byte}
use Rattle.ascii.specs.Decimal.{decimal}
use Rattle.ascii.proofs.Decimal.{same_decimal}
use Rattle.protocol.specs.Reply.{spaced}

pub spaced_decimal : (before : List ℕ) (n : ℕ) → n < 2 ^ 64 → (before ++ (byte " " ∷ [])) ++ fmt.decimal n ≡ before ++ spaced (decimal n)
spaced_decimal before n h = rw (append_assoc, same_decimal n h)
