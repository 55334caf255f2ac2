-- A line with its next byte, where 65 bytes are held and where fewer are.
use mathlib.Core.Path.{◌≡◌, sym}
use mathlib.Core.List.{List, [], ◌∷◌, ◌++◌}
use Prim.Native.Nat.{ℕ, ◌<◌}
use native.Mathlib.Omega.{arith}
use lib.ListN.{length, length-append}
use lib.Seq.{take_all, take_at}
use Rattle.protocol.specs.Console.{held}

module _ (line : List ℕ) (b : ℕ) where
  pub held_full : length line ≡ 65 → line ≡ held line b
  held_full h = sym (take_at line (b ∷ []) 65 h)

  pub held_room : length line < 65 → line ++ (b ∷ []) ≡ held line b
  held_room h = sym (take_all 65 (line ++ (b ∷ [])) (omega (arith, length-append line (b ∷ []))))
