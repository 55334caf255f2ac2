-- The header of a journal, its first 32 bytes: the code's tests are the definition's, since the version, setup and number of events in it encode to the same
-- bytes.
use mathlib.Core.Path.{◌≡◌}
use mathlib.Core.Bool.{◌&&◌, and-true, and_assoc}
use mathlib.Core.List.{List}
use Prim.Native.Nat.{ℕ, ◌≤◌}
use native.Mathlib.Omega.{arith}
use lib.ListN.{length, take, drop}
use Rattle.conditions.proofs.Tests.{eqb_refl}
use Rattle.buffers.specs.Bytes.{same, is_zero}
use Rattle.buffers.proofs.Lists.{part-elements}
use Rattle.buffers.proofs.LittleEndian.{Bytes, low, high, low32, high32, upper32}
use Rattle.ascii.specs.Text.{text}
use Rattle.journal.specs.Acceptance.{is_header}

module _ (journal : List ℕ) (long : 32 ≤ length journal) where
  -- the code's tests of the whole header are the definition
  pub header_tests : Bytes journal → (same (text "PLT") (take 3 journal) && is_zero (take 3 (drop 5 journal)) && is_zero (take 7 (drop 25 journal))) ≡ is_header journal
  unfolding is_header
  header_tests bytes =
      rw (
        part-elements journal 0 32 long,
        part-elements journal 0 3 (omega arith),
        part-elements journal 5 3 (omega arith),
        part-elements journal 25 7 (omega arith),
      )
      (simp (low journal bytes, high journal bytes, low32 journal bytes, high32 journal bytes, upper32 journal bytes, eqb_refl, and-true, and_assoc))
