-- A lent buffer as the array of a journal's size, or refusal 3.
use mathlib.Core.Path.{◌≡◌, subst}
use mathlib.Core.Logic.{◌≢◌}
use mathlib.Core.List.{List}
use Prim.Native.Nat.{ℕ}
use native.Mathlib.Omega.{arith}
use lib.ListN.{length}
use Rattle.std.specs.Prelude.{Option, Some, None, MatchOption, Result, Ok, Err}
use Rattle.std.specs.Array.{IsWholeChunk}
use Rattle.std.specs.Borrow.{Bor, MutBor}
use Rattle.std.specs.Option.{ok_or}
use Rattle.year.specs.declared.Status.{Status}
use Rattle.reference.specs.Call.{Call}
use Rattle.reference.proofs.Promises.{Promised}
use Rattle.reference.specs.declared.Refusal.{Refusal}
use Rattle.reference.specs.declared.Refusal.TheVariants.{JournalSize}

-- the bytes of an array that is lent to be written, and of one that is lent to be read
abbrev pub lent : MutBor (List ℕ) → List ℕ
lent y = y.now

abbrev pub shared : Bor (List ℕ) → List ℕ
shared y = y.now

module _ {Lent : Type 0} (now : Lent → List ℕ) (journal : List ℕ) where
  abbrev Cases : Option Lent → Type 0
  Cases o = MatchOption o (length journal ≢ 544) (λ y. IsWholeChunk journal (now y) 544)

  pub sized : (o : Option Lent) → Cases o → (y : Lent) → Ok y ≡ ok_or o JournalSize → (now y ≡ journal) × (length (now y) ≡ 544)
  sized None h y e = absurd (grind arith)
  sized (Some x) h y e = grind arith

  pub unsized : (o : Option Lent) → Cases o → (r : Refusal) → Err r ≡ ok_or o JournalSize → (r ≡ JournalSize) × (length journal ≢ 544)
  unsized None h r e = (grind arith, h)
  unsized (Some x) h r e = absurd (grind arith)

-- what a call promises on the array, it promises on the buffer
pub kept : (journal : List ℕ) (call : Call) {r : Result Status Refusal} {y left : List ℕ} → y ≡ journal → Promised call y r left → Promised call journal r left
kept journal call {r = r} {left = left} e p = subst (λ x. Promised call x r left) e p
