-- What a call that hands back the front part of a lent buffer promises about the bytes of that buffer.
-- The part keeps the buffer borrowed, so the contract has no `.new` of the buffer. Instead it says what the lender finds when the borrow ends: within the part,
-- whatever was written through it, which is left open; behind it, exactly these bytes. No reference to them remains, so nobody writes them in between. The law
-- `front_part/proofs/Lender: lender-finds` derives from this that memory holds them.
use Rattle.std.specs.Prelude.{List, ◌++◌, ℕ, ◌+◌, length}
use base.Fml.{feq, fsep}
use Rattle.std.specs.Borrow.{Lends, MutBor, Fml, Array, u8}

-- when the borrow ends, the lender of `buffer` finds in it as many bytes as `part` has, what was last written through `part`, and then exactly `rest`
abbrev pub LenderFinds : MutBor (List ℕ) → MutBor (List ℕ) → List ℕ → Fml
LenderFinds buffer part rest =
    fsep (feq ℕ (length buffer.now) (length part.now + length rest)) (Lends (Array u8 0) (Array u8 0) buffer part (λ written. written ++ rest))
