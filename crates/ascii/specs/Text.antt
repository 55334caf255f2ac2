-- Text as bytes, so that a definition can show what is keyed, stored and printed. Every text here is ASCII.
use Rattle.std.specs.Prelude.{List, [], ◌∷◌, ℕ}
use Prim.Native.Char.{Char, code}
use Prim.Native.String.{String, [] as empty, ◌∷◌ as joined}

-- the byte of a character
abbrev pub byte : Char → ℕ
byte c = code c

-- the bytes of a text
abbrev pub text : String → List ℕ
text empty = []
text (joined c s) = code c ∷ text s
