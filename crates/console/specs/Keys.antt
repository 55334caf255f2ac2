-- What a byte of the input, or its end, is said to show.
use Rattle.std.specs.Prelude.{List, [], ℕ, Option, Some, None}

-- the bytes that are printed: a reply with its newline, or nothing
abbrev pub shown : Option (List ℕ) → List ℕ
shown (Some reply) = reply
shown None = []
