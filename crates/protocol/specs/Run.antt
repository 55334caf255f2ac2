-- Document 01, "Key line": "The calculator program reads standard input and starts from a zeroed book." What it writes for an input.
use Rattle.std.specs.Prelude.{cond, List, [], ◌∷◌, ◌++◌, ℕ, eqb}
use Rattle.buffers.specs.Bytes.{zeros}
use Rattle.ascii.specs.Text.{byte}
use Rattle.protocol.specs.Reply.{reply_to, journal_after_line}

-- a byte in front of the first line
abbrev pub before_first : ℕ → List (List ℕ) → List (List ℕ)
before_first b [] = (b ∷ []) ∷ []
before_first b (line ∷ lines) = (b ∷ line) ∷ lines

-- the lines of an input: "then a newline, absent only at the end of the input"
abbrev pub lines_of : List ℕ → List (List ℕ)
lines_of [] = []
lines_of (b ∷ bs) = cond (eqb b (byte "\n")) ([] ∷ lines_of bs) (before_first b (lines_of bs))

-- the replies to lines, each on the journal that the last one left
abbrev pub replies : List ℕ → List (List ℕ) → List (List ℕ)
replies journal [] = []
replies journal (line ∷ lines) = reply_to line journal ∷ replies (journal_after_line line journal) lines

-- the journal after lines, each on what the last one left
abbrev pub journal_after_lines : List ℕ → List (List ℕ) → List ℕ
journal_after_lines journal [] = journal
journal_after_lines journal (line ∷ lines) = journal_after_lines (journal_after_line line journal) lines

-- each reply on a line of its own
abbrev pub printed : List (List ℕ) → List ℕ
printed [] = []
printed (reply ∷ rest) = reply ++ (byte "\n" ∷ printed rest)

abbrev pub run : List ℕ → List ℕ
run input = printed (replies (zeros 544) (lines_of input))
