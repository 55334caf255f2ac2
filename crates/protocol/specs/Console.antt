-- Document 01, "Key line": the program's output as its input arrives, byte by byte, with at most 65 bytes of a line held.
use Rattle.std.specs.Prelude.{◌≡◌, cond, List, [], ◌∷◌, ◌++◌, ℕ, eqb, take}
use Rattle.buffers.specs.Bytes.{zeros}
use Rattle.ascii.specs.Text.{byte}
use Rattle.protocol.specs.Reply.{reply_to, journal_after_line}
use Rattle.protocol.specs.Run.{lines_of, journal_after_lines, run}

-- a line with its next byte. "1. The key line is longer than 64 bytes; it is dropped up to its newline": the 65th byte shows it, and no later one is held
abbrev pub held : List ℕ → ℕ → List ℕ
held line b = take 65 (line ++ (b ∷ []))

-- a byte of the input, after the bytes held of its line: what is printed, what is held afterwards, and the journal. A line is answered when its newline arrives
abbrev pub shown_at : ℕ → List ℕ → List ℕ → List ℕ
shown_at b line journal = cond (eqb b (byte "\n")) (reply_to line journal ++ (byte "\n" ∷ [])) []

abbrev pub held_at : ℕ → List ℕ → List ℕ
held_at b line = cond (eqb b (byte "\n")) [] (held line b)

abbrev pub journal_at : ℕ → List ℕ → List ℕ → List ℕ
journal_at b line journal = cond (eqb b (byte "\n")) (journal_after_line line journal) journal

-- the end of the input: "a newline, absent only at the end of the input"
abbrev pub shown_at_end : List ℕ → List ℕ → List ℕ
shown_at_end [] journal = []
shown_at_end (b ∷ bs) journal = reply_to (b ∷ bs) journal ++ (byte "\n" ∷ [])

abbrev pub journal_at_end : List ℕ → List ℕ → List ℕ
journal_at_end [] journal = journal
journal_at_end (b ∷ bs) journal = journal_after_line (b ∷ bs) journal

-- all that is printed for the rest of an input
abbrev pub output : List ℕ → List ℕ → List ℕ → List ℕ
output journal line [] = shown_at_end line journal
output journal line (b ∷ bs) = shown_at b line journal ++ output (journal_at b line journal) (held_at b line) bs

-- the line held after some bytes of the input, and the journal after them
abbrev pub held_after : List ℕ → List ℕ → List ℕ
held_after [] line = line
held_after (b ∷ bs) line = held_after bs (held_at b line)

abbrev pub journal_past : List ℕ → List ℕ → List ℕ → List ℕ
journal_past [] line journal = journal
journal_past (b ∷ bs) line journal = journal_past bs (held_at b line) (journal_at b line journal)

-- for every input, this output is the whole run, and the journal is the one after its lines
pub record Console : Type 0 where
  pub whole : (input : List ℕ) → output (zeros 544) [] input ≡ run input
  pub stored : (input : List ℕ) → journal_at_end (held_after input []) (journal_past input [] (zeros 544)) ≡ journal_after_lines (zeros 544) (lines_of input)
