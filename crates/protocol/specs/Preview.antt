-- Document 02, W-202, on lines: "The key E still does both; key T, with E's numbers, only asks. A year's book must come out the same however many times T was pressed."
-- A line of key T makes a preview, if its numbers are of the form.
use Rattle.std.specs.Prelude.{◌≡◌, Bool, cond, List, [], ◌∷◌, ℕ, eqb, get_or}
use Rattle.ascii.specs.Text.{byte}
use Rattle.protocol.specs.Reply.{reply_to, journal_after_line}
use Rattle.protocol.specs.Run.{replies, journal_after_lines}

-- a line of key T, whether its numbers can be read or not
abbrev pub is_preview_line : List ℕ → Bool
is_preview_line line = eqb (get_or line 0 0) (byte "T")

-- lines with all lines of key T taken out
abbrev pub without_preview_lines : List (List ℕ) → List (List ℕ)
without_preview_lines [] = []
without_preview_lines (line ∷ lines) = cond (is_preview_line line) (without_preview_lines lines) (line ∷ without_preview_lines lines)

-- the replies to the lines of other keys, each on the journal that the lines before it left
abbrev pub other_replies : List ℕ → List (List ℕ) → List (List ℕ)
other_replies journal [] = []
other_replies journal (line ∷ lines) =
    cond (is_preview_line line) (other_replies (journal_after_line line journal) lines) (reply_to line journal ∷ other_replies (journal_after_line line journal) lines)

pub record PreviewLinePromises : Type 0 where
  -- a T line is replied to as the E line that has the same bytes after its letter, whatever these are, on a journal of any length and content
  pub replied_as : (rest journal : List ℕ) → reply_to (byte "T" ∷ rest) journal ≡ reply_to (byte "E" ∷ rest) journal
  -- and leaves the journal
  pub kept : (rest journal : List ℕ) → journal_after_line (byte "T" ∷ rest) journal ≡ journal
  -- so a list of lines leaves the journal that it would leave without its T lines, and every other line gets the reply that it would get without them
  pub left : (journal : List ℕ) (lines : List (List ℕ)) → journal_after_lines journal lines ≡ journal_after_lines journal (without_preview_lines lines)
  pub others : (journal : List ℕ) (lines : List (List ℕ)) → other_replies journal lines ≡ replies journal (without_preview_lines lines)
