-- Document 01, "Key line": the reply to a line, and the journal after it.
use Rattle.std.specs.Prelude.{List, [], ◌∷◌, ◌++◌, ℕ, Option, Some, None, Result, Ok, Err}
use Rattle.ascii.specs.Text.{byte, text}
use Rattle.ascii.specs.Decimal.{decimal}
use Rattle.cumsum.specs.Marks.{mark_byte}
use Rattle.year.specs.declared.Status.{Status}
use Rattle.journal.specs.Read.{read_journal}
use Rattle.reference.specs.declared.Refusal.{Refusal}
use Rattle.reference.specs.Refused.{number_of}
use Rattle.reference.specs.Call.{Form, Marks, Report, Query, ReadStatus, Write, Preview, Call, SetUp, Enter, Ask}
use Rattle.reference.specs.Answers.{refusal_on, if_accepted, answer, journal_after, out_bytes}
use Rattle.protocol.specs.KeyLine.{Command, Make, Refuse, command_of}

-- bytes with a space in front of them
abbrev pub spaced : List ℕ → List ℕ
spaced bytes = byte " " ∷ bytes

-- ""NO" and the number for a refusal"
abbrev pub refusal_reply : ℕ → List ℕ
refusal_reply number = text "NO" ++ spaced (decimal number)

-- ""OK" and the strip after L ("OK" alone with no engine)"
abbrev pub marks_reply : List ℕ → List ℕ
marks_reply [] = text "OK"
marks_reply (b ∷ bs) = text "OK" ++ spaced (b ∷ bs)

-- No key asks for the wall page (`NoKey`), so its reply is never given
abbrev pub out_reply : Form → List ℕ → List ℕ
out_reply Marks bytes = marks_reply bytes
out_reply Report bytes = text "OK"

-- "N in tenths for each pollutant ('-' for none)"
abbrev pub size_text : Option ℕ → List ℕ
size_text (Some tenths) = decimal tenths
size_text None = text "-"

-- ""OK", n, verdict, the two last marks joined, N in tenths for each pollutant .., with single spaces"
abbrev pub status_reply : Status → List ℕ
status_reply s =
    text "OK" ++ spaced (decimal s.n) ++ spaced (decimal s.verdict) ++ spaced (mark_byte s.figures.hcnox.mark ∷ mark_byte s.figures.co.mark ∷ [])
    ++ spaced (size_text s.figures.hcnox.size) ++ spaced (size_text s.figures.co.size)

abbrev pub answer_reply : Result Status Refusal → List ℕ
answer_reply (Ok s) = status_reply s
answer_reply (Err refusal) = refusal_reply (number_of refusal)

-- the reply to what a call or a line gives: the reply itself, or that of the refusal
abbrev pub replied : Result (List ℕ) Refusal → List ℕ
replied (Ok reply) = reply
replied (Err refusal) = refusal_reply (number_of refusal)

-- the reply to a call on a journal: the marks for a marks call, the status for any other
abbrev pub query_reply : Query → List ℕ → List ℕ
query_reply ReadStatus journal = answer_reply (answer (Ask ReadStatus) journal)
query_reply (Preview number readings) journal = answer_reply (answer (Ask (Preview number readings)) journal)
query_reply (Write form size) journal =
    if_accepted (Ask (Write form size)) journal (out_reply form (out_bytes form (read_journal journal))) (refusal_reply (refusal_on (Ask (Write form size)) journal))

abbrev pub call_reply : Call → List ℕ → List ℕ
call_reply (SetUp s) journal = answer_reply (answer (SetUp s) journal)
call_reply (Enter entry) journal = answer_reply (answer (Enter entry) journal)
call_reply (Ask query) journal = query_reply query journal

abbrev pub command_reply : Command → List ℕ → List ℕ
command_reply (Make call) journal = call_reply call journal
command_reply (Refuse number) journal = refusal_reply number

abbrev pub command_after : Command → List ℕ → List ℕ
command_after (Make call) journal = journal_after call journal
command_after (Refuse number) journal = journal

-- the reply to a line on a journal, and the journal after the line
unfoldable pub reply_to : List ℕ → List ℕ → List ℕ
reply_to line journal = command_reply (command_of line) journal

unfoldable pub journal_after_line : List ℕ → List ℕ → List ℕ
journal_after_line line journal = command_after (command_of line) journal
