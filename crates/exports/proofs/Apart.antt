-- Every reply has at least two bytes, and no refusal is above the largest of the table; so 0 and 255 mean that a slice is too short, and nothing else.
use mathlib.Core.Path.{◌≡◌}
use mathlib.Core.List.{List, [], ◌∷◌}
use Prim.Native.Nat.{ℕ, ◌≤◌, ◌<◌}
use native.Mathlib.Decide.{dec_lt}
use native.Mathlib.Omega.{arith}
use lib.Dec.{eqb}
use lib.ListN.{length}
use borrow.Author.Tests.{le-ltb}
use Rattle.conditions.proofs.Tests.{by-test}
use Rattle.journal.specs.Read.{read_journal}
use Rattle.std.specs.Prelude.{Result, Ok, Err}
use Rattle.year.specs.declared.Status.{Status}
use Rattle.reference.specs.declared.Refusal.{Refusal}
use Rattle.reference.specs.Call.{Form, Marks, Report, Query, ReadStatus, Write, Preview, Call, SetUp, Enter, Ask}
use Rattle.reference.specs.Refusals.{refusal}
use Rattle.reference.specs.Answers.{refusal_on, answer, out_bytes, outcome}
use Rattle.reference.proofs.Refused.{refusal-up-to}
use Rattle.protocol.specs.KeyLine.{Command, Make, Refuse, command_of}
use Rattle.protocol.specs.Reply.{marks_reply, out_reply, answer_reply, query_reply, call_reply, command_reply, reply_to}
use Rattle.exports.specs.Exports.{if_short, reply_count, refusal_given, ShortApart}

-- ---- a reply

marks-long : (bytes : List ℕ) → 2 ≤ length (marks_reply bytes)
marks-long [] = omega arith
marks-long (b ∷ bs) = omega arith

answer-long : (a : Result Status Refusal) → 2 ≤ length (answer_reply a)
answer-long (Ok s) = omega arith
answer-long (Err refusal) = omega arith

out-long : (form : Form) (bytes : List ℕ) → 2 ≤ length (out_reply form bytes)
out-long Marks bytes = marks-long bytes
out-long Report bytes = omega arith

query-long : (query : Query) (journal : List ℕ) → 2 ≤ length (query_reply query journal)
query-long ReadStatus journal = answer-long (answer (Ask ReadStatus) journal)
query-long (Preview number readings) journal = answer-long (answer (Ask (Preview number readings)) journal)
query-long (Write form size) journal =
    by-test (λ (bytes : List ℕ). 2 ≤ length bytes) (eqb (refusal_on (Ask (Write form size)) journal) 0) _ _
    (λ _. out-long form (out_bytes form (read_journal journal))) (λ _. omega arith)

call_long : (call : Call) (journal : List ℕ) → 2 ≤ length (call_reply call journal)
call_long (SetUp s) journal = answer-long (answer (SetUp s) journal)
call_long (Enter entry) journal = answer-long (answer (Enter entry) journal)
call_long (Ask query) journal = query-long query journal

command-long : (command : Command) (journal : List ℕ) → 2 ≤ length (command_reply command journal)
command-long (Make call) journal = call_long call journal
command-long (Refuse number) journal = omega arith

reply-long : (line journal : List ℕ) → 2 ≤ length (reply_to line journal)
unfolding reply_to
reply-long line journal = command-long (command_of line) journal

-- ---- both

-- an answer that no slice with room gets shows that the slice is too short
apart : (size : ℕ) (lent : List ℕ) (short long : ℕ) → (long ≡ short → ⊥) → if_short size lent short long ≡ short → length lent < size
apart size lent short long f e = by (dec_lt (length lent) size)
  where
    by : Dec (length lent < size) → length lent < size
    by (yes l) = l
    by (no g) = absurd (f (rw (le-ltb (length lent) size (omega arith)) at e))

reply-apart : (line journal out : List ℕ) → reply_count line journal out ≡ 0 → length out < 96
unfolding reply_count
reply-apart line journal out = apart 96 out 0 (length (reply_to line journal)) (λ e. omega (arith, reply-long line journal))

refusal-below : (call : Call) (journal : List ℕ) → (outcome call journal).refusal ≤ 18
unfolding outcome
refusal-below call journal = refusal-up-to (length journal) call (read_journal journal)

figures-apart : (call : Call) (journal figures : List ℕ) → refusal_given call journal figures ≡ 255 → length figures < 20
unfolding refusal_given
figures-apart call journal figures = apart 20 figures 255 (outcome call journal).refusal (λ e. omega (arith, refusal-below call journal))

pub short-apart : ShortApart
short-apart = record { reply = reply-apart; figures = figures-apart }
