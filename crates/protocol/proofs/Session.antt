-- Lines on a zeroed journal behave as the reference model does.
use mathlib.Core.Path.{◌≡◌, refl, ap, ◌∙◌}
use mathlib.Core.Bool.{Bool, true, false, cond}
use mathlib.Core.List.{List, [], ◌∷◌}
use Prim.Native.Nat.{ℕ}
use lib.Dec.{eqb}
use borrow.Author.Tests.{eqb-false}
use Rattle.year.specs.Model.{Model}
use Rattle.journal.specs.Encode.{encode, version_in}
use Rattle.journal.proofs.OneJournal.{demand}
use Rattle.std.specs.Prelude.{Ok, Err}
use Rattle.reference.specs.Refused.{named}
use Rattle.reference.specs.Call.{ReadStatus, Write, Preview, Call, SetUp, Enter, Ask, previewed}
use Rattle.reference.specs.Refusals.{refusal}
use Rattle.reference.specs.Answers.{status_of, answer}
use Rattle.reference.specs.Model.{step_model, model_of, journal_of}
use Rattle.reference.specs.Stored.{Holds}
use Rattle.reference.proofs.Refused.{named-number}
use Rattle.reference.proofs.Stored.{stored-calls}
use Rattle.reference.proofs.Untouched.{untouched}
use Rattle.reference.proofs.Preview.{query-leaves}
use Rattle.protocol.specs.KeyLine.{Command, Make, Refuse, command_of}
use Rattle.protocol.specs.Reply.{refusal_reply, answer_reply, call_reply, command_reply, command_after, reply_to, journal_after_line}
use Rattle.protocol.specs.Run.{replies, journal_after_lines}
use Rattle.protocol.specs.Session.{and_call, calls_after, model_reply, model_replies, Session}

-- one call on a journal that holds the model's state
module _ (calls : List Call) where
  abbrev journal : List ℕ
  journal = journal_of calls

  abbrev model : Model
  model = model_of calls

  holds : Holds journal model
  holds = stored-calls.every calls

  status-reply : (call : Call) → answer_reply (answer call journal)
      ≡ cond (eqb (refusal 544 call model) 0) (answer_reply (Ok (status_of (step_model (previewed call) model)))) (refusal_reply (refusal 544 call model))
  unfolding answer
  status-reply call = rw (holds.size, holds.reads, (stored-calls.every (previewed call ∷ calls)).reads) (by (eqb (refusal 544 call model) 0) refl)
    where
      by : (b : Bool) → eqb (refusal 544 call model) 0 ≡ b → answer_reply (cond b (Ok (status_of (step_model (previewed call) model))) (Err (named (refusal 544 call model))))
          ≡ cond b (answer_reply (Ok (status_of (step_model (previewed call) model)))) (refusal_reply (refusal 544 call model))
      by true e = refl
      by false e = ap refusal_reply (named-number 544 call model (eqb-false (refusal 544 call model) 0 e))

  call-reply : (call : Call) → call_reply call journal ≡ model_reply (Make call) model
  call-reply (SetUp s) = status-reply (SetUp s)
  call-reply (Enter entry) = status-reply (Enter entry)
  call-reply (Ask ReadStatus) = status-reply (Ask ReadStatus)
  call-reply (Ask (Preview number readings)) = status-reply (Ask (Preview number readings))
  call-reply (Ask (Write form size)) = rw (holds.size, holds.reads, query-leaves (Write form size) model)

  command-reply : (command : Command) → command_reply command journal ≡ model_reply command model
  command-reply (Make call) = call-reply call
  command-reply (Refuse number) = refl

  command-after : (command : Command) → command_after command journal ≡ journal_of (and_call command calls)
  command-after (Make call) = refl
  command-after (Refuse number) = refl

-- lines after the calls of earlier lines
from-replies : (calls : List Call) (lines : List (List ℕ)) → replies (journal_of calls) lines ≡ model_replies calls lines
unfolding reply_to journal_after_line
from-replies calls [] = refl
from-replies calls (line ∷ lines) =
    rw (command-reply calls (command_of line), command-after calls (command_of line), from-replies (and_call (command_of line) calls) lines)

from-journal : (calls : List Call) (lines : List (List ℕ)) → journal_after_lines (journal_of calls) lines ≡ journal_of (calls_after calls lines)
unfolding journal_after_line
from-journal calls [] = refl
from-journal calls (line ∷ lines) = rw (command-after calls (command_of line)) (from-journal (and_call (command_of line) calls) lines)

pub session : (lines : List (List ℕ)) → Session lines
session lines =
    let calls = calls_after [] lines in
    let same = from-journal [] lines in
    let held = stored-calls.every calls in
    record {
      replied = from-replies [] lines;
      same_calls = same;
      reads_back = rw same held;
      untouched = λ e. same ∙ untouched calls e;
      stored = λ s es e.
          let j = demand.accepted (journal_of calls) s es (held.reads ∙ e) in
          same ∙ j.stored ∙ ap (λ v. encode v s es) ((demand.version (version_in (journal_of calls)) s es).0 j.holds);
    }
