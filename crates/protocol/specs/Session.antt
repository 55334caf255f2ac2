-- Lines on a journal that starts all zero, compared with the reference model (document 01, "The plain year of a list of calls") fed with the lines' calls.
use Rattle.std.specs.Prelude.{◌≡◌, cond, List, [], ◌∷◌, ℕ, eqb}
use Rattle.buffers.specs.Bytes.{zeros}
use Rattle.year.specs.declared.Setup.{Setup}
use Rattle.year.specs.declared.Event.{Event}
use Rattle.year.specs.Model.{Model, NoSetup, Year}
use Rattle.journal.specs.Encode.{version, encode}
use Rattle.reference.specs.Call.{Query, ReadStatus, Write, Preview, Call, SetUp, Enter, Ask, previewed}
use Rattle.reference.specs.Refusals.{refusal}
use Rattle.reference.specs.Answers.{status_of, out_bytes}
use Rattle.reference.specs.Model.{step_model, model_of, journal_of}
use Rattle.reference.specs.Stored.{Holds}
use Rattle.protocol.specs.KeyLine.{Command, Make, Refuse, command_of}
use Rattle.protocol.specs.Reply.{refusal_reply, out_reply, status_reply}
use Rattle.protocol.specs.Run.{replies, journal_after_lines}

-- the call that a line makes, in front of earlier ones; a line refused by 1 or 2 makes none
abbrev pub and_call : Command → List Call → List Call
and_call (Make call) calls = call ∷ calls
and_call (Refuse number) calls = calls

-- the calls that lines make, after some earlier calls; the newest call comes first
abbrev pub calls_after : List Call → List (List ℕ) → List Call
calls_after calls [] = calls
calls_after calls (line ∷ lines) = calls_after (and_call (command_of line) calls) lines

-- the model's reply to an accepted call that leaves it in this state, or to a preview whose entry would: its marks to a marks call, its status to any other
abbrev pub accepted_query : Query → Model → List ℕ
accepted_query ReadStatus model = status_reply (status_of model)
accepted_query (Preview number readings) model = status_reply (status_of model)
accepted_query (Write form size) model = out_reply form (out_bytes form model)

abbrev pub accepted_reply : Call → Model → List ℕ
accepted_reply (SetUp s) model = status_reply (status_of model)
accepted_reply (Enter entry) model = status_reply (status_of model)
accepted_reply (Ask query) model = accepted_query query model

-- "A call is refused if a refusal above applies to its arguments and this state, read in the book's place."
abbrev pub model_reply : Command → Model → List ℕ
model_reply (Make call) model =
    cond (eqb (refusal 544 call model) 0) (accepted_reply call (step_model (previewed call) model)) (refusal_reply (refusal 544 call model))
model_reply (Refuse number) model = refusal_reply number

-- the model's replies to lines, after the calls of earlier lines, listed with the newest first
abbrev pub model_replies : List Call → List (List ℕ) → List (List ℕ)
model_replies calls [] = []
model_replies calls (line ∷ lines) = model_reply (command_of line) (model_of calls) ∷ model_replies (and_call (command_of line) calls) lines

module _ (lines : List (List ℕ)) where
  abbrev calls : List Call
  calls = calls_after [] lines

  -- lines on a journal of 544 zeros
  pub record Session : Type 0 where
    -- the replies are those of the model
    pub replied : replies (zeros 544) lines ≡ model_replies [] lines
    -- the journal is the one that the lines' calls leave, and it is read as the model
    pub same_calls : journal_after_lines (zeros 544) lines ≡ journal_of calls
    pub reads_back : Holds (journal_after_lines (zeros 544) lines) (model_of calls)
    -- so every byte of it is the model's: zeros as long as no setup was accepted, and then its stored form, in version 2 if there is a strike and else in 1
    pub untouched : model_of calls ≡ NoSetup → journal_after_lines (zeros 544) lines ≡ zeros 544
    pub stored : (s : Setup) (es : List Event) → model_of calls ≡ Year s es → journal_after_lines (zeros 544) lines ≡ encode (version es) s es
