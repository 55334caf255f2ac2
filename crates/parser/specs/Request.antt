-- The key line's command that each request represents (document 01, "Key line").
use Rattle.std.specs.Prelude.{Result, Ok, Err}
use Rattle.reference.specs.Call as calls
use Rattle.reference.specs.Refused.{number_of}
use Rattle.reference.specs.declared.EngineEntry.{EngineEntry}
use Rattle.reference.specs.declared.Refusal.{Refusal}
use Rattle.protocol.specs.KeyLine as lines
use Rattle.parser.specs.declared.CallRequest.{CallRequest}
use Rattle.parser.specs.declared.CallRequest.TheVariants.{SetUp, Engine, Preview, Change, WriteMarks}

-- an engine that a line gives, for its entry or its preview
abbrev pub engine_in : Result EngineEntry Refusal → Result calls.Entry Refusal
engine_in (Ok engine) = Ok (calls.entry_of engine)
engine_in (Err refusal) = Err refusal

-- the call of a request, and the command
abbrev pub call_for : CallRequest → calls.Call
call_for (SetUp s) = calls.SetUp s
call_for (Engine engine) = calls.Enter (calls.entry_of engine)
call_for (Preview engine) = calls.Ask (calls.preview_of engine)
call_for (Change change) = calls.Enter (calls.EnterChange change)
call_for WriteMarks = calls.Ask (calls.Write calls.Marks 80)

abbrev pub command_for : Result CallRequest Refusal → lines.Command
command_for (Ok call) = lines.Make (call_for call)
command_for (Err refusal) = lines.Refuse (number_of refusal)
