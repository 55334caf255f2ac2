-- Each call on the bytes of a journal is a step of the reference model: what the journal is read as after the call is the model's state after it.
use mathlib.Core.Path.{◌≡◌, refl, ap, ◌∙◌}
use mathlib.Core.Bool.{Bool, true, false, cond}
use mathlib.Core.List.{List, [], ◌∷◌}
use Prim.Native.Nat.{ℕ}
use lib.Dec.{eqb}
use lib.ListN.{length}
use borrow.Author.Tests.{eqb-true}
use Rattle.year.specs.Replay.{replay}
use Rattle.year.specs.Model.{Model, NoSetup, Year}
use Rattle.year.proofs.Valid.{valid-next}
use Rattle.journal.specs.Encode.{setup_version, version_in, raised}
use Rattle.journal.specs.Read.{read_journal}
use Rattle.journal.proofs.Cases.{cases}
use Rattle.journal.proofs.OneJournal.{demand}
use Rattle.reference.specs.Call.{Entry, Call, SetUp, Enter, Ask, event_of}
use Rattle.reference.specs.Refusals.{refusal}
use Rattle.reference.specs.Answers.{with_entry, written, journal_after}
use Rattle.reference.specs.Model.{with_event, accepted, step_model, model_of, journal_of}
use Rattle.reference.specs.Stored.{Holds, StoredCalls}
use Rattle.reference.proofs.Validity.{admitted, setup-valid}

module _ (journal : List ℕ) (n : length journal ≡ 544) where
  -- an accepted entry
  entry-holds : (entry : Entry) (model : Model) → read_journal journal ≡ model → refusal 544 (Enter entry) model ≡ 0 → Holds (with_entry entry model journal) (with_event entry model)
  entry-holds entry NoSetup e h = record { size = n; reads = e }
  entry-holds entry (Year s es) e h =
      let event = event_of (replay s es) entry in
      let a = admitted s es entry h in
      let v = valid-next s event es (demand.accepted journal s es e).valid a in
      record { size = ap length (demand.appended journal s es event e a) ∙ demand.size (raised event (version_in journal)) s (event ∷ es) v; reads = demand.appended_read journal s es event e a }

  written-holds : (call : Call) → refusal 544 call (read_journal journal) ≡ 0 → Holds (written call journal) (accepted call (read_journal journal))
  written-holds (SetUp s) h =
      let v = setup-valid s (read_journal journal) h in
      record { size = demand.size setup_version s [] v; reads = demand.read_back setup_version s [] ((demand.version setup_version s []).1 refl) v }
  written-holds (Enter entry) h = entry-holds entry (read_journal journal) refl h
  written-holds (Ask query) h = record { size = n; reads = refl }

  by-refusal : (call : Call) (b : Bool) → eqb (refusal 544 call (read_journal journal)) 0 ≡ b
      → Holds (cond b (written call journal) journal) (cond b (accepted call (read_journal journal)) (read_journal journal))
  by-refusal call true h = written-holds call (eqb-true _ 0 h)
  by-refusal call false h = record { size = n; reads = refl }

  -- one call
  call-holds : (call : Call) → Holds (journal_after call journal) (step_model call (read_journal journal))
  unfolding journal_after step_model
  call-holds call = rw n (by-refusal call (eqb (refusal 544 call (read_journal journal)) 0) refl)

-- a list of calls, starting from a buffer of zeros
calls-hold : (calls : List Call) → Holds (journal_of calls) (model_of calls)
calls-hold [] = record { size = refl; reads = cases.read_zeros }
calls-hold (call ∷ calls) =
    let before = calls-hold calls in
    let one = call-holds (journal_of calls) before.size call in
    record { size = one.size; reads = one.reads ∙ ap (step_model call) before.reads }

pub stored-calls : StoredCalls
stored-calls = record { step = call-holds; every = calls-hold }
