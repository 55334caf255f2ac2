-- Document 01, "The book": what a buffer of any length and content is read as. A setup and events are decoded from the bytes, whatever they are; the journal is
-- accepted exactly if encoding these in the version that it says gives the same bytes, that version can hold them, and they could have been entered in that
-- order.
use Rattle.std.specs.Prelude.{cond, ◌&&◌, List, [], ◌∷◌, ℕ, zero, suc, eqb, get_or, drop}
use Rattle.std.specs.Simd.{first_chunks}
use Rattle.buffers.specs.Bytes.{number16, number32, same}
use Rattle.year.specs.declared.Setup.{Setup}
use Rattle.year.specs.declared.Event.{Event}
use Rattle.year.specs.declared.Event.TheVariants.{Engine, Amendment, NextPeriod, Declaration, Deletion}
use Rattle.year.specs.Admissible.{valid}
use Rattle.year.specs.Model.{Model, NoSetup, Year}
use Rattle.journal.specs.Encode.{can_hold, encode, slot_place, version_in}

-- the setup in the first 32 bytes
abbrev pub setup_in : List ℕ → Setup
setup_in journal =
    record {
      volume = number32 journal 8;
      days = number16 journal 12;
      standards = record { hcnox = number16 journal 14; co = number16 journal 16 };
      factors =
          record {
            hcnox = record { kind = get_or journal 18 0; value = number16 journal 20 };
            co = record { kind = get_or journal 19 0; value = number16 journal 22 };
          };
    }

-- the event in the slot at the front of a part of the journal. Any kind other than 1, 2, 3 and 5 is decoded as 4, and accepted only if
-- it is 4
abbrev pub event_in : List ℕ → Event
event_in part =
    cond (eqb (get_or part 0 0) 1)
    (Engine (number16 part 6) (get_or part 1 0) (record { hcnox = number16 part 2; co = number16 part 4 }))
    (cond (eqb (get_or part 0 0) 2)
    (Amendment (record { hcnox = number16 part 2; co = number16 part 4 }))
    (cond (eqb (get_or part 0 0) 3) NextPeriod (cond (eqb (get_or part 0 0) 5) Deletion Declaration)))

-- the slots, each as its eight bytes
unfoldable pub slots_in : List ℕ → List (List ℕ)
slots_in journal = first_chunks 8 64 (drop 32 journal)

-- the events of the first slots, the newest first
abbrev pub events_in : List ℕ → ℕ → List Event
events_in journal zero = []
events_in journal (suc j) = event_in (drop (slot_place j) journal) ∷ events_in journal j

-- the year of this setup and these events, if the journal is their stored form in this version, which can hold them, and they could have been entered in that
-- order
unfoldable pub read_as : List ℕ → ℕ → Setup → List Event → Model
read_as journal v s es = cond (same (encode v s es) journal && valid s es && can_hold v s es) (Year s es) NoSetup

-- byte 24 is the number of events
abbrev pub read_journal : List ℕ → Model
read_journal journal = read_as journal (version_in journal) (setup_in journal) (events_in journal (get_or journal 24 0))
