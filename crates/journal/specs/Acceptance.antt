-- Document 01, "The book", part by part: "A book is accepted exactly if its first 32 bytes are as above and its events could have been entered in that order",
-- with "Unnamed bytes and unused slots are zero." `if_acceptable` and `only_if_acceptable` of OneJournal state that `read_journal` accepts exactly these.
use Rattle.std.specs.Prelude.{◌≡◌, Bool, true, ◌&&◌, List, ℕ, zero, suc, ◌≤◌, length, get_or, take, drop}
use Rattle.buffers.specs.Bytes.{same, is_zero}
use Rattle.year.specs.Setup.{setup_in_range}
use Rattle.year.specs.Replay.{replay}
use Rattle.year.specs.Admissible.{admissible}
use Rattle.journal.specs.Encode.{can_hold, header, slot_of, slot_place, version_in}
use Rattle.journal.specs.Read.{setup_in, event_in, events_in}

-- the first 32 bytes are exactly the header that encodes the version, setup and number of events decoded from them, whether or not these are in range
unfoldable pub is_header : List ℕ → Bool
is_header journal = same (header (version_in journal) (setup_in journal) (get_or journal 24 0)) (take 32 journal)

-- the version is one that can hold the events of the slots, whatever these are
unfoldable pub is_version : List ℕ → ℕ → Bool
is_version journal count = can_hold (version_in journal) (setup_in journal) (events_in journal count)

-- the eight bytes at the front of a part are exactly the slot that encodes the event decoded from them
unfoldable pub is_slot : List ℕ → Bool
is_slot part = same (slot_of (event_in part)) (take 8 part)

-- slot j encodes an event that could be entered after those of the slots before it
unfoldable pub enters_at : List ℕ → ℕ → Bool
enters_at journal j =
    is_slot (drop (slot_place j) journal) && admissible (replay (setup_in journal) (events_in journal j)) (event_in (drop (slot_place j) journal))

-- the same for each of the first slots
abbrev pub enters_up_to : List ℕ → ℕ → Bool
enters_up_to journal zero = true
enters_up_to journal (suc j) = enters_up_to journal j && enters_at journal j

pub record Acceptable (journal : List ℕ) : Type 0 where
  -- "544 bytes"
  pub size : length journal ≡ 544
  -- "its first 32 bytes are as above"
  pub header : is_header journal ≡ true
  pub setup : setup_in_range (setup_in journal) ≡ true
  -- version 2 if there is a strike among its events, version 1 if not
  pub version : is_version journal (get_or journal 24 0) ≡ true
  -- "number of events, 0 to 64"
  pub count : get_or journal 24 0 ≤ 64
  -- "its events could have been entered in that order"
  pub events : enters_up_to journal (get_or journal 24 0) ≡ true
  -- "unused slots are zero"
  pub unused : is_zero (drop (slot_place (get_or journal 24 0)) journal) ≡ true
