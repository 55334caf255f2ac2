-- Demand 2: "For one setup, every list of accepted events .. has one book, and every accepted book reads back as its setup and list."
-- All of it: store-then-read and read-then-store are round trips, and nothing else is accepted, whatever the buffer.
use Rattle.std.specs.Prelude.{◌≡◌, ◌↔◌, true, cond, List, ◌∷◌, ℕ, length, get_or}
use Rattle.year.specs.declared.Setup.{Setup}
use Rattle.year.specs.declared.Event.{Event}
use Rattle.year.specs.Replay.{replay}
use Rattle.year.specs.Admissible.{admissible, valid}
use Rattle.year.specs.Model.{NoSetup, Year}
use Rattle.year.specs.Deletions.{has_deletion}
use Rattle.journal.specs.Encode.{can_hold, encode, version_in, raised, append}
use Rattle.journal.specs.Read.{setup_in, events_in, read_journal}
use Rattle.journal.specs.Acceptance.{Acceptable}

-- a journal is the stored form, in a version that can hold it, of a setup and events that could have been entered
pub record Stores (v : ℕ) (journal : List ℕ) (s : Setup) (es : List Event) : Type 0 where
  pub stored : journal ≡ encode v s es
  pub holds : can_hold v s es ≡ true
  pub valid : valid s es ≡ true

pub record OneJournal : Type 0 where
  -- the journal of a setup and events that could have been entered has 544 bytes and reads back as them
  pub size : (v : ℕ) (s : Setup) (es : List Event) → valid s es ≡ true → length (encode v s es) ≡ 544
  pub read_back : (v : ℕ) (s : Setup) (es : List Event) → can_hold v s es ≡ true → valid s es ≡ true → read_journal (encode v s es) ≡ Year s es
  -- an accepted journal is the stored form of what it reads back as, in the version that it says
  pub accepted : (journal : List ℕ) (s : Setup) (es : List Event) → read_journal journal ≡ Year s es → Stores (version_in journal) journal s es
  -- "every list of accepted events .. has one book": one version can hold a list, so two journals that read back as the same setup and list are equal.
  -- "A version 2 book holds at least one strike" (document 02, W-201), and a version 1 book none
  pub version : (v : ℕ) (s : Setup) (es : List Event) → (can_hold v s es ≡ true) ↔ (v ≡ cond (has_deletion es) 2 1)
  pub one : (a b : List ℕ) (s : Setup) (es : List Event) → read_journal a ≡ Year s es → read_journal b ≡ Year s es → a ≡ b
  -- two setups and lists that have the same journal are equal
  pub apart : (v w : ℕ) (s t : Setup) (es fs : List Event) → can_hold v s es ≡ true → can_hold w t fs ≡ true → valid s es ≡ true → valid t fs ≡ true
      → encode v s es ≡ encode w t fs → (s ≡ t) × (es ≡ fs)
  -- a buffer that is not accepted is not the journal of any setup and list, in any version
  pub refused : (journal : List ℕ) → read_journal journal ≡ NoSetup → (v : ℕ) (s : Setup) (es : List Event) → Stores v journal s es → ⊥
  -- "accepted exactly if": part by part
  pub if_acceptable : (journal : List ℕ) → Acceptable journal → read_journal journal ≡ Year (setup_in journal) (events_in journal (get_or journal 24 0))
  pub only_if_acceptable : (journal : List ℕ) (s : Setup) (es : List Event) → read_journal journal ≡ Year s es → Acceptable journal
  -- writing one more event, as its slot and byte 24, and byte 3 for the first strike on version 1, leaves the journal of the list with that event
  pub appended : (journal : List ℕ) (s : Setup) (es : List Event) (e : Event) → read_journal journal ≡ Year s es → admissible (replay s es) e ≡ true
      → append journal e ≡ encode (raised e (version_in journal)) s (e ∷ es)
  pub appended_read : (journal : List ℕ) (s : Setup) (es : List Event) (e : Event) → read_journal journal ≡ Year s es → admissible (replay s es) e ≡ true
      → read_journal (append journal e) ≡ Year s (e ∷ es)
