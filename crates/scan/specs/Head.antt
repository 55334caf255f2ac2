-- What the front part of a journal, its version and its unused slots decide.
use Rattle.std.specs.Prelude.{◌≡◌, List, ℕ, ◌≤◌, Option, Some, None}
use Rattle.year.specs.declared.Setup.{Setup}
use Rattle.year.specs.Replay.{start}
use Rattle.year.specs.Model.{NoSetup}
use Rattle.journal.specs.Read.{read_journal}
use Rattle.slots.specs.Scanned.{Entered, entered}

-- the events of the first slots, entered after this setup, make the year that the buffer holds, if any
pub record Begins (journal : List ℕ) (setup : Setup) (count : ℕ) : Type 0 where
  pub few : count ≤ 64
  pub first : Entered journal 0 (start setup)
  pub whole : entered journal count ≡ read_journal journal

abbrev pub Headed : List ℕ → Option (Setup × ℕ) → Type 0
Headed journal None = read_journal journal ≡ NoSetup
Headed journal (Some head) = Begins journal head.0 head.1
