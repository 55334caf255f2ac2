-- What is kept of the input (protocol, specs/Console). What a read returns, and whether a write succeeds, is I/O behaviour, outside the contracts.
use Rattle.std.specs.Prelude.{◌≡◌, Bool, true, false, List, [], ℕ, ◌≤◌, take}
use Rattle.buffers.specs.Bytes.{zeros}
use Rattle.protocol.specs.Run.{lines_of, journal_after_lines}
use Rattle.protocol.specs.Console.{held_after, journal_past}
use Rattle.terminal.specs.declared.Calculator.{Calculator}
use Rattle.terminal.specs.declared.Stop.{Stop}
use Rattle.terminal.specs.declared.Stop.TheVariants.{InputEnded, OutputClosed, ReadsSpent}

-- bytes were taken, each once and in order: the line held afterwards, and the journal left
pub record Kept (bytes : List ℕ) (from to : Calculator) : Type 0 where
  pub holds : to.line ≡ held_after bytes from.line
  pub leaves : to.journal ≡ journal_past bytes from.line from.journal

-- a piece of the input, all that one read returned: all of its bytes were taken, or, if the output is said to be closed (`false`), a prefix of them
abbrev pub Taken : Bool → List ℕ → Calculator → Calculator → Type 0
Taken true piece from to = Kept piece from to
Taken false piece from to = (count : ℕ) × Kept (take count piece) from to

-- the last read's piece was taken after what earlier reads returned, which is nothing if one read at most may be made
pub record Fetched (most : ℕ) (all : Bool) (piece : List ℕ) (from to : Calculator) : Type 0 where
  pub before : List ℕ
  pub first : most ≤ 1 → before ≡ []
  pub between : Calculator
  pub earlier : Kept before from between
  pub last : Taken all piece between to

-- why no further read was made: the last one returned no byte, so the input has ended; the output is said to be closed; or no more reads may be made
abbrev pub Stopped : Stop → ℕ → ℕ → ℕ → Type 0
Stopped InputEnded got reads most = got ≡ 0
Stopped OutputClosed got reads most = Unit {0}
Stopped ReadsSpent got reads most = reads ≡ most

-- whether all of the last piece was taken
abbrev pub goes_on : Stop → Bool
goes_on InputEnded = true
goes_on OutputClosed = false
goes_on ReadsSpent = true

-- document 01's starting state
abbrev pub start : Calculator
start = record { journal = zeros 544; line = [] }

-- a run over some input, from document 01's starting state, by why it is said to have stopped. If the input has ended, every line is answered, the last one with
-- or without newline
abbrev pub Answered : Stop → Calculator → Type 0
Answered InputEnded to = (input : List ℕ) × (to.line ≡ held_after input []) × (to.journal ≡ journal_after_lines (zeros 544) (lines_of input))
Answered OutputClosed to = (input : List ℕ) × Kept input start to
Answered ReadsSpent to = (input : List ℕ) × Kept input start to
