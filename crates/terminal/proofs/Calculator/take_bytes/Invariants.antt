-- The bytes before the next one are taken.
use Rattle.std.proofs.Common.{take}
use Rattle.terminal.specs.Taken.{Kept}
use Rattle.terminal.proofs.Calculator.take_bytes.Given as goal

abbrev pub invariant-loop-byte : goal.invariant-loop-byte
invariant-loop-byte g l = Kept (take l.byte-index l.bytes) l.initial.self l.self
