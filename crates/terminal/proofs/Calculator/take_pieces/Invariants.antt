-- The last of the reads so far is taken after what the others brought; before the first read there is nothing.
use Rattle.std.proofs.Common.{◌≡◌, [], true, take}
use Rattle.terminal.specs.Taken.{Fetched}
use Rattle.terminal.proofs.Calculator.take_pieces.Given as goal

abbrev pub invariant-loop-read : goal.invariant-loop-read
invariant-loop-read g l = record {
  fetched : Fetched l._read true (take l.piece.size l.piece.space) l.initial.self l.self;
  counted : l.piece.reads ≡ l._read;
  none : l._read ≡ 0 → take l.piece.size l.piece.space ≡ [];
}
