use Rattle.std.proofs.Common.{◌+◌, arith}
use Rattle.std.proofs.lemmas.Result.{err_from_is_err_and}
use Rattle.terminal.proofs.Pieces.{one_more}
use Rattle.terminal.proofs.Calculator.take_bytes.Goals as goal

-- the output is closed: this byte was the last that was taken
pub returns-in_err-take_byte : goal.returns-in_err-take_byte
returns-in_err-take_byte g c =
    let p = err_from_is_err_and c.from_residual.result c.from_residual.ensures.1 in
    let e = c.take_byte.ensures in
    rw p.1 (c.loop-byte.byte-index + 1, one_more c.args.bytes.now c.loop-byte.byte-index (omega arith) c.loop-byte.invariant e.line_after e.journal_after)

pub loop-byte-preserved : goal.loop-byte-preserved
loop-byte-preserved g c =
    one_more c.args.bytes.now c.loop-byte.byte-index (omega arith) c.loop-byte.invariant c.take_byte.ensures.line_after c.take_byte.ensures.journal_after
