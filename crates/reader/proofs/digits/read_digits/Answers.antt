-- `read_digits` meets its contract.
use Rattle.std.proofs.Common.{arith}
use Rattle.reader.proofs.Spelling.{One_more, one_more}
use Rattle.reader.proofs.digits.read_digits.Goals as goal

-- the byte is a digit
more : (c : goal.After-from-digit) → One_more c.args.bytes.now c.loop-count.count c.loop-count.value
more c =
    let k = c.loop-count.invariant in
    one_more c.args.bytes.now c.loop-count.count c.loop-count.value k.bounded k.others k.spells (omega arith) (omega arith) (cc)

pub overflow_mul-value : goal.overflow_mul-value
overflow_mul-value c = omega (arith, (more c).fits)

pub overflow_add-value : goal.overflow_add-value
overflow_add-value c = omega (arith, (more c).fits, (more c).digit)

pub loop-count-preserved : goal.loop-count-preserved
loop-count-preserved c =
    let m = more c in
    record { at_most_nine = omega arith; bounded = rw c.from-digit.ensures m.bounded; others = m.others; spells = rw c.from-digit.ensures m.spells }
