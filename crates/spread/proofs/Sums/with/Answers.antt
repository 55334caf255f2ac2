use Rattle.std.proofs.Common.{arith}
use Rattle.spread.proofs.OneMore.{sums_room}
use Rattle.spread.proofs.Sums.with.Goals as goal

pub overflow_add-total : goal.overflow_add-total
overflow_add-total c = rw c.from-x.ensures (omega (arith, sums_room c.args.self c.args.new_result c.requires))

pub overflow_add-squares : goal.overflow_add-squares
overflow_add-squares c = rw c.from-x.ensures (omega (arith, sums_room c.args.self c.args.new_result c.requires))

pub overflow_mul-result : goal.overflow_mul-result
overflow_mul-result c = rw c.from-x.ensures (omega (arith, sums_room c.args.self c.args.new_result c.requires))
