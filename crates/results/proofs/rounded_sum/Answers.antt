use Rattle.std.proofs.Common.{rules, ◌≡◌, map}
use Rattle.std.specs.Prelude.{sum}
use Rattle.rounding.specs.Result.{rounded}
use Rattle.results.proofs.Room.{rounded-sum-lt}
use Rattle.results.proofs.rounded_sum.Goals as goal

pub returns-clause-below : goal.returns-clause-below
returns-clause-below c =
    let total : c.sum.result ≡ sum (map rounded c.args.readings.now) = search rules in
    rw total (rounded-sum-lt c.args.readings.now c.type_inv.readings c.requires)
