use Rattle.std.proofs.Common.{rules}
use Rattle.engines.proofs.Newest.{tested_any}
use Rattle.engines.proofs.lookup.is_tested.Goals as goal

pub returns : goal.returns
returns c = rw (← tested_any c.args.number c.args.e.now.items) (search rules)
