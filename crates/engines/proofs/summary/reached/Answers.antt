use Rattle.figures.proofs.OneMore.{running_size}
use Rattle.engines.proofs.summary.reached.Goals as goal

pub size_reached-requires : goal.size_reached-requires
size_reached-requires c = running_size c.args.f c.requires
