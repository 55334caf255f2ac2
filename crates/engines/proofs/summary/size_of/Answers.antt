use Rattle.figures.proofs.OneMore.{running_size}
use Rattle.engines.proofs.summary.size_of.Goals as goal

pub sample_size_of-requires : goal.sample_size_of-requires
sample_size_of-requires c = running_size c.args.f c.requires
