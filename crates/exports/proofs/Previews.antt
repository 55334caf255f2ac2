-- A preview's outcome is that of the engine's entry, so what is returned and left of it is too.
use mathlib.Core.Path.{ap}
use lib.Dec.{ltb}
use mathlib.Core.Bool.{cond}
use Rattle.reference.proofs.Preview.{preview-promises}
use Rattle.exports.specs.Exports.{refusal_given, figures_left, Previews}
use Rattle.exports.specs.Numbers.{status_numbers}
use Rattle.buffers.specs.Bytes.{put}
use lib.ListN.{length}

pub previews : Previews
unfolding refusal_given figures_left
previews =
    record {
      refusal = λ number hcnox co journal figures. ap (λ o. cond (ltb (length figures) 20) 255 o.refusal) (preview-promises.outcome_as number _ journal);
      figures = λ number hcnox co journal figures. ap (λ o. cond (ltb (length figures) 20) figures (put figures 0 (status_numbers o.status))) (preview-promises.outcome_as number _ journal);
    }
