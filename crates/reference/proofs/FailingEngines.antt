-- Which engines verdict 4 counts, in what the calls answer.
use mathlib.Core.Path.{◌≡◌, sym, subst, ◌∙◌}
use Prim.Native.Nat.{◌≤◌}
use Rattle.std.specs.Prelude.{count_by}
use Rattle.year.specs.declared.Setup.{Setup}
use Rattle.year.specs.Replay.{replay}
use Rattle.year.specs.Verdict.{one_percent, passes}
use Rattle.year.proofs.Replayed.{replay-setup}
use Rattle.year.proofs.FailingEngines.{failing-engines}
use Rattle.reference.specs.FailingEngines.{FailingShown}
use Rattle.reference.proofs.Demand2.{demand-2}

pub failing-shown : FailingShown
failing-shown =
    record {
      enough_pass = λ call journal s es ok held h.
          subst (λ (setup : Setup). one_percent setup.volume ≤ count_by passes (replay s es).tested) (replay-setup s es)
          ((failing-engines 1 (replay s es)).enough_pass (sym (demand-2.shown call journal s es ok held).verdict ∙ h));
      none_passes = λ call journal s es ok held all h.
          subst (λ (setup : Setup). one_percent setup.volume ≡ 0) (replay-setup s es)
          ((failing-engines 1 (replay s es)).none_passes all (sym (demand-2.shown call journal s es ok held).verdict ∙ h));
    }
