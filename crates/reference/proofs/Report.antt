-- W-205's promises on the calls, proved.
use mathlib.Core.Path.{◌≡◌, ap, ◌∙◌}
use mathlib.Core.List.{List, []}
use Prim.Native.Nat.{ℕ, ◌+◌, ◌*◌, ◌≤◌}
use lib.ListN.{length}
use Rattle.year.specs.declared.Setup.{Setup}
use Rattle.year.specs.declared.Event.{Event}
use Rattle.year.specs.Replay.{replay}
use Rattle.year.specs.Model.{Year}
use Rattle.report.specs.Report.{report}
use Rattle.report.proofs.Shown.{report-shown}
use Rattle.journal.specs.Read.{read_journal}
use Rattle.journal.proofs.OneJournal.{demand}
use Rattle.reference.specs.Call.{Report}
use Rattle.reference.specs.Answers.{refusal_on, out_bytes, out_part}
use Rattle.reference.specs.Report.{report_into, Reported, ReportPromises}
use Rattle.reference.proofs.Given.{accepted-gives, year-size, report-accepted, report-short, report-none}
use Rattle.reference.proofs.Demand2.{demand-2}

module _ (journal : List ℕ) (s : Setup) (es : List Event) (e : read_journal journal ≡ Year s es) where
  fits : (size : ℕ) → 61 * (length (replay s es).tested + 1) ≤ size → refusal_on (report_into size) journal ≡ 0
  fits size = report-accepted journal (year-size journal s es e) size s es e

  part : (out : List ℕ) → 61 * (length (replay s es).tested + 1) ≤ length out → out_part Report journal out ≡ report (replay s es)
  unfolding out_part
  part out h = accepted-gives (report_into (length out)) journal (out_bytes Report (read_journal journal)) [] (fits (length out) h) ∙ ap (out_bytes Report) e

  reported : Reported journal s es
  reported =
      record {
        too_short = λ size. report-short journal (year-size journal s es e) size s es e;
        accepted = fits;
        part = part;
        out = λ out h. demand-2.page journal out s es e (fits (length out) h);
        shown = report-shown.every s es (demand.accepted journal s es e).valid;
      }

pub report-promises : ReportPromises
report-promises = record { every = reported; none = λ journal size n. report-none journal n size }
