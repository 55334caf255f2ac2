-- What status and the calls that write an output promise if they are accepted, from what their bodies have computed.
use mathlib.Core.Path.{◌≡◌, sym, ap, subst, ◌∙◌}
use mathlib.Core.Bool.{true}
use mathlib.Core.List.{List}
use Prim.Native.Nat.{ℕ, ◌+◌, ◌*◌, ◌≤◌}
use lib.ListN.{length}
use Rattle.buffers.specs.Bytes.{put}
use Rattle.year.specs.Setup.{setup_in_range}
use Rattle.year.specs.Status.{status}
use Rattle.year.specs.Replay.{Progress}
use Rattle.year.proofs.Ranges.{valid-in-range}
use Rattle.journal.specs.Read.{read_journal}
use Rattle.journal.proofs.OneJournal.{demand}
use Rattle.std.specs.Prelude.{Some, Result, Ok, Err, IsErrAnd}
use Rattle.reference.specs.declared.Refusal.{Refusal}
use Rattle.reference.specs.Refused.{number_of, named}
use Rattle.reference.specs.Call.{Form, Marks, Report, Call, ReadStatus, Write, Ask}
use Rattle.reference.specs.Answers.{refusal_on, status_of, answer, form_bytes, out_bytes, out_after, output_answer, output_outcome_of, output_outcome}
use Rattle.reference.proofs.Refused.{err-gives, err-means, handed-on}
use Rattle.reference.proofs.Given.{accepted-gives, accepted-answer}
use Rattle.reference.proofs.Demand1.{demand-1, out-fits, mark-bytes, report-bytes, output-outcome}
use Rattle.refusals.proofs.Outputs.{needed}
use Rattle.slots.specs.Scanned.{year_of}
use Rattle.slots.proofs.Year.{StandsFor, stands}

-- an accepted status
pub status_answer : (journal : List ℕ) (p : Progress) → Some p ≡ year_of (read_journal journal) → 0 ≡ refusal_on (Ask ReadStatus) journal
    → Ok (status 1024 p) ≡ answer (Ask ReadStatus) journal
status_answer journal p holds none =
    let year = stands (read_journal journal) p holds in
    ap Ok (ap (status 1024) year.year ∙ sym (ap status_of year.holds))
    ∙ sym (accepted-answer (Ask ReadStatus) journal (sym none) ∙ ap (λ b. Ok (status_of (read_journal b))) (demand-1.query_kept ReadStatus journal))

-- the setup of a year that a journal holds is in range
pub year_setup : (journal : List ℕ) (p : Progress) → Some p ≡ year_of (read_journal journal) → setup_in_range p.setup ≡ true
year_setup journal p holds =
    let year = stands (read_journal journal) p holds in
    let valid = (demand.accepted journal year.setup year.events year.holds).valid in
    subst (λ (q : Progress). setup_in_range q.setup ≡ true) (sym year.year) (valid-in-range year.setup year.events valid).setup

-- what a call that writes an output promises about its answer and the output
module _ (form : Form) (journal out : List ℕ) where
  abbrev call : Call
  call = Ask (Write form (length out))

  abbrev Given : Result ℕ Refusal → List ℕ → Type 0
  Given r left =
      record { answer : r ≡ output_answer form journal out; outcome : output_outcome_of r ≡ output_outcome form journal out; out_after : left ≡ out_after form journal out }

  given : (r : Result ℕ Refusal) (left : List ℕ) → r ≡ output_answer form journal out → left ≡ out_after form journal out → Given r left
  given r left a o = record { answer = a; outcome = ap output_outcome_of a ∙ output-outcome form journal out; out_after = o }

  pub output_declined : (r : Refusal) → number_of r ≡ refusal_on call journal → {a : Result ℕ Refusal} → IsErrAnd a (λ e. e ≡ r) → Given a out
  unfolding output_answer
  output_declined r e {a = a} h =
      let told = err-gives (refusal_on call journal) (length (out_bytes form (read_journal journal))) r e in
      given a out (handed-on h told) (sym (demand-1.refused_out form journal out (err-means _ _ r told).0))

  -- on a year with this number of engines
  module _ (p : Progress) (holds : Some p ≡ year_of (read_journal journal)) (none : 0 ≡ refusal_on call journal) (n : ℕ) (many : length p.tested ≡ n) where
    year : StandsFor p (read_journal journal)
    year = stands (read_journal journal) p holds

    bytes : out_bytes form (read_journal journal) ≡ form_bytes form p
    bytes = ap (out_bytes form) year.holds ∙ ap (form_bytes form) (sym year.year)

    -- as many bytes as its form needs
    count : length (form_bytes form p) ≡ needed form n
    count = by form bytes
      where
        by : (f : Form) → out_bytes f (read_journal journal) ≡ form_bytes f p → length (form_bytes f p) ≡ needed f n
        by Marks e = ap length (sym e) ∙ mark-bytes (read_journal journal) ∙ ap (λ m. 2 * (status_of m).n) year.holds ∙ ap (λ (q : Progress). 2 * length q.tested) (sym year.year) ∙ ap (needed Marks) many
        by Report e = ap (λ (q : Progress). length (form_bytes Report q)) year.year ∙ report-bytes journal year.setup year.events year.holds
            ∙ ap (λ (q : Progress). 61 * (length q.tested + 1)) (sym year.year) ∙ ap (needed Report) many

    pub output_room : needed form n ≤ length out
    output_room = rw (bytes, count) at (out-fits form journal (length out) (sym none))

    pub output_done : (left : List ℕ) → left ≡ put out 0 (form_bytes form p) → Given (Ok (needed form n)) left
    unfolding output_answer out_after
    output_done left e =
        let all = accepted-gives call journal (put out 0 (out_bytes form (read_journal journal))) out (sym none) in
        let told = accepted-gives call journal (Ok (length (out_bytes form (read_journal journal)))) (Err (named (refusal_on call journal))) (sym none) in
        given (Ok (needed form n)) left
        (ap Ok (sym count ∙ ap length (sym bytes)) ∙ sym told)
        (e ∙ ap (put out 0) (sym bytes) ∙ sym all)
