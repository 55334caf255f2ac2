-- Demand 2, proved.
use mathlib.Core.Path.{◌≡◌, refl, sym, ap, ◌∙◌}
use mathlib.Core.Bool.{Bool, true, false, cond}
use mathlib.Core.List.{List, [], ◌∷◌}
use Prim.Native.Nat.{ℕ, ◌≤◌, ◌<◌}
use native.Mathlib.Nat.{add-zero}
use native.Mathlib.Omega.{arith}
use lib.Dec.{eqb}
use lib.ListN.{length, take}
use Rattle.buffers.specs.Bytes.{put}
use Rattle.buffers.proofs.Lists.{take_put}
use Rattle.conditions.proofs.Rows.{first-is, none_is}
use Rattle.statistics.specs.Spread.{total, deviation_of}
use Rattle.statistics.specs.declared.Test.{Test}
use Rattle.std.specs.Prelude.{Option, None}
use Rattle.statistics.specs.SampleSize.{sample_size, sample_size_of}
use Rattle.cumsum.specs.Intervals.{cumsum, action_limit}
use Rattle.cumsum.specs.Marks.{mark}
use Rattle.year.specs.declared.Figures.{Figures}
use Rattle.year.specs.Setup.{Pollutant, Hcnox, Co}
use Rattle.year.specs.Replay.{Progress, replay, history}
use Rattle.year.specs.Verdict.{verdict_rows, verdict}
use Rattle.year.specs.Status.{early, size_of, figures, status}
use Rattle.year.specs.Model.{no_setup}
use Rattle.year.proofs.Replayed.{history-length}
use Rattle.journal.specs.Read.{read_journal}
use Rattle.journal.proofs.OneJournal.{demand}
use Rattle.std.specs.Prelude.{Ok}
use Rattle.reference.specs.Call.{Form, Marks, Report, ReadStatus, Write, Call, SetUp, Enter, Ask, previewed, is_setup}
use Rattle.reference.specs.Answers.{refusal_on, journal_after, status_of, answer, out_bytes, out_after, out_part}
use Rattle.reference.specs.Model.{accepted}
use Rattle.reference.specs.Demand2.{figures_of, Shows, Demand2}
use Rattle.reference.proofs.Stored.{stored-calls}
use Rattle.reference.proofs.WithSetup.{accepted-has}
use Rattle.reference.proofs.Given.{accepted-gives, accepted-answer, accepted-size, accepted-year, accepted-reads, status-accepted, previewed-refusal}
use Rattle.reference.proofs.Entering.{could-enter}
use Rattle.reference.proofs.Demand1.{demand-1}

-- ---- the figures of one pollutant

module _ (size : Option ℕ) where
  sum_is : (h : List Test) → (figures 1024 size h).sum ≡ total h
  sum_is [] = refl
  sum_is (x ∷ []) = sym (add-zero x.result)
  sum_is (x ∷ y ∷ h) = refl

  from-two : (h : List Test) → 2 ≤ length h
      → figures 1024 size h ≡ record {
        sum = total h;
        deviation = deviation_of 1024 h;
        cumsum = cumsum 1024 h;
        limit = action_limit 1024 h;
        size = size;
        mark = mark 1024 h;
      }
  from-two [] l = absurd (omega arith)
  from-two (x ∷ []) l = absurd (omega arith)
  from-two (x ∷ y ∷ h) l = refl

  before-two : (h : List Test) → length h < 2 → figures 1024 size h ≡ early (total h) size
  before-two [] l = refl
  before-two (x ∷ []) l = ap (λ n. early n size) (sym (add-zero x.result))
  before-two (x ∷ y ∷ h) l = absurd (omega arith)

-- there is no N before engine 2
no_size : (h : List Test) → length h < 2 → sample_size_of h ≡ None
unfolding sample_size
no_size [] l = refl
no_size (x ∷ []) l = refl
no_size (x ∷ y ∷ h) l = absurd (omega arith)

-- ---- the figures of a year

module _ (p : Progress) where
  figures-of : (q : Pollutant) → figures_of q (status 1024 p) ≡ figures 1024 (size_of q p) (history q p.tested)
  figures-of Hcnox = refl
  figures-of Co = refl

  -- any figure, from engine 2 on
  later : {A : Type 0} (figure : Figures → A) (q : Pollutant) → 2 ≤ length p.tested
      → figure (figures_of q (status 1024 p))
      ≡ figure (record {
        sum = total (history q p.tested);
        deviation = deviation_of 1024 (history q p.tested);
        cumsum = cumsum 1024 (history q p.tested);
        limit = action_limit 1024 (history q p.tested);
        size = sample_size_of (history q p.tested);
        mark = mark 1024 (history q p.tested);
      })
  later figure q l =
      ap figure (figures-of q) ∙ ap figure (from-two (size_of q p) (history q p.tested) (omega (arith, history-length q p.tested)))

  pub shows : Shows (status 1024 p) p
  shows =
      record {
        n = refl;
        verdict = refl;
        sum = λ q. ap (λ (f : Figures). f.sum) (figures-of q) ∙ sum_is (size_of q p) (history q p.tested);
        deviation = later (λ f. f.deviation);
        cumsum = later (λ f. f.cumsum);
        limit = later (λ f. f.limit);
        size = later (λ f. f.size);
        mark = later (λ f. f.mark);
        early = λ q l. let few : length (history q p.tested) < 2 = omega (arith, history-length q p.tested) in
            figures-of q ∙ before-two (size_of q p) (history q p.tested) few ∙ ap (early (total (history q p.tested))) (no_size (history q p.tested) few);
      }

-- ---- the answer

module _ (call : Call) (journal : List ℕ) (h : refusal_on call journal ≡ 0) where
  -- the journal after an accepted call holds a year
  after-year : no_setup (read_journal (journal_after call journal)) ≡ false
  after-year = ap no_setup (accepted-reads call journal h) ∙ by call (accepted-year call journal h)
    where
      by : (c : Call) → (is_setup c ≡ false → no_setup (read_journal journal) ≡ false) → no_setup (accepted c (read_journal journal)) ≡ false
      by (SetUp s) year = refl
      by (Enter entry) year = accepted-has (Enter entry) (read_journal journal) (year refl)
      by (Ask query) year = year refl

-- so does the journal whose status is answered, and status on it answers the same
module _ (call : Call) (journal : List ℕ) (h : refusal_on call journal ≡ 0) where
  abbrev left : List ℕ
  left = journal_after (previewed call) journal

  fine : refusal_on (previewed call) journal ≡ 0
  fine = previewed-refusal call journal ∙ h

  held : no_setup (read_journal left) ≡ false
  held = after-year (previewed call) journal fine

  answered : answer call journal ≡ answer (Ask ReadStatus) left
  answered =
      let n = (stored-calls.step journal (accepted-size call journal h) (previewed call)).size in
      let same : status_of (read_journal (journal_after (Ask ReadStatus) left)) ≡ status_of (read_journal left) = ap (λ b. status_of (read_journal b)) (demand-1.query_kept ReadStatus left) in
      accepted-answer call journal h ∙ ap Ok (sym same) ∙ sym (accepted-answer (Ask ReadStatus) left (status-accepted left n held))

-- ---- the part that is handed back

handed-back : (form : Form) (journal out : List ℕ) → take (length (out_part form journal out)) (out_after form journal out) ≡ out_part form journal out
unfolding out_part out_after
handed-back form journal out = by (eqb (refusal_on (Ask (Write form (length out))) journal) 0)
  where
    bytes : List ℕ
    bytes = out_bytes form (read_journal journal)

    by : (b : Bool) → take (length (cond b bytes [])) (cond b (put out 0 bytes) out) ≡ cond b bytes []
    by true = take_put out bytes
    by false = refl

pub demand-2 : Demand2
unfolding out_after verdict
demand-2 =
    record {
      set_up = λ s journal. accepted-reads (SetUp s) journal;
      entered = λ entry journal s es e h. accepted-reads (Enter entry) journal h ∙ rw e;
      could_enter = λ entry journal s es e. could-enter journal s es e entry;
      held = held;
      shown = λ call journal s es h e. rw (accepted-answer call journal h, e) (shows (replay s es));
      answered = answered;
      verdict_order = λ k p. refl;
      verdict_first = λ k p v. first-is (verdict_rows k p) v 1;
      verdict_else = λ k p. none_is (verdict_rows k p) 1;
      marks = λ journal out s es e h.
          accepted-gives (Ask (Write Marks (length out))) journal (put out 0 (out_bytes Marks (read_journal journal))) out h ∙ rw e;
      page = λ journal out s es e h.
          accepted-gives (Ask (Write Report (length out))) journal (put out 0 (out_bytes Report (read_journal journal))) out h ∙ rw e;
      handed_back = handed-back;
      journals = demand;
    }
