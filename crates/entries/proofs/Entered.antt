-- What an entry promises on a buffer of a journal's size: refused by one of its own rows, or with its event added.
use mathlib.Core.Path.{◌≡◌, sym, ap, subst, ◌∙◌}
use mathlib.Core.Bool.{true}
use mathlib.Core.List.{List}
use Prim.Native.Nat.{ℕ, ◌<◌}
use lib.ListN.{length, get_or}
use Rattle.std.specs.Prelude.{Result, Ok, Err, IsErrAnd, Some}
use Rattle.conditions.specs.Rows.{first}
use Rattle.year.specs.declared.Event.{Event}
use Rattle.year.specs.declared.Status.{Status}
use Rattle.year.specs.Replay.{Progress, replay, after}
use Rattle.year.specs.Status.{status}
use Rattle.year.specs.Setup.{setup_in_range}
use Rattle.year.specs.Admissible.{admissible}
use Rattle.year.proofs.Ranges.{valid-in-range}
use Rattle.progress.specs.State.{MayEnter}
use Rattle.journal.specs.Encode.{append}
use Rattle.journal.specs.Read.{read_journal}
use Rattle.journal.proofs.Reading.{read-stores}
use Rattle.reference.specs.declared.Refusal.{Refusal}
use Rattle.reference.specs.Refused.{number_of, named, unless_refused}
use Rattle.reference.specs.Call.{Entry, Enter, event_of}
use Rattle.reference.specs.Answers.{refusal_on, status_of}
use Rattle.reference.proofs.Refused.{ok-means, err-means, named-refusal}
use Rattle.reference.proofs.Given.{accepted-answer, entry-admissible, entry-room}
use Rattle.reference.proofs.Demand1.{demand-1}
use Rattle.reference.proofs.Demand2.{demand-2}
use Rattle.reference.proofs.Promises.{Promised, promised, refused}
use Rattle.refusals.specs.Parts.{standards_rows, year_rows}
use Rattle.refusals.proofs.Decided.{own, by_own}
use Rattle.slots.specs.Scanned.{year_of}
use Rattle.slots.proofs.Year.{StandsFor, stands}

-- the buffer holds a year, and none of the rows before the entry's own applies
pub record Open (entry : Entry) (journal : List ℕ) (p : Progress) : Type 0 where
  pub size : length journal ≡ 544
  pub fit : 0 ≡ first (standards_rows entry) 0
  pub none : 0 ≡ first (year_rows journal) 0
  pub holds : Some p ≡ year_of (read_journal journal)

pub opened : (entry : Entry) (journal : List ℕ) {p : Progress} → length journal ≡ 544 → 0 ≡ first (standards_rows entry) 0 → 0 ≡ first (year_rows journal) 0
    → Some p ≡ year_of (read_journal journal) → Open entry journal p
opened entry journal size fit none holds = record { size = size; fit = fit; none = none; holds = holds }

module _ (entry : Entry) (journal : List ℕ) (p : Progress) (o : Open entry journal p) (number : ℕ)
    (rows : StandsFor p (read_journal journal) → number ≡ own entry journal) where
  year : StandsFor p (read_journal journal)
  year = stands (read_journal journal) p o.holds

  number-is : number ≡ refusal_on (Enter entry) journal
  number-is = rows year ∙ sym (by_own entry journal o.size o.fit o.none)

  -- refused
  pub declined : (r : Refusal) → Err r ≡ unless_refused number (event_of p entry) → {a : Result Status Refusal} → IsErrAnd a (λ e. e ≡ r) → Promised (Enter entry) journal a journal
  declined r d =
      let m = err-means number (event_of p entry) r d in
      refused (Enter entry) journal r (ap number_of (m.1 ∙ ap named number-is) ∙ named-refusal (Enter entry) journal (λ z. m.0 (number-is ∙ z)))

  -- added
  module _ (event : Event) (d : Ok event ≡ unless_refused number (event_of p entry)) where
    abbrev before : Progress
    before = replay year.setup year.events

    none : refusal_on (Enter entry) journal ≡ 0
    none = sym number-is ∙ (ok-means number (event_of p entry) event d).0

    event-is : event ≡ event_of before entry
    event-is = (ok-means number (event_of p entry) event d).1 ∙ ap (λ q. event_of q entry) year.year

    pub room : get_or journal 24 0 < 64
    room = entry-room entry journal year.setup year.events year.holds none

    pub may_enter : MayEnter event p
    may_enter =
        let valid = (read-stores journal year.setup year.events year.holds).valid in
        record {
          setup = subst (λ (q : Progress). setup_in_range q.setup ≡ true) (sym year.year) (valid-in-range year.setup year.events valid).setup;
          admitted = subst (λ q. admissible q event ≡ true) (sym year.year) (rw event-is (entry-admissible entry journal year.setup year.events year.holds none));
        }

    pub entered : (x : Status) (left : List ℕ) → x ≡ status 1024 (after event p) → left ≡ append journal event → Promised (Enter entry) journal (Ok x) left
    entered x left a j =
        let stored = demand-2.entered entry journal year.setup year.events year.holds none in
        let shown : x ≡ status 1024 (after (event_of before entry) before) = a ∙ ap (λ q. status 1024 (after event q)) year.year ∙ ap (λ v. status 1024 (after v before)) event-is in
        promised (Enter entry) journal (Ok x) left
        (ap Ok shown ∙ sym (accepted-answer (Enter entry) journal none ∙ ap (λ m. Ok (status_of m)) stored))
        (j ∙ ap (append journal) event-is ∙ sym (demand-1.entry_written entry journal year.setup year.events year.holds none))
