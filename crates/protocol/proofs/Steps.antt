-- A line on a stored journal: the reply and the journal after it, from what its call does to the year.
use mathlib.Core.Path.{◌≡◌, refl, ap, ◌∙◌}
use mathlib.Core.Logic.{◌≢◌}
use mathlib.Core.List.{List, [], ◌∷◌}
use Prim.Native.Nat.{ℕ, ◌<◌}
use native.Mathlib.Omega.{arith}
use lib.ListN.{length}
use Rattle.year.specs.declared.Setup.{Setup}
use Rattle.year.specs.declared.Event.{Event}
use Rattle.year.specs.Replay.{replay}
use Rattle.year.specs.Status.{status}
use Rattle.year.specs.Model.{Year}
use Rattle.journal.specs.Encode.{append}
use Rattle.journal.specs.Read.{read_journal}
use Rattle.reference.specs.Call.{Entry, Marks, Write, Call, Enter, Ask, event_of}
use Rattle.reference.specs.Refusals.{refusal}
use Rattle.reference.specs.Answers.{refusal_on, journal_after, answer, out_bytes}
use Rattle.reference.proofs.Refused.{named-refusal}
use Rattle.reference.proofs.Given.{refused-answer}
use Rattle.reference.proofs.Demand1.{demand-1}
use Rattle.protocol.specs.KeyLine.{Make, command_of}
use Rattle.protocol.specs.Reply.{refusal_reply, answer_reply, status_reply, marks_reply, reply_to, journal_after_line}
use Rattle.protocol.specs.Run.{replies}

-- what a line does to a journal
pub record Does (line journal reply next : List ℕ) : Type 0 where
  pub replied : reply_to line journal ≡ reply
  pub left : journal_after_line line journal ≡ next

-- a journal that is read as a year
pub record Stored (journal : List ℕ) (s : Setup) (es : List Event) : Type 0 where
  pub size : length journal ≡ 544
  pub is_year : read_journal journal ≡ Year s es

module _ (journal line : List ℕ) (s : Setup) (es : List Event) (stored : Stored journal s es) where
  on-year : (call : Call) (r : ℕ) → refusal 544 call (Year s es) ≡ r → refusal_on call journal ≡ r
  on-year call r h = rw (stored.size, stored.is_year) h

  -- an accepted entry
  module _ (entry : Entry) (next : List ℕ) (made : command_of line ≡ Make (Enter entry)) (fine : refusal 544 (Enter entry) (Year s es) ≡ 0)
      (appended : append journal (event_of (replay s es) entry) ≡ next) (after : Stored next s (event_of (replay s es) entry ∷ es)) where
    entered : journal_after (Enter entry) journal ≡ next
    unfolding journal_after
    entered = rw (on-year (Enter entry) 0 fine, stored.is_year) appended

    pub entry-does : Does line journal (status_reply (status 1024 (replay s (event_of (replay s es) entry ∷ es)))) next
    unfolding reply_to journal_after_line answer
    entry-does =
        record {
          replied = rw (made, on-year (Enter entry) 0 fine, entered, after.is_year);
          left = rw made entered;
        }

  -- a refused entry
  module _ (entry : Entry) (r : ℕ) (made : command_of line ≡ Make (Enter entry)) (refused : refusal 544 (Enter entry) (Year s es) ≡ r) (some : 0 < r) where
    pub refused-does : Does line journal (refusal_reply r) journal
    unfolding reply_to journal_after_line
    refused-does =
        let no = on-year (Enter entry) r refused in
        let f : refusal_on (Enter entry) journal ≢ 0 = omega (arith, no, some) in
        let told = ap answer_reply (refused-answer (Enter entry) journal f) ∙ ap refusal_reply (named-refusal (Enter entry) journal f ∙ no) in
        record { replied = rw made told; left = rw made (demand-1.refused_journal (Enter entry) journal f) }

  -- the marks
  pub marks-does : (size : ℕ) → command_of line ≡ Make (Ask (Write Marks size)) → refusal 544 (Ask (Write Marks size)) (Year s es) ≡ 0
      → Does line journal (marks_reply (out_bytes Marks (Year s es))) journal
  unfolding reply_to journal_after_line answer journal_after
  marks-does size made h =
      let fine = on-year (Ask (Write Marks size)) 0 h in
      record { replied = rw (made, fine, stored.is_year); left = rw (made, fine) }

-- lines one after the other, each on the journal that the last one left
pub data Runs : List ℕ → List (List ℕ) → List (List ℕ) → Type 0 where
  end : {journal : List ℕ} → Runs journal [] []
  then : {line journal reply next : List ℕ} {lines rest : List (List ℕ)} → Does line journal reply next → Runs next lines rest
      → Runs journal (line ∷ lines) (reply ∷ rest)

pub runs-replies : {journal : List ℕ} {lines rest : List (List ℕ)} → Runs journal lines rest → replies journal lines ≡ rest
runs-replies end = refl
runs-replies (then d r) = rw (d.replied, d.left, runs-replies r)
