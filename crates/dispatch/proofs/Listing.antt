-- The marks call on an output of 80 bytes gives the reply with the marks.
use mathlib.Core.Path.{◌≡◌, ap, sym, ◌∙◌}
use mathlib.Core.List.{List}
use Prim.Native.Nat.{ℕ, ◌≤◌}
use native.Mathlib.Omega.{arith}
use lib.ListN.{length, take}
use Rattle.buffers.specs.Bytes.{put}
use Rattle.buffers.proofs.Lists.{take_put}
use Rattle.journal.specs.Read.{read_journal}
use Rattle.reference.specs.Call.{Marks, Query, Write, Ask}
use Rattle.reference.specs.Answers.{refusal_on, journal_after, out_bytes, out_after, output_answer}
use Rattle.reference.specs.declared.Refusal.{Refusal}
use Rattle.reference.specs.Refused.{number_of}
use Rattle.std.specs.Prelude.{Ok, Err}
use Rattle.buffers.specs.Bytes.{zeros}
use Rattle.reference.specs.Call.{Call}
use Rattle.reference.proofs.Refused.{named-refusal, err-means, ok-means}
use Rattle.reference.proofs.Given.{accepted-gives, refused-gives}
use Rattle.reference.proofs.Demand1.{demand-1, out-fits}
use Rattle.protocol.specs.Reply.{refusal_reply, marks_reply, query_reply}

-- a query leaves the journal unchanged
pub query_keeps : (query : Query) (journal : List ℕ) → journal ≡ journal_after (Ask query) journal
query_keeps query journal = sym (demand-1.query_kept query journal)

-- what a marks call on 80 bytes gives, and the reply to it
module _ (journal : List ℕ) where
  abbrev call : Call
  call = Ask (Write Marks 80)

  abbrev marks : List ℕ
  marks = out_bytes Marks (read_journal journal)

  abbrev number : ℕ
  number = refusal_on call journal

  module _ (refusal : Refusal) (is : Err refusal ≡ output_answer Marks journal (zeros 80)) where
    pub refusal_replied : refusal_reply (number_of refusal) ≡ query_reply (Write Marks 80) journal
    unfolding output_answer
    refusal_replied =
        let m = err-means number (length marks) refusal is in
        ap refusal_reply (ap number_of m.1 ∙ named-refusal call journal m.0)
        ∙ sym (refused-gives call journal (marks_reply marks) (refusal_reply number) m.0)

  module _ (count : ℕ) (is : Ok count ≡ output_answer Marks journal (zeros 80)) where
    accepted : (number ≡ 0) × (count ≡ length marks)
    unfolding output_answer
    accepted = ok-means number (length marks) count is

    pub few_marks : count ≤ 80
    few_marks = omega (arith, accepted.1, out-fits Marks journal 80 accepted.0)

    module _ (after : List ℕ) (left : after ≡ out_after Marks journal (zeros 80)) where
      written : take count after ≡ marks
      unfolding out_after
      written = rw (left, accepted.1, accepted-gives call journal (put (zeros 80) 0 marks) (zeros 80) accepted.0) (take_put (zeros 80) marks)

      pub front_size : length (take count after) ≡ count
      front_size = ap length written ∙ sym accepted.1

      pub marks_replied : marks_reply (take count after) ≡ query_reply (Write Marks 80) journal
      marks_replied = rw written (sym (accepted-gives call journal (marks_reply marks) (refusal_reply number) accepted.0))
