-- What an exported function answers, and what it leaves in the slices lent to it. If a slice is too short for what is to be written at its front, nothing is
-- done; otherwise the answer is the call's own (document 01, "How far a contract must reach").
use Rattle.std.specs.Prelude.{◌≡◌, cond, List, ℕ, ◌<◌, ltb, length}
use Rattle.buffers.specs.Bytes.{put}
use Rattle.reference.specs.Call.{engine_entry, engine_preview, Call, Enter, Ask}
use Rattle.reference.specs.Answers.{outcome, journal_after}
use Rattle.protocol.specs.Reply.{reply_to, journal_after_line}
use Rattle.exports.specs.Numbers.{status_numbers}

-- the first value if a lent slice is shorter than `size`, otherwise the second
module _ {A : Type 0} where
  abbrev pub if_short : ℕ → List ℕ → A → A → A
  if_short size lent short long = cond (ltb (length lent) size) short long

-- a key line: the length of its reply (0, which no reply has, if the output is shorter than 96 bytes), the output, the journal
module _ (line journal out : List ℕ) where
  unfoldable pub reply_count : ℕ
  reply_count = if_short 96 out 0 (length (reply_to line journal))

  unfoldable pub reply_left : List ℕ
  reply_left = if_short 96 out out (put out 0 (reply_to line journal))

  unfoldable pub line_left : List ℕ
  line_left = if_short 96 out journal (journal_after_line line journal)

-- a call that answers a status: its refusal, 0 for none (255, which no refusal is, if there is no room for twenty figures), the figures, the journal
module _ (call : Call) (journal figures : List ℕ) where
  unfoldable pub refusal_given : ℕ
  refusal_given = if_short 20 figures 255 (outcome call journal).refusal

  unfoldable pub figures_left : List ℕ
  figures_left = if_short 20 figures figures (put figures 0 (status_numbers (outcome call journal).status))

  unfoldable pub journal_left : List ℕ
  journal_left = if_short 20 figures journal (journal_after call journal)

-- 0 and 255 mean that a slice is too short, and nothing else
pub record ShortApart : Type 0 where
  pub reply : (line journal out : List ℕ) → reply_count line journal out ≡ 0 → length out < 96
  pub figures : (call : Call) (journal figures : List ℕ) → refusal_given call journal figures ≡ 255 → length figures < 20

-- document 02, W-202, for a program in another language: the preview of an engine returns what its entry would, and leaves the figures that the entry would
pub record Previews : Type 0 where
  pub refusal : (number : ℕ) (hcnox co journal figures : List ℕ)
      → refusal_given (Ask (engine_preview number hcnox co)) journal figures ≡ refusal_given (Enter (engine_entry number hcnox co)) journal figures
  pub figures : (number : ℕ) (hcnox co journal figures : List ℕ)
      → figures_left (Ask (engine_preview number hcnox co)) journal figures ≡ figures_left (Enter (engine_entry number hcnox co)) journal figures
