-- A T line is an E line that only asks: the numbers of a line do not depend on its letter, and a preview is answered as the engine's entry is.
use mathlib.Core.Path.{◌≡◌, refl, ap, ◌∙◌}
use mathlib.Core.Bool.{Bool, true, false, cond, false≢true}
use mathlib.Core.List.{List, [], ◌∷◌}
use Prim.Native.Nat.{ℕ, zero, suc, ◌+◌, ◌%◌, ◌≤◌}
use native.Mathlib.Omega.{arith}
use lib.Dec.{eqb, ltb}
use lib.ListN.{length, take, drop}
use borrow.Author.Tests.{eqb-true}
use Rattle.std.specs.Prelude.{Option, Some, None}
use Rattle.ascii.specs.Text.{byte}
use Rattle.ascii.specs.Decimal.{digits, spelt}
use Rattle.reference.specs.Call.{EnterEngine, Preview, Enter, Ask}
use Rattle.reference.proofs.Demand1.{demand-1}
use Rattle.reference.proofs.Preview.{answered-as}
use Rattle.protocol.specs.declared.Number.{Number}
use Rattle.protocol.specs.Number.{is_number, number_at}
use Rattle.protocol.specs.KeyLine.{space_at, spaced_number, and_then, numbers_from, number_from, readings_from, call_of, Command, Refuse, asked, call_from, command_of}
use Rattle.protocol.specs.Reply.{answer_reply, command_reply, command_after, reply_to, journal_after_line}
use Rattle.protocol.specs.Run.{replies, journal_after_lines}
use Rattle.protocol.specs.Preview.{is_preview_line, without_preview_lines, other_replies, PreviewLinePromises}

-- ---- the numbers after a letter

-- a number ends behind its place
number-behind : (line : List ℕ) (position : ℕ) (number : Number) → number_at line position ≡ Some number → position ≤ number.next
unfolding number_at
number-behind line position number e = by (is_number line position (digits (drop position line))) e
  where
    by : (b : Bool) → cond b (Some (record { value = spelt 0 (take (digits (drop position line)) (drop position line)); next = position + digits (drop position line) })) None ≡ Some number
        → position ≤ number.next
    by true h = grind arith
    by false h = absurd (grind arith)

spaced-behind : (line : List ℕ) (position : ℕ) (number : Number) → spaced_number line position ≡ Some number → position ≤ number.next
unfolding spaced_number
spaced-behind line position number e = by (space_at line position) e
  where
    by : (b : Bool) → cond b (number_at line (position + 1)) None ≡ Some number → position ≤ number.next
    by true h = omega (arith, number-behind line (position + 1) number h)
    by false h = absurd (grind arith)

-- the same numbers behind two letters
module _ (a b : ℕ) (rest : List ℕ) where
  one-place : (position : ℕ) → number_at (a ∷ rest) (suc position) ≡ number_at (b ∷ rest) (suc position)
  unfolding number_at is_number
  one-place position = refl

  one-number : (position : ℕ) → spaced_number (a ∷ rest) (suc position) ≡ spaced_number (b ∷ rest) (suc position)
  unfolding spaced_number
  one-number position =
      let next : suc position + 1 ≡ suc (position + 1) = omega arith in
      rw next (ap (λ n. cond (space_at (b ∷ rest) (suc position)) n None) (one-place (position + 1)))

  same-numbers : (most position : ℕ) → 1 ≤ position → numbers_from most (a ∷ rest) position ≡ numbers_from most (b ∷ rest) position
  unfolding numbers_from
  same-numbers zero position l = refl
  same-numbers (suc most) zero l = absurd (omega arith)
  same-numbers (suc most) (suc position) l =
      rw (one-number position) (ap (cond (eqb (suc position) (length (b ∷ rest))) (Some [])) (by (same-numbers most) (spaced_number (b ∷ rest) (suc position)) refl))
    where
      by : ((next : ℕ) → 1 ≤ next → numbers_from most (a ∷ rest) next ≡ numbers_from most (b ∷ rest) next)
          → (read : Option Number) → spaced_number (b ∷ rest) (suc position) ≡ read → and_then read (numbers_from most (a ∷ rest)) ≡ and_then read (numbers_from most (b ∷ rest))
      by more None e = refl
      by more (Some number) e = rw (more number.next (omega (arith, spaced-behind (b ∷ rest) (suc position) number e)))

-- ---- a T line and the E line with the same numbers

-- what a line of a letter asks for, from its numbers
abbrev command : ℕ → Bool → Option (List ℕ) → Command
command letter long numbers = cond long (Refuse 1) (asked (call_from letter numbers))

module _ (rest journal : List ℕ) where
  -- the numbers, read behind E
  abbrev numbers : Option (List ℕ)
  numbers = numbers_from (length (byte "E" ∷ rest)) (byte "E" ∷ rest) 1

  abbrev long : Bool
  long = ltb 64 (length (byte "E" ∷ rest))

  command-of-T : command_of (byte "T" ∷ rest) ≡ command (byte "T") long numbers
  unfolding command_of
  command-of-T = rw (same-numbers (byte "T") (byte "E") rest (length (byte "E" ∷ rest)) 1 (omega arith))

  replied-as : reply_to (byte "T" ∷ rest) journal ≡ reply_to (byte "E" ∷ rest) journal
  unfolding reply_to command_of call_of
  replied-as = ap (λ c. command_reply c journal) command-of-T ∙ by long numbers
    where
      pairs : (vs : List ℕ) (b : Bool) → command_reply (asked (cond b (Some (Ask (Preview (number_from vs) (readings_from vs)))) None)) journal
          ≡ command_reply (asked (cond b (Some (Enter (EnterEngine (number_from vs) (readings_from vs)))) None)) journal
      pairs vs true = ap answer_reply (answered-as (number_from vs) (readings_from vs) journal)
      pairs vs false = refl

      by : (l : Bool) (ns : Option (List ℕ)) → command_reply (command (byte "T") l ns) journal ≡ command_reply (command (byte "E") l ns) journal
      by true ns = refl
      by false None = refl
      by false (Some vs) = pairs vs (eqb (length vs % 2) 1)

  kept : journal_after_line (byte "T" ∷ rest) journal ≡ journal
  unfolding journal_after_line command_of call_of
  kept = ap (λ c. command_after c journal) command-of-T ∙ by long numbers
    where
      pairs : (vs : List ℕ) (b : Bool) → command_after (asked (cond b (Some (Ask (Preview (number_from vs) (readings_from vs)))) None)) journal ≡ journal
      pairs vs true = demand-1.query_kept (Preview (number_from vs) (readings_from vs)) journal
      pairs vs false = refl

      by : (l : Bool) (ns : Option (List ℕ)) → command_after (command (byte "T") l ns) journal ≡ journal
      by true ns = refl
      by false None = refl
      by false (Some vs) = pairs vs (eqb (length vs % 2) 1)

-- ---- lists of lines

preview-line-keeps : (line journal : List ℕ) → is_preview_line line ≡ true → journal_after_line line journal ≡ journal
preview-line-keeps [] journal h = absurd (false≢true h)
preview-line-keeps (b ∷ rest) journal h = rw (eqb-true b (byte "T") h) (kept rest journal)

left : (journal : List ℕ) (lines : List (List ℕ)) → journal_after_lines journal lines ≡ journal_after_lines journal (without_preview_lines lines)
left journal [] = refl
left journal (line ∷ lines) = by (λ j. left j lines) (is_preview_line line) refl
  where
    by : ((j : List ℕ) → journal_after_lines j lines ≡ journal_after_lines j (without_preview_lines lines)) → (b : Bool) → is_preview_line line ≡ b
        → journal_after_lines (journal_after_line line journal) lines ≡ journal_after_lines journal (cond b (without_preview_lines lines) (line ∷ without_preview_lines lines))
    by rest true e = rw (preview-line-keeps line journal e) (rest journal)
    by rest false e = rest (journal_after_line line journal)

others : (journal : List ℕ) (lines : List (List ℕ)) → other_replies journal lines ≡ replies journal (without_preview_lines lines)
others journal [] = refl
others journal (line ∷ lines) = by (λ j. others j lines) (is_preview_line line) refl
  where
    by : ((j : List ℕ) → other_replies j lines ≡ replies j (without_preview_lines lines)) → (b : Bool) → is_preview_line line ≡ b
        → cond b (other_replies (journal_after_line line journal) lines) (reply_to line journal ∷ other_replies (journal_after_line line journal) lines)
        ≡ replies journal (cond b (without_preview_lines lines) (line ∷ without_preview_lines lines))
    by rest true e = rw (preview-line-keeps line journal e) (rest journal)
    by rest false e = ap (λ r. reply_to line journal ∷ r) (rest (journal_after_line line journal))

pub preview-line-promises : PreviewLinePromises
preview-line-promises = record { replied_as = replied-as; kept = kept; left = left; others = others }
