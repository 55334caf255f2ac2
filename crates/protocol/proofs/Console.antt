-- Taking the input byte by byte, with at most 65 bytes of a line held, prints the whole run.
use mathlib.Core.Path.{◌≡◌, refl, sym, ap, ◌∙◌}
use mathlib.Core.Logic.{◌⊎◌, inl, inr, ⊎_elim}
use mathlib.Core.Bool.{Bool, true, false}
use mathlib.Core.List.{List, [], ◌∷◌, ◌++◌, append-nil, append_assoc}
use Prim.Native.Nat.{ℕ, ◌≤◌, ◌<◌}
use native.Mathlib.Omega.{arith}
use lib.Dec.{eqb, leb}
use lib.ListN.{length, take}
use lib.Seq.{length-take-le, take_all, take_at, take-append-le}
use borrow.Author.Tests.{lt-ltb, leb-true, leb-false}
use Rattle.ascii.specs.Text.{byte}
use Rattle.protocol.specs.KeyLine.{Refuse, command_of}
use Rattle.protocol.specs.Reply.{reply_to, journal_after_line}
use Rattle.protocol.specs.Run.{before_first, lines_of, replies, journal_after_lines, printed}
use Rattle.protocol.specs.Console.{held, journal_at_end, output, held_after, journal_past, Console}

-- a line of more than 64 bytes is refused by 1, whatever they are
long : (line : List ℕ) → 64 < length line → command_of line ≡ Refuse 1
unfolding command_of
long line h = rw (lt-ltb 64 (length line) h)

-- a line has at most 65 bytes, or it is longer
either-length : (n : ℕ) → (n ≤ 65) ⊎ (65 < n)
either-length n = by (leb n 65) refl
  where
    by : (b : Bool) → leb n 65 ≡ b → (n ≤ 65) ⊎ (65 < n)
    by true e = inl (leb-true n 65 e)
    by false e = inr (leb-false n 65 e)

module _ (line : List ℕ) where
  -- a line of up to 65 bytes is held whole, and after that no byte is added
  at_most : length line ≤ 65 → take 65 line ≡ line
  at_most = take_all 65 line

  cut : 65 ≤ length line → length (take 65 line) ≡ 65
  cut = length-take-le 65 line

  same-command : command_of (take 65 line) ≡ command_of line
  same-command =
      ⊎_elim
      (λ h. ap command_of (at_most h))
      (λ h. long (take 65 line) (omega (arith, cut (omega arith))) ∙ sym (long line (omega arith)))
      (either-length (length line))

  pub same-reply : (journal : List ℕ) → reply_to (take 65 line) journal ≡ reply_to line journal
  unfolding reply_to
  same-reply journal = rw same-command

  pub same-journal : (journal : List ℕ) → journal_after_line (take 65 line) journal ≡ journal_after_line line journal
  unfolding journal_after_line
  same-journal journal = rw same-command

  held_more : (b : ℕ) → held (take 65 line) b ≡ take 65 (line ++ (b ∷ []))
  held_more b =
      ⊎_elim
      (λ h. ap (λ l. take 65 (l ++ (b ∷ []))) (at_most h))
      (λ h. take_at (take 65 line) (b ∷ []) 65 (cut (omega arith)) ∙ sym (take-append-le 65 line (b ∷ []) (omega arith)))
      (either-length (length line))

-- the start of a line, joined to the lines of the input that follows it
abbrev onto : List ℕ → List (List ℕ) → List (List ℕ)
onto [] lines = lines
onto (b ∷ bs) [] = (b ∷ bs) ∷ []
onto (b ∷ bs) (line ∷ lines) = ((b ∷ bs) ++ line) ∷ lines

onto-byte : (start : List ℕ) (b : ℕ) (lines : List (List ℕ)) → onto start (before_first b lines) ≡ onto (start ++ (b ∷ [])) lines
onto-byte [] b [] = refl
onto-byte [] b (line ∷ lines) = refl
onto-byte (x ∷ xs) b [] = refl
onto-byte (x ∷ xs) b (line ∷ lines) = ap (λ l. (x ∷ l) ∷ lines) (sym (append_assoc xs (b ∷ []) line))

onto-end : (start : List ℕ) (lines : List (List ℕ)) → onto start ([] ∷ lines) ≡ start ∷ lines
onto-end [] lines = refl
onto-end (x ∷ xs) lines = ap (λ l. (x ∷ l) ∷ lines) (append-nil xs)

-- after the start of a line, the rest of the input prints, and leaves in the journal, what the lines that the two make do
abbrev Goes : List ℕ → List ℕ → List ℕ → Type 0
Goes input journal start =
    (output journal (take 65 start) input ≡ printed (replies journal (onto start (lines_of input))))
    × (journal_at_end (held_after input (take 65 start)) (journal_past input (take 65 start) journal) ≡ journal_after_lines journal (onto start (lines_of input)))

-- the input ends
ended : (journal start : List ℕ) → Goes [] journal start
ended journal [] = (refl, refl)
ended journal (b ∷ bs) = (ap (λ reply. reply ++ (byte "\n" ∷ [])) (same-reply (b ∷ bs) journal), same-journal (b ∷ bs) journal)

-- one more byte, given the claim for the rest after it: the line ends, or it goes on
one_byte : (b : ℕ) (bs journal start : List ℕ) → Goes bs (journal_after_line start journal) [] → Goes bs journal (start ++ (b ∷ [])) → Goes (b ∷ bs) journal start
one_byte b bs journal start next more = by (eqb b (byte "\n")) refl
  where
    by : (newline : Bool) → eqb b (byte "\n") ≡ newline → Goes (b ∷ bs) journal start
    by true e = (
      rw (e, onto-end start (lines_of bs), same-reply start journal, same-journal start journal, next.0, append_assoc),
      rw (e, onto-end start (lines_of bs), same-journal start journal) next.1,
    )
    by false e = rw (e, onto-byte start b (lines_of bs), held_more start b) more

-- any rest of an input after any start of a line
from_start : (input journal start : List ℕ) → Goes input journal start
from_start [] journal start = ended journal start
from_start (b ∷ bs) journal start =
    one_byte b bs journal start (from_start bs (journal_after_line start journal) []) (from_start bs journal (start ++ (b ∷ [])))

pub console : Console
console = record { whole = λ input. (from_start input _ []).0; stored = λ input. (from_start input _ []).1 }
