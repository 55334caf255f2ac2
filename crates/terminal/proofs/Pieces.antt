-- Bytes of the input taken one after another.
use mathlib.Core.Path.{◌≡◌, refl, sym, ◌∙◌}
use mathlib.Core.Bool.{Bool, true, false}
use mathlib.Core.List.{List, [], ◌∷◌, ◌++◌}
use Prim.Native.Nat.{ℕ, ◌+◌, ◌<◌, ◌≤◌}
use native.Mathlib.Omega.{arith}
use native.Mathlib.Numerals.{add-one}
use lib.ListN.{length, take, get_or}
use lib.Seq.{take-suc}
use Rattle.buffers.specs.Bytes.{zeros}
use Rattle.protocol.specs.Console.{held_at, journal_at, held_after, journal_past, journal_at_end}
use Rattle.protocol.proofs.Console.{console}
use Rattle.terminal.specs.declared.Calculator.{Calculator}
use Rattle.terminal.specs.declared.Stop.{Stop}
use Rattle.terminal.specs.declared.Stop.TheVariants.{InputEnded, OutputClosed, ReadsSpent}
use Rattle.terminal.specs.Taken.{Kept, Taken, Fetched, goes_on, start, Answered}

held_on : (a b line : List ℕ) → held_after (a ++ b) line ≡ held_after b (held_after a line)
held_on [] b line = refl
held_on (x ∷ xs) b line = held_on xs b (held_at x line)

journal-on : (a b line journal : List ℕ) → journal_past (a ++ b) line journal ≡ journal_past b (held_after a line) (journal_past a line journal)
journal-on [] b line journal = refl
journal-on (x ∷ xs) b line journal = journal-on xs b (held_at x line) (journal_at x line journal)

module _ {from mid to : Calculator} where
  -- bytes taken after other bytes
  onto : (a b : List ℕ) → Kept a from mid → Kept b mid to → Kept (a ++ b) from to
  onto a b k m =
      record {
        holds = m.holds ∙ rw k.holds (sym (held_on a b from.line));
        leaves = m.leaves ∙ rw (k.holds, k.leaves) (sym (journal-on a b from.line from.journal));
      }

  -- one more byte of a piece
  pub one_more : (piece : List ℕ) (i : ℕ) → i < length piece → Kept (take i piece) from mid → to.line ≡ held_at (get_or piece i 0) mid.line
      → to.journal ≡ journal_at (get_or piece i 0) mid.line mid.journal → Kept (take (i + 1) piece) from to
  one_more piece i h k holds leaves =
      rw (add-one, take-suc piece i 0) (onto (take i piece) (get_or piece i 0 ∷ []) k (record { holds = holds; leaves = leaves }))

-- all bytes of an input are taken, and then the line held is answered
all-answered : {to left : Calculator} (input : List ℕ) → Kept input start to → left.line ≡ to.line → left.journal ≡ journal_at_end to.line to.journal
    → Answered InputEnded left
all-answered input k same e = (input, same ∙ k.holds, e ∙ rw (k.holds, k.leaves) (console.stored input))

-- no read is made yet
pub nothing_fetched : (piece : List ℕ) (c : Calculator) → piece ≡ [] → Fetched 0 true piece c c
nothing_fetched piece c none =
    let nothing : Kept [] c c = record { holds = refl; leaves = refl } in
    record { before = []; first = λ _. refl; between = c; earlier = nothing; last = rw none nothing }

module _ {from mid : Calculator} {piece : List ℕ} {read : ℕ} where
  -- one more read is made
  pub next_fetched : {all : Bool} {next : List ℕ} {to : Calculator} → Fetched read true piece from mid → (read ≡ 0 → piece ≡ []) → Taken all next mid to
      → Fetched (read + 1) all next from to
  next_fetched f none t =
      record {
        before = f.before ++ piece;
        first = λ one. rw (f.first (omega arith), none (omega arith)) refl;
        between = mid;
        earlier = onto f.before piece f.earlier f.last;
        last = t;
      }

  -- where more reads may be made
  pub more_allowed : {most : ℕ} {all : Bool} → read ≤ most → Fetched read all piece from mid → Fetched most all piece from mid
  more_allowed few f = record { before = f.before; first = λ one. f.first (omega arith); between = f.between; earlier = f.earlier; last = f.last }

  pub last_fetched : {most : ℕ} {all : Bool} {next : List ℕ} {to : Calculator} → read < most → Fetched read true piece from mid → (read ≡ 0 → piece ≡ [])
      → Taken all next mid to → Fetched most all next from to
  last_fetched few f none t =
      let g = next_fetched f none t in
      record { before = g.before; first = λ one. g.first (omega arith); between = g.between; earlier = g.earlier; last = g.last }

module _ {from to : Calculator} (empty : from.line ≡ []) (zeroed : from.journal ≡ zeros 544) where
  -- from document 01's start, what was taken is some input
  from-start : (input : List ℕ) → Kept input from to → (i : List ℕ) × Kept i start to
  from-start input k = (input, record { holds = rw empty at k.holds; leaves = rw (empty, zeroed) at k.leaves })

  some-input : {piece : List ℕ} {read : ℕ} (all : Bool) → Fetched read all piece from to → (input : List ℕ) × Kept input start to
  some-input {piece} true f = from-start (f.before ++ piece) (onto f.before piece f.earlier f.last)
  some-input {piece} false f = from-start (f.before ++ take f.last.0 piece) (onto f.before (take f.last.0 piece) f.earlier f.last.1)

  -- the input has ended, and the line held is answered; or it has not ended
  pub ended : {piece : List ℕ} {read : ℕ} → Fetched read true piece from to → (left : Calculator) → left.line ≡ to.line → left.journal ≡ journal_at_end to.line to.journal
      → Answered InputEnded left
  ended f left same e =
      let k = some-input true f in
      all-answered k.0 k.1 same e

  pub not_ended : {piece : List ℕ} {read : ℕ} (stop : Stop) → (stop ≡ InputEnded → ⊥) → Fetched read (goes_on stop) piece from to → Answered stop to
  not_ended InputEnded other f = absurd (other refl)
  not_ended OutputClosed other f = some-input false f
  not_ended ReadsSpent other f = some-input true f
