-- The marks of the engines before an index, and those of one more.
use mathlib.Core.Path.{◌≡◌, sym, ap, ◌∙◌}
use mathlib.Core.List.{List, [], ◌∷◌, ◌++◌, map, map-append}
use Prim.Native.Nat.{ℕ, ◌+◌, ◌*◌, ◌≤◌}
use native.Mathlib.Omega.{arith}
use lib.ListN.{length, length-map, take}
use Rattle.std.specs.Prelude.{reverse}
use Rattle.std.proofs.Common.{append_assoc}
use Rattle.std.proofs.lemmas.List.{length-reverse}
use Rattle.statistics.specs.declared.Test.{Test}
use Rattle.statistics.specs.Ranges.{HistoryInRange}
use Rattle.cumsum.specs.Marks.{mark, mark_byte}
use Rattle.year.specs.declared.Tested.{Tested}
use Rattle.year.specs.Setup.{Pollutant, Hcnox, Co, of, judged}
use Rattle.year.specs.Replay.{history}
use Rattle.year.specs.Status.{printed_marks}
use Rattle.year.proofs.Kept.{printed-length}
use Rattle.year.proofs.Replayed.{history-length}
use Rattle.figures.specs.declared.Running.{Running}
use Rattle.figures.specs.Running.{running}
use Rattle.engines.proofs.Newest.{newest_first}

-- there are at most forty engines in range, and so at most eighty marks
pub engines_few : (xs : List Tested) → HistoryInRange 40 (history Hcnox (reverse xs)) → length xs ≤ 40
engines_few xs r = omega (arith, r.few, history-length Hcnox (reverse xs), length-reverse xs)

-- an engine as a pollutant sees it
abbrev pub test_of : Pollutant → Tested → Test
test_of q x = record { result = of q x.results; standard = of q x.standards }

module _ (k : ℕ) where
  abbrev pub bytes_of : List Tested → List ℕ
  bytes_of xs = map mark_byte (printed_marks judged k (reverse xs))

  -- two for each engine
  pub bytes_length : (xs : List Tested) → length (bytes_of xs) ≡ 2 * length xs
  bytes_length xs = length-map (printed_marks judged k (reverse xs)) mark_byte ∙ printed-length judged k (reverse xs) ∙ ap (λ (n : ℕ). 2 * n) (length-reverse xs)

  marked : (xs : List Tested) (x : Tested)
      → map mark_byte (printed_marks judged k (x ∷ xs))
      ≡ (map mark_byte (printed_marks judged k xs) ++ mark_byte (mark k (history Hcnox (x ∷ xs))) ∷ []) ++ mark_byte (mark k (history Co (x ∷ xs))) ∷ []
  marked xs x = map-append mark_byte (printed_marks judged k xs) _ ∙ sym (append_assoc (map mark_byte (printed_marks judged k xs)) (_ ∷ []) (_ ∷ []))

  -- the figures and the marks with one more engine, which follows the first i
  module _ (xs : List Tested) (i : ℕ) (x : Tested) (more : take (i + 1) xs ≡ take i xs ++ x ∷ []) where
    newest : reverse (take (i + 1) xs) ≡ x ∷ reverse (take i xs)
    newest = ap (λ (l : List Tested). reverse l) more ∙ newest_first (take i xs) x

    pub next : (h o : Running) (ms : List ℕ) → h ≡ running k (test_of Hcnox x ∷ history Hcnox (reverse (take i xs)))
        → o ≡ running k (test_of Co x ∷ history Co (reverse (take i xs))) → ms ≡ (bytes_of (take i xs) ++ mark_byte h.mark ∷ []) ++ mark_byte o.mark ∷ []
        → (h ≡ running k (history Hcnox (reverse (take (i + 1) xs)))) × (o ≡ running k (history Co (reverse (take (i + 1) xs)))) × (ms ≡ bytes_of (take (i + 1) xs))
    unfolding running
    next h o ms eh eo em = rw newest (eh, eo, em ∙ rw (eh, eo) (sym (marked (reverse (take i xs)) x)))
