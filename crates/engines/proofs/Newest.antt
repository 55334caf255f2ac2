-- The engines in order of entry, seen with the newest first: a look-up, a count, one more engine, one less, and the engines before an index.
use mathlib.Core.Path.{◌≡◌, refl, sym, ap, subst, ◌∙◌}
use mathlib.Core.Bool.{Bool, cond, ◌||◌}
use mathlib.Core.List.{List, [], ◌∷◌, ◌++◌}
use Prim.Native.Nat.{ℕ, ◌+◌, ◌-◌, ◌≤◌}
use native.Mathlib.Omega.{arith}
use lib.Dec.{eqb}
use lib.ListN.{length, take, drop}
use Rattle.std.specs.Prelude.{reverse, count_by}
use Rattle.std.specs.List.{list_any}
use Rattle.std.proofs.lemmas.List.{reverse-append, reverse-reverse, length-append, take-append-drop}
use Rattle.std.proofs.Math.Seq.{take-append_seam}
use Rattle.std.proofs.lemmas.List.Sorted.{IsPermutation-reverse, list_any-IsPermutation, sum_by-IsPermutation}
use Rattle.year.specs.declared.Tested.{Tested}
use Rattle.year.specs.declared.Pair.{Pair}
use Rattle.year.specs.Setup.{Pollutant, Hcnox, Co, of}
use Rattle.statistics.specs.declared.Test.{Test}
use Rattle.year.specs.Replay.{history, is_tested, newest_in}
use Rattle.year.proofs.Replayed.{history-length}
use Rattle.statistics.specs.Ranges.{TestsInRange, HistoryInRange}
use Rattle.figures.specs.declared.Running.{Running}
use Rattle.figures.specs.Running.{running, RunningInRange}

tested_by : (number : ℕ) (xs : List Tested) → list_any (λ x. eqb x.number number) xs ≡ is_tested number xs
tested_by number [] = refl
tested_by number (x ∷ xs) = ap (λ (b : Bool). eqb x.number number || b) (tested_by number xs)

-- a look-up in order of entry finds what one from the newest on finds
pub tested_any : (number : ℕ) (xs : List Tested) → list_any (λ x. eqb x.number number) xs ≡ is_tested number (reverse xs)
tested_any number xs = list_any-IsPermutation (λ x. eqb x.number number) xs (reverse xs) (IsPermutation-reverse xs) ∙ tested_by number (reverse xs)

-- as many pass a test
pub counted_any : (test : Tested → Bool) (xs : List Tested) → count_by test xs ≡ count_by test (reverse xs)
counted_any test xs = sym (sum_by-IsPermutation (λ x. cond (test x) 1 0) xs (reverse xs) (IsPermutation-reverse xs))

pub newest_first : (xs : List Tested) (x : Tested) → reverse (xs ++ x ∷ []) ≡ x ∷ reverse xs
newest_first xs x = reverse-append xs (x ∷ [])

pub newest_last : (xs : List Tested) (x : Tested) (period : ℕ) → newest_in period (reverse (xs ++ x ∷ [])) ≡ eqb x.period period
newest_last xs x period = rw (newest_first xs x)

-- the newest is the last
fewer : (ys : List Tested) → reverse (take (length (reverse ys) - 1) (reverse ys)) ≡ drop 1 ys
fewer [] = refl
fewer (y ∷ zs) =
    let last : reverse (y ∷ zs) ≡ reverse zs ++ y ∷ [] = reverse-append (y ∷ []) zs in
    let size : length (reverse zs ++ y ∷ []) - 1 ≡ length (reverse zs) = omega (arith, length-append (reverse zs) (y ∷ [])) in
    ap (λ (l : List Tested). reverse (take (length l - 1) l)) last
    ∙ ap (λ (n : ℕ). reverse (take n (reverse zs ++ y ∷ []))) size
    ∙ ap (λ (l : List Tested). reverse l) (take-append_seam (reverse zs) (y ∷ []))
    ∙ reverse-reverse zs

pub rest_newest : (xs : List Tested) → reverse (take (length xs - 1) xs) ≡ drop 1 (reverse xs)
rest_newest xs = rw reverse-reverse at (fewer (reverse xs))

tests-after : (q : Pollutant) (xs ys : List Tested) → TestsInRange (history q (xs ++ ys)) → TestsInRange (history q ys)
tests-after q [] ys r = r
tests-after q (x ∷ xs) ys r = tests-after q xs ys r.2

-- the figures of the engines before an index take the engine at it
pub room : (q : Pollutant) (xs : List Tested) (k i : ℕ) (x : Tested) (f : Running) → take (i + 1) xs ≡ take i xs ++ x ∷ [] → k ≤ 8192
    → HistoryInRange 40 (history q (reverse xs)) → f ≡ running k (history q (reverse (take i xs))) → RunningInRange k f (of q x.results)
room q xs k i x f more fine r w =
    let before = reverse (take i xs) in
    let after = reverse (drop (i + 1) xs) in
    let split : reverse xs ≡ after ++ reverse (take (i + 1) xs) =
    ap (λ (l : List Tested). reverse l) (sym (take-append-drop (i + 1) xs)) ∙ reverse-append (take (i + 1) xs) (drop (i + 1) xs) in
    let newest : reverse (take (i + 1) xs) ≡ x ∷ before = ap (λ (l : List Tested). reverse l) more ∙ newest_first (take i xs) x in
    let whole : reverse xs ≡ after ++ x ∷ before = split ∙ ap (λ (l : List Tested). after ++ l) newest in
    let tests = tests-after q after (x ∷ before) (subst (λ l. TestsInRange (history q l)) whole r.tests) in
    record {
      history = history q before;
      worked = w;
      in_range = record { few = omega (arith, r.few, history-length q (reverse xs), history-length q before, ap length whole, length-append after (x ∷ before)); tests = tests.2 };
      result = tests.0;
      fine = fine;
    }

-- of both pollutants, under any standards
pub rooms : (xs : List Tested) (k i : ℕ) (x : Tested) (f : Pair Running) (t : Pair Test) → take (i + 1) xs ≡ take i xs ++ x ∷ [] → k ≤ 8192
    → ((q : Pollutant) → HistoryInRange 40 (history q (reverse xs)))
    → record { hcnox : f.hcnox ≡ running k (history Hcnox (reverse (take i xs))); co : f.co ≡ running k (history Co (reverse (take i xs))) }
    → record { hcnox : t.hcnox.result ≡ x.results.hcnox; co : t.co.result ≡ x.results.co }
    → record { hcnox : RunningInRange k f.hcnox t.hcnox.result; co : RunningInRange k f.co t.co.result }
rooms xs k i x f t more fine r w e =
    record { hcnox = rw e.hcnox (room Hcnox xs k i x f.hcnox more fine (r Hcnox) w.hcnox); co = rw e.co (room Co xs k i x f.co more fine (r Co) w.co) }
