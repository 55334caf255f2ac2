-- Work at m compared with the calculator's work, for a year: the marks in printed order, the verdict, the intervals.
use mathlib.Core.Path.{◌≡◌, refl, sym, ap, ◌∙◌}
use mathlib.Core.Logic.{◌≢◌}
use mathlib.Core.Bool.{Bool, true, false, cond, ◌||◌, So, false≢true}
use mathlib.Core.List.{List, [], ◌∷◌, ◌++◌, Forall₂}
use Prim.Native.Nat.{ℕ, ◌*◌, ◌-◌, ◌≤◌}
use native.Mathlib.Omega.{arith}
use lib.ListN.{length, drop, length-drop}
use Rattle.cumsum.specs.declared.Mark.{Mark}
use Rattle.cumsum.specs.Marks.{marks, failed, undecided}
use Rattle.cumsum.proofs.Finer.{inside-within, cumsum-inside, limit-inside, cumsum-width, limit-width}
use Rattle.cumsum.proofs.MarksFiner.{Refined, mark-refined, marks-refined, refined-lists}
use Rattle.cumsum.proofs.Patterns.{or_map, or-exchange, failed-stays, undecided-was}
use Rattle.year.specs.declared.Setup.{Setup}
use Rattle.year.specs.declared.Event.{Event}
use Rattle.year.specs.Setup.{Pollutant, some, judged}
use Rattle.year.specs.Replay.{Progress, replay, history}
use Rattle.year.specs.declared.Tested.{Tested}
use Rattle.year.specs.Verdict.{verdict}
use Rattle.year.specs.Status.{newest_marks, printed_marks}
use Rattle.year.proofs.Replayed.{history-length}
use Rattle.year.specs.Work.{at_engine}
use Rattle.year.specs.FinerWork.{FinerWork}

-- lists related element by element are still so when joined
related-append : {R : Mark → Mark → Type 0} {l l' n n' : List Mark} → Forall₂ R l l' → Forall₂ R n n' → Forall₂ R (l ++ n) (l' ++ n')
related-append Forall₂.nil s = s
related-append (Forall₂.cons a r) s = Forall₂.cons a (related-append r s)

-- The rows of the verdict that depend on marks, as plain Boolean tests.
rows-finer : (declared f u f' u' : Bool) (rest : ℕ) → (So f → So f') → (So (f' || u') → So (f || u)) → cond declared 7 (cond f 6 (cond u 5 rest)) ≢ 5
    → cond declared 7 (cond f' 6 (cond u' 5 rest)) ≡ cond declared 7 (cond f 6 (cond u 5 rest))
rows-finer true f u f' u' rest a b n = refl
rows-finer false true u true u' rest a b n = refl
rows-finer false true u false u' rest a b n = absurd (false≢true (a refl))
rows-finer false false true f' u' rest a b n = absurd (n refl)
rows-finer false false false true u' rest a b n = absurd (false≢true (b refl))
rows-finer false false false false true rest a b n = absurd (false≢true (b refl))
rows-finer false false false false false rest a b n = refl

-- `some` over the pollutants is monotone in its test
some-map : {f g : Pollutant → Bool} (qs : List Pollutant) → ((q : Pollutant) → So (f q) → So (g q)) → So (some f qs) → So (some g qs)
some-map [] h t = t
some-map (q ∷ []) h t = h q t
some-map (q ∷ r ∷ qs) h t = or_map (h q) (some-map (r ∷ qs) h) t

some_or : (f g : Pollutant → Bool) (qs : List Pollutant) → (some f qs || some g qs) ≡ some (λ q. f q || g q) qs
some_or f g [] = refl
some_or f g (q ∷ []) = refl
some_or f g (q ∷ r ∷ qs) =
    or-exchange (f q) (some f (r ∷ qs)) (g q) (some g (r ∷ qs)) ∙ ap (λ (t : Bool). f q || g q || t) (some_or f g (r ∷ qs))

module _ (m : ℕ) (pos : 1 ≤ m) where
  newest-refined : (qs : List Pollutant) (xs : List Tested) → Forall₂ Refined (newest_marks qs 1024 xs) (newest_marks qs (1024 * m) xs)
  newest-refined [] xs = Forall₂.nil
  newest-refined (q ∷ qs) xs = Forall₂.cons (mark-refined 1024 m pos (history q xs)) (newest-refined qs xs)

  printed-refined : (qs : List Pollutant) (xs : List Tested) → Forall₂ Refined (printed_marks qs 1024 xs) (printed_marks qs (1024 * m) xs)
  printed-refined qs [] = Forall₂.nil
  printed-refined qs (x ∷ xs) = related-append (printed-refined qs xs) (newest-refined qs (x ∷ xs))

  -- only the rows 6 and 5 depend on the resolution; the rest is the same at any
  verdict-kept : (p : Progress) → verdict 1024 p ≢ 5 → verdict (1024 * m) p ≡ verdict 1024 p
  unfolding verdict
  verdict-kept p =
      rows-finer p.declared
      (some (λ q. failed (at 1024 q)) qs) (some (λ q. undecided (at 1024 q)) qs)
      (some (λ q. failed (at (1024 * m) q)) qs) (some (λ q. undecided (at (1024 * m) q)) qs)
      _
      (some-map qs (λ q. failed-stays (refined q)))
      (λ t. some_or (λ q. failed (at 1024 q)) (λ q. undecided (at 1024 q)) qs
      ∙ some-map qs (λ q. undecided-was (refined q)) (sym (some_or (λ q. failed (at (1024 * m) q)) (λ q. undecided (at (1024 * m) q)) qs) ∙ t))
    where
      qs : List Pollutant
      qs = judged

      at : ℕ → Pollutant → List Mark
      at k q = marks k (history q p.tested)

      refined : (q : Pollutant) → Forall₂ Refined (at 1024 q) (at (1024 * m) q)
      refined q = marks-refined 1024 m pos (history q p.tested)

-- the year at engine n has n engines
at_length : (n : ℕ) (q : Pollutant) (p : Progress) → n ≤ length p.tested → length (at_engine n q p) ≡ n
at_length n q p few = history-length q (drop (length p.tested - n) p.tested) ∙ rw length-drop (omega arith)

pub finer-progress : (m : ℕ) → 1 ≤ m → (p : Progress) → FinerWork m p
finer-progress m pos p =
    record {
      marks = refined-lists (printed-refined m pos judged p.tested);
      verdict_kept = verdict-kept m pos p;
      cumsum_within = λ q n _ _. inside-within 1024 m _ _ (cumsum-inside 1024 m (at_engine n q p));
      limit_within = λ q n _ _. inside-within 1024 m _ _ (limit-inside 1024 m (at_engine n q p));
      cumsum_width = λ q n _ few. rw (at_length n q p few) at (cumsum-width 1024 (at_engine n q p));
      limit_width = λ q n _ _. limit-width 1024 (at_engine n q p);
      newest = λ q. let whole : length p.tested - length p.tested ≡ 0 = omega arith in rw whole;
    }

-- for every setup, every list of events and every m from 1 up
pub finer-work : (s : Setup) (es : List Event) (m : ℕ) → 1 ≤ m → FinerWork m (replay s es)
finer-work s es m pos = finer-progress m pos (replay s es)
