-- The table's rule: one test, computed over the whole table, and what it says at each entry.
use mathlib.Core.List.{List}
use mathlib.Core.Path.{◌≡◌, refl, sym, ap, subst, ◌∙◌}
use mathlib.Core.Bool.{Bool, true, ◌&&◌, and-eq-true_iff}
use Prim.Native.Nat.{ℕ, ◌+◌, ◌*◌, ◌<◌}
use native.Mathlib.Nat.{zero-add}
use native.Mathlib.Omega.{arith}
use lib.Dec.{leb, ltb, lit<}
use lib.ListN.{length, get_or}
use borrow.Author.Tests.{leb-true, ltb-true}
use Rattle.std.specs.List.{list_all, enumerate_from}
use Rattle.std.proofs.lemmas.List.Elements.{All-get_or}
use Rattle.std.proofs.lemmas.List.Sums.{AllPass-from_list_all}
use Rattle.std.proofs.lemmas.List.FromFn.{get_or-enumerate_from, length-enumerate_from}
use Rattle.statistics.specs.Spread.{root}
use Rattle.statistics.proofs.Root.{root-unique, root-passes, root-most}
use Rattle.spread.specs.declared.start.TheConstants.{ROOTS}
use Rattle.spread.specs.Start.{TableRule}

-- the test of an entry, its place before it
abbrev is_root : ℕ × ℕ → Bool
is_root (j, entry) = leb (entry * entry) j && ltb j ((entry + 1) * (entry + 1))

whole_table : list_all is_root (enumerate_from 0 ROOTS) ≡ true
whole_table = refl

-- what passes a test everywhere passes it at each place
at_place : (test : ℕ × ℕ → Bool) (xs : List ℕ) → list_all test (enumerate_from 0 xs) ≡ true → (j : ℕ) → j < length xs → test (j, get_or xs j 0) ≡ true
at_place test xs all j h =
    let numbered = enumerate_from 0 xs in
    let place : get_or numbered j (0, 0) ≡ (j, get_or xs j 0) = get_or-enumerate_from 0 xs j (0, 0) h ∙ ap (λ k. (k, get_or xs j 0)) (zero-add j) in
    subst (λ p. test p ≡ true) place
    (All-get_or (λ p. test p ≡ true) numbered j (0, 0) (rw (length-enumerate_from 0 xs) h) (AllPass-from_list_all test numbered all))

root-if_passes : (j r : ℕ) → is_root (j, r) ≡ true → r ≡ root 1 j
root-if_passes j r h =
    let both = (and-eq-true_iff (leb (r * r) j) (ltb j ((r + 1) * (r + 1)))).0 h in
    sym (root-unique 1 (lit< tt) j r (omega (arith, leb-true _ _ both.0)) (omega (arith, ltb-true _ _ both.1)))

pub entry_is_root : (j : ℕ) → j < 1024 → get_or ROOTS j 0 ≡ root 1 j
entry_is_root j h = root-if_passes j (get_or ROOTS j 0) (at_place is_root ROOTS whole_table j h)

pub table_rule : TableRule
table_rule =
    record {
      entries = refl;
      rule = λ j h. record {
        at_most = rw (entry_is_root j h) (omega (arith, root-passes 1 j));
        largest = λ r l. rw (entry_is_root j h) (root-most 1 (lit< tt) j r (omega arith));
      };
    }
