-- Lemmas about Boolean tests (`cond`, `&&`, `||`, `not`) and comparisons of two numbers.
use mathlib.Core.Path.{◌≡◌, refl, sym}
use mathlib.Core.Bool.{Bool, true, false, cond, not, ◌&&◌, ◌||◌, true≢false, and-eq-true_iff}
use Prim.Native.Nat.{ℕ, ◌<◌}
use native.Mathlib.Omega.{arith}
use native.Mathlib.Decide.{dec_lt}
use lib.Dec.{leb, ltb, eqb}
use borrow.Author.Tests.{lt-ltb, le-ltb, le-leb, lt-leb, eq-eqb, ne_eqb, eqb-true, eqb-false}

-- case split on b: to prove a fact of `cond b x y`, prove it of x if b is true and of y if b is false
pub by-test {ℓ} : {A : Type 0} (P : A → Type ℓ) (b : Bool) (x y : A) → (b ≡ true → P x) → (b ≡ false → P y) → P (cond b x y)
by-test P true x y f g = f refl
by-test P false x y f g = g refl

-- both branches are the same
pub cond_same : {A : Type 0} (b : Bool) (x : A) → cond b x x ≡ x
cond_same true x = refl
cond_same false x = refl

-- a conjunction from its two parts. (The parts from a conjunction are the library's `and-eq-true_iff`.)
pub and-true : {a b : Bool} → a ≡ true → b ≡ true → (a && b) ≡ true
and-true {a} {b} h k = (and-eq-true_iff a b).1 (h, k)

-- if a disjunction is false, both its parts are
pub or-false : (a b : Bool) → (a || b) ≡ false → (a ≡ false) × (b ≡ false)
or-false true b h = absurd (true≢false h)
or-false false b h = (refl, h)

-- what follows from each of two tests follows from their disjunction
pub either_true : (a : Bool) {b : Bool} {P : Type 0} → (a ≡ true → P) → (b ≡ true → P) → (a || b) ≡ true → P
either_true true f g h = f refl
either_true false f g h = g h

pub false-not : {a : Bool} → a ≡ false → not a ≡ true
false-not h = rw h

pub not-false : (a : Bool) → not a ≡ false → a ≡ true
not-false true h = refl
not-false false h = absurd (true≢false h)

pub eqb_refl : (a : ℕ) → eqb a a ≡ true
eqb_refl a = eq-eqb a a refl
