-- Laws of decimal digits: how many a number has, that they spell it, and that the digits which `itoa` writes are these.
use Rattle.std.proofs.Common.{rules}
use mathlib.Core.Path.{◌≡◌, refl, sym}
use mathlib.Core.Bool.{Bool, true, false}
use mathlib.Core.List.{List, [], ◌∷◌, ◌++◌}
use Prim.Native.Nat.{ℕ, zero, suc, ◌+◌, ◌/◌, ◌%◌, ◌^◌, ◌≤◌, ◌<◌}
use native.Mathlib.Nat.{pow-suc, div-lt_iff_lt-mul}
use native.Mathlib.Omega.{arith}
use borrow.Author.Tests.{lt-ltb, le-ltb, ltb-true, ltb-false}
use lib.Dec.{lit<, ltb}
use lib.ListN.{length, length-append}
use Rattle.std.specs.Prelude.{All}
use Rattle.std.specs.Fmt as fmt
use Rattle.std.proofs.lemmas.Fmt.{AppendsLastDigit, decimal_from_appends, length-decimal-le, length-decimal-le_succ}
use Rattle.std.proofs.lemmas.List.Elements.{All-nil, All-cons, All-append}
use Rattle.conditions.proofs.Tests.{by-test}
use Rattle.ascii.specs.Text.{byte}
use Rattle.ascii.specs.Decimal.{spelt, decimal_up_to, decimal}

-- the digit in the last place
abbrev pub digit : ℕ → ℕ
digit n = byte "0" + n % 10

-- any bound on their number that is high enough gives the same digits
enough : (a b n : ℕ) → n < a → n < b → decimal_up_to a n ≡ decimal_up_to b n
unfolding decimal_up_to
enough zero b n h k = absurd (omega arith)
enough (suc a) zero n h k = absurd (omega arith)
enough (suc a) (suc b) n h k =
    by-test (λ (r : List ℕ). r ≡ decimal_up_to (suc b) n) (ltb n 10) ((byte "0" + n) ∷ []) (decimal_up_to a (n / 10) ++ (digit n ∷ []))
    (λ e. rw e)
    (λ e.
    let ten : 10 ≤ n = ltb-false n 10 e in
    rw (e, enough a b (n / 10) (omega arith) (omega arith)))

decimal-one : (n : ℕ) → n < 10 → decimal n ≡ digit n ∷ []
unfolding decimal decimal_up_to
decimal-one n h = let same : n % 10 ≡ n = omega arith in rw (lt-ltb n 10 h, same)

decimal-more : (n : ℕ) → 10 ≤ n → decimal n ≡ decimal (n / 10) ++ (digit n ∷ [])
unfolding decimal decimal_up_to
decimal-more n h = rw (le-ltb n 10 h, enough n (suc (n / 10)) (n / 10) (omega arith) (omega arith))

-- ---- a fact of the digits of every number: it holds of one digit, and with one digit more

module _
    (P : ℕ → List ℕ → Type 0) (one : (n : ℕ) → n < 10 → P n (digit n ∷ []))
    (more : (n : ℕ) → 10 ≤ n → P (n / 10) (decimal (n / 10)) → P n (decimal (n / 10) ++ (digit n ∷ []))) where
  from-tenth : (n : ℕ) → (10 ≤ n → P (n / 10) (decimal (n / 10))) → P n (decimal n)
  from-tenth n tenth = by (ltb n 10) refl
    where
      by : (t : Bool) → ltb n 10 ≡ t → P n (decimal n)
      by true e = let l : n < 10 = ltb-true n 10 e in rw (decimal-one n l) (one n l)
      by false e = let l : 10 ≤ n = ltb-false n 10 e in rw (decimal-more n l) (more n l (tenth l))

  up-to : (most n : ℕ) → n < most → P n (decimal n)
  up-to zero n h = absurd (omega arith)
  up-to (suc most) n h = from-tenth n (λ l. up-to most (n / 10) (omega arith))

  by-digits : (n : ℕ) → P n (decimal n)
  by-digits n = up-to (suc n) n (omega arith)

-- a number below 10 ^ w has at most w digits
pub digits-fit : (w n : ℕ) → 1 ≤ w → n < 10 ^ w → length (decimal n) ≤ w
digits-fit w n = by-digits (λ n ds. (w : ℕ) → 1 ≤ w → n < 10 ^ w → length ds ≤ w) (λ n l w h k. h) more n w
  where
    more : (n : ℕ) → 10 ≤ n → ((w : ℕ) → 1 ≤ w → n / 10 < 10 ^ w → length (decimal (n / 10)) ≤ w)
        → (w : ℕ) → 1 ≤ w → n < 10 ^ w → length (decimal (n / 10) ++ (digit n ∷ [])) ≤ w
    more n t ih zero h l = absurd (omega arith)
    more n t ih (suc zero) h l = absurd (omega arith)
    more n t ih (suc (suc w)) h l =
        let tenth : n / 10 < 10 ^ suc w = (div-lt_iff_lt-mul {k = 10} {x = n} {y = 10 ^ suc w} (lit< tt)).1 (rw pow-suc at l) in
        omega (arith, ih (suc w) (omega arith) tenth, length-append (decimal (n / 10)) (digit n ∷ []))

-- the digits spell their number
spelt-append : (xs ys : List ℕ) (v : ℕ) → spelt v (xs ++ ys) ≡ spelt (spelt v xs) ys
unfolding spelt
spelt-append [] ys v = refl
spelt-append (x ∷ xs) ys v = spelt-append xs ys _

pub spelt-decimal : (n : ℕ) → spelt 0 (decimal n) ≡ n
unfolding spelt
spelt-decimal =
    by-digits (λ n ds. spelt 0 ds ≡ n)
    (λ n l. omega arith)
    (λ n l ih. rw (spelt-append (decimal (n / 10)) (digit n ∷ []) 0, ih) (omega arith))

-- every byte of them is a digit
pub each-digit : (P : ℕ → Type 0) → ((n : ℕ) → P (digit n)) → (n : ℕ) → All P (decimal n)
each-digit P digits = by-digits (λ n ds. All P ds) (λ n l. last n) (λ n l ih. All-append P (decimal (n / 10)) (digit n ∷ []) ih (last n))
  where
    last : (n : ℕ) → All P (digit n ∷ [])
    last n = All-cons P (digit n) [] (digits n) (All-nil P)

-- ---- the digits that `itoa` writes

appends : AppendsLastDigit decimal_up_to
unfolding decimal_up_to
appends = record { one = λ k n h. rw (lt-ltb n 10 h); more = λ k n h. rw (le-ltb n 10 h) }

pub same_decimal : (n : ℕ) → n < 2 ^ 64 → fmt.decimal n ≡ decimal n
unfolding decimal
same_decimal n h = sym (decimal_from_appends decimal_up_to appends (suc n) n h (omega (arith, length-decimal-le_succ n h)))

pub few_digits : (n : ℕ) → n < 2 ^ 64 → length (fmt.decimal n) ≤ 20
few_digits n h = search (rules, length-decimal-le 20)
