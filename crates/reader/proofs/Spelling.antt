-- The digits at the front of some bytes, one at a time, and the number that they spell.
use mathlib.Core.Path.{◌≡◌, refl, sym, ap, ◌∙◌}
use mathlib.Core.Bool.{true, false, not, ◌||◌, and-eq-true_iff}
use mathlib.Core.List.{List, [], ◌∷◌, ◌++◌}
use Prim.Native.Nat.{ℕ, suc, min, ◌+◌, ◌-◌, ◌*◌, ◌^◌, ◌≤◌, ◌<◌}
use native.Mathlib.Decide.{dec_lt}
use native.Mathlib.Nat.{pow-suc, pow-le-pow_right}
use native.Mathlib.Numerals.{add-one}
use Rattle.std.proofs.Common.{add-zero}
use native.Mathlib.Omega.{arith}
use lib.Dec.{lit<, leb, eqb}
use lib.ListN.{length, take, drop, get_or, drop_of_length-le, length-drop}
use lib.Seq.{drop-cons, take-suc, take_all, get_or-drop}
use borrow.Author.Tests.{leb-true, le-leb, lt-leb}
use Rattle.conditions.specs.Ranges.{within}
use Rattle.std.specs.Prelude.{Some, None, slice_range}
use Rattle.conditions.proofs.Tests.{by-test}
use Rattle.protocol.specs.Number.{is_number, number_at}
use Rattle.ascii.specs.Decimal.{is_digit, digits, spelt}

within-true : (low high x : ℕ) → within low high x ≡ true → (low ≤ x) × (x ≤ high)
within-true low high x e =
    let p = (and-eq-true_iff (leb low x) (leb x high)).0 e in
    (leb-true low x p.0, leb-true x high p.1)

module _ (bytes : List ℕ) (i : ℕ) where
  pub digits_past : length bytes ≤ i → digits (drop i bytes) ≡ 0
  unfolding digits
  digits_past h = rw (drop_of_length-le bytes h)

  pub digits_stop : i < length bytes → is_digit (get_or bytes i 0) ≡ false → digits (drop i bytes) ≡ 0
  unfolding digits
  digits_stop h e = rw (drop-cons bytes i 0, e)

  digits_step : i < length bytes → is_digit (get_or bytes i 0) ≡ true → digits (drop i bytes) ≡ suc (digits (drop (i + 1) bytes))
  unfolding digits
  digits_step h e = rw (add-one, drop-cons bytes i 0, e)

-- the number that digits spell, with one more digit
spelt-more : (v : ℕ) (xs : List ℕ) (b : ℕ) → spelt v (xs ++ (b ∷ [])) ≡ spelt v xs * 10 + (b - 48)
unfolding spelt
spelt-more v [] b = refl
spelt-more v (x ∷ xs) b = spelt-more (v * 10 + (x - 48)) xs b

spelt-next : (bytes : List ℕ) (i : ℕ) → i < length bytes → spelt 0 (take (i + 1) bytes) ≡ spelt 0 (take i bytes) * 10 + (get_or bytes i 0 - 48)
spelt-next bytes i inside = rw (add-one, take-suc bytes i 0 inside) (spelt-more 0 (take i bytes) (get_or bytes i 0))

-- with one more digit after fewer than nine: what it adds, that the value fits, and what holds after it
pub record One_more (bytes : List ℕ) (i v : ℕ) : Type 0 where
  pub digit : (48 ≤ get_or bytes i 0) × (get_or bytes i 0 ≤ 57)
  pub fits : v < 100000000
  pub bounded : v * 10 + (get_or bytes i 0 - 48) < 10 ^ (i + 1)
  pub others : digits bytes ≡ i + 1 + digits (drop (i + 1) bytes)
  pub spells : v * 10 + (get_or bytes i 0 - 48) ≡ spelt 0 (take (i + 1) bytes)

pub one_more : (bytes : List ℕ) (i v : ℕ) → v < 10 ^ i → digits bytes ≡ i + digits (drop i bytes) → v ≡ spelt 0 (take i bytes) → i < 9 → i < length bytes
    → is_digit (get_or bytes i 0) ≡ true → One_more bytes i v
one_more bytes i v bounded others spells few inside e =
    let digit = within-true 48 57 (get_or bytes i 0) e in
    record {
      digit = digit;
      fits = omega (arith, pow-le-pow_right {n = 10} (lit< tt) {i = i} {j = 8} (omega arith));
      bounded = rw (add-one, pow-suc) (omega (arith, digit));
      others = omega (arith, digits_step bytes i inside e);
      spells = rw spells (sym (spelt-next bytes i inside));
    }

-- a number has one to eight digits
pub number_size : (bytes : List ℕ) (at count : ℕ) → is_number bytes at count ≡ true → (1 ≤ count) × (count ≤ 8)
unfolding is_number
number_size bytes at count e =
    within-true 1 8 count ((and-eq-true_iff (within 1 8 count) (eqb count 1 || not (eqb (get_or bytes at 0) 48))).0 e).0

-- nine or more digits are not a number; of more than nine, only nine are read
pub too_many : (bytes : List ℕ) (at count : ℕ) → 9 ≤ count → is_number bytes at count ≡ false
unfolding is_number
too_many bytes at count h = rw (le-leb 1 count (omega arith), lt-leb count 8 (omega arith))

-- a number that is looked for in the rest of the line
first-byte : (line : List ℕ) (at count : ℕ) → is_number (drop at line) 0 count ≡ is_number line at count
unfolding is_number
first-byte line at count = rw (get_or-drop, add-zero)

pub digits_fit : (bytes : List ℕ) → digits bytes ≤ length bytes
unfolding digits
digits_fit [] = omega arith
digits_fit (b ∷ bs) = by-test (λ n. n ≤ suc (length bs)) (is_digit b) (suc (digits bs)) 0 (λ _. omega (arith, digits_fit bs)) (λ _. omega arith)

module _ (line : List ℕ) (at : ℕ) where
  pub past_end : length line < at → None ≡ number_at line at
  unfolding number_at digits is_number
  past_end h = rw (drop_of_length-le line {i = at} (omega arith))

  module _ (part : List ℕ) (is : part ≡ slice_range line at (length line)) (count : ℕ) (few : count ≡ min 9 (digits part)) where
    rest : part ≡ drop at line
    rest = is ∙ take_all (length line - at) (drop at line) (omega (arith, length-drop at line))

    same-test : is_number line at (digits (drop at line)) ≡ is_number part 0 count
    same-test = by (dec_lt 8 (digits part))
      where
        by : Dec (8 < digits part) → is_number line at (digits (drop at line)) ≡ is_number part 0 count
        by (yes many) = rw (← rest) (too_many line at (digits part) many ∙ sym (too_many part 0 count (omega arith)))
        by (no f) =
            let all : count ≡ digits part = omega arith in
            rw (all, rest) (sym (first-byte line at (digits (drop at line))))

    pub no_number : is_number part 0 count ≡ false → None ≡ number_at line at
    unfolding number_at
    no_number e = rw (same-test, e)

    pub number : (value : ℕ) → value ≡ spelt 0 (take count part) → is_number part 0 count ≡ true
        → Some (record { value = value; next = at + count }) ≡ number_at line at
    unfolding number_at
    number value v e =
        let all : digits (drop at line) ≡ count = ap digits (sym rest) ∙ omega (arith, number_size part 0 count e) in
        rw (same-test, e, v, rest, all)
