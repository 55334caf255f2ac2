-- A number's digits, written from the last to the first in front of a place.
use mathlib.Core.Path.{◌≡◌, refl, sym, ap, ◌∙◌}
use mathlib.Core.Logic.{◌≢◌, ⊎_elim}
use mathlib.Core.List.{List, [], ◌∷◌, ◌++◌, append_assoc}
use Prim.Native.Nat.{ℕ, zero, suc, ◌+◌, ◌-◌, ◌/◌, ◌^◌, ◌≤◌, ◌<◌}
use native.Mathlib.Omega.{arith}
use lib.ListN.{length, take, drop, set, length-append}
use lib.Seq.{set_split, drop_at, length-take-le}
use Rattle.std.proofs.lemmas.Bool.{cases_lt}
use Rattle.std.proofs.lemmas.Fmt.{decimal_step, decimal_digit}
use Rattle.std.proofs.lemmas.List.{take-append-le, take-take}
use Rattle.buffers.specs.Bytes.{put}
use Rattle.buffers.proofs.Lists.{put_one}
use Rattle.ascii.specs.Decimal.{decimal}
use Rattle.ascii.proofs.Decimal.{digit, same_decimal}

-- the digits in front of the last ones, where `rest` is what is left of the number: none once it is 0
abbrev pub leading : ℕ → List ℕ
leading zero = []
leading (suc rest) = decimal (suc rest)

leading-some : (n : ℕ) → n ≢ 0 → leading n ≡ decimal n
leading-some zero h = absurd (h refl)
leading-some (suc n) h = refl

leading-none : (n : ℕ) → n ≡ 0 → leading n ≡ []
leading-none n h = ap leading h

-- the last digit, and those in front of it
pub last_digit : (n : ℕ) → n < 2 ^ 64 → decimal n ≡ leading (n / 10) ++ digit n ∷ []
last_digit n h = ⊎_elim one more (cases_lt n 10)
  where
    one : n < 10 → decimal n ≡ leading (n / 10) ++ digit n ∷ []
    one l =
        let same : 48 + n ≡ digit n = omega arith in
        sym (same_decimal n h) ∙ decimal_digit n l ∙ ap (λ (d : ℕ). d ∷ []) same
        ∙ ap (λ (l : List ℕ). l ++ digit n ∷ []) (sym (leading-none (n / 10) (omega arith)))

    more : 10 ≤ n → decimal n ≡ leading (n / 10) ++ digit n ∷ []
    more l =
        sym (same_decimal n h) ∙ decimal_step n l h
        ∙ ap (λ (l : List ℕ). l ++ digit n ∷ []) (same_decimal (n / 10) (omega arith) ∙ sym (leading-some (n / 10) (λ e. omega arith)))

next-leading : (n : ℕ) → n < 2 ^ 64 → n ≢ 0 → leading n ≡ leading (n / 10) ++ digit n ∷ []
next-leading n h some = leading-some n some ∙ last_digit n h

-- a byte stored directly in front of bytes that were put
set-put : (old : List ℕ) (place b : ℕ) (bytes : List ℕ) → place + 1 + length bytes ≤ length old → set (put old (place + 1) bytes) place b ≡ put old place (b ∷ bytes)
unfolding put
set-put old place b bytes h =
    let front = take (place + 1) old in
    let behind = drop (place + 1 + length bytes) old in
    let size : length front ≡ place + 1 = length-take-le (place + 1) old (omega arith) in
    let whole = front ++ (bytes ++ behind) in
    let before : take place whole ≡ take place old = take-append-le place front (bytes ++ behind) (omega (arith, size)) ∙ take-take place (place + 1) old (omega arith) in
    let after : drop (suc place) whole ≡ bytes ++ behind = drop_at front (bytes ++ behind) (suc place) (omega (arith, size)) in
    let past : place + 1 + length bytes ≡ place + suc (length bytes) = omega arith in
    ap (λ (l : List ℕ). set l place b) (append_assoc front bytes behind)
    ∙ set_split whole place b (omega (arith, size, length-append front (bytes ++ behind)))
    ∙ ap (λ (l : List ℕ). l ++ b ∷ drop (suc place) whole) before
    ∙ ap (λ (l : List ℕ). take place old ++ b ∷ l) after
    ∙ ap (λ (n : ℕ). take place old ++ b ∷ (bytes ++ drop n old)) past
    ∙ sym (append_assoc (take place old) (b ∷ bytes) (drop (place + suc (length bytes)) old))

-- the last digits of a number stand from `at` to `end`, and `rest` is still to be written in front of them
pub record Written (old : List ℕ) (end n at rest : ℕ) (now : List ℕ) : Type 0 where
  pub digits : List ℕ
  pub split : decimal n ≡ leading rest ++ digits
  pub place : at + length digits ≡ end
  pub bytes : now ≡ put old at digits
  pub small : rest < 2 ^ 64

module _ (old : List ℕ) (end n : ℕ) (room : length (decimal n) ≤ end) (fits : end ≤ length old) where
  pub none_written : n < 2 ^ 64 → 1 ≤ end
  none_written h = omega (arith, ap length (last_digit n h), length-append (leading (n / 10)) (digit n ∷ []), room)

  pub first_written : n < 2 ^ 64 → Written old end n (end - 1) (n / 10) (set old (end - 1) (digit n))
  first_written h =
      record {
        digits = digit n ∷ [];
        split = last_digit n h;
        place = omega (arith, none_written h);
        bytes = put_one old (end - 1) (digit n) (omega (arith, none_written h));
        small = omega arith;
      }

  module _ (at rest : ℕ) (now : List ℕ) (w : Written old end n at rest now) where
    pub room_left : rest ≢ 0 → 1 ≤ at
    room_left some =
        omega (arith, ap length w.split, length-append (leading rest) w.digits, ap length (next-leading rest w.small some), length-append (leading (rest / 10)) (digit rest ∷ []), w.place, room)

    pub next_written : rest ≢ 0 → Written old end n (at - 1) (rest / 10) (set now (at - 1) (digit rest))
    next_written some =
        let back : at ≡ at - 1 + 1 = omega (arith, room_left some) in
        record {
          digits = digit rest ∷ w.digits;
          split = w.split ∙ ap (λ (l : List ℕ). l ++ w.digits) (next-leading rest w.small some) ∙ append_assoc (leading (rest / 10)) (digit rest ∷ []) w.digits;
          place = omega (arith, room_left some, w.place);
          bytes = ap (λ (l : List ℕ). set l (at - 1) (digit rest)) (w.bytes ∙ ap (λ (p : ℕ). put old p w.digits) back)
              ∙ set-put old (at - 1) (digit rest) w.digits (omega (arith, room_left some, w.place));
          small = omega (arith, w.small);
        }

    pub all_written : rest ≡ 0 → now ≡ put old (end - length (decimal n)) (decimal n)
    all_written e =
        let all : decimal n ≡ w.digits = w.split ∙ ap (λ (l : List ℕ). l ++ w.digits) (leading-none rest e) in
        let from : at ≡ end - length (decimal n) = omega (arith, ap length all, w.place) in
        w.bytes ∙ ap (λ (l : List ℕ). put old at l) (sym all) ∙ ap (λ (p : ℕ). put old p (decimal n)) from
