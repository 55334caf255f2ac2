-- The numbers of a line, one after the other: where each ends, and what was read up to a position.
use mathlib.Core.Path.{◌≡◌, refl, sym, ap, subst, ◌∙◌}
use mathlib.Core.List.{List, [], ◌∷◌, ◌++◌, append-nil, append_assoc}
use Prim.Native.Nat.{ℕ, suc, ◌+◌, ◌*◌, ◌-◌, ◌≤◌, ◌<◌}
use native.Mathlib.Nat.{sub-zero}
use native.Mathlib.Omega.{arith}
use lib.Dec.{eqb}
use lib.ListN.{length, get_or, take, drop, length-drop, length-append}
use borrow.Author.Tests.{eq-eqb, ne_eqb}
use Rattle.std.specs.Prelude.{Option, Some, None, Result, Ok, Err}
use Rattle.arrayvec.specs.ArrayVec.{ArrayVec}
use Rattle.reference.specs.declared.Refusal.{Refusal}
use Rattle.reference.specs.declared.Refusal.TheVariants.{LineForm}
use Rattle.conditions.proofs.Tests.{by-test}
use Rattle.protocol.specs.declared.Number.{Number}
use Rattle.protocol.specs.Number.{is_number, number_at}
use Rattle.ascii.specs.Decimal.{digits, spelt}
use Rattle.protocol.specs.KeyLine.{spaced_number, in_front, numbers_from}
use Rattle.numbers.specs.Numbers.{read_or_refused, numbers_of, listed, numbers_outcome_of, form_refusal, numbers_outcome, numbers_read}
use Rattle.reader.proofs.Spelling.{digits_fit, number_size}

-- a number that can be read ends within the line, at position `least` or after it
abbrev Ends : List ℕ → ℕ → Option Number → Type 0
Ends line least (Some number) = (least ≤ number.next) × (number.next ≤ length line)
Ends line least None = Unit {0}

number-ends : (line : List ℕ) (at : ℕ) → Ends line (at + 1) (number_at line at)
unfolding number_at
number-ends line at =
    let bytes = drop at line in
    let count = digits bytes in
    by-test (Ends line (at + 1)) (is_number line at count) (Some (record { value = spelt 0 (take count bytes); next = at + count })) None
    (λ e. omega (arith, number_size line at count e, digits_fit bytes, length-drop at line)) (λ _. tt)

-- with its space, a number takes at least two bytes
spaced-ends : (line : List ℕ) (at : ℕ) (n : Number) → spaced_number line at ≡ Some n → (at + 2 ≤ n.next) × (n.next ≤ length line)
unfolding spaced_number
spaced-ends line at n e =
    let P = Ends line (at + 1 + 1) in
    let ends = subst P e (by-test P (eqb (get_or line at 0) 32) (number_at line (at + 1)) None (λ _. number-ends line (at + 1)) (λ _. tt)) in
    (omega (arith, ends.0), ends.1)

-- numbers joined to those that follow them, if the latter can be read
abbrev joined : List ℕ → Option (List ℕ) → Option (List ℕ)
joined vs (Some ws) = Some (vs ++ ws)
joined vs None = None

joined-none : (rest : Option (List ℕ)) → joined [] rest ≡ rest
joined-none (Some ws) = refl
joined-none None = refl

joined-next : (vs : List ℕ) (v : ℕ) (rest : Option (List ℕ)) → joined vs (in_front v rest) ≡ joined (vs ++ (v ∷ [])) rest
joined-next vs v (Some ws) = ap Some (sym (append_assoc vs (v ∷ []) ws))
joined-next vs v None = refl

-- numbers that were read up to a position: each takes at least two bytes, and with those that follow they are all numbers of the line
pub record ReadTo (line values : List ℕ) (at : ℕ) : Type 0 where
  pub before : 1 + 2 * length values ≤ at
  pub within : at ≤ length line
  pub read : numbers_from (length line) line 1 ≡ joined values (numbers_from (length line - length values) line at)
  pub left_so_far : numbers_read (length line) line 1 ≡ values ++ numbers_read (length line - length values) line at

pub read_none : (line : List ℕ) → 1 ≤ length line → ReadTo line [] 1
read_none line h =
    record {
      before = omega arith;
      within = h;
      read = rw sub-zero (sym (joined-none (numbers_from (length line) line 1)));
      left_so_far = rw sub-zero;
    }

module _ (line values : List ℕ) (at : ℕ) (r : ReadTo line values at) where
  left : length line - length values ≡ suc (length line - (length values + 1))
  left = omega (arith, r.before, r.within)

  all-read : length line ≤ at → numbers_from (length line) line 1 ≡ Some values
  unfolding numbers_from
  all-read h = r.read ∙ rw (left, eq-eqb at (length line) (omega (arith, r.within))) (ap Some (append-nil values))

  -- nothing more is read
  all-left : numbers_read (length line - length values) line at ≡ [] → values ≡ numbers_read (length line) line 1
  all-left stop = sym (r.left_so_far ∙ rw stop (append-nil values))

  pub left_at_end : length line ≤ at → values ≡ numbers_read (length line) line 1
  unfolding numbers_read
  left_at_end h = all-left (rw (left, eq-eqb at (length line) (omega (arith, r.within))))

  pub read_all : length line ≤ at → Ok (record { items = values }) ≡ numbers_of line
  read_all h = rw (all-read h)

  module _ (inside : at < length line) where
    none_read : spaced_number line at ≡ None → numbers_from (length line) line 1 ≡ None
    unfolding numbers_from
    none_read e = r.read ∙ rw (left, ne_eqb at (length line) (λ o. omega arith), e)

    pub refused : spaced_number line at ≡ None → Err LineForm ≡ numbers_of line
    refused e = rw (none_read e)

    pub left_refused : spaced_number line at ≡ None → values ≡ numbers_read (length line) line 1
    unfolding numbers_read
    left_refused e = all-left (rw (left, ne_eqb at (length line) (λ o. omega arith), e))

    read_more : (n : Number) → spaced_number line at ≡ Some n
        → numbers_read (length line - length values) line at ≡ n.value ∷ numbers_read (length line - (length values + 1)) line n.next
    unfolding numbers_read
    read_more n e = rw (left, ne_eqb at (length line) (λ o. omega arith), e)

    one_more : (n : Number) → spaced_number line at ≡ Some n
        → numbers_from (length line - length values) line at ≡ in_front n.value (numbers_from (length line - (length values + 1)) line n.next)
    unfolding numbers_from
    one_more n e = rw (left, ne_eqb at (length line) (λ o. omega arith), e)

    -- the next number is among at most 31, ends further on, and is read after the others
    pub record Next (n : Number) : Type 0 where
      pub room : length values < 31
      pub further : at < n.next
      pub read_to : ReadTo line (values ++ (n.value ∷ [])) n.next

    pub read_next : length line ≤ 64 → (n : Number) → spaced_number line at ≡ Some n → Next n
    read_next few n e =
        let ends = spaced-ends line at n e in
        let size : length (values ++ (n.value ∷ [])) ≡ length values + 1 = length-append values (n.value ∷ []) in
        record {
          room = omega (arith, r.before);
          further = omega (arith, ends.0);
          read_to =
              record {
                before = omega (arith, r.before, ends.0, size);
                within = ends.1;
                read = r.read ∙ rw (one_more n e, size) (joined-next values n.value (numbers_from (length line - (length values + 1)) line n.next));
                left_so_far =
                    r.left_so_far
                    ∙ rw (read_more n e, size) (sym (append_assoc values (n.value ∷ []) (numbers_read (length line - (length values + 1)) line n.next)));
              };
        }

-- the answer in document 01's numbers, and that it is at most 31
told : (read : Option (List ℕ)) → numbers_outcome_of (read_or_refused read) ≡ record { refusal = form_refusal read; count = length (listed read) }
told (Some vs) = refl
told None = refl

pub outcome_of_line : (line : List ℕ) (r : Result (ArrayVec ℕ) Refusal) → r ≡ numbers_of line → numbers_outcome line ≡ numbers_outcome_of r
unfolding numbers_outcome
outcome_of_line line r e = sym (ap numbers_outcome_of e ∙ told (numbers_from (length line) line 1))
