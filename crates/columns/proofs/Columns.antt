-- Columns one after another: how long they are, that each is read back from its place, and that a line of them is one.
use mathlib.Core.Path.{◌≡◌, refl, sym, ap, subst, ◌∙◌}
use mathlib.Core.Logic.{◌≢◌}
use mathlib.Core.Bool.{false}
use mathlib.Core.List.{List, [], ◌∷◌, ◌++◌, append_assoc}
use Prim.Native.Nat.{ℕ, zero, suc, ◌+◌, ◌-◌, ◌^◌, ◌≤◌, ◌<◌}
use native.Mathlib.Omega.{arith}
use lib.Dec.{eqb}
use lib.ListN.{length, length-append, length-replicate}
use lib.Seq.{take_at, drop-append_seam, get_or_at}
use borrow.Author.Tests.{ne_eqb}
use Rattle.std.specs.Prelude.{All}
use Rattle.std.proofs.lemmas.List.{get_or_append_left}
use Rattle.std.proofs.lemmas.List.Elements.{All-nil, All-head, All-tail, All-append, All-replicate, All-weaker, All-get_or}
use Rattle.ascii.specs.Text.{byte}
use Rattle.ascii.specs.Decimal.{decimal, spelt}
use Rattle.ascii.proofs.Decimal.{digit, each-digit, digits-fit, spelt-decimal}
use Rattle.columns.specs.Columns.{spaces, column, Field, figure, columns, line, IsLine, Fits, unpadded, text_at}

-- ---- what lets a field be read back: its text fits, and has no space and no newline

pub record Solid (b : ℕ) : Type 0 where
  pub no_space : eqb b (byte " ") ≡ false
  pub no_newline : b ≢ byte "\n"

pub record Legible (f : Field) : Type 0 where
  pub fits : Fits f
  pub solid : All Solid f.text

digit-solid : (n : ℕ) → Solid (digit n)
digit-solid n = record { no_space = ne_eqb (digit n) (byte " ") (λ e. omega arith); no_newline = λ e. omega arith }

-- a number below 10 ^ width
pub figure-legible : (width n : ℕ) → 1 ≤ width → n < 10 ^ width → Legible (figure width n)
figure-legible width n h l = record { fits = digits-fit width n h l; solid = each-digit Solid digit-solid n }

-- ---- lengths

abbrev pub total_width : List Field → ℕ
total_width [] = 0
total_width (f ∷ fs) = f.width + total_width fs

pub length-column : (f : Field) → Fits f → length (column f.width f.text) ≡ f.width
length-column f h = simp (length-append, length-replicate) (omega arith)

length-columns : (fs : List Field) → All Legible fs → length (columns fs) ≡ total_width fs
length-columns [] a = refl
length-columns (f ∷ fs) a =
    omega (arith, length-append (column f.width f.text) (columns fs), length-column f (All-head Legible f fs a).fits, length-columns fs (All-tail Legible f fs a))

-- ---- reading

unpadded-spaces : (n : ℕ) (bytes : List ℕ) → unpadded (spaces n ++ bytes) ≡ unpadded bytes
unpadded-spaces zero bytes = refl
unpadded-spaces (suc n) bytes = unpadded-spaces n bytes

unpadded-solid : (bytes : List ℕ) → All Solid bytes → unpadded bytes ≡ bytes
unpadded-solid [] s = refl
unpadded-solid (b ∷ bs) s = rw (All-head Solid b bs s).no_space

-- the law of a column: its text is read back from the place where it starts
column-read : (front : List ℕ) (f : Field) (rest : List ℕ) → Legible f → text_at (front ++ (column f.width f.text ++ rest)) (length front) f.width ≡ f.text
column-read front f rest l =
    let bytes = column f.width f.text in
    rw (drop-append_seam front (bytes ++ rest), take_at bytes rest f.width (length-column f l.fits))
    (unpadded-spaces (f.width - length f.text) f.text ∙ unpadded-solid f.text l.solid)

-- each field's text is read from its column: the fields stand one after another from a place on
abbrev pub ReadFrom : List ℕ → ℕ → List Field → Type 0
ReadFrom line place [] = Unit {0}
ReadFrom line place (f ∷ fs) = (text_at line place f.width ≡ f.text) × ReadFrom line (place + f.width) fs

columns-read : (front : List ℕ) (fs : List Field) (rest : List ℕ) → All Legible fs → ReadFrom (front ++ (columns fs ++ rest)) (length front) fs
columns-read front [] rest a = tt
columns-read front (f ∷ fs) rest a =
    let bytes = column f.width f.text in
    let first = All-head Legible f fs a in
    let whole : (front ++ bytes) ++ (columns fs ++ rest) ≡ front ++ (columns (f ∷ fs) ++ rest) =
    append_assoc front bytes (columns fs ++ rest) ∙ ap (λ (l : List ℕ). front ++ l) (sym (append_assoc bytes (columns fs) rest)) in
    let next : length (front ++ bytes) ≡ length front + f.width = omega (arith, length-append front bytes, length-column f first.fits) in (
      rw (append_assoc bytes (columns fs) rest) (column-read front f (columns fs ++ rest) first),
      subst (λ (l : List ℕ). ReadFrom l (length front + f.width) fs) whole (rw next at (columns-read (front ++ bytes) fs rest (All-tail Legible f fs a))),
    )

-- every column of a line, by that law
pub line-read : (fs : List Field) → All Legible fs → ReadFrom (line fs) 0 fs
line-read fs a = rw (append_assoc (columns fs) (spaces (60 - length (columns fs))) (byte "\n" ∷ [])) (columns-read [] fs (spaces (60 - length (columns fs)) ++ byte "\n" ∷ []) a)

-- a text that is a number's digits spells the number
pub figure-read : {bytes : List ℕ} (n : ℕ) → bytes ≡ decimal n → spelt 0 bytes ≡ n
figure-read n e = ap (spelt 0) e ∙ spelt-decimal n

-- ---- 60 bytes without a newline, and a newline

abbrev Unbroken : ℕ → Type 0
Unbroken b = b ≢ byte "\n"

unbroken-spaces : (n : ℕ) → All Unbroken (spaces n)
unbroken-spaces n = All-replicate Unbroken n (byte " ") (λ e. omega arith)

unbroken-columns : (fs : List Field) → All Legible fs → All Unbroken (columns fs)
unbroken-columns [] a = All-nil Unbroken
unbroken-columns (f ∷ fs) a =
    let text = All-weaker Solid Unbroken (λ b s. s.no_newline) f.text (All-head Legible f fs a).solid in
    All-append Unbroken (column f.width f.text) (columns fs) (All-append Unbroken (spaces (f.width - length f.text)) f.text (unbroken-spaces _) text)
    (unbroken-columns fs (All-tail Legible f fs a))

module _ (fs : List Field) (a : All Legible fs) (fit : total_width fs ≤ 60) where
  abbrev front : List ℕ
  front = columns fs ++ spaces (60 - length (columns fs))

  front-size : length front ≡ 60
  front-size = simp (length-append, length-replicate) (omega (arith, length-columns fs a))

  pub is-line : IsLine (line fs)
  is-line =
      record {
        size = omega (arith, length-append front (byte "\n" ∷ []), front-size);
        unbroken = λ i l.
            rw (get_or_append_left front (byte "\n" ∷ []) 0 i (omega (arith, front-size)))
            (All-get_or Unbroken front i 0 (omega (arith, front-size)) (All-append Unbroken (columns fs) (spaces (60 - length (columns fs))) (unbroken-columns fs a) (unbroken-spaces _)));
        ended = get_or_at front (byte "\n") [] 0 60 front-size;
      }
