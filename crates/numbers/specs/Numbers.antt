-- What `read_numbers` gives for the numbers of a line (document 01, "Key line").
use Rattle.std.specs.Prelude.{cond, List, [], ◌∷◌, ℕ, zero, suc, eqb, length, Option, Some, None, Result, Ok, Err}
use Rattle.arrayvec.specs.ArrayVec.{ArrayVec, array_vec_len}
use Rattle.reference.specs.Refused.{number_of}
use Rattle.reference.specs.declared.Refusal.{Refusal}
use Rattle.reference.specs.declared.Refusal.TheVariants.{LineForm}
use Rattle.protocol.specs.declared.Number.{Number}
use Rattle.protocol.specs.KeyLine.{spaced_number, numbers_from}

-- "if no number can be read there, the line is refused", by "2. The key line is not of the form above."
abbrev pub read_or_refused : Option (List ℕ) → Result (ArrayVec ℕ) Refusal
read_or_refused (Some vs) = Ok (record { items = vs })
read_or_refused None = Err LineForm

-- the numbers of a line
abbrev pub numbers_of : List ℕ → Result (ArrayVec ℕ) Refusal
numbers_of line = read_or_refused (numbers_from (length line) line 1)

-- the numbers read; none for a refused line
abbrev pub listed : Option (List ℕ) → List ℕ
listed (Some vs) = vs
listed None = []

-- document 01's refusal number and figure for each case of the answer: "A refusal returns its number, every other figure of the answer zero" ("Refused calls, in
-- checking order")
pub record NumbersOutcome : Type 0 where
  -- 0 for none
  pub refusal : ℕ
  -- how many there are
  pub count : ℕ

abbrev pub numbers_outcome_of : Result (ArrayVec ℕ) Refusal → NumbersOutcome
numbers_outcome_of (Ok numbers) = record { refusal = 0; count = array_vec_len numbers }
numbers_outcome_of (Err refusal) = record { refusal = number_of refusal; count = 0 }

-- the same for a line: "a letter, then numbers, each after one space", or "2. The key line is not of the form above."
abbrev pub form_refusal : Option (List ℕ) → ℕ
form_refusal (Some vs) = 0
form_refusal None = 2

unfoldable pub numbers_outcome : List ℕ → NumbersOutcome
numbers_outcome line =
    let read = numbers_from (length line) line 1 in
    record { refusal = form_refusal read; count = length (listed read) }

-- the numbers read from a position on, up to the end of the line or to where no number can be read. Document 01 gives no numbers for a refused line; this says
-- which ones are left in the lent vector
abbrev pub and_read : Option Number → (ℕ → List ℕ) → List ℕ
and_read (Some number) more = number.value ∷ more number.next
and_read None more = []

unfoldable pub numbers_read : ℕ → List ℕ → ℕ → List ℕ
numbers_read zero line position = []
numbers_read (suc most) line position = cond (eqb position (length line)) [] (and_read (spaced_number line position) (numbers_read most line))
