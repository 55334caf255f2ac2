-- Document 01, "Key line": a number at a position of a line.
use Rattle.std.specs.Prelude.{Bool, cond, not, ◌&&◌, ◌||◌, List, ℕ, ◌+◌, eqb, get_or, take, drop, Option, Some, None}
use Rattle.conditions.specs.Ranges.{within}
use Rattle.ascii.specs.Text.{byte}
use Rattle.ascii.specs.Decimal.{digits, spelt}
use Rattle.protocol.specs.declared.Number.{Number}

-- "A number has 1 to 8 digits and no leading zero but in 0": whether the `count` digits at a position are a number
unfoldable pub is_number : List ℕ → ℕ → ℕ → Bool
is_number line position count = within 1 8 count && (eqb count 1 || not (eqb (get_or line position 0) (byte "0")))

-- "the line it was given and the position of the next byte": the number there, with the position after it; none "if no number can be read there"
unfoldable pub number_at : List ℕ → ℕ → Option Number
number_at line position =
    let count = digits (drop position line) in
    cond (is_number line position count) (Some (record { value = spelt 0 (take count (drop position line)); next = position + count })) None

-- document 01's refusal number and figures for each case of a number's answer: "if no number can be read there, the line is refused" ("Key line"); "2. The key line
-- is not of the form above.", "A refusal returns its number, every other figure of the answer zero" ("Refused calls, in checking order")
pub record NumberOutcome : Type 0 where
  -- 0 for none
  pub refusal : ℕ
  pub value : ℕ
  -- "the position of the next byte"
  pub next : ℕ

abbrev pub number_outcome_of : Option Number → NumberOutcome
number_outcome_of (Some number) = record { refusal = 0; value = number.value; next = number.next }
number_outcome_of None = record { refusal = 2; value = 0; next = 0 }

-- the same for a position of a line
unfoldable pub number_outcome : List ℕ → ℕ → NumberOutcome
number_outcome line position =
    let count = digits (drop position line) in
    let readable = is_number line position count in
    record { refusal = cond readable 0 2; value = cond readable (spelt 0 (take count (drop position line))) 0; next = cond readable (position + count) 0 }
