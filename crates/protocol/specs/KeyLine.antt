-- Document 01, "Key line": a letter, then numbers, each after one space; and the call that these make.
use Rattle.std.specs.Prelude.{Bool, cond, List, [], ◌∷◌, ℕ, zero, suc, ◌+◌, ◌/◌, ◌%◌, ltb, eqb, length, get_or, take, drop, Option, Some, None}
use Rattle.ascii.specs.Text.{byte}
use Rattle.year.specs.declared.Setup.{Setup}
use Rattle.reference.specs.Call.{Readings, EnterEngine, EnterChange, Marks, Write, Preview, Call, SetUp, Enter, Ask}
use Rattle.reference.specs.declared.Change.{Change}
use Rattle.reference.specs.declared.Change.TheVariants.{Amend, BeginPeriod, Declare, Delete}
use Rattle.protocol.specs.declared.Number.{Number}
use Rattle.protocol.specs.Number.{number_at, NumberOutcome, number_outcome}

-- "numbers, each after one space": a space at a position, and the number after it
abbrev pub space_at : List ℕ → ℕ → Bool
space_at line position = eqb (get_or line position 0) (byte " ")

unfoldable pub spaced_number : List ℕ → ℕ → Option Number
spaced_number line position = cond (space_at line position) (number_at line (position + 1)) None

-- the same as document 01's refusal number and figures: without the space, "2. The key line is not of the form above."
unfoldable pub spaced_outcome : List ℕ → ℕ → NumberOutcome
spaced_outcome line position = cond (space_at line position) (number_outcome line (position + 1)) (record { refusal = 2; value = 0; next = 0 })

-- a number in front of those that follow it, if they can be read; "if no number can be read there, the line is refused"
abbrev pub in_front : ℕ → Option (List ℕ) → Option (List ℕ)
in_front v (Some vs) = Some (v ∷ vs)
in_front v None = None

abbrev pub and_then : Option Number → (ℕ → Option (List ℕ)) → Option (List ℕ)
and_then (Some number) more = in_front number.value (more number.next)
and_then None more = None

-- the numbers from a position to the end of the line, fewer than `most`; `None` if the line is not of the form
unfoldable pub numbers_from : ℕ → List ℕ → ℕ → Option (List ℕ)
numbers_from zero line position = None
numbers_from (suc most) line position = cond (eqb position (length line)) (Some []) (and_then (spaced_number line position) (numbers_from most line))

-- "S: P, D, two standards, HC+NOx kind and factor, CO kind and factor."
abbrev pub setup_from : List ℕ → Setup
setup_from vs =
    record {
      volume = get_or vs 0 0;
      days = get_or vs 1 0;
      standards = record { hcnox = get_or vs 2 0; co = get_or vs 3 0 };
      factors =
          record {
            hcnox = record { kind = get_or vs 4 0; value = get_or vs 5 0 };
            co = record { kind = get_or vs 6 0; value = get_or vs 7 0 };
          };
    }

-- "E: engine number, its HC+NOx readings, as many CO readings." "key T, with E's numbers, only asks" (document 02, W-202)
abbrev pub number_from : List ℕ → ℕ
number_from vs = get_or vs 0 0

abbrev pub readings_from : List ℕ → Readings
readings_from vs = record { hcnox = take (length vs / 2) (drop 1 vs); co = drop (length vs / 2) (drop 1 vs) }

-- "A: two standards."
abbrev pub amendment_from : List ℕ → Change
amendment_from vs = Amend (record { hcnox = get_or vs 0 0; co = get_or vs 1 0 })

-- the call, if the line has exactly `count` numbers
abbrev pub of_count : ℕ → List ℕ → Call → Option Call
of_count count vs call = cond (eqb (length vs) count) (Some call) None

abbrev pub change_of : ℕ → List ℕ → Change → Option Call
change_of count vs change = of_count count vs (Enter (EnterChange change))

-- "An odd count of readings is refused by 2, an even count that is none or more than six by 11." The 11 is the call's own refusal. The 2 is given here: with
-- the engine's number in front, an odd count of readings makes an even count of numbers; no number at all is an even count too
abbrev pub of_pairs : List ℕ → Call → Option Call
of_pairs vs call = cond (eqb (length vs % 2) 1) (Some call) None

-- the call of a letter and its numbers. "P next period, X declaration, L strip: no numbers"; "a key Z, with no numbers" (document 02, W-201). L lends an output
-- with room for forty engines
unfoldable pub call_of : ℕ → List ℕ → Option Call
call_of letter vs =
    cond (eqb letter (byte "S")) (of_count 8 vs (SetUp (setup_from vs)))
    (cond (eqb letter (byte "E")) (of_pairs vs (Enter (EnterEngine (number_from vs) (readings_from vs))))
    (cond (eqb letter (byte "T")) (of_pairs vs (Ask (Preview (number_from vs) (readings_from vs))))
    (cond (eqb letter (byte "A")) (change_of 2 vs (amendment_from vs))
    (cond (eqb letter (byte "P")) (change_of 0 vs BeginPeriod)
    (cond (eqb letter (byte "X")) (change_of 0 vs Declare)
    (cond (eqb letter (byte "Z")) (change_of 0 vs Delete)
    (cond (eqb letter (byte "L")) (of_count 0 vs (Ask (Write Marks 80))) None)))))))

-- what a line asks for: a call, or a refusal by 1 or 2
pub data Command : Type 0 where
  Make : Call → Command
  Refuse : ℕ → Command

-- "2. The key line is not of the form above."
abbrev pub asked : Option Call → Command
asked (Some call) = Make call
asked None = Refuse 2

abbrev pub call_from : ℕ → Option (List ℕ) → Option Call
call_from letter (Some vs) = call_of letter vs
call_from letter None = None

-- "1. The key line is longer than 64 bytes". A number takes two bytes or more, so there are fewer numbers than the line has bytes
unfoldable pub command_of : List ℕ → Command
command_of line = cond (ltb 64 (length line)) (Refuse 1) (asked (call_from (get_or line 0 0) (numbers_from (length line) line 1)))
