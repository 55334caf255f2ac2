-- From what is read of a line to its command.
use mathlib.Core.Path.{◌≡◌, refl}
use mathlib.Core.List.{List, [], ◌∷◌}
use Prim.Native.Nat.{ℕ, ◌≤◌, ◌<◌}
use native.Mathlib.Omega.{arith}
use lib.ListN.{length, get_or}
use borrow.Author.Tests.{le-ltb, lt-ltb}
use Rattle.std.specs.Prelude.{Option, Some, None, Result, Ok, Err}
use Rattle.arrayvec.specs.ArrayVec.{ArrayVec}
use Rattle.reference.specs.declared.Refusal.{Refusal}
use Rattle.reference.specs.Refused.{number_of}
use Rattle.protocol.specs.KeyLine.{Command, Refuse, asked, numbers_from, call_of, call_from, command_of}
use Rattle.numbers.specs.Numbers.{read_or_refused, numbers_of}

-- a line of more than 64 bytes, and an empty one
pub long_line : (line : List ℕ) → 64 < length line → Refuse 1 ≡ command_of line
unfolding command_of
long_line line h = rw (lt-ltb 64 (length line) h)

pub empty_line : (line : List ℕ) → length line ≡ 0 → Refuse 2 ≡ command_of line
unfolding command_of numbers_from
empty_line [] e = refl
empty_line (b ∷ bs) e = absurd (omega (arith, e))

-- a line of up to 64 bytes, by its letter and what is read of its numbers
asked-by : ℕ → Result (ArrayVec ℕ) Refusal → Command
asked-by letter (Ok numbers) = asked (call_of letter numbers.items)
asked-by letter (Err refusal) = Refuse (number_of refusal)

asked-is : (letter : ℕ) (read : Option (List ℕ)) → asked-by letter (read_or_refused read) ≡ asked (call_from letter read)
unfolding asked-by
asked-is letter (Some vs) = refl
asked-is letter None = refl

module _ (line : List ℕ) (few : length line ≤ 64) where
  by-reading : (read : Result (ArrayVec ℕ) Refusal) → read ≡ numbers_of line → asked-by (get_or line 0 0) read ≡ command_of line
  unfolding command_of
  by-reading read e = rw (e, le-ltb 64 (length line) few) (asked-is (get_or line 0 0) (numbers_from (length line) line 1))

  pub letter_and_numbers : (numbers : ArrayVec ℕ) → Ok numbers ≡ numbers_of line → asked (call_of (get_or line 0 0) numbers.items) ≡ command_of line
  unfolding asked-by
  letter_and_numbers numbers read = by-reading (Ok numbers) read

  pub refused_line : (refusal : Refusal) → Err refusal ≡ numbers_of line → Refuse (number_of refusal) ≡ command_of line
  unfolding asked-by
  refused_line refusal read = by-reading (Err refusal) read
