-- No line asks for the wall page: none of the letters does.
use mathlib.Core.Path.{◌≡◌, refl, sym, ap, ◌∙◌}
use mathlib.Core.Bool.{Bool, true, false, cond, true≢false}
use mathlib.Core.List.{List}
use Prim.Native.Nat.{ℕ, ◌%◌}
use lib.Dec.{eqb, ltb}
use lib.ListN.{length, get_or}
use Rattle.std.specs.Prelude.{Option, Some, None}
use Rattle.ascii.specs.Text.{byte}
use Rattle.reference.specs.Call.{Marks, Report, ReadStatus, Write, Preview, Call, SetUp, Enter, Ask}
use Rattle.protocol.specs.KeyLine.{Command, Make, Refuse, call_of, asked, call_from, numbers_from, command_of}
use Rattle.protocol.specs.NoKey.{NoKey}

abbrev asks_report : Call → Bool
asks_report (SetUp s) = false
asks_report (Enter entry) = false
asks_report (Ask ReadStatus) = false
asks_report (Ask (Write Marks size)) = false
asks_report (Ask (Write Report size)) = true
asks_report (Ask (Preview number readings)) = false

abbrev asks : Option Call → Bool
asks None = false
asks (Some call) = asks_report call

either : (b : Bool) (x y : Option Call) → asks x ≡ false → asks y ≡ false → asks (cond b x y) ≡ false
either true x y h k = h
either false x y h k = k

letter-asks : (letter : ℕ) (vs : List ℕ) → asks (call_of letter vs) ≡ false
unfolding call_of
letter-asks letter vs =
    either (eqb letter (byte "S")) _ _ (either (eqb (length vs) 8) _ _ refl refl) (
    either (eqb letter (byte "E")) _ _ (either (eqb (length vs % 2) 1) _ _ refl refl) (
    either (eqb letter (byte "T")) _ _ (either (eqb (length vs % 2) 1) _ _ refl refl) (
    either (eqb letter (byte "A")) _ _ (either (eqb (length vs) 2) _ _ refl refl) (
    either (eqb letter (byte "P")) _ _ (either (eqb (length vs) 0) _ _ refl refl) (
    either (eqb letter (byte "X")) _ _ (either (eqb (length vs) 0) _ _ refl refl) (
    either (eqb letter (byte "Z")) _ _ (either (eqb (length vs) 0) _ _ refl refl) (
    either (eqb letter (byte "L")) _ _ (either (eqb (length vs) 0) _ _ refl refl) refl)))))))

numbers-ask : (letter : ℕ) (numbers : Option (List ℕ)) → asks (call_from letter numbers) ≡ false
numbers-ask letter None = refl
numbers-ask letter (Some vs) = letter-asks letter vs

abbrev command-asks : Command → Bool
command-asks (Make call) = asks_report call
command-asks (Refuse number) = false

asked-asks : (call : Option Call) → command-asks (asked call) ≡ asks call
asked-asks None = refl
asked-asks (Some call) = refl

refused-or : (b : Bool) (command : Command) → command-asks command ≡ false → command-asks (cond b (Refuse 1) command) ≡ false
refused-or true command h = refl
refused-or false command h = h

none-asks : (line : List ℕ) → command-asks (command_of line) ≡ false
unfolding command_of
none-asks line =
    let letter = get_or line 0 0 in
    let numbers = numbers_from (length line) line 1 in
    refused-or (ltb 64 (length line)) (asked (call_from letter numbers)) (asked-asks (call_from letter numbers) ∙ numbers-ask letter numbers)

pub no-key : NoKey
no-key = record { report = λ line size e. absurd (true≢false (sym (ap command-asks e) ∙ none-asks line)) }
