-- Document 02: "A call for which no key is named has none." No line asks for the wall page (W-205).
use Rattle.std.specs.Prelude.{◌≢◌, List, ℕ}
use Rattle.reference.specs.Call.{Report, Write, Ask}
use Rattle.protocol.specs.KeyLine.{Make, command_of}

pub record NoKey : Type 0 where
  pub report : (line : List ℕ) (size : ℕ) → command_of line ≢ Make (Ask (Write Report size))
