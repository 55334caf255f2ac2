-- Worked cases of reading a line's numbers.
use Rattle.std.specs.Prelude.{◌≡◌, [], ◌∷◌, length, Ok, Err}
use Rattle.ascii.specs.Text.{text}
use Rattle.reference.specs.declared.Refusal.TheVariants.{LineForm}
use Rattle.numbers.specs.Numbers.{numbers_of, numbers_outcome, numbers_read}

pub record Cases : Type 0 where
  pub two_numbers : numbers_outcome (text "A 800 6100") ≡ record { refusal = 0; count = 2 }
  pub two_values : numbers_of (text "A 800 6100") ≡ Ok (record { items = 800 ∷ 6100 ∷ [] })
  pub no_numbers : numbers_outcome (text "P") ≡ record { refusal = 0; count = 0 }
  -- no number can be read after the second space
  pub not_of_the_form : numbers_outcome (text "A 800 x") ≡ record { refusal = 2; count = 0 }
  pub refused : numbers_of (text "A 800 x") ≡ Err LineForm
  pub read_before : numbers_read (length (text "A 800 x")) (text "A 800 x") 1 ≡ 800 ∷ []
