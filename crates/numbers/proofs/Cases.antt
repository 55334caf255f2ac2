-- The worked cases: each is computed.
use mathlib.Core.Path.{refl}
use Rattle.ascii.specs.Decimal.{digits, spelt}
use Rattle.protocol.specs.Number.{is_number, number_at}
use Rattle.protocol.specs.KeyLine.{spaced_number, numbers_from}
use Rattle.numbers.specs.Numbers.{numbers_outcome, numbers_read}
use Rattle.numbers.specs.Cases.{Cases}

pub cases : Cases
unfolding digits spelt is_number number_at spaced_number numbers_from numbers_outcome numbers_read
cases = record { two_numbers = refl; two_values = refl; no_numbers = refl; not_of_the_form = refl; refused = refl; read_before = refl }
