-- The worked cases hold.
use mathlib.Core.Path.{◌≡◌, refl}
use native.Mathlib.Omega.{arith}
use lib.Dec.{lit<}
use Rattle.statistics.specs.Spread.{root}
use Rattle.statistics.proofs.Root.{root-unique, root-most}
use Rattle.spread.specs.Cases.{Cases}

root-4 : root 1 4 ≡ 2
root-4 = root-unique 1 (lit< tt) 4 2 (omega arith) (omega arith)

root-288 : root 1 288 ≡ 16
root-288 = root-unique 1 (lit< tt) 288 16 (omega arith) (omega arith)

root-289 : root 1 289 ≡ 17
root-289 = root-unique 1 (lit< tt) 289 17 (omega arith) (omega arith)

root-1089 : root 1 1089 ≡ 33
root-1089 = root-unique 1 (lit< tt) 1089 33 (omega arith) (omega arith)

pub cases : Cases
cases =
    record {
      square = record { at_most = omega arith; largest = λ r h. omega (arith, root-4, root-most 1 (lit< tt) 4 r (omega arith)) };
      too_large = λ e. absurd (omega (arith, e.at_most));
      too_small = λ e. absurd (omega (arith, e.largest 2 (omega arith)));
      first = refl;
      second = refl;
      below_16 = refl;
      from_16 = refl;
      below_31 = refl;
      last = refl;
      past = refl;
      equal = record { not_above = omega (arith, root-288); not_below = omega (arith, root-288) };
      a_sixteenth = record { not_above = omega (arith, root-289); not_below = omega (arith, root-289) };
      above = λ n. absurd (omega (arith, n.not_above, root-288));
      below = λ n. absurd (omega (arith, n.not_below, root-1089));
    }
