use Rattle.std.proofs.Common.{◌≡◌, true}
use Rattle.year.specs.Setup.{setup_in_range}
use Rattle.worked_years.proofs.main.Given as goal

abbrev pub invariant-loop : goal.invariant-loop
invariant-loop l = setup_in_range l.year.setup ≡ true
