-- The slots before this one were entered, and the progress is that of their events.
use Rattle.slots.specs.Scanned.{Entered}
use Rattle.slots.proofs.enter_slots.Given as goal

abbrev pub invariant-loop-slot : goal.invariant-loop-slot
invariant-loop-slot l = Entered l.journal l.slot-index l.p
