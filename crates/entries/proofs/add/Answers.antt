use Rattle.event_encoder.proofs.Fits.{event-fits}
use Rattle.entries.proofs.add.Goals as goal

pub append-requires : goal.append-requires
append-requires c = (c.requires.room, event-fits c.args.p.now _ c.requires.event.admitted)
