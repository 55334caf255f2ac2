-- What writing an event requires: the number stored in one byte fits in a byte.
use Rattle.std.specs.Prelude.{◌<◌}
use Rattle.year.specs.declared.Event.{Event}
use Rattle.journal.specs.Encode.{fields_of}

abbrev pub EventFits : Event → Type 0
EventFits e = (fields_of e).readings < 256
