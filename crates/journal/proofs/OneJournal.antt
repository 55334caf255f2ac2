-- Demand 2 for the stored form.
use native.Mathlib.Omega.{arith}
use Rattle.year.proofs.Replayed.{replay-stored}
use Rattle.year.proofs.Ranges.{valid-in-range}
use Rattle.journal.specs.OneJournal.{OneJournal}
use Rattle.journal.proofs.Encoded.{length-encode, holds-iff}
use Rattle.journal.proofs.Reading.{read-encode, read-stores, one-journal, one-year, none-stored, append-stored, append-read}
use Rattle.journal.proofs.Exactly.{acceptable-read, read-acceptable}

pub demand : OneJournal
demand =
    record {
      size = λ v s es a. length-encode v s es (omega (arith, (valid-in-range s es a).events, replay-stored s es));
      read_back = read-encode;
      accepted = read-stores;
      version = holds-iff;
      one = one-journal;
      apart = one-year;
      refused = none-stored;
      if_acceptable = acceptable-read;
      only_if_acceptable = read-acceptable;
      appended = append-stored;
      appended_read = append-read;
    }
