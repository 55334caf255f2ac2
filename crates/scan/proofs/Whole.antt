-- The tests of a whole buffer, in the code's order: size, number of events, header, version and unused slots, and then the events.
use mathlib.Core.Path.{◌≡◌, refl, sym, ap, ◌∙◌}
use mathlib.Core.Bool.{Bool, true, false, ◌&&◌, true≢false, and-eq-true_iff}
use mathlib.Core.List.{List}
use Prim.Native.Nat.{ℕ, ◌-◌, ◌≤◌, ◌<◌}
use native.Mathlib.Omega.{arith}
use lib.ListN.{length, get_or, take, drop}
use Rattle.buffers.specs.Bytes.{is_zero}
use Rattle.buffers.proofs.Lists.{part-from}
use Rattle.conditions.proofs.Tests.{and-true}
use Rattle.year.specs.declared.Setup.{Setup}
use Rattle.year.specs.Setup.{setup_in_range}
use Rattle.journal.specs.Encode.{slot_place}
use Rattle.journal.specs.Read.{setup_in, read_journal}
use Rattle.journal.specs.Acceptance.{is_header, is_version, enters_up_to}
use Rattle.journal.proofs.Exactly.{acceptable-read, not-acceptable}
use Rattle.std.specs.Prelude.{None}
use Rattle.year.specs.Model.{Model, NoSetup}
use Rattle.year.specs.Replay.{start}
use Rattle.slots.specs.Scanned.{year_of, Entered, entered}
use Rattle.slots.proofs.Entering.{none-entered, all-entered}

-- no state, where there is no year
pub no_year : {model : Model} → model ≡ NoSetup → None ≡ year_of model
no_year e = rw e

module _ (journal : List ℕ) where
  abbrev count : ℕ
  count = get_or journal 24 0

  pub other_size : (length journal ≡ 544 → ⊥) → None ≡ year_of (read_journal journal)
  other_size f = no_year (not-acceptable journal (λ p. f p.size))

  pub too_many : 64 < count → read_journal journal ≡ NoSetup
  too_many h = not-acceptable journal (λ p. omega (arith, p.count))

  -- the setup of the header is out of range
  pub other-setup : (setup : Setup) → setup ≡ setup_in journal → (ranged : Bool) → ranged ≡ setup_in_range setup → ranged ≡ false → read_journal journal ≡ NoSetup
  other-setup setup is ranged test f = not-acceptable journal (λ p. true≢false (sym p.setup ∙ sym (ap setup_in_range is) ∙ sym test ∙ f))

  pub first-entered : (setup : Setup) → setup ≡ setup_in journal → setup_in_range setup ≡ true → Entered journal 0 (start setup)
  first-entered setup is r = record { setup = sym (ap setup_in_range is) ∙ r; enters = refl; stands = ap start is }

  module _ (n : length journal ≡ 544) (header version zero : Bool) (eh : header ≡ is_header journal) (ev : version ≡ is_version journal count)
      (ez : zero ≡ is_zero (take (544 - slot_place count) (drop (slot_place count) journal))) where
    unused-is : zero ≡ is_zero (drop (slot_place count) journal)
    unused-is = rw (rw n at (part-from journal (slot_place count))) at ez

    pub other-bytes : ((header && version) && zero) ≡ false → read_journal journal ≡ NoSetup
    other-bytes h = not-acceptable journal (λ p. true≢false (sym (and-true (and-true (eh ∙ p.header) (ev ∙ p.version)) (unused-is ∙ p.unused)) ∙ h))

    pub by-events : count ≤ 64 → ((header && version) && zero) ≡ true → entered journal count ≡ read_journal journal
    by-events few h = by (setup_in_range (setup_in journal)) (enters_up_to journal count) refl refl
      where
        parts : ((header && version) ≡ true) × (zero ≡ true)
        parts = (and-eq-true_iff (header && version) zero).0 h

        front : (header ≡ true) × (version ≡ true)
        front = (and-eq-true_iff header version).0 parts.0

        by : (a b : Bool) → setup_in_range (setup_in journal) ≡ a → enters_up_to journal count ≡ b → entered journal count ≡ read_journal journal
        by true true s e =
            all-entered journal count (and-true s e)
            ∙ sym (acceptable-read journal (record {
              size = n;
              header = sym eh ∙ front.0;
              version = sym ev ∙ front.1;
              setup = s;
              count = few;
              events = e;
              unused = sym unused-is ∙ parts.1;
            }))
        by true false s e = none-entered journal count (rw (s, e)) ∙ sym (not-acceptable journal (λ p. true≢false (sym p.events ∙ e)))
        by false b s e = none-entered journal count (rw s) ∙ sym (not-acceptable journal (λ p. true≢false (sym p.setup ∙ s)))
