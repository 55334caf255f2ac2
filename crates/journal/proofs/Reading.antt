-- The round trip: what was stored is read back, and a buffer that is read as a setup and events is their stored form.
use mathlib.Core.Path.{◌≡◌, refl, sym, ap, ◌∙◌}
use mathlib.Core.Bool.{Bool, true, false, cond, ◌&&◌, and-eq-true_iff}
use mathlib.Core.List.{List, [], ◌∷◌, ◌++◌, append_assoc}
use Prim.Native.Nat.{ℕ, ◌*◌, ◌<◌}
use native.Mathlib.Omega.{arith}
use lib.ListN.{length, get_or, drop}
use lib.Seq.{drop_at, drop-drop}
use Rattle.buffers.specs.Bytes.{same}
use Rattle.buffers.proofs.LittleEndian.{from-two, from-four}
use Rattle.buffers.proofs.Same.{same_refl, same-equal}
use Rattle.year.specs.declared.Setup.{Setup}
use Rattle.year.specs.declared.Event.{Event}
use Rattle.year.specs.declared.Event.TheVariants.{Engine, Amendment, NextPeriod, Declaration, Deletion}
use Rattle.year.specs.Setup.{Hcnox, Co, setup_in_range}
use Rattle.year.specs.Replay.{Progress, replay}
use Rattle.year.specs.Admissible.{admissible, valid}
use Rattle.year.specs.Model.{NoSetup, Year}
use Rattle.year.proofs.Replayed.{replay-stored}
use Rattle.year.proofs.Valid.{valid-before, valid-newest, valid-next}
use Rattle.year.proofs.Ranges.{standard-le, admitted-engine, not_full, fitting}
use Rattle.year.proofs.Setups.{bounded}
use Rattle.journal.specs.Encode.{can_hold, fields_of, slot_of, slots, encode, slot_place, version_in, raised, append}
use Rattle.journal.specs.Read.{setup_in, event_in, events_in, read_as, read_journal}
use Rattle.journal.specs.OneJournal.{Stores}
use Rattle.journal.proofs.Encoded.{length-slots, holds-iff, holds-small, holds-next, append-encode}

-- ---- an event and its slot

-- the two-byte fields of a slot fit two bytes
abbrev Fits : Event → Type 0
Fits e = ((fields_of e).first < 65536) × ((fields_of e).second < 65536) × ((fields_of e).third < 65536)

admissible-fits : (p : Progress) (e : Event) → admissible p e ≡ true → Fits e
admissible-fits p (Engine number readings results) h =
    let r = admitted-engine p number readings results h in
    omega (arith, r.results Hcnox, r.results Co)
admissible-fits p (Amendment standards) h =
    let f = fitting p (Amendment standards) h in
    omega (arith, standard-le standards f Hcnox, standard-le standards f Co)
admissible-fits p NextPeriod h = omega arith
admissible-fits p Declaration h = omega arith
admissible-fits p Deletion h = omega arith

event-back : (e : Event) (rest : List ℕ) → Fits e → event_in (slot_of e ++ rest) ≡ e
event-back (Engine number readings results) rest h = rw (from-two results.hcnox h.0, from-two results.co h.1, from-two number h.2)
event-back (Amendment standards) rest h = rw (from-two standards.hcnox h.0, from-two standards.co h.1)
event-back NextPeriod rest h = refl
event-back Declaration rest h = refl
event-back Deletion rest h = refl

-- the slots of a list of events, whatever comes after them, are read back as that list
events-back : (s : Setup) (es : List Event) (journal rest : List ℕ) → valid s es ≡ true → drop 32 journal ≡ slots es ++ rest → events_in journal (length es) ≡ es
events-back s [] journal rest v p = refl
events-back s (e ∷ es) journal rest v p =
    let q : drop 32 journal ≡ slots es ++ (slot_of e ++ rest) = p ∙ append_assoc (slots es) (slot_of e) rest in
    let at : drop (slot_place (length es)) journal ≡ slot_of e ++ rest
    = sym (drop-drop (8 * length es) 32 journal) ∙ ap (drop (8 * length es)) q ∙ drop_at (slots es) (slot_of e ++ rest) (8 * length es) (length-slots es) in
    rw (at, event-back e rest (admissible-fits (replay s es) e (valid-newest s e es v)), events-back s es journal (slot_of e ++ rest) (valid-before s e es v) q)

-- ---- a setup and its header

setup-back : (v : ℕ) (s : Setup) (es : List Event) → setup_in_range s ≡ true → setup_in (encode v s es) ≡ s
setup-back v s es h =
    let b = bounded s h in
    let p = b.volume in
    let d = b.days in
    let th = b.standards Hcnox in
    let tc = b.standards Co in
    let fh = (b.factors Hcnox).1 in
    let fc = (b.factors Co).1 in
    rw (
      from-four s.volume (omega arith),
      from-two s.days (omega arith),
      from-two s.standards.hcnox (omega arith),
      from-two s.standards.co (omega arith),
      from-two s.factors.hcnox.value (omega arith),
      from-two s.factors.co.value (omega arith),
    )

valid-setup : (s : Setup) (es : List Event) → valid s es ≡ true → setup_in_range s ≡ true
valid-setup s [] v = v
valid-setup s (e ∷ es) v = valid-setup s es (valid-before s e es v)

-- ---- the journal

module _ (v : ℕ) (s : Setup) (es : List Event) (c : can_hold v s es ≡ true) (a : valid s es ≡ true) where
  pub read_as-encode : read_as (encode v s es) v s es ≡ Year s es
  unfolding read_as
  read_as-encode = rw (same_refl (encode v s es), a, c)

  -- what was stored is read back
  pub read-encode : read_journal (encode v s es) ≡ Year s es
  read-encode =
      let journal = encode v s es in
      ap (λ w. read_as journal w (setup_in journal) (events_in journal (length es))) (from-two v (holds-small v s es c))
      ∙ ap (λ (x : Setup). read_as journal v x (events_in journal (length es))) (setup-back v s es (valid-setup s es a))
      ∙ ap (read_as journal v s) (events-back s es journal _ a refl)
      ∙ read_as-encode

pub no-year : (s : Setup) (es : List Event) → NoSetup ≡ Year s es → ⊥
no-year s es h = let z : ◌≡◌ {A = ℕ} 0 1 = cc in omega arith

module _ (journal : List ℕ) (v : ℕ) (s t : Setup) (es fs : List Event) where
  by_answer : (b : Bool) → (same (encode v t fs) journal && valid t fs && can_hold v t fs) ≡ b → cond b (Year t fs) NoSetup ≡ Year s es → Stores v journal s es
  by_answer true p h =
      let q = (and-eq-true_iff (same (encode v t fs) journal && valid t fs) (can_hold v t fs)).0 p in
      let r = (and-eq-true_iff (same (encode v t fs) journal) (valid t fs)).0 q.0 in
      let a : t ≡ s = cc in
      let c : fs ≡ es = cc in
      record {
        stored = sym (same-equal (encode v t fs) journal r.0) ∙ ap (λ x. encode v x fs) a ∙ ap (encode v s) c;
        holds = sym (ap (λ x. can_hold v x fs) a ∙ ap (can_hold v s) c) ∙ q.1;
        valid = sym (ap (λ x. valid x fs) a ∙ ap (valid s) c) ∙ r.1;
      }
  by_answer false p h = absurd (no-year s es h)

-- a buffer that is read as a setup and events is their stored form, and these could have been entered
pub read-stores : (journal : List ℕ) (s : Setup) (es : List Event) → read_journal journal ≡ Year s es → Stores (version_in journal) journal s es
unfolding read_as
read-stores journal s es h =
    let v = version_in journal in
    let t = setup_in journal in
    let fs = events_in journal (get_or journal 24 0) in
    by_answer journal v s t es fs (same (encode v t fs) journal && valid t fs && can_hold v t fs) refl h

-- one version can hold a list, so two journals of the same setup and list are equal
pub one-journal : (a b : List ℕ) (s : Setup) (es : List Event) → read_journal a ≡ Year s es → read_journal b ≡ Year s es → a ≡ b
one-journal a b s es h k =
    let p = read-stores a s es h in
    let q = read-stores b s es k in
    let v : version_in a ≡ version_in b = (holds-iff (version_in a) s es).0 p.holds ∙ sym ((holds-iff (version_in b) s es).0 q.holds) in
    p.stored ∙ ap (λ n. encode n s es) v ∙ sym q.stored

-- `encode` is injective: two setups and lists with the same journal are equal
pub one-year : (v w : ℕ) (s t : Setup) (es fs : List Event) → can_hold v s es ≡ true → can_hold w t fs ≡ true → valid s es ≡ true → valid t fs ≡ true
    → encode v s es ≡ encode w t fs → (s ≡ t) × (es ≡ fs)
one-year v w s t es fs c d a b p =
    let q : Year s es ≡ Year t fs = sym (read-encode v s es c a) ∙ ap read_journal p ∙ read-encode w t fs d b in
    (cc, cc)

-- a buffer that is not accepted is the journal of no setup and list
pub none-stored : (journal : List ℕ) → read_journal journal ≡ NoSetup → (v : ℕ) (s : Setup) (es : List Event) → Stores v journal s es → ⊥
none-stored journal h v s es p = no-year s es (sym h ∙ ap read_journal p.stored ∙ read-encode v s es p.holds p.valid)

-- ---- one more event

module _ (journal : List ℕ) (s : Setup) (es : List Event) (e : Event) (h : read_journal journal ≡ Year s es) (a : admissible (replay s es) e ≡ true) where
  pub read-few : length es < 64
  read-few = omega (arith, not_full (replay s es) e a, replay-stored s es)

  abbrev v : ℕ
  v = version_in journal

  holds : can_hold v s es ≡ true
  holds = (read-stores journal s es h).holds

  pub append-stored : append journal e ≡ encode (raised e v) s (e ∷ es)
  append-stored = ap (λ b. append b e) (read-stores journal s es h).stored ∙ append-encode v s es e read-few (holds-small v s es holds)

  pub append-read : read_journal (append journal e) ≡ Year s (e ∷ es)
  append-read =
      ap read_journal append-stored
      ∙ read-encode (raised e v) s (e ∷ es) (holds-next v s es e holds) (valid-next s e es (read-stores journal s es h).valid a)
