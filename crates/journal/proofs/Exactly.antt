-- A buffer is accepted exactly if its parts are as document 01 says: size, header, version, number of events, events in their order, unused slots.
use mathlib.Core.Path.{◌≡◌, refl, sym, ap, ◌∙◌}
use mathlib.Core.Bool.{Bool, true, false, cond, ◌&&◌, and-true, and_assoc, and-eq-true_iff}
use mathlib.Core.List.{List, ◌++◌}
use Prim.Native.Nat.{ℕ, zero, suc, ◌+◌, ◌-◌, ◌*◌, ◌≤◌}
use native.Mathlib.Omega.{arith}
use lib.ListN.{length, get_or, take, drop, length-append, length-drop}
use lib.Seq.{take-take, drop-drop}
use Rattle.std.proofs.lemmas.Bool.Decides.{nat_tests}
use Rattle.buffers.specs.Bytes.{zeros, same}
use Rattle.buffers.proofs.Lists.{drop-take}
use Rattle.buffers.proofs.Same.{same-equal, same-append}
use Rattle.year.specs.declared.Setup.{Setup}
use Rattle.year.specs.declared.Event.{Event}
use Rattle.year.specs.Setup.{setup_in_range}
use Rattle.year.specs.Replay.{replay}
use Rattle.year.specs.Admissible.{admissible, valid}
use Rattle.year.specs.Model.{Model, NoSetup, Year}
use Rattle.year.proofs.Replayed.{replay-stored}
use Rattle.year.proofs.Ranges.{valid-in-range}
use Rattle.journal.specs.Encode.{can_hold, header, slot_of, slots, encode, slot_place, version_in}
use Rattle.journal.specs.Read.{setup_in, event_in, events_in, read_as, read_journal}
use Rattle.journal.specs.Acceptance.{is_header, is_version, is_slot, enters_at, enters_up_to, Acceptable}
use Rattle.journal.proofs.Encoded.{length-slots, length-encode}
use Rattle.journal.proofs.Reading.{no-year}

-- three joined lists are compared part by part
same_parts : (h b z journal : List ℕ) (m n : ℕ) → length h ≡ m → length b ≡ n
    → same (h ++ b ++ z) journal ≡ ((same h (take m journal) && same b (take n (drop m journal))) && same z (drop (m + n) journal))
same_parts h b z journal m n p q =
    same-append (h ++ b) z journal
    ∙ rw (length-append h b, p, q, same-append h b (take (m + n) journal), p, take-take m (m + n) journal (omega arith), drop-take m n journal)

pub length-events : (journal : List ℕ) (j : ℕ) → length (events_in journal j) ≡ j
length-events journal zero = refl
length-events journal (suc j) = ap suc (length-events journal j)

and-swap : (a v s d : Bool) → ((a && v) && (s && d)) ≡ ((a && s) && (v && d))
and-swap a v s d = grind (arith, nat_tests)

module _ (journal : List ℕ) where
  abbrev body : ℕ → List ℕ
  body j = take (8 * j) (drop 32 journal)

  slots_length : (j : ℕ) → length (slots (events_in journal j)) ≡ 8 * j
  slots_length j = omega (arith, length-slots (events_in journal j), length-events journal j)

  -- comparing j + 1 slots is comparing the first j and then one more
  slots_next : (j : ℕ) → same (slots (events_in journal (suc j))) (body (suc j)) ≡ (same (slots (events_in journal j)) (body j) && is_slot (drop (slot_place j) journal))
  unfolding is_slot
  slots_next j =
      let e = event_in (drop (slot_place j) journal) in
      let more : 8 * suc j ≡ 8 * j + 8 = omega arith in
      let front : take (8 * j) (take (8 * j + 8) (drop 32 journal)) ≡ take (8 * j) (drop 32 journal) = take-take (8 * j) (8 * j + 8) (drop 32 journal) (omega arith) in
      let slot : drop (8 * j) (take (8 * j + 8) (drop 32 journal)) ≡ take 8 (drop (slot_place j) journal)
      = drop-take (8 * j) 8 (drop 32 journal) ∙ ap (take 8) (drop-drop (8 * j) 32 journal) in
      rw (more, same-append (slots (events_in journal j)) (slot_of e) (take (8 * j + 8) (drop 32 journal)), slots_length j, front, slot)

  enters_is : (j : ℕ) → (setup_in_range (setup_in journal) && enters_up_to journal j) ≡ (same (slots (events_in journal j)) (body j) && valid (setup_in journal) (events_in journal j))
  unfolding enters_at
  enters_is zero = and-true (setup_in_range (setup_in journal))
  enters_is (suc j) =
      let s = setup_in journal in
      let es = events_in journal j in
      let slot = is_slot (drop (slot_place j) journal) in
      let fits = admissible (replay s es) (event_in (drop (slot_place j) journal)) in
      rw (← and_assoc (setup_in_range s) (enters_up_to journal j) (slot && fits), enters_is j, slots_next j)
      (and-swap (same (slots es) (body j)) (valid s es) slot fits)

  abbrev count : ℕ
  count = get_or journal 24 0

  -- whether encoding what is read gives the buffer again, part by part
  encoded-is : same (encode (version_in journal) (setup_in journal) (events_in journal count)) journal
      ≡ ((is_header journal && same (slots (events_in journal count)) (body count)) && same (zeros (512 - 8 * count)) (drop (slot_place count) journal))
  unfolding is_header
  encoded-is =
      let s = setup_in journal in
      let es = events_in journal count in
      ap (λ k. same (header (version_in journal) s k ++ slots es ++ zeros (512 - 8 * k)) journal) (length-events journal count)
      ∙ same_parts (header (version_in journal) s count) (slots es) (zeros (512 - 8 * count)) journal 32 (8 * count) refl (slots_length count)

  -- the test of a whole buffer, as tests of its parts
  whole_is : (same (encode (version_in journal) (setup_in journal) (events_in journal count)) journal && valid (setup_in journal) (events_in journal count))
      ≡ (is_header journal && same (zeros (512 - 8 * count)) (drop (slot_place count) journal) && (setup_in_range (setup_in journal) && enters_up_to journal count))
  whole_is = rw (encoded-is, enters_is count) (moved (is_header journal) _ _ _)
    where
      moved : (h s z v : Bool) → (((h && s) && z) && v) ≡ ((h && z) && (s && v))
      moved h s z v = grind (arith, nat_tests)

  rest-length : length journal ≡ 544 → length (drop (slot_place count) journal) ≡ 512 - 8 * count
  rest-length h = omega (arith, length-drop (slot_place count) journal)

  -- a buffer with acceptable parts is read as the setup and events in them
  pub acceptable-read : Acceptable journal → read_journal journal ≡ Year (setup_in journal) (events_in journal count)
  unfolding read_as is_version
  acceptable-read p =
      let unused = rw (rest-length p.size) at p.unused in
      rw (whole_is, p.header, unused, p.setup, p.events, p.version)

  tests-hold : (b : Bool) (t : Setup) (fs : List Event) → cond b (Year (setup_in journal) (events_in journal count)) NoSetup ≡ Year t fs → b ≡ true
  tests-hold true t fs h = refl
  tests-hold false t fs h = absurd (no-year t fs h)

  -- conversely, an accepted buffer has acceptable parts
  pub read-acceptable : (t : Setup) (fs : List Event) → read_journal journal ≡ Year t fs → Acceptable journal
  unfolding read_as is_version
  read-acceptable t fs h =
      let v = version_in journal in
      let s = setup_in journal in
      let es = events_in journal count in
      let zero = same (zeros (512 - 8 * count)) (drop (slot_place count) journal) in
      let all = (and-eq-true_iff (same (encode v s es) journal && valid s es) (can_hold v s es)).0 (tests-hold (same (encode v s es) journal && valid s es && can_hold v s es) t fs h) in
      let whole = all.0 in
      let stored = (and-eq-true_iff (same (encode v s es) journal) (valid s es)).0 whole in
      let parts = (and-eq-true_iff (is_header journal && zero) (setup_in_range s && enters_up_to journal count)).0 (sym whole_is ∙ whole) in
      let front = (and-eq-true_iff (is_header journal) zero).0 parts.0 in
      let year = (and-eq-true_iff (setup_in_range s) (enters_up_to journal count)).0 parts.1 in
      let few : count ≤ 64 = omega (arith, (valid-in-range s es stored.1).events, replay-stored s es, length-events journal count) in
      let size : length journal ≡ 544
      = sym (ap length (same-equal (encode v s es) journal stored.0)) ∙ length-encode v s es (omega (arith, length-events journal count)) in
      record { size = size; header = front.0; version = all.1; setup = year.0; count = few; events = year.1; unused = rw (rest-length size) front.1 }

  -- a buffer with an unacceptable part is not accepted
  pub not-acceptable : (Acceptable journal → ⊥) → read_journal journal ≡ NoSetup
  not-acceptable f = by (read_journal journal) refl
    where
      by : (m : Model) → read_journal journal ≡ m → m ≡ NoSetup
      by NoSetup e = refl
      by (Year t fs) e = absurd (f (read-acceptable t fs e))
