-- One more event: its slot is written, then byte 24.
use mathlib.Core.Path.{◌≡◌}
use mathlib.Core.List.{List}
use Prim.Native.Nat.{ℕ, ◌+◌, ◌-◌, ◌≤◌, ◌<◌}
use mathlib.Core.Logic.{inl}
use native.Mathlib.Omega.{arith}
use lib.ListN.{length, get_or, set}
use borrow.Rule.Slice.PartMut.{put_mid}
use Rattle.buffers.specs.Bytes.{put}
use Rattle.buffers.proofs.Lists.{put-part, put_one, put_other, length-put}
use Rattle.year.specs.declared.Event.{Event}
use Rattle.journal.specs.Encode.{slot_of, slot_place, with_slot}
use Rattle.journal.proofs.Encoded.{length-slot}

pub appended : (journal : List ℕ) (e : Event) (place : ℕ) → place ≡ slot_place (get_or journal 24 0) → place + 8 ≤ length journal
    → set (put_mid place (place + 8 - place) journal (slot_of e)) 24 (get_or (put_mid place (place + 8 - place) journal (slot_of e)) 24 0 + 1) ≡ with_slot journal e
appended journal e place p h =
    let filled : place + length (slot_of e) ≡ place + 8 = omega (arith, length-slot e) in
    let long = length-put journal place (slot_of e) (omega arith) in
    let inside : 24 < length (put journal place (slot_of e)) = omega arith in
    let kept = put_other journal place (slot_of e) 24 (omega arith) (inl (omega arith)) in
    rw (put-part journal place (place + 8) (slot_of e) filled, kept, put_one (put journal place (slot_of e)) 24 (get_or journal 24 0 + 1) inside, p)
