-- Document 01, "The book": the 544 bytes of a setup and its events, little-endian, in a version of document 01 or 02. Events are listed with the newest first.
use Rattle.std.specs.Prelude.{Bool, cond, ◌&&◌, List, [], ◌∷◌, ◌++◌, ℕ, ◌+◌, ◌-◌, ◌*◌, eqb, length, get_or}
use Rattle.buffers.specs.Bytes.{put, zeros, bytes16, bytes32, number16}
use Rattle.ascii.specs.Text.{text}
use Rattle.year.specs.declared.Setup.{Setup}
use Rattle.year.specs.declared.Event.{Event}
use Rattle.year.specs.declared.Event.TheVariants.{Engine, Amendment, NextPeriod, Declaration, Deletion}
use Rattle.year.specs.Deletions.{is_deletion, has_deletion}

-- "version 1", which a setup writes
abbrev pub setup_version : ℕ
setup_version = 1

-- "A version 2 book holds at least one strike" (document 02, W-201), and a book of version 1 none
abbrev pub version : List Event → ℕ
version es = cond (has_deletion es) 2 1

-- a journal of this version can hold this setup and these events
unfoldable pub can_hold : ℕ → Setup → List Event → Bool
can_hold v s es = eqb v (version es)

-- the first 32 bytes, with the version and the number of events
abbrev pub header : ℕ → Setup → ℕ → List ℕ
header v s count =
    -- 0–2 "PLT"; 3–4 the version; 5–7 zero
    text "PLT" ++ bytes16 v ++ zeros 3
    -- 8–11 P; 12–13 D
    ++ bytes32 s.volume ++ bytes16 s.days
    -- 14–15 and 16–17 the first standards, HC+NOx then CO
    ++ bytes16 s.standards.hcnox ++ bytes16 s.standards.co
    -- 18 and 19 factor kinds; 20–21 and 22–23 factors
    ++ (s.factors.hcnox.kind ∷ s.factors.co.kind ∷ []) ++ bytes16 s.factors.hcnox.value ++ bytes16 s.factors.co.value
    -- 24 number of events; 25–31 zero
    ++ (count ∷ zeros 7)

-- what a slot holds: the kind, readings per pollutant, and three two-byte numbers
pub record Fields : Type 0 where
  pub kind : ℕ
  pub readings : ℕ
  pub first : ℕ
  pub second : ℕ
  pub third : ℕ

-- "Unnamed bytes .. are zero."
abbrev pub fields_of : Event → Fields
-- 1, engine: byte 1 readings per pollutant, 2–3 and 4–5 the results, 6–7 the engine number
fields_of (Engine number readings results) = record { kind = 1; readings = readings; first = results.hcnox; second = results.co; third = number }
-- 2, amendment: 2–3 and 4–5 the new standards
fields_of (Amendment standards) = record { kind = 2; readings = 0; first = standards.hcnox; second = standards.co; third = 0 }
-- 3, next period
fields_of NextPeriod = record { kind = 3; readings = 0; first = 0; second = 0; third = 0 }
-- 4, declaration
fields_of Declaration = record { kind = 4; readings = 0; first = 0; second = 0; third = 0 }
-- "A strike is event kind 5, all else zero" (document 02, W-201)
fields_of Deletion = record { kind = 5; readings = 0; first = 0; second = 0; third = 0 }

-- the eight bytes of a slot: 0 the kind, 1 the readings, 2–3, 4–5 and 6–7 the numbers
abbrev pub slot : Fields → List ℕ
slot f = (f.kind ∷ f.readings ∷ []) ++ bytes16 f.first ++ bytes16 f.second ++ bytes16 f.third

abbrev pub slot_of : Event → List ℕ
slot_of e = slot (fields_of e)

-- the slots in the order of entry
abbrev pub slots : List Event → List ℕ
slots [] = []
slots (e ∷ es) = slots es ++ slot_of e

-- "unused slots are zero". (`-` stops at 0: past 64 events, which are never accepted, the list would be longer than 544.)
abbrev pub encode : ℕ → Setup → List Event → List ℕ
encode v s es = header v s (length es) ++ slots es ++ zeros (512 - 8 * length es)

-- "Slot j, from 0, is the eight bytes that start at 32 + 8 × j."
abbrev pub slot_place : ℕ → ℕ
slot_place j = 32 + 8 * j

-- "Each other entry writes its slot and byte 24": slot j, where j is the number of events so far, in byte 24, which becomes j + 1
abbrev pub with_slot : List ℕ → Event → List ℕ
with_slot journal e = put (put journal (slot_place (get_or journal 24 0)) (slot_of e)) 24 ((get_or journal 24 0 + 1) ∷ [])

-- the version in bytes 3–4
abbrev pub version_in : List ℕ → ℕ
version_in journal = number16 journal 3

-- the event is the first strike of a journal of version 1
abbrev pub raises : Event → ℕ → Bool
raises e v = is_deletion e && eqb v 1

-- the version after the event: "version 1 .. becomes version 2 at its first strike" (document 02, W-201)
abbrev pub raised : Event → ℕ → ℕ
raised e v = cond (raises e v) 2 v

-- "which writes byte 3 besides its slot and byte 24"
unfoldable pub append : List ℕ → Event → List ℕ
append journal e = cond (raises e (version_in journal)) (put (with_slot journal e) 3 (2 ∷ [])) (with_slot journal e)
