-- The form of a call that hands back the front part of a lent buffer. Its code is
--       let end = write(journal, out, refusal);  &mut out[..end]
-- where `write` does the work, and reports where the part ends and whether the call is refused. `HandsBack.antt` proves it once for every call of this form.
use mathlib.Core.Path.{◌≡◌}
use Prim.Native.Nat.{ℕ}
use mathlib.Core.List.{List, [], ◌∷◌}
use lib.ListN.{length, take, drop}
use seplogic.Ra.Ura.{Ura}
use mir.Syntax.{Callee, Fn, Ty, Local, named, erased, mut, imm, w8, w64, ty_int, ty_ref, local, value_local, field, deref, place}
use mir.Syntax.{copy, addr_of, aggregate, assign, seq, return, call}
use base.Logic.{sep, emp}
use types.Logic.{Logic, sem}
use contract.Monad.{fact}
use denote.Builtin.{u8, usize}
use denote.Exit.{yes, no}
use denote.Signature.{Slot, Signature, plain, shr_slice_of, mut_slice_of, mut_ref_to}
use denote.Slice.{slice_ty}
use denote.Triple.Clauses.{Ended, Clauses}
use Rattle.front_part.specs.Lender.{LenderFinds}

-- what such a call does, as functions of the journal and the buffer on entry
pub record Output : Type 1 where
  -- the part, every byte of the buffer afterwards, and the refusal
  pub part_of : List ℕ → List ℕ → List ℕ
  pub after_of : List ℕ → List ℕ → List ℕ
  pub refusal_of : List ℕ → List ℕ → ℕ
  -- the buffer keeps its length, and the part is the front of the buffer afterwards
  pub size : (journal buffer : List ℕ) → length (after_of journal buffer) ≡ length buffer
  pub front : (journal buffer : List ℕ) → take (length (part_of journal buffer)) (after_of journal buffer) ≡ part_of journal buffer
  -- what `write` promises about the two numbers that it reports, and that these are the part's end and the refusal
  pub Answers : List ℕ → List ℕ → ℕ → ℕ → Type 0
  pub end : (journal buffer : List ℕ) (end refusal : ℕ) → Answers journal buffer end refusal → end ≡ length (part_of journal buffer)
  pub refusal : (journal buffer : List ℕ) (end refusal : ℕ) → Answers journal buffer end refusal → refusal ≡ refusal_of journal buffer

-- the parameters: journal, buffer and refusal
abbrev pub journal : Slot 3
journal = shr_slice_of (0 ∷ []) tt (plain (λ _. u8))

abbrev pub buffer : Slot 3
buffer = mut_slice_of (1 ∷ []) tt (plain (λ _. u8))

abbrev refused : Slot 3
refused = mut_ref_to (2 ∷ []) tt (plain (λ _. u8))

-- the signatures of `write` and of the call; the call's result has the buffer's lifetime, so the buffer is not among the parameters that are kept
abbrev signed : Slot 3 → Signature
signed result = record { lifetimes = 3; outlives = []; params = journal ∷ buffer ∷ refused ∷ []; result = result }

abbrev pub writing : Ended
writing = record { signature = signed (plain (λ _. usize)); kept = (yes, (yes, (yes, tt))) }

abbrev pub handing : Ended
handing = record { signature = signed buffer; kept = (yes, (no, (yes, tt))) }

-- the code: _1 to _3 are the parameters, _4 is `end`, and _5 to _8 are references
abbrev pub function : Callee → Fn
function write = record {
  lifetimes = 3;
  outlives = [];
  ty_params = [];
  givens = 0;
  params = 3;
  locals = held (slice_ty lent) ∷ held (slice_ty (ty_ref (named 0) imm (ty_int w8))) ∷ held (slice_ty lent) ∷ held (ty_ref (named 2) mut (ty_int w8))
      ∷ held (ty_int w64) ∷ held again ∷ held (slice_ty again) ∷ held again ∷ held again ∷ [];
  body = seq (assign (place 5 []) (addr_of (place 2 (field 0 ∷ deref (ty_int w8) ∷ []))))
      (seq (assign (place 6 []) (aggregate (copy (place 5 []) ∷ copy (place 2 (field 1 ∷ [])) ∷ [])))
      (seq (assign (place 7 []) (addr_of (place 3 (deref (ty_int w8) ∷ []))))
      (seq (call write (copy (place 1 []) ∷ copy (place 6 []) ∷ copy (place 7 []) ∷ []) (place 4 []))
      (seq (assign (place 8 []) (addr_of (place 2 (field 0 ∷ deref (ty_int w8) ∷ []))))
      (seq (assign (place 0 []) (aggregate (copy (place 8 []) ∷ copy (place 4 []) ∷ []))) return)))));
}
  where
    held : Ty → Local
    held type = local type value_local

    lent : Ty
    lent = ty_ref (named 1) mut (ty_int w8)

    again : Ty
    again = ty_ref erased mut (ty_int w8)

module _ (output : Output) {M : Type 1} (𝓤 : Ura M) where
  -- what `write` promises
  abbrev pub Writes : Clauses 𝓤 writing
  Writes κs a = record {
    ghost = Unit {0};
    requires = λ _. emp 𝓤;
    ensures = λ _ r e. sep 𝓤 (fact 𝓤 (output.Answers a.0.now a.1.0.now r e.1.1.0.now))
        (fact 𝓤 (e.1.0.now ≡ output.after_of a.0.now a.1.0.now));
  }

  -- what the call promises: the part's bytes, where the part starts, every byte of the buffer when the borrow ends, and the refusal
  abbrev pub Hands : (𝓛 : Logic 𝓤) → Clauses 𝓤 handing
  Hands 𝓛 κs a = record {
    ghost = Unit {0};
    requires = λ _. emp 𝓤;
    ensures = λ _ r e. sep 𝓤 (fact 𝓤 (r.now ≡ output.part_of a.0.now a.1.0.now)) (sep 𝓤 (fact 𝓤 (r.ref_ptr ≡ a.1.0.ref_ptr))
        (sep 𝓤 (sem 𝓛 (LenderFinds a.1.0 r (drop (length r.now) (output.after_of a.0.now a.1.0.now))))
        (fact 𝓤 (e.1.1.0.now ≡ output.refusal_of a.0.now a.1.0.now))));
  }
