-- A call that hands back the front part of a lent buffer (`Form.antt`) meets its contract: a walk through its MIR, by hand, once for all such calls. All that
-- the proof knows about `write` is that it meets its contract.
-- The buffer is reborrowed for `write`, for a lifetime made for the call, and comes back with the bytes that `write` left (`Again.antt`). Then its front
-- part goes into the result, and how the buffer ends is recorded (`Front.antt`). The journal and the refusal are passed on.
--     exits      from what is held at the end of the code to the contract's promises, `said`, of which `finds` is the one about the bytes behind the part
--     walk       the code, statement by statement
--     hands      hence the call meets its contract, over any tables
use mathlib.Core.Path.{◌≡◌, refl, sym, ◌∙◌, ap}
use Prim.Native.Nat.{ℕ, ◌+◌, ◌<◌, ◌^◌}
use mathlib.Core.List.{List, [], ◌∷◌, ◌++◌}
use native.Mathlib.Omega.{arith}
use lib.ListN.{length, take, drop as drop-list, length-take, length-drop}
use seplogic.Ra.Ura.{Ura}
use base.Fraction.{full_share}
use mir.Syntax.{Callee, named, w64, ty_int}
use mir.Val.{Val, vptr}
use base.Logic.{SProp, ent, sep, emp, via, fst∗, comm∗, id⊢}
use base.Fml.{Lft, Share, GName, Fml, ftrue, fsep, fat, flft, fres, fbor}
use types.SemTy.{Body}
use denote.Memory.{mem}
use prog.Wp.{Calls, Loops, WpFn, Tables}
use types.Logic.{Logic, sem}
use contract.Monad.{fact, fact_i}
use types.Kit.{Item, ‵, raw, ◌⊛◌, ⋆, some, later, ◌$◌, ◌∵◌, !, qed, by, move, keep, use0, use1, use2, use3, drop, rewrite, split, split3, join, pick}
use types.Kit.{fsplit, fsplit3, fjoin, feq_l, feq_i, suffices, frame, await, updating, done}
use types.Run.{look, init, forget, stop, hop, fld, from, load, addr, and_then, no_more, assigns}
use types.Run.{land, returns, enter, alloc1, alloc0, params1, pass1, pass0, free1, free0}
use types.Part.{agg, whole, sub, look_in}
use types.Tokens.{lft_new, lft_end}
use sound.WpLaws.{FmC, fm_of, WpFn-mono}
use denote.RattleType.{owns}
use denote.Laws.{Is, shows}
use denote.Plain.{uint_Lawful}
use denote.Builtin.{u8, usize}
use denote.Exit.{yes, no}
use denote.Ref.{Bor, MutBor, MutRef, mut_vals, mut_Tells}
use denote.Signature.{plain}
use denote.Slice.{slice_val, ShrSlice, MutSlice, Room, shr_slice_vals, mut_slice_vals, shr_slice_Tells, mut_slice_Tells}
use denote.Steps.{only, peeks, heard, nothing}
use denote.Triple.Entry.{on_entry}
use denote.Triple.Spec.{Meets, triple_of}
use denote.Triple.Statement.{Contract, Triple}
use denote.Triple.Call.{calls_at}
use denote.Triple.Clauses.{closing, ensured, lasts}
use denote.Triple.Walked.{Stays, stay_dropped, gave_ref, on_exit, walk_of, Goes-dropped, Goes-spent_slice, Goes-gave_ref, Walks, ends_at, walked, walk_Meets}
use denote.Array.{Array}
use Rattle.std.specs.Borrow.{Lends}
use Rattle.front_part.specs.Lender.{LenderFinds}
use Rattle.front_part.proofs.Again.{LentAgain, lends_again, comes_back}
use Rattle.front_part.proofs.Front.{front_out}
use Rattle.front_part.proofs.Form.{Output, journal, buffer, writing, handing, function, Writes, Hands}

-- the journal is given to the callee, the buffer to the result, and for the refusal what remains is the statement of its last value
abbrev stayed : Stays handing.signature.params handing.kept
stayed = (stay_dropped journal yes, (stay_dropped buffer no, (gave_ref (2 ∷ []) tt (plain (λ _. u8)), tt)))

-- the contract that the proof cites
abbrev pub Written : Output → {M : Type 1} {𝓤 : Ura M} (𝓛 : Logic 𝓤) → Contract 𝓤
Written output {𝓤 = 𝓤} 𝓛 = triple_of 𝓛 writing.signature (closing 𝓛 writing (Writes output 𝓤))

-- at lifetimes κ₀, κ₁ and κ₂ the journal j, the buffer at (b, o) under the name γ, which holds ys, and the refusal t
module _ (output : Output) {M : Type 1} {𝓤 : Ura M} (𝓛 : Logic 𝓤) (κ₀ κ₁ κ₂ : Lft) (q₀ q₁ q₂ : Share)
    (j : Bor (List ℕ)) (b o : ℕ) (γ : GName) (ys : List ℕ) (t : MutBor ℕ) where
  -- the buffer's borrow, under the name δ at the list l
  open 𝓛 use {H, A}

  abbrev x : GName → List ℕ → MutBor (List ℕ)
  x δ l = record { ref_ptr = (b, o); ghost_name = δ; now = l }

  -- the machine values
  abbrev vj : Val
  vj = slice_val j.ref_ptr (length j.now)

  abbrev s : ℕ → Val
  s n = slice_val (b, o) n

  abbrev vt : Val
  vt = vptr t.ref_ptr.0 t.ref_ptr.1

  abbrev vals : List Val × (List Val × (List Val × Unit {0}))
  vals = (vj ∷ [], (s (length ys) ∷ [], (vt ∷ [], tt)))

  -- the arguments, lifetimes and shares, the buffer under δ, at ν, with the share q
  abbrev a : GName → Bor (List ℕ) × (MutBor (List ℕ) × (MutBor ℕ × Unit {0}))
  a δ = (j, (x δ ys, (t, tt)))

  abbrev κs : Lft → Lft × (Lft × (Lft × Unit {0}))
  κs ν = (κ₀, (ν, (κ₂, tt)))

  abbrev qs : Share → Share × (Share × (Share × Unit {0}))
  qs q = (q₀, (q, (q₂, tt)))

  abbrev bound : (walk_of 𝓛 handing stayed (Hands output 𝓤 𝓛)).Ghost
  bound = ((κs κ₁, qs q₁, tt, a γ, vals), tt)

  abbrev Post : Val → SProp 𝓤
  Post = (walk_of 𝓛 handing stayed (Hands output 𝓤 𝓛)).post bound

  -- the tokens, and what the three own
  abbrev Tokens : Lft → Share → Item 𝓤
  Tokens ν q = ‵ (flft κ₀ q₀) ⊛ ‵ (flft ν q) ⊛ ‵ (flft κ₂ q₂) ⊛ ‵ ftrue

  abbrev Owns : Lft → GName → Item 𝓤
  Owns ν δ = ‵ (owns (ShrSlice (named 0) κ₀ u8 ∷ MutSlice (named 1) ν u8 ∷ MutRef (named 2) κ₂ u8 ∷ []) (a δ) vals)

  -- the outer variables of `write`'s triple: the buffer reborrowed for the lifetime ν, under the name δ
  abbrev to_write : ℕ → GName → (Written output 𝓛).Ghost
  to_write ν δ = ((κs (ν ∷ []), qs full_share, tt, a δ, vals), tt)

  goes : (ν : ℕ) (δ : GName) → ent 𝓤 (⋆ 𝓛 (Tokens (ν ∷ []) full_share ∷ Owns (ν ∷ []) δ ∷ [])) ((Written output 𝓛).pre (to_write ν δ))
  goes ν δ = qed 𝓛 (Tokens (ν ∷ []) full_share ∷ Owns (ν ∷ []) δ ∷ []) ∵ join ! $ frame ! $ done !

  -- what `write` ensures about its result r and the refusal z, and about the list that it left
  abbrev Answered : ℕ → ℕ → Type 0
  Answered r z = output.Answers j.now ys r z

  abbrev Left : List ℕ → Type 0
  Left zs = zs ≡ output.after_of j.now ys

  module _ (r z : ℕ) (zs : List ℕ) (ea : Answered r z) (ez : Left zs) where
    abbrev Part : Type 0
    Part = take r zs ≡ output.part_of j.now ys

    part : Part
    part = rw (output.end j.now ys r z ea, ez) (output.front j.now ys)

    count : length (take r zs) ≡ r
    count = ap length part ∙ sym (output.end j.now ys r z ea)

    abbrev rest : List ℕ
    rest = drop-list (length (take r zs)) (output.after_of j.now ys)

    same : drop-list r zs ≡ rest
    same = ap (λ (k : ℕ). drop-list k zs) (sym count) ∙ ap (drop-list (length (take r zs))) ez

    -- the result, under the name γ', and how the buffer follows it
    abbrev back : GName → MutBor (List ℕ)
    back γ' = x γ' (take r zs)

    abbrev Follows : GName → List ℕ → Fml
    Follows γ' behind = Lends (Array u8 0) (Array u8 0) (x γ ys) (back γ') (λ written. written ++ behind)

    abbrev Start : Type 0
    Start = ◌≡◌ {A = ℕ × ℕ} (b, o) (b, o)

    abbrev Entire : Type 0
    Entire = length ys ≡ length (take r zs) + length rest

    entire : Entire
    entire =
        let after = output.after_of j.now ys in
        let size = output.size j.now ys in
        let front = length-take r zs in
        let behind = length-drop (length (take r zs)) after in
        let left = ap length ez in
        omega (arith, count)

    abbrev Refused : Type 0
    Refused = z ≡ output.refusal_of j.now ys

    abbrev Ensures : GName → SProp 𝓤
    Ensures γ' = sep 𝓤 (fact 𝓤 Part) (sep 𝓤 (fact 𝓤 Start) (sep 𝓤 (sem 𝓛 (LenderFinds (x γ ys) (back γ') rest)) (fact 𝓤 Refused)))

    said : (γ' : GName) → ent 𝓤 (sem 𝓛 (Follows γ' (drop-list r zs))) (Ensures γ')
    said γ' =
        qed 𝓛 (‵ (Follows γ' (drop-list r zs)) ∷ []) ∵
        rewrite ! 0 (λ (l : List ℕ). ‵ (Follows γ' l)) same refl $
        feq_i ! ℕ (length ys) (length (take r zs) + length rest) entire $ fjoin ! $
        use0 𝓛 (raw (fact 𝓤 Part)) (fact_i 𝓤 _ (emp 𝓤) part) $ frame ! $
        use0 𝓛 (raw (fact 𝓤 Start)) (fact_i 𝓤 _ (emp 𝓤) refl) $ frame ! $ frame ! $
        use0 𝓛 (raw (fact 𝓤 Refused)) (fact_i 𝓤 _ (emp 𝓤) (output.refusal j.now ys r z ea)) $ done !

    abbrev OnExit : GName → SProp 𝓤
    OnExit γ' = on_exit 𝓛 handing stayed (κs κ₁) (qs q₁) vals (s r) (back γ') (a γ) (tt, (tt, (z, tt)))

    -- the refusal's last value, and what is left of its borrow
    abbrev Told : Item 𝓤
    Told = ‵ (fsep (fsep (fres t.ghost_name (u8.coded.code z)) (fbor κ₂ (Body (mem u8) t.ref_ptr.0 t.ref_ptr.1 t.ghost_name))) ftrue)

    handed : (γ' : GName)
        → ent 𝓤 (⋆ 𝓛 (‵ (Follows γ' (drop-list r zs)) ∷ Tokens κ₁ q₁ ∷ Told ∷ ‵ ((MutSlice (named 1) κ₁ u8).own_val (back γ') (s r ∷ [])) ∷ [])) (Post (s r))
    handed γ' =
        qed 𝓛 (‵ (Follows γ' (drop-list r zs)) ∷ Tokens κ₁ q₁ ∷ Told ∷ ‵ ((MutSlice (named 1) κ₁ u8).own_val (back γ') (s r ∷ [])) ∷ []) ∵
        suffices ! (sep 𝓤 (Ensures γ') (OnExit γ')) (via 𝓤 (sep 𝓤 (OnExit γ') (Ensures γ')) (comm∗ 𝓤 (Ensures γ') (OnExit γ'))
        (ends_at 𝓛 handing stayed (Hands output 𝓤 𝓛) bound (s r) (back γ') (tt, (tt, (z, tt))) (tt, (tt, (tt, tt))))) $
        use1 𝓛 (raw (Ensures γ')) (said γ') $ frame ! $ frame ! $
        nothing ! $ move ! (0 ∷ 1 ∷ []) $ fjoin ! $ nothing ! $ move ! (0 ∷ 1 ∷ []) $ fjoin ! $ frame ! $ done !

    -- what is held at the end of the code: the buffer at the list that `write` left, the tokens, and the refusal
    abbrev Had : List (Item 𝓤)
    Had = ‵ ((MutSlice (named 1) κ₁ u8).own_val (x γ zs) (s (length ys) ∷ [])) ∷ ‵ (flft κ₁ q₁) ∷ (‵ (flft κ₂ q₂) ⊛ ‵ ftrue) ∷ ‵ (flft κ₀ q₀) ∷ Told ∷ []

    exits : ent 𝓤 (⋆ 𝓛 Had) (Post (s r))
    exits =
        qed 𝓛 Had ∵ updating ! $
        use2 𝓛 (later (some (λ (γ' : GName). ‵ ((MutSlice (named 1) κ₁ u8).own_val (back γ') (s (length (take r zs)) ∷ [])) ⊛ ‵ (flft κ₁ q₁) ⊛ ‵ (Follows γ' (drop-list r zs)))))
        (front_out 𝓛 u8 (named 1) κ₁ q₁ b o γ zs r (s (length ys) ∷ [])) $ await ! tt $ pick ! (λ γ'. split3 ! $
        -- [the part; its token; how the buffer follows; the other tokens; the refusal]
        rewrite ! 0 (λ (n : ℕ). ‵ ((MutSlice (named 1) κ₁ u8).own_val (back γ') (s n ∷ []))) count refl $
        move ! (1 ∷ 3 ∷ []) $ join ! $ move ! (3 ∷ 0 ∷ []) $ join ! $ move ! (2 ∷ 0 ∷ 3 ∷ 1 ∷ []) $ by ! (handed γ'))

  module _ (write : Callee) (C : Calls 𝓤 H) (Λ : Loops 𝓤 H) (fm : FmC 𝓤 H 𝓛.laws C) (known : Triple 𝓤 (C write) (Written output 𝓛)) where
    walk : length j.now < 2 ^ 64 → Room u8 (length ys)
        → ent 𝓤 (on_entry 𝓛 handing.signature (κs κ₁) (qs q₁) (a γ) vals) (WpFn 𝓤 H C Λ (function write) (vj ∷ s (length ys) ∷ vt ∷ []) Post)
    walk fit room =
        qed 𝓛 (Tokens κ₁ q₁ ∷ Owns κ₁ γ ∷ []) ∵ enter ! C Λ (function write) (vj ∷ s (length ys) ∷ vt ∷ []) _ $
        alloc1 ! (λ l₀. alloc1 ! (λ l₁. alloc1 ! (λ l₂. alloc1 ! (λ l₃. alloc1 ! (λ l₄. alloc1 ! (λ l₅. alloc1 ! (λ l₆. alloc1 ! (λ l₇. alloc1 ! (λ l₈. alloc0 ! $
        params1 ! $ pass1 ! (init ! 14 refl (tt, (tt, (record { fits = fit }, tt)))) $
        pass1 ! (init ! 12 refl (tt, (tt, (record { fits = room.0 }, tt)))) $ pass1 ! (init ! 10 refl (tt, tt)) $ pass0 ! $
        -- [_8; …; _7; …; _6; …; _5; …; _4; …; _3; …; _2; …; _1; …; room for _0; …; the tokens; what the three own]
        assigns ! (addr ! (from ! (fld ! refl (hop ! (look_in ! 12 (sub ! 0 refl (whole !))) (stop !))))) (from ! (stop !)) (init ! 6 refl (tt, tt)) $
        assigns !
        (agg ! (and_then ! (load ! (from ! (stop !)) (look ! 6 refl))
        (and_then ! (load ! (from ! (fld ! refl (stop !))) (look_in ! 12 (sub ! 1 refl (whole !)))) (no_more !)))) (from ! (stop !))
        (init ! 4 refl (tt, (tt, (record { fits = room.0 }, tt)))) $
        assigns ! (addr ! (from ! (hop ! (look ! 10 refl) (stop !)))) (from ! (stop !)) (init ! 2 refl (tt, tt)) $
        -- the buffer is reborrowed, for a lifetime ν of the call
        move ! (19 ∷ []) $ fsplit ! $ move ! (1 ∷ []) $ fsplit ! $ move ! (21 ∷ []) $ split ! $ move ! (1 ∷ []) $ split ! $ lft_new ! tt (λ ν.
        -- [ν; the buffer's token; the refusal's; the journal's; the buffer; what the refusal owns; what the journal owns; _8; …]
        move ! (4 ∷ 1 ∷ []) $
        use2 𝓛 (later (some (λ (δ : GName). ‵ ((MutSlice (named 1) (ν ∷ []) u8).own_val (x δ ys) (s (length ys) ∷ [])) ⊛ ‵ (LentAgain u8 κ₁ (ν ∷ []) q₁ γ b o δ ys))))
        (lends_again u8 κ₁ (ν ∷ []) q₁ γ b o 𝓛 (named 1) (named 1) ys) $ await ! tt $ pick ! (λ δ. split ! $
        -- [the buffer under δ; what is kept; ν; the refusal's token; the journal's; what the refusal owns; what the journal owns; _8; …]
        move ! (2 ∷ 3 ∷ []) $ join ! $ move ! (3 ∷ 0 ∷ []) $ join ! $ move ! (1 ∷ 3 ∷ []) $ fjoin ! $ move ! (3 ∷ 0 ∷ []) $ fjoin ! $ move ! (1 ∷ 0 ∷ []) $
        use2 𝓛 (raw ((Written output 𝓛).pre (to_write ν δ))) (goes ν δ) $
        -- [what the call needs; what is kept; _8; …]
        calls_at ! fm (Written output 𝓛) known (to_write ν δ)
        (and_then ! (load ! (from ! (stop !)) (look ! 16 refl)) (and_then ! (load ! (from ! (stop !)) (look ! 6 refl))
        (and_then ! (load ! (from ! (stop !)) (look ! 4 refl)) (no_more !)))) (λ w.
        use1 𝓛 (later (some (λ (r : ℕ). (Tokens (ν ∷ []) full_share ⊛ ‵ (usize.own_val r (w ∷ []))) ⊛ raw (ensured 𝓛 writing (Writes output 𝓤) (κs (ν ∷ [])) (a δ) tt r))))
        (id⊢ 𝓤 _) $ await ! tt $ pick ! (λ r.
        -- what `write` ensures, at some last list and refusal
        split ! $ move ! (1 ∷ []) $
        use1 𝓛 (some (λ (zs : Unit {0} × (List ℕ × (ℕ × Unit {0}))).
        ‵ (lasts writing (κs (ν ∷ [])) (a δ) zs) ⊛ raw (fact 𝓤 (Answered r zs.1.1.0)) ⊛ raw (fact 𝓤 (Left zs.1.0)))) (id⊢ 𝓤 _) $ pick ! (λ zs.
        split ! $ move ! (1 ∷ []) $ split ! $ heard ! (Answered r zs.1.1.0) (λ ea. heard ! (Left zs.1.0) (λ ez.
        -- [the last values; the tokens and the result; what is kept; _8; …]
        fsplit3 ! $ drop ! $ fsplit ! $ fsplit ! $ move ! (1 ∷ []) $ feq_l ! (λ l. move ! (1 ∷ []) $ drop ! $
        -- [the last list; the refusal; the tokens and the result; what is kept; _8; …]
        move ! (2 ∷ []) $ split ! $ move ! (1 ∷ []) $ peeks ! usize (Is usize) (shows 𝓛 usize) r (w ∷ []) (λ is.
        land ! (from ! (stop !)) (init ! 13 refl ((uint_Lawful 𝓛 w64).typed r _ is).0) $
        rewrite ! 13 (λ (u : Val). ‵ (fat full_share (ty_int w64) l₄ 0 u)) (ap only is.0) refl $
        -- the lifetime ends, and the buffer comes back at that list
        move ! (1 ∷ []) $ split ! $ move ! (1 ∷ []) $ split ! $ lft_end ! tt $
        -- [ν is over; the refusal's token; the journal's; what the result owns; the last list; the refusal; what is kept; _8; …]
        move ! (0 ∷ 6 ∷ 4 ∷ []) $
        use3 𝓛 (later (‵ ((MutSlice (named 1) κ₁ u8).own_val (x γ zs.1.0) (s (length ys) ∷ [])) ⊛ ‵ (flft κ₁ q₁)))
        (comes_back u8 κ₁ (ν ∷ []) q₁ γ b o 𝓛 (named 1) (named 1) ys δ zs.1.0 room l) $ await ! tt $ split ! $
        -- [the buffer; its token; the refusal's; the journal's; what the result owns; the refusal; _8; …; _7; …; and so on; _1; …; room for _0; …]
        assigns ! (addr ! (from ! (fld ! refl (hop ! (look_in ! 18 (sub ! 0 refl (whole !))) (stop !))))) (from ! (stop !)) (init ! 6 refl (tt, tt)) $
        assigns !
        (agg ! (and_then ! (load ! (from ! (stop !)) (look ! 6 refl)) (and_then ! (load ! (from ! (stop !)) (look ! 14 refl)) (no_more !)))) (from ! (stop !))
        (init ! 22 refl (tt, (tt, (record { fits = is.1 }, tt)))) $
        returns ! (look ! 22 refl) $ forget ! 6 refl $ forget ! 8 refl $ forget ! 10 refl $ forget ! 12 refl $ forget ! 14 refl $
        forget ! 16 refl $ forget ! 18 refl $ forget ! 20 refl $ forget ! 22 refl $
        move ! (22 ∷ 23 ∷ []) $ free1 ! $ move ! (20 ∷ 21 ∷ []) $ free1 ! $ move ! (18 ∷ 19 ∷ []) $ free1 ! $ move ! (16 ∷ 17 ∷ []) $ free1 ! $
        move ! (14 ∷ 15 ∷ []) $ free1 ! $ move ! (12 ∷ 13 ∷ []) $ free1 ! $ move ! (10 ∷ 11 ∷ []) $ free1 ! $
        move ! (8 ∷ 9 ∷ []) $ free1 ! $ move ! (6 ∷ 7 ∷ []) $ free1 ! $ free0 ! $
        keep ! (0 ∷ 1 ∷ 2 ∷ 3 ∷ 5 ∷ []) $ by ! (exits r zs.1.1.0 zs.1.0 ea ez)))))))))))))))))))

module _ (output : Output) (write : Callee) {M : Type 1} {𝓤 : Ura M} (𝓛 : Logic 𝓤) where
  open 𝓛 use {H}

  walks : (C : Calls 𝓤 H) (Λ : Loops 𝓤 H) → FmC 𝓤 H 𝓛.laws C → Triple 𝓤 (C write) (Written output 𝓛)
      → Walks 𝓛 handing stayed (WpFn 𝓤 H C Λ (function write)) (Hands output 𝓤 𝓛)
  walks C Λ fm known =
      walked 𝓛 handing stayed (Hands output 𝓤 𝓛) (WpFn 𝓤 H C Λ (function write)) (λ κs. (shr_slice_vals, (mut_slice_vals, (mut_vals, tt))))
      (λ κs. (shr_slice_Tells (named 0) κs.0 u8, (mut_slice_Tells (named 1) κs.1.0 u8, (mut_Tells (named 2) κs.1.1.0 u8, tt))))
      (λ κs qs bounds a g are. via 𝓤 _ (fst∗ 𝓤 _ (emp 𝓤))
      (walk output 𝓛 κs.0 κs.1.0 κs.1.1.0 qs.0 qs.1.0 qs.1.1.0
      a.0 a.1.0.ref_ptr.0 a.1.0.ref_ptr.1 a.1.0.ghost_name a.1.0.now a.1.1.0 write C Λ fm known are.0.0.1.0 are.1.0.0.1))

  pub hands : (𝓣 : Tables 𝓤 H) → Triple 𝓤 (𝓣.C write) (Written output 𝓛)
      → Meets 𝓛 handing.signature (WpFn 𝓤 H 𝓣.C 𝓣.Λ (function write)) (closing 𝓛 handing (Hands output 𝓤 𝓛))
  hands 𝓣 known =
      walk_Meets 𝓛 handing stayed (
        Goes-dropped 𝓛 3 journal yes (λ κs x f. refl),
        (Goes-spent_slice 𝓛 3 (1 ∷ []) tt (plain (λ _. u8)), (Goes-gave_ref 𝓛 3 2 tt (plain (λ _. u8)), tt)),
      )
      (Hands output 𝓤 𝓛) (WpFn 𝓤 H 𝓣.C 𝓣.Λ (function write)) (WpFn-mono 𝓤 H 𝓛.laws 𝓣 (function write))
      (walks 𝓣.C 𝓣.Λ (fm_of 𝓤 H 𝓛.laws 𝓣) known)
