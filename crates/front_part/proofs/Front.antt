-- The front part of a lent slice goes to the caller for as long as the slice is lent, and the slice follows it: it ends as the part ends, and then the rest.
--     Handed         the first k of xs, handed out under the name δ, the token, and how the slice ends
--     front_out      from what a `&κ mut [T]` owns and the token of κ: `Handed`, under some name
use Rattle.std.proofs.Common.{◌≡◌, ◌∙◌, ap, sym, refl, List, [], ◌∷◌, ◌++◌, ℕ, ◌+◌, length, take, drop as drop-list, arith, length-append, take-append-drop}
use native.Mathlib.Nat.{lt_of_le_of_lt, mul-le-mul_right}
use seplogic.Ra.Ura.{Ura}
use base.Fml.{GName, Lft, Share, fbor, flft, fobs}
use base.Logic.{SProp, ent, ex, sep}
use base.Stored.{coded_list}
use mir.Syntax.{Lifetime}
use mir.Val.{Val}
use types.Follow.{takes_part}
use types.Kit.{‵, ◌⊛◌, ◌$◌, ◌∵◌, !, qed, later, some, move, drop, use1, use2, rewrite, await, pick, split, split3, group, fsplit, fjoin, feq_l, feq_i, updating, now, show, done}
use types.Logic.{Logic, sem}
use types.Mut.{open_ref}
use types.SemTy.{Arr, Body, cells}
use denote.Array.{Array}
use denote.Follow.{follows}
use denote.FollowSlice.{heres_id, slice_of}
use denote.Memory.{mem}
use denote.RattleType.{RattleType}
use denote.Ref.{MutBor}
use denote.Shadow.{pure_l}
use denote.Slice.{MutSlice, Room, mut_slice_at, slice_val}
use borrow.Table.Elements.{at, cut_app, join_app, take-le}

module _ {M : Type 1} {𝓤 : Ura M} (𝓛 : Logic 𝓤) (R : RattleType) (ℓ : Lifetime) (κ : Lft) (q : Share) (b o : ℕ) (γ : GName) (xs : List R.Denot) (k : ℕ) where
  open 𝓛 use {H, A}

  abbrev slice : GName → List R.Denot → MutBor (List R.Denot)
  slice δ ys = record { ref_ptr = (b, o); ghost_name = δ; now = ys }

  abbrev front : List R.Denot
  front = take k xs

  abbrev back : List R.Denot
  back = drop-list k xs

  abbrev past : ℕ → ℕ
  past = at o (mem R).size

  abbrev pub joined : List R.Denot → List R.Denot
  joined written = written ++ back

  abbrev pub Handed : GName → SProp 𝓤
  Handed δ =
      sep 𝓤 (sem 𝓛 ((MutSlice ℓ κ R).own_val (slice δ front) (slice_val (b, o) (length front) ∷ [])))
      (sep 𝓤 (A.lft κ q) (sem 𝓛 (follows (Array R 0) (Array R 0) γ δ joined)))

  -- as many elements as were handed out, before the rest, are the slice again
  put_back : (ws : List R.Denot)
      → ent 𝓤 (sep 𝓤 (sem 𝓛 ((Arr (mem R) (length front)).own_at ws b o)) (sem 𝓛 (cells (mem R) back b (past (length front)))))
      (sem 𝓛 ((Arr (mem R) (length xs)).own_at (joined ws) b o))
  put_back ws =
      qed 𝓛 (‵ ((Arr (mem R) (length front)).own_at ws b o) ∷ ‵ (cells (mem R) back b (past (length front))) ∷ []) ∵ fsplit ! $ feq_l ! (λ e.
      let all : length xs ≡ length front + length back = ap length (sym (take-append-drop k xs)) ∙ length-append front back in
      let again : length (joined ws) ≡ length ws + length back = length-append ws back in
      rewrite ! 1 (λ (j : ℕ). ‵ (cells (mem R) back b (past j))) (sym e) refl $
      use2 𝓛 (‵ (cells (mem R) (joined ws) b o)) (join_app 𝓛 (mem R) ws back b o) $
      feq_i ! ℕ (length (joined ws)) (length xs) (omega arith) $ fjoin ! $ done !)

  pub front_out : (vs : List Val)
      → ent 𝓤 (sep 𝓤 (sem 𝓛 ((MutSlice ℓ κ R).own_val (slice γ xs) vs)) (A.lft κ q)) (H.⇛ (ex 𝓤 Handed))
  front_out vs =
      qed 𝓛 (‵ ((MutSlice ℓ κ R).own_val (slice γ xs) vs) ∷ ‵ (flft κ q) ∷ []) ∵ updating ! $ fsplit ! $ pure_l ! (mut_slice_at R (slice γ xs) vs) (λ p. fsplit ! $
      rewrite ! 0 (λ (l : List R.Denot). ‵ (fobs γ ((coded_list R.coded).code l))) (heres_id R xs) refl $
      open_ref ! tt (Arr (mem R) (length xs)) {b = b} {o = o} $ fsplit ! $ drop ! $
      -- [the elements; the open borrow; obs and auth of the slice's name]
      rewrite ! 0 (λ (l : List R.Denot). ‵ (cells (mem R) l b o)) (sym (take-append-drop k xs)) refl $
      use1 𝓛 (‵ (cells (mem R) front b o) ⊛ ‵ (cells (mem R) back b (past (length front)))) (cut_app 𝓛 (mem R) front back b o) $ split ! $
      feq_i ! ℕ (length front) (length front) refl $ fjoin ! $ move ! (2 ∷ 3 ∷ 4 ∷ 0 ∷ 1 ∷ []) $ group ! 5 $
      use1 𝓛 (later (some (λ (δ : GName). ‵ (fobs δ ((coded_list R.coded).code front)) ⊛ ‵ (fbor κ (Body (Arr (mem R) (length front)) b o δ)) ⊛ ‵ (flft κ q) ⊛ ‵ (follows (Array R 0) (Array R 0) γ δ joined))))
      (takes_part 𝓛 (Arr (mem R) (length xs)) (Arr (mem R) (length front)) joined κ q b o b o γ (sem 𝓛 (cells (mem R) back b (past (length front)))) put_back
      ((coded_list R.coded).code xs) ((coded_list R.coded).code xs) front) $ await ! tt $ pick ! (λ δ. split3 ! $
      use2 𝓛 (‵ ((MutSlice ℓ κ R).own_val (slice δ front) (slice_val (b, o) (length front) ∷ []))) (slice_of 𝓛 R ℓ κ b o δ front (room p.1)) $
      now ! $ show ! Handed δ $ done !))
    where
      room : Room R (length xs) → Room R (length front)
      room r = (lt_of_le_of_lt (take-le k xs) r.0, lt_of_le_of_lt (mul-le-mul_right (mem R).size (take-le k xs)) r.1)
