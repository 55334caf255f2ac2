-- What `LenderFinds` is worth: when the borrow is over, the lender has the buffer back, with as many bytes as the part has, and then those that were promised.
use Rattle.std.proofs.Common.{◌≡◌, refl, List, [], ◌∷◌, ◌++◌, ℕ, ◌+◌, length, length-append, arith}
use seplogic.Ra.Ura.{Ura}
use base.Fml.{Lft, fauth, fdead, feq, fex, flent, fsep}
use base.Logic.{SProp, emp, ent, ex, sep}
use contract.Monad.{fact, fact_i}
use types.Kit.{‵, ◌$◌, ◌∵◌, !, qed, raw, move, drop, use0, use2, rewrite, fsplit, fjoin, fpick, feq_l, feq_i, updating, now, show, frame, done}
use types.Logic.{Logic, sem}
use types.SemTy.{Arr}
use types.Tokens.{lent_back}
use denote.Array.{Array}
use denote.Builtin.{u8}
use denote.Follow.{came}
use denote.Lend.{Held}
use denote.Memory.{mem}
use denote.Ref.{MutBor}
use Rattle.front_part.specs.Lender.{LenderFinds}

-- a buffer at (b, o), lent for κ
module _ {M : Type 1} {𝓤 : Ura M} (𝓛 : Logic 𝓤) (κ : Lft) (b o : ℕ) (buffer part : MutBor (List ℕ)) (rest : List ℕ) where
  open 𝓛 use {H, A}

  abbrev n : ℕ
  n = length buffer.now

  -- it holds ws, as many bytes as the part had, and then the rest
  abbrev Found : List ℕ → SProp 𝓤
  Found ws = sep 𝓤 (fact 𝓤 (length ws ≡ length part.now)) (sem 𝓛 ((Arr (mem u8) n).own_at (ws ++ rest) b o))

  abbrev joined : List ℕ → List ℕ
  joined ws = ws ++ rest

  pub lender-finds : ent 𝓤 (sep 𝓤 (A.dead κ) (sep 𝓤 (A.lent κ (Held u8 n b o buffer.ghost_name)) (sem 𝓛 (LenderFinds buffer part rest)))) (H.⇛ (ex 𝓤 Found))
  lender-finds =
      qed 𝓛 (‵ (fdead κ) ∷ ‵ (flent κ (Held u8 n b o buffer.ghost_name)) ∷ ‵ (LenderFinds buffer part rest) ∷ []) ∵ updating ! $
      lent_back ! tt $ fpick ! (λ zs. fsplit ! $ move ! (2 ∷ []) $ fsplit ! $ feq_l ! (λ whole.
      -- [how the buffer follows the part; the memory; auth of the buffer's name]
      move ! (2 ∷ 0 ∷ []) $
      use2 𝓛 (‵ (fex (List ℕ) (λ ws. fsep (feq (List ℕ) zs (joined ws)) (fauth part.ghost_name ((Array u8 0).coded.code ws)))))
      (came 𝓛 (Array u8 0) (Array u8 0) joined buffer.ghost_name part.ghost_name zs) $ fpick ! (λ ws. fsplit ! $ feq_l ! (λ e. drop ! $
      rewrite ! 0 (λ (l : List ℕ). ‵ ((Arr (mem u8) n).own_at l b o)) e refl $ fsplit ! $ feq_l ! (λ all.
      let both : length (joined ws) ≡ length ws + length rest = length-append ws rest in
      feq_i ! ℕ (length (joined ws)) n all $ fjoin ! $ now ! $ show ! Found ws $
      use0 𝓛 (raw (fact 𝓤 (length ws ≡ length part.now))) (fact_i 𝓤 _ (emp 𝓤) (omega arith)) $ frame ! $ done !)))))
