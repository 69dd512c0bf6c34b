-- The machine value of a `SealsHandle`. Assumes `Logic`.
use Rattle.std.proofs.Common.{◌≡◌, List, [], ◌∷◌, ◌++◌, refl, subst}
use Rattle.std.specs.Prelude.{Option, is_some}
use mathlib.Core.Bool.{Bool}
use seplogic.Ra.Ura.{Ura}
use mir.Val.{Val, vbool, vstruct, of_list}
use types.Logic.{Logic}
use types.Kit.{Item, Goal, Seq, Step, step, ‵, ◌$◌, drop, fsplit, fjoin, fpick, fpack, feq_i, feq_l}
use denote.RattleType.{Valss}
use denote.Builtin.{RawPtr, bool}
use denote.RawPtr.{Ptr, ptr_val}
use denote.Steps.{nothing}
use denote.Struct.Struct.{within}
use denote.Struct.Owning.{shape}
use Rattle.lethwyrn_c.specs.Holding.{holding}
use Rattle.lethwyrn_c.specs.contracts.sealer.Sealer.{the_row as R}
use Rattle.lethwyrn_c.specs.contracts.seals_handle.SealsHandle as handle
use Rattle.lethwyrn_c.proofs.Handles.{word}

module _ {M : Type 1} {𝓤 : Ura M} {𝓛 : Logic 𝓤} {K : Type 0} {Γ : List (Item 𝓤)} {G : Goal 𝓤 𝓛.H} where
  pub handle_out : K → (d : handle.the_row.Denot) (vs : List Val)
      → (vs ≡ word d.at d.live ∷ [] → d.live ≡ is_some d.value → Seq K 𝓛 (‵ (holding R d.at d.value) ∷ Γ) G)
      → Seq K 𝓛 (‵ (handle.the_row.own_val d vs) ∷ Γ) G
  handle_out t d vs k =
      fsplit t $ fpick t (λ vss. fsplit t $ feq_l t (λ ev. fsplit t $ feq_l t (λ ep. fsplit t $ feq_l t (λ el. drop t $ fsplit t $ feq_l t (λ es. k
      (subst (λ (bs : List Val). vs ≡ vstruct (of_list (ptr_val d.at ∷ (bs ++ []))) ∷ []) el
      (subst (λ (ps : List Val). vs ≡ vstruct (of_list (ps ++ (vss.1.0 ++ []))) ∷ []) ep ev)) es)))))

  pub handle_in : K → (p : Ptr) (l : Bool) (x : Option R.Denot) → l ≡ is_some x
      → Step K 𝓛 (‵ (handle.the_row.own_val (record { at = p; live = l; value = x }) (word p l ∷ [])) ∷ Γ) G (‵ (holding R p x) ∷ Γ) G
  handle_in t p l x e = step (λ s. let v : Val = word p l in
      feq_i t Bool l (is_some x) e $ fjoin t $ nothing t $ feq_i t (List Val) (vbool l ∷ []) (vbool l ∷ []) refl $ fjoin t $ feq_i t (List Val) (ptr_val p ∷ []) (ptr_val p ∷ []) refl $ fjoin t $ feq_i t (List Val) (v ∷ []) (v ∷ []) refl $ fjoin t $
      fpack t (Valss (RawPtr ∷ bool ∷ [])) (within (shape handle.the_type) (p, (l, tt)) (v ∷ [])) (ptr_val p ∷ [], (vbool l ∷ [], tt)) $ fjoin t $ s)
