-- The machine values of a `Loose` and of a pair, and the allocator that C has. Assumes `Logic`.
use Rattle.std.proofs.Common.{◌≡◌, ℕ, List, [], ◌∷◌, ◌++◌, refl, subst}
use mathlib.Core.Bool.{Bool, true, false, ◌&&◌}
use lib.Dec.{T}
use seplogic.Ra.Ura.{Ura}
use mir.Syntax.{Dict, impl, tcons, tnil, dnil, ty_struct, ty_unit}
use mir.Raw.{raw as bare}
use mir.Val.{Val, vptr, vstruct, vcons, vnil, of_list}
use base.Logic.{never, fst∗}
use types.Logic.{Logic, sem}
use types.Kit.{Item, Goal, Seq, Step, step, ‵, ◌$◌, move, drop, fsplit, fjoin, fjoin3, fpick, fpack, feq_i, feq_l}
use denote.RattleType.{RattleType, Valss}
use denote.Builtin.{RawPtr}
use denote.Memory.{lone}
use denote.RawPtr.{Ptr, block_ptr, null_ptr, ptr_val, in_a_block}
use denote.Steps.{nothing}
use denote.Exit.{no}
use denote.Param.{arg, layout}
use denote.Param.Laws.{Laws, arg_laws}
use denote.Struct.Struct.{within}
use denote.Struct.Owning.{shape}
use denote.Struct.Tuple.{Tuple}
use Rattle.libc.specs.Heap.{chunk}
use Rattle.std_heap.specs.contracts.Global as global
use Rattle.std_heap.proofs.Global.TheLaws as global_laws
use Rattle.std_heap.specs.contracts.GlobalAllocator.TheImpl.{dict, ghosts}
use Rattle.std_alloc.proofs.BoxSteps.Form.{Bx}
use Rattle.std_alloc.specs.Box.Ownership.{box_owns}
use Rattle.lethwyrn_c.specs.contracts.loose.Loose as loose

abbrev pub both : Val → Val → Val
both v w = vstruct (vcons v (vcons w vnil))

pub both_tt : (x y : Bool) → T x → T y → T (x && (y && true))
both_tt true true s t = tt
both_tt true false s t = absurd t
both_tt false y s t = absurd s

-- ---- the allocator that C has

-- it is passed as a type argument
abbrev pub G : RattleType
G = arg (ty_struct [] (tcons (ty_struct [] (tcons ty_unit tnil)) tnil)) no global.the_row

abbrev pub G-laws : Laws G
G-laws = arg_laws (ty_struct [] (tcons (ty_struct [] (tcons ty_unit tnil)) tnil)) no global.the_row global_laws.the_row_laws refl

-- nothing is done where one is let go
abbrev pub no_drop : Dict
no_drop = impl ("lethwyrn_c::Destruct++none::drop" ∷ []) (tcons (layout G) tnil) dnil

-- a box in it of a type that is passed too
abbrev pub boxed : (T : RattleType) → Laws T → Bx
boxed T L = record { row = T; laws = L; al = record { row = G; laws = G-laws; g = ghosts; d = dict; drops = no_drop } }

-- ---- a pointer to what a box owned

abbrev pub alone : ℕ → ℕ → Val
alone b o = vstruct (vcons (vptr b o) vnil)

module _ (R : RattleType) where
  abbrev pub Loose : RattleType
  Loose = loose.the_row R

  module _ {M : Type 1} {𝓤 : Ura M} {𝓛 : Logic 𝓤} {K : Type 0} {Γ : List (Item 𝓤)} {Q : Goal 𝓤 𝓛.H} where
    pub loose_out : K → (d : Loose.Denot) (vs : List Val)
        → ((b o : ℕ) → d.at ≡ block_ptr b o → vs ≡ alone b o ∷ [] → Seq K 𝓛 (‵ (box_owns chunk R (block_ptr b o) d.value) ∷ Γ) Q)
        → Seq K 𝓛 (‵ (Loose.own_val d vs) ∷ Γ) Q
    loose_out t d vs k =
        fsplit t $ fpick t (λ vss. fsplit t $ feq_l t (λ ev. fsplit t $ feq_l t (λ ep. drop t $
        in_a_block t d.at (λ p. box_owns chunk R p d.value) (fst∗ 𝓤 (never 𝓤) (sem 𝓛 (chunk (bare (lone R.mir)) null_ptr))) (λ b o e. k b o e
        (subst (λ (p : Ptr). vs ≡ vstruct (of_list (ptr_val p ∷ [])) ∷ []) e (subst (λ (ps : List Val). vs ≡ vstruct (of_list (ps ++ [])) ∷ []) ep ev))))))

    pub loose_in : K → (b o : ℕ) (x : R.Denot)
        → Step K 𝓛 (‵ (Loose.own_val (record { at = block_ptr b o; value = x }) (alone b o ∷ [])) ∷ Γ) Q (‵ (box_owns chunk R (block_ptr b o) x) ∷ Γ) Q
    loose_in t b o x = step (λ s.
        nothing t $ feq_i t (List Val) (vptr b o ∷ []) (vptr b o ∷ []) refl $ fjoin t $ feq_i t (List Val) (alone b o ∷ []) (alone b o ∷ []) refl $ fjoin t $
        fpack t (Valss (RawPtr ∷ [])) (within (shape (loose.the_type R)) (block_ptr b o, tt) (alone b o ∷ [])) (vptr b o ∷ [], tt) $ fjoin t $ s)

-- ---- a pair of two values

module _ (P Q : RattleType) {M : Type 1} {𝓤 : Ura M} {𝓛 : Logic 𝓤} {K : Type 0} {Γ : List (Item 𝓤)} {H : Goal 𝓤 𝓛.H} where
  pub pair_in : K → (x : P.Denot) (y : Q.Denot) (v w : Val) → Step K 𝓛 (‵ ((Tuple (P ∷ Q ∷ [])).own_val (x, y) (both v w ∷ [])) ∷ Γ) H (‵ (P.own_val x (v ∷ [])) ∷ ‵ (Q.own_val y (w ∷ [])) ∷ Γ) H
  pair_in t x y v w = step (λ s.
      nothing t $ move t (1 ∷ 2 ∷ 0 ∷ []) $ fjoin3 t $ feq_i t (List Val) (both v w ∷ []) (both v w ∷ []) refl $ fjoin t $
      fpack t (Valss (P ∷ Q ∷ [])) (within (record { name = []; args = []; types = []; fields = P ∷ Q ∷ [] }) (x, (y, tt)) (both v w ∷ [])) (v ∷ [], (w ∷ [], tt)) $ s)
