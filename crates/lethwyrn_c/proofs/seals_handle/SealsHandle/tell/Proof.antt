-- `tell` reads the flag.
use Rattle.std.proofs.Common.{◌≡◌, List, [], ◌∷◌, ◌++◌, refl, sym, subst}
use Rattle.std.specs.Prelude.{is_some}
use mathlib.Core.Bool.{true, ◌&&◌}
use mir.Val.{Val, vbool, has_ty, WT}
use lib.Dec.{T}
use mir.Syntax.{ty_ptr}
use base.Logic.{SProp, ent, emp, id⊢}
use base.Fml.{ftrue}
use prog.Wp.{WpFn}
use types.Kit.{‵, raw, ◌⊛◌, ◌$◌, ◌∵◌, !, qed, by, move, keep, drop, use0, join, split, suffices, fsplit, fjoin, feq_i}
use types.Run.{stop, fld, of_opd, no_more, and_then, returns, enter}
use types.ByLocal.{alloc_all, pass_all, free_all, look_at, get, get_in, sets}
use types.Part.{agg, sub, whole}
use contract.Monad.{fact, fact_i}
use contract.Running.{tables}
use denote.Builtin.{bool}
use denote.RattleType.{owns}
use denote.RawPtr.{ptr_val, rawptr_Lawful}
use denote.Signature.{types_at}
use denote.Steps.{nothing}
use denote.Triple.Entry.{alive}
use denote.Triple.Walked.{Stays, stay_dropped, walk_of}
use Rattle.core.proofs.alloc.Calls.{Goes-blank}
use Rattle.std.proofs.raw_atomic.Walks.{proved_at, leaves}
use Rattle.lethwyrn_c.proofs.Values.{both, both_tt, pair_in}
use Rattle.lethwyrn_c.proofs.Handles.{word, slot_at}
use Rattle.lethwyrn_c.proofs.SealsHandles.{handle_in, handle_out}
use Rattle.lethwyrn_c.specs.contracts.seals_handle.SealsHandle.{the_row as H-row}
use Rattle.lethwyrn_c.specs.contracts.seals_handle.SealsHandle.tell.{ended, clauses}
use Rattle.lethwyrn_c.specs.contracts.seals_handle.SealsHandle.tell.Key.{name as #self}
use Rattle.lethwyrn_c.proofs.seals_handle.SealsHandle.tell.Statement.{statement}
use Rattle.lethwyrn_c.proofs.seals_handle.SealsHandle.tell.Code as code

pub tell_spec : {M : Type 1} → statement M
tell_spec 𝓤 𝓛 𝓜 𝓡 wired =
    let H = 𝓛.H in let 𝓣 = tables 𝓤 H 𝓜 𝓡 𝓡.env in let c = clauses 𝓛 𝓜.mem 𝓡.returns in let fn = code.function in
    let hs : Stays ended.signature.params ended.kept = (stay_dropped (slot_at 0 ended.signature.params) ended.kept.0, tt) in
    proved_at 𝓛 ended hs c 𝓜 𝓡 (Goes-blank 𝓛 0 (slot_at 0 ended.signature.params) ended.kept.0 (λ κs x f. tt), tt) #self fn (code.unfolded 𝓤 H 𝓜 𝓡 wired) (λ z are.
    let d = z.0.3.0 in let Post : Val → SProp 𝓤 = (walk_of 𝓛 ended hs c).post z in let Run : List Val → SProp 𝓤 = λ ws. WpFn 𝓤 H 𝓣.C 𝓣.Λ fn ws Post in
    let w : Val = word d.at d.live in let at_ok = ((rawptr_Lawful 𝓛).typed d.at (ptr_val d.at ∷ []) refl).0 in
    qed 𝓛 ((raw (alive 𝓛 ended.signature z.0.0 z.0.1) ⊛ ‵ (owns (types_at ended.signature.params z.0.0) z.0.3 z.0.4)) ∷ ‵ ftrue ∷ []) ∵ move ! (1 ∷ []) $ drop ! $ split ! $ move ! (1 ∷ []) $
    fsplit ! $ handle_out ! d z.0.4.0 (λ ev es.
    suffices ! (Run (w ∷ [])) (subst (λ (us : List Val). ent 𝓤 (Run (w ∷ [])) (Run us)) (sym (λ i. ev i ++ [])) (id⊢ 𝓤 (Run (w ∷ [])))) $
    let ok : T (has_ty ty_ptr (ptr_val d.at) && (true && true)) × WT w = (both_tt (has_ty ty_ptr (ptr_val d.at)) true at_ok.0 tt, (at_ok.1, (tt, tt))) in
    enter ! 𝓣.C 𝓣.Λ fn (w ∷ []) Post $ alloc_all ! (λ l. pass_all ! refl (ok, tt) $
    sets ! (of_opd ! (get_in ! (fld ! refl (stop !)) (sub ! 0 refl (whole !)))) refl at_ok $
    sets ! (of_opd ! (get_in ! (fld ! refl (stop !)) (sub ! 1 refl (whole !)))) refl (tt, tt) $
    sets ! (agg ! (and_then ! (get ! refl) (and_then ! (get ! refl) (no_more !)))) refl ok $
    sets ! (agg ! (and_then ! (get ! refl) (and_then ! (get ! refl) (no_more !)))) refl (both_tt true _ tt ok.0, (tt, (ok.1, tt))) $
    returns ! (look_at ! 0 refl) $ free_all ! refl $
    -- [the value and its block; nothing; the tokens]
    handle_in ! d.at d.live d.value es $ feq_i ! (List Val) (vbool d.live ∷ []) (vbool d.live ∷ []) refl $ pair_in bool H-row ! d.live d (vbool d.live) w $
    use0 𝓛 (raw (fact 𝓤 (d.value ≡ d.value))) (fact_i 𝓤 (d.value ≡ d.value) (emp 𝓤) refl) $ use0 𝓛 (raw (fact 𝓤 (d.live ≡ is_some d.value))) (fact_i 𝓤 (d.live ≡ is_some d.value) (emp 𝓤) es) $ join ! $
    nothing ! $ nothing ! $ fjoin ! $ keep ! (4 ∷ 0 ∷ 2 ∷ 1 ∷ []) $
    by ! (leaves 𝓛 ended hs c z (both (vbool d.live) w) (d.live, d) (tt, tt) (tt, tt)))))
