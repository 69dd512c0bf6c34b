-- `of` asks the box for its pointer. The allocator that C has is an argument of that call, and lives as long as anything does.
use Rattle.std.proofs.Common.{◌≡◌, List, [], ◌∷◌, ◌++◌, refl, sym, ap, ◌∙◌, subst}
use mir.Syntax.{a_type, dcons, dnil}
use mir.MapTy.{inst_fn}
use mir.Raw.{raw as bare}
use mir.Val.{Val}
use base.Fraction.{full_share}
use base.Logic.{SProp, ent, emp, never, id⊢, fst∗}
use base.Fml.{ftrue, fsep, flft}
use prog.Wp.{WpFn}
use types.Logic.{sem}
use types.Kit.{‵, raw, ◌⊛◌, some, later, ◌$◌, ◌∵◌, !, qed, by, move, keep, drop, split, split3, join, fsplit, fjoin, pick, suffices, use0, use1, await, feq_l}
use types.Run.{of_opd, no_more, and_then, returns, enter}
use types.ByLocal.{alloc_all, pass_all, free_all, look_at, get, sets, lands_as}
use types.Part.{agg}
use contract.BorrowLft.{◌⊑◌, ⊑_refl}
use contract.Monad.{fact, fact_i}
use contract.Running.{tables}
use denote.Exit.{no}
use denote.RattleType.{RattleType, owns}
use denote.Builtin.{RawPtr}
use denote.Memory.{lone}
use denote.RawPtr.{Ptr, block_ptr, null_ptr, ptr_val, in_a_block}
use denote.Signature.{types_at, plain}
use denote.Steps.{nothing, only}
use denote.Param.{param, bounded}
use denote.Param.NoDrop
use denote.Triple.Spec.{triple_of}
use denote.Triple.Call.{calls_at}
use denote.Triple.Walked.{Stays, stay_dropped, walk_of}
use Rattle.core.proofs.alloc.Calls.{Goes-blank}
use Rattle.core.proofs.atomic.Steps.{fm}
use Rattle.libc.specs.Heap.{chunk}
use Rattle.std_alloc.specs.Box.Ownership.{box_owns}
use Rattle.std_alloc.proofs.BoxSteps.Form as box
use Rattle.std_alloc.proofs.BoxSteps.Steps.{box_out, box_in}
use Rattle.std.proofs.raw_atomic.Walks.{proved_at, leaves}
use Rattle.std_heap.proofs.GlobalAllocator.TheImpl.Met as global_met
use Rattle.std_heap.specs.contracts.GlobalAllocator.TheImpl.{dict, ghosts}
use Rattle.lethwyrn_c.proofs.Destruct++none.drop.Code as NoDropped
use Rattle.lethwyrn_c.proofs.Values.{G, G-laws, alone, boxed, loose_in, no_drop}
use Rattle.std_alloc.specs.contracts.boxed.Box as a_box
use Rattle.std_heap.specs.contracts.Global as global
use Rattle.std_alloc.specs.contracts.boxed.Box.into_raw as callee
use Rattle.std_alloc.proofs.boxed.Box.into_raw.Met.{met}
use Rattle.lethwyrn_c.specs.contracts.loose.Loose.of.{ended, clauses}
use Rattle.lethwyrn_c.specs.contracts.loose.Loose.of.Key.{name as #self}
use Rattle.lethwyrn_c.proofs.loose.Loose.of.Statement.{statement}
use Rattle.lethwyrn_c.proofs.loose.Loose.of.Code as code

pub of_spec : {M : Type 1} → statement M
unfolding NoDropped.code
of_spec {M} 𝓤 𝓛 𝓜 𝓡 wired T L dx glue =
    let E : box.Bx = boxed T L in let R : RattleType = param 0 T in let B : RattleType = a_box.the_row R global.the_row ghosts in let En = ended T dx in
    let c = clauses T dx 𝓛 𝓜.mem 𝓡.returns in let 𝓣 = tables 𝓤 𝓛.H 𝓜 𝓡 𝓡.env in
    let args = bounded (a_type ∷ []) (T, tt) (dcons dx dnil) in let fn = inst_fn args code.function in
    let hs : Stays En.signature.params En.kept = (stay_dropped (plain (λ _. B)) no, tt) in
    let k = triple_of 𝓛 (callee.signature T G ghosts dict no_drop dx) (callee.spec T G ghosts dict no_drop dx 𝓛 𝓜.mem 𝓡.returns) in
    let allocates = global_met.passed 𝓡.env (code.calls-std_heap::GlobalAllocator::allocate 𝓡.env wired) (code.calls-std_heap::GlobalAllocator::deallocate 𝓡.env wired)
    (code.calls-std_heap::GlobalAllocator::grow 𝓡.env wired) (code.calls-std_heap::GlobalAllocator::shrink 𝓡.env wired) M 𝓤 𝓛 𝓜 𝓡 in
    let dropped = NoDrop.glues "lethwyrn_c::Destruct++none::drop" 𝓡.env (code.calls-lethwyrn_c::Destruct++none::drop 𝓡.env wired) G G-laws M 𝓤 𝓛 𝓜 𝓡 in
    let known = met 𝓤 𝓛 𝓜 𝓡 (code.calls-std_alloc::boxed::Box::into_raw 𝓡.env wired) T G L G-laws ghosts dict no_drop dx allocates dropped glue in
    proved_at 𝓛 En hs c 𝓜 𝓡 (Goes-blank 𝓛 1 (plain (λ _. B)) no (λ κs x f. tt), tt) (#self args) fn (code.unfolded 𝓤 𝓛.H 𝓜 𝓡 wired (T, tt) dx) (λ z are.
    let κ = z.0.0.0 in let q = z.0.1.0 in let v = z.0.3.0 in
    let Post : Val → SProp 𝓤 = (walk_of 𝓛 En hs c).post z in let Run : List Val → SProp 𝓤 = λ ws. WpFn 𝓤 𝓛.H 𝓣.C 𝓣.Λ fn ws Post in
    let lives = raw (fact 𝓤 (κ ⊑ T.lives)) in let always = raw (fact 𝓤 ([] ⊑ G.lives)) in let toks = ‵ (flft κ q) ⊛ ‵ (flft [] full_share) ⊛ ‵ ftrue in
    qed 𝓛 (((‵ (flft κ q) ⊛ ‵ ftrue) ⊛ ‵ (owns (types_at En.signature.params z.0.0) z.0.3 z.0.4)) ∷ (lives ⊛ ‵ ftrue) ∷ []) ∵
    split ! $ split ! $ move ! (2 ∷ []) $ fsplit ! $ box_out E ! v z.0.4.0 (λ b o h e ws fits. box_in E ! v b o v.value e refl $
    let w : Val = box.word E h b o in let typed = box.box_typed E h b o fits in
    let y : k.Ghost = (((κ, ([], tt)), (q, (full_share, tt)), tt, (v, tt), (w ∷ [], tt)), tt) in
    -- [the box; nothing; the token; nothing; how long it lives, and nothing]
    fjoin ! $ use0 𝓛 (‵ (flft [] full_share)) (𝓛.lfts.lft-nil full_share) $ move ! (0 ∷ 3 ∷ []) $ join ! $ move ! (2 ∷ 0 ∷ []) $ join ! $ join ! $
    move ! (1 ∷ []) $ split ! $ move ! (1 ∷ []) $ use0 𝓛 always (fact_i 𝓤 ([] ⊑ G.lives) (emp 𝓤) (⊑_refl [])) $ join ! $ move ! (1 ∷ 0 ∷ []) $ join ! $
    move ! (1 ∷ 0 ∷ []) $ join ! $ use1 𝓛 (raw (k.pre y)) (id⊢ 𝓤 _) $
    suffices ! (Run (w ∷ [])) (subst (λ (us : List Val). ent 𝓤 (Run (w ∷ [])) (Run us)) (sym (λ i. ws i ++ [])) (id⊢ 𝓤 (Run (w ∷ [])))) $
    enter ! 𝓣.C 𝓣.Λ fn (w ∷ []) Post $ alloc_all ! (λ l. pass_all ! refl (typed, tt) $
    sets ! (of_opd ! (get ! refl)) refl typed $
    calls_at ! (fm 𝓛 𝓜 𝓡) k known y (and_then ! (get ! refl) (no_more !)) (λ u.
    use1 𝓛 (later (some (λ (r : Ptr). (toks ⊛ ‵ (RawPtr.own_val r (u ∷ []))) ⊛ some (λ (_ : (Unit {0} × (Unit {0} × Unit {0})) × Unit {0}). ‵ (fsep (fsep ftrue (fsep ftrue ftrue)) ftrue) ⊛ ‵ (box_owns chunk R r v.value))))) (id⊢ 𝓤 _) $
    await ! tt $ pick ! (λ r. split ! $ split ! $ move ! (2 ∷ []) $ pick ! (λ _. split ! $ drop ! $
    in_a_block ! r (λ p. box_owns chunk R p v.value) (fst∗ 𝓤 (never 𝓤) (sem 𝓛 (chunk (bare (lone R.mir)) null_ptr))) (λ b' o' e'.
    move ! (2 ∷ []) $ feq_l ! (λ eu. lands_as ! (ap only (eu ∙ ap (λ (p : Ptr). ptr_val p ∷ []) e')) refl (tt, tt) $
    sets ! (agg ! (and_then ! (get ! refl) (no_more !))) refl (tt, (tt, tt)) $
    loose_in R ! b' o' v.value $ move ! (1 ∷ []) $ split3 ! $ move ! (1 ∷ []) $ drop ! $ join ! $
    use0 𝓛 (raw (fact 𝓤 (v.value ≡ v.value))) (fact_i 𝓤 (v.value ≡ v.value) (emp 𝓤) refl) $ nothing ! $ nothing ! $ fjoin ! $
    returns ! (look_at ! 0 refl) $ free_all ! refl $ keep ! (2 ∷ 0 ∷ 3 ∷ 1 ∷ []) $
    by ! (leaves 𝓛 En hs c z (alone b' o') (record { at = block_ptr b' o'; value = v.value }) (tt, tt) (tt, tt))))))))))
