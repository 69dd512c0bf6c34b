-- `into_loose` gives up what a live handle owns.
use Rattle.std.proofs.Common.{◌≡◌, List, [], ◌∷◌, ◌++◌, refl, sym, ap, ◌∙◌, subst}
use Rattle.std.specs.Prelude.{Some, IsTrue, Option, is_some}
use mir.Val.{Val}
use base.Logic.{SProp, ent, emp, id⊢, never, fst∗}
use prog.Wp.{WpFn}
use types.Logic.{sem}
use types.Kit.{‵, raw, ◌⊛◌, ◌$◌, ◌∵◌, !, qed, by, move, keep, use0, split, suffices, fsplit, fjoin, rewrite}
use types.Run.{stop, fld, of_opd, no_more, and_then, returns, enter}
use types.ByLocal.{alloc_all, pass_all, free_all, look_at, get, get_in, sets}
use types.Part.{agg, sub, whole}
use contract.Monad.{fact, fact_i}
use contract.Running.{tables}
use denote.RattleType.{owns}
use denote.RawPtr.{Ptr, block_ptr, null_ptr, in_a_block}
use denote.Signature.{types_at}
use denote.Steps.{nothing, heard}
use denote.Memory.{lone}
use mir.Raw.{raw as bare}
use denote.Triple.Entry.{alive}
use denote.Triple.Walked.{Stays, stay_dropped, walk_of}
use Rattle.core.proofs.alloc.Calls.{Goes-blank}
use Rattle.std.proofs.raw_atomic.Walks.{proved_at, leaves}
use Rattle.std_alloc.specs.Box.Ownership.{box_owns}
use Rattle.libc.specs.Heap.{chunk}
use Rattle.lethwyrn_c.specs.Holding.{holding}
use Rattle.lethwyrn_c.specs.contracts.sealer.Sealer.{the_row as R}
use Rattle.lethwyrn_c.proofs.Values.{alone, loose_in}
use Rattle.lethwyrn_c.proofs.Handles.{word, slot_at, live_of}
use Rattle.lethwyrn_c.proofs.SealsHandles.{handle_out}
use Rattle.lethwyrn_c.specs.contracts.seals_handle.SealsHandle.into_loose.{ended, clauses}
use Rattle.lethwyrn_c.specs.contracts.seals_handle.SealsHandle.into_loose.Key.{name as #self}
use Rattle.lethwyrn_c.proofs.seals_handle.SealsHandle.into_loose.Statement.{statement}
use Rattle.lethwyrn_c.proofs.seals_handle.SealsHandle.into_loose.Code as code

pub into_loose_spec : {M : Type 1} → statement M
into_loose_spec 𝓤 𝓛 𝓜 𝓡 wired =
    let H = 𝓛.H in let 𝓣 = tables 𝓤 H 𝓜 𝓡 𝓡.env in let c = clauses 𝓛 𝓜.mem 𝓡.returns in let fn = code.function in let s₀ = slot_at 0 ended.signature.params in
    let hs : Stays ended.signature.params ended.kept = (stay_dropped s₀ ended.kept.0, tt) in
    proved_at 𝓛 ended hs c 𝓜 𝓡 (Goes-blank 𝓛 0 s₀ ended.kept.0 (λ κs x f. tt), tt) #self fn (code.unfolded 𝓤 H 𝓜 𝓡 wired) (λ z are.
    let d = z.0.3.0 in let Post : Val → SProp 𝓤 = (walk_of 𝓛 ended hs c).post z in let Run : List Val → SProp 𝓤 = λ ws. WpFn 𝓤 H 𝓣.C 𝓣.Λ fn ws Post in
    qed 𝓛 ((raw (alive 𝓛 ended.signature z.0.0 z.0.1) ⊛ ‵ (owns (types_at ended.signature.params z.0.0) z.0.3 z.0.4)) ∷ raw (fact 𝓤 (IsTrue (is_some d.value))) ∷ []) ∵
    move ! (1 ∷ []) $ heard ! (IsTrue (is_some d.value)) (λ some. let x = (live_of d.value some).0 in let is : d.value ≡ Some x = (live_of d.value some).1 in
    split ! $ move ! (1 ∷ []) $ fsplit ! $ handle_out ! d z.0.4.0 (λ ev es.
    -- the flag says that there is a value, so the pointer is one into its block
    rewrite ! 0 (λ (y : Option R.Denot). ‵ (holding R d.at y)) is refl $
    in_a_block ! d.at (λ q. box_owns chunk R q x) (fst∗ 𝓤 (never 𝓤) (sem 𝓛 (chunk (bare (lone R.mir)) null_ptr))) (λ b o e.
    let w : Val = word (block_ptr b o) d.live in let is_word : z.0.4.0 ≡ w ∷ [] = ev ∙ ap (λ (q : Ptr). word q d.live ∷ []) e in
    suffices ! (Run (w ∷ [])) (subst (λ (us : List Val). ent 𝓤 (Run (w ∷ [])) (Run us)) (sym (λ i. is_word i ++ [])) (id⊢ 𝓤 (Run (w ∷ [])))) $
    enter ! 𝓣.C 𝓣.Λ fn (w ∷ []) Post $ alloc_all ! (λ l. pass_all ! refl ((tt, (tt, (tt, tt))), tt) $
    sets ! (of_opd ! (get_in ! (fld ! refl (stop !)) (sub ! 0 refl (whole !)))) refl (tt, tt) $
    sets ! (of_opd ! (get ! refl)) refl (tt, tt) $
    sets ! (agg ! (and_then ! (get ! refl) (no_more !))) refl (tt, (tt, tt)) $
    returns ! (look_at ! 0 refl) $ free_all ! refl $
    -- [the value and its block; nothing; the tokens]
    loose_in R ! b o x $ use0 𝓛 (raw (fact 𝓤 (Some x ≡ d.value))) (fact_i 𝓤 (Some x ≡ d.value) (emp 𝓤) (sym is)) $ nothing ! $ nothing ! $ fjoin ! $ keep ! (4 ∷ 0 ∷ 2 ∷ 1 ∷ []) $
    by ! (leaves 𝓛 ended hs c z (alone b o) (record { at = block_ptr b o; value = x }) (tt, tt) (tt, tt)))))))
