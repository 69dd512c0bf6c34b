-- Synced: the log is synced, and a run stops.
use Rattle.std.proofs.Common.{inl, inr, ◌≡◌, ℕ, ◌<◌, ◌≤◌, Bool, true, false, refl, sym, ap, subst, ◌∙◌, List, [], ◌∷◌, ◌++◌, arith, length}
use Rattle.std.specs.Prelude.{◌⊎◌, Ok, Err, nat_lt}
use Rattle.std.proofs.lemmas.Bool.{cases_lt, lt-ltb}
use Rattle.definitions.specs.declared.logs.Entry.{Entry}
use Rattle.socket_station.specs.Items.{Item, Synced, Failed, SyncCall, sync_item}
use Rattle.peer_rules.specs.declared.phases.Phase.{Phase}
use Rattle.peer_rules.specs.declared.phases.Phase.TheVariants.{KeepFault}
use Rattle.loop_rules.specs.Rules.{is_allowed}
use Rattle.loop_rules.specs.After as A
use Rattle.loop_rules.specs.Told.{IsTold}
use Rattle.loop_rules.proofs.Told.{told_goes_on}
use Rattle.session_log.specs.Writing.{Writing}
use Rattle.ready_loop.specs.declared.stops.Stop.TheVariants as T
use Rattle.ready_loop.specs.States.{LoopState, IsFit, base_of, view_of}
use Rattle.ready_loop.specs.Steps.{did_by, in_phase, synced_all}
use Rattle.ready_loop.specs.Going.{Goes, IsCut, IsIdle}
use Rattle.ready_loop.specs.Stops.{IsWhole}
use Rattle.ready_loop.specs.Settling.{IsReady, Syncs}
use Rattle.ready_loop.proofs.Going.{goes_one, goes_still}
use Rattle.ready_loop.proofs.Idle.{still_view, idle_view, all_kept}

sync_may : (l : LoopState) → IsIdle l → l.synced < l.kept → is_allowed (base_of l) Synced ≡ true
sync_may l w lt =
    ap (λ (p : Phase). is_allowed (record (base_of l) { phase = p }) Synced) w.running
    ∙ ap (λ (h : List Entry). nat_lt l.synced (length h)) (all_kept l w.kept)
    ∙ ap (λ (n : ℕ). nat_lt l.synced n) (sym w.kept) ∙ lt-ltb l.synced l.kept lt

sync_shows : (l : LoopState) → IsIdle l → A.after (base_of l) Synced ≡ view_of (synced_all true l)
sync_shows l w =
    ap (λ (n : ℕ). record (base_of l) { synced = n }) (ap (λ (h : List Entry). length h) (all_kept l w.kept) ∙ sym w.kept)
    ∙ sym (still_view (synced_all true l) w.waiting w.handled)

pub sync_goes : (done : Bool) (before after : List Item) (l m : LoopState) → IsReady before l → l.synced < l.kept → after ≡ before ++ sync_item (did_by done) ∷ [] → m ≡ synced_all done l → Goes before after l m
sync_goes true before after l m w lt on same =
    subst (λ (x : LoopState). Goes before after l x) (sym same) (goes_one before after Synced l (synced_all true l) on refl tt refl (omega arith)
    (subst (IsTold (before ++ Synced ∷ [])) (sync_shows l w.idle)
    (told_goes_on before (base_of l) Synced (subst (IsTold before) (idle_view l w.idle) w.told) tt (sync_may l w.idle lt))) refl)
sync_goes false before after l m w lt on same =
    subst (λ (x : LoopState). Goes before after l x) (sym same) (goes_one before after (Failed SyncCall) l (synced_all false l) on refl tt refl (omega arith)
    (subst (IsTold (before ++ Failed SyncCall ∷ [])) (sym (still_view (in_phase KeepFault l) w.idle.waiting w.idle.handled))
    (told_goes_on before (base_of l) (Failed SyncCall) (subst (IsTold before) (idle_view l w.idle) w.told) tt (sync_may l w.idle lt))) refl)

pub syncs_done : (r : Bool) (before after : List Item) (l m : LoopState) → IsReady before l → l.synced < l.kept → after ≡ before ++ sync_item (did_by r) ∷ [] → m ≡ synced_all r l → r ≡ true → Syncs (Ok tt) before after l m
syncs_done r before after l m w lt on same is = record { goes = sync_goes r before after l m w lt on same; same = same ∙ ap (λ (b : Bool). synced_all b l) is }

pub syncs_failed : (r : Bool) (before after : List Item) (l m : LoopState) → IsReady before l → l.synced < l.kept → after ≡ before ++ sync_item (did_by r) ∷ [] → m ≡ synced_all r l → r ≡ false → Syncs (Err T.KeepFault) before after l m
syncs_failed r before after l m w lt on same is = record { goes = sync_goes r before after l m w lt on same; same = (refl, same ∙ ap (λ (b : Bool). synced_all b l) is) }

-- nothing is to be synced
pub syncs_none : (before : List Item) (i l : LoopState) → i ≡ l → IsReady before l → i.synced ≡ i.kept → Syncs (Ok tt) before before l l
syncs_none before i l is w same =
    let e = subst (λ (x : LoopState). x.synced ≡ x.kept) is same in
    record { goes = goes_still before l w.told; same = ap (λ (n : ℕ). record l { synced = n }) e }

-- the sync failed
pub unsynced_cut : (l m : LoopState) → IsIdle l → m ≡ synced_all false l → IsCut m
unsynced_cut l m w same = subst IsCut (sym same) (record { fault = refl; rest = inl (sym (all_kept l w.kept)) })

pub synced_whole : (u : Unit {0}) (before after : List Item) (l m : LoopState) → IsIdle l → Syncs (Ok u) before after l m → IsWhole m
synced_whole u before after l m w s =
    subst IsWhole (sym s.same) (record { idle = record { running = w.running; kept = w.kept; waiting = w.waiting; handled = w.handled }; synced = refl })

pub sync_lt : (i l : LoopState) (w : Writing) → i ≡ l → IsFit i w → (i.synced ≡ i.kept → ⊥) → l.synced < l.kept
sync_lt i l w same f differs = subst (λ (x : LoopState). x.synced < x.kept) same (lt_of i.synced i.kept f.synced differs)
  where
    lt_of : (a b : ℕ) → a ≤ b → (a ≡ b → ⊥) → a < b
    lt_of a b le n = go (cases_lt a b)
      where
        go : (a < b) ⊎ (b ≤ a) → a < b
        go (inl lt) = lt
        go (inr ge) = absurd (n (omega (arith, le, ge)))
