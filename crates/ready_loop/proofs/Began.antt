-- Began: the log is begun, the entries of an older one are kept, and the loop listens.
use Rattle.std.proofs.Common.{◌≡◌, ℕ, ◌+◌, ◌-◌, ◌<◌, ◌≤◌, Bool, true, false, refl, sym, ap, subst, ◌∙◌, List, [], ◌∷◌, ◌++◌, append_assoc, append-nil, arith, length}
use Rattle.std.specs.Prelude.{Option, Some, ◌&&◌, ◌||◌, ◌==◌, nat_lt, take, slice_get}
use Rattle.std.proofs.lemmas.Bool.{eq-eqb, lt-ltb, and_from}
use Rattle.std.proofs.lemmas.List.{length-take-le, take_all}
use Rattle.definitions.specs.declared.logs.Entry.{Entry}
use Rattle.definitions.specs.declared.logs.Entry.TheVariants.{Chose, Made, Got}
use Rattle.definition_laws.proofs.Nexts.{some_at}
use Rattle.session_log.specs.Spelling.{FitsEntry}
use Rattle.session_log.specs.Writing.{written}
use Rattle.socket_station.specs.declared.answers.Addr.{Addr}
use Rattle.socket_station.specs.declared.answers.Did.TheVariants as D
use Rattle.socket_station.specs.Items.{Item, ListenCall, LogCall, KeepCall, SyncCall, Listening, LogBegun, Failed, Kept, Synced, log_item, listen_item, keep_item, sync_item}
use Rattle.socket_station.specs.Standings.{OpensNew}
use Rattle.peer_rules.specs.declared.arrivals.Arrival.{Arrival}
use Rattle.peer_rules.specs.declared.phases.Phase.{Phase}
use Rattle.peer_rules.specs.declared.phases.Phase.TheVariants.{Logged, Running, KeepFault, PollFault}
use Rattle.loop_rules.specs.Settings.{Setting}
use Rattle.peer_rules.specs.Addresses.{told_addr}
use Rattle.loop_rules.specs.Views.{start}
use Rattle.loop_rules.specs.Handling.{with_waiting, sorted, sorted_out}
use Rattle.loop_rules.specs.Keeping.{may_keep_in, waiting_behind, with_entry}
use Rattle.peer_rules.specs.Entries.{is_entry}
use Rattle.loop_rules.specs.Rules.{is_allowed}
use Rattle.peer_rules.specs.Phases.{is_logged, is_running}
use Rattle.loop_rules.specs.Histories.{BeginsLog}
use Rattle.loop_rules.specs.Told.{IsTold}
use Rattle.loop_laws.specs.Sockets.{SocketsAreNew}
use Rattle.loop_rules.proofs.Told.{told_goes_on}
use Rattle.loop_ends.specs.declared.ends.Begun.TheVariants as B
use Rattle.ready_loop.specs.States.{LoopState, setting_of, kept_of, writer_of, base_of, view_of}
use Rattle.ready_loop.specs.Steps.{did_by, in_phase, written_for, next_bytes, kept_next, synced_all}
use Rattle.ready_loop.specs.Beginning.{new_loop, IsNew, Begins}
use Rattle.ready_loop.specs.Going.{poll_count, polls_of}
use Rattle.ready_loop.specs.Settling.{IsReady}
use Rattle.ready_loop.specs.Overs.{logged_on, listens_on, IsTakingOver, TakesOver, SyncsOver}
use Rattle.ready_loop.proofs.Sorting.{more_kept}
use Rattle.ready_loop.proofs.Entries.{entry_same, kept_tells, fault_tells}
use Rattle.ready_loop.proofs.Idle.{still_view, all_kept}
use Rattle.ready_loop.proofs.Kept.{base_next}
use Rattle.ready_loop.proofs.Going.{polls_more, new_none, new_after}
use Rattle.ready_loop.proofs.Addresses.{same_addr}

-- one more item that is no poll
same_polls : (before items after : List Item) (item : Item) → polls_of items ≡ polls_of before → after ≡ items ++ item ∷ [] → poll_count item ≡ 0 → polls_of after ≡ polls_of before
same_polls before items after item w on none = (let all = ap (λ (xs : List Item). polls_of xs) on in let more = polls_more items item in omega (arith, w, all, more, none))

log_polls : (done : Bool) (name : List ℕ) → poll_count (log_item (did_by done) name) ≡ 0
log_polls true name = refl
log_polls false name = refl

sync_polls : (done : Bool) → poll_count (sync_item (did_by done)) ≡ 0
sync_polls true = refl
sync_polls false = refl

listen_polls : (done : Bool) (addr : Addr) → poll_count (listen_item (did_by done) addr) ≡ 0
listen_polls true addr = refl
listen_polls false addr = refl

log_opens : (done : Bool) (name : List ℕ) (items : List Item) → OpensNew items (log_item (did_by done) name)
log_opens true name items = tt
log_opens false name items = tt

sync_opens : (done : Bool) (items : List Item) → OpensNew items (sync_item (did_by done))
sync_opens true items = tt
sync_opens false items = tt

listen_opens : (done : Bool) (addr : Addr) (items : List Item) → OpensNew items (listen_item (did_by done) addr)
listen_opens true addr items = tt
listen_opens false addr items = tt

told_start : (s : Setting) → IsTold [] (start s)
told_start s = record { allowed = refl; shown = refl; stand = tt; differ = tt }

-- ---- the log is begun

pub log_told : (done : Bool) (items after : List Item) (name : List ℕ) (l m : LoopState) → IsNew l → items ≡ [] → after ≡ items ++ log_item (did_by done) name ∷ [] → m ≡ logged_on done l → IsTold after (view_of m)
log_told done items after name l m new none on same =
    subst (λ (x : LoopState). IsTold after (view_of x)) (sym (same ∙ ap (logged_on done) new))
    (subst (λ (xs : List Item). IsTold xs (view_of (logged_on done (new_loop l.peer l.roster)))) (sym (on ∙ ap (λ (xs : List Item). xs ++ log_item (did_by done) name ∷ []) none)) (go done))
  where
    s : Setting
    s = setting_of (new_loop l.peer l.roster)

    go : (b : Bool) → IsTold (log_item (did_by b) name ∷ []) (view_of (logged_on b (new_loop l.peer l.roster)))
    go true = told_goes_on [] (start s) (LogBegun name) (told_start s) tt refl
    go false = told_goes_on [] (start s) (Failed (LogCall name)) (told_start s) tt refl

pub log_named : (done : Bool) (items after more : List Item) (name : List ℕ) → items ≡ [] → after ≡ items ++ log_item (did_by done) name ∷ [] → BeginsLog name (after ++ more)
log_named done items after more name none on = subst (λ (xs : List Item). BeginsLog name (xs ++ more)) (sym (on ∙ ap (λ (xs : List Item). xs ++ log_item (did_by done) name ∷ []) none)) (go done)
  where
    go : (b : Bool) → BeginsLog name (log_item (did_by b) name ∷ more)
    go true = refl
    go false = refl

pub log_taking : (items after : List Item) (name : List ℕ) (l m : LoopState) → IsNew l → items ≡ [] → after ≡ items ++ log_item D.Done name ∷ [] → m ≡ logged_on true l → IsTakingOver after m
log_taking items after name l m new none on same = record {
  told = log_told true items after name l m new none on same;
  logged = ap (λ (x : LoopState). x.phase) same;
  over = ap (λ (x : LoopState). x.over) begun ∙ sym (ap (λ (x : LoopState). length x.peer.entries) begun);
  few = subst (λ (x : LoopState). x.kept ≤ length x.peer.entries) (sym begun) (omega arith);
  waiting = ap (λ (x : LoopState). x.table.waiting) begun;
  handled = ap (λ (x : LoopState). x.handled) begun;
}
  where
    begun : m ≡ in_phase Logged (new_loop l.peer l.roster)
    begun = same ∙ ap (logged_on true) new

-- ---- the entries taken over

over_may : (l : LoopState) (e : Entry) → l.phase ≡ Logged → l.over ≡ length l.peer.entries → l.kept ≤ length l.peer.entries → slice_get l.peer.entries l.kept ≡ Some e → may_keep_in (base_of l).phase (base_of l) e ≡ true
over_may l e logged over few g =
    ap (λ (p : Phase). may_keep_in p (base_of l) e) logged
    ∙ ap (λ (es : List Entry). is_entry (slice_get es (length (kept_of l))) e) (take_all l.over l.peer.entries (omega (arith, over)))
    ∙ ap (λ (n : ℕ). is_entry (slice_get l.peer.entries n) e) (length-take-le l.kept l.peer.entries few)
    ∙ ap (λ (o : Option Entry). is_entry o e) g ∙ entry_same e

none_behind : (e : Entry) → waiting_behind e [] ≡ []
none_behind (Chose t m n) = refl
none_behind (Made f) = refl
none_behind (Got q f) = refl

over_shows : (l : LoopState) (e : Entry) → l.table.waiting ≡ [] → l.handled ≡ 0 → l.kept < length l.peer.entries → slice_get l.peer.entries l.kept ≡ Some e → sorted_out (with_entry e (base_of l)) ≡ view_of (record l { kept = l.kept + 1 })
over_shows l e none first lt g =
    ap (λ (ws : List Arrival). sorted ws (with_waiting ws (more_kept e (base_of l)))) (ap (waiting_behind e) none ∙ none_behind e)
    ∙ ap (λ (ws : List Arrival). record (more_kept e (base_of l)) { table = record l.table { waiting = ws } }) (sym none)
    ∙ sym (base_next l e lt g)
    ∙ sym (still_view (record l { kept = l.kept + 1 }) none first)

pub record Taking (before items : List Item) (l m : LoopState) : Type 0 where
  pub more : List Item
  pub grown : items ≡ before ++ more
  pub new : SocketsAreNew before → SocketsAreNew items
  pub polls : polls_of items ≡ polls_of before
  pub taking : IsTakingOver items m
  pub peer : m.peer ≡ l.peer
  pub setting : setting_of m ≡ setting_of l
  pub synced : m.synced ≡ l.synced

pub taking_first : (items : List Item) (l : LoopState) → IsTakingOver items l → Taking items items l l
taking_first items l w = record { more = []; grown = sym (append-nil items); new = λ n. n; polls = refl; taking = w; peer = refl; setting = refl; synced = refl }

next_over : (l : LoopState) (e : Entry) → slice_get l.peer.entries l.kept ≡ Some e → next_bytes l ≡ written (base_of l).writer e
next_over l e g = ap (written_for (writer_of l)) g

over_told : (done : Bool) (items : List Item) (m : LoopState) (e : Entry) → IsTakingOver items m → m.kept < length m.peer.entries → slice_get m.peer.entries m.kept ≡ Some e → FitsEntry e →
    IsTold (items ++ keep_item (did_by done) (next_bytes m) ∷ []) (view_of (kept_next done m))
over_told true items m e w lt g f =
    subst (λ (bytes : List ℕ). IsTold (items ++ Kept bytes ∷ []) (view_of (record m { kept = m.kept + 1 }))) (sym (next_over m e g))
    (subst (IsTold (items ++ Kept (written (base_of m).writer e) ∷ [])) (over_shows m e w.waiting w.handled lt g)
    (kept_tells items (base_of m) e (subst (IsTold items) (still_view m w.waiting w.handled) w.told) f (over_may m e w.logged w.over (omega (arith, lt)) g)))
over_told false items m e w lt g f =
    subst (λ (bytes : List ℕ). IsTold (items ++ Failed (KeepCall bytes) ∷ []) (view_of (in_phase KeepFault m))) (sym (next_over m e g))
    (subst (IsTold (items ++ Failed (KeepCall (written (base_of m).writer e)) ∷ [])) (sym (still_view (in_phase KeepFault m) w.waiting w.handled))
    (fault_tells items (base_of m) e (subst (IsTold items) (still_view m w.waiting w.handled) w.told) f (over_may m e w.logged w.over (omega (arith, lt)) g)))

pub taking_on : (before items after : List Item) (l m n : LoopState) → Taking before items l m → m.kept < length m.peer.entries → ((e : Entry) → slice_get m.peer.entries m.kept ≡ Some e → FitsEntry e) →
    after ≡ items ++ keep_item D.Done (next_bytes m) ∷ [] → n ≡ kept_next true m → Taking before after l n
taking_on before items after l m n w lt fits on same =
    let e = some_at m.peer.entries m.kept lt in
    subst (λ (x : LoopState). Taking before after l x) (sym same) (record {
      more = w.more ++ Kept (next_bytes m) ∷ [];
      grown = on ∙ ap (λ (xs : List Item). xs ++ Kept (next_bytes m) ∷ []) w.grown ∙ append_assoc before w.more (Kept (next_bytes m) ∷ []);
      new = λ n. new_after items after (Kept (next_bytes m)) on tt (w.new n);
      polls = same_polls before items after (Kept (next_bytes m)) w.polls on refl;
      taking = record {
        told = subst (λ (xs : List Item). IsTold xs (view_of (record m { kept = m.kept + 1 }))) (sym on) (over_told true items m e.0 w.taking lt e.1 (fits e.0 e.1));
        logged = w.taking.logged;
        over = w.taking.over;
        few = omega (arith, lt);
        waiting = w.taking.waiting;
        handled = w.taking.handled;
      };
      peer = w.peer;
      setting = w.setting;
      synced = w.synced;
    })

pub taking_faults : (before items after : List Item) (l m n : LoopState) → Taking before items l m → m.kept < length m.peer.entries → ((e : Entry) → slice_get m.peer.entries m.kept ≡ Some e → FitsEntry e) →
    after ≡ items ++ keep_item D.Failed (next_bytes m) ∷ [] → n ≡ kept_next false m → TakesOver false before after l n
taking_faults before items after l m n w lt fits on same =
    let e = some_at m.peer.entries m.kept lt in
    subst (λ (x : LoopState). TakesOver false before after l x) (sym same) (record {
      more = w.more ++ Failed (KeepCall (next_bytes m)) ∷ [];
      grown = on ∙ ap (λ (xs : List Item). xs ++ Failed (KeepCall (next_bytes m)) ∷ []) w.grown ∙ append_assoc before w.more (Failed (KeepCall (next_bytes m)) ∷ []);
      new = λ n. new_after items after (Failed (KeepCall (next_bytes m))) on tt (w.new n);
      polls = same_polls before items after (Failed (KeepCall (next_bytes m))) w.polls on refl;
      told = subst (λ (xs : List Item). IsTold xs (view_of (in_phase KeepFault m))) (sym on) (over_told false items m e.0 w.taking lt e.1 (fits e.0 e.1));
      peer = w.peer;
      setting = w.setting;
      synced = w.synced;
      stands = refl;
    })

pub taking_stops : (r : Bool) (before items after : List Item) (l m n : LoopState) → Taking before items l m → m.kept < m.over → ((e : Entry) → slice_get m.peer.entries m.kept ≡ Some e → FitsEntry e) → r ≡ false →
    after ≡ items ++ keep_item (did_by r) (next_bytes m) ∷ [] → n ≡ kept_next r m → TakesOver false before after l n
taking_stops r before items after l m n w lt fits none on same =
    taking_faults before items after l m n w (let all = w.taking.over in omega (arith, lt, all)) fits (on ∙ ap (λ (b : Bool). items ++ keep_item (did_by b) (next_bytes m) ∷ []) none) (same ∙ ap (λ (b : Bool). kept_next b m) none)

pub taking_more : (r : Bool) (before items after : List Item) (l m n : LoopState) → Taking before items l m → m.kept < m.over → ((e : Entry) → slice_get m.peer.entries m.kept ≡ Some e → FitsEntry e) → r ≡ true →
    after ≡ items ++ keep_item (did_by r) (next_bytes m) ∷ [] → n ≡ kept_next r m → Taking before after l n × (n.over - n.kept < m.over - m.kept)
taking_more r before items after l m n w lt fits done on same =
    let is : n ≡ kept_next true m = same ∙ ap (λ (b : Bool). kept_next b m) done in (
      taking_on before items after l m n w (let all = w.taking.over in omega (arith, lt, all)) fits (on ∙ ap (λ (b : Bool). items ++ keep_item (did_by b) (next_bytes m) ∷ []) done) is,
      subst (λ (x : LoopState). x.over - x.kept < m.over - m.kept) (sym is) (omega (arith, lt)),
    )

-- as the loop's parts show it
pub more_over : (i l : LoopState) → i ≡ l → i.kept < i.over → l.kept < l.over
more_over i l same lt = subst (λ (x : LoopState). x.kept < x.over) same lt

pub none_over : (i l : LoopState) → i ≡ l → i.over ≤ i.kept → l.over ≤ l.kept
none_over i l same le = subst (λ (x : LoopState). x.over ≤ x.kept) same le

pub taking_next : (before items : List Item) (l m : LoopState) → Taking before items l m → m.kept < m.over → m.kept < length m.peer.entries
taking_next before items l m w lt = (let all = w.taking.over in omega (arith, lt, all))

pub taking_whole : (p : Phase) → p ≡ Logged → p ≡ KeepFault → ⊥
taking_whole p e f = (let q : Logged ≡ KeepFault = sym e ∙ f in cc)

pub taking_ends : (before items : List Item) (l m : LoopState) → Taking before items l m → m.kept ≡ length m.peer.entries → TakesOver true before items l m
taking_ends before items l m w all = record { more = w.more; grown = w.grown; new = w.new; polls = w.polls; told = w.taking.told; peer = w.peer; setting = w.setting; synced = w.synced; stands = (w.taking, all) }

pub taking_all : (before items : List Item) (l m : LoopState) → Taking before items l m → m.over ≤ m.kept → TakesOver true before items l m
taking_all before items l m w le = taking_ends before items l m w (let all = w.taking.over in let few = w.taking.few in let e : m.kept ≡ length m.peer.entries = omega (arith, all, few, le) in e)

-- ---- the sync, and the listening

-- what stands once all entries taken over are kept
pub record IsOverKept (name : List ℕ) (items : List Item) (l m : LoopState) : Type 0 where
  pub taking : IsTakingOver items m
  pub kept : m.kept ≡ length m.peer.entries
  pub new : SocketsAreNew items
  pub named : BeginsLog name items
  pub polls : polls_of items ≡ 0
  pub peer : m.peer ≡ l.peer
  pub setting : setting_of m ≡ setting_of l

pub named_on : (name : List ℕ) (items more : List Item) → BeginsLog name items → BeginsLog name (items ++ more)
named_on name [] more b = absurd b
named_on name (item ∷ items) more b = b

over_is_kept : (m : LoopState) → m.over ≡ length m.peer.entries → m.kept ≡ length m.peer.entries → (length (kept_of m) == length (take m.over m.peer.entries)) ≡ true
over_is_kept m over kept = eq-eqb _ _ (ap (λ (es : List Entry). length es) (all_kept m kept ∙ sym (take_all m.over m.peer.entries (omega (arith, over)))))

sync_over_told : (done : Bool) (items : List Item) (m : LoopState) → IsTakingOver items m → m.kept ≡ length m.peer.entries → m.synced < m.kept → IsTold (items ++ sync_item (did_by done) ∷ []) (view_of (synced_all done m))
sync_over_told done items m w kept lt = go done
  where
    base : IsTold items (base_of m)
    base = subst (IsTold items) (still_view m w.waiting w.handled) w.told

    may : is_allowed (base_of m) Synced ≡ true
    may = and_from _ _ (ap (λ (p : Phase). is_running p || (is_logged p && (length (kept_of m) == length (take m.over m.peer.entries)))) w.logged ∙ over_is_kept m w.over kept)
        (ap (λ (n : ℕ). nat_lt m.synced n) (ap (λ (es : List Entry). length es) (all_kept m kept) ∙ sym kept) ∙ lt-ltb m.synced m.kept lt)

    go : (b : Bool) → IsTold (items ++ sync_item (did_by b) ∷ []) (view_of (synced_all b m))
    go true = subst (IsTold (items ++ Synced ∷ []))
        (ap (λ (n : ℕ). record (base_of m) { synced = n }) (ap (λ (es : List Entry). length es) (all_kept m kept) ∙ sym kept) ∙ sym (still_view (synced_all true m) w.waiting w.handled))
        (told_goes_on items (base_of m) Synced base tt may)
    go false = subst (IsTold (items ++ Failed SyncCall ∷ [])) (sym (still_view (in_phase KeepFault m) w.waiting w.handled)) (told_goes_on items (base_of m) (Failed SyncCall) base tt may)

pub syncs_over : (done : Bool) (items after : List Item) (m n : LoopState) → IsTakingOver items m → m.kept ≡ length m.peer.entries → m.synced < m.kept → after ≡ items ++ sync_item (did_by done) ∷ [] → n ≡ synced_all done m → SyncsOver done items after m n
syncs_over done items after m n w kept lt on same = record {
  more = sync_item (did_by done) ∷ [];
  grown = on;
  new = new_after items after (sync_item (did_by done)) on (sync_opens done items);
  polls = same_polls items items after (sync_item (did_by done)) refl on (sync_polls done);
  told = subst (λ (x : LoopState). IsTold after (view_of x)) (sym same) (subst (λ (xs : List Item). IsTold xs (view_of (synced_all done m))) (sym on) (sync_over_told done items m w kept lt));
  same = same;
}

-- nothing is to be synced
pub syncs_over_none : (items : List Item) (i m : LoopState) → i ≡ m → IsTakingOver items m → i.synced ≡ i.kept → SyncsOver true items items m m
syncs_over_none items i m is w same = let e = subst (λ (x : LoopState). x.synced ≡ x.kept) is same in record { more = []; grown = sym (append-nil items); new = λ n. n; polls = refl; told = w.told; same = ap (λ (n : ℕ). record m { synced = n }) e }

listen_may : (m : LoopState) → m.phase ≡ Logged → m.over ≡ length m.peer.entries → m.kept ≡ length m.peer.entries → m.synced ≡ m.kept → is_allowed (base_of m) (Listening (told_addr m.roster.me)) ≡ true
listen_may m logged over kept synced =
    and_from _ _ (and_from _ _ (and_from _ _ (ap is_logged logged) (over_is_kept m over kept))
    (eq-eqb _ _ (synced ∙ kept ∙ sym (ap (λ (es : List Entry). length es) (all_kept m kept))))) (same_addr (told_addr m.roster.me))

pub listens : (done : Bool) (name : List ℕ) (items after : List Item) (l m n : LoopState) → IsOverKept name items l m → m.synced ≡ m.kept → after ≡ items ++ listen_item (did_by done) (told_addr m.roster.me) ∷ [] → n ≡ listens_on done m →
    IsTold after (view_of n) × BeginsLog name after
listens done name items after l m n w synced on same = (
  subst (λ (x : LoopState). IsTold after (view_of x)) (sym same) (subst (λ (xs : List Item). IsTold xs (view_of (listens_on done m))) (sym on) (go done)),
  subst (BeginsLog name) (sym on) (named_on name items (listen_item (did_by done) (told_addr m.roster.me) ∷ []) w.named),
)
  where
    base : IsTold items (base_of m)
    base = subst (IsTold items) (still_view m w.taking.waiting w.taking.handled) w.taking.told

    may : is_allowed (base_of m) (Listening (told_addr m.roster.me)) ≡ true
    may = listen_may m w.taking.logged w.taking.over w.kept synced

    go : (b : Bool) → IsTold (items ++ listen_item (did_by b) (told_addr m.roster.me) ∷ []) (view_of (listens_on b m))
    go true = subst (IsTold (items ++ Listening (told_addr m.roster.me) ∷ [])) (sym (still_view (in_phase Running m) w.taking.waiting w.taking.handled)) (told_goes_on items (base_of m) (Listening (told_addr m.roster.me)) base tt may)
    go false = subst (IsTold (items ++ Failed (ListenCall (told_addr m.roster.me)) ∷ [])) (sym (still_view (in_phase PollFault m) w.taking.waiting w.taking.handled)) (told_goes_on items (base_of m) (Failed (ListenCall (told_addr m.roster.me))) base tt may)

-- ---- a whole beginning

-- no poll stands in the first item
log_none : (r : Bool) (name : List ℕ) (items after : List Item) → items ≡ [] → after ≡ items ++ log_item (did_by r) name ∷ [] → polls_of after ≡ 0
log_none r name items after none on = same_polls [] items after (log_item (did_by r) name) (ap (λ (xs : List Item). polls_of xs) none) on (log_polls r name)

-- nor is a socket opened in it
log_new : (r : Bool) (name : List ℕ) (items after : List Item) → items ≡ [] → after ≡ items ++ log_item (did_by r) name ∷ [] → SocketsAreNew after
log_new r name items after none on = new_after items after (log_item (did_by r) name) on (log_opens r name items) (subst SocketsAreNew (sym none) new_none)

pub begins_unlogged : (r : Bool) (name : List ℕ) (items after : List Item) (l m : LoopState) → IsNew l → items ≡ [] → after ≡ items ++ log_item (did_by r) name ∷ [] → m ≡ logged_on r l → r ≡ false → Begins name B.KeepFault l m after
begins_unlogged r name items after l m new none on same no_log =
    let begun : m ≡ logged_on false l = same ∙ ap (λ (b : Bool). logged_on b l) no_log in
    record {
      told = log_told r items after name l m new none on same;
      new = log_new r name items after none on;
      named = subst (BeginsLog name) (append-nil after) (log_named r items after [] name none on);
      polls = log_none r name items after none on;
      peer = ap (λ (x : LoopState). x.peer) begun;
      setting = ap setting_of begun;
      stands = ap (λ (x : LoopState). x.phase) begun;
    }

pub takes_first : (r : Bool) (name : List ℕ) (items after : List Item) (l m : LoopState) → IsNew l → items ≡ [] → after ≡ items ++ log_item (did_by r) name ∷ [] → m ≡ logged_on r l → r ≡ true → IsTakingOver after m
takes_first r name items after l m new none on same logged =
    log_taking items after name l m new none (on ∙ ap (λ (b : Bool). items ++ log_item (did_by b) name ∷ []) logged) (same ∙ ap (λ (b : Bool). logged_on b l) logged)

-- behind the log and the entries taken over
pub record IsLogged (name : List ℕ) (items after : List Item) (l m n : LoopState) : Type 0 where
  pub new : SocketsAreNew after
  pub named : BeginsLog name after
  pub polls : polls_of after ≡ 0
  pub peer : n.peer ≡ l.peer
  pub setting : setting_of n ≡ setting_of l

pub logged_so : (r s : Bool) (name : List ℕ) (items mid after : List Item) (l m n : LoopState) → items ≡ [] → mid ≡ items ++ log_item (did_by r) name ∷ [] → m ≡ logged_on r l → r ≡ true → TakesOver s mid after m n → IsLogged name mid after l m n
logged_so r s name items mid after l m n none on same logged t =
    let begun : m ≡ logged_on true l = same ∙ ap (λ (b : Bool). logged_on b l) logged in
    record {
      new = t.new (log_new r name items mid none on);
      named = subst (BeginsLog name) (sym t.grown) (log_named r items mid t.more name none on);
      polls = t.polls ∙ log_none r name items mid none on;
      peer = t.peer ∙ ap (λ (x : LoopState). x.peer) begun;
      setting = t.setting ∙ ap setting_of begun;
    }

pub begins_unkept : (s : Bool) (name : List ℕ) (mid after : List Item) (l m n : LoopState) → IsLogged name mid after l m n → TakesOver s mid after m n → s ≡ false → Begins name B.KeepFault l n after
begins_unkept s name mid after l m n w t no_keep =
    let u = subst (λ (b : Bool). TakesOver b mid after m n) no_keep t in
    record { told = u.told; new = w.new; named = w.named; polls = w.polls; peer = w.peer; setting = w.setting; stands = u.stands }

pub over_kept : (s : Bool) (name : List ℕ) (mid after : List Item) (l m n : LoopState) → IsLogged name mid after l m n → TakesOver s mid after m n → s ≡ true → IsOverKept name after l n
over_kept s name mid after l m n w t all =
    let u = subst (λ (b : Bool). TakesOver b mid after m n) all t in
    record { taking = u.stands.0; kept = u.stands.1; new = w.new; named = w.named; polls = w.polls; peer = w.peer; setting = w.setting }

pub begins_unsynced : (r : Bool) (name : List ℕ) (items after : List Item) (l m n : LoopState) → IsOverKept name items l m → SyncsOver r items after m n → r ≡ false → Begins name B.KeepFault l n after
begins_unsynced r name items after l m n w s no_sync =
    let same : n ≡ synced_all false m = s.same ∙ ap (λ (b : Bool). synced_all b m) no_sync in
    record {
      told = s.told;
      new = s.new w.new;
      named = subst (BeginsLog name) (sym s.grown) (named_on name items s.more w.named);
      polls = s.polls ∙ w.polls;
      peer = ap (λ (x : LoopState). x.peer) same ∙ w.peer;
      setting = ap setting_of same ∙ w.setting;
      stands = ap (λ (x : LoopState). x.phase) same;
    }

pub over_synced : (r : Bool) (name : List ℕ) (items after : List Item) (l m n : LoopState) → IsOverKept name items l m → SyncsOver r items after m n → r ≡ true → IsOverKept name after l n × (n.synced ≡ n.kept)
over_synced r name items after l m n w s all =
    let same : n ≡ synced_all true m = s.same ∙ ap (λ (b : Bool). synced_all b m) all in (
      record {
        taking = record {
          told = s.told;
          logged = ap (λ (x : LoopState). x.phase) same ∙ w.taking.logged;
          over = ap (λ (x : LoopState). x.over) same ∙ w.taking.over ∙ sym (ap (λ (x : LoopState). length x.peer.entries) same);
          few = subst (λ (x : LoopState). x.kept ≤ length x.peer.entries) (sym same) w.taking.few;
          waiting = ap (λ (x : LoopState). x.table.waiting) same ∙ w.taking.waiting;
          handled = ap (λ (x : LoopState). x.handled) same ∙ w.taking.handled;
        };
        kept = ap (λ (x : LoopState). x.kept) same ∙ w.kept ∙ sym (ap (λ (x : LoopState). length x.peer.entries) same);
        new = s.new w.new;
        named = subst (BeginsLog name) (sym s.grown) (named_on name items s.more w.named);
        polls = s.polls ∙ w.polls;
        peer = ap (λ (x : LoopState). x.peer) same ∙ w.peer;
        setting = ap setting_of same ∙ w.setting;
      },
      ap (λ (x : LoopState). x.synced) same ∙ sym (ap (λ (x : LoopState). x.kept) same),
    )

-- nor in the beginning's last one
listened_none : (r : Bool) (name : List ℕ) (items after : List Item) (l m : LoopState) → IsOverKept name items l m → after ≡ items ++ listen_item (did_by r) (told_addr m.roster.me) ∷ [] → polls_of after ≡ 0
listened_none r name items after l m w on = same_polls items items after (listen_item (did_by r) (told_addr m.roster.me)) refl on (listen_polls r (told_addr m.roster.me)) ∙ w.polls

listened_new : (r : Bool) (name : List ℕ) (items after : List Item) (l m : LoopState) → IsOverKept name items l m → after ≡ items ++ listen_item (did_by r) (told_addr m.roster.me) ∷ [] → SocketsAreNew after
listened_new r name items after l m w on = new_after items after (listen_item (did_by r) (told_addr m.roster.me)) on (listen_opens r (told_addr m.roster.me) items) w.new

pub begins_ready : (name : List ℕ) (r : Bool) (items after : List Item) (l m n : LoopState) → IsOverKept name items l m × (m.synced ≡ m.kept) → after ≡ items ++ listen_item (did_by r) (told_addr m.roster.me) ∷ [] → n ≡ listens_on r m → r ≡ true → Begins name B.Ready l n after
begins_ready name r items after l m n both on state done =
    let w = both.0 in
    let synced = both.1 in
    let same : n ≡ listens_on true m = state ∙ ap (λ (b : Bool). listens_on b m) done in
    let t = listens r name items after l m n w synced on state in
    record {
      told = t.0;
      new = listened_new r name items after l m w on;
      named = t.1;
      polls = listened_none r name items after l m w on;
      peer = ap (λ (x : LoopState). x.peer) same ∙ w.peer;
      setting = ap setting_of same ∙ w.setting;
      stands = (
        record {
          running = ap (λ (x : LoopState). x.phase) same;
          kept = ap (λ (x : LoopState). x.kept) same ∙ w.kept ∙ sym (ap (λ (x : LoopState). length x.peer.entries) same);
          waiting = ap (λ (x : LoopState). x.table.waiting) same ∙ w.taking.waiting;
          handled = ap (λ (x : LoopState). x.handled) same ∙ w.taking.handled;
        },
        ap (λ (x : LoopState). x.synced) same ∙ synced ∙ sym (ap (λ (x : LoopState). x.kept) same),
      );
    }

pub begins_poll_fault : (name : List ℕ) (r : Bool) (items after : List Item) (l m n : LoopState) → IsOverKept name items l m × (m.synced ≡ m.kept) → after ≡ items ++ listen_item (did_by r) (told_addr m.roster.me) ∷ [] → n ≡ listens_on r m → r ≡ false → Begins name B.PollFault l n after
begins_poll_fault name r items after l m n both on state deaf =
    let w = both.0 in
    let synced = both.1 in
    let same : n ≡ listens_on false m = state ∙ ap (λ (b : Bool). listens_on b m) deaf in
    let t = listens r name items after l m n w synced on state in
    record {
      told = t.0;
      new = listened_new r name items after l m w on;
      named = t.1;
      polls = listened_none r name items after l m w on;
      peer = ap (λ (x : LoopState). x.peer) same ∙ w.peer;
      setting = ap setting_of same ∙ w.setting;
      stands = record {
        fault = ap (λ (x : LoopState). x.phase) same;
        kept = ap (λ (x : LoopState). x.kept) same ∙ w.kept ∙ sym (ap (λ (x : LoopState). length x.peer.entries) same);
        synced = ap (λ (x : LoopState). x.synced) same ∙ synced ∙ sym (ap (λ (x : LoopState). x.kept) same);
        waiting = ap (λ (x : LoopState). x.table.waiting) same ∙ w.taking.waiting;
        handled = ap (λ (x : LoopState). x.handled) same ∙ w.taking.handled;
      };
    }

-- a loop that listens is ready to play
pub begun_is_ready : (name : List ℕ) (l m : LoopState) (items : List Item) → Begins name B.Ready l m items → IsReady items m
begun_is_ready name l m items b = record { told = b.told; idle = b.stands.0 }
