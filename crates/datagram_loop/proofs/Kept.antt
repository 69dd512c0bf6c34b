-- Kept: entries are kept one by one, and then synced.
use Rattle.std.proofs.Common.{◌≡◌, ◌⊎◌, inl, inr, ℕ, ◌+◌, ◌-◌, ◌<◌, ◌≤◌, Bool, true, false, refl, sym, ap, subst, ◌∙◌, List, [], ◌∷◌, ◌++◌, arith, length}
use Rattle.std.specs.Prelude.{Option, Some, None, not, nat_lt, drop, take, is_none, slice_get}
use Rattle.std.proofs.lemmas.Bool.{false≢true, and_from, ltb-true, lt-ltb, cases_lt}
use Rattle.std.proofs.lemmas.List.{length-append}
use Rattle.std.proofs.lemmas.Slice.Eq.{bytes_eq-Decides}
use Rattle.std.proofs.Math.Seq.{drop-append_seam, take-append_seam}
use Rattle.definitions.specs.Lists.{is_empty}
use Rattle.definitions.specs.declared.frames.TurnFrame.{TurnFrame}
use Rattle.definitions.specs.declared.logs.Entry.{Entry}
use Rattle.definitions.specs.Advance.{next_made}
use Rattle.session_log.specs.Spelling.{entry_text, chained, FitsEntry}
use Rattle.session_log.specs.Entries.{entry_of}
use Rattle.session_log.specs.Writing.{Writing, mark_of, chain_of, written}
use Rattle.session_log.proofs.Found.{length-sha256}
use Rattle.session_log.proofs.Texts.{entry_read}
use Rattle.datagram_post.specs.Items.{did_by, Item, KeepCall, SyncCall, Failed, Kept, Synced, keep_item, sync_item}
use Rattle.peer_rules.specs.declared.arrivals.Arrival.{Arrival}
use Rattle.peer_rules.specs.declared.phases.Phase.{Phase}
use Rattle.peer_rules.specs.declared.phases.Phase.TheVariants.{Running, KeepFault}
use Rattle.peer_rules.specs.Entries.{entry_in}
use Rattle.peer_rules.specs.Phases.{is_running}
use Rattle.post_rules.specs.Views.{Settling, View}
use Rattle.post_rules.specs.Handling.{still_new}
use Rattle.post_rules.specs.Keeping.{may_log, waiting_after, may_keep_as, spells_next, kept_entry}
use Rattle.post_rules.specs.After.{after}
use Rattle.post_rules.specs.Rules.{may_keep, may_sync}
use Rattle.post_rules.specs.Histories.{Follows}
use Rattle.post_rules.proofs.Told.{follows_still, follows_one, follows_then}
use Rattle.datagram_loop.specs.States.{LoopState, kept_of, writer_of, view_of, in_phase, written_for, next_bytes, kept_next, synced_all}
use Rattle.datagram_loop.specs.Pending.{Explained, IsPending}
use Rattle.datagram_loop.specs.Keeping.{with_log, KeepsAll, KeepsNew}
use Rattle.datagram_loop.proofs.Views.{all_kept, few_kept, next_view, next_rest, there}

-- what is written for an entry says it
entry_in_written : (w : Writing) (e : Entry) → FitsEntry e → entry_in w (written w e) ≡ Some e
entry_in_written w e f =
    let mark = mark_of w in
    let text = entry_text e in
    let end = chained (chain_of w) text in
    let later : drop (length mark) (mark ++ (text ++ end)) ≡ text ++ end = drop-append_seam mark (text ++ end) in
    let all = length-append mark (text ++ end) in
    let two = length-append text end in
    let hashed = length-sha256 (chain_of w ++ text) in
    let long : length (mark ++ (text ++ end)) - length mark - 32 ≡ length text = omega (arith, all, two, hashed) in
    ap (λ (n : ℕ). entry_of (take n (drop (length mark) (mark ++ (text ++ end))))) long
    ∙ ap (λ (xs : List ℕ). entry_of (take (length text) xs)) later
    ∙ ap entry_of (take-append_seam text end)
    ∙ entry_read e f

-- the first entry that is not kept, which the frames that wait explain
pub record IsNextKept (w : List Arrival) (settling : Settling) (m : LoopState) (e : Entry) : Type 0 where
  pub running : m.phase ≡ Running
  pub unstored : settling.is_stored ≡ false
  pub more : m.kept < length m.peer.entries
  pub next : slice_get m.peer.entries m.kept ≡ Some e
  pub fits : FitsEntry e
  pub pending : IsPending m w

explained_first : (w : List Arrival) (settling : Settling) (m : LoopState) (e : Entry) → IsNextKept w settling m e →
    (may_log m.peer.game m.peer.me (kept_of m) w e ≡ true) × Explained m.peer.game m.peer.me (kept_of m ++ e ∷ []) (waiting_after m.peer.game m.peer.me (kept_of m) w e) (drop (m.kept + 1) m.peer.entries)
explained_first w settling m e k = subst (λ (es : List Entry). Explained m.peer.game m.peer.me (kept_of m) w es) (next_rest m e k.more k.next) k.pending

keep_may : (w : List Arrival) (settling : Settling) (m : LoopState) (e : Entry) → IsNextKept w settling m e → may_keep (view_of w settling m) (next_bytes m) ≡ true
keep_may w settling m e k =
    let v = view_of w settling m in
    let bytes : next_bytes m ≡ written (writer_of m) e = ap (written_for (writer_of m)) k.next in
    and_from _ _ (and_from _ _ (ap is_running k.running) (ap not k.unstored))
    (ap (spells_next v) bytes ∙ ap (may_keep_as v (written (writer_of m) e)) (entry_in_written (writer_of m) e k.fits)
    ∙ and_from _ _ ((bytes_eq-Decides (written (writer_of m) e) (written (writer_of m) e)).1 refl) (explained_first w settling m e k).0)

keep_shows : (w : List Arrival) (settling : Settling) (m : LoopState) (e : Entry) → IsNextKept w settling m e → after (view_of w settling m) (Kept (next_bytes m)) ≡ view_of (waiting_after m.peer.game m.peer.me (kept_of m) w e) settling (record m { kept = m.kept + 1 })
keep_shows w settling m e k =
    let v = view_of w settling m in
    ap (λ (bytes : List ℕ). kept_entry v (entry_in (writer_of m) bytes)) (ap (written_for (writer_of m)) k.next)
    ∙ ap (kept_entry v) (entry_in_written (writer_of m) e k.fits)
    ∙ sym (next_view (waiting_after m.peer.game m.peer.me (kept_of m) w e) settling m e k.more k.next)

keep_rest : (w : List Arrival) (settling : Settling) (m : LoopState) (e : Entry) → IsNextKept w settling m e → IsPending (record m { kept = m.kept + 1 }) (waiting_after m.peer.game m.peer.me (kept_of m) w e)
keep_rest w settling m e k =
    subst (λ (h : List Entry). Explained m.peer.game m.peer.me h (waiting_after m.peer.game m.peer.me (kept_of m) w e) (drop (m.kept + 1) m.peer.entries))
    (sym (ap (λ (v : View). v.kept) (next_view w settling m e k.more k.next))) (explained_first w settling m e k).1

-- ---- one after the other

-- some are kept, and the others explained as before
pub record KeepingSo (w : List Arrival) (settling : Settling) (before items : List Item) (l m : LoopState) : Type 0 where
  pub waiting : List Arrival
  pub follows : Follows (view_of w settling l) (view_of waiting settling m) before items
  pub pending : IsPending m waiting

pub record Keeping (before items : List Item) (l m : LoopState) : Type 0 where
  pub same : m ≡ with_log m l
  pub synced : m.synced ≡ l.synced
  pub running : m.phase ≡ Running
  pub told : (w : List Arrival) (settling : Settling) → IsPending l w → settling.is_stored ≡ false → KeepingSo w settling before items l m

pub keeping_first : (items : List Item) (l : LoopState) → l.phase ≡ Running → Keeping items items l l
keeping_first items l r = record {
  same = refl;
  synced = refl;
  running = r;
  told = λ w settling p s. record { waiting = w; follows = follows_still (view_of w settling l) items; pending = p };
}

next_kept : (w : List Arrival) (settling : Settling) (m : LoopState) (e : Entry) → m.phase ≡ Running → settling.is_stored ≡ false → m.kept < length m.peer.entries → slice_get m.peer.entries m.kept ≡ Some e → FitsEntry e → IsPending m w → IsNextKept w settling m e
next_kept w settling m e r s more next fits p = record { running = r; unstored = s; more = more; next = next; fits = fits; pending = p }

pub keeping_on : (before items after : List Item) (l m n : LoopState) → Keeping before items l m → m.kept < length m.peer.entries → ((e : Entry) → slice_get m.peer.entries m.kept ≡ Some e → FitsEntry e) →
    after ≡ items ++ keep_item (did_by true) (next_bytes m) ∷ [] → n ≡ kept_next true m → Keeping before after l n
keeping_on before items now l m n k lt fits on is =
    let f = there m.peer.entries m.kept lt in
    subst (λ (x : LoopState). Keeping before now l x) (sym is) (record {
      same = ap (λ (x : LoopState). record x { kept = m.kept + 1 }) k.same;
      synced = k.synced;
      running = k.running;
      told = λ w settling p s.
          let t = k.told w settling p s in
          let i = next_kept t.waiting settling m f.0 k.running s lt f.1 (fits f.0 f.1) t.pending in
          let later = waiting_after m.peer.game m.peer.me (kept_of m) t.waiting f.0 in
          record {
            waiting = later;
            follows = follows_then (view_of w settling l) (view_of t.waiting settling m) (view_of later settling (record m { kept = m.kept + 1 })) before items now t.follows
                (follows_one (view_of t.waiting settling m) (view_of later settling (record m { kept = m.kept + 1 })) items now (Kept (next_bytes m)) on (keep_may t.waiting settling m f.0 i) (keep_shows t.waiting settling m f.0 i));
            pending = keep_rest t.waiting settling m f.0 i;
          };
    })

pub keeping_fails : (before items after : List Item) (l m n : LoopState) → Keeping before items l m → m.kept < length m.peer.entries → ((e : Entry) → slice_get m.peer.entries m.kept ≡ Some e → FitsEntry e) →
    after ≡ items ++ keep_item (did_by false) (next_bytes m) ∷ [] → n ≡ kept_next false m → KeepsAll false before after l n
keeping_fails before items now l m n k lt fits on is =
    let f = there m.peer.entries m.kept lt in
    subst (λ (x : LoopState). KeepsAll false before now l x) (sym is) (record {
      same = ap (in_phase KeepFault) k.same;
      synced = k.synced;
      running = λ e. absurd (false≢true e);
      told = λ w settling p s.
          let t = k.told w settling p s in
          let i = next_kept t.waiting settling m f.0 k.running s lt f.1 (fits f.0 f.1) t.pending in
          record {
            waiting = t.waiting;
            follows = follows_then (view_of w settling l) (view_of t.waiting settling m) (view_of t.waiting settling (in_phase KeepFault m)) before items now t.follows
                (follows_one (view_of t.waiting settling m) (view_of t.waiting settling (in_phase KeepFault m)) items now (Failed (KeepCall (next_bytes m))) on (keep_may t.waiting settling m f.0 i) refl);
            stands = refl;
          };
    })

-- by what the call answered
pub keeping_more : (r : Bool) (before items after : List Item) (l m n : LoopState) → Keeping before items l m → m.kept < length m.peer.entries → ((e : Entry) → slice_get m.peer.entries m.kept ≡ Some e → FitsEntry e) →
    after ≡ items ++ keep_item (did_by r) (next_bytes m) ∷ [] → n ≡ kept_next r m → r ≡ true → Keeping before after l n
keeping_more r before items now l m n k lt fits on is sure =
    keeping_on before items now l m n k lt fits (on ∙ ap (λ (b : Bool). items ++ keep_item (did_by b) (next_bytes m) ∷ []) sure) (is ∙ ap (λ (b : Bool). kept_next b m) sure)

pub keeping_stops : (r : Bool) (before items after : List Item) (l m n : LoopState) → Keeping before items l m → m.kept < length m.peer.entries → ((e : Entry) → slice_get m.peer.entries m.kept ≡ Some e → FitsEntry e) →
    after ≡ items ++ keep_item (did_by r) (next_bytes m) ∷ [] → n ≡ kept_next r m → r ≡ false → KeepsAll false before after l n
keeping_stops r before items now l m n k lt fits on is off =
    keeping_fails before items now l m n k lt fits (on ∙ ap (λ (b : Bool). items ++ keep_item (did_by b) (next_bytes m) ∷ []) off) (is ∙ ap (λ (b : Bool). kept_next b m) off)

pub keeping_smaller : (r : Bool) (m n : LoopState) → m.kept < length m.peer.entries → n ≡ kept_next r m → r ≡ true → length n.peer.entries - n.kept < length m.peer.entries - m.kept
keeping_smaller r m n lt is sure =
    subst (λ (x : LoopState). length x.peer.entries - x.kept < length m.peer.entries - m.kept) (sym (is ∙ ap (λ (b : Bool). kept_next b m) sure)) (omega (arith, lt))

-- all are kept
pub keeping_ends : (before items : List Item) (l m : LoopState) → Keeping before items l m → m.kept ≡ length m.peer.entries → KeepsAll true before items l m
keeping_ends before items l m k all = record {
  same = k.same;
  synced = k.synced;
  running = λ e. k.running;
  told = λ w settling p s. let t = k.told w settling p s in record { waiting = t.waiting; follows = t.follows; stands = (k.running, all, subst (λ (es : List Entry). Explained m.peer.game m.peer.me (kept_of m) t.waiting es) none t.pending) };
}
  where
    past : (es : List Entry) → drop (length es) es ≡ []
    past [] = refl
    past (x ∷ es) = past es

    none : drop m.kept m.peer.entries ≡ []
    none = ap (λ (n : ℕ). drop n m.peer.entries) all ∙ past m.peer.entries

-- ---- syncing

-- a keep failed
pub new_unkept : (r : Bool) (before after : List Item) (l m : LoopState) → KeepsAll r before after l m → r ≡ false → KeepsNew false before after l m
new_unkept r before now l m k off =
    let f = subst (λ (b : Bool). KeepsAll b before now l m) off k in
    record { same = f.same; told = λ w settling p s. let t = f.told w settling p s in record { waiting = t.waiting; is_stored = settling.is_stored; follows = t.follows; stands = t.stands } }

-- nothing is to be synced
pub new_synced : (r u : Bool) (before after : List Item) (l m : LoopState) → KeepsAll r before after l m → r ≡ true → u ≡ nat_lt m.synced m.kept → u ≡ false → m.synced ≤ m.kept → KeepsNew true before after l m
new_synced r u before now l m k sure is off few =
    let f = subst (λ (b : Bool). KeepsAll b before now l m) sure k in
    record {
      same = f.same;
      told = λ w settling p s.
          let t = f.told w settling p s in
          record { waiting = t.waiting; is_stored = settling.is_stored; follows = t.follows; stands = (t.stands.0, t.stands.1, same_counts, t.stands.2) };
    }
  where
    same_counts : m.synced ≡ m.kept
    same_counts = go (cases_lt m.synced m.kept)
      where
        go : (m.synced < m.kept) ⊎ (m.kept ≤ m.synced) → m.synced ≡ m.kept
        go (inl lt) = absurd (let z : false ≡ true = sym off ∙ is ∙ lt-ltb m.synced m.kept lt in cc)
        go (inr ge) = omega (arith, ge, few)

sync_may : (w : List Arrival) (settling : Settling) (m : LoopState) → m.phase ≡ Running → m.kept ≡ length m.peer.entries → m.synced < m.kept → next_made m.peer.game m.peer.me m.peer.entries ≡ None → still_new m.peer.game m.peer.me (kept_of m) w ≡ [] →
    may_sync (view_of w settling m) ≡ true
sync_may w settling m r all lt none handled =
    let kept = all_kept m all in
    and_from _ _ (and_from _ _ (and_from _ _ (ap is_running r) (lt-ltb m.synced (length (kept_of m)) (let e = ap (λ (es : List Entry). length es) kept in omega (arith, e, lt, all))))
    (ap (λ (o : Option TurnFrame). is_none o) (ap (next_made m.peer.game m.peer.me) kept ∙ none)))
    (ap (is_empty {X = Arrival}) handled)

-- what is kept is synced, or that fails
pub new_stored : (r u done : Bool) (before items after : List Item) (l m n : LoopState) → KeepsAll r before items l m → r ≡ true → u ≡ nat_lt m.synced m.kept → u ≡ true → next_made l.peer.game l.peer.me l.peer.entries ≡ None →
    after ≡ items ++ sync_item (did_by done) ∷ [] → n ≡ synced_all done m → KeepsNew done before after l n
new_stored r u true before items now l m n k sure is some none on same =
    let f = subst (λ (b : Bool). KeepsAll b before items l m) sure k in
    subst (λ (x : LoopState). KeepsNew true before now l x) (sym same) (record {
      same = ap (λ (x : LoopState). record x { synced = m.kept }) f.same;
      told = λ w settling p s.
          let t = f.told w settling p s in
          let lt = ltb-true m.synced m.kept (sym is ∙ some) in
          let stored : Settling = record settling { is_stored = true } in
          let may = sync_may t.waiting settling m t.stands.0 t.stands.1 lt (ap (λ (x : LoopState). next_made x.peer.game x.peer.me x.peer.entries) f.same ∙ none) t.stands.2 in
          record {
            waiting = t.waiting;
            is_stored = true;
            follows = follows_then (view_of w settling l) (view_of t.waiting settling m) (view_of t.waiting stored (record m { synced = m.kept })) before items now t.follows
                (follows_one (view_of t.waiting settling m) (view_of t.waiting stored (record m { synced = m.kept })) items now Synced on may
                (ap (λ (c : ℕ). record (view_of t.waiting stored m) { synced = c }) (few_kept m (let a = t.stands.1 in omega (arith, a)))));
            stands = (t.stands.0, t.stands.1, refl, t.stands.2);
          };
    })
new_stored r u false before items now l m n k sure is some none on same =
    let f = subst (λ (b : Bool). KeepsAll b before items l m) sure k in
    subst (λ (x : LoopState). KeepsNew false before now l x) (sym same) (record {
      same = ap (in_phase KeepFault) f.same;
      told = λ w settling p s.
          let t = f.told w settling p s in
          let lt = ltb-true m.synced m.kept (sym is ∙ some) in
          let may = sync_may t.waiting settling m t.stands.0 t.stands.1 lt (ap (λ (x : LoopState). next_made x.peer.game x.peer.me x.peer.entries) f.same ∙ none) t.stands.2 in
          record {
            waiting = t.waiting;
            is_stored = settling.is_stored;
            follows = follows_then (view_of w settling l) (view_of t.waiting settling m) (view_of t.waiting settling (in_phase KeepFault m)) before items now t.follows
                (follows_one (view_of t.waiting settling m) (view_of t.waiting settling (in_phase KeepFault m)) items now (Failed SyncCall) on may refl);
            stands = refl;
          };
    })

-- ---- tests of counts

pub no_fault : (p : Phase) → p ≡ Running → p ≡ KeepFault → ⊥
no_fault p e f = (let q : Running ≡ KeepFault = sym e ∙ f in cc)

pub lt_of : (r : Bool) (a b : ℕ) → r ≡ nat_lt a b → r ≡ true → a < b
lt_of r a b is sure = ltb-true a b (sym is ∙ sure)

pub eq_of : (r : Bool) (a b : ℕ) → r ≡ nat_lt a b → r ≡ false → a ≤ b → a ≡ b
eq_of r a b is off few = go (cases_lt a b)
  where
    go : (a < b) ⊎ (b ≤ a) → a ≡ b
    go (inl lt) = absurd (let z : false ≡ true = sym off ∙ is ∙ lt-ltb a b lt in cc)
    go (inr ge) = omega (arith, ge, few)

pub sync_running : (r : Bool) (before after : List Item) (l m : LoopState) → KeepsAll r before after l m → r ≡ true → m.phase ≡ Running
sync_running r before now l m k sure = k.running sure
