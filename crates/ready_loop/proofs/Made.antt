-- Made: the own frames that were just made are kept one by one.
use Rattle.std.proofs.Common.{inl, inr, ◌≡◌, ℕ, ◌+◌, ◌<◌, ◌≤◌, Bool, true, false, refl, sym, ap, subst, ◌∙◌, List, [], ◌∷◌, ◌++◌, append_assoc, arith, length}
use Rattle.std.specs.Prelude.{Option, Some, None, ◌&&◌, take, slice_get, Ok, Err}
use Rattle.std.proofs.lemmas.List.{length-take-le}
use Rattle.std.proofs.Math.Seq.{take-length}
use Rattle.definitions.specs.Lists.{EachIs}
use Rattle.definitions.specs.declared.frames.TurnFrame.{TurnFrame}
use Rattle.definitions.specs.declared.logs.Entry.{Entry}
use Rattle.definitions.specs.declared.logs.Entry.TheVariants.{Made}
use Rattle.definitions.specs.World.{Game}
use Rattle.definitions.specs.Honest.{allowed}
use Rattle.definitions.specs.Advance.{advance, next_made}
use Rattle.definition_laws.proofs.Advances.{advance_ends}
use Rattle.definition_laws.proofs.ForPeers.{advance_step, advance_still}
use Rattle.session_log.specs.Spelling.{FitsEntry}
use Rattle.socket_station.specs.Items.{Item, keep_item}
use Rattle.peer_rules.specs.declared.phases.Phase.{Phase}
use Rattle.peer_rules.specs.declared.phases.Phase.TheVariants.{Running}
use Rattle.loop_rules.specs.Settings.{Setting}
use Rattle.loop_rules.specs.Keeping.{may_keep_in}
use Rattle.peer_rules.specs.Order.{is_frame}
use Rattle.loop_rules.specs.Told.{IsTold}
use Rattle.loop_rules.proofs.Kept.{Keeps, keeps_sorted}
use Rattle.loop_rules.specs.Handling.{IsOfOther}
use Rattle.own_moves.proofs.Runs.{made_next, advance_run}
use Rattle.ready_loop.specs.declared.stops.Stop.TheVariants as T
use Rattle.ready_loop.specs.States.{LoopState, kept_of, base_of, rest_of, view_of}
use Rattle.ready_loop.specs.Steps.{did_by, next_bytes, kept_next}
use Rattle.ready_loop.specs.Going.{Goes}
use Rattle.ready_loop.specs.Handling.{KeepsMade}
use Rattle.ready_loop.proofs.Going.{goes_then}
use Rattle.ready_loop.proofs.Kept.{MayKeep, take_next, own_goes, each_drop}

there_behind : (kept rest : List Entry) (e : Entry) → slice_get (kept ++ e ∷ rest) (length kept) ≡ Some e
there_behind [] rest e = refl
there_behind (k ∷ kept) rest e = there_behind kept rest e

-- the first own frame that is not kept
pub record NextMade (game : Game) (me k : ℕ) (es : List Entry) : Type 0 where
  pub frame : TurnFrame
  pub made : next_made game me (take k es) ≡ Some frame
  pub here : slice_get es k ≡ Some (Made frame)
  pub behind : advance game me (take (k + 1) es) ≡ es

pub next_is : (game : Game) (me k : ℕ) (es : List Entry) → 1 ≤ game.ahead → k < length es → advance game me (take k es) ≡ es → NextMade game me k es
next_is game me k es d lt a = go (next_made game me (take k es)) refl
  where
    h : List Entry
    h = take k es

    long : length h ≡ k
    long = length-take-le k es (omega (arith, lt))

    go : (o : Option TurnFrame) → next_made game me h ≡ o → NextMade game me k es
    go None e =
        let same : h ≡ es = sym (advance_still game me h e) ∙ a in
        let all = ap (λ (xs : List Entry). length xs) same in
        absurd (let l = long in omega (arith, all, l, lt))
    go (Some f) e =
        let step : advance game me (h ++ Made f ∷ []) ≡ es = sym (advance_step game me h f d e) ∙ a in
        let r = advance_run game me (h ++ Made f ∷ []) in
        let all : es ≡ h ++ Made f ∷ r.0 = sym step ∙ r.1 ∙ append_assoc h (Made f ∷ []) r.0 in
        let here : slice_get es k ≡ Some (Made f) =
        ap (λ (xs : List Entry). slice_get xs k) all ∙ ap (slice_get (h ++ Made f ∷ r.0)) (sym long) ∙ there_behind h r.0 (Made f) in
        record { frame = f; made = e; here = here; behind = ap (advance game me) (take_next es k (Made f) lt here) ∙ step }

-- ---- one behind the other

pub record Making (before items : List Item) (l m : LoopState) : Type 0 where
  pub goes : Goes before items l m
  pub table : m.table ≡ l.table
  pub handled : m.handled ≡ l.handled
  pub synced : m.synced ≡ l.synced
  pub peer : m.peer ≡ l.peer
  pub running : m.phase ≡ Running
  pub made : advance m.peer.game m.peer.me (kept_of m) ≡ m.peer.entries

made_may : (l : LoopState) (f : TurnFrame) → l.phase ≡ Running → next_made l.peer.game l.peer.me (kept_of l) ≡ Some f → may_keep_in (view_of l).phase (view_of l) (Made f) ≡ true
made_may l f running e =
    ap (λ (p : Phase). may_keep_in p (view_of l) (Made f)) (k.phase ∙ running)
    ∙ ap (λ (s : Setting). allowed s.game s.me (view_of l).kept (Made f) && is_frame (next_made s.game s.me (view_of l).kept) f) k.setting
    ∙ ap (λ (h : List Entry). allowed l.peer.game l.peer.me h (Made f) && is_frame (next_made l.peer.game l.peer.me h) f) k.kept
    ∙ made_next l.peer.game l.peer.me (kept_of l) f e
  where
    k : Keeps (base_of l) (view_of l)
    k = keeps_sorted (rest_of l) (base_of l)

may_keep_made : (items : List Item) (l : LoopState) (n : NextMade l.peer.game l.peer.me l.kept l.peer.entries) → IsTold items (view_of l) → l.phase ≡ Running → l.kept < length l.peer.entries →
    FitsEntry (Made n.frame) → EachIs (IsOfOther l.peer.game l.peer.me) l.table.waiting → MayKeep items l (Made n.frame)
may_keep_made items l n told running lt f each = record {
  told = told;
  more = lt;
  next = n.here;
  fits = f;
  each = each_drop (IsOfOther l.peer.game l.peer.me) l.handled l.table.waiting each;
  may = made_may l n.frame running n.made;
}

-- the next one is kept, or keeping it fails
pub made_goes : (done : Bool) (before items after : List Item) (l m n : LoopState) → Making before items l m → 1 ≤ m.peer.game.ahead → m.kept < length m.peer.entries →
    ((e : Entry) → slice_get m.peer.entries m.kept ≡ Some e → FitsEntry e) → EachIs (IsOfOther m.peer.game m.peer.me) m.table.waiting →
    after ≡ items ++ keep_item (did_by done) (next_bytes m) ∷ [] → n ≡ kept_next done m → Goes before after l n
made_goes done before items after l m n w d lt fits each on same =
    let next = next_is m.peer.game m.peer.me m.kept m.peer.entries d lt w.made in
    goes_then before items after l m n w.goes
    (own_goes done items after m n (Made next.frame) (may_keep_made items m next w.goes.told w.running lt (fits (Made next.frame) next.here) each) tt on same)

pub made_on : (before items after : List Item) (l m n : LoopState) → Making before items l m → 1 ≤ m.peer.game.ahead → m.kept < length m.peer.entries → Goes before after l n → n ≡ kept_next true m → Making before after l n
made_on before items after l m n w d lt g same =
    subst (λ (x : LoopState). Making before after l x) (sym same) (record {
      goes = subst (λ (x : LoopState). Goes before after l x) same g;
      table = w.table;
      handled = w.handled;
      synced = w.synced;
      peer = w.peer;
      running = w.running;
      made = (next_is m.peer.game m.peer.me m.kept m.peer.entries d lt w.made).behind;
    })

-- keeping one failed
pub made_faults : (before items after : List Item) (l m n : LoopState) → Making before items l m → Goes before after l n → n ≡ kept_next false m → KeepsMade (Err T.KeepFault) before after l n
made_faults before items after l m n w g same =
    subst (λ (x : LoopState). KeepsMade (Err T.KeepFault) before after l x) (sym same) (record {
      goes = subst (λ (x : LoopState). Goes before after l x) same g;
      table = w.table;
      handled = w.handled;
      synced = w.synced;
      peer = w.peer;
      stands = (refl, record { fault = refl; rest = inr (inr (inl (sym w.made))) });
    })

-- all are kept
pub all_made : (before items : List Item) (l m : LoopState) → Making before items l m → 1 ≤ m.peer.game.ahead → m.kept ≡ length m.peer.entries → KeepsMade (Ok tt) before items l m
all_made before items l m w d all =
    let whole : kept_of m ≡ m.peer.entries = ap (λ (n : ℕ). take n m.peer.entries) all ∙ take-length m.peer.entries in
    record {
      goes = w.goes;
      table = w.table;
      handled = w.handled;
      synced = w.synced;
      peer = w.peer;
      stands = (
        w.running,
        record {
          kept = all;
          made = ap (next_made m.peer.game m.peer.me) (sym w.made) ∙ advance_ends m.peer.game m.peer.me (kept_of m) d;
        },
      );
    }
