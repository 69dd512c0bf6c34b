-- Steps: no own frame is left to be made where a run ends, and its log is the protocol's run.
use Rattle.std.proofs.Common.{◌≡◌, ℕ, ◌≤◌, Bool, true, false, refl, sym, ap, subst, ◌∙◌, List, [], ◌∷◌, ◌++◌, Option, Some, None, length, length-append, take, drop, take-append-drop, arith}
use Rattle.std.specs.Prelude.{◌&&◌, is_none, if◌then◌else◌}
use Rattle.std.proofs.lemmas.Bool.{and_parts, false≢true}
use Rattle.std.proofs.lemmas.List.Sums.{fold-append}
use Rattle.plain_lemmas.proofs.Options.{none_of}
use Rattle.definitions.specs.declared.frames.TurnFrame.{TurnFrame}
use Rattle.definitions.specs.declared.frames.What.{What}
use Rattle.definitions.specs.declared.frames.What.TheVariants.{Commit, Reveal}
use Rattle.definitions.specs.declared.openings.Opening.{Opening}
use Rattle.definitions.specs.declared.places.Slot.{Slot}
use Rattle.definitions.specs.declared.findings.Finding.{Finding}
use Rattle.definitions.specs.declared.logs.Entry.{Entry}
use Rattle.definitions.specs.declared.logs.Entry.TheVariants.{Made}
use Rattle.definitions.specs.World.{Game}
use Rattle.definitions.specs.Places.{slot_at}
use Rattle.definitions.specs.Findings.{is_clean}
use Rattle.definitions.specs.Honest.{allows, chosen_for, made_count}
use Rattle.definitions.specs.Needs.{is_unchosen, is_unchosen_frame, may_choose}
use Rattle.definitions.specs.Advance.{advance, frame_at, frame_chosen, if_allowed, next_made}
use Rattle.definition_laws.specs.First.{finding_of_log}
use Rattle.definition_laws.proofs.Advances.{next_made_past}
use Rattle.definition_laws.proofs.FirstFinding.{clean_is_none}
use Rattle.definition_laws.proofs.ForPeers.{advance_still}
use Rattle.socket_station.specs.Faults.{is_poll_call}
use Rattle.socket_station.specs.Items.{Item, Call}
use Rattle.socket_station.specs.Items as I
use Rattle.pilots.specs.Plans.{Plan}
use Rattle.rosters.specs.Rosters.{Neighbours}
use Rattle.peer_core.specs.Standing.{IsStanding}
use Rattle.peer_core.specs.Views.{PeerState}
use Rattle.loop_rules.specs.Settings.{Setting}
use Rattle.loop_rules.specs.Views.{View, start}
use Rattle.loop_rules.specs.After.{after}
use Rattle.loop_rules.specs.After as A
use Rattle.loop_rules.specs.Keeping.{own_next}
use Rattle.loop_rules.specs.Licence.{is_licensed}
use Rattle.loop_rules.specs.Histories.{IsHistory}
use Rattle.loop_rules.specs.Laws.{FailedPollsAreLicensed}
use Rattle.loop_rules.specs.Runs.{GoesAsRun, LogsAreRuns}
use Rattle.loop_rules.specs.Told.{IsTold}
use Rattle.loop_rules.proofs.Kept.{Keeps, keeps_sorted}
use Rattle.loop_ends.specs.declared.ends.Ended.{Ended}
use Rattle.loop_ends.specs.declared.ends.Ended.TheVariants as E
use Rattle.ready_loop.specs.States.{LoopState, base_of, kept_of, rest_of, view_of}
use Rattle.ready_loop.specs.Beginning.{given_by, new_loop}
use Rattle.ready_loop.specs.Laws.{IsRun}
use Rattle.own_moves.specs.Choices.{Chooser}
use Rattle.ready_loop.specs.Polling.{StandsEnded}
use Rattle.run_frame.specs.FailedCalls.{EndsBy, FailsNone}
use Rattle.peer_command.specs.Faults.{StandsByFaults, is_listen_call}
use Rattle.peer_command.specs.Steps.{IsLogRun}

-- ---- where no own frame may be made

-- after a finding
unclean : (game : Game) (me : ℕ) (h : List Entry) → is_clean game h ≡ false → next_made game me h ≡ None
unfolding next_made
unclean game me h e = go (frame_at game me h (slot_at game (made_count h)))
  where
    go : (o : Option TurnFrame) → if_allowed game me h o ≡ None
    go None = refl
    go (Some f) = ap (λ (b : Bool). if b && allows game me h (Made f) then Some f else None) e

found_one : (game : Game) (me : ℕ) (h : List Entry) (f : Finding) → finding_of_log game h ≡ Some f → next_made game me h ≡ None
found_one game me h f e = unclean game me h (clean_is_none game h (Some f) (sym e))

-- where a move may be chosen
unchosen : (game : Game) (me : ℕ) (h : List Entry) (s : Option Slot) → is_unchosen me h s ≡ true → frame_at game me h s ≡ None
unchosen game me h None e = absurd (false≢true e)
unchosen game me h (Some s) e = go s.what refl
  where
    none : (o : Option Opening) → is_none o ≡ true → o ≡ None
    none None n = refl
    none (Some o) n = absurd (false≢true n)

    go : (w : What) → s.what ≡ w → frame_chosen game s.what (chosen_for me h s.turn) ≡ None
    go Commit same = ap (frame_chosen game s.what) (none (chosen_for me h s.turn) (ap (λ (w : What). is_unchosen_frame me h w s.turn) (sym same) ∙ e))
    go Reveal same = absurd (false≢true (ap (λ (w : What). is_unchosen_frame me h w s.turn) (sym same) ∙ e))

choosing : (game : Game) (me : ℕ) (h : List Entry) → may_choose game me h ≡ true → next_made game me h ≡ None
unfolding next_made may_choose
choosing game me h e = ap (if_allowed game me h) (unchosen game me h (slot_at game (made_count h)) (and_parts _ _ (and_parts _ _ e).0).1)

-- where a poll is licensed
licensed : (v : View) → is_licensed v ≡ true → own_next v ≡ None
licensed v e = none_of (own_next v) (and_parts _ _ (and_parts _ _ (and_parts _ _ (and_parts _ _ e).1).0).0).1

-- ---- at the end of a run

shown_next : (n : LoopState) → kept_of n ≡ n.peer.entries → own_next (view_of n) ≡ next_made n.peer.game n.peer.me n.peer.entries
shown_next n kept = ap (λ (s : Setting). next_made s.game s.me (view_of n).kept) k.setting ∙ ap (next_made n.peer.game n.peer.me) (k.kept ∙ kept)
  where
    k : Keeps (base_of n) (view_of n)
    k = keeps_sorted (rest_of n) (base_of n)

-- a poll that failed was licensed
poll_left_none : FailedPollsAreLicensed → (items : List Item) (v : View) → IsTold items v → EndsBy is_poll_call items → FailsNone is_listen_call items → own_next v ≡ None
poll_left_none polls items v told b listened = go b.1 b.2 b.3
  where
    go : (call : Call) → items ≡ b.0 ++ I.Failed call ∷ [] → is_poll_call call ≡ true → own_next v ≡ None
    go (I.ListenCall addr) same e = absurd (listened b.0 [] (I.ListenCall addr) same refl)
    go (I.LogCall name) same e = absurd (false≢true e)
    go (I.DialCall q addr) same e = absurd (false≢true e)
    go (I.ReadCall s) same e = absurd (false≢true e)
    go (I.WriteCall s) same e = absurd (false≢true e)
    go (I.KeepCall bytes) same e = absurd (false≢true e)
    go I.SyncCall same e = absurd (false≢true e)
    go I.PollCall same e =
        let h : IsHistory v.setting (b.0 ++ I.Failed I.PollCall ∷ []) = subst (IsHistory v.setting) same told.allowed in
        let shown : v ≡ after (A.view_of v.setting b.0) (I.Failed I.PollCall) = sym told.shown ∙ ap (A.view_of v.setting) same ∙ fold-append after (start v.setting) b.0 (I.Failed I.PollCall ∷ []) in
        ap own_next shown ∙ licensed (A.view_of v.setting b.0) (polls v.setting b.0 [] h)

left_none : FailedPollsAreLicensed → (plan : Option Plan) (granted made : ℕ) (ended : Ended) (items : List Item) (n : LoopState) → 1 ≤ n.peer.game.ahead → IsTold items (view_of n) → kept_of n ≡ n.peer.entries → StandsByFaults ended items → FailsNone is_listen_call items →
    (ended ≡ E.KeepFault → ⊥) → StandsEnded plan granted made ended n → next_made n.peer.game n.peer.me n.peer.entries ≡ None
left_none polls plan granted made E.Done items n d told kept faults listened whole w =
    next_made_past n.peer.game n.peer.me n.peer.entries d (let all = w.done.0 in omega (arith, all))
left_none polls plan granted made (E.Caught f) items n d told kept faults listened whole w = found_one n.peer.game n.peer.me n.peer.entries f w.1
left_none polls plan granted made E.PollFault items n d told kept faults listened whole w = sym (shown_next n kept) ∙ poll_left_none polls items (view_of n) told faults listened
left_none polls plan granted made E.KeepFault items n d told kept faults listened whole w = absurd (whole refl)
left_none polls plan granted made (E.OwnMove turn fault) items n d told kept faults listened whole w = choosing n.peer.game n.peer.me n.peer.entries w.1.chooses
left_none polls plan granted made E.GaveUp items n d told kept faults listened whole w = sym (shown_next n kept) ∙ licensed (view_of n) w.licensed

-- the peer's log is the protocol's run
pub log_is_run : LogsAreRuns → FailedPollsAreLicensed → (p : PeerState) (r : Neighbours) (name : List ℕ) (by to : Chooser) (polls : ℕ) (ended : Ended) (n : LoopState) (items : List Item) → IsStanding p → IsRun name by to polls ended (new_loop p r) n items →
    StandsByFaults ended items → (ended ≡ E.KeepFault → ⊥) → FailsNone is_listen_call items → IsLogRun p n.peer.entries
log_is_run runs failed p r name by to polls ended n items standing w faults whole listened = record { rest = g.rest; over = sym kept ∙ g.over; run = sym still ∙ ap (advance p.game p.me) (sym kept) ∙ g.run }
  where
    s : Setting
    s = given_by p r

    ahead : 1 ≤ p.game.ahead
    ahead = standing.session.ahead.0

    kept : (A.view_of s items).kept ≡ n.peer.entries
    kept = w.history.kept ∙ w.kept whole

    long : length p.entries ≤ length (A.view_of s items).kept
    long =
        let front = ap (λ (z : Setting). length z.over) w.setting in
        let all = ap (λ (h : List Entry). length h) (take-append-drop n.over n.peer.entries) in
        let both = length-append (take n.over n.peer.entries) (drop n.over n.peer.entries) in
        let same = ap (λ (h : List Entry). length h) kept in
        omega (arith, front, all, both, same)

    g : GoesAsRun s (A.view_of s items).kept
    g = runs s items ahead standing.honest w.history.allowed long

    game : n.peer.game ≡ p.game
    game = ap (λ (z : Setting). z.game) w.setting

    me : n.peer.me ≡ p.me
    me = ap (λ (z : Setting). z.me) w.setting

    none : next_made n.peer.game n.peer.me n.peer.entries ≡ None
    none = left_none failed by.plan polls _ ended items n (subst (λ (x : Game). 1 ≤ x.ahead) (sym game) ahead) w.told (w.kept whole) faults listened whole w.stands

    still : advance p.game p.me n.peer.entries ≡ n.peer.entries
    still = advance_still p.game p.me n.peer.entries (ap (λ (x : Game). next_made x p.me n.peer.entries) (sym game) ∙ ap (λ (x : ℕ). next_made n.peer.game x n.peer.entries) (sym me) ∙ none)
