-- Licensed: when a loop may wait, and when it may not.
use Rattle.std.proofs.Common.{◌≡◌, Bool, true, false, refl, sym, ap, ◌∙◌, List, length}
use Rattle.std.specs.Prelude.{Option, not, ◌&&◌, ◌||◌, ◌==◌, is_none}
use Rattle.std.proofs.lemmas.Bool.{and_parts, eq-eqb, false≢true, and_from}
use Rattle.definitions.specs.Lists.{is_empty}
use Rattle.definitions.specs.declared.frames.TurnFrame.{TurnFrame}
use Rattle.definitions.specs.declared.logs.Entry.{Entry}
use Rattle.definitions.specs.Honest.{made_count}
use Rattle.definitions.specs.Needs.{needs, may_choose}
use Rattle.definitions.specs.Findings.{is_clean}
use Rattle.definitions.specs.Advance.{next_made}
use Rattle.socket_station.specs.Items.{Item}
use Rattle.peer_rules.specs.declared.arrivals.Arrival.{Arrival}
use Rattle.peer_rules.specs.declared.phases.Phase.TheVariants.{KeepFault}
use Rattle.loop_rules.specs.Licence.{all_is_read, all_is_given, all_is_shut, bytes_wait, is_waited_for, all_are_reached, all_is_played, is_licensed}
use Rattle.peer_rules.specs.Phases.{is_running}
use Rattle.loop_rules.specs.Views.{View}
use Rattle.loop_rules.proofs.Kept.{keeps_sorted}
use Rattle.ready_loop.specs.States.{LoopState, base_of, rest_of, view_of}
use Rattle.ready_loop.specs.Going.{IsIdle}
use Rattle.ready_loop.specs.Serving.{IsServing}
use Rattle.ready_loop.specs.Waiting.{waits_for}
use Rattle.ready_loop.proofs.Tests.{not_of}
use Rattle.ready_loop.proofs.Idle.{idle_view, all_kept}

-- ---- what the licence reads of the log

waits_same : (m : LoopState) → IsIdle m → is_waited_for (base_of m) ≡ waits_for m
waits_same m w = ap (λ (h : List Entry). not (is_empty (needs m.peer.game m.peer.me h)) || bytes_wait (made_count h) m.table) (all_kept m w.kept)

played_same : (m : LoopState) → IsIdle m → all_is_played (base_of m) ≡
    (not (may_choose m.peer.game m.peer.me m.peer.entries) && is_none (next_made m.peer.game m.peer.me m.peer.entries) && is_clean m.peer.game m.peer.entries && (m.synced == length m.peer.entries))
played_same m w = ap (λ (h : List Entry). not (may_choose m.peer.game m.peer.me h) && is_none (next_made m.peer.game m.peer.me h) && is_clean m.peer.game h && (m.synced == length h)) (all_kept m w.kept)

-- ---- a poll is licensed

pub record MayWait (items : List Item) (m : LoopState) : Type 0 where
  pub serving : IsServing items m
  pub chosen : may_choose m.peer.game m.peer.me m.peer.entries ≡ false
  pub read : all_is_read m.table ≡ true
  pub given : all_is_given (made_count m.peer.entries) m.table ≡ true
  pub shut : all_is_shut m.table ≡ true

pub licensed : (items : List Item) (m : LoopState) → MayWait items m → waits_for m ≡ true → all_are_reached m.peer.me m.table ≡ true → is_licensed (view_of m) ≡ true
licensed items m w waits reached =
    ap is_licensed (idle_view m idle)
    ∙ and_from _ _ (and_from _ _ (and_from _ _ (and_from _ _ (and_from _ _ (and_from _ _
    (ap is_running idle.running)
    w.read)
    (ap (λ (h : List Entry). all_is_given (made_count h) m.table) (all_kept m idle.kept) ∙ w.given))
    (and_from _ _ (ap (is_empty {X = Arrival}) idle.waiting) w.shut))
    (waits_same m idle ∙ waits))
    reached)
    (played_same m idle ∙ and_from _ _ (and_from _ _ (and_from _ _ (ap not w.chosen) (ap (λ (o : Option TurnFrame). is_none o) w.serving.steady.made)) w.serving.clean) (eq-eqb m.synced (length m.peer.entries) (w.serving.synced ∙ idle.kept)))
  where
    idle : IsIdle m
    idle = w.serving.steady.idle

-- ---- or not

no_of : (b : Bool) → (b ≡ true → ⊥) → b ≡ false
no_of true n = absurd (n refl)
no_of false n = refl

abbrev Parts : View → Type 0
Parts v = (is_running v.phase ≡ true) × (is_waited_for v ≡ true) × (all_is_played v ≡ true)

licence_parts : (v : View) → is_licensed v ≡ true → Parts v
licence_parts v e =
    let a = and_parts _ _ e in
    let b = and_parts _ _ a.0 in
    let c = and_parts _ _ b.0 in
    let d = and_parts _ _ c.0 in
    let f = and_parts _ _ d.0 in
    let g = and_parts _ _ f.0 in
    (g.0, c.1, a.1)

pub not_waiting : (m : LoopState) → IsIdle m → waits_for m ≡ false → is_licensed (view_of m) ≡ false
not_waiting m w none = ap is_licensed (idle_view m w) ∙ no_of (is_licensed (base_of m)) (λ e. false≢true (sym (waits_same m w ∙ none) ∙ (licence_parts (base_of m) e).1))

pub not_running : (m : LoopState) → m.phase ≡ KeepFault → is_licensed (view_of m) ≡ false
not_running m f = no_of (is_licensed (view_of m)) (λ e. false≢true (sym (ap is_running ((keeps_sorted (rest_of m) (base_of m)).phase ∙ f)) ∙ (licence_parts (view_of m) e).0))

pub not_clean : (m : LoopState) → IsIdle m → is_clean m.peer.game m.peer.entries ≡ false → is_licensed (view_of m) ≡ false
not_clean m w un = ap is_licensed (idle_view m w) ∙ no_of (is_licensed (base_of m)) (λ e.
    (let p = sym (played_same m w) ∙ (licence_parts (base_of m) e).2 in
    let a = and_parts _ _ p in
    false≢true (sym un ∙ (and_parts _ _ a.0).1)))

pub still_chooses : (m : LoopState) → IsIdle m → may_choose m.peer.game m.peer.me m.peer.entries ≡ true → is_licensed (view_of m) ≡ false
still_chooses m w may = ap is_licensed (idle_view m w) ∙ no_of (is_licensed (base_of m)) (λ e.
    (let p = sym (played_same m w) ∙ (licence_parts (base_of m) e).2 in
    let a = and_parts _ _ p in
    let b = and_parts _ _ a.0 in
    false≢true (sym (not_of (may_choose m.peer.game m.peer.me m.peer.entries) (and_parts _ _ b.0).0) ∙ may)))
