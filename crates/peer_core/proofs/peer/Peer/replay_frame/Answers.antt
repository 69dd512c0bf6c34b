use Rattle.std.proofs.Common.{◌≡◌, ◌∙◌, List, [], ◌∷◌, ◌++◌, ap, sym, false, true}
use Rattle.definitions.specs.declared.logs.Entry.{Entry}
use Rattle.definitions.specs.declared.logs.Entry.TheVariants.{Made}
use Rattle.definitions.specs.declared.frames.TurnFrame.{TurnFrame}
use Rattle.definitions.specs.Honest.{allowed}
use Rattle.definition_laws.proofs.Alike.{frame_eq_true}
use Rattle.peer_core.specs.Views.{PeerState}
use Rattle.grid_world.proofs.Reveals.{ahead_least}
use Rattle.peer_core.proofs.Replaying.{added_if, other_frame, this_frame}
use Rattle.peer_core.proofs.peer.Peer.replay_frame.Goals as goal
use Rattle.definition_laws.proofs.ForPeers.{none_allowed}

-- no frame may come where none is next
none : (c : goal.In_default) → allowed c.args.self.now.game c.args.self.now.me c.args.self.now.entries (Made c.args.frame.now) ≡ false
none c =
    let stands = c.next_made.ensures.facts in
    none_allowed c.args.self.now.game c.args.self.now.me c.args.self.now.entries c.args.frame.now (ahead_least c.args.self.now.game stands.session) stands.honest (sym c.next_made.ensures.frame ∙ c.in_default.is)

-- another frame than the next may not come
other : (c : goal.Then-not-is_frame) → allowed c.args.self.now.game c.args.self.now.me c.args.self.now.entries (Made c.args.frame.now) ≡ false
other c =
    let stands = c.next_made.ensures.facts in
    other_frame c.args.self.now.game c.args.self.now.me c.args.self.now.entries c.args.frame.now c.in-Some.next (ahead_least c.args.self.now.game stands.session) stands.honest
    (sym c.next_made.ensures.frame ∙ c.in-Some.is) (sym c.is_frame.ensures ∙ c.if-not-is_frame.true)

pub returns-in_default-clause-allowed : goal.returns-in_default-clause-allowed
returns-in_default-clause-allowed c = sym (none c)

pub returns-in_default-clause-log : goal.returns-in_default-clause-log
returns-in_default-clause-log c =
    let with_log : List Entry → PeerState = λ h. record { game = c.args.self.now.game; me = c.args.self.now.me; entries = h } in
    ap with_log (added_if c.args.self.now.game c.args.self.now.me c.args.self.now.entries (Made c.args.frame.now) false (none c))

pub returns-then-not-is_frame-clause-allowed : goal.returns-then-not-is_frame-clause-allowed
returns-then-not-is_frame-clause-allowed c = sym (other c)

pub returns-then-not-is_frame-clause-log : goal.returns-then-not-is_frame-clause-log
returns-then-not-is_frame-clause-log c =
    let with_log : List Entry → PeerState = λ h. record { game = c.args.self.now.game; me = c.args.self.now.me; entries = h } in
    ap with_log (added_if c.args.self.now.game c.args.self.now.me c.args.self.now.entries (Made c.args.frame.now) false (other c))

pub returns-clause-allowed : goal.returns-clause-allowed
returns-clause-allowed c =
    sym (this_frame c.args.self.now.game c.args.self.now.me c.args.self.now.entries c.args.frame.now c.in-Some.next (sym c.next_made.ensures.frame ∙ c.in-Some.is) (sym c.is_frame.ensures ∙ c.if-not-is_frame.false))

pub returns-clause-log : goal.returns-clause-log
returns-clause-log c =
    let may = this_frame c.args.self.now.game c.args.self.now.me c.args.self.now.entries c.args.frame.now c.in-Some.next (sym c.next_made.ensures.frame ∙ c.in-Some.is) (sym c.is_frame.ensures ∙ c.if-not-is_frame.false) in
    let same : c.in-Some.next ≡ c.args.frame.now = frame_eq_true c.in-Some.next c.args.frame.now (sym c.is_frame.ensures ∙ c.if-not-is_frame.false) in
    let with_log : List Entry → PeerState = λ h. record { game = c.args.self.now.game; me = c.args.self.now.me; entries = h } in
    let with_frame : TurnFrame → PeerState = λ f. with_log (c.args.self.now.entries ++ Made f ∷ []) in
    c.make.ensures ∙ ap with_frame same ∙ ap with_log (added_if c.args.self.now.game c.args.self.now.me c.args.self.now.entries (Made c.args.frame.now) true may)
