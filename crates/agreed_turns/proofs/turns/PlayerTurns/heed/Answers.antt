use Rattle.std.proofs.Common.{List, ap, arith, length, subst, sym, ℕ, ◌<◌, ◌∙◌, ◌≡◌}
use Rattle.std.proofs.lemmas.Option.{same_Some}
use Rattle.frame_index.specs.Streams.{IsReadFrom}
use Rattle.definitions.specs.declared.frames.TurnFrame.{TurnFrame}
use Rattle.definitions.specs.Held.{first_commit}
use Rattle.agreed_turns.specs.declared.heads.Head.{Head}
use Rattle.agreed_turns.specs.Heads.{Shows}
use Rattle.agreed_turns.specs.States.{PlayerState}
use Rattle.agreed_turns.proofs.Heeded.{not_met, read_of, sound_set, was_met}
use Rattle.agreed_turns.proofs.GoingOn.{shown_by}
use Rattle.agreed_turns.proofs.turns.PlayerTurns.heed.Goals as goal

pub returns-then-not-is_met_by-clause-heeded : goal.returns-then-not-is_met_by-clause-heeded
returns-then-not-is_met_by-clause-heeded c before all behind h shows parts there at_end =
    let sound = c.requires.sound.heads in
    let many : c.args.log < length c.args.self.now.heads = omega arith in
    let read = read_of c.self.inside.heads.items c.args.self.now.heads c.from.result c.args.log c.index.result.now (ap (λ (p : PlayerState). p.heads) c.self.view_is) c.from.ensures many c.index.ensures in
    not_met c.args.session.now c.args.player c.args.log before all c.args.frame.now c.args.self.now h c.index.result.now there read at_end
    (sym (c.is_met_by.ensures shows.logs shows.stands) ∙ c.if-not-is_met_by.true)

pub read_on-stream-requires-clause-track : goal.read_on-stream-requires-clause-track
read_on-stream-requires-clause-track c =
    let sound = c.requires.sound.heads in
    let many : c.args.log < length c.args.self.now.heads = omega arith in
    let read = read_of c.self.inside.heads.items c.args.self.now.heads c.from.result c.args.log c.index.result.now (ap (λ (p : PlayerState). p.heads) c.self.view_is) c.from.ensures many c.index.ensures in
    c.requires.sound.tracks c.args.log c.index.result.now read

pub returns-clause-sound : goal.returns-clause-sound
returns-clause-sound c =
    sound_set c.args.session.now c.from-log.result c.args.self.now c.self.inside.heads.items c.self.inside.accords c.read_on-stream.new.accords _ c.self.view_is c.requires.sound
    c.read_on-stream.ensures.track c.read_on-stream.ensures.accords

pub returns-clause-heeded : goal.returns-clause-heeded
returns-clause-heeded c before all behind h shows parts there at_end =
    let sound = c.requires.sound.heads in
    let many : c.args.log < length c.args.self.now.heads = omega arith in
    let read = read_of c.self.inside.heads.items c.args.self.now.heads c.from.result c.args.log c.index.result.now (ap (λ (p : PlayerState). p.heads) c.self.view_is) c.from.ensures many c.index.ensures in
    let game = c.args.session.now in
    let q = c.args.player in
    let at_log = subst (λ (n : ℕ). Shows game c.args.index.now n q all) (sym c.from-log.ensures) shows in
    let from = subst (λ (x : Head). IsReadFrom game q all x.stream) (same_Some h c.index.result.now (sym there ∙ read)) at_end.read in
    was_met game q c.args.log c.from-log.result before all behind c.args.frame.now c.args.self.now c.self.inside.heads.items c.self.inside.accords c.read_on-stream.new.accords h c.index.result.now
    c.read_on-stream.result c.commit_in-held.result c.self.view_is c.from-log.ensures parts there read (c.read_on-stream.ensures.on all at_log from) (c.read_on-stream.ensures.ends all at_log from)
    (shown_by (λ (gs : List TurnFrame). c.commit_in-held.result ≡ first_commit gs c.read_on-stream.result.resolved) at_log (λ logs g index at. c.commit_in-held.ensures game logs g index at))
