use Rattle.std.proofs.Common.{arith, length, refl, ◌<◌}
use Rattle.agreed_turns.proofs.Entered.{frame_beyond, frame_heeded, sound_player}
use Rattle.agreed_turns.proofs.Heeded.{read_of}
use Rattle.agreed_turns.proofs.agreed.AgreedTurns.heed_frame.Goals as goal

pub heed-requires-clause-sound : goal.heed-requires-clause-sound
heed-requires-clause-sound c =
    let many = c.self.invariant.many in
    let players = c.players.ensures.value in
    let lt = c.if-player-players.true in
    let within : c.args.player < length c.self.inside.players.items = omega arith in
    c.self.invariant.each c.args.player c.index_mut.result.now (read_of c.self.inside.players.items c.self.inside.players.items c.from.result c.args.player _ refl c.from.ensures within c.index_mut.ensures.value)

pub invariant_of-self : goal.invariant_of-self
invariant_of-self c = sound_player c.self.inside.session c.self.inside.players.items c.from.result c.heed.new.self c.self.invariant c.heed.ensures.sound

pub returns-then-player-players-clause-heeds : goal.returns-then-player-players-clause-heeds
returns-then-player-players-clause-heeds c =
    let many = c.self.invariant.many in
    let players = c.players.ensures.value in
    let lt = c.if-player-players.true in
    let within : c.args.player < length c.self.inside.players.items = omega arith in
    frame_heeded c.self.inside.session c.args.index.now c.args.player c.from.result c.args.log c.args.frame.now c.args.self.now c.self.inside.players.items c.index_mut.result.now c.heed.new.self
    c.self.view_is c.from.ensures (read_of c.self.inside.players.items c.self.inside.players.items c.from.result c.args.player _ refl c.from.ensures within c.index_mut.ensures.value) c.heed.ensures.heeded

pub returns-else-player-players-clause-heeds : goal.returns-else-player-players-clause-heeds
returns-else-player-players-clause-heeds c =
    let many = c.self.invariant.many in
    let players = c.players.ensures.value in
    let le = c.if-player-players.false in
    frame_beyond c.self.inside.session c.args.index.now c.args.player c.args.log c.args.frame.now c.args.self.now c.self.inside.players.items c.self.view_is (omega arith)
