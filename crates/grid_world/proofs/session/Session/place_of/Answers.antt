use Rattle.std.proofs.Common.{◌∙◌, arith}
use Rattle.definitions.proofs.Streams.{commit_place-past, reveal_place-past}
use Rattle.definitions.proofs.Slots.{commit_place_of, reveal_place_of}
use Rattle.grid_world.proofs.session.Session.place_of.Goals as goal

pub returns-then-turn-turns : goal.returns-then-turn-turns
returns-then-turn-turns c = commit_place_of _ _ c.in-Commit.player c.in-Commit.turn _ c.in-Commit.digest c.in-Commit.is (c.from.ensures ∙ c.commit_place.ensures.place)

pub returns-else-turn-turns : goal.returns-else-turn-turns
returns-else-turn-turns c =
    let past = commit_place-past c.args.self.now c.in-Commit.turn (omega arith) in
    commit_place_of _ _ c.in-Commit.player c.in-Commit.turn _ c.in-Commit.digest c.in-Commit.is (omega arith)

pub returns-then-turn-turns-2 : goal.returns-then-turn-turns-2
returns-then-turn-turns-2 c = reveal_place_of _ _ c.in-Reveal.player c.in-Reveal.turn _ c.in-Reveal.mv c.in-Reveal.nonce c.in-Reveal.is (c.from-then-turn-turns-2.ensures ∙ c.reveal_place.ensures.place)

pub returns-else-turn-turns-2 : goal.returns-else-turn-turns-2
returns-else-turn-turns-2 c =
    let past = reveal_place-past c.args.self.now c.in-Reveal.turn (omega arith) in
    reveal_place_of _ _ c.in-Reveal.player c.in-Reveal.turn _ c.in-Reveal.mv c.in-Reveal.nonce c.in-Reveal.is (omega arith)
