use Rattle.std.proofs.Common.{arith, ap, sym, ◌∙◌, ◌<◌, ◌≡◌, length, List, ℕ}
use Rattle.definitions.specs.declared.openings.Opening.{Opening}
use Rattle.grid_world.proofs.Reveals.{ahead_least}
use Rattle.peer_core.specs.Scoring.{own_move}
use Rattle.peer_core.proofs.Counted.{chosen_few, ends_unrevealed, ends_unsettled, own_move_is, revealed_few, revealed_is}
use Rattle.peer_core.proofs.OwnTracks.{own_track_at, own_tracks_reach}
use Rattle.peer_core.proofs.Ready.{stage_open}
use Rattle.peer_core.proofs.settling.settle.Goals as goal

-- the turn is resolved of the owner
below : (turn revealed count : ℕ) → turn < revealed → revealed ≡ count → turn < count
below turn revealed count lt e = omega arith

pub bounds-tracks-turn : goal.bounds-tracks-turn
bounds-tracks-turn c =
    let e = revealed_is c.args.session.now c.args.me c.args.made c.reveals_below-revealed.result c.args.entries.now c.facts.ensures c.requires.honest c.requires.made c.reveals_below-revealed.ensures in
    own_tracks_reach c.args.session.now c.args.me c.loop-turn.turn c.args.entries.now c.args.tracks.now (ahead_least c.args.session.now c.facts.ensures) c.requires.honest c.requires.tracks (omega (arith, e, c.loop-turn-test.true))

pub is_settled-requires-clause-within : goal.is_settled-requires-clause-within
is_settled-requires-clause-within c =
    let e = revealed_is c.args.session.now c.args.me c.args.made c.reveals_below-revealed.result c.args.entries.now c.facts.ensures c.requires.honest c.requires.made c.reveals_below-revealed.ensures in
    let few = revealed_few c.args.session.now c.args.me c.args.entries.now c.facts.ensures c.requires.honest in
    let most = chosen_few c.args.session.now c.args.me c.args.entries.now c.facts.ensures c.requires.honest in
    omega (arith, e, few, most, c.loop-turn-test.true)

pub is_settled-requires-clause-revealed : goal.is_settled-requires-clause-revealed
is_settled-requires-clause-revealed c =
    let e = revealed_is c.args.session.now c.args.me c.args.made c.reveals_below-revealed.result c.args.entries.now c.facts.ensures c.requires.honest c.requires.made c.reveals_below-revealed.ensures in
    below c.loop-turn.turn c.reveals_below-revealed.result _ c.loop-turn-test.true e

pub is_settled-requires-clause-at : goal.is_settled-requires-clause-at
is_settled-requires-clause-at c =
    let e = revealed_is c.args.session.now c.args.me c.args.made c.reveals_below-revealed.result c.args.entries.now c.facts.ensures c.requires.honest c.requires.made c.reveals_below-revealed.ensures in
    own_track_at c.args.session.now c.args.me c.loop-turn.turn c.args.entries.now c.args.tracks.now (record { at = record { x = 0; y = 0 }; charge = 0 }) (ahead_least c.args.session.now c.facts.ensures) c.requires.honest
    c.requires.tracks (omega (arith, e, c.loop-turn-test.true))

pub is_settled-requires-clause-open : goal.is_settled-requires-clause-open
is_settled-requires-clause-open c =
    let e = revealed_is c.args.session.now c.args.me c.args.made c.reveals_below-revealed.result c.args.entries.now c.facts.ensures c.requires.honest c.requires.made c.reveals_below-revealed.ensures in
    stage_open c.args.session.now c.args.me c.loop-turn.turn c.args.entries.now c.args.tracks.now (record { at = record { x = 0; y = 0 }; charge = 0 }) c.facts.ensures c.requires.owner c.requires.honest c.requires.tracks
    (omega (arith, e, c.loop-turn-test.true))

pub returns-then-not-is_settled-clause-counted : goal.returns-then-not-is_settled-clause-counted
returns-then-not-is_settled-clause-counted c =
    ends_unsettled c.args.session.now c.args.me c.loop-turn.turn c.args.entries.now c.loop-turn.settling c.loop-turn.invariant.counting c.loop-turn.invariant.turns
    (sym c.is_settled.ensures.settled ∙ c.if-not-is_settled.true)

pub bounds-openings-turn : goal.bounds-openings-turn
bounds-openings-turn c =
    let e = revealed_is c.args.session.now c.args.me c.args.made c.reveals_below-revealed.result c.args.entries.now c.facts.ensures c.requires.honest c.requires.made c.reveals_below-revealed.ensures in
    let few = revealed_few c.args.session.now c.args.me c.args.entries.now c.facts.ensures c.requires.honest in
    let l = ap (λ (os : List Opening). length os) c.requires.openings in
    omega (arith, e, few, l, c.loop-turn-test.true)

pub count-requires-clause-left : goal.count-requires-clause-left
count-requires-clause-left c =
    let e = revealed_is c.args.session.now c.args.me c.args.made c.reveals_below-revealed.result c.args.entries.now c.facts.ensures c.requires.honest c.requires.made c.reveals_below-revealed.ensures in
    let few = revealed_few c.args.session.now c.args.me c.args.entries.now c.facts.ensures c.requires.honest in
    let most = chosen_few c.args.session.now c.args.me c.args.entries.now c.facts.ensures c.requires.honest in
    omega (arith, e, few, most, c.loop-turn.invariant.turns, c.loop-turn-test.true)

pub count-requires-clause-own : goal.count-requires-clause-own
count-requires-clause-own c =
    let e = revealed_is c.args.session.now c.args.me c.args.made c.reveals_below-revealed.result c.args.entries.now c.facts.ensures c.requires.honest c.requires.made c.reveals_below-revealed.ensures in
    own_move_is c.args.session.now c.args.me c.loop-turn.turn c.args.entries.now c.args.openings.now _ (ahead_least c.args.session.now c.facts.ensures) c.requires.honest c.requires.openings
    (below c.loop-turn.turn c.reveals_below-revealed.result _ c.loop-turn-test.true e)
    ∙ ap (own_move c.args.session.now c.args.me c.args.entries.now) (sym c.loop-turn.invariant.turns)

pub returns-clause-counted : goal.returns-clause-counted
returns-clause-counted c =
    let e = revealed_is c.args.session.now c.args.me c.args.made c.reveals_below-revealed.result c.args.entries.now c.facts.ensures c.requires.honest c.requires.made c.reveals_below-revealed.ensures in
    ends_unrevealed c.args.session.now c.args.me c.loop-turn.turn c.args.entries.now c.loop-turn.settling c.facts.ensures c.requires.honest c.loop-turn.invariant.counting c.loop-turn.invariant.turns
    (omega (arith, e, c.loop-turn-test.false))
