use Rattle.std.proofs.Common.{List, [], ap, arith, length, length-append, replicate, subst, sym, ◌+◌, ◌∙◌, ◌∷◌}
use Rattle.definitions.specs.World.{Game, players_of}
use Rattle.agreed_turns.specs.States.{AreSound, IsOf, PlayerState}
use Rattle.agreed_turns.proofs.Started.{AreStarted, started_more, started_none, started_of, started_sound}
use Rattle.agreed_turns.proofs.agreed.AgreedTurns.new.Goals as goal

pub loop-player-init : goal.loop-player-init
loop-player-init c = record {
  many = ap length c.in_ok-players.ensures.items;
  each = subst (λ (ps : List PlayerState). AreStarted c.args.session.now ps) (sym c.in_ok-players.ensures.items) (started_none c.args.session.now);
}

pub loop-player-preserved : goal.loop-player-preserved
loop-player-preserved c =
    let items = c.in_ok-push.ensures.items in
    record {
      many = ap length items ∙ length-append c.loop-player.players.items (c.in_ok-new.field-0 ∷ []) ∙ ap (λ n. n + 1) c.loop-player.invariant.many;
      each = subst (λ (ps : List PlayerState). AreStarted c.args.session.now ps) (sym items)
          (started_more c.args.session.now c.loop-player.players.items c.loop-player.player c.in_ok-new.field-0 c.loop-player.invariant.many c.loop-player.invariant.each c.in_ok-new.ensures.sound c.in_ok-new.ensures.new);
    }

pub invariant_of-result : goal.invariant_of-result
invariant_of-result c =
    let many = c.loop-player.invariant.many in
    let players = c.players-player-end.ensures.value in
    let ge = c.loop-player-test.false in
    let le = c.loop-player.auto.player-end in
    subst (λ (g : Game). AreSound g c.loop-player.players.items) (sym c.in_ok-copy.ensures)
    (started_sound c.args.session.now c.loop-player.players.items (omega arith) c.loop-player.invariant.each)

pub returns : goal.returns
returns c =
    subst (λ (g : Game). IsOf c.args.session.now (replicate (players_of c.args.session.now) []) (record { game = g; players = c.loop-player.players.items })) (sym c.in_ok-copy.ensures)
    (started_of c.args.session.now c.loop-player.players.items c.loop-player.invariant.each)
