use Rattle.std.proofs.Common.{◌≡◌, ◌<◌, ◌+◌, ◌-◌, List, ℕ, ap, arith, sym, ◌∙◌}
use Rattle.std.specs.List.{range_with_len}
use Rattle.definitions.specs.World.{players_of}
use Rattle.schedule_command.specs.Hostile.{named_among}
use Rattle.schedule_command.proofs.Named.{players_more}
use Rattle.schedule_command.proofs.hostile.read_named.Goals as goal

pub players-preserved : goal.players-preserved
players-preserved c =
    let n = players_of c.args.session.now in
    let below : c.players.player < n = omega (arith, c.players-test.true, c.players-player-end.ensures.value) in
    c.players.invariant ∙ ap (λ (qs : List ℕ). named_among qs c.players.hostile c.players.rest.now) (players_more c.players.player n below) ∙ c.pass_player-passed.ensures (range_with_len (c.players.player + 1) (n - (c.players.player + 1)))

pub returns : goal.returns
returns c =
    let n = players_of c.args.session.now in
    let none : n - c.players.player ≡ 0 = omega (arith, c.players-test.false, c.players-player-end.ensures.value) in
    c.whole_set.ensures ∙ sym (c.players.invariant ∙ ap (λ (k : ℕ). named_among (range_with_len c.players.player k) c.players.hostile c.players.rest.now) none)
