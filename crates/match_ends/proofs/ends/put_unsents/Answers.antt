use Rattle.std.proofs.Common.{arith, ap, ◌+◌, ◌-◌, ◌<◌, ◌≡◌, ◌∙◌}
use Rattle.std.proofs.lemmas.Grind.{common_steps}
use Rattle.definitions.specs.World.{players_of}
use Rattle.line_io.proofs.Writing.{puts_cut, underway_cut, underway_end, underway_more}
use Rattle.match_ends.specs.Ends.{unsent_to, unsents_text}
use Rattle.match_ends.proofs.Unsents.{unsents_more, unsents_none}
use Rattle.match_ends.proofs.ends.put_unsents.Goals as goal

pub returns-in_err-put_unsent_to : goal.returns-in_err-put_unsent_to
returns-in_err-put_unsent_to g c =
    let p = g.L.Played.peer c.args.played.now in
    let held = g.L.Played.held c.args.played.now in
    let q = c.players.player in
    let n = players_of p.game in
    let below : q < n = grind (arith, common_steps) in
    puts_cut _ _ _ c.from_residual.result c.from_residual.ensures.0
    (underway_cut _ _ _ _ _ (unsent_to p held q) (unsents_text p held (q + 1) (n - (q + 1))) c.players.invariant (unsents_more p held q n below) c.in_err-put_unsent_to.ensures)

pub players-preserved : goal.players-preserved
players-preserved g c =
    let p = g.L.Played.peer c.args.played.now in
    let held = g.L.Played.held c.args.played.now in
    let q = c.players.player in
    let n = players_of p.game in
    let below : q < n = grind (arith, common_steps) in
    underway_more _ _ _ _ _ (unsent_to p held q) (unsents_text p held (q + 1) (n - (q + 1))) c.players.invariant (unsents_more p held q n below) c.in_ok-put_unsent_to.ensures

pub returns : goal.returns
returns g c =
    let p = g.L.Played.peer c.args.played.now in
    let held = g.L.Played.held c.args.played.now in
    let none : players_of p.game - c.players.player ≡ 0 = grind (arith, common_steps) in
    underway_end _ _ _ _ c.players.invariant (ap (unsents_text p held c.players.player) none ∙ unsents_none p held c.players.player)
