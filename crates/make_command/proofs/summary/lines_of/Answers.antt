use Rattle.std.proofs.Common.{sym, ◌∙◌, ap, arith}
use Rattle.definitions.specs.World.{players_of}
use Rattle.make_command.specs.Audits.{world_line}
use Rattle.make_command.proofs.Printed.{line_more, line_none, none_of}
use Rattle.make_command.proofs.summary.lines_of.Goals as goal
use Rattle.make_command.proofs.summary.lines_of.Goals.{in-Some+in_ok-push, in_default}

pub loop-player-preserved : goal.loop-player-preserved
loop-player-preserved c =
    let q = c.loop-player.player in
    let f = world_line c.args.table.now.game c.args.table.now.logs in
    let test = c.loop-player-test.true in
    let many = c.players-player-end.ensures.value in
    let same = ap players_of c.session.ensures in
    let told = sym (c.requires.world_is q (omega (arith, test, many, same))) ∙ sym c.world.ensures in
    elim c.match-world.branch [
      | in-Some+in_ok-push w ↦
          line_more f q c.loop-player.lines.items c.match-world.lines.items w.in-Some.line c.loop-player.invariant (ap (λ v. v.items) w.lines-is ∙ w.in_ok-push.ensures.items) (told ∙ w.in-Some.is)
      | in_default w ↦
          line_none f q c.loop-player.lines.items c.match-world.lines.items c.loop-player.invariant (ap (λ v. v.items) w.lines-is) (told ∙ none_of c.world.result w.in_default.not-Some)
    ]
