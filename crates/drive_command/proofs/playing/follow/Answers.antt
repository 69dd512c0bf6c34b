use Rattle.std.proofs.Common.{[], ap, ◌∙◌}
use Rattle.std.specs.Prelude.{not}
use Rattle.definitions.specs.Findings.{is_clean}
use Rattle.peer_core.specs.Views.{PeerState}
use Rattle.run_frame.proofs.Frames.{plays_behind, plays_cut}
use Rattle.drive_command.specs.Outcomes.{driven_from}
use Rattle.drive_command.proofs.LineOutcomes.{told_some}
use Rattle.drive_command.proofs.Plays.{caught_plays}
use Rattle.drive_command.proofs.playing.follow.Goals as goal

pub put_start-requires : goal.put_start-requires
put_start-requires g c = rw c.peer.ensures c.requires

pub returns-then-is_some-clause-text : goal.returns-then-is_some-clause-text
returns-then-is_some-clause-text g c =
    let found = told_some c.is_some.result _ (c.is_some.ensures ∙ c.finding.ensures.clean ∙ ap (λ (p : PeerState). not (is_clean p.game p.entries)) c.peer-in-Ok.ensures) c.if-is_some.true in
    plays_behind _ _ _ _ _ _ (driven_from c.args.driver.now) _ c.end_caught.result (rw c.peer.ensures at c.in-Ok.ensures) (caught_plays _ _ _ _ [] found c.end_caught.result c.end_caught.ensures)

pub returns-else-is_some-clause-text : goal.returns-else-is_some-clause-text
returns-else-is_some-clause-text g c =
    plays_behind _ _ _ _ _ _ (driven_from c.args.driver.now) _ c.answer_lines.result (rw c.peer.ensures at c.in-Ok.ensures) (rw c.new-reader.ensures at c.answer_lines.ensures)

pub returns-in-Err-clause-text : goal.returns-in-Err-clause-text
returns-in-Err-clause-text g c = rw c.from.ensures (plays_cut _ _ _ _ (driven_from c.args.driver.now) _ (rw c.peer.ensures at c.in-Err.ensures))
