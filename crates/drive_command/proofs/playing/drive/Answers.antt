use Rattle.run_frame.proofs.Frames.{plays_behind, plays_cut}
use Rattle.drive_command.specs.Drive as D
use Rattle.drive_command.proofs.playing.drive.Goals as goal

pub returns-in-Ok-clause-text : goal.returns-in-Ok-clause-text
returns-in-Ok-clause-text g c =
    plays_behind _ _ _ _ _ _ (D.drive c.args.peer.game c.args.peer.me c.args.peer.entries) _ c.play.result c.in-Ok.ensures c.play.ensures.text

pub returns-in-Err-clause-text : goal.returns-in-Err-clause-text
returns-in-Err-clause-text g c = rw c.from.ensures (plays_cut _ _ _ _ (D.drive c.args.peer.game c.args.peer.me c.args.peer.entries) _ c.in-Err.ensures)
