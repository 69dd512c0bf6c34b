use Rattle.std.proofs.Common.{ap}
use Rattle.run_frame.specs.Outside.{with_input}
use Rattle.drive_command.specs.Words.{driving_said}
use Rattle.drive_command.proofs.Driving.{played, unbegun}
use Rattle.drive_command.proofs.command.run_drive.Goals as goal

pub returns-in-Ok : goal.returns-in-Ok
returns-in-Ok g c = λ rest.
    played rest _ _ _ _ _ _ (driving_said c.args.words) c.in-Ok.begun c.drive.result c.in-Ok.ensures c.drive.ensures.text
    (λ found. ap g.I.Source.state (c.drive.ensures.untouched found))

pub returns-in-Err : goal.returns-in-Err
returns-in-Err g c = λ rest.
    unbegun (with_input rest (g.I.Source.state c.args.input.now) (g.O.Sink.state c.args.out.now) (g.H.Shelf.state c.args.shelf.now)) _ _ _ (driving_said c.args.words) c.in-Err.status c.in-Err.ensures
