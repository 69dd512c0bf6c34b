use Rattle.std.proofs.Common.{refl}
use Rattle.line_io.specs.Files.{content}
use Rattle.run_frame.specs.Outside.{with_input}
use Rattle.run_frame.proofs.Alone.{refused_works}
use Rattle.run_frame.proofs.SessionRead.{session_read}
use Rattle.schedule_command.specs.ScheduleLaw.{schedule_law}
use Rattle.schedule_command.proofs.ScheduleHolds.{schedule_holds}
use Rattle.schedule_command.proofs.Scheduled.{refused_end, scheduled, unscheduled}
use Rattle.schedule_command.proofs.command.run_schedule.Goals as goal

pub returns-in-Ok : goal.returns-in-Ok
returns-in-Ok g c = λ rest. scheduled rest _ _ _ _ _ _ _ _ c.play_schedule.result c.in-Ok.ensures c.play_schedule.ensures.text c.play_schedule.ensures.over

pub returns-in-Err : goal.returns-in-Err
returns-in-Err g c = λ rest.
    let name = c.args.session.now in
    let o = c.in-Err.ensures in
    refused_works (schedule_law name) (schedule_holds name) refl (with_input rest (g.I.Source.state c.args.input.now) (g.O.Sink.state c.args.out.now) (g.H.Shelf.state c.args.shelf.now)) _ _ _ _ (record { reads = session_read _ _ _ _ o; due = tt }) c.in-Err.status
    (λ contents input given. unscheduled _ input c.in-Err.status (o.due (content contents 0) (given 0))) o.fetched.counted (λ due d. refused_end due c.in-Err.status _ d)
