use Rattle.watch_command.proofs.ending.put_end.Goals as goal

pub returns-in-PollFault : goal.returns-in-PollFault
returns-in-PollFault g c =
    let view = c.args.watch.now.view in
    rw c.in-PollFault.is (c.put_poll_fault.ensures view.setting.game view.streams)
