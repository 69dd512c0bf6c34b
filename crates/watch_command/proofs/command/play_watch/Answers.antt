use Rattle.std.proofs.Common.{inr}
use Rattle.watch_command.proofs.Ended.{played}
use Rattle.watch_command.proofs.command.play_watch.Goals as goal

pub returns : goal.returns
returns g c =
    inr (played c.args.source _ _ _ _ c.put_end.result c.watch_out-watched.result c.in-Ok.watch
    c.watch_out-watched.new.watch c.in-Ok.ensures c.watch_out-watched.ensures c.put_end.ensures)
