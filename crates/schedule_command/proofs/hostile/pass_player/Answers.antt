use Rattle.schedule_command.proofs.Named.{named_one, unnamed_one}
use Rattle.std.proofs.Common.{sym}
use Rattle.schedule_command.proofs.hostile.pass_player.Goals as goal

pub returns-in-Some : goal.returns-in-Some
returns-in-Some c = λ qs. rw c.with_player.ensures (named_one c.args.player qs c.args.hostile c.args.text.now _ (sym c.in-Some.ensures))

pub returns-in-None : goal.returns-in-None
returns-in-None c = λ qs. unnamed_one c.args.player qs c.args.hostile c.args.text.now (sym c.in-None.ensures)
