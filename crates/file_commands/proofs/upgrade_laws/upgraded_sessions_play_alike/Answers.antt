use Rattle.file_commands.proofs.Alike.{upgraded_alike}
use Rattle.file_commands.proofs.upgrade_laws.upgraded_sessions_play_alike.Goals as goal

pub returns : goal.returns
returns c = upgraded_alike
