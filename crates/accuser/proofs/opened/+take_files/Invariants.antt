use Rattle.std.proofs.Common.{length}
use Rattle.accuser.proofs.opened.+take_files.Given as goal

abbrev pub decreases-take_files : goal.decreases-take_files
decreases-take_files g l = length l.names.now
