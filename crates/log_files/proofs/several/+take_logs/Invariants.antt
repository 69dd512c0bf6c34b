use Rattle.std.proofs.Common.{length, ◌≡◌, ◌<◌, ◌≤◌, ◌+◌, ℕ, map, ◌-◌, ◌*◌}
use Rattle.log_files.specs.Several.{TakesFiles}
use Rattle.log_files.specs.Taken.{IsUntaken}
use Rattle.log_files.proofs.several.+take_logs.Given as goal

-- proposed from what the function passes where it calls itself
abbrev pub decreases-take_logs : goal.decreases-take_logs
decreases-take_logs g l = length l.names.now
