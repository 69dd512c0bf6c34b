use Rattle.std.proofs.Common.{◌≡◌, drop}
use Rattle.station.specs.Files.{content_in}
use Rattle.station.proofs.files.find.Given as goal

abbrev pub invariant-loop-file : goal.invariant-loop-file
invariant-loop-file l = content_in l.files l.name ≡ content_in (drop l.file-index l.files) l.name
