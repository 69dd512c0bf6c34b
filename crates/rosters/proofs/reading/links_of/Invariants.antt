use Rattle.std.proofs.Common.{◌≡◌, Ok}
use Rattle.text_lines.specs.Lines.{ended_lines_of}
use Rattle.rosters.specs.Reading.{links_at}
use Rattle.rosters.proofs.reading.links_of.Given as goal

abbrev pub invariant-loop-player : goal.invariant-loop-player
invariant-loop-player l = links_at l.me l.player (ended_lines_of l.text) ≡ Ok (l.links.items, ended_lines_of l.rest)
