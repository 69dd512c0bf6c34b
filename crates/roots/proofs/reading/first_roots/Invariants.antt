use Rattle.std.proofs.Common.{◌≡◌, Ok}
use Rattle.text_lines.specs.Lines.{ended_lines_of}
use Rattle.roots.specs.Reading.{first_roots}
use Rattle.roots.proofs.reading.first_roots.Given as goal

abbrev pub invariant-loop-player : goal.invariant-loop-player
invariant-loop-player l = first_roots l.player (ended_lines_of l.text) ≡ Ok (l.roots.items, ended_lines_of l.rest)
