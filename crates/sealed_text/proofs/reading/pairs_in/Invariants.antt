use Rattle.std.proofs.Common.{◌≡◌, length}
use Rattle.text_lines.specs.Lines.{ended_lines_of}
use Rattle.seal_keys.specs.Seals.{seal_len}
use Rattle.sealed_text.specs.Reading.{pairs_at}
use Rattle.sealed_text.proofs.Loops.{AtPair}
use Rattle.sealed_text.proofs.reading.pairs_in.Given as goal

abbrev pub invariant-loop-rest : goal.invariant-loop-rest
invariant-loop-rest l =
    AtPair (seal_len l.session) l.frames.items l.seals.items (ended_lines_of l.rest) (pairs_at (seal_len l.session) 0 (ended_lines_of l.text)) × (length l.room ≡ seal_len l.session)

abbrev pub decreases-loop-rest : goal.decreases-loop-rest
decreases-loop-rest l = length l.rest
