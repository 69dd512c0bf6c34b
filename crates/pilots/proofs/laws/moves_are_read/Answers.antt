use Rattle.std.proofs.Common.{refl}
use Rattle.pilots.specs.Scripts.{moves_text}
use Rattle.pilots.proofs.Scripts.{script_again}
use Rattle.pilots.proofs.laws.moves_are_read.Goals as goal

pub returns : goal.returns
returns c turns moves count fits = script_again turns (moves_text moves) moves (record { count = count; fits = fits; text_is = refl })
