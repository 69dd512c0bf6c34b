use Rattle.std.proofs.Common.{◌≡◌}
use Rattle.make_command.specs.Matches.{words_of}
use Rattle.make_command.proofs.playing.draw_nonce.Given as goal

abbrev pub invariant-loop-word : goal.invariant-loop-word
invariant-loop-word l = (l.words.items, l.chance) ≡ words_of l.word l.initial.chance
