use Rattle.std.proofs.Common.{◌≡◌, drop, map}
use Rattle.std.specs.List.{list_all}
use Rattle.station.specs.Words.{is_word}
use Rattle.station.proofs.texts.are_words.Given as goal

abbrev pub invariant-loop-word : goal.invariant-loop-word
invariant-loop-word l = list_all is_word (map (λ w. w.items) (drop l.word-index l.words)) ≡ list_all is_word (map (λ w. w.items) l.words)
