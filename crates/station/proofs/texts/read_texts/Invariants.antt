use Rattle.std.proofs.Common.{◌≡◌, ◌++◌, true, drop, map}
use Rattle.std.specs.List.{list_all}
use Rattle.station.specs.Words.{are_plain, is_word}
use Rattle.station.proofs.texts.read_texts.Given as goal

abbrev pub invariant-loop-word : goal.invariant-loop-word
invariant-loop-word l = record {
  read : map (λ t. t.now) l.texts.items ++ map (λ w. w.items) (drop l.word-index l.words) ≡ map (λ w. w.items) l.words;
  plain : are_plain (map (λ t. t.now) l.texts.items) ≡ true;
  words : list_all is_word (map (λ w. w.items) (drop l.word-index l.words)) ≡ list_all is_word (map (λ w. w.items) l.words);
}
