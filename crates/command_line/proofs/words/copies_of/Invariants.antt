use Rattle.std.proofs.Common.{◌≡◌, ◌++◌, drop, map}
use Rattle.command_line.proofs.words.copies_of.Given as goal

abbrev pub invariant-loop-text : goal.invariant-loop-text
invariant-loop-text l = record {
  copied : map (λ w. w.items) l.copies.items ++ map (λ t. t.now) (drop l.text-index l.texts) ≡ map (λ t. t.now) l.texts;
}
