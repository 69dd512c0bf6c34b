use Rattle.std.proofs.Common.{List, ℕ, ◌++◌, ◌∙◌, ap, arith, replicate, refl}
use Rattle.seal_keys.proofs.Parts.{put_behind}
use Rattle.seal_keys.proofs.values.pair_of.Goals as goal

pub returns : goal.returns
returns c =
    put_behind c.copy_from_slice.new.self c.copy_from_slice-2.new.self (replicate 32 0) 32 32 (omega arith) refl
    ∙ ap (λ (f : List ℕ). f ++ c.copy_from_slice-2.new.self) c.copy_from_slice.ensures.after ∙ ap (λ (s : List ℕ). c.args.first.now ++ s) c.copy_from_slice-2.ensures.after
