use Rattle.std.proofs.Common.{List, ℕ, [], ◌∷◌, ◌++◌, ◌∙◌, ap, arith, replicate, refl}
use Rattle.std.specs.Prelude.{slice_index}
use Rattle.seal_keys.proofs.Parts.{put_behind}
use Rattle.seal_keys.proofs.values.secret_bytes.Goals as goal

pub returns : goal.returns
returns c =
    put_behind c.copy_from_slice.new.self c.copy_from_slice-2.new.self (replicate 6 0) 32 6 (omega arith) refl
    ∙ ap (λ (f : List ℕ). f ++ c.copy_from_slice-2.new.self) c.copy_from_slice.ensures.after
    ∙ ap (λ (s : List ℕ). c.args.seed.now ++ s)
    (c.copy_from_slice-2.ensures.after ∙ ap (λ (r : List ℕ). slice_index r 0 ∷ slice_index r 1 ∷ slice_index r 2 ∷ slice_index r 3 ∷ c.args.bit ∷ c.args.value ∷ []) c.to_be_bytes.ensures)
