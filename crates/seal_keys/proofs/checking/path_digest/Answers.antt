use Rattle.std.proofs.Common.{List, ℕ, ◌/◌, ◌^◌, ◌∙◌, ap, sym}
use Rattle.std.proofs.Math.Nat.{div-one}
use Rattle.sha2.specs.Sha256.{sha256}
use Rattle.seal_keys.specs.Seals.{beside, seal_path}
use Rattle.seal_keys.proofs.Paths.{index_up, seal_path_more, seal_path_none}
use Rattle.seal_keys.proofs.checking.path_digest.Goals as goal

pub loop-h-init : goal.loop-h-init
loop-h-init c = record {
  own = c.digest_shown-own.ensures ∙ ap sha256 (sym (seal_path_none c.args.message.now c.args.seal.now c.args.place));
  index = sym (div-one c.args.place);
}

pub loop-h-preserved : goal.loop-h-preserved
loop-h-preserved c =
    let m = c.args.message.now in
    let s = c.args.seal.now in
    let k = c.args.place in
    let h = c.loop-h.h in
    record {
      own = c.sha256_of-own.ensures ∙ ap sha256 (c.beside.ensures ∙ ap (λ (i : ℕ). beside i c.loop-h.own c.part_at.result) c.loop-h.invariant.index
          ∙ ap (λ (o : List ℕ). beside (k / 2 ^ h) o c.part_at.result) c.loop-h.invariant.own ∙ ap (beside (k / 2 ^ h) (sha256 (seal_path m s k h))) c.part_at.ensures
          ∙ sym (seal_path_more m s k h));
      index = ap (λ (i : ℕ). i / 2) c.loop-h.invariant.index ∙ index_up k h;
    }
