use Rattle.std.proofs.Common.{◌∙◌, arith}
use Rattle.std.proofs.lemmas.List.{take_rest}
use Rattle.session_log.proofs.Parts.{begun_holds, part_steps}
use Rattle.session_log.proofs.part.Part.take.Goals as goal

pub returns-clause-part : goal.returns-clause-part
returns-clause-part c = λ chain held part.
    let p = c.begin.new.self in
    let two = c.take_text-text.new.self in
    let so = part_steps p c.take_text-head.new.self two c.take_digest.new.self chain held c.args.bytes.now _ _ _ _ _ _
    (take_rest c.args.bytes.now c.take_text-head.result) (take_rest _ c.take_text-text.result)
    (record {
      head_is = c.take_text-head.ensures.count;
      head_text = λ text. c.take_text-head.ensures.text chain text;
      end_is = omega (arith, c.told_len-end.ensures.told);
      body_is = c.take_text-text.ensures.count;
      body_text = λ text. c.take_text-text.ensures.text chain text;
      same_len = c.take_text-text.ensures.digest_len ∙ c.take_text-head.ensures.digest_len;
      same = c.take_text-text.ensures.digest ∙ c.take_text-head.ensures.digest;
      tail_is = c.take_digest.ensures.count;
      tail_text = λ text. c.take_digest.ensures.text chain text;
      digest = c.take_digest.ensures.digest;
      digest_len = c.take_digest.ensures.digest_len;
    })
    (omega (arith, c.requires, c.begin.ensures.digest_len)) (c.begin.ensures.part chain held part) in
    (so.0, begun_holds c.take_digest.new.self chain _ (c.take_digest.ensures.fresh ∙ c.take_text-text.ensures.fresh ∙ c.take_text-head.ensures.fresh ∙ c.begin.ensures.fresh) so.1)
