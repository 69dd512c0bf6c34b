use Rattle.std.proofs.Common.{◌≡◌, ◌-◌, ◌++◌, ◌∙◌, ap, take, drop, arith}
use Rattle.session_log.specs.Spelling as S
use Rattle.session_log.specs.Spelling.{entry_text}
use Rattle.session_log.proofs.Putting.{put_last, put_chained}
use Rattle.session_log.proofs.writer.put_entry.Goals as goal

pub returns-clause-bytes : goal.returns-clause-bytes
returns-clause-bytes c =
    let text : take (c.put_text-end.result - c.args.at) (drop c.args.at c.put_text-end.new.out) ≡ entry_text c.args.entry.now
    = put_last c.args.out.now c.put_text-end.new.out (entry_text c.args.entry.now) c.args.at c.put_text-end.result (omega arith) c.put_text-end.ensures.bytes c.put_text-end.ensures.count in
    put_chained _ _ _ _ _ (c.put_behind.ensures.bytes ∙ ap (λ xs. xs ++ c.chained-digest.result) c.put_text-end.ensures.bytes)
    (c.chained-digest.ensures ∙ ap (S.chained c.args.chain.now) text)
