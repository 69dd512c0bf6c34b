use Rattle.std.proofs.Common.{◌<◌, List, arith, subst, sym, ℕ}
use Rattle.frame_index.specs.declared.limits.TheConstants.{MOST_LOGS}
use Rattle.frame_index.proofs.Growing.{on_ok}
use Rattle.log_files.specs.Taken.{IsTaken}
use Rattle.log_files.specs.Audited.{AreTaken}
use Rattle.log_files.proofs.Texts.{more_taken, texts_are}
use Rattle.log_files.proofs.audits.+take_texts.Goals as goal

pub returns-in_ok-take_text-in-len1-up-clause-ok : goal.returns-in_ok-take_text-in-len1-up-clause-ok
returns-in_ok-take_text-in-len1-up-clause-ok t c =
    let game = c.args.session.now in
    let few : c.args.number < MOST_LOGS = let most = c.requires.few in let some = c.in-len1-up.len_at_least in omega (arith, most, some) in
    let is = subst (λ (bytes : List ℕ). IsTaken game c.args.auditor.now c.take_text.new.auditor c.args.number bytes) c.bytes.ensures c.in_ok-take_text-in-len1-up.ensures.ok in
    on_ok c.take_texts.result (λ behind. subst (AreTaken game c.args.auditor.now c.take_texts.new.auditor c.args.number) (sym (texts_are c.args.logs.now c.one-item.result c.in-len1-up.len_at_least c.one-item.is))
    (more_taken game c.args.number c.one-item.result _ c.args.auditor.now c.take_text.new.auditor c.take_texts.new.auditor few is c.take_text.ensures.others behind)) c.take_texts.ensures.ok
