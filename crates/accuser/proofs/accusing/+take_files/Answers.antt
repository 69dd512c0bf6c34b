use Rattle.std.proofs.Common.{◌<◌, List, arith, subst, sym, ℕ}
use Rattle.frame_index.specs.declared.limits.TheConstants.{MOST_LOGS}
use Rattle.frame_index.proofs.Growing.{on_ok}
use Rattle.log_files.proofs.Texts.{texts_are}
use Rattle.accuser.specs.Opened.{IsFileTaken}
use Rattle.accuser.specs.Taking.{AreTaken}
use Rattle.accuser.proofs.Several.{more_taken}
use Rattle.accuser.proofs.accusing.+take_files.Goals as goal

pub returns-in_ok-take_file-in-len1-up-clause-ok : goal.returns-in_ok-take_file-in-len1-up-clause-ok
returns-in_ok-take_file-in-len1-up-clause-ok t c =
    let game = c.args.session.now in
    let roots = c.args.roots.now in
    let few : c.args.number < MOST_LOGS = let most = c.requires.few in let some = c.in-len1-up.len_at_least in omega (arith, most, some) in
    let is = subst (λ (bytes : List ℕ). IsFileTaken game roots c.args.taker.now c.take_file.new.taker c.args.number bytes) c.bytes.ensures c.in_ok-take_file-in-len1-up.ensures.ok in
    on_ok c.take_files.result (λ behind. subst (AreTaken game roots c.args.taker.now c.take_files.new.taker c.args.number) (sym (texts_are c.args.files.now c.one-item.result c.in-len1-up.len_at_least c.one-item.is))
    (more_taken game roots c.args.number c.one-item.result _ c.args.taker.now c.take_file.new.taker c.take_files.new.taker few is c.take_file.ensures.leaves (c.requires.untaken c.args.number (omega arith)).unowned behind)) c.take_files.ensures.ok
