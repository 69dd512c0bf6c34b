use Rattle.std.proofs.Common.{◌∙◌, subst}
use Rattle.peer_core.specs.declared.resuming.ResumeFault.{ResumeFault}
use Rattle.peer_core.specs.Resuming.{IsFirstBreach, NamesTheFirst}
use Rattle.old_log.proofs.Asking.{are_bytes}
use Rattle.old_log.proofs.Sizes.{front_fits}
use Rattle.old_log.proofs.resuming.resume_from.Goals as goal

pub place_behind-at-requires : goal.place_behind-at-requires
place_behind-at-requires c =
    let Names : ResumeFault → Type 0 = λ f. NamesTheFirst c.args.session.now c.args.me c.as_slice-entries.result.now f in
    let first : IsFirstBreach c.args.session.now c.args.me c.as_slice-entries.result.now c.in-Err-NotReplayed.i = subst Names c.in-Err-NotReplayed.field-0-is c.in-Err-NotReplayed.ensures.first in
    front_fits c.args.session.now c.args.me c.in-Err-NotReplayed.i c.args.bytes.now c.as_slice-entries.result.now (are_bytes c.args.bytes.now c.type_inv.bytes) c.if-bytes-gt-LONGEST_LOG.false
    (c.as_slice-entries.ensures.value ∙ c.in-Ok.ensures.entries_are) first.within
