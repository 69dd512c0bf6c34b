use Rattle.std.proofs.Common.{arith}
use Rattle.session_log.proofs.Keeping.{kept_full, kept_room}
use Rattle.session_log.proofs.part.keep.Goals as goal

pub returns-then-len-lt64 : goal.returns-then-len-lt64
returns-then-len-lt64 c = kept_room _ _ _ c.args.len c.min-count.result c.told-kept (omega arith) c.if-len-lt64.true c.min-count.ensures c.put_slice.ensures

pub returns-else-len-lt64 : goal.returns-else-len-lt64
returns-else-len-lt64 c = kept_full _ _ c.args.len c.told-kept c.if-len-lt64.false
