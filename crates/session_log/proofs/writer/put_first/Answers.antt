use Rattle.std.proofs.Common.{ap}
use Rattle.session_log.specs.Spelling.{entry_bytes}
use Rattle.session_log.proofs.Putting.{put_marked}
use Rattle.session_log.proofs.writer.put_first.Goals as goal

pub returns-clause-bytes : goal.returns-clause-bytes
returns-clause-bytes c = put_marked _ _ _ _ _ c.told-out c.put_entry.ensures.bytes (ap (λ chain. entry_bytes chain c.args.entry.now) c.first_chain.ensures)
