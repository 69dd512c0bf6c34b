use Rattle.log_streams.proofs.Streams.{later_bytes_give_nothing}
use Rattle.log_streams.proofs.laws.later_bytes_give_nothing.Goals as goal

pub returns : goal.returns
returns c = later_bytes_give_nothing
