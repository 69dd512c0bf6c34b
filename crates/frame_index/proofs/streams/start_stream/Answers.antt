use Rattle.frame_index.proofs.StreamsShown.{stream_none}
use Rattle.frame_index.proofs.streams.start_stream.Goals as goal

pub returns : goal.returns
returns c = λ fs. stream_none _ _ fs _ c.start_track.ensures
