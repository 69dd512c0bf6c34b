use Rattle.std.proofs.Common.{◌≡◌, ◌+◌, ◌≤◌, ◌++◌, length}
use Rattle.wire_frames.specs.Streams.{given_of}
use Rattle.socket_table.proofs.reading.feed_all.Given as goal

abbrev pub invariant-loop-frame : goal.invariant-loop-frame
invariant-loop-frame l = record {
  frames : l.frames ++ (given_of l.reader l.rest).frames ≡ l.fn.frames ++ (given_of l.fn.reader l.bytes).frames;
  reader : (given_of l.reader l.rest).reader ≡ (given_of l.fn.reader l.bytes).reader;
  place : l.reader.place + length l.rest ≤ l.fn.reader.place + length l.bytes;
  few : length l.frames + length l.rest ≤ length l.fn.frames + length l.bytes;
}

abbrev pub decreases-loop-frame : goal.decreases-loop-frame
decreases-loop-frame l = length l.rest
