-- Memory: a run over files, an input and an output in memory.
use Rattle.std.specs.Prelude.{◌≡◌, ◌⊎◌, ℕ, List, ◌++◌, map}
use Rattle.rand_core.specs.Stream.{Stream}
use Rattle.socket_station.specs.Items.{Item}
use Rattle.datagram_post.specs.Items.{Item as Mailing}
use Rattle.station.specs.Files.{content_in}
use Rattle.station.specs.Outside.{Rose}
use Rattle.station.specs.Plans.{HeldShelf, HeldSink, HeldSource, bytes_left, shelf_state, sink_state, source_state}
use Rattle.line_io.specs.Files.{Contents}
use Rattle.line_io.specs.Inputs.{AtEnd, AtFault, input_of}
use Rattle.run_frame.specs.Ends.{Finished}
use Rattle.run_frame.specs.Law.{Law}
use Rattle.run_frame.specs.Outside.{IsApart, Outside, outside}
use Rattle.run_frame.specs.Runs.{Played}
use Rattle.run_frame.specs.declared.statuses.Status.{Status}

-- what the files of a law hold
abbrev pub contents_of : Law → HeldShelf → Contents
contents_of law shelf = map (content_in shelf.files) law.names

abbrev pub outside_of : HeldSource → HeldSink → HeldShelf → List Item → List Mailing → Stream → Outside
outside_of input out shelf station post chance = outside (source_state input) (sink_state out) (shelf_state shelf) station post chance

-- What a run wrote that made no call of the station or the post is due by what the files and the input held, whatever it read of them; and what a
-- run played that made some, by what the files held.
pub record ActsInMemory (law : Law) (input input' : HeldSource) (out out' : HeldSink) (shelf shelf' : HeldShelf) (station station' : List Item) (post post' : List Mailing) (chance chance' : Stream) (status : Status) : Type 0 where
  pub read : List ℕ
  pub input_is : bytes_left input.left ≡ read ++ bytes_left input'.left
  pub text :
      (IsApart (outside_of input out shelf station post chance) (outside_of input' out' shelf' station' post' chance') ×
      Finished (sink_state out) (sink_state out')
      (law.answer (contents_of law shelf) (input_of AtEnd (bytes_left input.left)))
      (law.answer (contents_of law shelf) (input_of AtFault read)) law.late
      (Rose input.plan.faults input'.plan.faults) (Rose shelf.plan.faults shelf'.plan.faults × (source_state input' ≡ source_state input)) status)
      ⊎ Played law (contents_of law shelf) (outside_of input out shelf station post chance) (outside_of input' out' shelf' station' post' chance') status
