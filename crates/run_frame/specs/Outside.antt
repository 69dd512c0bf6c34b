-- Outside: what a run may touch, as it stands, and how a run moves the counts of faults.
use Rattle.std.specs.Prelude.{◌≡◌, ◌⊎◌, List}
use Rattle.rand_core.specs.Stream.{Stream}
use Rattle.socket_station.specs.Items.{Item}
use Rattle.datagram_post.specs.Items.{Item as Mailing}
use Rattle.station.specs.Outside.{Rose}
use Rattle.station.specs.Shelves.{ShelfState}
use Rattle.station.specs.Sinks.{SinkState}
use Rattle.station.specs.Sources.{SourceState}
use Rattle.run_frame.specs.declared.statuses.Status.{Status}
use Rattle.run_frame.specs.declared.statuses.Status.TheVariants.{InputFault, OutputFault}

-- all that a run may touch
pub record Outside : Type 0 where
  pub input : SourceState
  pub output : SinkState
  pub shelf : ShelfState
  -- what the calls of the station answered so far
  pub station : List Item
  -- what the calls of the post answered so far
  pub post : List Mailing
  -- what the generator is to give
  pub chance : Stream

-- what the calls of the station and of the post answered
pub record Answered : Type 0 where
  pub station : List Item
  pub post : List Mailing

-- what they answered by then
abbrev pub answered_by : Outside → Answered
answered_by o = record { station = o.station; post = o.post }

-- what each of them tells of itself
abbrev pub outside : SourceState → SinkState → ShelfState → List Item → List Mailing → Stream → Outside
outside input output shelf station post chance = record { input = input; output = output; shelf = shelf; station = station; post = post; chance = chance }

-- the same, but for the output
abbrev pub with_output : Outside → SinkState → Outside
with_output rest output = record { input = rest.input; output = output; shelf = rest.shelf; station = rest.station; post = rest.post; chance = rest.chance }

-- the same, but for what a command touches that reads files and prints
abbrev pub with_files : Outside → SinkState → ShelfState → Outside
with_files rest output shelf = record { input = rest.input; output = output; shelf = shelf; station = rest.station; post = rest.post; chance = rest.chance }

-- the same, but for what a command touches that reads files and its input, and prints
abbrev pub with_input : Outside → SourceState → SinkState → ShelfState → Outside
with_input rest input output shelf = record { input = input; output = output; shelf = shelf; station = rest.station; post = rest.post; chance = rest.chance }

-- the same, but for what a command touches that plays over sockets
abbrev pub with_sockets : Outside → SinkState → ShelfState → List Item → Stream → Outside
with_sockets rest output shelf station chance = record { input = rest.input; output = output; shelf = shelf; station = station; post = rest.post; chance = chance }

-- the same, but for what a command touches that plays over datagrams
abbrev pub with_datagrams : Outside → SinkState → ShelfState → List Mailing → Stream → Outside
with_datagrams rest output shelf post chance = record { input = rest.input; output = output; shelf = shelf; station = rest.station; post = post; chance = chance }

-- The station, the post and the generator were left alone.
pub record IsApart (before after : Outside) : Type 0 where
  pub station : after.station ≡ before.station
  pub post : after.post ≡ before.post
  pub chance : after.chance ≡ before.chance

-- Neither the input nor the shelf failed.
pub record NeitherFailed (before after : Outside) : Type 0 where
  pub source : after.input.faults ≡ before.input.faults
  pub files : after.shelf.faults ≡ before.shelf.faults

-- One of the two failed, once.
abbrev pub OneFailed : (before after : Outside) → Type 0
OneFailed before after =
    (Rose before.input.faults after.input.faults × (after.shelf.faults ≡ before.shelf.faults))
    ⊎ ((after.input.faults ≡ before.input.faults) × Rose before.shelf.faults after.shelf.faults)

-- A fault is counted exactly where one is answered: of the input or of the shelf, or of the output, before
-- whose fault one of the others may have failed. No other status comes after a fault. (Faults of the station
-- and of the post are items of their histories.)
abbrev pub CountsFaults : (before after : Outside) → Status → Type 0
CountsFaults before after InputFault = OneFailed before after × (after.output.faults ≡ before.output.faults)
CountsFaults before after OutputFault = (NeitherFailed before after ⊎ OneFailed before after) × Rose before.output.faults after.output.faults
CountsFaults before after status = NeitherFailed before after × (after.output.faults ≡ before.output.faults)
