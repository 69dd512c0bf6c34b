-- What the objects in memory are seen as.
use Rattle.std.specs.Prelude.{ℕ, Bool, true, false, Some, List, [], ◌++◌}
use Rattle.station.specs.Files.{NamedBytes, content_in, sure_content_in}
use Rattle.station.specs.Pieces.{Piece}
use Rattle.station.specs.Sources.{SourceState}
use Rattle.station.specs.Sinks.{SinkState}
use Rattle.station.specs.Shelves.{ShelfState}

-- The calls that are to fail, the number of calls so far, and how many of them failed.
pub record Plan : Type 0 where
  -- the numbers of the calls that are to fail, counted from 1
  pub fails : List ℕ
  pub calls : ℕ
  pub faults : ℕ

-- what a source in memory has left: bytes, or nothing once it answered the end
pub data Left : Type 0 where
  Bytes : List ℕ → Left
  Nothing : Left

-- the bytes left
abbrev pub bytes_left : Left → List ℕ
bytes_left (Bytes bytes) = bytes
bytes_left Nothing = []

-- whether the end was answered
abbrev pub is_ended : Left → Bool
is_ended (Bytes bytes) = false
is_ended Nothing = true

-- a source in memory that never fails: the bytes given so far, and those left
pub record HeldBytes : Type 0 where
  pub seen : List ℕ
  pub left : Left

-- a source in memory: the same, and which of its calls fail
pub record HeldSource : Type 0 where
  pub seen : List ℕ
  pub left : Left
  pub plan : Plan

-- a sink in memory
pub record HeldSink : Type 0 where
  pub held : List ℕ
  -- how many bytes it can hold in all
  pub room : ℕ
  pub plan : Plan

-- a shelf in memory that never fails: its files, and what was answered so far
pub record HeldFiles : Type 0 where
  pub files : List NamedBytes
  pub pieces : List Piece

-- a shelf in memory: the same, and which of its calls fail
pub record HeldShelf : Type 0 where
  pub files : List NamedBytes
  pub pieces : List Piece
  pub plan : Plan

-- each as a source, a sink or a shelf
abbrev pub bytes_state : HeldBytes → SourceState
bytes_state s = record { whole = Some (s.seen ++ bytes_left s.left); seen = s.seen; ended = is_ended s.left; faults = 0 }

abbrev pub source_state : HeldSource → SourceState
source_state s = record { whole = Some (s.seen ++ bytes_left s.left); seen = s.seen; ended = is_ended s.left; faults = s.plan.faults }

abbrev pub sink_state : HeldSink → SinkState
sink_state s = record { held = s.held; faults = s.plan.faults }

abbrev pub files_state : HeldFiles → ShelfState
files_state s = record { files = Some (λ name. Some (sure_content_in s.files name)); pieces = s.pieces; faults = 0 }

abbrev pub shelf_state : HeldShelf → ShelfState
shelf_state s = record { files = Some (content_in s.files); pieces = s.pieces; faults = s.plan.faults }
