-- What a sink holds once a text was written to it, or the sink failed in it.
use Rattle.std.specs.Prelude.{◌≡◌, ℕ, ◌+◌, ◌<◌, ◌≤◌, List, ◌++◌, length, take, Result, Ok, Err}
use Rattle.station.specs.Outside.{Rose}
use Rattle.station.specs.Sinks.{SinkState, after_bytes}
use Rattle.line_io.specs.declared.texts.SinkFault.{SinkFault}

-- The bytes now are the bytes before and a first part of the text behind them, but not all of it.
pub record Between (before text now : List ℕ) : Type 0 where
  pub longer : length before ≤ length now
  pub shorter : length now < length before + length text
  pub within : take (length now) (before ++ text) ≡ now

-- The sink failed in the text: only a first part of it was written, and one fault is counted.
pub record CutShort (before now : SinkState) (text : List ℕ) : Type 0 where
  pub between : Between before.held text now.held
  pub rose : Rose before.faults now.faults

-- All of the text was written, or the sink failed in it.
abbrev pub Puts : (before now : SinkState) → (text : List ℕ) → Result (Unit {0}) SinkFault → Type 0
Puts before now text (Ok done) = now ≡ after_bytes before text
Puts before now text (Err fault) = CutShort before now text

-- Some of the text was written, and `rest` is still to come.
pub record Underway (before now : SinkState) (text rest : List ℕ) : Type 0 where
  pub longer : length before.held ≤ length now.held
  pub whole : after_bytes now rest ≡ after_bytes before text
