-- Views: what the history of a depositor shows at a moment.
use Rattle.std.specs.Prelude.{ℕ, Bool, false, List}
use Rattle.socket_station.specs.declared.answers.Addr.{Addr}
use Rattle.wire_frames.specs.declared.frames.Frame.{Frame}
use Rattle.wire_frames.specs.declared.frames.Frame.TheVariants.{Hello}
use Rattle.deposit_rules.specs.declared.phases.DepositPhase.{DepositPhase}
use Rattle.deposit_rules.specs.declared.phases.DepositPhase.TheVariants.{Giving}
use Rattle.deposit_rules.specs.declared.line.DepositLine.{DepositLine}
use Rattle.deposit_rules.specs.Lines.{no_line}

-- what a depositor is given before its first call: the session's id, the player, where the logger
-- is, and the pass that is shown to it
pub record Setting : Type 0 where
  pub id : List ℕ
  pub player : ℕ
  pub addr : Addr
  pub shows : List ℕ

-- what the history shows
pub record View : Type 0 where
  pub setting : Setting
  pub phase : DepositPhase
  pub line : DepositLine
  -- whether the logger was dialled since the last poll
  pub is_dialled : Bool

-- before the first item
abbrev pub start : Setting → View
start s = record { setting = s; phase = Giving; line = no_line; is_dialled = false }

-- what it says first: it wants nothing
abbrev pub hello : Setting → Frame
hello s = Hello s.id s.player s.shows 0
