-- Histories: each item is allowed behind those before it, and what holds at the end.
use Rattle.std.specs.Prelude.{◌≡◌, ◌⊎◌, ℕ, Bool, true, ◌&&◌, List, [], ◌∷◌, ◌++◌, Option, Some, None, length, IsTrue}
use Rattle.definitions.specs.declared.logs.Entry.{Entry}
use Rattle.definitions.specs.Needs.{may_choose}
use Rattle.socket_station.specs.Items.{Item, Call, LogCall, LogBegun, Failed}
use Rattle.peer_rules.specs.declared.phases.Phase.TheVariants.{KeepFault}
use Rattle.loop_rules.specs.Settings.{Setting}
use Rattle.loop_rules.specs.Views.{View, start}
use Rattle.loop_rules.specs.After.{after, view_of}
use Rattle.loop_rules.specs.Rules.{is_allowed}

-- each of these items is allowed behind the view and those before it
abbrev pub are_allowed : View → List Item → Bool
are_allowed v [] = true
are_allowed v (item ∷ items) = is_allowed v item && are_allowed (after v item) items

-- a history up to some moment
abbrev pub IsHistory : Setting → List Item → Type 0
IsHistory s items = IsTrue (are_allowed (start s) items)

-- the name of the log that an item begins, or fails to begin
abbrev pub name_asked : Call → Option (List ℕ)
name_asked (LogCall name) = Some name
name_asked _ = None

abbrev pub log_name : Item → Option (List ℕ)
log_name (LogBegun name) = Some name
log_name (Failed call) = name_asked call
log_name _ = None

-- there is a first item, and it begins the log of this name, or is the failure of that
abbrev pub BeginsLog : (name : List ℕ) → List Item → Type 0
BeginsLog name [] = ⊥
BeginsLog name (item ∷ items) = log_name item ≡ Some name

-- how a run ended: with all that came handled, or at an own move that is not legal, before the rest was handled
pub data RunEnd : Type 0 where
  Handled : RunEnd
  AtOwnMove : RunEnd

-- no frame waits; at an own move that is not legal one may, and then a choice was due
abbrev pub HandledAll : RunEnd → View → Type 0
HandledAll Handled v = v.table.waiting ≡ []
HandledAll AtOwnMove v = IsTrue (may_choose v.setting.game v.setting.me v.kept)

-- a run that no keep fault ended kept the entries taken over and all else, and synced it
pub record EndsWhole (end : RunEnd) (v : View) (log : List Entry) : Type 0 where
  pub rest : List Entry
  pub over : log ≡ v.setting.over ++ rest
  pub synced : v.synced ≡ length v.kept
  pub handled : HandledAll end v

-- the items are the whole history of a run that was to write the log of this name, ended so, and kept this log
pub record IsHistoryOf (s : Setting) (name : List ℕ) (end : RunEnd) (items : List Item) (log : List Entry) : Type 0 where
  pub allowed : IsHistory s items
  pub begun : BeginsLog name items
  pub kept : (view_of s items).kept ≡ log
  pub ends : ((view_of s items).phase ≡ KeepFault) ⊎ EndsWhole end (view_of s items) log
