-- Told: what a station told so far, and what a logger knows of it.
use Rattle.std.specs.Prelude.{◌≡◌, List, []}
use Rattle.definitions.specs.Lists.{EachIs}
use Rattle.socket_station.specs.Items.{Item}
use Rattle.loop_rules.specs.Told.{LineStands, Differ}
use Rattle.watch_rules.specs.Views.{View, start}
use Rattle.watch_rules.specs.After.{view_of}
use Rattle.watch_rules.specs.Histories.{AreTold, IsHistory}

-- the items are a history whose sockets were new when they opened, which shows the view, and the
-- sockets of its lines differ and stand as the lines say
pub record IsTold (items : List Item) (v : View) : Type 0 where
  pub allowed : IsHistory v.setting items
  pub told : AreTold (start v.setting) [] items
  pub shown : view_of v.setting items ≡ v
  pub stand : EachIs (LineStands items) v.sockets.lines
  pub differ : Differ v.sockets.lines
