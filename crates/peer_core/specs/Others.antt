-- Others: what a peer's tables say of the other players.
use Rattle.std.specs.Prelude.{◌≡◌, ◌≢◌, ℕ, ◌<◌, false, List, [], length, get_or, IsTrue}
use Rattle.definitions.specs.declared.logs.Entry.{Entry}
use Rattle.definitions.specs.World.{Game, players_of}
use Rattle.definitions.specs.Held.{places_in}
use Rattle.definitions.specs.Findings.{is_clean}
use Rattle.dilation.specs.Dilated.{cell_of, starts_of}
use Rattle.peer_window.specs.Windows.{Seen, IsWindow}
use Rattle.peer_window.specs.Logged.{IsSeenIn}
use Rattle.wait_rule.specs.declared.views.View.{View}
use Rattle.wait_rule.specs.declared.meeting.Meeting.{Meeting}
use Rattle.wait_rule.specs.Spheres.{IsMeeting, cells_in}
use Rattle.wait_rule.specs.Shown.{AreLastCells}
use Rattle.wait_rule.specs.Waiting.{no_view}

-- the windows of all players, what the rule of waiting is told of them, and the rule
pub record Known : Type 0 where
  pub windows : List Seen
  pub views : List View
  pub rule : Meeting

-- what the rule of waiting is told of a player's window
abbrev pub view_of : Seen → View
view_of w = record { resolved = length w.known.moves; next = places_in w.known; commits = length w.known.digests }

-- the window is the player's, and was offered what the log got from it; where the log has no finding it takes more
pub record IsWindowOf (game : Game) (me : ℕ) (h : List Entry) (q : ℕ) (w : Seen) : Type 0 where
  pub window : IsWindow game w
  pub player : w.player ≡ q
  pub offered : IsSeenIn me h w
  pub still : IsTrue (is_clean game h) → w.closed ≡ false

-- a window that was offered nothing
pub record IsOpened (game : Game) (q : ℕ) (w : Seen) : Type 0 where
  pub window : IsWindow game w
  pub player : w.player ≡ q
  pub empty : w.frames ≡ []
  pub still : w.closed ≡ false

-- each player has such a window
pub record AreOpened (game : Game) (ws : List Seen) : Type 0 where
  pub count : length ws ≡ players_of game
  pub each : (q : ℕ) (d : Seen) → q < players_of game → IsOpened game q (get_or ws q d)

-- the tables have what the log shows of each other player, and the rule knows where each was last seen
pub record AreOthers (game : Game) (me : ℕ) (h : List Entry) (o : Known) : Type 0 where
  pub count : length o.windows ≡ players_of game
  pub each : (q : ℕ) (d : Seen) → q < players_of game → q ≢ me → IsWindowOf game me h q (get_or o.windows q d)
  pub count_views : length o.views ≡ players_of game
  pub views_are : (q : ℕ) (d : Seen) (v : View) → q < players_of game → q ≢ me → get_or o.views q v ≡ view_of (get_or o.windows q d)
  pub rule_is : IsMeeting game o.rule
  pub cells_are : AreLastCells game me h (cells_in o.rule)

-- each other player has a window, and of the first n nothing is known
pub record AreCleared (game : Game) (me n : ℕ) (o : Known) : Type 0 where
  pub count : length o.windows ≡ players_of game
  pub count_views : length o.views ≡ players_of game
  pub rule_is : IsMeeting game o.rule
  pub windows : (q : ℕ) (d : Seen) → q < players_of game → q ≢ me → IsWindow game (get_or o.windows q d)
  pub players : (q : ℕ) (d : Seen) → q < players_of game → q ≢ me → (get_or o.windows q d).player ≡ q
  pub opened : (q : ℕ) (d : Seen) → q < n → q ≢ me → IsOpened game q (get_or o.windows q d)
  pub blank : (q : ℕ) (v : View) → q < n → q ≢ me → get_or o.views q v ≡ no_view
  pub cells : (q : ℕ) → q < n → q ≢ me → cell_of (cells_in o.rule) q ≡ cell_of (starts_of game) q
