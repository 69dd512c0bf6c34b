-- Settling: what holds of the turns that were counted.
use Rattle.std.specs.Prelude.{◌≡◌, ℕ, ◌<◌, ◌≤◌, true, List, length}
use Rattle.definitions.specs.declared.logs.Entry.{Entry}
use Rattle.definitions.specs.World.{Game, players_of}
use Rattle.definitions.specs.Settled.{is_settled, settled}
use Rattle.playout.specs.Playing.{Played, standing_of}
use Rattle.wait_rule.specs.declared.views.View.{View}
use Rattle.peer_core.specs.Scoring.{score_to, settled_score}

-- the first n turns are settled
abbrev pub AreSettled : Game → ℕ → List Entry → ℕ → Type 0
AreSettled game me h n = (t : ℕ) → t < n → is_settled game me h t ≡ true

-- settled turns of the log were counted, without a gap, and maybe not all
pub record IsCounting (game : Game) (me : ℕ) (h : List Entry) (p : Played) : Type 0 where
  pub players : length p.standings ≡ players_of game
  pub few : p.turns ≤ game.turns
  pub settled : AreSettled game me h p.turns
  pub score : (standing_of p me).score ≡ score_to game me h p.turns

-- all settled turns of the log without a gap were counted
pub record IsCounted (game : Game) (me : ℕ) (h : List Entry) (p : Played) : Type 0 where
  pub players : length p.standings ≡ players_of game
  pub turns : p.turns ≡ settled game me h
  pub score : (standing_of p me).score ≡ settled_score game me h

-- what is known of a player, as if no commitment to a turn that isn't resolved were held
abbrev pub unheld : View → View
unheld v = record { resolved = v.resolved; next = v.next; commits = v.resolved }
