-- Stands: how a match stands, by the logs of its honest players.
use Rattle.std.specs.Prelude.{◌≡◌, ℕ, ◌<◌, Bool, false, ◌&&◌, not, List, Option, Some, None, find, nat_lt, option_map, ◌==◌, IsTrue}
use Rattle.std.specs.List.{list_any, range_with_len}
use Rattle.definitions.specs.declared.logs.Entry.{Entry}
use Rattle.definitions.specs.Lists.{first_of}
use Rattle.definitions.specs.World.{Game, players_of}
use Rattle.definitions.specs.Held.{next_place}
use Rattle.definitions.specs.Findings.{is_clean}
use Rattle.definitions.specs.Honest.{made_count}
use Rattle.definitions.specs.Needs.{may_choose, needs}
use Rattle.definitions.specs.Steps.{Logs, has_log, log_of}
use Rattle.definition_laws.specs.Advancing.{IsDone}
use Rattle.schedule.specs.declared.stands.Gap.{Gap}
use Rattle.schedule.specs.declared.stands.Stand.{Stand}
use Rattle.schedule.specs.declared.stands.Stand.TheVariants.{Caught, Moving, Behind, Held, Finished}

-- the players of the session, in order
abbrev pub players : Game → List ℕ
players game = range_with_len 0 (players_of game)

-- the log has a finding
abbrev pub has_finding : Game → Option (List Entry) → Bool
has_finding game None = false
has_finding game (Some h) = not (is_clean game h)

-- the log's owner may choose
abbrev pub has_choice : Game → ℕ → Option (List Entry) → Bool
has_choice game p None = false
has_choice game p (Some h) = may_choose game p h

-- the log's owner made the frame of this place
abbrev pub has_made : Option (List Entry) → ℕ → Bool
has_made None place = false
has_made (Some h) place = nat_lt place (made_count h)

-- the log's owner waits for player q
abbrev pub waits_for : Game → ℕ → Option (List Entry) → ℕ → Bool
waits_for game p None q = false
waits_for game p (Some h) q = list_any (λ n. n.player == q) (needs game p h)

-- ---- the players, by the logs of the honest ones

-- the honest player has a finding
abbrev pub is_caught : Game → Logs → ℕ → Bool
is_caught game logs p = has_finding game (log_of logs p)

-- the honest player may choose
abbrev pub is_moving : Game → Logs → ℕ → Bool
is_moving game logs p = has_choice game p (log_of logs p)

-- the honest q made the frame that is next in its stream for player p with this log
abbrev pub is_ahead_of : Game → Logs → (p : ℕ) → List Entry → (q : ℕ) → Bool
is_ahead_of game logs p h q = has_made (log_of logs q) (next_place game p h q)

-- the first frame that the log's owner lacks and another one made, by player
abbrev pub gap_in : Game → Logs → (p : ℕ) → Option (List Entry) → Option Gap
gap_in game logs p None = None
gap_in game logs p (Some h) = option_map (λ q. record { who = p; whose = q; place = next_place game p h q }) (find (is_ahead_of game logs p h) (players game))

-- the same of the honest player
abbrev pub gap_of : Game → Logs → ℕ → Option Gap
gap_of game logs p = gap_in game logs p (log_of logs p)

-- an honest player waits for q
abbrev pub is_waited_for : Game → Logs → ℕ → Bool
is_waited_for game logs q = list_any (λ p. waits_for game p (log_of logs p) q) (players game)

-- the player is hostile, and an honest one waits for it
abbrev pub is_holding : Game → Logs → ℕ → Bool
is_holding game logs q = not (has_log logs q) && is_waited_for game logs q

-- ---- the stand

-- the first of these that is there, and finished where none is: who is caught, who may choose, who lacks a frame, and who holds others
abbrev pub stand_by : Option ℕ → Option ℕ → Option Gap → Option ℕ → Stand
stand_by (Some p) moving gap holding = Caught p
stand_by None (Some p) gap holding = Moving p
stand_by None None (Some g) holding = Behind g.who g.whose g.place
stand_by None None None (Some q) = Held q
stand_by None None None None = Finished

-- how the match stands, each kind by the least player, and a frame that is lacked by the least who lacks one and then the least who made it
abbrev pub stand : Game → Logs → Stand
stand game logs =
    stand_by (find (is_caught game logs) (players game)) (find (is_moving game logs) (players game)) (first_of (gap_of game logs) (players game)) (find (is_holding game logs) (players game))

-- all players that the stand names are the session's
abbrev pub NamesPlayers : Game → Stand → Type 0
NamesPlayers game (Caught p) = p < players_of game
NamesPlayers game (Moving p) = p < players_of game
NamesPlayers game (Behind p q place) = (p < players_of game) × (q < players_of game)
NamesPlayers game (Held q) = q < players_of game
NamesPlayers game Finished = Unit {0}

-- the log has no finding, and its owner made all its frames and waits for no one
abbrev pub IsAllDone : Game → ℕ → List Entry → Type 0
IsAllDone game p h = IsTrue (is_clean game h) × IsDone game p h

-- each honest player is done so
abbrev pub AreAllDone : Game → Logs → Type 0
AreAllDone game logs = (p : ℕ) (h : List Entry) → log_of logs p ≡ Some h → IsAllDone game p h
