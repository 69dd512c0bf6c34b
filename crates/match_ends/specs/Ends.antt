-- Ends: what is written at the end of a run, and its status, by how its loop ended.
use Rattle.std.specs.Prelude.{ℕ, List, [], ◌++◌, Option, codes, decimal, flat_map, nat_lt, ◌==◌, if◌then◌else◌}
use Rattle.std.specs.List.{range_with_len}
use Rattle.definitions.specs.declared.world.MoveFault.{MoveFault}
use Rattle.definitions.specs.World.{players_of}
use Rattle.definitions.specs.Honest.{made_count}
use Rattle.definitions.specs.Needs.{needs}
use Rattle.loop_ends.specs.declared.ends.Ended.{Ended}
use Rattle.loop_ends.specs.declared.ends.Ended.TheVariants as E
use Rattle.peer_core.specs.Views.{PeerState}
use Rattle.report_lines.specs.Lines.{caught_text, dropped_text, end_line_text, fault_name, need_text}
use Rattle.report_lines.specs.Report.{own_score_text, players_text, stand_text}
use Rattle.run_frame.specs.Frame.{Answer}
use Rattle.run_frame.specs.Polls.{gave_up_text}
use Rattle.run_frame.specs.declared.statuses.Status.{Status}
use Rattle.run_frame.specs.declared.statuses.Status.TheVariants.{Done, Caught, GaveUp, KeepFault, PollFault, OwnMove}

-- the move of the turn is not legal
unfoldable pub own_move_text : (turn : ℕ) → MoveFault → List ℕ
own_move_text turn fault = codes "own move " ++ decimal turn ++ codes " " ++ fault_name fault ++ codes "\n"

-- what the end was, unless all was played
abbrev pub outcome_text : (polls : ℕ) → Ended → List ℕ
outcome_text polls E.Done = []
outcome_text polls (E.Caught f) = caught_text f
outcome_text polls E.PollFault = codes "poll fault\n"
outcome_text polls E.KeepFault = codes "keep fault\n"
outcome_text polls (E.OwnMove turn fault) = own_move_text turn fault
outcome_text polls E.GaveUp = gave_up_text polls

-- the player has so many own frames and lacks more
unfoldable pub unsent_text : (q given : ℕ) → List ℕ
unsent_text q given = codes "unsent " ++ decimal q ++ codes " " ++ decimal given ++ codes "\n"

-- the same, where it has fewer than are made
abbrev pub lacking_text : (made q given : ℕ) → List ℕ
lacking_text made q given = if nat_lt given made then unsent_text q given else []

-- what another player lacks, where `held` says how many own frames each has
abbrev pub unsent_to : PeerState → (held : ℕ → ℕ) → (q : ℕ) → List ℕ
unsent_to p held q = if q == p.me then [] else lacking_text (made_count p.entries) q (held q)

-- what so many players lack, from this one on
unfoldable pub unsents_text : PeerState → (held : ℕ → ℕ) → (first count : ℕ) → List ℕ
unsents_text p held first count = flat_map (unsent_to p held) (range_with_len first count)

-- how the peer stands: where the loop gave up, whom it waits for, and who lacks own frames; after a finding or a
-- fault, nothing
abbrev pub stand_by : Ended → PeerState → (held : ℕ → ℕ) → List ℕ
stand_by E.Done p held = stand_text p.game p.me p.entries
stand_by (E.Caught f) p held = []
stand_by E.PollFault p held = []
stand_by E.KeepFault p held = []
stand_by (E.OwnMove turn fault) p held = stand_text p.game p.me p.entries
stand_by E.GaveUp p held = flat_map need_text (needs p.game p.me p.entries) ++ unsents_text p held 0 (players_of p.game)

-- What is written in all: from which byte on an older log was dropped, if it was; what the end was;
-- how the peer stands, or what is missing; what the log shows of each player; the own score; and
-- that this is the end.
unfoldable pub match_text : (dropped : Option ℕ) → (polls : ℕ) → Ended → PeerState → (held : ℕ → ℕ) → List ℕ
match_text dropped polls ended p held =
    dropped_text dropped ++ (outcome_text polls ended ++ (stand_by ended p held ++ (players_text p.game p.me p.entries 0 (players_of p.game) ++
    (own_score_text p.game p.me p.entries ++ end_line_text))))

-- how the run ends
abbrev pub status_of : Ended → Status
status_of E.Done = Done
status_of (E.Caught f) = Caught
status_of E.PollFault = PollFault
status_of E.KeepFault = KeepFault
status_of (E.OwnMove turn fault) = OwnMove turn fault
status_of E.GaveUp = GaveUp

-- the answer to the command, once its loop has ended so
abbrev pub match_answer : (dropped : Option ℕ) → (polls : ℕ) → Ended → PeerState → (held : ℕ → ℕ) → Answer
match_answer dropped polls ended p held = record { body = match_text dropped polls ended p held; status = status_of ended }
