-- The rules of a session text at work: a text that is read, and changes of it that are refused.
use Rattle.std.proofs.Common.{◌≡◌, ℕ, List, [], ◌∷◌, ◌++◌, map, Option, Some, None, Ok, refl}
use Prim.Native.String.{String}
use Rattle.std.specs.Prelude.{codes}
use Rattle.std.specs.Fmt.{digits}
use Rattle.definitions.specs.declared.sessions.SessionRule.TheVariants.{S1, S2, S3, S4, S5, S6, S7, S8, S9, S10, S11, S12}
use Rattle.definitions.specs.declared.world.Seat.{Seat}
use Rattle.definitions.specs.World.{Game}
use Rattle.grid_world.specs.declared.fault.SessionFault.{SessionFault}
use Rattle.grid_world.specs.declared.fault.SessionFault.TheVariants.{At}
use Rattle.text_lines.specs.Lines.{ended_lines_of, field_at, one_of, two_of, three_of, three_or_five_of}
use Rattle.grid_world.specs.Text.{session_text, upgraded}
use Rattle.grid_world.specs.Reading.{version_at, sides_at, steps_at, charges_at, turns_at, ahead_at, players_at, head_at, seat_at, seats_at, wall_at, walls_at, said_by, session_fault}
use Rattle.grid_world.proofs.Again.{said_of}

-- the session of version 1 or 2 with these seats
abbrev game : (version ahead : ℕ) → List Seat → Game
game version ahead seats = record {
  version = version;
  id = [];
  grid = record { width = 12; height = 1; walls = [] };
  rules = record { speed = 1; reach = 1; blast = 0; start_charge = 1; cap = 2; cost = 1 };
  turns = 8;
  ahead = ahead;
  seats = seats;
}

-- a player that starts in this column, with this speed and reach
abbrev seat : (x speed reach : ℕ) → Seat
seat x speed reach = record { start = record { x = x; y = 0 }; speed = speed; reach = reach }

-- players that walk and strike as the rules say
abbrev alike : List Seat
alike = seat 0 1 1 ∷ seat 9 1 1 ∷ []

-- the second player walks farther than the rules say, and strikes no neighbour
abbrev apart : List Seat
apart = seat 0 1 1 ∷ seat 9 2 0 ∷ []

-- a session whose text this is, and which is read from it, but for its id
abbrev IsSpelled : Game → String → Type 0
IsSpelled g text = (session_text g ≡ codes text) × (said_by (ended_lines_of (codes text)) ≡ Ok (said_of g))

-- of version 1, of version 2, and with players that differ
spelled :
    IsSpelled (game 1 1 alike) "playout 1\ngrid 12 1\nrules 1 1 0\ncharge 1 2 1\nturns 8\nplayers 2\nplayer 0 0 0\nplayer 1 9 0\nend\n" ×
    IsSpelled (game 2 2 alike) "playout 2\ngrid 12 1\nrules 1 1 0\ncharge 1 2 1\nturns 8\nahead 2\nplayers 2\nplayer 0 0 0\nplayer 1 9 0\nend\n" ×
    IsSpelled (game 2 1 apart) "playout 2\ngrid 12 1\nrules 1 1 0\ncharge 1 2 1\nturns 8\nahead 1\nplayers 2\nplayer 0 0 0\nplayer 1 9 0 2 0\nend\n"
unfolding session_text digits said_by ended_lines_of head_at version_at sides_at steps_at charges_at turns_at ahead_at players_at seats_at seat_at walls_at wall_at one_of two_of three_of three_or_five_of field_at
spelled = ((refl, refl), (refl, refl), (refl, refl))

-- the session of the first text as one of version 2
made_later : session_text (upgraded (game 1 1 alike)) ≡ codes "playout 2\ngrid 12 1\nrules 1 1 0\ncharge 1 2 1\nturns 8\nahead 1\nplayers 2\nplayer 0 0 0\nplayer 1 9 0\nend\n"
unfolding session_text digits
made_later = refl

-- a text, and what is wrong with it
pub record Row : Type 0 where
  pub text : List ℕ
  pub fault : Option SessionFault

-- lines 1 to 3, those up to the players, and the players and the walls
abbrev row : String → String → String → Option SessionFault → Row
row a b c fault = record { text = codes a ++ codes b ++ codes c; fault = fault }

abbrev table : List Row
table =
    row "playout 1\ngrid 12 1\nrules 1 1 0\n" "charge 1 2 1\nturns 8\nplayers 2\n" "player 0 0 0\nplayer 1 9 0\nend\n" None ∷
    -- the form of a line
    row "playout 1\ngrid 12  1\nrules 1 1 0\n" "charge 1 2 1\nturns 8\nplayers 2\n" "player 0 0 0\nplayer 1 9 0\nend\n" (Some (At 2 S1)) ∷
    row "playout 1\ngrid 012 1\nrules 1 1 0\n" "charge 1 2 1\nturns 8\nplayers 2\n" "player 0 0 0\nplayer 1 9 0\nend\n" (Some (At 2 S1)) ∷
    row "playout 1\ngrid 12 1\nrules 1 1 0\n" "charge 1 2 1\nturns 8\nplayers 2\n" "player 0 0 0\nplayer 1 9 0\n" (Some (At 9 S1)) ∷
    row "playout 1\ngrid 12 1\nrules 1 1 0\n" "charge 1 2 1\nturns 8\nplayers 2\n" "player 0 0 0\nplayer 1 9 0\nend\nend\n" (Some (At 10 S1)) ∷
    row "playout 1\ngrid 12 1\nrules 1 1 0\n" "charge 1 2 1\nturns 8\nplayers 2\n" "player 0 0 0\nplayer 1 9 0\nend" (Some (At 9 S1)) ∷
    row "" "" "" (Some (At 1 S1)) ∷
    row "playout 1\ngrid 4294967296 1\n" "" "" (Some (At 2 S1)) ∷
    row "playout 1\ngrid 4294967295 1\n" "" "" (Some (At 2 S3)) ∷
    row "playout 1\ngrid 257 1" "" "" (Some (At 2 S1)) ∷
    row "playout 1\ngrid 12 \n" "" "" (Some (At 2 S1)) ∷
    row "playout 1 \n" "" "" (Some (At 1 S1)) ∷
    row "playout 2 1\n" "" "" (Some (At 1 S1)) ∷
    row " playout 1\n" "" "" (Some (At 1 S1)) ∷
    row "playout 1\r\n" "" "" (Some (At 1 S1)) ∷
    row "playout 1\n\ngrid 12 1\n" "" "" (Some (At 2 S1)) ∷
    row "playout 1\n" "" "" (Some (At 2 S1)) ∷
    -- the numbers of the lines before those of the players
    row "playout 3\ngrid 12 1\nrules 1 1 0\n" "charge 1 2 1\nturns 8\nplayers 2\n" "player 0 0 0\nplayer 1 9 0\nend\n" (Some (At 1 S2)) ∷
    row "playout 0\n" "" "" (Some (At 1 S2)) ∷
    -- the base session's other lines under version 2
    row "playout 2\ngrid 12 1\nrules 1 1 0\n" "charge 1 2 1\nturns 8\nplayers 2\n" "player 0 0 0\nplayer 1 9 0\nend\n" (Some (At 6 S1)) ∷
    row "playout 1\ngrid 257 1\nrules 1 1 0\n" "charge 1 2 1\nturns 8\nplayers 2\n" "player 0 0 0\nplayer 1 9 0\nend\n" (Some (At 2 S3)) ∷
    row "playout 1\ngrid 12 0\n" "" "" (Some (At 2 S3)) ∷
    row "playout 1\ngrid 12 1\nrules 0 1 0\n" "charge 1 2 1\nturns 8\nplayers 2\n" "player 0 0 0\nplayer 1 9 0\nend\n" (Some (At 3 S4)) ∷
    row "playout 1\ngrid 12 1\nrules 9 1 0\n" "" "" (Some (At 3 S4)) ∷
    row "playout 1\ngrid 12 1\nrules 1 9 0\n" "" "" (Some (At 3 S4)) ∷
    row "playout 1\ngrid 12 1\nrules 1 1 3\n" "" "" (Some (At 3 S4)) ∷
    row "playout 1\ngrid 12 1\nrules 1 1 0\n" "charge 3 2 1\nturns 8\nplayers 2\n" "player 0 0 0\nplayer 1 9 0\nend\n" (Some (At 4 S5)) ∷
    row "playout 1\ngrid 12 1\nrules 1 1 0\n" "charge 1 256 1\n" "" (Some (At 4 S5)) ∷
    row "playout 1\ngrid 12 1\nrules 1 1 0\n" "charge 1 2 256\n" "" (Some (At 4 S5)) ∷
    row "playout 1\ngrid 12 1\nrules 1 1 0\n" "charge 1 2 1\nturns 4097\nplayers 2\n" "player 0 0 0\nplayer 1 9 0\nend\n" (Some (At 5 S6)) ∷
    row "playout 1\ngrid 12 1\nrules 1 1 0\n" "charge 1 2 1\nturns 0\n" "" (Some (At 5 S6)) ∷
    row "playout 1\ngrid 12 1\nrules 1 1 0\n" "charge 1 2 1\nturns 8\nplayers 1\n" "player 0 0 0\nplayer 1 9 0\nend\n" (Some (At 6 S7)) ∷
    row "playout 1\ngrid 12 1\nrules 1 1 0\n" "charge 1 2 1\nturns 8\nplayers 17\n" "" (Some (At 6 S7)) ∷
    -- players and walls
    row "playout 1\ngrid 12 1\nrules 1 1 0\n" "charge 1 2 1\nturns 8\nplayers 2\n" "player 0 0 0\nplayer 1 12 0\nend\n" (Some (At 8 S8)) ∷
    row "playout 1\ngrid 12 1\nrules 1 1 0\n" "charge 1 2 1\nturns 8\nplayers 2\n" "player 0 0 0\nplayer 0 9 0\nend\n" (Some (At 8 S8)) ∷
    row "playout 1\ngrid 12 1\nrules 1 1 0\n" "charge 1 2 1\nturns 8\nplayers 2\n" "player 0 0 1\n" (Some (At 7 S8)) ∷
    row "playout 1\ngrid 12 1\nrules 1 1 0\n" "charge 1 2 1\nturns 8\nplayers 2\n" "player 0 0 0\nend\n" (Some (At 8 S1)) ∷
    row "playout 1\ngrid 12 1\nrules 1 1 0\n" "charge 1 2 1\nturns 8\nplayers 2\n" "player 0 0 0\nplayer 1 9 0\nwall 9 0\nend\n" (Some (At 9 S9)) ∷
    row "playout 1\ngrid 12 1\nrules 1 1 0\n" "charge 1 2 1\nturns 8\nplayers 2\n" "player 0 0 0\nplayer 1 9 0\nwall 12 0\nend\n" (Some (At 9 S8)) ∷
    row "playout 1\ngrid 12 1\nrules 1 1 0\n" "charge 1 2 1\nturns 8\nplayers 2\n" "player 0 0 0\nplayer 1 9 0\nwall 5 0\nwall 5 0\nend\n" (Some (At 10 S9)) ∷
    row "playout 1\ngrid 12 1\nrules 1 1 0\n" "charge 1 2 1\nturns 8\nplayers 2\n" "player 0 0 0\nplayer 1 9 0\nwall 5 0\nwall 4 0\nend\n" (Some (At 10 S9)) ∷
    row "playout 1\ngrid 12 1\nrules 1 1 0\n" "charge 1 2 1\nturns 8\nplayers 2\n" "player 0 0 0\nplayer 1 9 0\nwall 4 0\nwall 5 0\nend\n" None ∷
    row "playout 1\ngrid 12 1\nrules 1 1 0\n" "charge 1 2 1\nturns 8\nplayers 2\n" "player 0 0 0\nplayer 1 9 0\nwall 4\nend\n" (Some (At 9 S1)) ∷
    -- nobody can ever pay for a strike, and strikes for nothing
    row "playout 1\ngrid 12 1\nrules 1 1 0\n" "charge 1 2 3\nturns 8\nplayers 2\n" "player 0 0 0\nplayer 1 9 0\nend\n" None ∷
    row "playout 1\ngrid 12 1\nrules 1 1 0\n" "charge 1 2 0\nturns 8\nplayers 2\n" "player 0 0 0\nplayer 1 0 0\nend\n" None ∷
    []

-- texts of version 2
abbrev later_table : List Row
later_table =
    -- how many turns ahead
    row "playout 2\ngrid 12 1\nrules 1 1 0\n" "charge 1 2 1\nturns 8\nahead 2\nplayers 2\n" "player 0 0 0\nplayer 1 9 0\nend\n" None ∷
    row "playout 2\ngrid 12 1\nrules 1 1 0\n" "charge 1 2 1\nturns 8\nahead 8\nplayers 2\n" "player 0 0 0\nplayer 1 9 0\nend\n" None ∷
    row "playout 2\ngrid 12 1\nrules 1 1 0\n" "charge 1 2 1\nturns 8\nahead 9\nplayers 2\n" "player 0 0 0\nplayer 1 9 0\nend\n" (Some (At 6 S10)) ∷
    row "playout 2\ngrid 12 1\nrules 1 1 0\n" "charge 1 2 1\nturns 8\nahead 0\nplayers 2\n" "player 0 0 0\nplayer 1 9 0\nend\n" (Some (At 6 S10)) ∷
    row "playout 2\ngrid 12 1\nrules 1 1 0\n" "charge 1 2 1\nturns 8\nplayers 2\nahead 1\n" "player 0 0 0\nplayer 1 9 0\nend\n" (Some (At 6 S1)) ∷
    row "playout 2\ngrid 12 1\nrules 1 1 0\n" "charge 1 2 1\nturns 8\nahead 1\nahead 1\n" "player 0 0 0\nplayer 1 9 0\nend\n" (Some (At 7 S1)) ∷
    row "playout 1\ngrid 12 1\nrules 1 1 0\n" "charge 1 2 1\nturns 8\nahead 1\nplayers 2\n" "player 0 0 0\nplayer 1 9 0\nend\n" (Some (At 6 S1)) ∷
    -- players that differ
    row "playout 2\ngrid 12 1\nrules 1 1 0\n" "charge 1 2 1\nturns 8\nahead 1\nplayers 2\n" "player 0 0 0\nplayer 1 9 0 1 1\nend\n" (Some (At 9 S11)) ∷
    row "playout 2\ngrid 12 1\nrules 1 1 0\n" "charge 1 2 1\nturns 8\nahead 1\nplayers 2\n" "player 0 0 0\nplayer 1 9 0 9 1\nend\n" (Some (At 9 S11)) ∷
    row "playout 2\ngrid 12 1\nrules 1 1 0\n" "charge 1 2 1\nturns 8\nahead 1\nplayers 2\n" "player 0 0 0\nplayer 1 9 0 0 1\nend\n" (Some (At 9 S11)) ∷
    row "playout 2\ngrid 12 1\nrules 1 1 0\n" "charge 1 2 1\nturns 8\nahead 1\nplayers 2\n" "player 0 0 0\nplayer 1 9 0 1 9\nend\n" (Some (At 9 S11)) ∷
    row "playout 2\ngrid 12 1\nrules 1 1 0\n" "charge 1 2 1\nturns 8\nahead 1\nplayers 2\n" "player 0 0 0\nplayer 1 9 0 2 0\nend\n" None ∷
    row "playout 2\ngrid 12 1\nrules 1 1 0\n" "charge 1 2 1\nturns 8\nahead 1\nplayers 2\n" "player 0 0 0\nplayer 1 9 0 2 1\nend\n" None ∷
    row "playout 2\ngrid 12 1\nrules 1 1 0\n" "charge 1 2 1\nturns 8\nahead 1\nplayers 2\n" "player 0 0 0\nplayer 1 9 0 1 0\nend\n" None ∷
    row "playout 2\ngrid 12 1\nrules 1 1 0\n" "charge 1 2 1\nturns 8\nahead 1\nplayers 2\n" "player 0 0 0\nplayer 1 9 0 8 8\nend\n" None ∷
    row "playout 2\ngrid 12 1\nrules 1 1 0\n" "charge 1 2 1\nturns 8\nahead 1\nplayers 2\n" "player 0 0 0\nplayer 1 9 0 2\nend\n" (Some (At 9 S1)) ∷
    row "playout 2\ngrid 12 1\nrules 1 1 0\n" "charge 1 2 1\nturns 8\nahead 1\nplayers 2\n" "player 0 0 0\nplayer 1 9 0 2 0 0\nend\n" (Some (At 9 S1)) ∷
    row "playout 2\ngrid 12 1\nrules 1 1 0\n" "charge 1 2 1\nturns 8\nahead 1\nplayers 2\n" "player 0 0 0\nplayer 1 9 0  2 0\nend\n" (Some (At 9 S1)) ∷
    row "playout 2\ngrid 12 1\nrules 1 1 0\n" "charge 1 2 1\nturns 8\nahead 1\nplayers 2\n" "player 0 0 0\nplayer 1 9 0 02 0\nend\n" (Some (At 9 S1)) ∷
    row "playout 2\ngrid 12 1\nrules 1 1 0\n" "charge 1 2 1\nturns 8\nahead 1\nplayers 2\n" "player 0 0 0\nplayer 1 12 0 9 9\nend\n" (Some (At 9 S8)) ∷
    row "playout 2\ngrid 12 1\nrules 1 1 0\n" "charge 1 2 1\nturns 8\nahead 1\nplayers 2\n" "player 0 0 0\nplayer 0 9 0 1 1\nend\n" (Some (At 9 S8)) ∷
    row "playout 1\ngrid 12 1\nrules 1 1 0\n" "charge 1 2 1\nturns 8\nplayers 2\n" "player 0 0 0\nplayer 1 9 0 2 0\nend\n" (Some (At 8 S1)) ∷
    row "playout 1\ngrid 12 1\nrules 1 1 0\n" "charge 1 2 1\nturns 8\nplayers 2\n" "player 0 0 0\nplayer 1 12 0 1 1\nend\n" (Some (At 8 S1)) ∷
    -- walls behind the players
    row "playout 2\ngrid 12 1\nrules 1 1 0\n" "charge 1 2 1\nturns 8\nahead 1\nplayers 2\n" "player 0 0 0\nplayer 1 9 0 2 0\nwall 9 0\nend\n" (Some (At 10 S9)) ∷
    row "playout 2\ngrid 12 1\nrules 1 1 0\n" "charge 1 2 1\nturns 8\nahead 1\nplayers 2\n" "player 0 0 0\nplayer 1 9 0 2 0\nwall 4 0\nend\n" None ∷
    row "playout 2\ngrid 12 1\nrules 1 1 0\n" "charge 1 2 1\nturns 8\nahead 1\nplayers 2\n" "player 0 0 0\nplayer 1 9 0\nend\nend\n" (Some (At 11 S1)) ∷
    -- larger limits
    row "playout 2\ngrid 1024 1024\nrules 1 1 0\n" "charge 1 2 1\nturns 8\nahead 1\nplayers 2\n" "player 0 0 0\nplayer 1 9 0\nend\n" None ∷
    row "playout 2\ngrid 1025 1\nrules 1 1 0\n" "charge 1 2 1\nturns 8\nahead 1\nplayers 2\n" "player 0 0 0\nplayer 1 9 0\nend\n" (Some (At 2 S3)) ∷
    row "playout 2\ngrid 12 1025\nrules 1 1 0\n" "charge 1 2 1\nturns 8\nahead 1\nplayers 2\n" "player 0 0 0\nplayer 1 9 0\nend\n" (Some (At 2 S3)) ∷
    row "playout 2\ngrid 12 1\nrules 1 1 0\n" "charge 1 2 1\nturns 8192\nahead 1\nplayers 2\n" "player 0 0 0\nplayer 1 9 0\nend\n" None ∷
    row "playout 2\ngrid 12 1\nrules 1 1 0\n" "charge 1 2 1\nturns 8193\nahead 1\nplayers 2\n" "player 0 0 0\nplayer 1 9 0\nend\n" (Some (At 5 S6)) ∷
    row "playout 2\ngrid 12 1\nrules 1 1 0\n" "charge 1 2 1\nturns 8\nahead 1\nplayers 64\n" "" (Some (At 8 S1)) ∷
    row "playout 2\ngrid 12 1\nrules 1 1 0\n" "charge 1 2 1\nturns 8\nahead 1\nplayers 65\n" "" (Some (At 7 S7)) ∷
    row "playout 2\ngrid 12 1\nrules 1 1 0\n" "charge 1 2 1\nturns 8\nahead 1\nplayers 1\n" "" (Some (At 7 S7)) ∷
    -- turns of all players together
    row "playout 2\ngrid 12 1\nrules 1 1 0\n" "charge 1 2 1\nturns 8192\nahead 1\nplayers 48\n" "" (Some (At 8 S1)) ∷
    row "playout 2\ngrid 12 1\nrules 1 1 0\n" "charge 1 2 1\nturns 8192\nahead 1\nplayers 49\n" "" (Some (At 7 S12)) ∷
    row "playout 2\ngrid 12 1\nrules 1 1 0\n" "charge 1 2 1\nturns 8192\nahead 1\nplayers 65\n" "" (Some (At 7 S7)) ∷
    []

-- of each text the first line at fault is told
refused : (map (λ r. session_fault r.text) table ≡ map (λ r. r.fault) table) × (map (λ r. session_fault r.text) later_table ≡ map (λ r. r.fault) later_table)
unfolding session_fault said_by ended_lines_of head_at version_at sides_at steps_at charges_at turns_at ahead_at players_at seats_at seat_at walls_at wall_at one_of two_of three_of three_or_five_of field_at
refused = (refl, refl)
