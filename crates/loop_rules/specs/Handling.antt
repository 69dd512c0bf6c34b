-- Handling: what becomes of the frames that wait.
use Rattle.std.specs.Prelude.{◌≡◌, ℕ, Bool, true, not, List, [], ◌∷◌, if◌then◌else◌}
use Rattle.definitions.specs.World.{Game}
use Rattle.definitions.specs.Held.{next_place}
use Rattle.definitions.specs.Findings.{is_clean}
use Rattle.definitions.specs.Answers.{is_far, is_new, is_of_another}
use Rattle.socket_lines.specs.Seats.{asks}
use Rattle.peer_rules.specs.declared.arrivals.Arrival.{Arrival}
use Rattle.loop_rules.specs.Tables.{at_seat}
use Rattle.loop_rules.specs.Hearing.{Hearer}
use Rattle.loop_rules.specs.Views.{View}

-- the next place of the player in the log kept
abbrev pub next_of : View → ℕ → ℕ
next_of v q = next_place v.setting.game v.setting.me v.kept q

abbrev pub hearer_of : View → Hearer
hearer_of v = record { id = v.setting.game.id; next = next_of v }

-- the frame that waits is its player's own, another one than me
abbrev pub IsOfOther : Game → (me : ℕ) → Arrival → Type 0
IsOfOther game me a = is_of_another game me a.player a.frame ≡ true

-- these frames wait
abbrev pub with_waiting : List Arrival → View → View
with_waiting waiting v = record v { table = record v.table { waiting = waiting } }

-- a far frame is answered by one WANT for each next place of its player; one that the log has is passed over
abbrev pub passed : View → Arrival → View
passed v a =
    if is_far v.setting.game v.setting.me v.kept a.player a.frame
    then record v { table = at_seat a.player (asks (next_of v a.player)) v.table }
    else v

abbrev pub is_new_to : View → Arrival → Bool
is_new_to v a = is_new v.setting.game v.setting.me v.kept a.player a.frame

-- the frames that wait are handled up to the first that is new; after a finding none is logged
abbrev pub sorted : List Arrival → View → View
sorted [] v = with_waiting [] v
sorted (a ∷ more) v =
    if not (is_clean v.setting.game v.kept) then with_waiting [] v
    else if is_new_to v a then with_waiting (a ∷ more) v
    else sorted more (passed v a)

abbrev pub sorted_out : View → View
sorted_out v = sorted v.table.waiting v
