-- What is spelled is read: the text of a session is read as that session.
use Rattle.std.proofs.Common.{◌≡◌, ℕ, suc, ◌+◌, ◌^◌, ◌≤◌, ◌<◌, Bool, true, false, List, [], ◌∷◌, ◌++◌, length, map, Option, Some, None, Ok, refl, sym, ap, ◌∙◌, append_assoc, arith, inl, inr}
use Rattle.std.specs.Prelude.{codes, not, ◌*◌, ◌==◌, ◌&&◌, nat_le, nat_lt, IsTrue}
use Rattle.std.proofs.lemmas.Bool.{cases_Bool, eq-eqb, eqb-true, le-leb, ltb-true, and_parts, and_from, not-true, false≢true}
use Rattle.definitions.specs.declared.world.Cell.{Cell}
use Rattle.definitions.specs.declared.world.Seat.{Seat}
use Rattle.definitions.specs.declared.limits.TheConstants.{FARTHEST_REACH, FEWEST_PLAYERS, LAST_VERSION, MOST_AHEAD, MOST_CHARGE, MOST_PLAYERS, MOST_PLAYERS_AT_FIRST, MOST_SPEED, MOST_TURNS, MOST_TURNS_AT_FIRST, MOST_TURNS_OF_ALL, WIDEST_BLAST, WIDEST_SIDE, WIDEST_SIDE_AT_FIRST}
use Rattle.definitions.specs.Lists.{EachIs}
use Rattle.definitions.specs.World as world
use Rattle.definitions.specs.World.{Ground, Game, has_cell, is_inside, is_wall, is_open, is_before_first, in_row_order, players_of}
use Rattle.text_lines.specs.Lines.{line_of, ended_lines_of, is_within}
use Rattle.grid_world.specs.Text.{own_numbers, player_line, player_lines, wall_line, end_line, session_lines, session_text}
use Rattle.grid_world.specs.Sessions.{IsSession, IsSeat, GoesByTheRules, most_players, most_turns, starts_of, widest_side}
use Rattle.grid_world.specs.Reading.{version_at, sides_at, steps_at, charges_at, turns_at, ahead_at, first_player_line, players_at, Head, head_at, seat_at, seats_at, is_after, wall_at, walls_at, Said, said_by}
use Rattle.text_lines.proofs.Forms.{is_within-from, one_of-spelled, two_of-spelled, three_of-spelled, three_or_five_of-three, three_or_five_of-five}
use Rattle.text_lines.proofs.Joined.{AreLines, AreSmall, are_lines-append, bare_line, ended_lines_of-joined, line_of-line, one_line, two_line, three_line}
use Rattle.grid_world.proofs.Taken.{are_sides, are_steps, are_charges, ahead_pieces, head_pieces, follow, follow-Some}
use Rattle.grid_world.proofs.Kept.{apart_turned, limit_by}

-- ---- the lines before those of the players

version_again : (v : ℕ) (rest : List (List ℕ)) → v < 2 ^ 32 → is_within 1 LAST_VERSION v ≡ true → version_at (line_of (codes "playout") (v ∷ []) ∷ rest) ≡ Ok (v, rest)
unfolding version_at
version_again v rest small kept = rw (one_of-spelled (codes "playout") v small, kept) refl

sides_again : (v w h : ℕ) (rest : List (List ℕ)) → w < 2 ^ 32 → h < 2 ^ 32 → are_sides v (w, h) ≡ true → sides_at v (line_of (codes "grid") (w ∷ h ∷ []) ∷ rest) ≡ Ok ((w, h), rest)
unfolding sides_at
sides_again v w h rest w_small h_small kept = rw (two_of-spelled (codes "grid") w h w_small h_small, kept) refl

steps_again : (a b c : ℕ) (rest : List (List ℕ)) → a < 2 ^ 32 → b < 2 ^ 32 → c < 2 ^ 32 → are_steps (a, b, c) ≡ true → steps_at (line_of (codes "rules") (a ∷ b ∷ c ∷ []) ∷ rest) ≡ Ok ((a, b, c), rest)
unfolding steps_at
steps_again a b c rest a_small b_small c_small kept = rw (three_of-spelled (codes "rules") a b c a_small b_small c_small, kept) refl

charges_again : (a b c : ℕ) (rest : List (List ℕ)) → a < 2 ^ 32 → b < 2 ^ 32 → c < 2 ^ 32 → are_charges (a, b, c) ≡ true → charges_at (line_of (codes "charge") (a ∷ b ∷ c ∷ []) ∷ rest) ≡ Ok ((a, b, c), rest)
unfolding charges_at
charges_again a b c rest a_small b_small c_small kept = rw (three_of-spelled (codes "charge") a b c a_small b_small c_small, kept) refl

turns_again : (v n : ℕ) (rest : List (List ℕ)) → n < 2 ^ 32 → is_within 1 (most_turns v) n ≡ true → turns_at v (line_of (codes "turns") (n ∷ []) ∷ rest) ≡ Ok (n, rest)
unfolding turns_at
turns_again v n rest small kept = rw (one_of-spelled (codes "turns") n small, kept) refl

ahead_again : (v n : ℕ) (rest : List (List ℕ)) → n < 2 ^ 32 → is_within 1 MOST_AHEAD n ≡ true → (v ≡ 1 → n ≡ 1) → ahead_at v (ahead_pieces v n ++ rest) ≡ Ok (n, rest)
unfolding ahead_at
ahead_again v n rest small kept first =
    elim (cases_Bool (v == 1)) [
      | inl is ↦ rw is (ap (λ (m : ℕ). Ok (m, rest)) (sym (first (eqb-true v 1 is))))
      | inr other ↦ rw (other, one_of-spelled (codes "ahead") n small, kept) refl
    ]

players_again : (v t n : ℕ) (rest : List (List ℕ)) → n < 2 ^ 32 → is_within FEWEST_PLAYERS (most_players v) n ≡ true → nat_le (n * t) MOST_TURNS_OF_ALL ≡ true
    → players_at v t (line_of (codes "players") (n ∷ []) ∷ rest) ≡ Ok (n, rest)
unfolding players_at
players_again v t n rest small kept few = rw (one_of-spelled (codes "players") n small, kept, few) refl

-- the head that the lines of a session say before those of the players
abbrev pub head_of : Game → Head
head_of game = record { version = game.version; grid = record { width = game.grid.width; height = game.grid.height; walls = [] }; rules = game.rules; turns = game.turns; ahead = game.ahead; players = players_of game }

pub head_again : (game : Game) (rest : List (List ℕ)) → IsSession game → head_at (head_pieces (head_of game) ++ rest) ≡ Ok (head_of game, rest)
unfolding head_at
head_again game rest facts =
    let v : ℕ = game.version in
    let g = facts.grid in
    let width = is_within-from 1 (widest_side v) game.grid.width (g.width.0, limit_by v WIDEST_SIDE_AT_FIRST WIDEST_SIDE game.grid.width (λ is. (facts.of_version_1 is).width) g.width.1) in
    let height = is_within-from 1 (widest_side v) game.grid.height (g.height.0, limit_by v WIDEST_SIDE_AT_FIRST WIDEST_SIDE game.grid.height (λ is. (facts.of_version_1 is).height) g.height.1) in
    let sides : are_sides v (game.grid.width, game.grid.height) ≡ true = and_from _ _ width height in
    let r = game.rules in
    let steps : are_steps (r.speed, r.reach, r.blast) ≡ true = and_from _ _ (is_within-from 1 MOST_SPEED r.speed facts.speed) (and_from _ _ (le-leb r.reach FARTHEST_REACH facts.reach) (le-leb r.blast WIDEST_BLAST facts.blast)) in
    let start : r.start_charge ≤ MOST_CHARGE = omega (arith, facts.start_charge, facts.cap) in
    let charges : are_charges (r.start_charge, r.cap, r.cost) ≡ true =
    and_from _ _ (le-leb r.start_charge MOST_CHARGE start) (and_from _ _ (le-leb r.cap MOST_CHARGE facts.cap) (and_from _ _ (le-leb r.cost MOST_CHARGE facts.cost) (le-leb r.start_charge r.cap facts.start_charge))) in
    let turns = is_within-from 1 (most_turns v) game.turns (facts.turns.0, limit_by v MOST_TURNS_AT_FIRST MOST_TURNS game.turns (λ is. (facts.of_version_1 is).turns) facts.turns.1) in
    let players = is_within-from FEWEST_PLAYERS (most_players v) (players_of game) (facts.players.0, limit_by v MOST_PLAYERS_AT_FIRST MOST_PLAYERS (players_of game) (λ is. (facts.of_version_1 is).players) facts.players.1) in
    rw (
      version_again v _ (omega (arith, facts.version.1)) (is_within-from 1 LAST_VERSION v facts.version),
      sides_again v game.grid.width game.grid.height _ (omega (arith, g.width.1)) (omega (arith, g.height.1)) sides,
      steps_again r.speed r.reach r.blast _ (omega (arith, facts.speed.1)) (omega (arith, facts.reach)) (omega (arith, facts.blast)) steps,
      charges_again r.start_charge r.cap r.cost _ (omega (arith, start)) (omega (arith, facts.cap)) (omega (arith, facts.cost)) charges,
      turns_again v game.turns _ (omega (arith, facts.turns.1)) turns,
      append_assoc (ahead_pieces v game.ahead) (line_of (codes "players") (players_of game ∷ []) ∷ []) rest,
      ahead_again v game.ahead _ (omega (arith, facts.ahead.1)) (is_within-from 1 MOST_AHEAD game.ahead facts.ahead) (λ is. (facts.of_version_1 is).ahead),
      players_again v game.turns (players_of game) rest (omega (arith, facts.players.1)) players (le-leb _ _ facts.turns_of_all),
    ) refl

-- ---- players and walls

-- a cell inside a grid has small numbers
small_cell : (grid : Ground) (c : Cell) → grid.width ≤ WIDEST_SIDE → grid.height ≤ WIDEST_SIDE → is_inside grid c ≡ true → (c.x < 2 ^ 32) × (c.y < 2 ^ 32)
small_cell grid c wide high inside =
    let both = and_parts (nat_lt c.x grid.width) (nat_lt c.y grid.height) inside in
    let left : c.x < grid.width = ltb-true c.x grid.width both.0 in
    let above : c.y < grid.height = ltb-true c.y grid.height both.1 in
    (omega arith, omega arith)

-- a player walks and strikes as the rules say
abbrev goes_by : world.Rules → Seat → Bool
goes_by rules s = (s.speed == rules.speed) && (s.reach == rules.reach)

-- a seat whose player has no numbers of its own
seat_alike : (rules : world.Rules) (s : Seat) → goes_by rules s ≡ true → record { start = s.start; speed = rules.speed; reach = rules.reach } ≡ s
seat_alike rules s is =
    let both = and_parts (s.speed == rules.speed) (s.reach == rules.reach) is in
    let with_speed : ℕ → Seat = λ n. record { start = s.start; speed = n; reach = rules.reach } in
    let with_reach : ℕ → Seat = λ n. record { start = s.start; speed = s.speed; reach = n } in
    ap with_speed (sym (eqb-true s.speed rules.speed both.0)) ∙ ap with_reach (sym (eqb-true s.reach rules.reach both.1))

-- in version 1 no player has numbers of its own
not_at_first : (version : ℕ) (rules : world.Rules) (s : Seat) → (version ≡ 1 → GoesByTheRules rules s) → goes_by rules s ≡ false → (version == 1) ≡ false
not_at_first version rules s first own =
    elim (cases_Bool (version == 1)) [
      | inl is ↦
          let by = first (eqb-true version 1 is) in
          absurd (false≢true (sym own ∙ and_from (s.speed == rules.speed) (s.reach == rules.reach) (eq-eqb s.speed rules.speed by.speed) (eq-eqb s.reach rules.reach by.reach)))
      | inr other ↦ other
    ]

-- what is asked of a seat, so that its line is read again
pub record MaySit (head : Head) (s : Seat) : Type 0 where
  pub inside : is_inside head.grid s.start ≡ true
  pub within : IsSeat s
  pub first : head.version ≡ 1 → GoesByTheRules head.rules s

-- the grid of the head is one of a session
pub record IsRoom (head : Head) : Type 0 where
  pub wide : head.grid.width ≤ WIDEST_SIDE
  pub high : head.grid.height ≤ WIDEST_SIDE

seat_again : (head : Head) (s : Seat) (q : ℕ) (rest : List (List ℕ)) → IsRoom head → q < 2 ^ 32 → MaySit head s → seat_at head q (player_line head.rules s q ∷ rest) ≡ Ok (s, rest)
unfolding seat_at
seat_again head s q rest room small may =
    let cell = small_cell head.grid s.start room.wide room.high may.inside in
    elim (cases_Bool (goes_by head.rules s)) [
      | inl alike ↦
          rw (alike, three_or_five_of-three (codes "player") q s.start.x s.start.y small cell.0 cell.1, eq-eqb q q refl, may.inside)
          (ap (λ (t : Seat). Ok (t, rest)) (seat_alike head.rules s alike))
      | inr own ↦
          let by_version = not_at_first head.version head.rules s may.first own in
          let speed = is_within-from 1 MOST_SPEED s.speed may.within.speed in
          let reach = le-leb s.reach FARTHEST_REACH may.within.reach in
          rw (
            own,
            three_or_five_of-five (codes "player") q s.start.x s.start.y s.speed s.reach small cell.0 cell.1 (omega (arith, may.within.speed.1)) (omega (arith, may.within.reach)),
            by_version,
            eq-eqb q q refl,
            may.inside,
            speed,
            reach,
            own,
          ) refl
    ]

pub seats_again : (head : Head) (seats : List Seat) (q : ℕ) (rest : List (List ℕ)) → IsRoom head → q + length seats ≤ MOST_PLAYERS → EachIs (MaySit head) seats
    → seats_at head (length seats) q (player_lines head.rules seats q ++ rest) ≡ Ok (seats, rest)
unfolding seats_at
seats_again head [] q rest room few may = refl
seats_again head (s ∷ seats) q rest room few may =
    rw (seat_again head s q (player_lines head.rules seats (suc q) ++ rest) room (omega (arith, few)) may.0, seats_again head seats (suc q) rest room (omega (arith, few)) may.1) refl

wall_again : (grid : Ground) (starts : List Cell) (before : Option Cell) (n : ℕ) (c : Cell) → grid.width ≤ WIDEST_SIDE → grid.height ≤ WIDEST_SIDE
    → is_inside grid c ≡ true → is_after before c ≡ true → has_cell starts c ≡ false → wall_at grid starts before n (wall_line c) ≡ Ok c
unfolding wall_at
wall_again grid starts before n c wide high inside after apart =
    let cell = small_cell grid c wide high inside in
    rw (two_of-spelled (codes "wall") c.x c.y cell.0 cell.1, inside, after, apart) refl

pub walls_again : (grid : Ground) (starts : List Cell) (walls : List Cell) (before : Option Cell) (n : ℕ) → grid.width ≤ WIDEST_SIDE → grid.height ≤ WIDEST_SIDE
    → EachIs (λ c. IsTrue (is_inside grid c)) walls → EachIs (λ c. has_cell starts c ≡ false) walls → in_row_order walls ≡ true → follow before walls ≡ true
    → walls_at grid starts (map wall_line walls ++ (end_line ∷ [])) before n ≡ Ok walls
unfolding walls_at
walls_again grid starts [] before n wide high inside apart order after = refl
walls_again grid starts (c ∷ walls) before n wide high inside apart order after =
    let both = and_parts (is_before_first c walls) (in_row_order walls) order in
    rw (wall_again grid starts before n c wide high inside.0 after apart.0, walls_again grid starts walls (Some c) (suc n) wide high inside.1 apart.1 both.1 (follow-Some c walls ∙ both.0)) refl

-- ---- the session

-- what is asked of seats holds of those of a session
seats_may : (head : Head) (seats : List Seat) (grid : Ground) → EachIs IsSeat seats → EachIs (λ s. IsTrue (is_open grid s.start)) seats → (head.version ≡ 1 → EachIs (GoesByTheRules head.rules) seats)
    → grid.width ≡ head.grid.width → grid.height ≡ head.grid.height → EachIs (MaySit head) seats
seats_may head [] grid within apart first wide high = tt
seats_may head (s ∷ seats) grid within apart first wide high =
    let inside : is_inside grid s.start ≡ true = (and_parts (is_inside grid s.start) (not (is_wall grid s.start)) apart.0).0 in
    (record { inside = rw (← wide, ← high) inside; within = within.0; first = λ is. (first is).0 }, seats_may head seats grid within.1 apart.1 (λ is. (first is).1) wide high)

game_may : (game : Game) → IsSession game → EachIs (MaySit (head_of game)) game.seats
game_may game facts = seats_may (head_of game) game.seats game.grid facts.seats facts.starts (λ is. (facts.of_version_1 is).seats) refl refl

game_room : (game : Game) → IsSession game → IsRoom (head_of game)
game_room game facts = record { wide = facts.grid.width.1; high = facts.grid.height.1 }

starts_apart : (grid : Ground) (seats : List Seat) → EachIs (λ s. IsTrue (is_open grid s.start)) seats → EachIs (λ c. has_cell grid.walls c ≡ false) (starts_of seats)
starts_apart grid [] each = tt
starts_apart grid (s ∷ seats) each = (not-true (is_wall grid s.start) (and_parts (is_inside grid s.start) (not (is_wall grid s.start)) each.0).1, starts_apart grid seats each.1)

-- what the text of a session says
abbrev pub said_of : Game → Said
said_of game = record { version = game.version; grid = game.grid; rules = game.rules; turns = game.turns; ahead = game.ahead; seats = game.seats }

pub said_again : (game : Game) → IsSession game → said_by (session_lines game) ≡ Ok (said_of game)
unfolding said_by
said_again game facts =
    let grid : Ground = (head_of game).grid in
    let starts : List Cell = starts_of game.seats in
    let last : List (List ℕ) = map wall_line game.grid.walls ++ (end_line ∷ []) in
    let players : List (List ℕ) = player_lines game.rules game.seats 0 in
    let n : ℕ = first_player_line game.version + players_of game in
    let one : head_at (head_pieces (head_of game) ++ (players ++ last)) ≡ Ok (head_of game, players ++ last) = head_again game (players ++ last) facts in
    let two : seats_at (head_of game) (players_of game) 0 (players ++ last) ≡ Ok (game.seats, last) = seats_again (head_of game) game.seats 0 last (game_room game facts) (omega (arith, facts.players.1)) (game_may game facts) in
    let three : walls_at grid starts last None n ≡ Ok game.grid.walls =
    walls_again grid starts game.grid.walls None n facts.grid.width.1 facts.grid.height.1 facts.grid.inside (apart_turned starts game.grid.walls (starts_apart game.grid game.seats facts.starts)) facts.grid.walls (any_follows game.grid.walls) in
    rw (one, two, three) refl
  where
    any_follows : (cells : List Cell) → follow None cells ≡ true
    any_follows [] = refl
    any_follows (c ∷ cells) = refl

-- ---- the lines of the text

ahead_are : (game : Game) → IsSession game → AreLines (ahead_pieces game.version game.ahead)
ahead_are game facts =
    elim (cases_Bool (game.version == 1)) [
      | inl is ↦ rw is tt
      | inr other ↦ rw other (one_line (codes "ahead") game.ahead refl (omega (arith, facts.ahead.1)), tt)
    ]

head_are : (game : Game) → IsSession game → AreLines (head_pieces (head_of game))
head_are game facts =
    let r = game.rules in
    let g = facts.grid in
    let players : AreLines (line_of (codes "players") (players_of game ∷ []) ∷ []) = (one_line (codes "players") (players_of game) refl (omega (arith, facts.players.1)), tt) in (
      one_line (codes "playout") game.version refl (omega (arith, facts.version.1)),
      (
        two_line (codes "grid") game.grid.width game.grid.height refl (omega (arith, g.width.1)) (omega (arith, g.height.1)),
        (
          three_line (codes "rules") r.speed r.reach r.blast refl (omega (arith, facts.speed.1)) (omega (arith, facts.reach)) (omega (arith, facts.blast)),
          (
            three_line (codes "charge") r.start_charge r.cap r.cost refl (omega (arith, facts.start_charge, facts.cap)) (omega (arith, facts.cap)) (omega (arith, facts.cost)),
            (one_line (codes "turns") game.turns refl (omega (arith, facts.turns.1)), are_lines-append (ahead_pieces game.version game.ahead) _ (ahead_are game facts) players),
          ),
        ),
      ),
    )

-- the player's own numbers are small
own_small : (rules : world.Rules) (s : Seat) → IsSeat s → AreSmall (own_numbers rules s)
own_small rules s within =
    elim (cases_Bool (goes_by rules s)) [ inl alike ↦ rw alike tt | inr own ↦ rw own (omega (arith, within.speed.1), (omega (arith, within.reach), tt)) ]

players_are : (head : Head) (seats : List Seat) (q : ℕ) → IsRoom head → q + length seats ≤ MOST_PLAYERS → EachIs (MaySit head) seats → AreLines (player_lines head.rules seats q)
players_are head [] q room few may = tt
players_are head (s ∷ seats) q room few may =
    let cell = small_cell head.grid s.start room.wide room.high may.0.inside in
    let small : AreSmall (q ∷ s.start.x ∷ s.start.y ∷ own_numbers head.rules s) = (omega (arith, few), (cell.0, (cell.1, own_small head.rules s may.0.within))) in
    (line_of-line (codes "player") (q ∷ s.start.x ∷ s.start.y ∷ own_numbers head.rules s) refl small, players_are head seats (suc q) room (omega (arith, few)) may.1)

walls_are : (grid : Ground) (walls : List Cell) → grid.width ≤ WIDEST_SIDE → grid.height ≤ WIDEST_SIDE → EachIs (λ c. IsTrue (is_inside grid c)) walls → AreLines (map wall_line walls)
walls_are grid [] wide high inside = tt
walls_are grid (c ∷ walls) wide high inside =
    let cell = small_cell grid c wide high inside.0 in
    (two_line (codes "wall") c.x c.y refl cell.0 cell.1, walls_are grid walls wide high inside.1)

pub ended_lines_of-session_text : (game : Game) → IsSession game → ended_lines_of (session_text game) ≡ session_lines game
unfolding session_text
ended_lines_of-session_text game facts =
    let last : AreLines (end_line ∷ []) = (bare_line (codes "end") refl, tt) in
    let behind = are_lines-append (map wall_line game.grid.walls) (end_line ∷ []) (walls_are game.grid game.grid.walls facts.grid.width.1 facts.grid.height.1 facts.grid.inside) last in
    let more = are_lines-append (player_lines game.rules game.seats 0) (map wall_line game.grid.walls ++ (end_line ∷ [])) (players_are (head_of game) game.seats 0 (game_room game facts) (omega (arith, facts.players.1)) (game_may game facts)) behind in
    ended_lines_of-joined _ (are_lines-append (head_pieces (head_of game)) (player_lines game.rules game.seats 0 ++ (map wall_line game.grid.walls ++ (end_line ∷ []))) (head_are game facts) more)
