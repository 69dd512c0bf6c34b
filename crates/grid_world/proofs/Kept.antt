-- What is read is a session, and its text is the one that was read.
use Rattle.std.proofs.Common.{◌≡◌, ℕ, ◌+◌, ◌≤◌, Bool, true, false, List, [], ◌∷◌, ◌++◌, length, map, None, Ok, refl, sym, ap, subst, ◌∙◌, arith, inl, inr}
use Rattle.std.specs.Prelude.{not, ◌==◌, ◌||◌, if◌then◌else◌, IsTrue}
use Rattle.std.proofs.lemmas.Bool.{cases_Bool, and_from, eq-eqb, eqb-true, not_from_false, false≢true}
use Rattle.definitions.specs.declared.world.Cell.{Cell}
use Rattle.definitions.specs.declared.world.Seat.{Seat}
use Rattle.definitions.specs.declared.limits.TheConstants.{MOST_PLAYERS, MOST_PLAYERS_AT_FIRST, MOST_TURNS, MOST_TURNS_AT_FIRST, WIDEST_SIDE, WIDEST_SIDE_AT_FIRST}
use Rattle.definitions.specs.Lists.{EachIs}
use Rattle.definitions.specs.World.{Ground, Game, cell_eq, has_cell, is_inside, is_wall, is_open}
use Rattle.definitions.proofs.Cells.{cell_eq-true, cell_eq-same}
use Rattle.sha2.specs.Sha256.{sha256, digest_bytes}
use Rattle.grid_world.specs.Text.{head_lines, player_lines, wall_line, end_line, session_lines}
use Rattle.grid_world.specs.Grids.{IsGrid}
use Rattle.grid_world.specs.Sessions.{IsSession, game_of, starts_of}
use Rattle.grid_world.specs.Reading.{Head, head_at, first_player_line, seats_at, walls_at}
use Rattle.grid_world.proofs.Taken.{head_pieces, head_takes, seats_takes, walls_takes}

-- ---- lists of cells of which none is in the other

cell_eq-turned : (a b : Cell) → cell_eq a b ≡ false → cell_eq b a ≡ false
cell_eq-turned a b apart =
    elim (cases_Bool (cell_eq b a)) [
      | inl is ↦ absurd (false≢true (sym apart ∙ ap (λ (c : Cell). cell_eq a c) (cell_eq-true b a is) ∙ cell_eq-same a))
      | inr is ↦ is
    ]

or_parts : (a b : Bool) → (a || b) ≡ false → (a ≡ false) × (b ≡ false)
or_parts true b h = absurd cc
or_parts false b h = (refl, h)

from_parts : (a b : Bool) → a ≡ false → b ≡ false → (a || b) ≡ false
from_parts true b p q = absurd cc
from_parts false b p q = q

-- none of the cells is this one
apart_from : (c : Cell) (cells : List Cell) → has_cell cells c ≡ false → EachIs (λ d. cell_eq d c ≡ false) cells
apart_from c [] none = tt
apart_from c (d ∷ cells) none =
    let parts = or_parts (cell_eq c d) (has_cell cells c) none in
    (cell_eq-turned c d parts.0, apart_from c cells parts.1)

one_more : (c : Cell) (cells others : List Cell) → EachIs (λ d. cell_eq d c ≡ false) others → EachIs (λ d. has_cell cells d ≡ false) others → EachIs (λ d. has_cell (c ∷ cells) d ≡ false) others
one_more c cells [] first rest = tt
one_more c cells (d ∷ others) first rest = (from_parts (cell_eq d c) (has_cell cells d) first.0 rest.0, one_more c cells others first.1 rest.1)

all_apart_nil : (others : List Cell) → EachIs (λ d. has_cell [] d ≡ false) others
all_apart_nil [] = tt
all_apart_nil (d ∷ others) = (refl, all_apart_nil others)

pub apart_turned : (cells others : List Cell) → EachIs (λ c. has_cell others c ≡ false) cells → EachIs (λ d. has_cell cells d ≡ false) others
apart_turned [] others each = all_apart_nil others
apart_turned (c ∷ cells) others each = one_more c cells others (apart_from c others each.0) (apart_turned cells others each.1)

-- ---- limits that go by the version

-- a limit of both versions, from the one of each
pub limit_of : (version first later n : ℕ) → first ≤ later → n ≤ (if version == 1 then first else later) → n ≤ later
limit_of version first later n less h =
    elim (cases_Bool (version == 1)) [
      | inl is ↦ let few : n ≤ first = subst (λ (b : Bool). n ≤ (if b then first else later)) is h in omega (arith, few, less)
      | inr other ↦ subst (λ (b : Bool). n ≤ (if b then first else later)) other h
    ]

-- the limit of version 1
pub limit_at_first : (version first later n : ℕ) → version ≡ 1 → n ≤ (if version == 1 then first else later) → n ≤ first
limit_at_first version first later n is h = subst (λ (b : Bool). n ≤ (if b then first else later)) (eq-eqb version 1 is) h

-- the limit of the version, from that of version 1 and that of both
pub limit_by : (version first later n : ℕ) → (version ≡ 1 → n ≤ first) → n ≤ later → n ≤ (if version == 1 then first else later)
limit_by version first later n at_first h =
    elim (cases_Bool (version == 1)) [
      | inl is ↦ subst (λ (b : Bool). n ≤ (if b then first else later)) (sym is) (at_first (eqb-true version 1 is))
      | inr other ↦ subst (λ (b : Bool). n ≤ (if b then first else later)) (sym other) h
    ]

-- ---- the session

open_starts : (grid : Ground) (seats : List Seat) → EachIs (λ s. IsTrue (is_inside grid s.start)) seats → EachIs (λ c. has_cell grid.walls c ≡ false) (starts_of seats)
    → EachIs (λ s. IsTrue (is_open grid s.start)) seats
open_starts grid [] inside apart = tt
open_starts grid (s ∷ seats) inside apart =
    (and_from (is_inside grid s.start) (not (is_wall grid s.start)) inside.0 (not_from_false (is_wall grid s.start) apart.0), open_starts grid seats inside.1 apart.1)

-- the grid of a head, with walls
abbrev pub walled : Ground → List Cell → Ground
walled grid walls = record { width = grid.width; height = grid.height; walls = walls }

-- the session of the parts of a text
abbrev pub game_from : (id : List ℕ) → Head → List Seat → (walls : List Cell) → Game
game_from id head seats walls = game_of head.version id (walled head.grid walls) head.rules head.turns head.ahead seats

-- what was read, part by part
pub record ReadsParts (lines : List (List ℕ)) (head : Head) (seats : List Seat) (walls : List Cell) : Type 0 where
  pub seats_from : List (List ℕ)
  pub walls_from : List (List ℕ)
  pub head_is : head_at lines ≡ Ok (head, seats_from)
  pub seats_are : seats_at head head.players 0 seats_from ≡ Ok (seats, walls_from)
  pub walls_are : walls_at head.grid (starts_of seats) walls_from None (first_player_line head.version + head.players) ≡ Ok walls

-- what holds of a head of either version
pub record IsWithin (head : Head) : Type 0 where
  pub wide : head.grid.width ≤ WIDEST_SIDE
  pub high : head.grid.height ≤ WIDEST_SIDE
  pub turns : head.turns ≤ MOST_TURNS
  pub players : head.players ≤ MOST_PLAYERS
  -- the line behind those of the players
  pub early : first_player_line head.version + head.players ≤ 72

first_line_early : (version : ℕ) → first_player_line version ≤ 8
first_line_early version = elim (cases_Bool (version == 1)) [ inl is ↦ rw is (omega arith) | inr other ↦ rw other (omega arith) ]

pub head_within : (lines : List (List ℕ)) (head : Head) (rest : List (List ℕ)) → head_at lines ≡ Ok (head, rest) → IsWithin head
head_within lines head rest e =
    let first = (head_takes lines (head, rest) e).kept in
    let players = limit_of head.version MOST_PLAYERS_AT_FIRST MOST_PLAYERS head.players (omega arith) first.players.1 in
    record {
      wide = limit_of head.version WIDEST_SIDE_AT_FIRST WIDEST_SIDE head.grid.width (omega arith) first.width.1;
      high = limit_of head.version WIDEST_SIDE_AT_FIRST WIDEST_SIDE head.grid.height (omega arith) first.height.1;
      turns = limit_of head.version MOST_TURNS_AT_FIRST MOST_TURNS head.turns (omega arith) first.turns.1;
      players = players;
      early = omega (arith, players, first_line_early head.version);
    }

pub grid_kept : (lines : List (List ℕ)) (head : Head) (seats : List Seat) (walls : List Cell) → ReadsParts lines head seats walls → IsGrid (walled head.grid walls)
grid_kept lines head seats walls read =
    let first = (head_takes lines (head, read.seats_from) read.head_is).kept in
    let last = walls_takes head.grid (starts_of seats) read.walls_from None (first_player_line head.version + head.players) walls read.walls_are in
    let within = head_within lines head read.seats_from read.head_is in
    record { width = (first.width.0, within.wide); height = (first.height.0, within.high); walls = last.order; inside = last.inside }

pub session_kept : (id : List ℕ) (lines : List (List ℕ)) (head : Head) (seats : List Seat) (walls : List Cell) → length id ≡ 32 → ReadsParts lines head seats walls → IsSession (game_from id head seats walls)
session_kept id lines head seats walls bytes read =
    let first = (head_takes lines (head, read.seats_from) read.head_is).kept in
    let second = seats_takes head head.players 0 read.seats_from (seats, read.walls_from) first read.seats_are in
    let last = walls_takes head.grid (starts_of seats) read.walls_from None (first_player_line head.version + head.players) walls read.walls_are in
    let within = head_within lines head read.seats_from read.head_is in
    let count : length seats ≡ head.players = second.count in
    record {
      version = first.version;
      id = bytes;
      grid = grid_kept lines head seats walls read;
      speed = first.speed;
      reach = first.reach;
      blast = first.blast;
      start_charge = first.start_charge;
      cap = first.cap;
      cost = first.cost;
      turns = (first.turns.0, within.turns);
      ahead = first.ahead;
      players = rw count (first.players.0, within.players);
      turns_of_all = rw count first.turns_of_all;
      seats = second.within;
      starts = open_starts (walled head.grid walls) seats second.inside (apart_turned walls (starts_of seats) last.apart);
      of_version_1 = λ is. record {
        width = limit_at_first head.version WIDEST_SIDE_AT_FIRST WIDEST_SIDE head.grid.width is first.width.1;
        height = limit_at_first head.version WIDEST_SIDE_AT_FIRST WIDEST_SIDE head.grid.height is first.height.1;
        turns = limit_at_first head.version MOST_TURNS_AT_FIRST MOST_TURNS head.turns is first.turns.1;
        ahead = first.ahead_first is;
        players = rw count (limit_at_first head.version MOST_PLAYERS_AT_FIRST MOST_PLAYERS head.players is first.players.1);
        seats = second.first is;
      };
    }

-- ---- the text

-- the lines before those of the players, if there are so many players
head_lines-game : (id : List ℕ) (head : Head) (seats : List Seat) (walls : List Cell) → length seats ≡ head.players → head_pieces head ≡ head_lines (game_from id head seats walls)
head_lines-game id head seats walls count = rw count refl

pub lines_kept : (id : List ℕ) (lines : List (List ℕ)) (head : Head) (seats : List Seat) (walls : List Cell) → ReadsParts lines head seats walls → lines ≡ session_lines (game_from id head seats walls)
lines_kept id lines head seats walls read =
    let first = head_takes lines (head, read.seats_from) read.head_is in
    let second = seats_takes head head.players 0 read.seats_from (seats, read.walls_from) first.kept read.seats_are in
    let last = walls_takes head.grid (starts_of seats) read.walls_from None (first_player_line head.version + head.players) walls read.walls_are in
    let players : List (List ℕ) = player_lines head.rules seats 0 in
    first.spelled
    ∙ ap (λ (ls : List (List ℕ)). head_pieces head ++ ls) (second.spelled ∙ ap (λ (ls : List (List ℕ)). players ++ ls) last.spelled)
    ∙ ap (λ (ls : List (List ℕ)). ls ++ (players ++ (map wall_line walls ++ (end_line ∷ [])))) (head_lines-game id head seats walls second.count)

-- a digest has 32 bytes
pub length-sha256 : (text : List ℕ) → length (sha256 text) ≡ 32
unfolding sha256 digest_bytes
length-sha256 text = refl
