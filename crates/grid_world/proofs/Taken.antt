-- What is read keeps the rules, and its lines are spelled so.
use Rattle.std.proofs.Common.{◌≡◌, ℕ, zero, suc, ◌+◌, ◌≤◌, Bool, true, false, List, [], ◌∷◌, ◌++◌, length, map, Option, Some, None, Ok, refl, sym, ap, subst, ◌∙◌, append_assoc, inl, inr}
use Rattle.std.specs.Prelude.{codes, not, ◌*◌, ◌==◌, ◌&&◌, ◌||◌, if◌then◌else◌, is_none, nat_le, IsTrue}
use Rattle.std.specs.Cmp.Lexicographic.{same_text}
use Rattle.std.proofs.lemmas.Bool.{eqb-true, eq-eqb, leb-true, and_parts, and_from, or_cases, not-true, false≢true}
use Rattle.definitions.specs.declared.limits.TheConstants.{FARTHEST_REACH, FEWEST_PLAYERS, LAST_VERSION, MOST_AHEAD, MOST_CHARGE, MOST_SPEED, MOST_TURNS_OF_ALL, WIDEST_BLAST}
use Rattle.definitions.specs.declared.world.Cell.{Cell}
use Rattle.definitions.specs.declared.world.Seat.{Seat}
use Rattle.definitions.specs.declared.sessions.SessionRule.TheVariants.{S1, S2, S3, S4, S5, S6, S7, S8, S10, S11, S12}
use Rattle.definitions.specs.Lists.{EachIs}
use Rattle.definitions.specs.World as world
use Rattle.definitions.specs.World.{Ground, has_cell, is_inside, is_before_first, in_row_order}
use Rattle.text_lines.specs.Lines.{line_of, is_bare, is_within, one_of, two_of, three_of, three_or_five_of}
use Rattle.grid_world.specs.Sessions.{IsSeat, GoesByTheRules, most_players, most_turns, widest_side}
use Rattle.grid_world.specs.Text.{player_line, player_lines, wall_line, end_line}
use Rattle.text_lines.specs.Reading.{ends_at, line_at}
use Rattle.text_lines.proofs.Steps.{behind_line, bind_ok, keeps_ok, kept_ok, line_at_ok, line_at_spelled, none_behind, ok_is, takes_line}
use Rattle.grid_world.specs.declared.fault.SessionFault.{SessionFault}
use Rattle.grid_world.specs.declared.fault.SessionFault.TheVariants.{At}
use Rattle.grid_world.specs.Reading.{version_at, sides_at, steps_at, charges_at, turns_at, ahead_at, players_line, first_player_line, players_at, Head, head_at, cell_at, may_be_own, seat_by, seat_at, seats_at, is_after, wall_at, walls_at}
use Rattle.grid_world.proofs.Steps.{wall_at_ok}
use Rattle.text_lines.specs.Laws.{two_more}
use Rattle.text_lines.proofs.Forms.{within_of, one_of-some, two_of-some, three_of-some, three_or_five_of-some}
use Rattle.plain_lemmas.proofs.Tests.{chosen}

-- ---- the lines before those of the players

-- lines of one number, of two and of three
abbrev of_one : List ℕ → ℕ → List ℕ
of_one name n = line_of name (n ∷ [])

abbrev of_two : List ℕ → ℕ × ℕ → List ℕ
of_two name x = line_of name (x.0 ∷ x.1 ∷ [])

abbrev of_three : List ℕ → ℕ × ℕ × ℕ → List ℕ
of_three name x = line_of name (x.0 ∷ x.1 ∷ x.2 ∷ [])

-- the line that says how many turns ahead players commit, if the version has one
abbrev pub ahead_pieces : (version ahead : ℕ) → List (List ℕ)
ahead_pieces version ahead = if version == 1 then [] else line_of (codes "ahead") (ahead ∷ []) ∷ []

record TakesAhead (version : ℕ) (lines : List (List ℕ)) (x : ℕ × List (List ℕ)) : Type 0 where
  spelled : lines ≡ ahead_pieces version x.0 ++ x.1
  kept : is_within 1 MOST_AHEAD x.0 ≡ true
  first : version ≡ 1 → x.0 ≡ 1

ahead_takes : (version : ℕ) (lines : List (List ℕ)) (x : ℕ × List (List ℕ)) → ahead_at version lines ≡ Ok x → TakesAhead version lines x
unfolding ahead_at
ahead_takes version lines x e =
    elim (chosen (version == 1) _ _ _ e) [
      | inl one ↦ subst (λ (y : ℕ × List (List ℕ)). TakesAhead version lines y) {x = (1, lines)} (ok_is {E = SessionFault} _ _ one.1) (record { spelled = rw one.0 refl; kept = refl; first = λ is. refl })
      | inr other ↦
          let line = takes_line (At 6 S1) (At 6 S10) (one_of (codes "ahead")) (of_one (codes "ahead")) (is_within 1 MOST_AHEAD) lines x (one_of-some (codes "ahead")) other.1 in
          record { spelled = rw other.0 line.spelled; kept = line.kept; first = λ is. absurd (false≢true (sym other.0 ∙ eq-eqb version 1 is)) }
    ]

record TakesPlayers (version turns : ℕ) (lines : List (List ℕ)) (x : ℕ × List (List ℕ)) : Type 0 where
  spelled : lines ≡ line_of (codes "players") (x.0 ∷ []) ∷ x.1
  kept : is_within FEWEST_PLAYERS (most_players version) x.0 ≡ true
  few : nat_le (x.0 * turns) MOST_TURNS_OF_ALL ≡ true

players_takes : (version turns : ℕ) (lines : List (List ℕ)) (x : ℕ × List (List ℕ)) → players_at version turns lines ≡ Ok x → TakesPlayers version turns lines x
unfolding players_at
players_takes version turns lines x e =
    let n : ℕ = players_line version in
    let a = bind_ok (line_at (At n S1) (one_of (codes "players")) lines) _ x e in
    let kept = kept_ok (At n S7) (is_within FEWEST_PLAYERS (most_players version) a.0.0) a.0 _ x a.2 in
    let few = keeps_ok (At n S12) (nat_le (a.0.0 * turns) MOST_TURNS_OF_ALL) a.0 x kept.1 in
    let line = line_at_spelled (At n S1) (one_of (codes "players")) (of_one (codes "players")) lines a.0 (one_of-some (codes "players")) a.1 in
    subst (λ (y : ℕ × List (List ℕ)). TakesPlayers version turns lines y) {x = a.0} few.1
    (record { spelled = line; kept = kept.0; few = few.0 })

-- the tests of these lines
abbrev pub are_sides : (version : ℕ) → ℕ × ℕ → Bool
are_sides version s = is_within 1 (widest_side version) s.0 && is_within 1 (widest_side version) s.1

abbrev pub are_steps : ℕ × ℕ × ℕ → Bool
are_steps s = is_within 1 MOST_SPEED s.0 && (nat_le s.1 FARTHEST_REACH && nat_le s.2 WIDEST_BLAST)

abbrev pub are_charges : ℕ × ℕ × ℕ → Bool
are_charges c = nat_le c.0 MOST_CHARGE && (nat_le c.1 MOST_CHARGE && (nat_le c.2 MOST_CHARGE && nat_le c.0 c.1))

-- what the lines before those of the players say keeps their rules
pub record IsHead (head : Head) : Type 0 where
  pub version : (1 ≤ head.version) × (head.version ≤ LAST_VERSION)
  pub width : (1 ≤ head.grid.width) × (head.grid.width ≤ widest_side head.version)
  pub height : (1 ≤ head.grid.height) × (head.grid.height ≤ widest_side head.version)
  pub bare : head.grid.walls ≡ []
  pub speed : (1 ≤ head.rules.speed) × (head.rules.speed ≤ MOST_SPEED)
  pub reach : head.rules.reach ≤ FARTHEST_REACH
  pub blast : head.rules.blast ≤ WIDEST_BLAST
  pub start_charge : head.rules.start_charge ≤ head.rules.cap
  pub cap : head.rules.cap ≤ MOST_CHARGE
  pub cost : head.rules.cost ≤ MOST_CHARGE
  pub turns : (1 ≤ head.turns) × (head.turns ≤ most_turns head.version)
  pub ahead : (1 ≤ head.ahead) × (head.ahead ≤ MOST_AHEAD)
  pub ahead_first : head.version ≡ 1 → head.ahead ≡ 1
  pub players : (FEWEST_PLAYERS ≤ head.players) × (head.players ≤ most_players head.version)
  pub turns_of_all : head.players * head.turns ≤ MOST_TURNS_OF_ALL

-- the lines of a text before those of the players
abbrev pub head_pieces : Head → List (List ℕ)
head_pieces head =
    line_of (codes "playout") (head.version ∷ [])
    ∷ line_of (codes "grid") (head.grid.width ∷ head.grid.height ∷ [])
    ∷ line_of (codes "rules") (head.rules.speed ∷ head.rules.reach ∷ head.rules.blast ∷ [])
    ∷ line_of (codes "charge") (head.rules.start_charge ∷ head.rules.cap ∷ head.rules.cost ∷ [])
    ∷ line_of (codes "turns") (head.turns ∷ [])
    ∷ ahead_pieces head.version head.ahead ++ line_of (codes "players") (head.players ∷ [])
    ∷ []

pub record TakesHead (lines : List (List ℕ)) (x : Head × List (List ℕ)) : Type 0 where
  pub spelled : lines ≡ head_pieces x.0 ++ x.1
  pub kept : IsHead x.0

-- the numbers of the lines make up what they say
abbrev head_from : ℕ → ℕ × ℕ → ℕ × ℕ × ℕ → ℕ × ℕ × ℕ → ℕ → ℕ → ℕ → Head
head_from version sides steps charges turns ahead players = record {
  version = version;
  grid = record { width = sides.0; height = sides.1; walls = [] };
  rules = record { speed = steps.0; reach = steps.1; blast = steps.2; start_charge = charges.0; cap = charges.1; cost = charges.2 };
  turns = turns;
  ahead = ahead;
  players = players;
}

head_kept : (version : ℕ) (sides : ℕ × ℕ) (steps charges : ℕ × ℕ × ℕ) (turns ahead players : ℕ) → is_within 1 LAST_VERSION version ≡ true → are_sides version sides ≡ true → are_steps steps ≡ true
    → are_charges charges ≡ true → is_within 1 (most_turns version) turns ≡ true → is_within 1 MOST_AHEAD ahead ≡ true → (version ≡ 1 → ahead ≡ 1)
    → is_within FEWEST_PLAYERS (most_players version) players ≡ true → nat_le (players * turns) MOST_TURNS_OF_ALL ≡ true → IsHead (head_from version sides steps charges turns ahead players)
head_kept version sides steps charges turns ahead players version_is sides_are steps_are charges_are turns_are ahead_is ahead_first players_are few =
    let two = and_parts (is_within 1 (widest_side version) sides.0) (is_within 1 (widest_side version) sides.1) sides_are in
    let speed = and_parts (is_within 1 MOST_SPEED steps.0) (nat_le steps.1 FARTHEST_REACH && nat_le steps.2 WIDEST_BLAST) steps_are in
    let far = and_parts (nat_le steps.1 FARTHEST_REACH) (nat_le steps.2 WIDEST_BLAST) speed.1 in
    let start = and_parts (nat_le charges.0 MOST_CHARGE) (nat_le charges.1 MOST_CHARGE && (nat_le charges.2 MOST_CHARGE && nat_le charges.0 charges.1)) charges_are in
    let cap = and_parts (nat_le charges.1 MOST_CHARGE) (nat_le charges.2 MOST_CHARGE && nat_le charges.0 charges.1) start.1 in
    let cost = and_parts (nat_le charges.2 MOST_CHARGE) (nat_le charges.0 charges.1) cap.1 in
    record {
      version = within_of 1 LAST_VERSION version version_is;
      width = within_of 1 (widest_side version) sides.0 two.0;
      height = within_of 1 (widest_side version) sides.1 two.1;
      bare = refl;
      speed = within_of 1 MOST_SPEED steps.0 speed.0;
      reach = leb-true steps.1 FARTHEST_REACH far.0;
      blast = leb-true steps.2 WIDEST_BLAST far.1;
      start_charge = leb-true charges.0 charges.1 cost.1;
      cap = leb-true charges.1 MOST_CHARGE cap.0;
      cost = leb-true charges.2 MOST_CHARGE cost.0;
      turns = within_of 1 (most_turns version) turns turns_are;
      ahead = within_of 1 MOST_AHEAD ahead ahead_is;
      ahead_first = ahead_first;
      players = within_of FEWEST_PLAYERS (most_players version) players players_are;
      turns_of_all = leb-true (players * turns) MOST_TURNS_OF_ALL few;
    }

-- the line of the turns ahead, if there is one, that of the players, and the lines behind them
last_behind : (ahead l5 l6 l7 : List (List ℕ)) (players : List ℕ) → l5 ≡ ahead ++ l6 → l6 ≡ players ∷ l7 → l5 ≡ (ahead ++ players ∷ []) ++ l7
last_behind ahead l5 l6 l7 players t u = t ∙ ap (λ (ls : List (List ℕ)). ahead ++ ls) u ∙ sym (append_assoc ahead (players ∷ []) l7)

-- the lines before those of the players, and the lines behind them
all_behind : (l0 l1 l2 l3 l4 l5 l6 l7 : List (List ℕ)) (head : Head) → l0 ≡ line_of (codes "playout") (head.version ∷ []) ∷ l1 → l1 ≡ line_of (codes "grid") (head.grid.width ∷ head.grid.height ∷ []) ∷ l2
    → l2 ≡ line_of (codes "rules") (head.rules.speed ∷ head.rules.reach ∷ head.rules.blast ∷ []) ∷ l3 → l3 ≡ line_of (codes "charge") (head.rules.start_charge ∷ head.rules.cap ∷ head.rules.cost ∷ []) ∷ l4
    → l4 ≡ line_of (codes "turns") (head.turns ∷ []) ∷ l5 → l5 ≡ ahead_pieces head.version head.ahead ++ l6 → l6 ≡ line_of (codes "players") (head.players ∷ []) ∷ l7 → l0 ≡ head_pieces head ++ l7
all_behind l0 l1 l2 l3 l4 l5 l6 l7 head p q r s t u v =
    behind_line l0 l1 _ _ p (behind_line l1 l2 _ _ q (behind_line l2 l3 _ _ r (behind_line l3 l4 _ _ s (behind_line l4 l5 _ _ t
    (last_behind (ahead_pieces head.version head.ahead) l5 l6 l7 (line_of (codes "players") (head.players ∷ [])) u v)))))

pub head_takes : (lines : List (List ℕ)) (x : Head × List (List ℕ)) → head_at lines ≡ Ok x → TakesHead lines x
unfolding head_at version_at sides_at steps_at charges_at turns_at
head_takes lines x e =
    let a = bind_ok (version_at lines) _ x e in
    let b = bind_ok (sides_at a.0.0 a.0.1) _ x a.2 in
    let c = bind_ok (steps_at b.0.1) _ x b.2 in
    let d = bind_ok (charges_at c.0.1) _ x c.2 in
    let f = bind_ok (turns_at a.0.0 d.0.1) _ x d.2 in
    let g = bind_ok (ahead_at a.0.0 f.0.1) _ x f.2 in
    let h = bind_ok (players_at a.0.0 f.0.0 g.0.1) _ x g.2 in
    let one = takes_line (At 1 S1) (At 1 S2) (one_of (codes "playout")) (of_one (codes "playout")) (is_within 1 LAST_VERSION) lines a.0 (one_of-some (codes "playout")) a.1 in
    let two = takes_line (At 2 S1) (At 2 S3) (two_of (codes "grid")) (of_two (codes "grid")) (are_sides a.0.0) a.0.1 b.0 (two_of-some (codes "grid")) b.1 in
    let three = takes_line (At 3 S1) (At 3 S4) (three_of (codes "rules")) (of_three (codes "rules")) are_steps b.0.1 c.0 (three_of-some (codes "rules")) c.1 in
    let four = takes_line (At 4 S1) (At 4 S5) (three_of (codes "charge")) (of_three (codes "charge")) are_charges c.0.1 d.0 (three_of-some (codes "charge")) d.1 in
    let five = takes_line (At 5 S1) (At 5 S6) (one_of (codes "turns")) (of_one (codes "turns")) (is_within 1 (most_turns a.0.0)) d.0.1 f.0 (one_of-some (codes "turns")) f.1 in
    let six = ahead_takes a.0.0 f.0.1 g.0 g.1 in
    let seven = players_takes a.0.0 f.0.0 g.0.1 h.0 h.1 in
    let head : Head = head_from a.0.0 b.0.0 c.0.0 d.0.0 f.0.0 g.0.0 h.0.0 in
    subst (λ (y : Head × List (List ℕ)). TakesHead lines y) {x = (head, h.0.1)} (ok_is {E = SessionFault} (head, h.0.1) x h.2)
    (record {
      spelled = all_behind lines a.0.1 b.0.1 c.0.1 d.0.1 f.0.1 g.0.1 h.0.1 head one.spelled two.spelled three.spelled four.spelled five.spelled six.spelled seven.spelled;
      kept = head_kept a.0.0 b.0.0 c.0.0 d.0.0 f.0.0 g.0.0 h.0.0 one.kept two.kept three.kept four.kept five.kept six.kept six.first seven.kept seven.few;
    })

-- ---- players

-- what the line of player q, with this cell and perhaps these own numbers, says of the seat
record SaysSeat (rules : world.Rules) (q x y : ℕ) (own : Option (ℕ × ℕ)) (s : Seat) : Type 0 where
  spelled : line_of (codes "player") (q ∷ x ∷ y ∷ two_more own) ≡ player_line rules s q
  start : s.start ≡ cell_at x y
  within : IsSeat s
  alike : is_none own ≡ true → GoesByTheRules rules s

seat_said : (rules : world.Rules) (q x y : ℕ) (own : Option (ℕ × ℕ)) → (1 ≤ rules.speed) × (rules.speed ≤ MOST_SPEED) → rules.reach ≤ FARTHEST_REACH → may_be_own rules own ≡ true
    → SaysSeat rules q x y own (seat_by rules (cell_at x y) own)
seat_said rules q x y None speed reach kept =
    record {
      spelled = rw (eq-eqb rules.speed rules.speed refl, eq-eqb rules.reach rules.reach refl) refl;
      start = refl;
      within = record { speed = speed; reach = reach };
      alike = λ none. record { speed = refl; reach = refl };
    }
seat_said rules q x y (Some own) speed reach kept =
    let a = and_parts (is_within 1 MOST_SPEED own.0) (nat_le own.1 FARTHEST_REACH && not ((own.0 == rules.speed) && (own.1 == rules.reach))) kept in
    let b = and_parts (nat_le own.1 FARTHEST_REACH) (not ((own.0 == rules.speed) && (own.1 == rules.reach))) a.1 in
    record {
      spelled = rw (not-true ((own.0 == rules.speed) && (own.1 == rules.reach)) b.1) refl;
      start = refl;
      within = record { speed = within_of 1 MOST_SPEED own.0 a.0; reach = leb-true own.1 FARTHEST_REACH b.0 };
      alike = λ none. absurd (false≢true none);
    }

pub record TakesSeat (head : Head) (q : ℕ) (lines : List (List ℕ)) (x : Seat × List (List ℕ)) : Type 0 where
  pub spelled : lines ≡ player_line head.rules x.0 q ∷ x.1
  pub inside : is_inside head.grid x.0.start ≡ true
  pub within : IsSeat x.0
  pub first : head.version ≡ 1 → GoesByTheRules head.rules x.0

-- own numbers are there only behind version 1
none_at_first : (version : ℕ) (none : Bool) → (none || not (version == 1)) ≡ true → version ≡ 1 → none ≡ true
none_at_first version none h is =
    elim (or_cases none (not (version == 1)) h) [
      | inl here ↦ here
      | inr later ↦ absurd (false≢true (sym (not-true (version == 1) later) ∙ eq-eqb version 1 is))
    ]

seat_takes : (head : Head) (q : ℕ) (lines : List (List ℕ)) (x : Seat × List (List ℕ)) → IsHead head → seat_at head q lines ≡ Ok x → TakesSeat head q lines x
unfolding seat_at
seat_takes head q lines x facts e =
    let n : ℕ = first_player_line head.version + q in
    let a = bind_ok (line_at (At n S1) (three_or_five_of (codes "player")) lines) _ x e in
    let number : ℕ = a.0.0.0.0 in
    let cell : Cell = cell_at a.0.0.0.1 a.0.0.0.2 in
    let own : Option (ℕ × ℕ) = a.0.0.1 in
    let formed = kept_ok (At n S1) (is_none own || not (head.version == 1)) a.0 _ x a.2 in
    let placed = kept_ok (At n S8) ((number == q) && is_inside head.grid cell) a.0 _ x formed.1 in
    let kept = keeps_ok (At n S11) (may_be_own head.rules own) (seat_by head.rules cell own, a.0.1) x placed.1 in
    let both = and_parts (number == q) (is_inside head.grid cell) placed.0 in
    let line = line_at_ok (At n S1) (three_or_five_of (codes "player")) lines a.0.0 a.0.1 a.1 in
    let spelled = three_or_five_of-some (codes "player") line.0 a.0.0 line.2 in
    let said = seat_said head.rules q cell.x cell.y own facts.speed facts.reach kept.0 in
    let numbered = ap (λ (m : ℕ). line_of (codes "player") (m ∷ cell.x ∷ cell.y ∷ two_more own)) (eqb-true number q both.0) in
    subst (λ (y : Seat × List (List ℕ)). TakesSeat head q lines y) {x = (seat_by head.rules cell own, a.0.1)} kept.1
    (record {
      spelled = line.1 ∙ ap (λ (l : List ℕ). l ∷ a.0.1) (spelled ∙ numbered ∙ said.spelled);
      inside = ap (is_inside head.grid) said.start ∙ both.1;
      within = said.within;
      first = λ is. said.alike (none_at_first head.version (is_none own) formed.0 is);
    })

pub record TakesSeats (head : Head) (k q : ℕ) (lines : List (List ℕ)) (x : List Seat × List (List ℕ)) : Type 0 where
  pub spelled : lines ≡ player_lines head.rules x.0 q ++ x.1
  pub count : length x.0 ≡ k
  pub inside : EachIs (λ s. IsTrue (is_inside head.grid s.start)) x.0
  pub within : EachIs IsSeat x.0
  pub first : head.version ≡ 1 → EachIs (GoesByTheRules head.rules) x.0

pub seats_takes : (head : Head) (k q : ℕ) (lines : List (List ℕ)) (x : List Seat × List (List ℕ)) → IsHead head → seats_at head k q lines ≡ Ok x → TakesSeats head k q lines x
unfolding seats_at
seats_takes head zero q lines x facts e =
    subst (λ (y : List Seat × List (List ℕ)). TakesSeats head 0 q lines y) (ok_is {E = SessionFault} ([], lines) x e) (record { spelled = refl; count = refl; inside = tt; within = tt; first = λ is. tt })
seats_takes head (suc k) q lines x facts e =
    let a = bind_ok (seat_at head q lines) _ x e in
    let b = bind_ok (seats_at head k (suc q) a.0.1) _ x a.2 in
    let first = seat_takes head q lines a.0 facts a.1 in
    let others = seats_takes head k (suc q) a.0.1 b.0 facts b.1 in
    subst (λ (y : List Seat × List (List ℕ)). TakesSeats head (suc k) q lines y) {x = (a.0.0 ∷ b.0.0, b.0.1)} (ok_is {E = SessionFault} (a.0.0 ∷ b.0.0, b.0.1) x b.2)
    (record {
      spelled = behind_line lines a.0.1 _ _ first.spelled others.spelled;
      count = ap suc others.count;
      inside = (first.inside, others.inside);
      within = (first.within, others.within);
      first = λ is. (first.first is, others.first is);
    })

-- ---- walls

-- the first of the cells comes after the one before, if both are there
abbrev pub follow : Option Cell → List Cell → Bool
follow before [] = true
follow before (c ∷ cells) = is_after before c

pub follow-Some : (c : Cell) (cells : List Cell) → follow (Some c) cells ≡ is_before_first c cells
follow-Some c [] = refl
follow-Some c (d ∷ cells) = refl

pub record TakesWalls (grid : Ground) (starts : List Cell) (lines : List (List ℕ)) (before : Option Cell) (walls : List Cell) : Type 0 where
  pub spelled : lines ≡ map wall_line walls ++ (end_line ∷ [])
  pub order : in_row_order walls ≡ true
  pub after : follow before walls ≡ true
  pub inside : EachIs (λ c. IsTrue (is_inside grid c)) walls
  pub apart : EachIs (λ c. has_cell starts c ≡ false) walls

walls_end : (grid : Ground) (starts : List Cell) (line : List ℕ) (lines : List (List ℕ)) (before : Option Cell) (n : ℕ) (walls : List Cell)
    → is_bare (codes "end") line ≡ true → ends_at (At n S1) lines ≡ Ok walls → TakesWalls grid starts (line ∷ lines) before walls
walls_end grid starts line lines before n walls bare e =
    let none = none_behind (At n S1) lines walls e in
    let last : line ≡ end_line = same_text line (end_line) (sym bare) in
    subst (λ (cells : List Cell). TakesWalls grid starts (line ∷ lines) before cells) none.1
    (record { spelled = ap (λ (l : List ℕ). l ∷ lines) last ∙ ap (λ (ls : List (List ℕ)). end_line ∷ ls) none.0; order = refl; after = refl; inside = tt; apart = tt })

pub walls_takes : (grid : Ground) (starts : List Cell) (lines : List (List ℕ)) (before : Option Cell) (n : ℕ) (walls : List Cell)
    → walls_at grid starts lines before n ≡ Ok walls → TakesWalls grid starts lines before walls
unfolding walls_at
walls_takes grid starts [] before n walls e = absurd cc
walls_takes grid starts (line ∷ lines) before n walls e =
    elim (chosen (is_bare (codes "end") line) _ _ _ e) [
      | inl last ↦ walls_end grid starts line lines before (suc n) walls last.0 last.1
      | inr more ↦
          let a = bind_ok (wall_at grid starts before n line) _ walls more.1 in
          let b = bind_ok (walls_at grid starts lines (Some a.0) (suc n)) _ walls a.2 in
          let first = wall_at_ok grid starts before n line a.0 a.1 in
          let spelled = two_of-some (codes "wall") line (a.0.x, a.0.y) first.said_is in
          let others = walls_takes grid starts lines (Some a.0) (suc n) b.0 b.1 in
          subst (λ (cells : List Cell). TakesWalls grid starts (line ∷ lines) before cells) {x = a.0 ∷ b.0} (ok_is {E = SessionFault} (a.0 ∷ b.0) walls b.2)
          (record {
            spelled = behind_line (line ∷ lines) lines _ _ (ap (λ (l : List ℕ). l ∷ lines) spelled) others.spelled;
            order = and_from (is_before_first a.0 b.0) (in_row_order b.0) (sym (follow-Some a.0 b.0) ∙ others.after) others.order;
            after = first.after;
            inside = (first.inside, others.inside);
            apart = (first.apart, others.apart);
          })
    ]
