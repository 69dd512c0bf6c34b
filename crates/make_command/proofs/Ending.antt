-- Ending: the match of every number comes to its end, all players have chosen for all turns by then, and all frames have come to all.
use Rattle.std.proofs.Common.{◌≡◌, ◌⊎◌, inl, inr, ℕ, zero, suc, ◌+◌, ◌<◌, ◌≤◌, Bool, true, false, List, [], Option, None, Some, length, map, take, refl, sym, ◌∙◌, ap, subst, arith}
use Rattle.std.specs.Prelude.{not, unwrap_or, ◌&&◌, ◌==◌, if◌then◌else◌}
use Rattle.std.specs.List.{range_with_len}
use Rattle.std.proofs.lemmas.Bool.{and_parts, false≢true}
use Rattle.std.proofs.lemmas.List.{length-map}
use Rattle.rand_pcg.specs.Lcg.{Lcg}
use Rattle.definitions.specs.declared.logs.Entry.{Entry}
use Rattle.definitions.specs.Honest.{IsHonest, chosen_track}
use Rattle.definitions.specs.Lists.{item_or}
use Rattle.definitions.specs.Logs.{got_of, made}
use Rattle.definitions.specs.Moves.{is_legal}
use Rattle.definitions.specs.Steps.{Deliver, Logs, after, log_of}
use Rattle.definitions.specs.World.{Game, players_of}
use Rattle.definition_laws.proofs.WellFormed.{not_true}
use Rattle.grid_world.specs.Sessions.{IsSession}
use Rattle.peer_core.proofs.OwnTracks.{chosen_open}
use Rattle.pilots.specs.Choices.{choice_of, strike_of, target_of}
use Rattle.pilots.specs.Draws.{draw, generator_of}
use Rattle.make_command.specs.Making.{made_session, plain_game, seat_at, starts_of, walls_of}
use Rattle.make_command.specs.declared.sizes.TheConstants.{CELLS, PLAYERS}
use Rattle.pilots.proofs.Legal.{bot_is_legal, draw_below}
use Rattle.make_command.proofs.Made.{drawn_all}
use Rattle.schedule.specs.declared.stands.Stand.{Stand}
use Rattle.schedule.specs.declared.stands.Stand.TheVariants.{Behind, Caught, Finished, Held, Moving}
use Rattle.schedule.specs.Stands.{stand}
use Rattle.schedule.specs.Steps.{first_log, first_logs, is_hostile}
use Rattle.schedule.proofs.Idling.{honest_within}
use Rattle.make_command.specs.Matches.{Match, brought, delivered, delivered_behind, drawn, first_match, is_over, lost, moved, next_by, nonce_of, played}
use Rattle.make_command.specs.Summaries.{EndsFairly, made_match}
use Rattle.make_command.proofs.Counted.{nothing_yet}
use Rattle.make_command.proofs.Fair.{found_none, sound_first}
use Rattle.make_command.proofs.Going.{Goes, are_low, deliver_twice, goes_chosen, goes_delivered, goes_lost}
use Rattle.make_command.proofs.Lasts.{chosen_whole, got_whole}
use Rattle.make_command.proofs.Standing.{IsNext, MayMove, Says, over_finished, says}
use Rattle.make_command.proofs.Told.{lines_told}
use Rattle.make_command.proofs.Steps.{played_none, played_on, played_over}

-- what a match counted is what its logs show
abbrev pub GoesOn : Match → Type 0
GoesOn m = Goes m.game m.logs m.counts.chosen m.counts.delivered m.counts.lost m.was_lost

-- all that it counted
abbrev pub weight : Match → ℕ
weight m = m.counts.chosen + m.counts.delivered + m.counts.lost

-- it goes on as another, which counted one more
record Stepped (m k : Match) : Type 0 where
  goes : GoesOn k
  one : weight k ≡ weight m + 1

-- a bot's move is legal from where its player will stand
bot_legal : (game : Game) (p : ℕ) (h : List Entry) (g : Lcg) → IsSession game → p < players_of game → IsHonest game p h → is_legal game p (chosen_track game p h) (choice_of game (chosen_track game p h) g).0 ≡ true
unfolding choice_of
bot_legal game p h g is lt honest =
    let d = draw 9 g in
    bot_is_legal game p (chosen_track game p h) d.0 d.1 (target_of game.grid (chosen_track game p h).at d.0) (strike_of game (chosen_track game p h).charge (target_of game.grid (chosen_track game p h).at d.0) d.1).0
    is lt (draw_below 9 g (omega arith)) (chosen_open game p h is lt honest) refl refl

step_moving : (m : Match) (p : ℕ) → GoesOn m → p < players_of m.game → MayMove m.game m.logs p → Stepped m (moved m p (log_of m.logs p))
step_moving m p g lt x = subst (λ (o : Option (List Entry)). Stepped m (moved m p o)) (sym x.at) (record {
  goes = goes_chosen m.game m.logs m.counts.chosen m.counts.delivered m.counts.lost m.was_lost p x.h (choice_of m.game (chosen_track m.game p x.h) m.bots).0 (nonce_of m.rest).0 g x.at x.may
      (bot_legal m.game p x.h m.bots g.sound.session lt (g.sound.fair.honest p x.h x.at));
  one = omega arith;
})

step_behind : (m : Match) (p q place : ℕ) → GoesOn m → IsNext m.game m.logs p q place → Stepped m (brought m p q place)
step_behind m p q place g x = go (((draw 4 m.rest).0 == 0) && not m.was_lost) ((draw 4 m.rest).0 == 1) (λ t. not_true m.was_lost (and_parts ((draw 4 m.rest).0 == 0) (not m.was_lost) t).1)
  where
    came : Goes m.game (after m.game m.logs (Deliver q p place)) m.counts.chosen (m.counts.delivered + 1) m.counts.lost false
    came = goes_delivered m.game m.logs m.counts.chosen m.counts.delivered m.counts.lost m.was_lost p q place g x

    go : (a b : Bool) → (a ≡ true → m.was_lost ≡ false) →
        Stepped m (if a then lost (drawn m (draw 4 m.rest).1) else if b then delivered_behind (drawn m (draw 4 m.rest).1) p q place else delivered (drawn m (draw 4 m.rest).1) p q place)
    go true b first = record { goes = goes_lost m.game m.logs m.counts.chosen m.counts.delivered m.counts.lost m.was_lost p q place (first refl) g x; one = omega arith }
    go false true first =
        let k = draw (place + 1) (draw 4 m.rest).1 in
        let below = draw_below (place + 1) (draw 4 m.rest).1 (omega arith) in
        let twice = deliver_twice m.game m.logs p q place k.0 g.sound g.order x (omega (arith, below)) in
        record {
          goes = subst (λ (ls : Logs). Goes m.game ls m.counts.chosen (m.counts.delivered + 1) m.counts.lost false) (sym twice) came;
          one = omega arith;
        }
    go false false first = record { goes = came; one = omega arith }

step_on : (m : Match) (s : Stand) → Says m.game m.logs s → is_over s ≡ false → GoesOn m → Stepped m (next_by m s)
step_on m (Caught p) said on g = absurd said
step_on m (Moving p) said on g =
    let inside = honest_within m.logs p said.h said.at in
    let each = g.sound.fair.one_each in
    step_moving m p g (omega (arith, inside, each)) said
step_on m (Behind p q place) said on g = step_behind m p q place g said
step_on m (Held q) said on g = absurd said
step_on m Finished said on g = absurd (false≢true (sym on))

-- the match is over
abbrev IsEnd : Match → Type 0
IsEnd m = is_over (stand m.game m.logs) ≡ true

-- so many steps on it goes on so, and is over or counted as many more
runs : (n : ℕ) (m : Match) → GoesOn m → GoesOn (played n m) × (IsEnd (played n m) ⊎ (weight (played n m) ≡ weight m + n))
runs zero m g = subst (λ (k : Match). GoesOn k × (IsEnd k ⊎ (weight k ≡ weight m + 0))) (sym (played_none m)) (g, inr (omega arith))
runs (suc n) m g = go (is_over (stand m.game m.logs)) refl (λ k more. runs n k more)
  where
    go : (b : Bool) → is_over (stand m.game m.logs) ≡ b → ((k : Match) → GoesOn k → GoesOn (played n k) × (IsEnd (played n k) ⊎ (weight (played n k) ≡ weight k + n))) →
        GoesOn (played (suc n) m) × (IsEnd (played (suc n) m) ⊎ (weight (played (suc n) m) ≡ weight m + suc n))
    go true e ih = subst (λ (k : Match). GoesOn k × (IsEnd k ⊎ (weight k ≡ weight m + suc n))) (sym (played_over (suc n) m e)) (g, inl e)
    go false e ih =
        let s = step_on m (stand m.game m.logs) (says m.game m.logs g.sound g.order) e g in
        let next : Match = next_by m (stand m.game m.logs) in
        let r = ih next s.goes in
        subst (λ (k : Match). GoesOn k × (IsEnd k ⊎ (weight k ≡ weight m + suc n))) (sym (played_on n m e)) (r.0, weigh (played n next) (weight next) s.one r.1)
      where
        weigh : (k : Match) (w : ℕ) → w ≡ weight m + 1 → IsEnd k ⊎ (weight k ≡ w + n) → IsEnd k ⊎ (weight k ≡ weight m + suc n)
        weigh k w one (inl over) = inl over
        weigh k w one (inr e) = inr (sum (weight k) w (weight m) one e)
          where
            sum : (a b c : ℕ) → b ≡ c + 1 → a ≡ b + n → a ≡ c + suc n
            sum a b c f e = omega (arith, f, e)

-- there is no step behind the last
at_most : (m : Match) → GoesOn m → weight m ≤ 46400
at_most m g =
    let l = are_low m.game m.logs m.counts.chosen m.counts.delivered m.counts.lost m.was_lost g in
    sum m.counts.chosen m.counts.delivered m.counts.lost l.chosen l.delivered l.lost
  where
    sum : (a b c : ℕ) → a ≤ 1600 → b ≤ 22400 → c ≤ 22400 → a + b + c ≤ 46400
    sum a b c f g h = omega (arith, f, g, h)

ends_then : (m : Match) → GoesOn m → weight m ≡ 46400 → IsEnd m
ends_then m g e = go (is_over (stand m.game m.logs)) refl
  where
    past : (a b : ℕ) → a ≡ 46400 → b ≡ a + 1 → b ≤ 46400 → ⊥
    past a b e f le = omega (arith, e, f, le)

    go : (b : Bool) → is_over (stand m.game m.logs) ≡ b → b ≡ true
    go true over = refl
    go false on =
        let s = step_on m (stand m.game m.logs) (says m.game m.logs g.sound g.order) on g in
        absurd (past (weight m) (weight (next_by m (stand m.game m.logs))) e s.one (at_most (next_by m (stand m.game m.logs)) s.goes))

over_at : (m : Match) → GoesOn m → weight m ≡ 0 → IsEnd (played 46400 m)
over_at m g none = go (runs 46400 m g).0 (runs 46400 m g).1
  where
    go : GoesOn (played 46400 m) → IsEnd (played 46400 m) ⊎ (weight (played 46400 m) ≡ weight m + 46400) → IsEnd (played 46400 m)
    go goes (inl over) = over
    go goes (inr e) = ends_then (played 46400 m) goes (sum (weight (played 46400 m)) (weight m) e none)
      where
        sum : (a b : ℕ) → a ≡ b + 46400 → b ≡ 0 → a ≡ 46400
        sum a b e f = omega (arith, e, f)

-- ---- the match of a number

made_is : (number : ℕ) → IsSession (made_session number)
made_is number = let d = drawn_all number in subst IsSession d.made d.reads.session

made_size : (number : ℕ) → players_of (made_session number) ≡ 8
unfolding plain_game
made_size number =
    let d = drawn_all number in
    ap players_of (sym d.made) ∙ length-map (starts_of (walls_of CELLS (generator_of number)).0 PLAYERS (walls_of CELLS (generator_of number)).1).0 seat_at ∙ d.count

made_turns : (number : ℕ) → (made_session number).turns ≡ 200
unfolding made_session plain_game
made_turns number = refl

empty_from : (a n q : ℕ) → unwrap_or (item_or (map (first_log 0) (range_with_len a n)) q None) [] ≡ []
empty_from a zero q = refl
empty_from a (suc n) zero = go (is_hostile 0 a)
  where
    go : (b : Bool) → ◌≡◌ {A = List Entry} (unwrap_or (if b then None else Some []) []) []
    go true = refl
    go false = refl
empty_from a (suc n) (suc q) = empty_from (a + 1) n q

first_empty : (game : Game) (p : ℕ) (h : List Entry) → log_of (first_logs game 0) p ≡ Some h → h ≡ []
first_empty game p h at = sym (ap (λ (o : Option (List Entry)). unwrap_or o []) at) ∙ empty_from 0 (players_of game) p

first_goes : (number : ℕ) → GoesOn (first_match (made_session number) number)
unfolding first_match got_of
first_goes number =
    let game : Game = made_session number in
    let none = nothing_yet (first_logs game 0) (λ p. empty_from 0 (players_of game) p) in
    record {
      sound = sound_first game (made_is number);
      size = made_size number;
      turns = made_turns number;
      order = λ p q h own at_p at_q differs. let e = first_empty game p h at_p in ap (got_of q) e ∙ sym (ap (λ (l : List Entry). take (length (got_of q l)) (made own)) e);
      chosen = sym none.chosen;
      delivered = sym none.got;
      lost = omega arith;
      room = λ t. absurd (false≢true t);
    }

first_weight : (number : ℕ) → weight (first_match (made_session number) number) ≡ 0
unfolding first_match
first_weight number = refl

last_goes : (number : ℕ) → GoesOn (made_match number)
unfolding made_match
last_goes number = (runs 46400 (first_match (made_session number) number) (first_goes number)).0

last_over : (number : ℕ) → IsEnd (made_match number)
unfolding made_match
last_over number = over_at (first_match (made_session number) number) (first_goes number) (first_weight number)

-- the match of every number ends, with all that is to be counted, and accuses nobody
pub ends_fairly : (number : ℕ) → EndsFairly number
ends_fairly number =
    let m : Match = made_match number in
    let g = last_goes number in
    let finished = over_finished m.game m.logs (stand m.game m.logs) (says m.game m.logs g.sound g.order) (last_over number) in
    let low = are_low m.game m.logs m.counts.chosen m.counts.delivered m.counts.lost m.was_lost g in
    record {
      finished = finished;
      chosen = g.chosen ∙ chosen_whole m.game m.logs g.sound g.size g.turns g.order finished;
      delivered = g.delivered ∙ got_whole m.game m.logs g.sound g.size g.turns g.order finished;
      lost = low.lost;
      fair = ap length (found_none m.game m.logs g.sound);
      told = lines_told m.game m.logs g.sound g.size g.turns g.order finished;
    }
