-- Counted: how many turns are settled without a gap, and what was counted of them.
use Rattle.std.proofs.Common.{◌≡◌, ℕ, zero, suc, ◌+◌, ◌-◌, ◌<◌, ◌≤◌, ◌⊎◌, Bool, true, false, List, [], ◌∷◌, ◌++◌, length, take, refl, sym, ap, ◌∙◌, subst, arith, inl, inr, get_or, slice_get}
use Rattle.std.specs.Prelude.{Option, Some, None, nat_lt, ◌&&◌, ◌||◌, map, if◌then◌else◌}
use Rattle.std.specs.List.{list_all}
use Rattle.std.proofs.lemmas.Bool.{le-ltb, lt-ltb, ltb-true, ltb-false}
use Rattle.std.proofs.lemmas.List.{length-map}
use Rattle.definitions.specs.declared.world.Move.{Move}
use Rattle.definitions.specs.declared.openings.Opening.{Opening}
use Rattle.definitions.specs.declared.frames.What.TheVariants as W
use Rattle.definitions.specs.declared.logs.Entry.{Entry}
use Rattle.definitions.specs.Lists.{item_or, is_empty}
use Rattle.definitions.specs.World.{Game, players_of, no_seat}
use Rattle.definitions.specs.Places.{slot_at}
use Rattle.definitions.specs.Logs.{chosen, made}
use Rattle.definitions.specs.Held.{Known, resolved, resolved_count}
use Rattle.definitions.specs.Honest.{IsHonest, lets_commit, made_count, may_commit, others}
use Rattle.definitions.specs.Needs.{needs}
use Rattle.definitions.specs.Settled.{is_settled, settled, settled_from}
use Rattle.definition_laws.proofs.ForPeers.{own_counts, own_moves}
use Rattle.definition_laws.proofs.Permits.{needs_commit}
use Rattle.definition_laws.proofs.Revealed.{settled_is}
use Rattle.definition_laws.proofs.Settling.{settled_stays}
use Rattle.grid_world.specs.Sessions.{IsSession}
use Rattle.grid_world.proofs.Reveals.{ahead_least}
use Rattle.playout.specs.declared.hits.Score.{Score}
use Rattle.playout.specs.declared.standing.Standing.{Standing}
use Rattle.playout.specs.Hits.{between_known, move_of, own_score, plus}
use Rattle.playout.specs.Playing.{Played, after_own_turn, fresh, no_standing, seated, standing_of}
use Rattle.playout.proofs.Counting.{own_alike}
use Rattle.definitions.proofs.Items.{item_is, map_item}
use Rattle.playout.specs.Lockstep.{lockstep}
use Rattle.peer_window.specs.Windows.{Seen}
use Rattle.peer_core.specs.Others.{AreOthers, Known as Others}
use Rattle.peer_core.proofs.Tables.{window_known}
use Rattle.peer_core.proofs.OwnTracks.{own_revealed}
use Rattle.grid_world.specs.Places.{reveals_below}
use Rattle.peer_core.specs.Scoring.{Completes, moves_in, own_move, score_in, score_to, settled_score}
use Rattle.peer_core.specs.Settling.{AreSettled, IsCounting, IsCounted}
use Rattle.peer_core.proofs.Scores.{moves_item, moves_length, scores_stay, settled_turns}

-- ---- the number of settled turns

-- where k turns from one on are settled, and no more are asked for or the next one isn't, there are k
count_is : (game : Game) (me : ℕ) (h : List Entry) (n a k : ℕ) → k ≤ n → ((t : ℕ) → a ≤ t → t < a + k → is_settled game me h t ≡ true) → (k ≡ n) ⊎ (is_settled game me h (a + k) ≡ false) →
    settled_from game me h n a ≡ k
count_is game me h zero a zero le each ends = refl
count_is game me h zero a (suc k) le each ends = absurd (omega arith)
count_is game me h (suc n) a zero le each (inl e) = absurd (omega (arith, e))
count_is game me h (suc n) a zero le each (inr stops) =
    let e : a + 0 ≡ a = omega arith in
    ap (λ (b : Bool). if b then 1 + settled_from game me h n (a + 1) else 0) (ap (is_settled game me h) (sym e) ∙ stops)
count_is game me h (suc n) a (suc k) le each ends =
    let first : is_settled game me h a ≡ true = each a (omega arith) (omega arith) in
    let e : a + suc k ≡ (a + 1) + k = omega arith in
    let rest = count_is game me h n (a + 1) k (omega arith) (λ t from below. each t (omega arith) (omega arith)) (next e ends) in
    let one : 1 + k ≡ suc k = omega arith in
    ap (λ (b : Bool). if b then 1 + settled_from game me h n (a + 1) else 0) first ∙ ap (λ m. 1 + m) rest ∙ one
  where
    next : a + suc k ≡ (a + 1) + k → (suc k ≡ suc n) ⊎ (is_settled game me h (a + suc k) ≡ false) → (k ≡ n) ⊎ (is_settled game me h ((a + 1) + k) ≡ false)
    next e (inl same) = inl (omega (arith, same))
    next e (inr stops) = inr (ap (is_settled game me h) (sym e) ∙ stops)

-- and each of them is settled
count_holds : (game : Game) (me : ℕ) (h : List Entry) (n a t : ℕ) → t < settled_from game me h n a → is_settled game me h (a + t) ≡ true
count_holds game me h zero a t lt = absurd (omega arith)
count_holds game me h (suc n) a t lt = go (is_settled game me h a) refl lt (λ b. count_holds game me h n (a + 1) b)
  where
    go : (b : Bool) → is_settled game me h a ≡ b → t < (if b then 1 + settled_from game me h n (a + 1) else 0) →
        ((u : ℕ) → u < settled_from game me h n (a + 1) → is_settled game me h ((a + 1) + u) ≡ true) → is_settled game me h (a + t) ≡ true
    go false is below rest = absurd (omega arith)
    go true is below rest = at t below
      where
        at : (u : ℕ) → u < 1 + settled_from game me h n (a + 1) → is_settled game me h (a + u) ≡ true
        at zero below = let e : a + 0 ≡ a = omega arith in ap (is_settled game me h) e ∙ is
        at (suc u) below = let e : a + suc u ≡ (a + 1) + u = omega arith in ap (is_settled game me h) e ∙ rest u (omega arith)

count_few : (game : Game) (me : ℕ) (h : List Entry) (n a : ℕ) → settled_from game me h n a ≤ n
count_few game me h zero a = omega arith
count_few game me h (suc n) a = go (is_settled game me h a) (count_few game me h n (a + 1))
  where
    go : (b : Bool) → settled_from game me h n (a + 1) ≤ n → (if b then 1 + settled_from game me h n (a + 1) else 0) ≤ suc n
    go true few = omega arith
    go false few = omega arith

pub settled_few : (game : Game) (me : ℕ) (h : List Entry) → settled game me h ≤ game.turns
unfolding settled
settled_few game me h = count_few game me h game.turns 0

pub all_settled : (game : Game) (me : ℕ) (h : List Entry) → AreSettled game me h (settled game me h)
unfolding settled
all_settled game me h t lt = let e : 0 + t ≡ t = omega arith in ap (is_settled game me h) (sym e) ∙ count_holds game me h game.turns 0 t lt

settled_are : (game : Game) (me : ℕ) (h : List Entry) (k : ℕ) → k ≤ game.turns → AreSettled game me h k → (k ≡ game.turns) ⊎ (is_settled game me h k ≡ false) → k ≡ settled game me h
unfolding settled
settled_are game me h k le each ends = sym (count_is game me h game.turns 0 k le (λ t from below. each t (omega arith)) (next ends))
  where
    next : (k ≡ game.turns) ⊎ (is_settled game me h k ≡ false) → (k ≡ game.turns) ⊎ (is_settled game me h (0 + k) ≡ false)
    next (inl e) = inl e
    next (inr e) = let z : 0 + k ≡ k = omega arith in inr (ap (is_settled game me h) z ∙ e)

-- ---- what was counted

-- what was counted is so far counted of a longer log
pub counting_on : (game : Game) (me : ℕ) (g h : List Entry) (p : Played) → 1 ≤ game.ahead → IsHonest game me g → me < players_of game → IsCounted game me g p → IsCounting game me (g ++ h) p
counting_on game me g h p d i my counted =
    let all : AreSettled game me g p.turns = λ t lt. all_settled game me g t (omega (arith, counted.turns)) in
    record {
      players = counted.players;
      few = omega (arith, counted.turns, settled_few game me g);
      settled = λ t lt. settled_stays game me t g h d i (all t lt);
      score = counted.score ∙ ap (score_to game me g) (sym counted.turns) ∙ sym (scores_stay game me p.turns g h d i my all);
    }

-- where the next turn isn't settled, all were counted
pub counting_ends : (game : Game) (me : ℕ) (h : List Entry) (p : Played) → IsCounting game me h p → (p.turns ≡ game.turns) ⊎ (is_settled game me h p.turns ≡ false) → IsCounted game me h p
counting_ends game me h p counting ends =
    let turns = settled_are game me h p.turns counting.few counting.settled ends in
    record { players = counting.players; turns = turns; score = counting.score ∙ ap (score_to game me h) turns }

-- one turn more
pub counting_more : (game : Game) (me : ℕ) (h : List Entry) (p new : Played) → IsCounting game me h p → p.turns < game.turns → is_settled game me h p.turns ≡ true → length new.standings ≡ length p.standings →
    new.turns ≡ p.turns + 1 → (standing_of new me).score ≡ plus (standing_of p me).score (score_in game me h p.turns) → IsCounting game me h new
unfolding score_to
counting_more game me h p new counting left is players turns score =
    let e : suc p.turns ≡ new.turns = omega (arith, turns) in
    record {
      players = players ∙ counting.players;
      few = omega (arith, turns);
      settled = λ t lt. each t (omega (arith, turns));
      score = score ∙ ap (λ (s : Score). plus s (score_in game me h p.turns)) counting.score ∙ ap (score_to game me h) e;
    }
  where
    each : (t : ℕ) → t < suc p.turns → is_settled game me h t ≡ true
    each t lt = go (nat_lt t p.turns) refl
      where
        go : (b : Bool) → nat_lt t p.turns ≡ b → is_settled game me h t ≡ true
        go true below = counting.settled t (ltb-true _ _ below)
        go false not_below = let le = ltb-false _ _ not_below in let same : t ≡ p.turns = omega arith in ap (is_settled game me h) same ∙ is

-- nothing is settled where the log is empty
pub counted_fresh : (game copy : Game) (me : ℕ) (h : List Entry) (p : Played) → copy ≡ game → h ≡ [] → me < players_of game → p ≡ fresh game → IsCounted copy me h p
unfolding is_settled made score_to
counted_fresh game copy me h p same none my is =
    let IsGame : Game → Type 0 = λ g. IsCounted g me h p in
    let IsLog : List Entry → Type 0 = λ l. IsCounted game me l p in
    let IsPlay : Played → Type 0 = λ x. IsCounted game me [] x in
    subst IsGame (sym same) (subst IsLog (sym none) (subst IsPlay (sym is)
    (counting_ends game me [] (fresh game) (record {
      players = length-map game.seats (seated game);
      few = omega arith;
      settled = λ t lt. absurd (omega arith);
      score = ap (λ (s : Standing). s.score) (map_item (seated game) game.seats me no_seat no_standing my);
    }) (inr refl))))

-- ---- the moves that are counted

mv_at : (n : ℕ) (xs : List Opening) (t : ℕ) (d : Opening) → t < n → t < length xs → (get_or xs t d).mv ≡ move_of (take n (map (λ o. o.mv) xs)) t
mv_at zero xs t d lt below = absurd (omega arith)
mv_at (suc n) [] t d lt below = absurd (omega arith)
mv_at (suc n) (x ∷ xs) zero d lt below = refl
mv_at (suc n) (x ∷ xs) (suc t) d lt below = mv_at n xs t d (omega arith) (omega arith)

-- the owner's own move, by what it chose
pub own_move_is : (game : Game) (me t : ℕ) (h : List Entry) (os : List Opening) (d : Opening) → 1 ≤ game.ahead → IsHonest game me h → os ≡ chosen me h → t < resolved_count game me h me → (get_or os t d).mv ≡ own_move game me h t
own_move_is game me t h os d a i is lt =
    let counts = own_counts game me h a i in
    let before = counts.before in
    let enough = counts.enough in
    ap (λ (xs : List Opening). (get_or xs t d).mv) is ∙ mv_at (resolved_count game me h me) (chosen me h) t d lt (omega arith) ∙ ap (λ (ms : List Move). move_of ms t) (sym (own_moves game me h a i))

-- the moves that the windows show count as those that the log resolves
pub shown_score : (game : Game) (me t : ℕ) (h : List Entry) (own : Move) (shown : List (Option Move)) → own ≡ own_move game me h t → length shown ≡ players_of game →
    ((q : ℕ) → q < players_of game → (q ≡ me → ⊥) → item_or shown q None ≡ resolved game me h q t) → own_score game me own shown ≡ score_in game me h t
shown_score game me t h own shown is long each =
    ap (λ (mv : Move). own_score game me mv shown) is
    ∙ own_alike game me (own_move game me h t) 0 shown (moves_in game me h t) (long ∙ sym (moves_length game me h t))
    (λ q lt other. let below : q < players_of game = omega (arith, long) in
    ap (between_known false game (own_move game me h t)) (each q below (λ e. other (omega arith)) ∙ sym (moves_item game me h t q below)))

blank : Seen
blank = record { player = 0; places = 0; frames = []; known = record { digests = []; moves = [] }; track = record { at = record { x = 0; y = 0 }; charge = 0 }; closed = false }

abbrev shows : ℕ → Seen → Option Move
shows t w = slice_get w.known.moves t

-- one turn more, by the moves that the windows show
pub counted_turn : (game : Game) (me t : ℕ) (h : List Entry) (p q new : Played) (o : Others) (own : Move) (shown : List (Option Move)) → AreOthers game me h o → IsCounting game me h p → p.turns < game.turns → is_settled game me h p.turns ≡ true →
    own ≡ own_move game me h p.turns → q ≡ p → t ≡ q.turns → shown ≡ map (λ w. slice_get w.known.moves t) o.windows → new ≡ after_own_turn game me own shown q → length new.standings ≡ length q.standings →
    (standing_of new me).score ≡ plus (standing_of q me).score (own_score game me own shown) → IsCounting game me h new
counted_turn game me t h p q new o own shown all counting left is move view turn shows_it after players score =
    counting_more game me h p new counting left is (players ∙ ap (λ (x : Played). length x.standings) view) (ap (λ (x : Played). x.turns) after ∙ ap (λ (x : Played). x.turns + 1) view)
    (score ∙ ap (λ (x : Played). plus (standing_of x me).score (own_score game me own shown)) view
    ∙ ap (plus (standing_of p me).score) (shown_score game me p.turns h own shown move (long ∙ all.count) (λ r lt other. ap (λ ms. item_or ms r None) shows_it ∙ item r lt other)))
  where
    long : length shown ≡ length o.windows
    long = ap (λ (ms : List (Option Move)). length ms) shows_it ∙ length-map o.windows (shows t)

    item : (r : ℕ) → r < players_of game → (r ≡ me → ⊥) → item_or (map (shows t) o.windows) r None ≡ resolved game me h r p.turns
    item r lt other =
        map_item (shows t) o.windows r blank None (omega (arith, all.count)) ∙ ap (shows t) (sym (item_is o.windows r blank))
        ∙ ap (λ (k : Known). slice_get k.moves t) (window_known game me r h (get_or o.windows r blank) (all.each r blank lt other))
        ∙ ap (λ (n : ℕ). resolved game me h r n) (turn ∙ ap (λ (x : Played). x.turns) view)

-- ---- whether the next turn is settled

-- where the next frame is the commitment that waits for the turn, the turn is settled exactly where no one is waited for
pub settled_by_needs : (game : Game) (me t : ℕ) (h : List Entry) → 1 ≤ game.ahead → IsHonest game me h → t < resolved_count game me h me →
    slot_at game (made_count h) ≡ Some (record { what = W.Commit; turn = t + game.ahead }) → is_empty (needs game me h) ≡ is_settled game me h t
unfolding may_commit
settled_by_needs game me t h d i lt slot =
    let late : nat_lt (t + game.ahead) game.ahead ≡ false = le-ltb _ _ (omega arith) in
    let back : (t + game.ahead) - game.ahead ≡ t = omega arith in
    let revealed : nat_lt t (resolved_count game me h me) ≡ true = lt-ltb _ _ lt in
    needs_commit game me (t + game.ahead) h slot
    ∙ ap (λ (b : Bool). b || list_all (lets_commit game me h ((t + game.ahead) - game.ahead)) (others game me)) late
    ∙ ap (λ (u : ℕ). list_all (lets_commit game me h u) (others game me)) back
    ∙ sym (settled_is game me t h d i ∙ ap (λ (b : Bool). b && list_all (lets_commit game me h t) (others game me)) revealed)

-- a turn that the owner has resolved is settled exactly where the others let it go on
pub settled_by_others : (game : Game) (me t : ℕ) (h : List Entry) → 1 ≤ game.ahead → IsHonest game me h → t < resolved_count game me h me → list_all (lets_commit game me h t) (others game me) ≡ is_settled game me h t
settled_by_others game me t h d i lt =
    let revealed : nat_lt t (resolved_count game me h me) ≡ true = lt-ltb _ _ lt in
    sym (settled_is game me t h d i ∙ ap (λ (b : Bool). b && list_all (lets_commit game me h t) (others game me)) revealed)

-- a turn that the owner hasn't resolved isn't settled
pub unrevealed_unsettled : (game : Game) (me t : ℕ) (h : List Entry) → 1 ≤ game.ahead → IsHonest game me h → resolved_count game me h me ≤ t → is_settled game me h t ≡ false
unrevealed_unsettled game me t h d i le =
    let unrevealed : nat_lt t (resolved_count game me h me) ≡ false = le-ltb _ _ le in
    settled_is game me t h d i ∙ ap (λ (b : Bool). b && list_all (lets_commit game me h t) (others game me)) unrevealed

-- what the settled turns count is what the owner scores in them, however the players go on
pub settled_of_all : (game : Game) (me : ℕ) (h : List Entry) (all : List (List Move)) → 1 ≤ game.ahead → IsHonest game me h → me < players_of game → Completes game me h all →
    settled_score game me h ≡ (lockstep game all (settled game me h) me).score
settled_of_all game me h all d i my goes = settled_turns game me (settled game me h) h all d i my (settled_few game me h) (all_settled game me h) goes

-- ---- how far turns are counted

-- the reveals below the owner's next place are of the turns that are resolved of it, which are no more than the session has
pub revealed_is : (game : Game) (me made revealed : ℕ) (h : List Entry) → IsSession game → IsHonest game me h → made ≡ made_count h → revealed ≡ reveals_below game made → revealed ≡ resolved_count game me h me
revealed_is game me made revealed h is i e n = n ∙ ap (reveals_below game) e ∙ sym (own_revealed game me h (ahead_least game is) i)

pub revealed_few : (game : Game) (me : ℕ) (h : List Entry) → IsSession game → IsHonest game me h → resolved_count game me h me ≤ length (chosen me h)
revealed_few game me h is i =
    let counts = own_counts game me h (ahead_least game is) i in
    let before = counts.before in
    let enough = counts.enough in
    omega arith

pub chosen_few : (game : Game) (me : ℕ) (h : List Entry) → IsSession game → IsHonest game me h → length (chosen me h) ≤ game.turns
chosen_few game me h is i = let counts = own_counts game me h (ahead_least game is) i in counts.few

-- a count ends where the next turn isn't settled, or isn't resolved of the owner
pub ends_unsettled : (game : Game) (me t : ℕ) (h : List Entry) (p : Played) → IsCounting game me h p → p.turns ≡ t → is_settled game me h t ≡ false → IsCounted game me h p
ends_unsettled game me t h p counting at stops = counting_ends game me h p counting (inr (ap (is_settled game me h) at ∙ stops))

pub ends_unrevealed : (game : Game) (me t : ℕ) (h : List Entry) (p : Played) → IsSession game → IsHonest game me h → IsCounting game me h p → p.turns ≡ t → resolved_count game me h me ≤ t → IsCounted game me h p
ends_unrevealed game me t h p is i counting at past = ends_unsettled game me t h p counting at (unrevealed_unsettled game me t h (ahead_least game is) i past)
