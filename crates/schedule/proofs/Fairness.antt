-- Fairness: each step leaves the logs honest and authentic, and no honest player with a frame that it may make.
use Rattle.std.proofs.Common.{◌≡◌, ℕ, zero, suc, ◌≤◌, Bool, true, false, List, [], ◌∷◌, ◌++◌, length, length-set, refl, sym, ◌∙◌, subst, inl, inr, ◌⊎◌, take, drop, Option, Some, None}
use Rattle.std.specs.Prelude.{map, nat_le, option_map, ◌&&◌, if◌then◌else◌}
use Rattle.std.specs.List.{range_with_len}
use Rattle.std.proofs.lemmas.List.FromFn.{length-map-range_with_len}
use Rattle.definitions.specs.declared.frames.TurnFrame.{TurnFrame}
use Rattle.definitions.specs.declared.places.Slot.{Slot}
use Rattle.definitions.specs.declared.logs.Entry.{Entry}
use Rattle.definitions.specs.declared.logs.Entry.TheVariants.{Chose, Got}
use Rattle.definitions.specs.Lists.{item_or}
use Rattle.definitions.specs.World.{Game, players_of}
use Rattle.definitions.specs.Places.{slot_at}
use Rattle.definitions.specs.Moves.{is_legal}
use Rattle.definitions.specs.Logs.{chosen}
use Rattle.definitions.specs.Honest.{IsHonest, chosen_track, made_count}
use Rattle.definitions.specs.Needs.{may_choose}
use Rattle.definitions.specs.Advance.{advance, frame_at, if_allowed, next_made}
use Rattle.definitions.specs.Steps.{AreAuthentic, Choose, Deliver, Hostile, Logs, Step, Stop, after, after_choice, after_got, after_stop, has_log, has_no_made, is_taken_in, log_after_frame, log_of, made_at, run, with_log}
use Rattle.definition_laws.proofs.Advances.{advance_ends}
use Rattle.definition_laws.proofs.Deliveries.{after_authentic, begin_authentic}
use Rattle.definition_laws.proofs.ForPeers.{honest_empty}
use Rattle.definition_laws.proofs.Stepping.{after_honest, got_honest, log_of_set}
use Rattle.schedule.specs.Steps.{first_log, first_logs, is_hostile, logs_after}
use Rattle.schedule.specs.Tables.{AreFair}

-- the log has no frame left that its owner may make
abbrev IsMade : Game → ℕ → List Entry → Type 0
IsMade game p h = next_made game p h ≡ None

-- the same of all honest players
abbrev AreMade : Game → Logs → Type 0
AreMade game logs = (q : ℕ) (h : List Entry) → log_of logs q ≡ Some h → IsMade game q h

if_made : (game : Game) (p : ℕ) (b : Bool) (g h : List Entry) → 1 ≤ game.ahead → IsMade game p h → IsMade game p (if b then advance game p g else h)
if_made game p true g h d m = advance_ends game p g d
if_made game p false g h d m = m

-- what holds of each player's log holds still where one log changed to another of which it holds
set_each : (Is : ℕ → List Entry → Type 0) (logs : Logs) (p : ℕ) (x : Option (List Entry)) → ((q : ℕ) (h : List Entry) → log_of logs q ≡ Some h → Is q h) → ((h : List Entry) → x ≡ Some h → Is p h) →
    (q : ℕ) (h : List Entry) → log_of (with_log logs p x) q ≡ Some h → Is q h
set_each Is logs p x all new q h e = go (log_of_set logs p q x h e)
  where
    go : (log_of logs q ≡ Some h) ⊎ ((q ≡ p) × (x ≡ Some h)) → Is q h
    go (inl a) = all q h a
    go (inr b) = subst (λ (n : ℕ). Is n h) (sym b.0) (new h b.1)

map_each : (Is : List Entry → Type 0) (f : List Entry → List Entry) (o : Option (List Entry)) → ((h : List Entry) → o ≡ Some h → Is h) → ((h : List Entry) → Is h → Is (f h)) → (k : List Entry) → option_map f o ≡ Some k → Is k
map_each Is f None all step k e = absurd (let none : None ≡ Some k = e in cc)
map_each Is f (Some h) all step k e = let same : f h ≡ k = cc in subst Is same (step h (all h refl))

frame_each : (Is : List Entry → Type 0) (game : Game) (p q : ℕ) (o : Option (List Entry)) (f : Option TurnFrame) → ((h : List Entry) (g : TurnFrame) → Is h → Is (after_got game p h q g)) → ((h : List Entry) → o ≡ Some h → Is h) →
    (k : List Entry) → log_after_frame game p o q f ≡ Some k → Is k
frame_each Is game p q None f step all k e = absurd (let none : None ≡ Some k = e in cc)
frame_each Is game p q (Some h) None step all k e = all k e
frame_each Is game p q (Some h) (Some f) step all k e = let same : after_got game p h q f ≡ k = cc in subst Is same (step h f (all h refl))

got_made : (game : Game) (p q : ℕ) → 1 ≤ game.ahead → (h : List Entry) (f : TurnFrame) → IsMade game p h → IsMade game p (after_got game p h q f)
got_made game p q d h f m = if_made game p (is_taken_in game p h q f) (h ++ Got q f ∷ []) h d m

after_made : (game : Game) (logs : Logs) (s : Step) → 1 ≤ game.ahead → AreMade game logs → AreMade game (after game logs s)
after_made game logs (Choose p m n) d all =
    set_each (IsMade game) logs p (option_map (λ h. after_choice game p h m n) (log_of logs p)) all
    (map_each (IsMade game p) (λ h. after_choice game p h m n) (log_of logs p) (all p)
    (λ h i. if_made game p (may_choose game p h && is_legal game p (chosen_track game p h) m) (h ++ Chose (length (chosen p h)) m n ∷ []) h d i))
after_made game logs (Deliver q p place) d all =
    set_each (IsMade game) logs p (log_after_frame game p (log_of logs p) q (made_at (log_of logs q) place)) all
    (frame_each (IsMade game p) game p q (log_of logs p) (made_at (log_of logs q) place) (got_made game p q d) (all p))
after_made game logs (Hostile q p f) d all = go (has_log logs q)
  where
    go : (b : Bool) → AreMade game (if b then logs else with_log logs p (log_after_frame game p (log_of logs p) q (Some f)))
    go true = all
    go false = set_each (IsMade game) logs p (log_after_frame game p (log_of logs p) q (Some f)) all (frame_each (IsMade game p) game p q (log_of logs p) (Some f) (got_made game p q d) (all p))
after_made game logs (Stop p keep) d all =
    set_each (IsMade game) logs p (option_map (λ h. after_stop game p h keep) (log_of logs p)) all
    (map_each (IsMade game p) (λ h. after_stop game p h keep) (log_of logs p) (all p) (λ h i. if_made game p (nat_le keep (length h) && has_no_made (drop keep h)) (take keep h) h d i))

after_length : (game : Game) (logs : Logs) (s : Step) → length (after game logs s) ≡ length logs
after_length game logs (Choose p m n) = length-set logs p (option_map (λ h. after_choice game p h m n) (log_of logs p))
after_length game logs (Deliver q p place) = length-set logs p (log_after_frame game p (log_of logs p) q (made_at (log_of logs q) place))
after_length game logs (Hostile q p f) = go (has_log logs q)
  where
    go : (b : Bool) → length (if b then logs else with_log logs p (log_after_frame game p (log_of logs p) q (Some f))) ≡ length logs
    go true = refl
    go false = length-set logs p (log_after_frame game p (log_of logs p) q (Some f))
after_length game logs (Stop p keep) = length-set logs p (option_map (λ h. after_stop game p h keep) (log_of logs p))

-- each step leaves the logs fair
pub fair_after : (game : Game) (logs : Logs) (s : Step) → 1 ≤ game.ahead → AreFair game logs → AreFair game (after game logs s)
fair_after game logs s d a = record {
  one_each = after_length game logs s ∙ a.one_each;
  honest = after_honest game logs s d a.honest;
  authentic = after_authentic game logs s a.authentic;
  made = after_made game logs s d a.made;
}

-- and so does a frame with which they are authentic
pub fair_frame : (game : Game) (logs : Logs) (q p : ℕ) (f : TurnFrame) → 1 ≤ game.ahead → AreFair game logs → AreAuthentic (with_log logs p (log_after_frame game p (log_of logs p) q (Some f))) →
    AreFair game (with_log logs p (log_after_frame game p (log_of logs p) q (Some f)))
fair_frame game logs q p f d a authentic = record {
  one_each = length-set logs p (log_after_frame game p (log_of logs p) q (Some f)) ∙ a.one_each;
  honest = set_each (λ q h. IsHonest game q h) logs p (log_after_frame game p (log_of logs p) q (Some f)) a.honest
      (frame_each (λ h. IsHonest game p h) game p q (log_of logs p) (Some f) (λ h g i. got_honest game p q h g i) (a.honest p));
  authentic = authentic;
  made = set_each (IsMade game) logs p (log_after_frame game p (log_of logs p) q (Some f)) a.made (frame_each (IsMade game p) game p q (log_of logs p) (Some f) (got_made game p q d) (a.made p));
}

pub fair_run : (game : Game) (logs : Logs) (ss : List Step) → 1 ≤ game.ahead → AreFair game logs → AreFair game (run game logs ss)
fair_run game logs [] d a = a
fair_run game logs (s ∷ ss) d a = fair_run game (after game logs s) ss d (fair_after game logs s d a)

-- ---- before the first step

first_empty : (hostile : ℕ) (ns : List ℕ) (q : ℕ) (h : List Entry) → item_or (map (first_log hostile) ns) q None ≡ Some h → h ≡ []
first_empty hostile [] q h e = absurd (let none : None ≡ Some h = e in cc)
first_empty hostile (n ∷ ns) zero h e = go (is_hostile hostile n) e
  where
    go : (b : Bool) → (if b then None else Some []) ≡ Some h → h ≡ []
    go true e = absurd (let none : None ≡ Some h = e in cc)
    go false e = let some : Some [] ≡ Some h = e in cc
first_empty hostile (n ∷ ns) (suc q) h e = first_empty hostile ns q h e

nothing_to_make : (game : Game) (p : ℕ) → IsMade game p []
unfolding next_made chosen
nothing_to_make game p = go (slot_at game (made_count []))
  where
    go : (s : Option Slot) → if_allowed game p [] (frame_at game p [] s) ≡ None
    go None = refl
    go (Some s) = refl

pub fair_first : (game : Game) (hostile : ℕ) → AreFair game (first_logs game hostile)
fair_first game hostile = record {
  one_each = length-map-range_with_len (first_log hostile) 0 (players_of game);
  honest = λ q h e. subst (λ (l : List Entry). IsHonest game q l) (sym (empty q h e)) (honest_empty game q);
  authentic = begin_authentic (first_logs game hostile) empty;
  made = λ q h e. subst (λ (l : List Entry). IsMade game q l) (sym (empty q h e)) (nothing_to_make game q);
}
  where
    empty : (q : ℕ) (h : List Entry) → log_of (first_logs game hostile) q ≡ Some h → h ≡ []
    empty q h e = first_empty hostile (range_with_len 0 (players_of game)) q h e

-- behind every list of steps the logs are fair
pub fair_always : (game : Game) (hostile : ℕ) (ss : List Step) → 1 ≤ game.ahead → AreFair game (logs_after game hostile ss)
fair_always game hostile ss d = fair_run game (first_logs game hostile) ss d (fair_first game hostile)
