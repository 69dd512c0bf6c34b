-- Stepping: what happens to honest logs leaves them honest.
use Rattle.std.proofs.Common.{Bool, List, None, Some, [], ap, drop, false, inl, inr, length, refl, subst, suc, sym, true, zero, ℕ, ◌++◌, ◌∙◌, ◌∷◌, ◌≡◌, ◌≤◌, ◌⊎◌, Option, take}
use Rattle.std.specs.Prelude.{if◌then◌else◌, nat_le, option_map, set, ◌&&◌}
use Rattle.std.proofs.lemmas.Bool.{and_from, and_parts}
use Rattle.std.proofs.lemmas.List.{take-append-drop}
use Rattle.definitions.specs.declared.world.Move.{Move}
use Rattle.definitions.specs.declared.openings.Nonce.{Nonce}
use Rattle.definitions.specs.declared.frames.TurnFrame.{TurnFrame}
use Rattle.definitions.specs.declared.logs.Entry.{Entry}
use Rattle.definitions.specs.declared.logs.Entry.TheVariants.{Chose, Got}
use Rattle.definitions.specs.World.{Game}
use Rattle.definitions.specs.Moves.{is_legal}
use Rattle.definitions.specs.Logs.{chosen}
use Rattle.definitions.specs.Findings.{is_clean}
use Rattle.definitions.specs.Answers.{is_new, is_of_another}
use Rattle.definitions.specs.Honest.{IsHonest, allowed, allows, chosen_track}
use Rattle.definitions.specs.Needs.{may_choose}
use Rattle.definitions.specs.Advance.{advance}
use Rattle.definitions.specs.Steps.{Choose, Chooses, Comes, Deliver, Hostile, LogStep, Logs, Step, Stop, after, after_choice, after_got, after_stop, has_log, has_no_made, is_taken_in, log_after, log_after_frame, log_of, log_run, made_at, run, with_log}
use Rattle.definition_laws.specs.Stepping.{AreHonest}
use Rattle.definition_laws.proofs.Advances.{advance_honest}
use Rattle.definition_laws.proofs.ForPeers.{honest_push}
use Rattle.definition_laws.proofs.Permits.{IsHonest_prefix}
use Rattle.definition_laws.proofs.Waits.{may_choose_allowed}

-- a choice that is taken is allowed
pub choice_allowed : (game : Game) (me : ℕ) (h : List Entry) (m : Move) (n : Nonce) → 1 ≤ game.ahead → IsHonest game me h →
    (may_choose game me h && is_legal game me (chosen_track game me h) m) ≡ true → allowed game me h (Chose (length (chosen me h)) m n) ≡ true
choice_allowed game me h m n d i e =
    let both = and_parts (may_choose game me h) (is_legal game me (chosen_track game me h) m) e in
    may_choose_allowed game me h m n d i both.1 ∙ both.0

pub choice_honest : (game : Game) (me : ℕ) (h : List Entry) (m : Move) (n : Nonce) → 1 ≤ game.ahead → IsHonest game me h → IsHonest game me (after_choice game me h m n)
choice_honest game me h m n d i = go (may_choose game me h && is_legal game me (chosen_track game me h) m) refl
  where
    go : (b : Bool) → (may_choose game me h && is_legal game me (chosen_track game me h) m) ≡ b →
        IsHonest game me (if b then advance game me (h ++ Chose (length (chosen me h)) m n ∷ []) else h)
    go true e = advance_honest game me (h ++ Chose (length (chosen me h)) m n ∷ []) (honest_push game me h (Chose (length (chosen me h)) m n) i (choice_allowed game me h m n d i e))
    go false e = i

-- a frame that is taken in is allowed
pub taken_allowed : (game : Game) (me q : ℕ) (h : List Entry) (f : TurnFrame) → is_taken_in game me h q f ≡ true → allowed game me h (Got q f) ≡ true
unfolding allows
taken_allowed game me q h f e =
    let a = and_parts (is_clean game h && is_of_another game me q f) (is_new game me h q f) e in
    let b = and_parts (is_clean game h) (is_of_another game me q f) a.0 in
    and_from _ _ b.0 (and_from _ _ b.1 a.1)

pub got_honest : (game : Game) (me q : ℕ) (h : List Entry) (f : TurnFrame) → IsHonest game me h → IsHonest game me (after_got game me h q f)
got_honest game me q h f i = go (is_taken_in game me h q f) refl
  where
    go : (b : Bool) → is_taken_in game me h q f ≡ b → IsHonest game me (if b then advance game me (h ++ Got q f ∷ []) else h)
    go true e = advance_honest game me (h ++ Got q f ∷ []) (honest_push game me h (Got q f) i (taken_allowed game me q h f e))
    go false e = i

pub step_honest : (game : Game) (me : ℕ) (h : List Entry) (s : LogStep) → 1 ≤ game.ahead → IsHonest game me h → IsHonest game me (log_after game me h s)
step_honest game me h (Chooses m n) d i = choice_honest game me h m n d i
step_honest game me h (Comes q f) d i = got_honest game me q h f i

pub run_honest : (game : Game) (me : ℕ) (h : List Entry) (ss : List LogStep) → 1 ≤ game.ahead → IsHonest game me h → IsHonest game me (log_run game me h ss)
run_honest game me h [] d i = i
run_honest game me h (s ∷ ss) d i = run_honest game me (log_after game me h s) ss d (step_honest game me h s d i)

-- a log that is stopped and begun again is honest
pub stop_honest : (game : Game) (me keep : ℕ) (h : List Entry) → IsHonest game me h → IsHonest game me (after_stop game me h keep)
stop_honest game me keep h i = go (nat_le keep (length h) && has_no_made (drop keep h))
  where
    go : (b : Bool) → IsHonest game me (if b then advance game me (take keep h) else h)
    go true = advance_honest game me (take keep h) (IsHonest_prefix game me (take keep h) (drop keep h) (subst (λ (k : List Entry). IsHonest game me k) (sym (take-append-drop keep h)) i))
    go false = i

-- a log among the logs after one of them became this one
pub log_of_set : (logs : Logs) (p q : ℕ) (x : Option (List Entry)) (h : List Entry) → log_of (set logs p x) q ≡ Some h → (log_of logs q ≡ Some h) ⊎ ((q ≡ p) × (x ≡ Some h))
log_of_set [] p q x h e = inl e
log_of_set (l ∷ ls) zero zero x h e = inr (refl, e)
log_of_set (l ∷ ls) zero (suc q) x h e = inl e
log_of_set (l ∷ ls) (suc p) zero x h e = inl e
log_of_set (l ∷ ls) (suc p) (suc q) x h e = go (log_of_set ls p q x h e)
  where
    go : (log_of ls q ≡ Some h) ⊎ ((q ≡ p) × (x ≡ Some h)) → (log_of ls q ≡ Some h) ⊎ ((suc q ≡ suc p) × (x ≡ Some h))
    go (inl a) = inl a
    go (inr b) = inr (ap suc b.0, b.1)

-- the logs stay honest where the one that changed is
set_honest : (game : Game) (logs : Logs) (p : ℕ) (x : Option (List Entry)) → AreHonest game logs → ((h : List Entry) → x ≡ Some h → IsHonest game p h) → AreHonest game (with_log logs p x)
set_honest game logs p x all new q h e = go (log_of_set logs p q x h e)
  where
    go : (log_of logs q ≡ Some h) ⊎ ((q ≡ p) × (x ≡ Some h)) → IsHonest game q h
    go (inl a) = all q h a
    go (inr b) = subst (λ (n : ℕ). IsHonest game n h) (sym b.0) (new h b.1)

map_honest : (game : Game) (p : ℕ) (f : List Entry → List Entry) (o : Option (List Entry)) → ((h : List Entry) → o ≡ Some h → IsHonest game p h) →
    ((h : List Entry) → IsHonest game p h → IsHonest game p (f h)) → (k : List Entry) → option_map f o ≡ Some k → IsHonest game p k
map_honest game p f None all step k e = absurd (let none : None ≡ Some k = e in cc)
map_honest game p f (Some h) all step k e = let same : f h ≡ k = cc in subst (λ (l : List Entry). IsHonest game p l) same (step h (all h refl))

frame_honest : (game : Game) (p q : ℕ) (o : Option (List Entry)) (f : Option TurnFrame) → ((h : List Entry) → o ≡ Some h → IsHonest game p h) →
    (k : List Entry) → log_after_frame game p o q f ≡ Some k → IsHonest game p k
frame_honest game p q None f all k e = absurd (let none : None ≡ Some k = e in cc)
frame_honest game p q (Some h) None all k e = all k e
frame_honest game p q (Some h) (Some f) all k e =
    let same : after_got game p h q f ≡ k = cc in subst (λ (l : List Entry). IsHonest game p l) same (got_honest game p q h f (all h refl))

-- each step leaves the logs honest
pub after_honest : (game : Game) (logs : Logs) (s : Step) → 1 ≤ game.ahead → AreHonest game logs → AreHonest game (after game logs s)
after_honest game logs (Choose p m n) d all =
    set_honest game logs p (option_map (λ h. after_choice game p h m n) (log_of logs p)) all
    (map_honest game p (λ h. after_choice game p h m n) (log_of logs p) (all p) (λ h i. choice_honest game p h m n d i))
after_honest game logs (Deliver q p place) d all =
    set_honest game logs p (log_after_frame game p (log_of logs p) q (made_at (log_of logs q) place)) all
    (frame_honest game p q (log_of logs p) (made_at (log_of logs q) place) (all p))
after_honest game logs (Hostile q p f) d all = go (has_log logs q)
  where
    go : (b : Bool) → AreHonest game (if b then logs else with_log logs p (log_after_frame game p (log_of logs p) q (Some f)))
    go true = all
    go false = set_honest game logs p (log_after_frame game p (log_of logs p) q (Some f)) all (frame_honest game p q (log_of logs p) (Some f) (all p))
after_honest game logs (Stop p keep) d all =
    set_honest game logs p (option_map (λ h. after_stop game p h keep) (log_of logs p)) all
    (map_honest game p (λ h. after_stop game p h keep) (log_of logs p) (all p) (λ h i. stop_honest game p keep h i))

pub session_honest : (game : Game) (logs : Logs) (ss : List Step) → 1 ≤ game.ahead → AreHonest game logs → AreHonest game (run game logs ss)
session_honest game logs [] d all = all
session_honest game logs (s ∷ ss) d all = session_honest game (after game logs s) ss d (after_honest game logs s d all)
