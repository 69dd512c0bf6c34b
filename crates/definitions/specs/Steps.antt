-- Steps: what may happen to the logs of the honest players of one session, and whole runs.
use Rattle.std.specs.Prelude.{◌≡◌, IsTrue, ℕ, Bool, ◌&&◌, List, [], ◌∷◌, ◌++◌, Option, Some, None, take, drop, slice_get, set, if◌then◌else◌}
use Rattle.definitions.specs.declared.world.Move.{Move}
use Rattle.definitions.specs.declared.openings.Nonce.{Nonce}
use Rattle.definitions.specs.declared.frames.TurnFrame.{TurnFrame}
use Rattle.definitions.specs.declared.logs.Entry.{Entry}
use Rattle.definitions.specs.declared.logs.Entry.TheVariants.{Chose, Got}
use Rattle.definitions.specs.Lists.{is_empty, item_or, EachIs}
use Rattle.definitions.specs.World.{Game}
use Rattle.definitions.specs.Moves.{is_legal}
use Rattle.definitions.specs.Logs.{made, chosen, got_of, frame_eq}
use Rattle.definitions.specs.Findings.{is_clean}
use Rattle.definitions.specs.Answers.{is_new, is_of_another}
use Rattle.definitions.specs.Honest.{chosen_track}
use Rattle.definitions.specs.Needs.{may_choose}
use Rattle.definitions.specs.Advance.{advance}
use Rattle.std.specs.Prelude.{length, nat_le, option_map, is_some}
use Rattle.std.specs.List.{list_any}

-- the log after its owner chose
abbrev pub after_choice : Game → ℕ → List Entry → Move → Nonce → List Entry
after_choice game me h m n =
    if may_choose game me h && is_legal game me (chosen_track game me h) m
    then advance game me (h ++ Chose (length (chosen me h)) m n ∷ [])
    else h

-- the frame is taken into the log
abbrev pub is_taken_in : Game → ℕ → List Entry → ℕ → TurnFrame → Bool
is_taken_in game me h q f = is_clean game h && is_of_another game me q f && is_new game me h q f

-- the log after a frame came from q
abbrev pub after_got : Game → ℕ → List Entry → ℕ → TurnFrame → List Entry
after_got game me h q f = if is_taken_in game me h q f then advance game me (h ++ Got q f ∷ []) else h

-- what may happen to one log
pub data LogStep : Type 0 where
  Chooses : Move → Nonce → LogStep
  Comes : ℕ → TurnFrame → LogStep

-- the log after the step
abbrev pub log_after : Game → ℕ → List Entry → LogStep → List Entry
log_after game me h (Chooses m n) = after_choice game me h m n
log_after game me h (Comes q f) = after_got game me h q f

-- the log after all these steps
abbrev pub log_run : Game → ℕ → List Entry → List LogStep → List Entry
log_run game me h [] = h
log_run game me h (s ∷ ss) = log_run game me (log_after game me h s) ss

-- the logs of a session's players, none for a hostile one
abbrev pub Logs : Type 0
Logs = List (Option (List Entry))

-- what may happen to the logs
pub data Step : Type 0 where
  Choose : (player : ℕ) → Move → Nonce → Step
  Deliver : (from to place : ℕ) → Step
  Hostile : (from to : ℕ) → TurnFrame → Step
  Stop : (player keep : ℕ) → Step

-- the player's log, none for a hostile one
abbrev pub log_of : Logs → ℕ → Option (List Entry)
log_of logs q = item_or logs q None

-- the player has a log, as each honest one has
abbrev pub has_log : Logs → ℕ → Bool
has_log logs q = is_some (log_of logs q)

-- the logs after an honest player's log became this one
abbrev pub with_log : Logs → ℕ → Option (List Entry) → Logs
with_log logs p h = set logs p h

-- the frame that the log has made at this place
abbrev pub made_at : Option (List Entry) → ℕ → Option TurnFrame
made_at None place = None
made_at (Some h) place = slice_get (made h) place

-- the log after a frame of q came, if there is a frame
abbrev pub log_after_frame : Game → ℕ → Option (List Entry) → ℕ → Option TurnFrame → Option (List Entry)
log_after_frame game p None q f = None
log_after_frame game p (Some h) q None = Some h
log_after_frame game p (Some h) q (Some f) = Some (after_got game p h q f)

-- no made entry stands among these
abbrev pub has_no_made : List Entry → Bool
has_no_made es = is_empty (made es)

-- the log stopped and begun again from its first entries, where that cuts off no made entry
abbrev pub after_stop : Game → ℕ → List Entry → ℕ → List Entry
after_stop game p h keep =
    if nat_le keep (length h) && has_no_made (drop keep h) then advance game p (take keep h) else h

-- the logs after the step; a step that is refused changes nothing
abbrev pub after : Game → Logs → Step → Logs
after game logs (Choose p m n) = with_log logs p (option_map (λ h. after_choice game p h m n) (log_of logs p))
after game logs (Deliver q p place) =
    with_log logs p (log_after_frame game p (log_of logs p) q (made_at (log_of logs q) place))
after game logs (Hostile q p f) =
    if has_log logs q then logs else with_log logs p (log_after_frame game p (log_of logs p) q (Some f))
after game logs (Stop p keep) = with_log logs p (option_map (λ h. after_stop game p h keep) (log_of logs p))

-- the logs after all these steps
abbrev pub run : Game → Logs → List Step → Logs
run game logs [] = logs
run game logs (s ∷ ss) = run game (after game logs s) ss

-- the frame stands among those that the log made
abbrev pub IsMadeIn : List Entry → TurnFrame → Type 0
IsMadeIn h f = IsTrue (list_any (frame_eq f) (made h))

-- each frame that an honest player's log got of an honest player stands among those that the latter's log made
abbrev pub AreAuthentic : Logs → Type 0
AreAuthentic logs = (p q : ℕ) (g h : List Entry) → log_of logs p ≡ Some g → log_of logs q ≡ Some h → EachIs (IsMadeIn h) (got_of q g)
