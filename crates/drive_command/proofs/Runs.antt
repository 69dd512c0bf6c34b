-- Runs: the log at the end of a run is that of the steps which its lines bring.
use Rattle.std.proofs.Common.{Bool, List, [], ap, false, refl, sym, true, ℕ, ◌+◌, ◌++◌, ◌∙◌, ◌∷◌, ◌≡◌}
use Rattle.std.specs.Prelude.{if◌then◌else◌}
use Rattle.definitions.specs.declared.world.Move.{Move}
use Rattle.definitions.specs.declared.openings.Nonce.{Nonce}
use Rattle.definitions.specs.declared.logs.Entry.{Entry}
use Rattle.definitions.specs.World.{Game}
use Rattle.definitions.specs.Findings.{is_clean}
use Rattle.definitions.specs.Needs.{may_choose}
use Rattle.definitions.specs.Advance.{advance}
use Rattle.definitions.specs.Steps.{Chooses, Comes, LogStep, after_choice, after_got, log_after, log_run}
use Rattle.line_io.specs.Inputs.{Input, lines_in}
use Rattle.wire_frames.specs.declared.frames.Frame.{Frame}
use Rattle.wire_frames.specs.declared.frames.Frame.TheVariants.{Hello, Turn, Want}
use Rattle.wire_frames.specs.Streams.{given_of}
use Rattle.drive_command.specs.declared.grammar.DriveLine.{DriveLine}
use Rattle.drive_command.specs.declared.grammar.DriveLine.TheVariants.{Bad, Bytes, Choose, Got, Log, Nothing, Score}
use Rattle.drive_command.specs.Grammar.{is_bad}
use Rattle.drive_command.specs.Driven.{State, fresh_state, reader_of}
use Rattle.drive_command.specs.Coming.{bytes_state, log_on, log_through}
use Rattle.drive_command.specs.Drive.{drive_log, log_from, said_behind, state_behind}
use Rattle.drive_command.specs.Laws.{steps_from, steps_in, steps_of}

module _ (game : Game) (me : ℕ) where
  -- after a finding no step changes a log
  still_choice : (h : List Entry) (mv : Move) (nonce : Nonce) → is_clean game h ≡ false → after_choice game me h mv nonce ≡ h
  unfolding may_choose
  still_choice h mv nonce c = rw c refl

  still_step : (h : List Entry) (s : LogStep) → is_clean game h ≡ false → log_after game me h s ≡ h
  still_step h (Chooses mv nonce) c = still_choice h mv nonce c
  still_step h (Comes q f) c = rw c refl

  still_run : (h : List Entry) (ss : List LogStep) → is_clean game h ≡ false → log_run game me h ss ≡ h
  still_run h [] c = refl
  still_run h (s ∷ ss) c = ap (λ (g : List Entry). log_run game me g ss) (still_step h s c) ∙ still_run h ss c

  run_append : (h : List Entry) (a b : List LogStep) → log_run game me h (a ++ b) ≡ log_run game me (log_run game me h a) b
  run_append h [] b = refl
  run_append h (s ∷ a) b = run_append (log_after game me h s) a b

  -- a run that goes on where a log has no finding
  run_on : (h last : List Entry) (ss : List LogStep) → last ≡ log_run game me h ss → log_on game h last ≡ log_run game me h ss
  run_on h last ss e = go (is_clean game h) refl
    where
      go : (b : Bool) → is_clean game h ≡ b → (if b then last else h) ≡ log_run game me h ss
      go true c = e
      go false c = sym (still_run h ss c)

  frames_run : (h : List Entry) (q : ℕ) (fs : List Frame) → log_through game me h q fs ≡ log_run game me h (steps_in q fs)
  unfolding log_through
  frames_run h q [] = refl
  frames_run h q (Turn f ∷ fs) = run_on (after_got game me h q f) _ (steps_in q fs) (frames_run (after_got game me h q f) q fs)
  frames_run h q (Hello id p pass next ∷ fs) = run_on h _ (steps_in q fs) (frames_run h q fs)
  frames_run h q (Want place ∷ fs) = run_on h _ (steps_in q fs) (frames_run h q fs)

  line_run : (s : State) (d : DriveLine) → (state_behind game me s d).log ≡ log_run game me s.log (steps_of s d)
  unfolding state_behind bytes_state
  line_run s Nothing = refl
  line_run s (Choose mv nonce) = refl
  line_run s (Got q f) = refl
  line_run s (Bytes q bytes) = frames_run s.log q (given_of (reader_of s q) bytes).frames
  line_run s Log = refl
  line_run s Score = refl
  line_run s Bad = refl

  from_run : (s : State) (n : ℕ) (lines : List (List ℕ)) → log_from game me s n lines ≡ log_run game me s.log (steps_from game me s n lines)
  from_run s n [] = refl
  from_run s n (line ∷ lines) = go (is_bad d) (run_on next.log (log_from game me next (n + 1) lines) (steps_from game me next (n + 1) lines) (from_run next (n + 1) lines))
    where
      d : DriveLine
      d = said_behind game n line

      next : State
      next = state_behind game me s d

      go : (b : Bool) → log_on game next.log (log_from game me next (n + 1) lines) ≡ log_run game me next.log (steps_from game me next (n + 1) lines) →
          (if b then s.log else log_on game next.log (log_from game me next (n + 1) lines)) ≡
          log_run game me s.log (if b then [] else steps_of s d ++ steps_from game me next (n + 1) lines)
      go true e = refl
      go false e =
          e ∙ ap (λ (h : List Entry). log_run game me h (steps_from game me next (n + 1) lines)) (line_run s d) ∙ sym (run_append s.log (steps_of s d) (steps_from game me next (n + 1) lines))

pub drive_runs : (game : Game) (me : ℕ) (first : List Entry) (input : Input) → let h = advance game me first in
    drive_log game me first input ≡ log_run game me h (steps_from game me (fresh_state h) 0 (lines_in input))
unfolding drive_log
drive_runs game me first input =
    let h = advance game me first in
    run_on game me h (log_from game me (fresh_state h) 0 (lines_in input)) (steps_from game me (fresh_state h) 0 (lines_in input)) (from_run game me (fresh_state h) 0 (lines_in input))
