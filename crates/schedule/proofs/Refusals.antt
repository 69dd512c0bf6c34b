-- Refusals: a step that is refused changes no log.
use Rattle.std.proofs.Common.{◌≡◌, ℕ, zero, suc, Bool, true, false, List, [], ◌∷◌, ◌++◌, length, take, refl, sym, ap, ◌∙◌, Option, Some, None}
use Rattle.std.specs.Prelude.{not, option_map, if◌then◌else◌}
use Rattle.std.proofs.lemmas.Bool.{false≢true}
use Rattle.definitions.specs.declared.world.Move.{Move}
use Rattle.definitions.specs.declared.openings.Nonce.{Nonce}
use Rattle.definitions.specs.declared.frames.TurnFrame.{TurnFrame}
use Rattle.definitions.specs.declared.logs.Entry.{Entry}
use Rattle.definitions.specs.declared.logs.Entry.TheVariants.{Got}
use Rattle.definitions.specs.declared.answers.OwnFault.{OwnFault}
use Rattle.definitions.specs.World.{Game}
use Rattle.definitions.specs.Logs.{chosen}
use Rattle.definitions.specs.Answers.{got_answer}
use Rattle.definitions.specs.Needs.{choice_fault}
use Rattle.definitions.specs.Advance.{advance}
use Rattle.definitions.specs.Steps.{Logs, after, after_choice, after_got, after_stop, has_log, is_taken_in, log_after_frame, log_of, made_at, with_log}
use Rattle.peer_core.specs.Answers.{is_logged}
use Rattle.peer_core.specs.Cutting.{may_cut}
use Rattle.peer_core.proofs.Answering.{logged_is}
use Rattle.schedule.specs.declared.steps.Step.{Step}
use Rattle.schedule.specs.declared.steps.Step.TheVariants.{Choose, Deliver, Hostile, Stop}
use Rattle.schedule.specs.declared.steps.StepAnswer.{StepAnswer}
use Rattle.schedule.specs.declared.steps.StepAnswer.TheVariants as A
use Rattle.schedule.specs.Steps.{answer, choice_answer, chosen_or, frame_answer, if_honest, is_refusal, meant, stop_answer}
use Rattle.schedule.specs.Tables.{IsStepped, TableState}
use Rattle.peer_core.proofs.Stepped.{choice_refused}

-- a log that becomes what it is leaves the logs
same_log : (logs : Logs) (p : ℕ) (x : Option (List Entry)) → x ≡ log_of logs p → with_log logs p x ≡ logs
same_log [] p x e = refl
same_log (l ∷ ls) zero x e = ap (λ (y : Option (List Entry)). y ∷ ls) e
same_log (l ∷ ls) (suc p) x e = ap (λ (ys : Logs). l ∷ ys) (same_log ls p x e)

choice_same : (game : Game) (p : ℕ) (mv : Move) (nonce : Nonce) (o : Option (List Entry)) → is_refusal (if_honest o (λ h. choice_answer game p h mv)) ≡ true → option_map (λ h. after_choice game p h mv nonce) o ≡ o
choice_same game p mv nonce None e = refl
choice_same game p mv nonce (Some h) e = go (choice_fault game p h mv) refl e
  where
    go : (f : Option OwnFault) → choice_fault game p h mv ≡ f → is_refusal (chosen_or (length (chosen p h)) f) ≡ true → Some (after_choice game p h mv nonce) ≡ Some h
    go None k e = absurd (false≢true e)
    go (Some f) k e = let one : List Entry → Option (List Entry) = λ x. Some x in ap one (choice_refused game p h mv nonce f k)

got_same : (game : Game) (p q : ℕ) (h : List Entry) (f : TurnFrame) → not (is_logged (got_answer game p h q f)) ≡ true → after_got game p h q f ≡ h
got_same game p q h f e = go (is_taken_in game p h q f) (ap not (sym (logged_is game p h q f)) ∙ e)
  where
    go : (b : Bool) → not b ≡ true → (if b then advance game p (h ++ Got q f ∷ []) else h) ≡ h
    go true e = absurd (false≢true e)
    go false e = refl

frame_same : (game : Game) (p q : ℕ) (h : List Entry) (o : Option TurnFrame) → is_refusal (frame_answer game p h q o) ≡ true → log_after_frame game p (Some h) q o ≡ Some h
frame_same game p q h None e = refl
frame_same game p q h (Some f) e = let one : List Entry → Option (List Entry) = λ x. Some x in ap one (got_same game p q h f e)

delivery_same : (game : Game) (p q place : ℕ) (a b : Option (List Entry)) → is_refusal (if_honest a (λ g. if_honest b (λ h. frame_answer game p h q (made_at (Some g) place)))) ≡ true → log_after_frame game p b q (made_at a place) ≡ b
delivery_same game p q place None None e = refl
delivery_same game p q place None (Some h) e = refl
delivery_same game p q place (Some g) None e = refl
delivery_same game p q place (Some g) (Some h) e = frame_same game p q h (made_at (Some g) place) e

stop_same : (game : Game) (p keep : ℕ) (o : Option (List Entry)) → is_refusal (if_honest o (λ h. stop_answer h keep)) ≡ true → option_map (λ h. after_stop game p h keep) o ≡ o
stop_same game p keep None e = refl
stop_same game p keep (Some h) e = go (may_cut h keep) e
  where
    go : (b : Bool) → is_refusal (if b then A.Stopped else A.BadCut) ≡ true → Some (if b then advance game p (take keep h) else h) ≡ Some h
    go true e = absurd (false≢true e)
    go false e = refl

refused_same : (game : Game) (logs : Logs) (s : Step) → is_refusal (answer game logs s) ≡ true → after game logs (meant s) ≡ logs
refused_same game logs (Choose p mv nonce) e = same_log logs p _ (choice_same game p mv nonce (log_of logs p) e)
refused_same game logs (Deliver q p place) e = same_log logs p _ (delivery_same game p q place (log_of logs q) (log_of logs p) e)
refused_same game logs (Hostile q p f) e = go (has_log logs q) (log_of logs p) refl e
  where
    go : (b : Bool) (o : Option (List Entry)) → o ≡ log_of logs p → is_refusal (if_honest o (λ h. if b then A.NotHostile else frame_answer game p h q (Some f))) ≡ true →
        (if b then logs else with_log logs p (log_after_frame game p o q (Some f))) ≡ logs
    go true o there e = refl
    go false None there e = same_log logs p None there
    go false (Some h) there e = same_log logs p _ (frame_same game p q h (Some f) e ∙ there)
refused_same game logs (Stop p keep) e = same_log logs p _ (stop_same game p keep (log_of logs p) e)

-- the same of a step of a table
pub stepped_same : (t u : TableState) (s : Step) (said : StepAnswer) → IsStepped t s said u → is_refusal said ≡ true → u.logs ≡ t.logs
stepped_same t u s said i e = ap (λ (x : TableState). x.logs) i.behind_is ∙ refused_same t.game t.logs s (ap is_refusal (sym i.said_is) ∙ e)
