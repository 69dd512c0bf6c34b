-- Stepped: what a choice and a frame that comes make of a log, by what is answered.
use Rattle.std.proofs.Common.{◌≡◌, ℕ, Bool, true, false, List, [], ◌∷◌, ◌++◌, length, refl, sym, ◌∙◌, Option, Some, None}
use Rattle.std.specs.Prelude.{not, is_none, ◌&&◌, if◌then◌else◌}
use Rattle.definitions.specs.declared.world.Move.{Move}
use Rattle.definitions.specs.declared.world.MoveFault.{MoveFault}
use Rattle.definitions.specs.declared.openings.Nonce.{Nonce}
use Rattle.definitions.specs.declared.frames.TurnFrame.{TurnFrame}
use Rattle.definitions.specs.declared.logs.Entry.{Entry}
use Rattle.definitions.specs.declared.logs.Entry.TheVariants.{Chose, Got}
use Rattle.definitions.specs.declared.answers.OwnFault.{OwnFault}
use Rattle.definitions.specs.declared.answers.OwnFault.TheVariants.{NotNow}
use Rattle.definitions.specs.World.{Game}
use Rattle.definitions.specs.Moves.{is_legal, move_fault}
use Rattle.definitions.specs.Logs.{chosen}
use Rattle.definitions.specs.Answers.{got_answer}
use Rattle.definitions.specs.Honest.{chosen_track}
use Rattle.definitions.specs.Needs.{choice_fault, may_choose, own_fault}
use Rattle.definitions.specs.Advance.{advance}
use Rattle.definitions.specs.Steps.{after_choice, after_got, is_taken_in}
use Rattle.peer_core.specs.Answers.{is_logged}
use Rattle.peer_core.specs.Views.{with_got}
use Rattle.peer_core.proofs.Answering.{logged_is}

-- a choice without a fault is logged, and the owner advances
pub choice_taken : (game : Game) (me : ℕ) (h : List Entry) (m : Move) (n : Nonce) → choice_fault game me h m ≡ None →
    after_choice game me h m n ≡ advance game me (h ++ Chose (length (chosen me h)) m n ∷ [])
unfolding choice_fault is_legal
choice_taken game me h m n e = go (may_choose game me h) (move_fault game me (chosen_track game me h) m) e
  where
    go : (b : Bool) (o : Option MoveFault) → (if not b then Some NotNow else own_fault o) ≡ None →
        (if b && is_none o then advance game me (h ++ Chose (length (chosen me h)) m n ∷ []) else h) ≡ advance game me (h ++ Chose (length (chosen me h)) m n ∷ [])
    go true None e = refl
    go true (Some f) e = cc
    go false o e = cc

-- a choice with a fault changes nothing
pub choice_refused : (game : Game) (me : ℕ) (h : List Entry) (m : Move) (n : Nonce) (f : OwnFault) → choice_fault game me h m ≡ Some f → after_choice game me h m n ≡ h
unfolding choice_fault is_legal
choice_refused game me h m n f e = go (may_choose game me h) (move_fault game me (chosen_track game me h) m) e
  where
    go : (b : Bool) (o : Option MoveFault) → (if not b then Some NotNow else own_fault o) ≡ Some f →
        (if b && is_none o then advance game me (h ++ Chose (length (chosen me h)) m n ∷ []) else h) ≡ h
    go true None e = cc
    go true (Some g) e = refl
    go false o e = refl

-- a frame that is logged is in the log behind which the owner advances, and one that is not changes nothing
pub frame_logged : (game : Game) (me : ℕ) (h : List Entry) (q : ℕ) (f : TurnFrame) (b : Bool) → b ≡ is_logged (got_answer game me h q f) → b ≡ true →
    advance game me (with_got game me h q f) ≡ after_got game me h q f
frame_logged game me h q f b e t = go (is_taken_in game me h q f) (sym (logged_is game me h q f) ∙ sym e ∙ t)
  where
    go : (c : Bool) → c ≡ true → advance game me (if c then h ++ Got q f ∷ [] else h) ≡ (if c then advance game me (h ++ Got q f ∷ []) else h)
    go true e = refl
    go false e = cc

pub frame_unlogged : (game : Game) (me : ℕ) (h : List Entry) (q : ℕ) (f : TurnFrame) (b : Bool) → b ≡ is_logged (got_answer game me h q f) → b ≡ false →
    with_got game me h q f ≡ after_got game me h q f
frame_unlogged game me h q f b e t = go (is_taken_in game me h q f) (sym (logged_is game me h q f) ∙ sym e ∙ t)
  where
    go : (c : Bool) → c ≡ false → (if c then h ++ Got q f ∷ [] else h) ≡ (if c then advance game me (h ++ Got q f ∷ []) else h)
    go false e = refl
    go true e = cc
