-- Choices: what choices, frames and advancing add to a log.
use Rattle.std.proofs.Common.{Bool, List, None, Option, Some, [], ap, append-nil, append_assoc, arith, false, length, length-append, refl, suc, sym, true, zero, ℕ, ◌*◌, ◌++◌, ◌∙◌, ◌∷◌, ◌≡◌, ◌≤◌}
use Rattle.std.specs.Prelude.{if◌then◌else◌, ◌&&◌}
use Rattle.definitions.specs.declared.world.Move.{Move}
use Rattle.definitions.specs.declared.openings.Nonce.{Nonce}
use Rattle.definitions.specs.declared.logs.Entry.{Entry}
use Rattle.definitions.specs.declared.logs.Entry.TheVariants.{Chose, Made, Got}
use Rattle.definitions.specs.World.{Game}
use Rattle.definitions.specs.Moves.{is_legal}
use Rattle.definitions.specs.Logs.{chosen}
use Rattle.definitions.specs.Honest.{chosen_track}
use Rattle.definitions.specs.Needs.{may_choose}
use Rattle.definitions.specs.declared.frames.TurnFrame.{TurnFrame}
use Rattle.definitions.specs.Advance.{advance, advance_by, next_made, with_made}
use Rattle.definitions.specs.Steps.{after_choice, after_got, is_taken_in}

-- the log has these entries behind the others
abbrev pub Extends : List Entry → List Entry → Type 0
Extends h g = (es : List Entry) × (g ≡ h ++ es)

extends_more : (f g h : List Entry) → Extends f g → Extends g h → Extends f h
extends_more f g h a b = (a.0 ++ b.0, b.1 ∙ ap (λ x. x ++ b.0) a.1 ∙ append_assoc f a.0 b.0)

extends_made : (h : List Entry) (o : Option TurnFrame) → Extends h (with_made h o)
extends_made h None = ([], sym (append-nil h))
extends_made h (Some f) = (Made f ∷ [], refl)

pub extends_by : (game : Game) (me n : ℕ) (h : List Entry) → Extends h (advance_by game me n h)
unfolding advance_by
extends_by game me zero h = ([], sym (append-nil h))
extends_by game me (suc n) h =
    let g = with_made h (next_made game me h) in
    extends_more h g (advance_by game me n g) (extends_made h (next_made game me h)) (extends_by game me n g)

-- advancing adds entries
pub extends_advance : (game : Game) (me : ℕ) (h : List Entry) → Extends h (advance game me h)
unfolding advance
extends_advance game me h = extends_by game me (2 * game.turns) h

-- a choice adds entries, if any
pub extends_choice : (game : Game) (me : ℕ) (h : List Entry) (m : Move) (n : Nonce) → Extends h (after_choice game me h m n)
extends_choice game me h m n = go (may_choose game me h && is_legal game me (chosen_track game me h) m)
  where
    go : (b : Bool) → Extends h (if b then advance game me (h ++ Chose (length (chosen me h)) m n ∷ []) else h)
    go true = let g = h ++ Chose (length (chosen me h)) m n ∷ [] in extends_more h g (advance game me g) (Chose (length (chosen me h)) m n ∷ [], refl) (extends_advance game me g)
    go false = ([], sym (append-nil h))

longer : (h g : List Entry) → Extends h g → length h ≤ length g
longer h g e = omega (arith, length-append h e.0, ap length e.1)

pub advance_longer : (game : Game) (me : ℕ) (h : List Entry) → length h ≤ length (advance game me h)
advance_longer game me h = longer h (advance game me h) (extends_advance game me h)

pub choice_longer : (game : Game) (me : ℕ) (h : List Entry) (m : Move) (n : Nonce) → length h ≤ length (after_choice game me h m n)
choice_longer game me h m n = longer h (after_choice game me h m n) (extends_choice game me h m n)

-- a frame adds entries, if any
pub extends_got : (game : Game) (me : ℕ) (h : List Entry) (q : ℕ) (f : TurnFrame) → Extends h (after_got game me h q f)
extends_got game me h q f = go (is_taken_in game me h q f)
  where
    go : (b : Bool) → Extends h (if b then advance game me (h ++ Got q f ∷ []) else h)
    go true = let g = h ++ Got q f ∷ [] in extends_more h g (advance game me g) (Got q f ∷ [], refl) (extends_advance game me g)
    go false = ([], sym (append-nil h))

pub got_longer : (game : Game) (me : ℕ) (h : List Entry) (q : ℕ) (f : TurnFrame) → length h ≤ length (after_got game me h q f)
got_longer game me h q f = longer h (after_got game me h q f) (extends_got game me h q f)
