-- Making: the own moves that are chosen and the own frames that are made.
use Rattle.std.specs.Prelude.{◌≡◌, ℕ, ◌+◌, Bool, true, false, List, [], ◌∷◌, ◌++◌, Option, Some, None, IfSome, length}
use Rattle.definitions.specs.declared.world.Move.{Move}
use Rattle.definitions.specs.declared.world.MoveFault.{MoveFault}
use Rattle.definitions.specs.declared.openings.Nonce.{Nonce}
use Rattle.definitions.specs.declared.answers.OwnFault.{OwnFault}
use Rattle.definitions.specs.declared.answers.OwnFault.TheVariants.{NotNow, Illegal}
use Rattle.definitions.specs.declared.logs.Entry.{Entry}
use Rattle.definitions.specs.declared.logs.Entry.TheVariants.{Chose}
use Rattle.definitions.specs.Logs.{chosen}
use Rattle.definitions.specs.Honest.{chosen_track}
use Rattle.definitions.specs.Needs.{may_choose, choice_fault}
use Rattle.definitions.specs.Advance.{next_made}
use Rattle.pilots.specs.Plans.{Plan}
use Rattle.peer_core.specs.Views.{PeerState}
use Rattle.peer_core.specs.Standing.{IsStanding}
use Rattle.own_moves.specs.declared.making.Moves.{Moves}
use Rattle.own_moves.specs.declared.making.Moves.TheVariants as M
use Rattle.own_moves.specs.Choices.{Chooser, ChoosesBy}
use Rattle.peer_rules.specs.Order.{OwnRun}

-- the peer with these entries more
abbrev pub with_more : List Entry → PeerState → PeerState
with_more more p = record p { entries = p.entries ++ more }

-- no move was refused
abbrev pub are_legal : Moves → Bool
are_legal M.Legal = true
are_legal (M.OwnMove turn fault) = false

-- the pilot's move was refused
abbrev pub is_refused : Moves → Bool
is_refused M.Legal = false
is_refused (M.OwnMove turn fault) = true

-- why a move is not legal, where that is the fault
abbrev pub illegal_of : OwnFault → Option MoveFault
illegal_of NotNow = None
illegal_of (Illegal fault) = Some fault

-- the pilot's move of the turn that is to be chosen is not legal
pub record IsOwnMove (plan : Option Plan) (turn : ℕ) (fault : MoveFault) (q : PeerState) : Type 0 where
  pub mv : Move
  pub chooses : may_choose q.game q.me q.entries ≡ true
  pub turn_is : turn ≡ length (chosen q.me q.entries)
  pub planned : IfSome plan (λ p. mv ≡ p (chosen_track q.game q.me q.entries) turn)
  pub refused : choice_fault q.game q.me q.entries mv ≡ Some (Illegal fault)

-- the choice is in the log, which is honest, or the move is not legal
abbrev pub PutsChoice : Move → Nonce → Option MoveFault → PeerState → PeerState → Type 0
PutsChoice mv nonce None p q = (q ≡ with_more (Chose (length (chosen p.me p.entries)) mv nonce ∷ []) p) × IsStanding q
PutsChoice mv nonce (Some fault) p q = (q ≡ p) × (choice_fault p.game p.me p.entries mv ≡ Some (Illegal fault))

-- the log is the one before and one choice more, and is honest
pub record HasChoice (p q : PeerState) : Type 0 where
  pub mv : Move
  pub nonce : Nonce
  pub state : q ≡ with_more (Chose (length (chosen p.me p.entries)) mv nonce ∷ []) p
  pub standing : IsStanding q

-- one choice is in the log, or the pilot's move is not legal and the log stays as it was
abbrev pub StandsPut : Option Plan → Moves → (p q : PeerState) → Type 0
StandsPut plan M.Legal p q = HasChoice p q
StandsPut plan (M.OwnMove turn fault) p q = (q ≡ p) × IsOwnMove plan turn fault p

-- one move is put into the log, or is not legal, and the choice is the chooser's; no frame is made
pub record PutsMove (by to : Chooser) (made : Moves) (p q : PeerState) : Type 0 where
  pub choices : ChoosesBy p.game p.me by to (is_refused made) p.entries q.entries
  pub stands : StandsPut by.plan made p q

-- why it ended so: nothing may be chosen, or a move is not legal
abbrev pub StandsAs : Option Plan → Moves → PeerState → Type 0
StandsAs plan M.Legal q = may_choose q.game q.me q.entries ≡ false
StandsAs plan (M.OwnMove turn fault) q = IsOwnMove plan turn fault q

-- one move was chosen, or it is not legal
abbrev pub StandsChosen : Option Plan → Moves → (p q : PeerState) → Type 0
StandsChosen plan M.Legal p q = length (chosen q.me q.entries) ≡ length (chosen p.me p.entries) + 1
StandsChosen plan (M.OwnMove turn fault) p q = IsOwnMove plan turn fault q

-- Own entries were added, each in its order, after which no own frame may be made. The choices
-- among them are the chooser's.
pub record Adds (by to : Chooser) (refused : Bool) (p q : PeerState) : Type 0 where
  pub more : List Entry
  pub state : q ≡ with_more more p
  pub own : OwnRun p.game p.me p.entries more
  pub made : next_made p.game p.me (p.entries ++ more) ≡ None
  pub choices : ChoosesBy p.game p.me by to refused p.entries (p.entries ++ more)

-- one move is chosen, and the own frames are made that it lets be made
pub record Chooses (by to : Chooser) (made : Moves) (p q : PeerState) : Type 0 where
  pub adds : Adds by to (is_refused made) p q
  pub stands : StandsChosen by.plan made p q

-- all moves are chosen that may be, and all own frames made
pub record MakesAll (by to : Chooser) (made : Moves) (p q : PeerState) : Type 0 where
  pub adds : Adds by to (is_refused made) p q
  pub stands : StandsAs by.plan made q
