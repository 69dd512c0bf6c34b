-- Choices: own moves that are chosen one after the other.
use Rattle.std.proofs.Common.{◌≡◌, ℕ, Bool, true, false, refl, sym, ap, subst, ◌∙◌, List, [], ◌∷◌, ◌++◌, append_assoc, append-nil, length}
use Rattle.std.specs.Prelude.{Option, Some, None, IfSome}
use Rattle.rand_core.specs.Stream.{Stream, fill_bytes}
use Rattle.definitions.specs.declared.openings.Nonce.{Nonce}
use Rattle.definitions.specs.declared.openings.Opening.{Opening}
use Rattle.definitions.specs.declared.world.Move.{Move}
use Rattle.definitions.specs.declared.logs.Entry.{Entry}
use Rattle.definitions.specs.declared.logs.Entry.TheVariants.{Chose}
use Rattle.definitions.specs.World.{Game}
use Rattle.definitions.specs.Logs.{chosen}
use Rattle.definitions.specs.Honest.{chosen_track}
use Rattle.definition_laws.proofs.Chosen.{chosen_push}
use Rattle.pilots.specs.Plans.{Plan}
use Rattle.peer_core.specs.Views.{PeerState, choice_of}
use Rattle.peer_core.specs.declared.views.Choice.{Choice}
use Rattle.own_moves.specs.Choices.{Chooser, nonce_of, behind_nonce, AreChoices, ChoosesBy}

made_then : (game : Game) (me : ℕ) (plan : Option Plan) (before xs ys : List Opening) (s t u : Stream) → AreChoices game me plan before xs s t → AreChoices game me plan (before ++ xs) ys t u → AreChoices game me plan before (xs ++ ys) s u
made_then game me plan before [] ys s t u a b =
    subst (λ (z : Stream). AreChoices game me plan before ys z u) a (subst (λ (os : List Opening). AreChoices game me plan os ys t u) (append-nil before) b)
made_then game me plan before (o ∷ xs) ys s t u a b =
    (a.0, made_then game me plan (before ++ o ∷ []) xs ys (behind_nonce s) t u a.1 (subst (λ (os : List Opening). AreChoices game me plan os ys t u) (sym (append_assoc before (o ∷ []) xs)) b))

-- nothing is chosen
pub chose_none : (game : Game) (me : ℕ) (by : Chooser) (g h : List Entry) → chosen me h ≡ chosen me g → ChoosesBy game me by by false g h
chose_none game me by g h same = record { more = []; grown = same ∙ sym (append-nil (chosen me g)); last = by.chance; made = refl; chance = refl; plan = refl }

pub chose_then : (game : Game) (me : ℕ) (by mid to : Chooser) (refused : Bool) (g h k : List Entry) → ChoosesBy game me by mid false g h → ChoosesBy game me mid to refused h k → ChoosesBy game me by to refused g k
chose_then game me by mid to refused g h k a b = record {
  more = a.more ++ b.more;
  grown = b.grown ∙ ap (λ (os : List Opening). os ++ b.more) a.grown ∙ append_assoc (chosen me g) a.more b.more;
  last = b.last;
  made = made_then game me by.plan (chosen me g) a.more b.more by.chance a.last b.last a.made
      (subst (λ (p : Option Plan). AreChoices game me p (chosen me g ++ a.more) b.more a.last b.last) a.plan
      (subst (λ (s : Stream). AreChoices game me mid.plan (chosen me g ++ a.more) b.more s b.last) a.chance
      (subst (λ (os : List Opening). AreChoices game me mid.plan os b.more mid.chance b.last) a.grown b.made)));
  chance = b.chance;
  plan = b.plan ∙ a.plan;
}

-- nothing is chosen after it
pub chose_still : (game : Game) (me : ℕ) (by to : Chooser) (refused : Bool) (g h k : List Entry) → ChoosesBy game me by to refused g h → chosen me k ≡ chosen me h → ChoosesBy game me by to refused g k
chose_still game me by to refused g h k c same = record { more = c.more; grown = same ∙ c.grown; last = c.last; made = c.made; chance = c.chance; plan = c.plan }

-- ---- one choice

-- what was drawn for the next choice: the pilot's move, and the generator's nonce
pub record IsDrawn (p : PeerState) (by to : Chooser) (mv : Move) (nonce : Nonce) : Type 0 where
  pub planned : IfSome by.plan (λ plan. mv ≡ plan (chosen_track p.game p.me p.entries) (length (chosen p.me p.entries)))
  pub drew : nonce ≡ nonce_of by.chance
  pub chance : to.chance ≡ behind_nonce by.chance
  pub plan : to.plan ≡ by.plan

pub drawn : (p : PeerState) (by to : Chooser) (choice : Choice) (mv : Move) (bytes : List ℕ) → choice ≡ choice_of p.game p.me p.entries → IfSome by.plan (λ plan. mv ≡ plan choice.track choice.turn) → to.plan ≡ by.plan →
    (bytes, to.chance) ≡ fill_bytes 32 by.chance → IsDrawn p by to mv (record { bytes = bytes })
drawn p by to choice mv bytes is planned plan both = record {
  planned = go by.plan planned;
  drew = ap {B = Nonce} (λ (x : List ℕ × Stream). record { bytes = x.0 }) both;
  chance = ap (λ (x : List ℕ × Stream). x.1) both;
  plan = plan;
}
  where
    go : (o : Option Plan) → IfSome o (λ plan. mv ≡ plan choice.track choice.turn) → IfSome o (λ plan. mv ≡ plan (chosen_track p.game p.me p.entries) (length (chosen p.me p.entries)))
    go None h = tt
    go (Some plan) h = h ∙ ap (λ (c : Choice). plan c.track c.turn) is

-- it is put into the log
pub chose_one : (p : PeerState) (by to : Chooser) (mv : Move) (nonce : Nonce) → IsDrawn p by to mv nonce → ChoosesBy p.game p.me by to false p.entries (p.entries ++ Chose (length (chosen p.me p.entries)) mv nonce ∷ [])
chose_one p by to mv nonce d = record {
  more = record { player = p.me; turn = length (chosen p.me p.entries); mv = mv; nonce = nonce } ∷ [];
  grown = chosen_push p.me p.entries (Chose (length (chosen p.me p.entries)) mv nonce);
  last = behind_nonce by.chance;
  made = (record { player = refl; turn = refl; planned = d.planned; nonce = d.drew }, refl);
  chance = d.chance;
  plan = d.plan;
}

-- or its move is refused
pub chose_refused : (p : PeerState) (by to : Chooser) (mv : Move) (nonce : Nonce) (h : List Entry) → IsDrawn p by to mv nonce → chosen p.me h ≡ chosen p.me p.entries → ChoosesBy p.game p.me by to true p.entries h
chose_refused p by to mv nonce h d same = record {
  more = [];
  grown = same ∙ sym (append-nil (chosen p.me p.entries));
  last = by.chance;
  made = refl;
  chance = d.chance;
  plan = d.plan;
}
