-- Runs: own entries that come next one after the other.
use Rattle.std.proofs.Common.{◌≡◌, ℕ, zero, suc, ◌+◌, ◌*◌, ◌≤◌, true, refl, sym, ap, subst, ◌∙◌, List, [], ◌∷◌, ◌++◌, append_assoc, append-nil, length}
use Rattle.std.proofs.lemmas.Bool.{and_from}
use Rattle.std.specs.Prelude.{Option, Some, None, is_none}
use Rattle.std.proofs.lemmas.List.{length-append}
use Rattle.definitions.specs.declared.frames.TurnFrame.{TurnFrame}
use Rattle.definitions.specs.declared.world.Move.{Move}
use Rattle.definitions.specs.declared.openings.Nonce.{Nonce}
use Rattle.definitions.specs.declared.openings.Opening.{Opening}
use Rattle.definitions.specs.declared.logs.Entry.{Entry}
use Rattle.definitions.specs.declared.logs.Entry.TheVariants.{Chose, Made}
use Rattle.definitions.specs.World.{Game}
use Rattle.definitions.specs.Logs.{chosen}
use Rattle.definitions.specs.Honest.{IsHonest}
use Rattle.definitions.specs.Advance.{advance, advance_by, next_made, with_made}
use Rattle.definition_laws.proofs.Alike.{frame_eq_same}
use Rattle.definition_laws.proofs.Advances.{advance_ends, next_made_allowed}
use Rattle.definition_laws.proofs.Chosen.{chosen_push}
use Rattle.definition_laws.proofs.ForPeers.{honest_last}
use Rattle.peer_rules.specs.Order.{is_frame, comes_next, OwnRun}

pub run_then : (game : Game) (me : ℕ) (h xs ys : List Entry) → OwnRun game me h xs → OwnRun game me (h ++ xs) ys → OwnRun game me h (xs ++ ys)
run_then game me h [] ys a b = subst (λ (es : List Entry). OwnRun game me es ys) (append-nil h) b
run_then game me h (x ∷ xs) ys a b = (a.0, a.1, run_then game me (h ++ x ∷ []) xs ys a.2 (subst (λ (es : List Entry). OwnRun game me es ys) (sym (append_assoc h (x ∷ []) xs)) b))

-- an own frame that the log allows comes next
pub made_next : (game : Game) (me : ℕ) (h : List Entry) (f : TurnFrame) → next_made game me h ≡ Some f → comes_next game me h (Made f) ≡ true
made_next game me h f e = and_from _ _ (next_made_allowed game me h f e) (ap (λ (o : Option TurnFrame). is_frame o f) e ∙ frame_eq_same f)

-- and so does a choice that is allowed where no own frame is left to be made
pub chose_next : (game : Game) (me : ℕ) (h : List Entry) (t : ℕ) (m : Move) (n : Nonce) → IsHonest game me (h ++ Chose t m n ∷ []) → next_made game me h ≡ None → comes_next game me h (Chose t m n) ≡ true
chose_next game me h t m n honest e = and_from _ _ (honest_last game me h (Chose t m n) honest).1 (ap (λ (o : Option TurnFrame). is_none o) e)

by_run : (game : Game) (me n : ℕ) (h : List Entry) → (more : List Entry) × (advance_by game me n h ≡ h ++ more) × OwnRun game me h more
unfolding advance_by
by_run game me zero h = ([], sym (append-nil h), tt)
by_run game me (suc n) h = go (next_made game me h) refl (λ g. by_run game me n g)
  where
    go : (o : Option TurnFrame) → next_made game me h ≡ o → ((g : List Entry) → (more : List Entry) × (advance_by game me n g ≡ g ++ more) × OwnRun game me g more) →
        (more : List Entry) × (advance_by game me n (with_made h o) ≡ h ++ more) × OwnRun game me h more
    go None e ih = ih h
    go (Some f) e ih =
        let r = ih (h ++ Made f ∷ []) in
        (Made f ∷ r.0, r.1 ∙ append_assoc h (Made f ∷ []) r.0, (tt, made_next game me h f e, r.2))

-- made frames are no choices
chosen_by : (game : Game) (me n : ℕ) (h : List Entry) → chosen me (advance_by game me n h) ≡ chosen me h
unfolding advance_by
chosen_by game me zero h = refl
chosen_by game me (suc n) h = chosen_by game me n (with_made h (next_made game me h)) ∙ go (next_made game me h)
  where
    go : (o : Option TurnFrame) → chosen me (with_made h o) ≡ chosen me h
    go None = refl
    go (Some f) = chosen_push me h (Made f) ∙ append-nil (chosen me h)

pub chosen_made : (game : Game) (me : ℕ) (h : List Entry) → chosen me (advance game me h) ≡ chosen me h
unfolding advance
chosen_made game me h = chosen_by game me (2 * game.turns) h

-- advancing adds own frames to the log
pub advance_run : (game : Game) (me : ℕ) (h : List Entry) → (more : List Entry) × (advance game me h ≡ h ++ more) × OwnRun game me h more
unfolding advance
advance_run game me h = by_run game me (2 * game.turns) h

-- the own frames that may be made, one after the other
pub record Advanced (game : Game) (me : ℕ) (h : List Entry) : Type 0 where
  pub more : List Entry
  pub is : advance game me h ≡ h ++ more
  pub run : OwnRun game me h more
  pub ends : next_made game me (h ++ more) ≡ None
  pub chose : chosen me (h ++ more) ≡ chosen me h

pub advanced : (game : Game) (me : ℕ) (h : List Entry) → 1 ≤ game.ahead → Advanced game me h
advanced game me h d =
    let r = advance_run game me h in
    record {
      more = r.0;
      is = r.1;
      run = r.2;
      ends = ap (next_made game me) (sym r.1) ∙ advance_ends game me h d;
      chose = ap (chosen me) (sym r.1) ∙ chosen_made game me h;
    }

pub chosen_one : (me : ℕ) (h : List Entry) (t : ℕ) (mv : Move) (n : Nonce) → length (chosen me (h ++ Chose t mv n ∷ [])) ≡ length (chosen me h) + 1
chosen_one me h t mv n =
    let long = length-append (chosen me h) (record { player = me; turn = t; mv = mv; nonce = n } ∷ []) in
    ap (λ (os : List Opening). length os) (chosen_push me h (Chose t mv n)) ∙ long
