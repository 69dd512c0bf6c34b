-- Deliveries: what honest logs got of honest players stays among what those made.
use Rattle.std.proofs.Common.{Bool, List, None, Some, [], ap, drop, false, inl, inr, length, refl, subst, suc, sym, true, zero, ℕ, ◌*◌, ◌++◌, ◌∙◌, ◌∷◌, ◌≡◌, ◌⊎◌, Option, slice_get, take}
use Rattle.std.specs.Prelude.{flat_map, if◌then◌else◌, is_some, nat_le, option_map, ◌&&◌, ◌==◌}
use Rattle.std.specs.List.{list_any}
use Rattle.std.proofs.lemmas.Bool.{and_parts, eqb-true, false≢true, or_cases, or_left, or_right}
use Rattle.std.proofs.lemmas.List.{take-append-drop}
use Rattle.definitions.specs.declared.world.Move.{Move}
use Rattle.definitions.specs.declared.openings.Nonce.{Nonce}
use Rattle.definitions.specs.declared.frames.TurnFrame.{TurnFrame}
use Rattle.definitions.specs.declared.logs.Entry.{Entry}
use Rattle.definitions.specs.declared.logs.Entry.TheVariants.{Chose, Got, Made}
use Rattle.definitions.specs.Lists.{EachIs}
use Rattle.definitions.specs.World.{Game}
use Rattle.definitions.specs.Moves.{is_legal}
use Rattle.definitions.specs.Logs.{chosen, frame_eq, got_in, got_of, made, made_in}
use Rattle.definitions.specs.Honest.{chosen_track}
use Rattle.definitions.specs.Needs.{may_choose}
use Rattle.definitions.specs.Advance.{advance, advance_by, next_made, with_made}
use Rattle.definitions.specs.Steps.{AreAuthentic, Choose, Deliver, Hostile, IsMadeIn, Logs, Step, Stop, after, after_choice, after_got, after_stop, has_log, has_no_made, is_taken_in, log_after_frame, log_of, made_at, run, with_log}
use Rattle.definition_laws.specs.Members.{Has}
use Rattle.definition_laws.proofs.Alike.{frame_eq_same, frame_eq_true}
use Rattle.definition_laws.proofs.Listing.{append_nil, flat_map_append, empty_nil}
use Rattle.definition_laws.proofs.Members.{Has_append, Has_each, Has_front, each_Has, slice_get_Has}
use Rattle.definition_laws.proofs.Stepping.{log_of_set}

-- a frame stands among those that a log made, by the test or in the list
pub made_in_Has : (h : List Entry) (f : TurnFrame) → IsMadeIn h f → Has (made h) f
made_in_Has h f m = go (made h) m
  where
    go : (fs : List TurnFrame) → list_any (frame_eq f) fs ≡ true → Has fs f
    go [] e = absurd (false≢true e)
    go (g ∷ gs) e = at (or_cases (frame_eq f g) (list_any (frame_eq f) gs) e) (go gs)
      where
        at : (frame_eq f g ≡ true) ⊎ (list_any (frame_eq f) gs ≡ true) → (list_any (frame_eq f) gs ≡ true → Has gs f) → (g ≡ f) ⊎ Has gs f
        at (inl a) ih = inl (sym (frame_eq_true f g a))
        at (inr b) ih = inr (ih b)

pub Has_made_in : (h : List Entry) (f : TurnFrame) → Has (made h) f → IsMadeIn h f
Has_made_in h f m = go (made h) m
  where
    go : (fs : List TurnFrame) → Has fs f → list_any (frame_eq f) fs ≡ true
    go [] m = absurd m
    go (g ∷ gs) (inl e) = or_left (frame_eq f g) (list_any (frame_eq f) gs) (ap (frame_eq f) e ∙ frame_eq_same f)
    go (g ∷ gs) (inr k) = or_right (frame_eq f g) (list_any (frame_eq f) gs) (go gs k)

-- the log made all that the other made, and got nothing of a player but what that did, or what the player made
pub record Follows (logs : Logs) (h k : List Entry) : Type 0 where
  pub makes : (f : TurnFrame) → Has (made h) f → Has (made k) f
  pub gets : (q : ℕ) (f : TurnFrame) → Has (got_of q k) f → Has (got_of q h) f ⊎ ((own : List Entry) → log_of logs q ≡ Some own → Has (made own) f)

pub follows_same : (logs : Logs) (h : List Entry) → Follows logs h h
follows_same logs h = record { makes = λ f m. m; gets = λ q f m. inl m }

follows_on : (logs : Logs) (g h k : List Entry) → Follows logs g h → Follows logs h k → Follows logs g k
follows_on logs g h k a b = record { makes = λ f m. b.makes f (a.makes f m); gets = λ q f m. go q f (b.gets q f m) }
  where
    go : (q : ℕ) (f : TurnFrame) → Has (got_of q h) f ⊎ ((own : List Entry) → log_of logs q ≡ Some own → Has (made own) f) →
        Has (got_of q g) f ⊎ ((own : List Entry) → log_of logs q ≡ Some own → Has (made own) f)
    go q f (inl m) = a.gets q f m
    go q f (inr o) = inr o

-- an entry that got nothing
follows_push : (logs : Logs) (h : List Entry) (e : Entry) → ((q : ℕ) → got_in q e ≡ []) → Follows logs h (h ++ e ∷ [])
unfolding made got_of
follows_push logs h e none = record {
  makes = λ f m. subst (λ (fs : List TurnFrame). Has fs f) (sym (flat_map_append made_in h (e ∷ []))) (Has_front (flat_map made_in h) (flat_map made_in (e ∷ [])) f m);
  gets = λ q f m. inl (subst (λ (fs : List TurnFrame). Has fs f) (got q) m);
}
  where
    got : (q : ℕ) → flat_map (got_in q) (h ++ e ∷ []) ≡ flat_map (got_in q) h
    got q = flat_map_append (got_in q) h (e ∷ []) ∙ ap (λ (fs : List TurnFrame). flat_map (got_in q) h ++ (fs ++ [])) (none q) ∙ append_nil (flat_map (got_in q) h)

follows_advance_by : (logs : Logs) (game : Game) (me n : ℕ) (h : List Entry) → Follows logs h (advance_by game me n h)
unfolding advance_by
follows_advance_by logs game me zero h = follows_same logs h
follows_advance_by logs game me (suc n) h =
    follows_on logs h (with_made h (next_made game me h)) _ (one (next_made game me h)) (follows_advance_by logs game me n (with_made h (next_made game me h)))
  where
    one : (o : Option TurnFrame) → Follows logs h (with_made h o)
    one None = follows_same logs h
    one (Some f) = follows_push logs h (Made f) (λ q. refl)

pub follows_advance : (logs : Logs) (game : Game) (me : ℕ) (h : List Entry) → Follows logs h (advance game me h)
unfolding advance
follows_advance logs game me h = follows_advance_by logs game me (2 * game.turns) h

follows_choice : (logs : Logs) (game : Game) (me : ℕ) (h : List Entry) (m : Move) (n : Nonce) → Follows logs h (after_choice game me h m n)
follows_choice logs game me h m n = go (may_choose game me h && is_legal game me (chosen_track game me h) m)
  where
    go : (b : Bool) → Follows logs h (if b then advance game me (h ++ Chose (length (chosen me h)) m n ∷ []) else h)
    go true =
        follows_on logs h (h ++ Chose (length (chosen me h)) m n ∷ []) _ (follows_push logs h (Chose (length (chosen me h)) m n) (λ q. refl))
        (follows_advance logs game me (h ++ Chose (length (chosen me h)) m n ∷ []))
    go false = follows_same logs h

-- a frame that came of a player, where it is among what the player made
follows_got : (logs : Logs) (game : Game) (me q : ℕ) (h : List Entry) (f : TurnFrame) → ((own : List Entry) → log_of logs q ≡ Some own → Has (made own) f) →
    Follows logs h (after_got game me h q f)
unfolding made got_of
follows_got logs game me q h f ours = go (is_taken_in game me h q f)
  where
    frame : (p : ℕ) (g : TurnFrame) → Has (flat_map (got_in p) (h ++ Got q f ∷ [])) g → Has (flat_map (got_in p) h) g ⊎ ((own : List Entry) → log_of logs p ≡ Some own → Has (flat_map made_in own) g)
    frame p g m = at (Has_append (flat_map (got_in p) h) (flat_map (got_in p) (Got q f ∷ [])) g (subst (λ (fs : List TurnFrame). Has fs g) (flat_map_append (got_in p) h (Got q f ∷ [])) m))
      where
        last : (b : Bool) → (q == p) ≡ b → Has ((if b then f ∷ [] else []) ++ []) g → (own : List Entry) → log_of logs p ≡ Some own → Has (flat_map made_in own) g
        last true e (inl same) own there =
            subst (λ (x : TurnFrame). Has (flat_map made_in own) x) same (ours own (ap (log_of logs) (eqb-true q p e) ∙ there))
        last true e (inr never) own there = absurd never
        last false e m own there = absurd m

        at : Has (flat_map (got_in p) h) g ⊎ Has ((if q == p then f ∷ [] else []) ++ []) g →
            Has (flat_map (got_in p) h) g ⊎ ((own : List Entry) → log_of logs p ≡ Some own → Has (flat_map made_in own) g)
        at (inl a) = inl a
        at (inr b) = inr (last (q == p) refl b)

    pushed : Follows logs h (h ++ Got q f ∷ [])
    pushed = record {
      makes = λ g m. subst (λ (fs : List TurnFrame). Has fs g) (sym (flat_map_append made_in h (Got q f ∷ []))) (Has_front (flat_map made_in h) [] g m);
      gets = frame;
    }

    go : (b : Bool) → Follows logs h (if b then advance game me (h ++ Got q f ∷ []) else h)
    go true = follows_on logs h (h ++ Got q f ∷ []) _ pushed (follows_advance logs game me (h ++ Got q f ∷ []))
    go false = follows_same logs h

-- a log that is cut where no made entry goes
follows_stop : (logs : Logs) (game : Game) (me keep : ℕ) (h : List Entry) → Follows logs h (after_stop game me h keep)
unfolding made got_of
follows_stop logs game me keep h = go (nat_le keep (length h) && has_no_made (drop keep h)) refl
  where
    split : (f : Entry → List TurnFrame) → flat_map f h ≡ flat_map f (take keep h) ++ flat_map f (drop keep h)
    split f = ap (flat_map f) (sym (take-append-drop keep h)) ∙ flat_map_append f (take keep h) (drop keep h)

    cut : flat_map made_in (drop keep h) ≡ [] → Follows logs h (take keep h)
    cut none = record {
      makes = λ f m. subst (λ (fs : List TurnFrame). Has fs f) (split made_in ∙ ap (λ (gs : List TurnFrame). flat_map made_in (take keep h) ++ gs) none ∙ append_nil (flat_map made_in (take keep h))) m;
      gets = λ q f m. inl (subst (λ (fs : List TurnFrame). Has fs f) (sym (split (got_in q))) (Has_front (flat_map (got_in q) (take keep h)) (flat_map (got_in q) (drop keep h)) f m));
    }

    go : (b : Bool) → (nat_le keep (length h) && has_no_made (drop keep h)) ≡ b → Follows logs h (if b then advance game me (take keep h) else h)
    go true e =
        follows_on logs h (take keep h) _ (cut (empty_nil (flat_map made_in (drop keep h)) (and_parts (nat_le keep (length h)) (has_no_made (drop keep h)) e).1))
        (follows_advance logs game me (take keep h))
    go false e = follows_same logs h

-- the logs stay authentic where the one that changed follows the old one
set_authentic : (logs : Logs) (p : ℕ) (x : Option (List Entry)) → AreAuthentic logs →
    ((k : List Entry) → x ≡ Some k → (h : List Entry) × (log_of logs p ≡ Some h) × Follows logs h k) → AreAuthentic (with_log logs p x)
set_authentic logs p x all new r q g h at_r at_q = each_Has (IsMadeIn h) (got_of q g) one
  where
    -- the log of a player before, and that it follows that
    before : (n : ℕ) (k : List Entry) → log_of (with_log logs p x) n ≡ Some k → (o : List Entry) × (log_of logs n ≡ Some o) × Follows logs o k
    before n k e = go (log_of_set logs p n x k e)
      where
        go : (log_of logs n ≡ Some k) ⊎ ((n ≡ p) × (x ≡ Some k)) → (o : List Entry) × (log_of logs n ≡ Some o) × Follows logs o k
        go (inl a) = (k, a, follows_same logs k)
        go (inr b) = let w = new k b.1 in (w.0, ap (log_of logs) b.0 ∙ w.1, w.2)

    one : (f : TurnFrame) → Has (got_of q g) f → IsMadeIn h f
    one f m =
        let old_g = before r g at_r in
        let old_h = before q h at_q in
        go old_g.0 old_g.1 old_h.0 old_h.1 old_h.2 (old_g.2.gets q f m)
      where
        go : (a : List Entry) → log_of logs r ≡ Some a → (b : List Entry) → log_of logs q ≡ Some b → Follows logs b h →
            Has (got_of q a) f ⊎ ((own : List Entry) → log_of logs q ≡ Some own → Has (made own) f) → IsMadeIn h f
        go a ea b eb w (inl k) = Has_made_in h f (w.makes f (made_in_Has b f (Has_each (IsMadeIn b) (got_of q a) f (all r q a b ea eb) k)))
        go a ea b eb w (inr o) = Has_made_in h f (w.makes f (o b eb))

map_follows : (logs : Logs) (p : ℕ) (f : List Entry → List Entry) (o : Option (List Entry)) → log_of logs p ≡ o → ((h : List Entry) → Follows logs h (f h)) →
    (k : List Entry) → option_map f o ≡ Some k → (h : List Entry) × (log_of logs p ≡ Some h) × Follows logs h k
map_follows logs p f None e step k s = absurd (let none : None ≡ Some k = s in cc)
map_follows logs p f (Some h) e step k s = let same : f h ≡ k = cc in (h, e, subst (λ (l : List Entry). Follows logs h l) same (step h))

frame_follows : (game : Game) (logs : Logs) (p q : ℕ) (o : Option (List Entry)) (f : Option TurnFrame) → log_of logs p ≡ o →
    ((g : TurnFrame) → f ≡ Some g → (own : List Entry) → log_of logs q ≡ Some own → Has (made own) g) →
    (k : List Entry) → log_after_frame game p o q f ≡ Some k → (h : List Entry) × (log_of logs p ≡ Some h) × Follows logs h k
frame_follows game logs p q None f e ours k s = absurd (let none : None ≡ Some k = s in cc)
frame_follows game logs p q (Some h) None e ours k s = (k, e ∙ s, follows_same logs k)
frame_follows game logs p q (Some h) (Some g) e ours k s =
    let same : after_got game p h q g ≡ k = cc in
    (h, e, subst (λ (l : List Entry). Follows logs h l) same (follows_got logs game p q h g (ours g refl)))

made_at_Has : (o : Option (List Entry)) (place : ℕ) (g : TurnFrame) → made_at o place ≡ Some g → (own : List Entry) → o ≡ Some own → Has (made own) g
made_at_Has None place g e own s = absurd (let none : None ≡ Some own = s in cc)
made_at_Has (Some h) place g e own s = let same : h ≡ own = cc in slice_get_Has (made own) place g (ap (λ (l : List Entry). slice_get (made l) place) (sym same) ∙ e)

-- each step leaves the logs authentic
pub after_authentic : (game : Game) (logs : Logs) (s : Step) → AreAuthentic logs → AreAuthentic (after game logs s)
after_authentic game logs (Choose p m n) all =
    set_authentic logs p (option_map (λ h. after_choice game p h m n) (log_of logs p)) all
    (map_follows logs p (λ h. after_choice game p h m n) (log_of logs p) refl (λ h. follows_choice logs game p h m n))
after_authentic game logs (Deliver q p place) all =
    set_authentic logs p (log_after_frame game p (log_of logs p) q (made_at (log_of logs q) place)) all
    (frame_follows game logs p q (log_of logs p) (made_at (log_of logs q) place) refl (λ g e own s. made_at_Has (log_of logs q) place g e own s))
after_authentic game logs (Hostile q p f) all = go (has_log logs q) refl
  where
    no_log : has_log logs q ≡ false → (own : List Entry) → log_of logs q ≡ Some own → ⊥
    no_log e own s = false≢true (sym e ∙ ap is_some s)

    go : (b : Bool) → has_log logs q ≡ b → AreAuthentic (if b then logs else with_log logs p (log_after_frame game p (log_of logs p) q (Some f)))
    go true e = all
    go false e =
        set_authentic logs p (log_after_frame game p (log_of logs p) q (Some f)) all
        (frame_follows game logs p q (log_of logs p) (Some f) refl (λ g k own s. absurd (no_log e own s)))
after_authentic game logs (Stop p keep) all =
    set_authentic logs p (option_map (λ h. after_stop game p h keep) (log_of logs p)) all
    (map_follows logs p (λ h. after_stop game p h keep) (log_of logs p) refl (λ h. follows_stop logs game p keep h))

pub session_authentic : (game : Game) (logs : Logs) (ss : List Step) → AreAuthentic logs → AreAuthentic (run game logs ss)
session_authentic game logs [] all = all
session_authentic game logs (s ∷ ss) all = session_authentic game (after game logs s) ss (after_authentic game logs s all)

-- logs without entries are authentic
pub begin_authentic : (logs : Logs) → ((q : ℕ) (h : List Entry) → log_of logs q ≡ Some h → h ≡ []) → AreAuthentic logs
unfolding got_of
begin_authentic logs none p q g h ep eq = subst (λ (k : List Entry). EachIs (IsMadeIn h) (flat_map (got_in q) k)) (sym (none p g ep)) tt
