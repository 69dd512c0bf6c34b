-- Indexed: an index in which a frame was taken stands for the logs with one entry more.
use Rattle.std.proofs.Common.{Bool, List, Some, [], ap, cond, false, refl, subst, sym, true, ℕ, ◌∙◌, ◌≡◌, Option, slice_get, length}
use Rattle.std.specs.Prelude.{◌&&◌, ◌==◌}
use Rattle.std.specs.Option.{option_map_or}
use Rattle.std.proofs.lemmas.Bool.{and_from, eq-eqb, eqb-true, eqb-false}
use Rattle.definitions.specs.declared.findings.Spot.{Spot}
use Rattle.definitions.specs.declared.frames.TurnFrame.{TurnFrame}
use Rattle.definitions.specs.declared.logs.Entry.{Entry}
use Rattle.definitions.specs.declared.logs.Entry.TheVariants.{Got}
use Rattle.definitions.specs.World.{Game}
use Rattle.definitions.specs.Logs.{player_of, turn_of}
use Rattle.frame_index.specs.declared.kept.KeptFrame.{KeptFrame}
use Rattle.frame_index.specs.Keeps.{Keeps}
use Rattle.frame_index.specs.Kept.{AreAlike, AreOf, AreOnce, Grows, seen_in, sight}
use Rattle.frame_index.specs.Appended.{with_entry}
use Rattle.frame_index.specs.Frames.{IndexState, IsIndex, IsRefused, IsRefusedBy, IsTaken, IsTakenBy, kept_in, kept_of}
use Rattle.frame_index.proofs.Growing.{alike_same}
use Rattle.frame_index.proofs.Grows.{keeps_grown, keeps_other}

module _ (game : Game) (logs : List (List Entry)) (h : List Entry) (f : TurnFrame) (s : Spot) (old new : IndexState) (there : slice_get logs s.log ≡ Some h) (last : s.entry ≡ length h)
    (taken : IsTaken game f s old new) (w : IsIndex game logs old) where
  abbrev After : List (List Entry)
  After = with_entry logs s.log (Got (player_of f) f)

  here : Keeps game (player_of f) (turn_of f) After (kept_in new (player_of f) (turn_of f))
  here = keeps_grown game (player_of f) logs h (kept_in old (player_of f) (turn_of f)) (sight game f s) there last refl (kept_in new (player_of f) (turn_of f))
      taken.own.stay (taken.own.come (player_of f) (turn_of f) (w.own (player_of f) (turn_of f))) (taken.own.one (player_of f) (turn_of f) (w.own (player_of f) (turn_of f)))
      (w.stands (player_of f) (turn_of f))

  apart : (q t : ℕ) → ((player_of f ≡ q) × (turn_of f ≡ t) → ⊥) → Keeps game q t After (kept_in new q t)
  apart q t never = subst (λ (ks : List KeptFrame). Keeps game q t After (seen_in ks)) (sym (taken.others q t never))
      (keeps_other q t logs s.log (Got (player_of f) f) h there game (kept_in old q t)
      (λ g e turn. let player : player_of f ≡ q = cc in let frame : f ≡ g = cc in never (player, ap turn_of frame ∙ turn)) (w.stands q t))

  stands : (q t : ℕ) → Keeps game q t After (kept_in new q t)
  stands q t = go (player_of f == q) refl (turn_of f == t) refl
    where
      go : (b : Bool) → (player_of f == q) ≡ b → (c : Bool) → (turn_of f == t) ≡ c → Keeps game q t After (kept_in new q t)
      go false x c y = apart q t (λ both. eqb-false _ _ x both.0)
      go true x false y = apart q t (λ both. eqb-false _ _ y both.1)
      go true x true y = subst (λ (u : ℕ). Keeps game q u After (kept_in new q u)) (eqb-true _ _ y)
          (subst (λ (p : ℕ). Keeps game p (turn_of f) After (kept_in new p (turn_of f))) (eqb-true _ _ x) here)

  own : (q t : ℕ) → AreOf game q t (kept_of new q t)
  own q t = go (player_of f == q) refl (turn_of f == t) refl
    where
      away : ((player_of f ≡ q) × (turn_of f ≡ t) → ⊥) → AreOf game q t (kept_of new q t)
      away never = subst (AreOf game q t) (sym (taken.others q t never)) (w.own q t)

      go : (b : Bool) → (player_of f == q) ≡ b → (c : Bool) → (turn_of f == t) ≡ c → AreOf game q t (kept_of new q t)
      go false x c y = away (λ both. eqb-false _ _ x both.0)
      go true x false y = away (λ both. eqb-false _ _ y both.1)
      go true x true y = subst (λ (u : ℕ). AreOf game q u (kept_of new q u)) (eqb-true _ _ y)
          (subst (λ (p : ℕ). AreOf game p (turn_of f) (kept_of new p (turn_of f))) (eqb-true _ _ x)
          (taken.own.own (player_of f) (turn_of f) (w.own (player_of f) (turn_of f)) refl refl))

  once : (q t : ℕ) → AreOnce (kept_of new q t)
  once q t = go (player_of f == q) refl (turn_of f == t) refl
    where
      away : ((player_of f ≡ q) × (turn_of f ≡ t) → ⊥) → AreOnce (kept_of new q t)
      away never = subst AreOnce (sym (taken.others q t never)) (w.once q t)

      go : (b : Bool) → (player_of f == q) ≡ b → (c : Bool) → (turn_of f == t) ≡ c → AreOnce (kept_of new q t)
      go false x c y = away (λ both. eqb-false _ _ x both.0)
      go true x false y = away (λ both. eqb-false _ _ y both.1)
      go true x true y = subst (λ (u : ℕ). AreOnce (kept_of new q u)) (eqb-true _ _ y)
          (subst (λ (p : ℕ). AreOnce (kept_of new p (turn_of f))) (eqb-true _ _ x)
          (taken.own.once (player_of f) (turn_of f) (w.own (player_of f) (turn_of f)) (w.once (player_of f) (turn_of f))))

  pub taken_stands : IsIndex game After new
  taken_stands = record { stands = stands; own = own; once = once }

-- with the same members, what is kept stands for the same logs
pub refused_stands : (game : Game) (logs : List (List Entry)) (old new : IndexState) → IsRefused old new → IsIndex game logs old → IsIndex game logs new
refused_stands game logs old new same w = record {
  stands = λ q t. let k = w.stands q t in record {
    within = λ x m. k.within x ((same q t).fro x m);
    digests = λ x m. k.digests x ((same q t).fro x m);
    firsts = λ u v. let r = k.firsts u v in (r.0, (same q t).to r.0 r.1, r.2);
  };
  own = λ q t. (same q t).own game q t (w.own q t);
  once = λ q t. (same q t).once (w.once q t);
}

-- what is kept at one place is alike, and the others stay
pub alike_at : (old new : ℕ → ℕ → List KeptFrame) (p u : ℕ) → AreAlike (old p u) (new p u) → ((q t : ℕ) → ((p ≡ q) × (u ≡ t) → ⊥) → new q t ≡ old q t) → IsRefusedBy old new
alike_at old new p u alike others q t = go (p == q) refl (u == t) refl
  where
    away : ((p ≡ q) × (u ≡ t) → ⊥) → AreAlike (old q t) (new q t)
    away never = alike_same (old q t) (new q t) (others q t never)

    go : (b : Bool) → (p == q) ≡ b → (c : Bool) → (u == t) ≡ c → AreAlike (old q t) (new q t)
    go false x c y = away (λ both. eqb-false _ _ x both.0)
    go true x false y = away (λ both. eqb-false _ _ y both.1)
    go true x true y = subst (λ (t : ℕ). AreAlike (old q t) (new q t)) (eqb-true _ _ y) (subst (λ (q : ℕ). AreAlike (old q u) (new q u)) (eqb-true _ _ x) alike)

-- the frame is taken at its own place, and the others stay
pub taken_at : (old new : ℕ → ℕ → List KeptFrame) (p u : ℕ) (game : Game) (f : TurnFrame) (s : Spot) → p ≡ player_of f → u ≡ turn_of f → Grows game f s (old p u) (new p u) → ((q t : ℕ) → ((p ≡ q) × (u ≡ t) → ⊥) → new q t ≡ old q t) →
    IsTakenBy game f s old new
taken_at old new p u game f s player turn grows others = record {
  own = subst (λ (t : ℕ). Grows game f s (old (player_of f) t) (new (player_of f) t)) turn (subst (λ (q : ℕ). Grows game f s (old q u) (new q u)) player grows);
  others = λ q t never. others q t (λ both. never (sym player ∙ both.0, sym turn ∙ both.1));
}

-- the table has another value at one key
module _ {V : Type 0} (items : V → List KeptFrame) (before after : ℕ → ℕ → Option V) (p u : ℕ) (v : V) (changed : (q t : ℕ) → after q t ≡ cond ((p == q) && (u == t)) (Some v) (before q t)) where
  pub kept_here : option_map_or items (after p u) [] ≡ items v
  kept_here = ap (λ (o : Option V). option_map_or items o []) (changed p u)
      ∙ ap (λ (b : Bool). option_map_or items (cond b (Some v) (before p u)) []) (and_from _ _ (eq-eqb p p refl) (eq-eqb u u refl))

  pub kept_away : (q t : ℕ) → ((p ≡ q) × (u ≡ t) → ⊥) → option_map_or items (after q t) [] ≡ option_map_or items (before q t) []
  kept_away q t never = ap (λ (o : Option V). option_map_or items o []) (changed q t) ∙ go (p == q) refl (u == t) refl
    where
      go : (b : Bool) → (p == q) ≡ b → (c : Bool) → (u == t) ≡ c → option_map_or items (cond (b && c) (Some v) (before q t)) [] ≡ option_map_or items (before q t) []
      go false x c y = refl
      go true x false y = refl
      go true x true y = absurd (never (eqb-true _ _ x, eqb-true _ _ y))

  abbrev Earlier : ℕ → ℕ → List KeptFrame
  Earlier q t = option_map_or items (before q t) []

  abbrev Later : ℕ → ℕ → List KeptFrame
  Later q t = option_map_or items (after q t) []

  -- to which a frame was taken
  pub taken_by : (game : Game) (f : TurnFrame) (s : Spot) → p ≡ player_of f → u ≡ turn_of f → (from : List KeptFrame) → from ≡ Earlier p u → Grows game f s from (items v) → IsTakenBy game f s Earlier Later
  taken_by game f s player turn from was grows =
      taken_at Earlier Later p u game f s player turn (subst (λ (ks : List KeptFrame). Grows game f s ks (Later p u)) was (subst (Grows game f s from) (sym kept_here) grows)) kept_away

  -- in which the same is kept
  pub refused_by : (from : List KeptFrame) → from ≡ Earlier p u → AreAlike from (items v) → IsRefusedBy Earlier Later
  refused_by from was alike =
      alike_at Earlier Later p u (subst (λ (ks : List KeptFrame). AreAlike ks (Later p u)) was (subst (AreAlike from) (sym kept_here) alike)) kept_away
