-- Parted: an index has rows for the turns that a session may have, and a table for all behind them.
use Rattle.std.proofs.Common.{Bool, List, Vec, Global, ap, false, subst, sym, true, ℕ, ◌<◌, ◌≤◌, ◌≡◌}
use Rattle.std.specs.Prelude.{nat_lt, if◌then◌else◌}
use Rattle.std.proofs.lemmas.Bool.{le-ltb, lt-ltb}
use Rattle.definitions.specs.declared.limits.TheConstants.{MOST_TURNS}
use Rattle.definitions.specs.declared.findings.Spot.{Spot}
use Rattle.definitions.specs.declared.frames.TurnFrame.{TurnFrame}
use Rattle.definitions.specs.World.{Game}
use Rattle.definitions.specs.Logs.{player_of, turn_of}
use Rattle.frame_index.specs.declared.kept.KeptFrame.{KeptFrame}
use Rattle.frame_index.specs.Kept.{AreAlike, Grows, TurnKept}
use Rattle.frame_index.specs.Rows.{kept_by}
use Rattle.frame_index.specs.Frames.{IndexState, IsRefused, IsRefusedBy, IsTaken, IsTakenBy, kept_beyond}
use Rattle.frame_index.proofs.Growing.{alike_same}

-- a frame is taken, or the same is kept, behind those turns
module _ (old new : IndexState) (rows : new.rows ≡ old.rows) where
  abbrev OldBeyond : ℕ → ℕ → List KeptFrame
  OldBeyond q t = kept_beyond old.beyond q t

  abbrev NewBeyond : ℕ → ℕ → List KeptFrame
  NewBeyond q t = kept_beyond new.beyond q t

  pub taken_beyond : (game : Game) (f : TurnFrame) (s : Spot) → MOST_TURNS ≤ turn_of f → IsTakenBy game f s OldBeyond NewBeyond → IsTaken game f s old new
  taken_beyond game f s far taken = record {
    own =
        let none : nat_lt (turn_of f) MOST_TURNS ≡ false = le-ltb (turn_of f) MOST_TURNS far in
        subst (λ (b : Bool). Grows game f s (if b then kept_by old.rows (player_of f) (turn_of f) else OldBeyond (player_of f) (turn_of f)) (if b then kept_by new.rows (player_of f) (turn_of f) else NewBeyond (player_of f) (turn_of f)))
        (sym none) taken.own;
    others = λ q t never. both (nat_lt t MOST_TURNS) q t (taken.others q t never);
  }
    where
      both : (b : Bool) (q t : ℕ) → NewBeyond q t ≡ OldBeyond q t → (if b then kept_by new.rows q t else NewBeyond q t) ≡ (if b then kept_by old.rows q t else OldBeyond q t)
      both true q t e = ap (λ (r : List (Vec TurnKept Global)). kept_by r q t) rows
      both false q t e = e

  pub refused_beyond : IsRefusedBy OldBeyond NewBeyond → IsRefused old new
  refused_beyond same q t = go (nat_lt t MOST_TURNS)
    where
      go : (b : Bool) → AreAlike (if b then kept_by old.rows q t else OldBeyond q t) (if b then kept_by new.rows q t else NewBeyond q t)
      go true = alike_same _ _ (ap (λ (r : List (Vec TurnKept Global)). kept_by r q t) rows)
      go false = same q t

-- in the rows
module _ (old new : IndexState) (beyond : new.beyond ≡ old.beyond) where
  abbrev OldRows : ℕ → ℕ → List KeptFrame
  OldRows q t = kept_by old.rows q t

  abbrev NewRows : ℕ → ℕ → List KeptFrame
  NewRows q t = kept_by new.rows q t

  pub taken_in_rows : (game : Game) (f : TurnFrame) (s : Spot) → turn_of f < MOST_TURNS → IsTakenBy game f s OldRows NewRows → IsTaken game f s old new
  taken_in_rows game f s near taken = record {
    own =
        let some : nat_lt (turn_of f) MOST_TURNS ≡ true = lt-ltb (turn_of f) MOST_TURNS near in
        subst (λ (b : Bool). Grows game f s (if b then OldRows (player_of f) (turn_of f) else kept_beyond old.beyond (player_of f) (turn_of f)) (if b then NewRows (player_of f) (turn_of f) else kept_beyond new.beyond (player_of f) (turn_of f)))
        (sym some) taken.own;
    others = λ q t never. both (nat_lt t MOST_TURNS) q t (taken.others q t never);
  }
    where
      both : (b : Bool) (q t : ℕ) → NewRows q t ≡ OldRows q t → (if b then NewRows q t else kept_beyond new.beyond q t) ≡ (if b then OldRows q t else kept_beyond old.beyond q t)
      both true q t e = e
      both false q t e = ap (λ m. kept_beyond m q t) beyond

  pub refused_in_rows : IsRefusedBy OldRows NewRows → IsRefused old new
  refused_in_rows same q t = go (nat_lt t MOST_TURNS)
    where
      go : (b : Bool) → AreAlike (if b then OldRows q t else kept_beyond old.beyond q t) (if b then NewRows q t else kept_beyond new.beyond q t)
      go true = same q t
      go false = alike_same _ _ (ap (λ m. kept_beyond m q t) beyond)
