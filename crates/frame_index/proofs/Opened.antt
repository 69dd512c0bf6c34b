-- Opened: the first reveal that opens a digest and is legal, from the track after the moves before.
use Rattle.std.proofs.Common.{◌≡◌, ℕ, List, [], ◌∷◌, refl, Bool, true, false, sym, ◌∙◌, ap, Option, Some, None}
use Rattle.std.specs.Prelude.{◌==◌, ◌&&◌, not, option_map, is_none, is_err, if◌then◌else◌}
use Rattle.std.specs.Result.{result_ok}
use Rattle.std.specs.Option.{option_or}
use Rattle.std.proofs.lemmas.Bool.{eq-eqb}
use Rattle.definitions.specs.declared.world.Move.{Move}
use Rattle.definitions.specs.declared.world.Track.{Track}
use Rattle.definitions.specs.declared.world.MoveFault.{MoveFault}
use Rattle.definitions.specs.declared.openings.Digest.{Digest}
use Rattle.definitions.specs.declared.openings.Nonce.{Nonce}
use Rattle.definitions.specs.declared.frames.TurnFrame.{TurnFrame}
use Rattle.definitions.specs.declared.frames.TurnFrame.TheVariants.{Commit, Reveal}
use Rattle.definitions.specs.World.{Game}
use Rattle.definitions.specs.Moves.{is_legal, move_fault, next_track, track_after}
use Rattle.definitions.specs.Logs.{digest_eq}
use Rattle.definitions.specs.Lists.{first_of}
use Rattle.definitions.specs.Held.{digest_of, first_opening}
use Rattle.move_rules.specs.Verdicts.{judged, verdict}
use Rattle.frame_index.specs.Openings.{opening_at}

-- the definition's word goes by the moves before, the scan's by the track after them
pub first_opening_at : (game : Game) (q : ℕ) (before : List Move) (d : Digest) (fs : List TurnFrame) (t : ℕ) →
    first_of (opening_at game q (track_after game q before) d t) fs ≡ first_opening game q before d fs t
first_opening_at game q before d [] t = refl
first_opening_at game q before d (Commit p u e ∷ fs) t = first_opening_at game q before d fs t
first_opening_at game q before d (Reveal p u m n ∷ fs) t = ap (option_or _) (first_opening_at game q before d fs t)

-- a move is refused exactly where it is not legal
pub refused_illegal : (game : Game) (q : ℕ) (track : Track) (m : Move) → is_err (verdict game q track m) ≡ not (is_legal game q track m)
unfolding is_legal
refused_illegal game q track m = go (move_fault game q track m)
  where
    go : (o : Option MoveFault) → is_err (judged game track m o) ≡ not (is_none o)
    go None = refl
    go (Some fault) = refl

-- a reveal of the turn that opens the digest leads on exactly where its move is legal
pub opening_judged : (game : Game) (q : ℕ) (track : Track) (d e : Digest) (t : ℕ) (f : TurnFrame) (p u : ℕ) (m : Move) (n : Nonce) (differ : Bool) →
    f ≡ Reveal p u m n → u ≡ t → e ≡ digest_of game f → differ ≡ not (digest_eq e d) → differ ≡ false →
    result_ok (verdict game q track m) ≡ option_map (next_track game track) (opening_at game q track d t f)
unfolding is_legal
opening_judged game q track d e t f p u m n differ is turn digest test same = rw is (go (u == t) (eq-eqb u t turn) (digest_eq (digest_of game (Reveal p u m n)) d) opens (move_fault game q track m))
  where
    opens : digest_eq (digest_of game (Reveal p u m n)) d ≡ true
    opens = ap (λ (x : Digest). digest_eq x d) (ap (digest_of game) (sym is) ∙ sym digest) ∙ was (digest_eq e d) (sym test ∙ same)
      where
        was : (b : Bool) → not b ≡ false → b ≡ true
        was true h = refl
        was false h = sym h

    go : (b : Bool) → b ≡ true → (c : Bool) → c ≡ true → (o : Option MoveFault) →
        result_ok (judged game track m o) ≡ option_map (next_track game track) (if b && c && is_none o then Some m else None)
    go true x true y None = refl
    go true x true y (Some fault) = refl
    go false x c y o = absurd (cc)
    go true x false y o = absurd (cc)
