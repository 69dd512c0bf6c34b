-- Blamed: where sealed frames weren't all made in fair play, the first new one is to blame.
use Rattle.std.proofs.Common.{◌≡◌, ◌<◌, ◌≤◌, ◌^◌, ℕ, zero, suc, Bool, true, false, List, [], ◌∷◌}
use Rattle.std.proofs.Common.{Some, slice_get, refl, subst, arith}
use Rattle.std.specs.Prelude.{IsTrue}
use Rattle.std.proofs.lemmas.Option.{none-some, same_Some}
use Rattle.definitions.specs.declared.frames.TurnFrame.{TurnFrame}
use Rattle.definitions.specs.declared.frames.TurnFrame.TheVariants.{Commit, Reveal}
use Rattle.definitions.specs.Answers.{place_of}
use Rattle.definitions.specs.Lists.{EachIs}
use Rattle.definitions.specs.Logs.{turn_of}
use Rattle.definitions.specs.World.{Game}
use Rattle.definitions.proofs.Streams.{commit_place-fits, reveal_place-fits}
use Rattle.definition_laws.specs.Members.{Has}
use Rattle.definition_laws.proofs.Members.{Has_each, slice_get_Has}
use Rattle.commitment.specs.Spelling.{FitsFrame, frame_bytes}
use Rattle.grid_world.specs.Sessions.{IsSession}
use Rattle.seal_keys.specs.Keys.{places, root_of}
use Rattle.seal_keys.specs.States.{Keys}
use Rattle.seal_keys.proofs.Departed.{valid_parts}
use Rattle.seal_blame.specs.Made.{AreMade, is_made}
use Rattle.seal_blame.specs.Blames.{BlamesSo, IsFirstNew, are_valid, how_of}
use Rattle.seal_blame.specs.declared.how.How.{How}
use Rattle.seal_blame.proofs.Listed.{IsSealed, has_made, made_has, sealed_at}
use Rattle.seal_blame.proofs.ShownSo.{IsNewFrame, shows_so}
use Rattle.seal_blame.proofs.Spelled.{numbers_fit, spelled_alike}

-- a frame whose turn is played has one of the places
pub place_below : (game : Game) (f : TurnFrame) → 1 ≤ game.ahead → turn_of f < game.turns →
    place_of game f < places game
unfolding place_of
place_below game (Commit p t d) ahead lt = commit_place-fits game t ahead lt
place_below game (Reveal p t m n) ahead lt = reveal_place-fits game t lt

-- ---- the first new frame

abbrev AreAllMade : List TurnFrame → List TurnFrame → Type 0
AreAllMade made fs = (j : ℕ) (f : TurnFrame) → slice_get fs j ≡ Some f → Has made f

-- there is a first one
abbrev pub HasNew : List TurnFrame → List TurnFrame → Type 0
HasNew made fs = (n : ℕ) × IsFirstNew made fs n

all_with : (made fs : List TurnFrame) (f : TurnFrame) → Has made f → AreAllMade made fs →
    AreAllMade made (f ∷ fs)
all_with made fs f has all zero g at = subst (Has made) (same_Some f g at) has
all_with made fs f has all (suc j) g at = all j g at

later : (made fs : List TurnFrame) (f : TurnFrame) → Has made f → HasNew made fs →
    HasNew made (f ∷ fs)
later made fs f has (n, first) = (
  suc n,
  record {
    frame = first.frame;
    stands = first.stands;
    is_new = first.is_new;
    before = behind;
  },
)
  where
    behind : (j : ℕ) (g : TurnFrame) → j < suc n → slice_get (f ∷ fs) j ≡ Some g → Has made g
    behind zero g lt at = subst (Has made) (same_Some f g at) has
    behind (suc j) g lt at = first.before j g (omega arith) at

pub first_new : (game : Game) (q : ℕ) (made fs : List TurnFrame) → AreMade game q made →
    (AreAllMade made fs → ⊥) → HasNew made fs
first_new game q made [] are some = absurd (some (λ j f at. absurd (none-some f at)))
first_new game q made (f ∷ fs) are some =
    go (is_made game made f) refl (first_new game q made fs are)
  where
    go : (b : Bool) → is_made game made f ≡ b → ((AreAllMade made fs → ⊥) → HasNew made fs) →
        HasNew made (f ∷ fs)
    go true e behind =
        let has = made_has game made f e in
        later made fs f has (behind (λ all. some (all_with made fs f has all)))
    go false e behind = (
      0,
      record {
        frame = f;
        stands = refl;
        is_new = has_made game q made f are e;
        before = λ j g lt at. absurd (omega arith);
      },
    )

-- ---- and what it shows

-- what is known where frames with valid seals are judged
pub record AreJudged (keys : Keys) (made frames : List TurnFrame)
    (seals : List (List ℕ)) : Type 0 where
  pub session : IsSession keys.game
  pub player : keys.player < 2 ^ 8
  pub fair : AreMade keys.game keys.player made
  pub sealed : IsTrue (are_valid keys.game (root_of keys.game keys.seed) frames seals)
  pub fit : EachIs FitsFrame frames

module _ (keys : Keys) (made frames : List TurnFrame) (seals : List (List ℕ)) (n : ℕ)
    (are : AreJudged keys made frames seals) (first : IsFirstNew made frames n) where
  -- its seal
  its : IsSealed keys.game (root_of keys.game keys.seed) first.frame seals n
  its =
      let root = root_of keys.game keys.seed in
      sealed_at keys.game root frames seals n first.frame are.sealed first.stands

  -- the frame made at its place, if there is one, is spelled otherwise
  own_spelled : (own : TurnFrame) → slice_get made (place_of keys.game first.frame) ≡ Some own →
      frame_bytes own ≡ frame_bytes first.frame → own ≡ first.frame
  own_spelled own at =
      let place = place_of keys.game first.frame in
      let player = keys.player in
      let numbers = numbers_fit keys.game player made are.session are.player are.fair own place at in
      let has = slice_get_Has frames n first.frame first.stands in
      spelled_alike own first.frame numbers (Has_each FitsFrame frames first.frame are.fit has)

  is_new_frame : IsNewFrame keys made first.frame its.seal
  is_new_frame =
      let root = root_of keys.game keys.seed in
      let valid = valid_parts keys.game root first.frame its.seal its.valid in
      let most = are.session.turns.1 in
      record {
        fair = are.fair;
        is_new = first.is_new;
        sealed = its.valid;
        few = omega (arith, most);
        place = place_below keys.game first.frame are.session.ahead.0 valid.turn;
        own_spelled = own_spelled;
      }

  pub blames_so : (how : How) × BlamesSo keys made frames seals n how
  blames_so = (
    how_of keys made first.frame its.seal,
    record {
      frame = first.frame;
      seal = its.seal;
      frame_stands = first.stands;
      seal_stands = its.stands;
      how_is = refl;
      shown = shows_so keys made first.frame its.seal is_new_frame;
    },
  )
