-- Firsts: each move that is resolved is that of the first reveal that opens the digest held and is legal.
use Rattle.std.proofs.Common.{List, None, Some, [], ap, arith, inl, inr, length, refl, suc, zero, ℕ, ◌*◌, ◌++◌, ◌+◌, ◌∙◌, ◌∷◌, ◌≡◌, ◌⊎◌, Option, slice_get, take}
use Rattle.std.specs.Prelude.{min, nat_lt}
use Rattle.std.proofs.lemmas.List.{take-append-le}
use Rattle.std.proofs.lemmas.Option.{slice_get_within}
use Rattle.plain_lemmas.proofs.Tests.{of_chosen}
use Rattle.definitions.specs.declared.world.Move.{Move}
use Rattle.definitions.specs.declared.openings.Digest.{Digest}
use Rattle.definitions.specs.declared.frames.TurnFrame.{TurnFrame}
use Rattle.definitions.specs.declared.logs.Entry.{Entry}
use Rattle.definitions.specs.Lists.{EachIs}
use Rattle.definitions.specs.World.{Game}
use Rattle.definitions.specs.Logs.{frames_of}
use Rattle.definitions.specs.Held.{Known, first_commit, first_opening, held, known, known_to, next_known, opened, opening_of, resolved, with_commit, with_move}
use Rattle.definition_laws.proofs.Listing.{slice_get_front, slice_get_push, take_front}
use Rattle.definition_laws.proofs.Nexts.{first_of_stands}

-- each move is the first that opens the digest of its turn, legal after those before
abbrev AreFirst : Game → ℕ → List TurnFrame → Known → Type 0
AreFirst game q fs k = (t : ℕ) (m : Move) → slice_get k.moves t ≡ Some m → (d : Digest) × (slice_get k.digests t ≡ Some d) × (first_opening game q (take t k.moves) d fs t ≡ Some m)

commit_first : (game : Game) (q : ℕ) (fs : List TurnFrame) (k : Known) (o : Option Digest) → AreFirst game q fs k → AreFirst game q fs (with_commit k o)
commit_first game q fs k None w t m h = w t m h
commit_first game q fs k (Some d) w t m h = let r = w t m h in (r.0, slice_get_front k.digests (d ∷ []) t r.0 r.1, r.2)

move_first : (game : Game) (q : ℕ) (fs : List TurnFrame) (k : Known) (o : Option Digest) → slice_get k.digests (length k.moves) ≡ o → AreFirst game q fs k →
    AreFirst game q fs (with_move k (opened game q k.moves fs (length k.moves) o))
move_first game q fs k None e w t m h = w t m h
move_first game q fs k (Some d) e w t m h = go (first_opening game q k.moves d fs (length k.moves)) refl h
  where
    go : (o : Option Move) → first_opening game q k.moves d fs (length k.moves) ≡ o → slice_get (with_move k o).moves t ≡ Some m →
        (c : Digest) × (slice_get (with_move k o).digests t ≡ Some c) × (first_opening game q (take t (with_move k o).moves) c fs t ≡ Some m)
    go None f h = w t m h
    go (Some n) f h = at (slice_get_push k.moves n t m h)
      where
        at : (slice_get k.moves t ≡ Some m) ⊎ ((t ≡ length k.moves) × (n ≡ m)) →
            (c : Digest) × (slice_get k.digests t ≡ Some c) × (first_opening game q (take t (k.moves ++ n ∷ [])) c fs t ≡ Some m)
        at (inl a) =
            let r = w t m a in
            let below = slice_get_within k.moves t m a in
            let front : take t (k.moves ++ n ∷ []) ≡ take t k.moves = take-append-le t k.moves (n ∷ []) (omega arith) in
            (r.0, r.1, ap (λ (ms : List Move). first_opening game q ms r.0 fs t) front ∙ r.2)
        at (inr b) =
            let front : take t (k.moves ++ n ∷ []) ≡ k.moves = ap (λ (i : ℕ). take i (k.moves ++ n ∷ [])) b.0 ∙ take_front k.moves (n ∷ []) in (
              d,
              ap (slice_get k.digests) b.0 ∙ e,
              ap (λ (ms : List Move). first_opening game q ms d fs t) front ∙ ap (first_opening game q k.moves d fs) b.0 ∙ f ∙ ap (λ (x : Move). Some x) b.1,
            )

known_to_first : (game : Game) (q : ℕ) (fs : List TurnFrame) (n : ℕ) → AreFirst game q fs (known_to game q fs n)
unfolding known_to next_known
known_to_first game q fs zero = λ t m h. absurd (let none : None ≡ Some m = h in cc)
known_to_first game q fs (suc n) = go (known_to game q fs n) (known_to_first game q fs n)
  where
    go : (k : Known) → AreFirst game q fs k → AreFirst game q fs (next_known game q fs k)
    go k w =
        of_chosen (AreFirst game q fs) (nat_lt (length k.digests) (min (length k.moves + game.ahead) game.turns)) _ _ (commit_first game q fs k (first_commit fs (length k.digests)) w)
        (of_chosen (AreFirst game q fs) (nat_lt (length k.moves) game.turns) _ _ (move_first game q fs k (slice_get k.digests (length k.moves)) refl w) w)

-- a move that is resolved is the first that opens the digest held, legal after the moves before
pub resolved_is_first : (game : Game) (me q t : ℕ) (h : List Entry) (m : Move) → resolved game me h q t ≡ Some m →
    (d : Digest) × (f : TurnFrame) × (front : List TurnFrame) × (back : List TurnFrame) × (held game me h q t ≡ Some d) × (frames_of me q h ≡ front ++ f ∷ back) ×
    (opening_of game q (take t (known game me h q).moves) d t f ≡ Some m) × EachIs (λ g. opening_of game q (take t (known game me h q).moves) d t g ≡ None) front
unfolding known
resolved_is_first game me q t h m e =
    let w = known_to_first game q (frames_of me q h) (2 * game.turns) t m e in
    let r = first_of_stands (opening_of game q (take t (known_to game q (frames_of me q h) (2 * game.turns)).moves) w.0 t) (frames_of me q h) m w.2 in
    (w.0, r.1, r.0, r.2, w.1, r.3, r.4, r.5)
