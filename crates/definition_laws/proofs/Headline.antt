-- What is held was committed first, what is resolved opens it, and a reveal stands after the commitments of all who meet.
use Rattle.std.proofs.Common.{Bool, List, None, Some, [], ap, false, inl, inr, length, refl, subst, suc, sym, true, zero, ℕ, ◌*◌, ◌++◌, ◌+◌, ◌∙◌, ◌∷◌, ◌≡◌, ◌⊎◌}
use Rattle.std.specs.Prelude.{Option, if◌then◌else◌, is_some, min, nat_lt, not, slice_get, ◌&&◌, ◌==◌}
use Rattle.std.specs.Option.{option_or}
use Rattle.std.proofs.lemmas.Bool.{and_parts, eqb-true, false≢true, or_cases}
use Rattle.std.specs.List.{list_all}
use Rattle.plain_lemmas.proofs.Tests.{of_chosen}
use Rattle.definitions.specs.declared.frames.TurnFrame.TheVariants.{Commit, Reveal}
use Rattle.definitions.specs.Logs.{digest_eq, frames_of}
use Rattle.definitions.specs.Moves.{is_legal, track_after}
use Rattle.definitions.specs.declared.logs.Entry.TheVariants.{Made}
use Rattle.definitions.specs.declared.frames.TurnFrame.{TurnFrame}
use Rattle.definitions.specs.Held.{Known, digest_of, first_commit, first_opening, held, known, known_to, next_known, opened, resolved, with_commit, with_move}
use Rattle.definitions.specs.Honest.{IsHonest, allows, allows_frame, honest_from, lets_reveal, may_reveal, others}
use Rattle.definitions.specs.declared.logs.Entry.{Entry}
use Rattle.definitions.specs.declared.openings.Digest.{Digest}
use Rattle.definitions.specs.Meets.{meets}
use Rattle.definitions.specs.declared.world.Move.{Move}
use Rattle.definitions.specs.declared.openings.Nonce.{Nonce}
use Rattle.definitions.specs.World.{Game}
use Rattle.definition_laws.proofs.Permits.{honest_from_append}
use Rattle.definition_laws.proofs.Listing.{list_all_at, nothing_some, slice_get_front, slice_get_push}
use Rattle.definition_laws.proofs.Alike.{digest_eq_true}

-- one of the frames is a reveal of the turn with this move that opens the digest
pub record IsOpened (game : Game) (fs : List TurnFrame) (t : ℕ) (m : Move) (d : Digest) : Type 0 where
  pub player : ℕ
  pub nonce : Nonce
  pub front : List TurnFrame
  pub rest : List TurnFrame
  pub stands : fs ≡ front ++ Reveal player t m nonce ∷ rest
  pub opens : digest_of game (Reveal player t m nonce) ≡ d

IsOpened_behind : (game : Game) (f : TurnFrame) (fs : List TurnFrame) (t : ℕ) (m : Move) (d : Digest) → IsOpened game fs t m d → IsOpened game (f ∷ fs) t m d
IsOpened_behind game f fs t m d o = record {
  player = o.player;
  nonce = o.nonce;
  front = f ∷ o.front;
  rest = o.rest;
  stands = ap (λ (gs : List TurnFrame). f ∷ gs) o.stands;
  opens = o.opens;
}

pub first_opening_opens : (game : Game) (q : ℕ) (before : List Move) (d : Digest) (fs : List TurnFrame) (t : ℕ) (m : Move) →
    first_opening game q before d fs t ≡ Some m → IsOpened game fs t m d
first_opening_opens game q before d [] t m h = cc
first_opening_opens game q before d (Commit p u e ∷ fs) t m h = IsOpened_behind game (Commit p u e) fs t m d (first_opening_opens game q before d fs t m h)
first_opening_opens game q before d (Reveal p u k n ∷ fs) t m h =
    go (((u == t) && digest_eq (digest_of game (Reveal p u k n)) d) && is_legal game q (track_after game q before) k) refl h (first_opening_opens game q before d fs t m)
  where
    go : (b : Bool) → (((u == t) && digest_eq (digest_of game (Reveal p u k n)) d) && is_legal game q (track_after game q before) k) ≡ b →
        option_or (if b then Some k else None) (first_opening game q before d fs t) ≡ Some m → (first_opening game q before d fs t ≡ Some m → IsOpened game fs t m d) →
        IsOpened game (Reveal p u k n ∷ fs) t m d
    go true e is ih =
        let tests = and_parts _ _ (and_parts _ _ e).0 in
        let turn : u ≡ t = eqb-true u t tests.0 in
        let mv : k ≡ m = cc in
        let digest : digest_of game (Reveal p u k n) ≡ d = digest_eq_true _ _ tests.1 in
        let same : Reveal p u k n ≡ Reveal p t m n = cc in
        record {
          player = p;
          nonce = n;
          front = [];
          rest = fs;
          stands = ap (λ (f : TurnFrame). f ∷ fs) same;
          opens = sym (ap (digest_of game) same) ∙ digest;
        }
    go false e is ih = IsOpened_behind game (Reveal p u k n) fs t m d (ih is)

-- each digest is that of the first commitment, and each move opens the digest of its turn
pub record IsSound (game : Game) (fs : List TurnFrame) (k : Known) : Type 0 where
  pub first : (t : ℕ) (d : Digest) → slice_get k.digests t ≡ Some d → first_commit fs t ≡ Some d
  pub opens : (t : ℕ) (m : Move) → slice_get k.moves t ≡ Some m → (d : Digest) × (slice_get k.digests t ≡ Some d) × IsOpened game fs t m d

with_commit_sound : (game : Game) (fs : List TurnFrame) (k : Known) → IsSound game fs k → IsSound game fs (with_commit k (first_commit fs (length k.digests)))
with_commit_sound game fs k s = go (first_commit fs (length k.digests)) refl
  where
    go : (o : Option Digest) → first_commit fs (length k.digests) ≡ o → IsSound game fs (with_commit k o)
    go None e = s
    go (Some d) e = record {
      first = λ t c h. first t c (slice_get_push k.digests d t c h);
      opens = λ t m h. let o = s.opens t m h in (o.0, slice_get_front k.digests (d ∷ []) t o.0 o.1, o.2);
    }
      where
        first : (t : ℕ) (c : Digest) → (slice_get k.digests t ≡ Some c) ⊎ ((t ≡ length k.digests) × (d ≡ c)) → first_commit fs t ≡ Some c
        first t c (inl a) = s.first t c a
        first t c (inr b) = ap (first_commit fs) b.0 ∙ e ∙ ap (λ (x : Digest). Some x) b.1

with_move_sound : (game : Game) (q : ℕ) (fs : List TurnFrame) (k : Known) → IsSound game fs k →
    IsSound game fs (with_move k (opened game q k.moves fs (length k.moves) (slice_get k.digests (length k.moves))))
with_move_sound game q fs k s = at (slice_get k.digests (length k.moves)) refl
  where
    at : (o : Option Digest) → slice_get k.digests (length k.moves) ≡ o → IsSound game fs (with_move k (opened game q k.moves fs (length k.moves) o))
    at None e = s
    at (Some d) e = go (first_opening game q k.moves d fs (length k.moves)) refl
      where
        go : (o : Option Move) → first_opening game q k.moves d fs (length k.moves) ≡ o → IsSound game fs (with_move k o)
        go None f = s
        go (Some m) f = record { first = s.first; opens = λ t n h. new t n (slice_get_push k.moves m t n h) }
          where
            new : (t : ℕ) (n : Move) → (slice_get k.moves t ≡ Some n) ⊎ ((t ≡ length k.moves) × (m ≡ n)) → (c : Digest) × (slice_get k.digests t ≡ Some c) × IsOpened game fs t n c
            new t n (inl a) = s.opens t n a
            new t n (inr b) =
                let there : slice_get k.digests t ≡ Some d = ap (slice_get k.digests) b.0 ∙ e in
                let is : first_opening game q k.moves d fs (length k.moves) ≡ Some n = f ∙ ap (λ (x : Move). Some x) b.1 in
                let P : ℕ → Type 0 = λ u. IsOpened game fs u n d in
                (d, there, subst P (sym b.0) (first_opening_opens game q k.moves d fs (length k.moves) n is))

next_known_sound : (game : Game) (q : ℕ) (fs : List TurnFrame) (k : Known) → IsSound game fs k → IsSound game fs (next_known game q fs k)
unfolding next_known
next_known_sound game q fs k s =
    of_chosen (IsSound game fs) (nat_lt (length k.digests) (min (length k.moves + game.ahead) game.turns)) _ _ (with_commit_sound game fs k s)
    (of_chosen (IsSound game fs) (nat_lt (length k.moves) game.turns) _ _ (with_move_sound game q fs k s) s)

pub known_to_sound : (game : Game) (q : ℕ) (fs : List TurnFrame) (n : ℕ) → IsSound game fs (known_to game q fs n)
unfolding known_to
known_to_sound game q fs zero = record { first = λ t d h. absurd (nothing_some d h); opens = λ t m h. absurd (nothing_some m h) }
known_to_sound game q fs (suc n) = next_known_sound game q fs _ (known_to_sound game q fs n)

-- a move that a log resolves opens the digest that it holds, which is that of the first commitment
pub resolved_opens : (game : Game) (me q t : ℕ) (h : List Entry) (m : Move) → resolved game me h q t ≡ Some m →
    (d : Digest) × (held game me h q t ≡ Some d) × (first_commit (frames_of me q h) t ≡ Some d) × IsOpened game (frames_of me q h) t m d
unfolding known
resolved_opens game me q t h m e =
    let s = known_to_sound game q (frames_of me q h) (2 * game.turns) in
    let o = s.opens t m e in
    (o.0, o.1, s.first t o.0 o.1, o.2)

-- in an honest log each reveal made stands after a commitment that is held of each other player that meets
pub reveal_behind : (game : Game) (me t : ℕ) (g rest : List Entry) (m : Move) (n : Nonce) (front back : List ℕ) (q : ℕ) →
    IsHonest game me (g ++ Made (Reveal me t m n) ∷ rest) → others game me ≡ front ++ q ∷ back → meets game me g q t ≡ true →
    (d : Digest) × (held game me g q t ≡ Some d) × (first_commit (frames_of me q g) t ≡ Some d)
unfolding honest_from allows allows_frame may_reveal known
reveal_behind game me t g rest m n front back q h among meet =
    let tail = (and_parts _ _ (sym (honest_from_append game me [] g (Made (Reveal me t m n) ∷ rest)) ∙ h)).1 in
    let may = (and_parts _ _ (and_parts _ _ (and_parts _ _ tail).0).1).1 in
    let P : List ℕ → Type 0 = λ qs. list_all (lets_reveal game me g t) qs ≡ true in
    go (held game me g q t) refl (or_cases _ _ (list_all_at (lets_reveal game me g t) front back q (subst P among may)))
  where
    go : (o : Option Digest) → held game me g q t ≡ o → (is_some (held game me g q t) ≡ true) ⊎ (not (meets game me g q t) ≡ true) →
        (d : Digest) × (held game me g q t ≡ Some d) × (first_commit (frames_of me q g) t ≡ Some d)
    go (Some d) e c = (d, e, (known_to_sound game q (frames_of me q g) (2 * game.turns)).first t d e)
    go None e (inl c) = absurd (false≢true (sym (ap is_some e) ∙ c))
    go None e (inr c) = absurd (false≢true (sym (ap not meet) ∙ c))
