-- Knowing: a stream that is known, as far as its places are there.
use Rattle.std.proofs.Common.{Bool, List, None, Some, [], ap, arith, false, inl, inr, length, length-append, refl, suc, sym, true, zero, zero-add, ℕ, ◌*◌, ◌++◌, ◌+◌, ◌<◌, ◌∙◌, ◌∷◌, ◌≡◌, ◌≤◌, ◌⊎◌}
use Rattle.std.specs.Prelude.{Option, if◌then◌else◌, min, nat_lt, slice_get, ◌==◌, ◌||◌}
use Rattle.std.proofs.lemmas.Bool.{cond-false, cond-true, le-ltb, lt-ltb, ltb-false, ltb-true}
use Rattle.std.proofs.Math.Nat.{suc-add}
use Rattle.plain_lemmas.proofs.Tests.{of_chosen}
use Rattle.definitions.specs.Held.{Known, first_commit, first_opening, known_to, next_known, opened, places_in, with_commit, with_move}
use Rattle.definitions.specs.declared.openings.Digest.{Digest}
use Rattle.definitions.specs.declared.frames.TurnFrame.TheVariants.{Commit, Reveal}
use Rattle.definitions.specs.declared.frames.TurnFrame.{TurnFrame}
use Rattle.definitions.specs.declared.world.Move.{Move}
use Rattle.definitions.specs.World.{Game}
use Rattle.definition_laws.proofs.Order.{IsOrderly, commit_orderly, orderly_at, reveal_orderly}
use Rattle.definition_laws.proofs.Listing.{nothing_more}
use Rattle.definition_laws.proofs.Grows.{Ahead, known_ahead}

-- a known stream as far as its places are there
pub places_in_le : (game : Game) (q : ℕ) (fs : List TurnFrame) (n : ℕ) → places_in (known_to game q fs n) ≤ n
unfolding known_to next_known
places_in_le game q fs zero = omega arith
places_in_le game q fs (suc n) = go (known_to game q fs n) (places_in_le game q fs n)
  where
    commit_le : (k : Known) (o : Option Digest) → places_in k ≤ n → places_in (with_commit k o) ≤ suc n
    commit_le k None h = omega arith
    commit_le k (Some d) h = let l = length-append k.digests (d ∷ []) in omega arith

    move_le : (k : Known) (o : Option Move) → places_in k ≤ n → places_in (with_move k o) ≤ suc n
    move_le k None h = omega arith
    move_le k (Some d) h = let l = length-append k.moves (d ∷ []) in omega arith

    go : (k : Known) → places_in k ≤ n → places_in (next_known game q fs k) ≤ suc n
    go k h =
        of_chosen (λ (x : Known). places_in x ≤ suc n) (nat_lt (length k.digests) (min (length k.moves + game.ahead) game.turns)) _ _ (commit_le k _ h)
        (of_chosen (λ (x : Known). places_in x ≤ suc n) (nat_lt (length k.moves) game.turns) _ _ (move_le k _ h) (omega arith))

pub known_from : (k l : Known) → k.digests ≡ l.digests → k.moves ≡ l.moves → k ≡ l
known_from k l a b =
    let at_digests : List Digest → Known = λ ds. record { digests = ds; moves = k.moves } in
    let at_moves : List Move → Known = λ ms. record { digests = l.digests; moves = ms } in
    ap at_digests a ∙ ap at_moves b

-- where all of the first n places are there, further frames change nothing of them
pub known_to_more : (game : Game) (q : ℕ) (fs gs : List TurnFrame) (n : ℕ) → places_in (known_to game q fs n) ≡ n →
    known_to game q fs n ≡ known_to game q (fs ++ gs) n
known_to_more game q fs gs n all = go (known_ahead game q fs gs n)
  where
    go : Ahead game q fs (known_to game q fs n) (known_to game q (fs ++ gs) n) → known_to game q fs n ≡ known_to game q (fs ++ gs) n
    go (inl e) = e
    go (inr p) =
        let b = p.1 in
        let le = places_in_le game q (fs ++ gs) n in
        let ld = length-append (known_to game q fs n).digests b.digests_after in
        let lm = length-append (known_to game q fs n).moves b.moves_after in
        let ed = ap length b.digests_are in
        let em = ap length b.moves_are in
        known_from _ _ (nothing_more _ _ _ b.digests_are (omega arith)) (nothing_more _ _ _ b.moves_are (omega arith))

-- a stream that is stuck stays so
pub known_to_stuck : (game : Game) (q : ℕ) (fs : List TurnFrame) (m n : ℕ) → next_known game q fs (known_to game q fs m) ≡ known_to game q fs m →
    known_to game q fs (n + m) ≡ known_to game q fs m
unfolding known_to
known_to_stuck game q fs m zero h = ap (known_to game q fs) (zero-add m)
known_to_stuck game q fs m (suc n) h =
    ap (known_to game q fs) (suc-add n m) ∙ ap (next_known game q fs) (known_to_stuck game q fs m n h) ∙ h

-- the next place of a stream whose places are there so far: a commitment, if it comes
pub next_commit : (game : Game) (q : ℕ) (fs : List TurnFrame) (k : Known) → length k.digests < min (length k.moves + game.ahead) game.turns →
    next_known game q fs k ≡ with_commit k (first_commit fs (length k.digests))
unfolding next_known
next_commit game q fs k h = cond-true _ _ _ (lt-ltb _ _ h)

pub next_reveal : (game : Game) (q : ℕ) (fs : List TurnFrame) (k : Known) → min (length k.moves + game.ahead) game.turns ≤ length k.digests → length k.moves < game.turns →
    next_known game q fs k ≡ with_move k (opened game q k.moves fs (length k.moves) (slice_get k.digests (length k.moves)))
unfolding next_known
next_reveal game q fs k h i = cond-false _ _ _ (le-ltb _ _ h) ∙ cond-true _ _ _ (lt-ltb _ _ i)

pub next_end : (game : Game) (q : ℕ) (fs : List TurnFrame) (k : Known) → min (length k.moves + game.ahead) game.turns ≤ length k.digests → game.turns ≤ length k.moves →
    next_known game q fs k ≡ k
unfolding next_known
next_end game q fs k h i = cond-false _ _ _ (le-ltb _ _ h) ∙ cond-false _ _ _ (le-ltb _ _ i)

pub first_commit_none : (fs gs : List TurnFrame) (t : ℕ) → first_commit fs t ≡ None → first_commit (fs ++ gs) t ≡ first_commit gs t
first_commit_none [] gs t h = refl
first_commit_none (Commit p u e ∷ fs) gs t h = let ih = first_commit_none fs gs t in grind arith
first_commit_none (Reveal p u m n ∷ fs) gs t h = first_commit_none fs gs t h

unfoldable pub has_reveal : ℕ → List TurnFrame → Bool
has_reveal t [] = false
has_reveal t (Commit p u d ∷ fs) = has_reveal t fs
has_reveal t (Reveal p u m n ∷ fs) = (u == t) || has_reveal t fs

pub has_reveal_append : (t : ℕ) (fs gs : List TurnFrame) → has_reveal t (fs ++ gs) ≡ (has_reveal t fs || has_reveal t gs)
unfolding has_reveal
has_reveal_append t [] gs = refl
has_reveal_append t (Commit p u e ∷ fs) gs = has_reveal_append t fs gs
has_reveal_append t (Reveal p u m n ∷ fs) gs = let ih = has_reveal_append t fs gs in grind arith

pub first_opening_none : (game : Game) (q : ℕ) (before : List Move) (d : Digest) (fs gs : List TurnFrame) (t : ℕ) → has_reveal t fs ≡ false →
    first_opening game q before d (fs ++ gs) t ≡ first_opening game q before d gs t
unfolding has_reveal
first_opening_none game q before d [] gs t h = refl
first_opening_none game q before d (Commit p u e ∷ fs) gs t h = first_opening_none game q before d fs gs t h
first_opening_none game q before d (Reveal p u m n ∷ fs) gs t h = let ih = first_opening_none game q before d fs gs t in grind arith

pub first_opening_lacks : (game : Game) (q : ℕ) (before : List Move) (d : Digest) (fs : List TurnFrame) (t : ℕ) → has_reveal t fs ≡ false → first_opening game q before d fs t ≡ None
unfolding has_reveal
first_opening_lacks game q before d [] t h = refl
first_opening_lacks game q before d (Commit p u e ∷ fs) t h = first_opening_lacks game q before d fs t h
first_opening_lacks game q before d (Reveal p u m n ∷ fs) t h = let ih = first_opening_lacks game q before d fs t in grind arith

-- with no commitment and no reveal for the next places nothing more is known
pub own_stuck : (game : Game) (q : ℕ) (fs : List TurnFrame) (k : Known) → first_commit fs (length k.digests) ≡ None → has_reveal (length k.moves) fs ≡ false → next_known game q fs k ≡ k
unfolding next_known
own_stuck game q fs k a b =
    go (nat_lt (length k.digests) (min (length k.moves + game.ahead) game.turns)) (nat_lt (length k.moves) game.turns)
    (first_commit fs (length k.digests)) a (opened game q k.moves fs (length k.moves) (slice_get k.digests (length k.moves))) (none (slice_get k.digests (length k.moves)))
  where
    none : (o : Option Digest) → opened game q k.moves fs (length k.moves) o ≡ None
    none None = refl
    none (Some d) = first_opening_lacks game q k.moves d fs (length k.moves) b

    go : (x y : Bool) (o : Option Digest) → o ≡ None → (p : Option Move) → p ≡ None → (if x then with_commit k o else if y then with_move k p else k) ≡ k
    go true y o e p f = ap (with_commit k) e
    go false true o e p f = ap (with_move k) f
    go false false o e p f = refl

-- no commitment to the turn, or no reveal of it
abbrev pub LacksCommits : ℕ → List TurnFrame → Type 0
LacksCommits c fs = (t : ℕ) → c ≤ t → first_commit fs t ≡ None

abbrev pub LacksReveals : ℕ → List TurnFrame → Type 0
LacksReveals r fs = (t : ℕ) → r ≤ t → has_reveal t fs ≡ false

abbrev pub AreOrderly : Game → Known → Type 0
AreOrderly game k = IsOrderly game (length k.digests) (length k.moves)

pub next_orderly : (game : Game) (q : ℕ) (fs : List TurnFrame) (k : Known) → AreOrderly game k → AreOrderly game (next_known game q fs k)
unfolding next_known
next_orderly game q fs k o =
    go (nat_lt (length k.digests) (min (length k.moves + game.ahead) game.turns)) refl (nat_lt (length k.moves) game.turns) refl
    (first_commit fs (length k.digests)) (opened game q k.moves fs (length k.moves) (slice_get k.digests (length k.moves)))
  where
    go : (x : Bool) → nat_lt (length k.digests) (min (length k.moves + game.ahead) game.turns) ≡ x → (y : Bool) → nat_lt (length k.moves) game.turns ≡ y →
        (d : Option Digest) (m : Option Move) → AreOrderly game (if x then with_commit k d else if y then with_move k m else k)
    go true h y i None m = o
    go true h y i (Some d) m =
        let l = length-append k.digests (d ∷ []) in
        orderly_at game _ _ _ _ (sym l) refl (commit_orderly game (length k.digests) (length k.moves) o (ltb-true _ _ h))
    go false h true i d None = o
    go false h true i d (Some m) =
        let l = length-append k.moves (m ∷ []) in
        orderly_at game _ _ _ _ refl (sym l) (reveal_orderly game (length k.digests) (length k.moves) o (ltb-false _ _ h) (ltb-true _ _ i))
    go false h false i d m = o

pub known_to_orderly : (game : Game) (q : ℕ) (fs : List TurnFrame) (n : ℕ) → AreOrderly game (known_to game q fs n)
unfolding known_to
known_to_orderly game q fs zero = record { within = omega arith; turns = omega arith; least = inl refl }
known_to_orderly game q fs (suc n) = next_orderly game q fs _ (known_to_orderly game q fs n)

-- a place more is known, or nothing more
pub next_place_or : (game : Game) (q : ℕ) (fs : List TurnFrame) (k : Known) → (places_in (next_known game q fs k) ≡ places_in k + 1) ⊎ (next_known game q fs k ≡ k)
unfolding next_known
next_place_or game q fs k =
    go (nat_lt (length k.digests) (min (length k.moves + game.ahead) game.turns)) (nat_lt (length k.moves) game.turns)
    (first_commit fs (length k.digests)) (opened game q k.moves fs (length k.moves) (slice_get k.digests (length k.moves)))
  where
    go : (x y : Bool) (d : Option Digest) (m : Option Move) →
        (places_in (if x then with_commit k d else if y then with_move k m else k) ≡ places_in k + 1) ⊎ ((if x then with_commit k d else if y then with_move k m else k) ≡ k)
    go true y None m = inr refl
    go true y (Some d) m = let l = length-append k.digests (d ∷ []) in inl (omega arith)
    go false true d None = inr refl
    go false true d (Some m) = let l = length-append k.moves (m ∷ []) in inl (omega arith)
    go false false d m = inr refl

-- the first n places are all there, or the next place is not there
pub places_or_stuck : (game : Game) (q : ℕ) (fs : List TurnFrame) (n : ℕ) → (places_in (known_to game q fs n) ≡ n) ⊎ (next_known game q fs (known_to game q fs n) ≡ known_to game q fs n)
unfolding known_to
places_or_stuck game q fs zero = inl refl
places_or_stuck game q fs (suc n) = go (places_or_stuck game q fs n) (next_place_or game q fs (known_to game q fs n))
  where
    go : (places_in (known_to game q fs n) ≡ n) ⊎ (next_known game q fs (known_to game q fs n) ≡ known_to game q fs n) →
        (places_in (next_known game q fs (known_to game q fs n)) ≡ places_in (known_to game q fs n) + 1) ⊎ (next_known game q fs (known_to game q fs n) ≡ known_to game q fs n) →
        (places_in (next_known game q fs (known_to game q fs n)) ≡ suc n) ⊎ (next_known game q fs (next_known game q fs (known_to game q fs n)) ≡ next_known game q fs (known_to game q fs n))
    go (inl a) (inl b) = inl (omega arith)
    go a (inr s) = inr (ap (next_known game q fs) s)
    go (inr s) (inl b) = inr (ap (next_known game q fs) s)

-- what is known by twice as many places as there are turns is all: the next place is not there
pub known_to_whole : (game : Game) (q : ℕ) (fs : List TurnFrame) → next_known game q fs (known_to game q fs (2 * game.turns)) ≡ known_to game q fs (2 * game.turns)
known_to_whole game q fs = go (places_or_stuck game q fs (2 * game.turns))
  where
    go : (places_in (known_to game q fs (2 * game.turns)) ≡ 2 * game.turns) ⊎ (next_known game q fs (known_to game q fs (2 * game.turns)) ≡ known_to game q fs (2 * game.turns)) →
        next_known game q fs (known_to game q fs (2 * game.turns)) ≡ known_to game q fs (2 * game.turns)
    go (inr s) = s
    go (inl all) =
        let o = known_to_orderly game q fs (2 * game.turns) in
        let w = o.within in
        let t = o.turns in
        next_end game q fs (known_to game q fs (2 * game.turns)) (omega arith) (omega arith)
