-- Nexts: what is held and resolved of a player stands below its next place, and nothing fits that place.
use Rattle.std.proofs.Common.{List, None, Some, [], ap, arith, false, refl, suc, sym, true, zero, ℕ, ◌*◌, ◌++◌, ◌<◌, ◌∙◌, ◌∷◌, ◌≡◌, ◌≤◌, Bool, Option, length, length-append, slice_get}
use Rattle.std.specs.Prelude.{if◌then◌else◌, is_some, ◌==◌, ◌↔◌}
use Rattle.std.specs.Option.{option_or}
use Rattle.std.proofs.lemmas.Bool.{false≢true, eqb-true}
use Rattle.definitions.specs.declared.world.Move.{Move}
use Rattle.definitions.specs.declared.openings.Digest.{Digest}
use Rattle.definitions.specs.declared.frames.TurnFrame.{TurnFrame}
use Rattle.definitions.specs.declared.frames.TurnFrame.TheVariants.{Commit, Reveal}
use Rattle.definitions.specs.declared.frames.What.TheVariants as W
use Rattle.definitions.specs.declared.logs.Entry.{Entry}
use Rattle.definitions.specs.Lists.{EachIs, first_of}
use Rattle.definitions.specs.World.{Game}
use Rattle.definitions.specs.Moves.{AreLegal}
use Rattle.definitions.specs.Places.{commit_place, reveal_place, slot_at}
use Rattle.definitions.specs.Logs.{frames_of}
use Rattle.definitions.specs.Held.{Known, commit_of, first_commit, held, known, next_known, next_place, opened, opening_of, resolved, with_commit, with_move}
use Rattle.definitions.proofs.Slots.{slot_at_commit_is, slot_at_reveal_is}
use Rattle.definition_laws.proofs.Grows.{known_grows}
use Rattle.definition_laws.proofs.Headline.{known_to_sound}
use Rattle.definition_laws.proofs.Knowing.{known_to_orderly, known_to_whole, next_commit, next_reveal}
use Rattle.definition_laws.proofs.Listing.{slice_get_front}
use Rattle.definition_laws.proofs.Tracks.{AreKnownLegal, known_to_legal}
use Rattle.definition_laws.proofs.Order.{IsOrderly, commit_known, commit_turn, reveal_known, reveal_turn}

some_below : {X : Type 0} (xs : List X) (t : ℕ) → is_some (slice_get xs t) ≡ true → t < length xs
some_below [] t h = absurd (false≢true h)
some_below (x ∷ xs) zero h = omega arith
some_below (x ∷ xs) (suc t) h = let r = some_below xs t h in omega arith

below_some : {X : Type 0} (xs : List X) (t : ℕ) → t < length xs → is_some (slice_get xs t) ≡ true
below_some [] t h = absurd (omega arith)
below_some (x ∷ xs) zero h = refl
below_some (x ∷ xs) (suc t) h = below_some xs t (omega arith)

-- what is known of a player is the beginning of its stream
pub known_orderly : (game : Game) (me q : ℕ) (h : List Entry) → IsOrderly game (length (known game me h q).digests) (length (known game me h q).moves)
unfolding known
known_orderly game me q h = known_to_orderly game q (frames_of me q h) (2 * game.turns)

-- a turn's commitment is held exactly where its place is below the next
pub held_below : (game : Game) (me q t : ℕ) (h : List Entry) → 1 ≤ game.ahead → t < game.turns → (is_some (held game me h q t) ≡ true) ↔ (commit_place game t < next_place game me h q)
held_below game me q t h d lt =
    let k = known game me h q in
    let places = commit_known game (length k.digests) (length k.moves) t d (known_orderly game me q h) lt in
    (λ is. places.0 (some_below k.digests t is), λ below. below_some k.digests t (places.1 below))

-- a turn is resolved exactly where its reveal's place is below the next
pub resolved_below : (game : Game) (me q t : ℕ) (h : List Entry) → 1 ≤ game.ahead → t < game.turns → (is_some (resolved game me h q t) ≡ true) ↔ (reveal_place game t < next_place game me h q)
resolved_below game me q t h d lt =
    let k = known game me h q in
    let places = reveal_known game (length k.digests) (length k.moves) t d (known_orderly game me q h) lt in
    (λ is. places.0 (some_below k.moves t is), λ below. below_some k.moves t (places.1 below))

-- what is held, or resolved, stays as the log grows
pub held_stays : (game : Game) (me q t : ℕ) (g h : List Entry) (d : Digest) → held game me g q t ≡ Some d → held game me (g ++ h) q t ≡ Some d
held_stays game me q t g h d e =
    let b = known_grows game me q g h in
    ap (λ (ds : List Digest). slice_get ds t) b.digests_are ∙ slice_get_front (known game me g q).digests b.digests_after t d e

pub resolved_stays : (game : Game) (me q t : ℕ) (g h : List Entry) (m : Move) → resolved game me g q t ≡ Some m → resolved game me (g ++ h) q t ≡ Some m
resolved_stays game me q t g h m e =
    let b = known_grows game me q g h in
    ap (λ (ms : List Move). slice_get ms t) b.moves_are ∙ slice_get_front (known game me g q).moves b.moves_after t m e

-- where none is first, none gives any
first_of_none : {X Y : Type 0} (f : X → Option Y) (xs : List X) → first_of f xs ≡ None → EachIs (λ x. f x ≡ None) xs
first_of_none f [] h = tt
first_of_none {X} {Y} f (x ∷ xs) h = go (f x) refl h (first_of_none f xs)
  where
    go : (o : Option Y) → f x ≡ o → option_or o (first_of f xs) ≡ None → (first_of f xs ≡ None → EachIs (λ x. f x ≡ None) xs) → (f x ≡ None) × EachIs (λ x. f x ≡ None) xs
    go None e h ih = (e, ih h)
    go (Some y) e h ih = absurd (cc)

-- a digest that leaves what is known as it is isn't there
pub no_commit : (k : Known) (o : Option Digest) → with_commit k o ≡ k → o ≡ None
no_commit k None e = refl
no_commit k (Some d) e = let l = length-append k.digests (d ∷ []) in let n = ap (λ (x : Known). length x.digests) e in absurd (omega arith)

-- and a move
pub no_move : (k : Known) (o : Option Move) → with_move k o ≡ k → o ≡ None
no_move k None e = refl
no_move k (Some m) e = let l = length-append k.moves (m ∷ []) in let n = ap (λ (x : Known). length x.moves) e in absurd (omega arith)

known_whole : (game : Game) (me q : ℕ) (h : List Entry) → next_known game q (frames_of me q h) (known game me h q) ≡ known game me h q
unfolding known
known_whole game me q h = known_to_whole game q (frames_of me q h)

-- where a commitment is next, no frame commits its turn
pub no_commit_next : (game : Game) (me q t : ℕ) (h : List Entry) → 1 ≤ game.ahead → slot_at game (next_place game me h q) ≡ Some (record { what = W.Commit; turn = t }) →
    EachIs (λ f. commit_of t f ≡ None) (frames_of me q h)
no_commit_next game me q t h d slot =
    let k = known game me h q in
    let at = slot_at_commit_is game (next_place game me h q) t slot in
    let turn = commit_turn game (length k.digests) (length k.moves) t d (known_orderly game me q h) at.0 (sym at.1) in
    let none = no_commit k _ (sym (next_commit game q (frames_of me q h) k turn.0) ∙ known_whole game me q h) in
    first_of_none (commit_of t) (frames_of me q h) (ap (first_commit (frames_of me q h)) turn.1 ∙ none)

pub some_at : {X : Type 0} (xs : List X) (t : ℕ) → t < length xs → (x : X) × (slice_get xs t ≡ Some x)
some_at [] t h = absurd (omega arith)
some_at (x ∷ xs) zero h = (x, refl)
some_at (x ∷ xs) (suc t) h = some_at xs t (omega arith)

-- where a reveal is next, no frame opens the digest held by a legal move
pub no_opening_next : (game : Game) (me q t : ℕ) (h : List Entry) → 1 ≤ game.ahead → slot_at game (next_place game me h q) ≡ Some (record { what = W.Reveal; turn = t }) →
    (d : Digest) × (held game me h q t ≡ Some d) × EachIs (λ f. opening_of game q (known game me h q).moves d t f ≡ None) (frames_of me q h)
no_opening_next game me q t h d slot =
    let k = known game me h q in
    let at = slot_at_reveal_is game (next_place game me h q) t slot in
    let turn = reveal_turn game (length k.digests) (length k.moves) t d (known_orderly game me q h) at.0 (sym at.1) in
    let full = turn.0 in
    let left = turn.1 in
    let same = turn.2 in
    let there = some_at k.digests t (omega arith) in
    let none = no_move k _ (sym (next_reveal game q (frames_of me q h) k turn.0 turn.1) ∙ known_whole game me q h) in
    let opens : opened game q k.moves (frames_of me q h) t (Some there.0) ≡ None =
    ap (opened game q k.moves (frames_of me q h) t) (sym there.1) ∙ ap (λ (n : ℕ). opened game q k.moves (frames_of me q h) n (slice_get k.digests n)) turn.2 ∙ none in
    (there.0, there.1, first_of_none (opening_of game q k.moves there.0 t) (frames_of me q h) opens)

-- the first that is given stands behind those that give none
pub first_of_stands : {X Y : Type 0} (f : X → Option Y) (xs : List X) (y : Y) → first_of f xs ≡ Some y →
    (front : List X) × (x : X) × (back : List X) × (xs ≡ front ++ x ∷ back) × (f x ≡ Some y) × EachIs (λ z. f z ≡ None) front
first_of_stands f [] y h = absurd (let e : None ≡ Some y = h in cc)
first_of_stands {X} {Y} f (x ∷ xs) y h = go (f x) refl h (first_of_stands f xs y)
  where
    go : (o : Option Y) → f x ≡ o → option_or o (first_of f xs) ≡ Some y →
        (first_of f xs ≡ Some y → (front : List X) × (x : X) × (back : List X) × (xs ≡ front ++ x ∷ back) × (f x ≡ Some y) × EachIs (λ z. f z ≡ None) front) →
        (front : List X) × (w : X) × (back : List X) × (x ∷ xs ≡ front ++ w ∷ back) × (f w ≡ Some y) × EachIs (λ z. f z ≡ None) front
    go None e h ih = let r = ih h in (x ∷ r.0, r.1, r.2, ap (λ (zs : List X). x ∷ zs) r.3, r.4, (e, r.5))
    go (Some z) e h ih = ([], x, xs, refl, e ∙ h, tt)

-- the digest held is that of the first commitment to the turn
pub held_is_first : (game : Game) (me q t : ℕ) (h : List Entry) (d : Digest) → held game me h q t ≡ Some d →
    (p : ℕ) × (front : List TurnFrame) × (back : List TurnFrame) × (frames_of me q h ≡ front ++ Commit p t d ∷ back) × EachIs (λ f. commit_of t f ≡ None) front
unfolding known
held_is_first game me q t h d e =
    let s = known_to_sound game q (frames_of me q h) (2 * game.turns) in
    let r = first_of_stands (commit_of t) (frames_of me q h) d (s.first t d e) in
    frame r.1 r.0 r.2 r.3 r.4 r.5
  where
    frame : (f : TurnFrame) (front back : List TurnFrame) → frames_of me q h ≡ front ++ f ∷ back → commit_of t f ≡ Some d → EachIs (λ f. commit_of t f ≡ None) front →
        (p : ℕ) × (front : List TurnFrame) × (back : List TurnFrame) × (frames_of me q h ≡ front ++ Commit p t d ∷ back) × EachIs (λ f. commit_of t f ≡ None) front
    frame (Reveal p u m n) front back at k each = absurd (let none : None ≡ Some d = k in cc)
    frame (Commit p u c) front back at k each = turn (u == t) refl k
      where
        turn : (b : Bool) → (u == t) ≡ b → (if b then Some c else None) ≡ Some d →
            (p : ℕ) × (front : List TurnFrame) × (back : List TurnFrame) × (frames_of me q h ≡ front ++ Commit p t d ∷ back) × EachIs (λ f. commit_of t f ≡ None) front
        turn false e k = absurd (cc)
        turn true e k =
            let same_turn = eqb-true u t e in
            let digest : c ≡ d = cc in
            let same : Commit p u c ≡ Commit p t d = cc in
            (p, front, back, at ∙ ap (λ (f : TurnFrame). front ++ f ∷ back) same, each)

-- the moves that are resolved are legal from the start
pub known_are_legal : (game : Game) (me q : ℕ) (h : List Entry) → AreLegal game q (known game me h q).moves
unfolding known AreKnownLegal
known_are_legal game me q h = known_to_legal game q (frames_of me q h) (2 * game.turns)
