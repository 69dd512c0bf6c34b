-- Revealed: the owner's turns that are settled, by those that are resolved of it.
use Rattle.std.proofs.Common.{Bool, List, Some, [], ap, arith, sym, true, ℕ, ◌++◌, ◌<◌, ◌∙◌, ◌∷◌, ◌≡◌, ◌≤◌, take}
use Rattle.std.specs.Prelude.{nat_lt, ◌&&◌, ◌==◌}
use Rattle.std.specs.List.{list_all, list_any}
use Rattle.std.proofs.lemmas.Bool.{lt-ltb, ltb-true, or_left}
use Rattle.plain_lemmas.proofs.Options.{some_when}
use Rattle.plain_lemmas.proofs.Tests.{same_tests}
use Rattle.definitions.specs.declared.world.Move.{Move}
use Rattle.definitions.specs.declared.openings.Digest.{Digest}
use Rattle.definitions.specs.declared.frames.TurnFrame.{TurnFrame}
use Rattle.definitions.specs.declared.frames.TurnFrame.TheVariants.{Commit, Reveal}
use Rattle.definitions.specs.declared.logs.Entry.{Entry}
use Rattle.definitions.specs.World.{Game}
use Rattle.definitions.specs.Moves.{is_legal, track_after}
use Rattle.definitions.specs.Logs.{digest_eq, made}
use Rattle.definitions.specs.Held.{digest_of, known, opening_of, resolved_count}
use Rattle.definitions.specs.Honest.{IsHonest, lets_commit, others}
use Rattle.definitions.specs.Settled.{is_reveal_of, is_settled}
use Rattle.definition_laws.proofs.Firsts.{resolved_is_first}
use Rattle.definition_laws.proofs.Listing.{nothing_some}
use Rattle.definition_laws.proofs.Nexts.{some_at}
use Rattle.definition_laws.proofs.OwnLog.{frames_of_own}
use Rattle.definition_laws.proofs.Settling.{revealed_is_resolved}

-- a frame that opens a turn's digest reveals that turn
opens_by_reveal : (game : Game) (q : ℕ) (before : List Move) (d : Digest) (t : ℕ) (f : TurnFrame) (m : Move) → opening_of game q before d t f ≡ Some m → is_reveal_of t f ≡ true
opens_by_reveal game q before d t (Commit p u c) m e = absurd (nothing_some m e)
opens_by_reveal game q before d t (Reveal p u k n) m e =
    let all = (some_when ((u == t) && digest_eq (digest_of game (Reveal p u k n)) d && is_legal game q (track_after game q before) k) k m e).0 in
    grind (arith, all)

among : (p : TurnFrame → Bool) (front back : List TurnFrame) (f : TurnFrame) → p f ≡ true → list_any p (front ++ f ∷ back) ≡ true
among p [] back f h = or_left _ _ h
among p (x ∷ front) back f h = let ih = among p front back f h in grind arith

-- a turn that is resolved of the owner was revealed
pub resolved_is_revealed : (game : Game) (me t : ℕ) (h : List Entry) → t < resolved_count game me h me → list_any (is_reveal_of t) (made h) ≡ true
resolved_is_revealed game me t h lt =
    let there = some_at (known game me h me).moves t lt in
    let first = resolved_is_first game me me t h there.0 there.1 in
    let f : TurnFrame = first.1 in
    ap (list_any (is_reveal_of t)) (sym (frames_of_own me h) ∙ first.5)
    ∙ among (is_reveal_of t) first.2 first.3 f (opens_by_reveal game me (take t (known game me h me).moves) first.0 t f there.0 first.6)

-- a turn is settled exactly where the owner has resolved it and everyone would let it commit to the turn that waits for it
pub settled_is : (game : Game) (me t : ℕ) (h : List Entry) → 1 ≤ game.ahead → IsHonest game me h →
    is_settled game me h t ≡ (nat_lt t (resolved_count game me h me) && list_all (lets_commit game me h t) (others game me))
unfolding is_settled
settled_is game me t h d i =
    ap (λ (b : Bool). b && list_all (lets_commit game me h t) (others game me))
    (same_tests (list_any (is_reveal_of t) (made h)) (nat_lt t (resolved_count game me h me))
    (λ r. lt-ltb _ _ (revealed_is_resolved game me t h d i r)) (λ r. resolved_is_revealed game me t h (ltb-true _ _ r)))
