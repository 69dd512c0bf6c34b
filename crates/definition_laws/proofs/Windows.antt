-- Windows: what is known of a player after one frame more, step by step from what was known before.
use Rattle.std.proofs.Common.{Bool, List, [], ap, arith, false, inl, inr, refl, suc, suc-add, sym, true, zero, zero-add, ℕ, ◌*◌, ◌++◌, ◌+◌, ◌-◌, ◌<◌, ◌∙◌, ◌∷◌, ◌≡◌, ◌≤◌, ◌⊎◌}
use Rattle.std.specs.Prelude.{if◌then◌else◌, ◌==◌}
use Rattle.std.proofs.lemmas.Bool.{cases_lt, cond-false, ne_eqb}
use Rattle.definitions.specs.declared.world.Move.{Move}
use Rattle.definitions.specs.declared.openings.Nonce.{Nonce}
use Rattle.definitions.specs.declared.frames.TurnFrame.{TurnFrame}
use Rattle.definitions.specs.declared.logs.Entry.{Entry}
use Rattle.definitions.specs.declared.logs.Entry.TheVariants.{Chose, Got, Made}
use Rattle.definitions.specs.World.{Game}
use Rattle.definitions.specs.Logs.{frames_of, got_of, made}
use Rattle.definitions.specs.Held.{Known, known, known_to, next_known, places_in}
use Rattle.definition_laws.proofs.Grows.{frames_of_append}
use Rattle.definition_laws.proofs.Knowing.{known_to_more, known_to_stuck, known_to_whole, next_place_or, places_or_stuck}
use Rattle.definition_laws.proofs.Listing.{append_nil}

-- so many places further
unfoldable pub known_steps : Game → ℕ → List TurnFrame → ℕ → Known → Known
known_steps game q fs zero k = k
known_steps game q fs (suc n) k = next_known game q fs (known_steps game q fs n k)

steps_to : (game : Game) (q : ℕ) (fs : List TurnFrame) (n m : ℕ) → known_steps game q fs n (known_to game q fs m) ≡ known_to game q fs (n + m)
unfolding known_steps known_to
steps_to game q fs zero m = ap (known_to game q fs) (sym (zero-add m))
steps_to game q fs (suc n) m = ap (next_known game q fs) (steps_to game q fs n m) ∙ ap (known_to game q fs) (sym (suc-add n m))

-- what n steps show is shown by as many steps as places are there
pub at_places : (game : Game) (q : ℕ) (fs : List TurnFrame) (n : ℕ) → known_to game q fs (places_in (known_to game q fs n)) ≡ known_to game q fs n
unfolding known_to
at_places game q fs zero = refl
at_places game q fs (suc n) = go (next_place_or game q fs (known_to game q fs n)) (places_or_stuck game q fs n) (at_places game q fs n)
  where
    go : (places_in (next_known game q fs (known_to game q fs n)) ≡ places_in (known_to game q fs n) + 1) ⊎ (next_known game q fs (known_to game q fs n) ≡ known_to game q fs n) →
        (places_in (known_to game q fs n) ≡ n) ⊎ (next_known game q fs (known_to game q fs n) ≡ known_to game q fs n) →
        known_to game q fs (places_in (known_to game q fs n)) ≡ known_to game q fs n →
        known_to game q fs (places_in (next_known game q fs (known_to game q fs n))) ≡ next_known game q fs (known_to game q fs n)
    go (inr same) b ih = ap (λ (k : Known). known_to game q fs (places_in k)) same ∙ ih ∙ sym same
    go (inl more) (inr same) ih = let none = ap places_in same in absurd (omega arith)
    go (inl more) (inl all) ih = let whole : places_in (next_known game q fs (known_to game q fs n)) ≡ suc n = omega arith in ap (known_to game q fs) whole

-- what was known before is shown by the longer list too, at as many places
pub before_known : (game : Game) (q : ℕ) (fs gs : List TurnFrame) →
    known_to game q (fs ++ gs) (places_in (known_to game q fs (2 * game.turns))) ≡ known_to game q fs (2 * game.turns)
before_known game q fs gs =
    let there = at_places game q fs (2 * game.turns) in
    sym (known_to_more game q fs gs (places_in (known_to game q fs (2 * game.turns))) (ap places_in there)) ∙ there

-- a stream that is stuck after any number of places is whole
pub stuck_whole : (game : Game) (q : ℕ) (fs : List TurnFrame) (m : ℕ) → next_known game q fs (known_to game q fs m) ≡ known_to game q fs m → known_to game q fs (2 * game.turns) ≡ known_to game q fs m
stuck_whole game q fs m stuck = go (cases_lt m (2 * game.turns))
  where
    go : (m < 2 * game.turns) ⊎ (2 * game.turns ≤ m) → known_to game q fs (2 * game.turns) ≡ known_to game q fs m
    go (inl lt) =
        let e : 2 * game.turns ≡ 2 * game.turns - m + m = omega arith in
        ap (known_to game q fs) e ∙ known_to_stuck game q fs m (2 * game.turns - m) stuck
    go (inr ge) =
        let e : m - 2 * game.turns + 2 * game.turns ≡ m = omega arith in
        sym (known_to_stuck game q fs (2 * game.turns) (m - 2 * game.turns) (known_to_whole game q fs)) ∙ ap (known_to game q fs) e

-- with more frames, all that is known is reached from what was known before, by steps until none leads on
pub known_to_grown : (game : Game) (q : ℕ) (fs gs : List TurnFrame) (n : ℕ) →
    next_known game q (fs ++ gs) (known_steps game q (fs ++ gs) n (known_to game q fs (2 * game.turns))) ≡ known_steps game q (fs ++ gs) n (known_to game q fs (2 * game.turns)) →
    known_to game q (fs ++ gs) (2 * game.turns) ≡ known_steps game q (fs ++ gs) n (known_to game q fs (2 * game.turns))
known_to_grown game q fs gs n stuck =
    let c = places_in (known_to game q fs (2 * game.turns)) in
    let steps : known_steps game q (fs ++ gs) n (known_to game q fs (2 * game.turns)) ≡ known_to game q (fs ++ gs) (n + c) =
    ap (known_steps game q (fs ++ gs) n) (sym (before_known game q fs gs)) ∙ steps_to game q (fs ++ gs) n c in
    stuck_whole game q (fs ++ gs) (n + c) (ap (next_known game q (fs ++ gs)) (sym steps) ∙ stuck ∙ steps) ∙ sym steps

-- where no place more is there, nothing more is known
pub known_to_unmoved : (game : Game) (q : ℕ) (fs gs : List TurnFrame) →
    next_known game q (fs ++ gs) (known_to game q fs (2 * game.turns)) ≡ known_to game q fs (2 * game.turns) → known_to game q (fs ++ gs) (2 * game.turns) ≡ known_to game q fs (2 * game.turns)
unfolding known_steps
known_to_unmoved game q fs gs stuck = known_to_grown game q fs gs 0 stuck

same_frames : (game : Game) (me p : ℕ) (h : List Entry) (e : Entry) → frames_of me p (e ∷ []) ≡ [] → frames_of me p (h ++ e ∷ []) ≡ frames_of me p h
same_frames game me p h e none = frames_of_append me p h (e ∷ []) ∙ ap (λ (fs : List TurnFrame). frames_of me p h ++ fs) none ∙ append_nil (frames_of me p h)

same_known : (game : Game) (me p : ℕ) (h : List Entry) (e : Entry) → frames_of me p (e ∷ []) ≡ [] → known game me (h ++ e ∷ []) p ≡ known game me h p
unfolding known
same_known game me p h e none = ap (λ (fs : List TurnFrame). known_to game p fs (2 * game.turns)) (same_frames game me p h e none)

-- a choice changes nothing that is known
pub known_chose : (game : Game) (me p t : ℕ) (h : List Entry) (m : Move) (n : Nonce) → known game me (h ++ Chose t m n ∷ []) p ≡ known game me h p
unfolding made got_of
known_chose game me p t h m n = same_known game me p h (Chose t m n) (none (p == me))
  where
    none : (b : Bool) → (if b then made (Chose t m n ∷ []) else got_of p (Chose t m n ∷ [])) ≡ []
    none true = refl
    none false = refl

-- a made frame changes nothing that is known of another player
pub known_made : (game : Game) (me p : ℕ) (h : List Entry) (f : TurnFrame) → (p ≡ me → ⊥) → known game me (h ++ Made f ∷ []) p ≡ known game me h p
unfolding made got_of
known_made game me p h f other = same_known game me p h (Made f) (cond-false (p == me) (made (Made f ∷ [])) (got_of p (Made f ∷ [])) (ne_eqb p me other))

-- a frame that was got changes nothing that is known of any but its player
pub known_got_other : (game : Game) (me p q : ℕ) (h : List Entry) (f : TurnFrame) → (q ≡ p → ⊥) → known game me (h ++ Got q f ∷ []) p ≡ known game me h p
unfolding made got_of
known_got_other game me p q h f apart = same_known game me p h (Got q f) (none (p == me))
  where
    none : (b : Bool) → (if b then made (Got q f ∷ []) else got_of p (Got q f ∷ [])) ≡ []
    none true = refl
    none false = ap (λ (fs : List TurnFrame). fs ++ []) (cond-false (q == p) (f ∷ []) [] (ne_eqb q p apart))
