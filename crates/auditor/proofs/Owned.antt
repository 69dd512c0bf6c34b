-- Owned: what a log shows of a player, whether it is the player's own or another one's.
use Rattle.std.proofs.Common.{Bool, List, None, Some, [], ap, false, nat_eq, refl, sym, true, ℕ, ◌*◌, ◌++◌, ◌∙◌, ◌∷◌, ◌≡◌, Option, map, slice_get}
use Rattle.std.specs.Prelude.{◌==◌, flat_map, if◌then◌else◌, nat_lt}
use Rattle.std.specs.Option.{option_eq}
use Rattle.std.proofs.lemmas.Bool.{and_parts, eq-eqb, eqb-true, false≢true}
use Rattle.definitions.specs.declared.frames.TurnFrame.{TurnFrame}
use Rattle.definitions.specs.declared.world.Move.{Move}
use Rattle.definitions.specs.declared.logs.Entry.{Entry}
use Rattle.definitions.specs.declared.logs.Entry.TheVariants.{Chose, Made, Got}
use Rattle.definitions.specs.World.{Game}
use Rattle.definitions.specs.Logs.{frames_of, got_in, got_of, made, player_of, turn_of}
use Rattle.definitions.specs.Held.{known, known_to}
use Rattle.definitions.specs.Entries.{AreWellFormed}
use Rattle.definitions.specs.Findings.{got_known}
use Rattle.auditor.specs.Agreed.{resolved_by}
use Rattle.auditor.specs.Audits.{crossed}

-- what the owner made is what the crossed log got of it
pub made_crossed : (game : Game) (q : ℕ) (h : List Entry) → AreWellFormed game q h → got_of q (map crossed h) ≡ made h
unfolding got_of made
made_crossed game q [] well = refl
made_crossed game q (Chose t m n ∷ h) well = made_crossed game q h well.1
made_crossed game q (Made f ∷ h) well =
    ap (λ (b : Bool). (if b then f ∷ [] else []) ++ flat_map (got_in q) (map crossed h)) (and_parts (nat_lt (turn_of f) game.turns) (player_of f == q) well.0).1
    ∙ ap (λ (fs : List TurnFrame). f ∷ fs) (made_crossed game q h well.1)
made_crossed game q (Got p f ∷ h) well = made_crossed game q h well.1

abbrev moves_by : Game → ℕ → ℕ → List TurnFrame → Option Move
moves_by game q t fs = slice_get (known_to game q fs (2 * game.turns)).moves t

-- the owner's own turns are resolved by the frames that it made
pub by_made : (game : Game) (owner : Option ℕ) (h : List Entry) (q t : ℕ) → owner ≡ Some q → AreWellFormed game q h → slice_get (got_known game q (map crossed h)).moves t ≡ resolved_by game owner h q t
unfolding known
by_made game None h q t is well = absurd (let none : None ≡ Some q = is in cc)
by_made game (Some me) h q t is well =
    let same : me ≡ q = cc in
    let own : (q == me) ≡ true = eq-eqb q me (sym same) in
    ap (moves_by game q t) (made_crossed game q h well ∙ ap (λ (b : Bool). if b then made h else got_of q h) (sym own))

-- another player's turns by the frames that it got
pub by_got : (game : Game) (owner : Option ℕ) (h : List Entry) (q t : ℕ) → (owner ≡ Some q → ⊥) → slice_get (got_known game q h).moves t ≡ resolved_by game owner h q t
unfolding known
by_got game None h q t isnt = refl
by_got game (Some me) h q t isnt = go (q == me) refl
  where
    go : (b : Bool) → (q == me) ≡ b → moves_by game q t (got_of q h) ≡ moves_by game q t (frames_of me q h)
    go true e = absurd (isnt (ap (λ (p : ℕ). Some p) (sym (eqb-true q me e))))
    go false e = ap (moves_by game q t) (ap (λ (b : Bool). if b then made h else got_of q h) (sym e))

pub owner_is : (o : Option ℕ) (q : ℕ) → option_eq nat_eq o (Some q) ≡ true → o ≡ Some q
owner_is None q e = absurd (false≢true e)
owner_is (Some p) q e = ap (λ (n : ℕ). Some n) (eqb-true p q e)

pub owner_isnt : (o : Option ℕ) (q : ℕ) → option_eq nat_eq o (Some q) ≡ false → o ≡ Some q → ⊥
owner_isnt None q e is = let none : None ≡ Some q = is in absurd (cc)
owner_isnt (Some p) q e is = let same : p ≡ q = cc in false≢true (sym e ∙ eq-eqb p q same)
