-- Alone: a finding of a log alone, by the sightings of its turn and by what is known before the turn.
use Rattle.std.proofs.Common.{◌≡◌, ℕ, zero, suc, ◌*◌, List, [], ◌∷◌, refl, Bool, true, false, sym, ◌∙◌, ap, arith, Option, None}
use Rattle.std.specs.Prelude.{◌==◌, ◌&&◌, ◌||◌, option_map}
use Rattle.std.proofs.lemmas.Bool.{ne_eqb}
use Rattle.definitions.specs.declared.frames.TurnFrame.{TurnFrame}
use Rattle.definitions.specs.declared.logs.Entry.{Entry}
use Rattle.definitions.specs.declared.findings.Kind.{Kind}
use Rattle.definitions.specs.declared.findings.Kind.TheVariants.{TwoCommits, BadOpening, Collision, Illegal}
use Rattle.definitions.specs.Lists.{item_or}
use Rattle.definitions.specs.World.{Game}
use Rattle.definitions.specs.Logs.{got_of}
use Rattle.definitions.specs.Held.{Known, known_to}
use Rattle.definitions.specs.Findings.{Sighting, are_bad_opening, are_collision, are_illegal, are_two_commits, finding_at, finding_of, first_pair, got_known, is_first_commit, is_illegal_at, show_kind, sightings, sightings_from}
use Rattle.definition_laws.proofs.Listing.{append_nil}
use Rattle.definitions.specs.declared.findings.Finding.{Finding}
use Rattle.definition_laws.proofs.Silent.{pair_alike}

-- the finding of the first pair that passes
abbrev pub pair_found : ℕ → ℕ → Kind → (Sighting → Sighting → Bool) → List Sighting → Option Finding
pair_found q t k test ss = option_map (finding_of q t k) (first_pair test ss)

-- the tests of a log alone, by the turn's sightings in it and what it knows of the player
abbrev pub illegal_in : Game → ℕ → ℕ → List Sighting → Known → Sighting → Sighting → Bool
illegal_in game q t ss k a b = (a.spot.log == b.spot.log) && ((a.spot.log == 0) && is_first_commit ss a) && is_illegal_at game q t k b.frame

abbrev pub show_in : Game → ℕ → ℕ → List Sighting → Known → Kind → Sighting → Sighting → Bool
show_in game q t ss k TwoCommits a b = are_two_commits game a.frame b.frame
show_in game q t ss k BadOpening a b = are_bad_opening game a.frame b.frame
show_in game q t ss k Collision a b = are_collision game a.frame b.frame
show_in game q t ss k Illegal a b = illegal_in game q t ss k a b || illegal_in game q t ss k b a

never_both : (x y z : Bool) → (x && false && y) ≡ (x && false && z)
never_both true y z = refl
never_both false y z = refl

illegal_alone : (game : Game) (q t : ℕ) (h : List Entry) (a b : Sighting) → are_illegal game q t (h ∷ []) a b ≡ illegal_in game q t (sightings_from q t 0 0 h) (got_known game q h) a b
unfolding are_illegal sightings_from
illegal_alone game q t h a b = at a.spot.log
  where
    at : (n : ℕ) →
        ((n == b.spot.log) && is_first_commit (sightings_from q t n 0 (item_or (h ∷ []) n [])) a && is_illegal_at game q t (got_known game q (item_or (h ∷ []) n [])) b.frame)
        ≡ ((n == b.spot.log) && ((n == 0) && is_first_commit (sightings_from q t 0 0 h) a) && is_illegal_at game q t (got_known game q h) b.frame)
    at zero = refl
    at (suc n) =
        never_both (suc n == b.spot.log) (is_illegal_at game q t (got_known game q []) b.frame) (is_illegal_at game q t (got_known game q h) b.frame)
        ∙ ap (λ (x : Bool). (suc n == b.spot.log) && (x && is_first_commit (sightings_from q t 0 0 h) a) && is_illegal_at game q t (got_known game q h) b.frame) (sym (ne_eqb (suc n) 0 (λ e. omega arith)))

kind_alone : (game : Game) (q t : ℕ) (h : List Entry) (k : Kind) (a b : Sighting) → show_kind game q t (h ∷ []) k a b ≡ show_in game q t (sightings_from q t 0 0 h) (got_known game q h) k a b
unfolding show_kind
kind_alone game q t h TwoCommits a b = refl
kind_alone game q t h BadOpening a b = refl
kind_alone game q t h Collision a b = refl
kind_alone game q t h Illegal a b = rw (illegal_alone game q t h a b, illegal_alone game q t h b a) refl

-- the finding of a log alone
pub finding_alone : (game : Game) (q t : ℕ) (h : List Entry) (k : Kind) →
    finding_at game (h ∷ []) q t k ≡ pair_found q t k (show_in game q t (sightings_from q t 0 0 h) (got_known game q h) k) (sightings_from q t 0 0 h)
unfolding finding_at sightings
finding_alone game q t h k =
    ap (λ (ss : List Sighting). pair_found q t k (show_kind game q t (h ∷ []) k) ss) (append_nil (sightings_from q t 0 0 h))
    ∙ ap (option_map (finding_of q t k)) (pair_alike (show_kind game q t (h ∷ []) k) _ (sightings_from q t 0 0 h) (kind_alone game q t h k))

-- logs that got the same of the player have the same findings of it
pub finding_same : (game : Game) (q t : ℕ) (g h : List Entry) (k : Kind) → got_of q g ≡ got_of q h → sightings_from q t 0 0 g ≡ sightings_from q t 0 0 h →
    finding_at game (g ∷ []) q t k ≡ finding_at game (h ∷ []) q t k
finding_same game q t g h k frames sights =
    finding_alone game q t g k
    ∙ ap (λ (ss : List Sighting). pair_found q t k (show_in game q t ss (got_known game q g) k) ss) sights
    ∙ ap (λ (fs : List TurnFrame). pair_found q t k (show_in game q t (sightings_from q t 0 0 h) (known_to game q fs (2 * game.turns)) k) (sightings_from q t 0 0 h)) frames
    ∙ sym (finding_alone game q t h k)

-- of a turn of which nothing was got there is no finding
pub finding_unseen : (game : Game) (q t : ℕ) (h : List Entry) (k : Kind) → sightings_from q t 0 0 h ≡ [] → finding_at game (h ∷ []) q t k ≡ None
unfolding first_pair
finding_unseen game q t h k none =
    finding_alone game q t h k ∙ ap (pair_found q t k (show_in game q t (sightings_from q t 0 0 h) (got_known game q h) k)) none
