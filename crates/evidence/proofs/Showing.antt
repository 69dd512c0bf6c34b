-- Showing: what is found in logs is shown by frames of these.
use Rattle.std.proofs.Common.{◌≡◌, ℕ, zero, suc, ◌<◌, true, List, [], ◌∷◌, Some, sym, ap, ◌∙◌, slice_get}
use Rattle.std.proofs.lemmas.Bool.{and_from, eq-eqb, lt-ltb}
use Rattle.definitions.specs.declared.frames.TurnFrame.{TurnFrame}
use Rattle.definitions.specs.declared.logs.Entry.{Entry}
use Rattle.definitions.specs.declared.logs.Entry.TheVariants.{Got}
use Rattle.definitions.specs.declared.findings.Kind.{Kind}
use Rattle.definitions.specs.declared.findings.Kind.TheVariants.{Illegal}
use Rattle.definitions.specs.declared.findings.Spot.{Spot}
use Rattle.definitions.specs.declared.findings.Finding.{Finding}
use Rattle.definitions.specs.Lists.{EachIs, item_or}
use Rattle.definitions.specs.World.{Game, players_of}
use Rattle.definitions.specs.Findings.{Sighting, findings}
use Rattle.definitions.specs.Exhibits.{are_of_kind, are_two_of, is_of_turn, Shows}
use Rattle.definition_laws.specs.Members.{Has}
use Rattle.definition_laws.specs.Spots.{IsSighting}
use Rattle.definition_laws.proofs.Least.{finding_is_least, findings_Has}
use Rattle.definition_laws.proofs.Members.{Has_each, slice_get_Has}
use Rattle.definition_laws.proofs.WellFormed.{well_got}
use Rattle.evidence.specs.Judging.{pair_shows}
use Rattle.evidence.specs.Laws.{IsLogOf}
use Rattle.evidence.specs.Showing.{frame_got, frame_at, pair_at}
use Rattle.evidence.proofs.Convicting.{kind_of_pair, two_shown}

-- an item at its place
pub item_there : {X : Type 0} (xs : List X) (n : ℕ) (x d : X) → slice_get xs n ≡ Some x → item_or xs n d ≡ x
item_there [] n x d h = absurd cc
item_there (y ∷ ys) zero x d h = cc
item_there (y ∷ ys) (suc n) x d h = item_there ys n x d h

-- the frame at a sighting's spot
pub frame_sighted : (logs : List (List Entry)) (q t : ℕ) (s : Sighting) (spot : Spot) → spot ≡ s.spot → IsSighting logs q t s → frame_at logs spot ≡ s.frame ∷ []
frame_sighted logs q t s spot at w =
    let log = item_there logs s.spot.log w.log [] w.there in
    ap (frame_at logs) at ∙ ap (λ (h : List Entry). frame_got (slice_get h s.spot.entry)) log ∙ ap frame_got w.got

-- a frame that is sighted in logs of the session is its player's own
pub sighted_own : (game : Game) (logs : List (List Entry)) (q t : ℕ) (s : Sighting) → EachIs (IsLogOf game) logs → IsSighting logs q t s → is_of_turn q t s.frame ≡ true
sighted_own game logs q t s all w =
    let log = Has_each (IsLogOf game) logs w.log all (slice_get_Has logs s.spot.log w.log w.there) in
    let own = well_got game log.0 q w.log s.frame log.1 (slice_get_Has w.log s.spot.entry (Got q s.frame) w.got) in
    and_from _ _ (eq-eqb _ _ own.2) (eq-eqb _ _ w.turn)

pub shows_from : (game : Game) (q t : ℕ) (k : Kind) (fs : List TurnFrame) → q < players_of game → t < game.turns → are_of_kind game q t k fs ≡ true → Shows game q t k fs
shows_from game q t k fs ql tl h = and_from _ _ (and_from _ _ (lt-ltb _ _ ql) (lt-ltb _ _ tl)) h

pub pairs_shown : (game : Game) (logs : List (List Entry)) (f : Finding) → EachIs (IsLogOf game) logs → Has (findings game logs) f → (f.kind ≡ Illegal → ⊥) → Shows game f.player f.turn f.kind (pair_at logs f)
pairs_shown game logs f all m other =
    let there = findings_Has game logs f m in
    let w = finding_is_least game logs f.player f.turn f.kind f there.2 in
    let first = frame_sighted logs f.player f.turn w.lower f.first w.first_is w.lower_seen in
    let second = frame_sighted logs f.player f.turn w.higher f.second w.second_is w.higher_seen in
    let shown : pair_shows game f.kind w.lower.frame w.higher.frame ≡ true = sym (kind_of_pair game logs f.player f.turn f.kind w.lower w.higher other) ∙ w.shown in
    let two : are_two_of f.player f.turn (pair_shows game f.kind) (w.lower.frame ∷ w.higher.frame ∷ []) ≡ true =
    and_from _ _ (and_from _ _ (sighted_own game logs f.player f.turn w.lower all w.lower_seen) (sighted_own game logs f.player f.turn w.higher all w.higher_seen)) shown in
    shows_from game f.player f.turn f.kind (pair_at logs f) there.0 there.1 (two_shown game f.player f.turn f.kind (pair_at logs f) other ∙ rw (first, second) two)
