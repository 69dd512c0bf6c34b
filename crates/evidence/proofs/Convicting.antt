-- Convicting: two sightings that show a kind, whichever is named first, make a finding.
use Rattle.std.proofs.Common.{◌≡◌, ◌⊎◌, ℕ, ◌<◌, Bool, true, false, List, [], ◌∷◌, Some, None, refl, sym, ap, subst, ◌∙◌, arith, inl, inr, slice_get}
use Rattle.std.specs.Prelude.{◌&&◌, ◌==◌, nat_lt}
use Rattle.std.proofs.lemmas.Bool.{and_parts, cases_order, eqb-true, ltb-true, false≢true}
use Rattle.definitions.specs.declared.frames.TurnFrame.{TurnFrame}
use Rattle.definitions.specs.declared.logs.Entry.{Entry}
use Rattle.definitions.specs.declared.logs.Entry.TheVariants.{Got}
use Rattle.definitions.specs.declared.findings.Kind.{Kind}
use Rattle.definitions.specs.declared.findings.Kind.TheVariants.{TwoCommits, BadOpening, Collision, Illegal}
use Rattle.definitions.specs.declared.findings.Spot.{Spot}
use Rattle.definitions.specs.declared.openings.Digest.{Digest}
use Rattle.definitions.specs.Lists.{EachIs}
use Rattle.definitions.specs.World.{Game, players_of}
use Rattle.definitions.specs.Logs.{digest_eq, frame_eq, player_of, turn_of}
use Rattle.definitions.specs.Held.{digest_of}
use Rattle.definitions.specs.Findings.{Sighting, first_pair, show_kind, sightings}
use Rattle.definitions.specs.Exhibits.{are_of_kind, are_two_of, is_of_turn, Shows}
use Rattle.definition_laws.specs.Spots.{IsSighting, SpotBefore}
use Rattle.definition_laws.proofs.Alike.{digest_eq_same, digest_eq_true, frame_eq_same, frame_eq_true}
use Rattle.definition_laws.proofs.Least.{Has_findings, found_some, pair_none, seen_strict}
use Rattle.definition_laws.proofs.Listed.{finding_at_kind}
use Rattle.definition_laws.proofs.Members.{Has_slice_get}
use Rattle.definition_laws.proofs.Sighted.{SeenBefore, sighting_is_seen, sightings_sorted, spot_from}
use Rattle.plain_lemmas.proofs.Tests.{same_tests}
use Rattle.evidence.specs.Judging.{pair_shows}
use Rattle.evidence.specs.Laws.{Convicts, StandsIn}

-- ---- spots

-- of two spots one comes before the other
spots_apart : (s t : Spot) → (s ≡ t → ⊥) → SpotBefore s t ⊎ SpotBefore t s
spots_apart s t apart =
    elim (cases_order s.log t.log) [
      | inl log ↦
          elim (cases_order s.entry t.entry) [
            | inl entry ↦ absurd (apart (spot_from s t log entry))
            | inr other ↦ elim other [ inl less ↦ inl (inr (log, less)) | inr more ↦ inr (inr (sym log, more)) ]
          ]
      | inr other ↦ elim other [ inl less ↦ inl (inl less) | inr more ↦ inr (inl more) ]
    ]

-- ---- two sightings

-- a pair that shows the kind
pair_convicts : (game : Game) (logs : List (List Entry)) (q t : ℕ) (k : Kind) (a b : Sighting) → q < players_of game → t < game.turns → IsSighting logs q t a → IsSighting logs q t b →
    SpotBefore a.spot b.spot → show_kind game q t logs k a b ≡ true → Convicts game logs q t k
pair_convicts game logs q t k a b ql tl sa sb before shown =
    let test : Sighting → Sighting → Bool = show_kind game q t logs k in
    let none : first_pair test (sightings q t 0 logs) ≡ None → ⊥ = λ e.
    false≢true (sym (pair_none SeenBefore test (sightings q t 0 logs) a b seen_strict (sightings_sorted q t 0 logs) e (sighting_is_seen q t logs a sa) (sighting_is_seen q t logs b sb) before) ∙ shown) in
    let there = found_some game logs q t k none in
    let of = finding_at_kind game logs q t k there.0 there.1 in
    (there.0, Has_findings game logs q t k there.0 ql tl there.1, of.0, of.1, of.2)

pub sightings_convict : (game : Game) (logs : List (List Entry)) (q t : ℕ) (k : Kind) (a b : Sighting) → q < players_of game → t < game.turns → IsSighting logs q t a → IsSighting logs q t b →
    (a.spot ≡ b.spot → ⊥) → show_kind game q t logs k a b ≡ true → show_kind game q t logs k b a ≡ true → Convicts game logs q t k
sightings_convict game logs q t k a b ql tl sa sb apart shown turned =
    elim (spots_apart a.spot b.spot apart) [
      | inl before ↦ pair_convicts game logs q t k a b ql tl sa sb before shown
      | inr behind ↦ pair_convicts game logs q t k b a ql tl sb sa behind turned
    ]

-- ---- two frames

-- whichever is named first
pub digest_turned : (d e : Digest) → digest_eq d e ≡ digest_eq e d
digest_turned d e =
    same_tests (digest_eq d e) (digest_eq e d) (λ h. ap (digest_eq e) (digest_eq_true d e h) ∙ digest_eq_same e) (λ h. ap (digest_eq d) (digest_eq_true e d h) ∙ digest_eq_same d)

frame_turned : (f g : TurnFrame) → frame_eq f g ≡ frame_eq g f
frame_turned f g = same_tests (frame_eq f g) (frame_eq g f) (λ h. ap (frame_eq g) (frame_eq_true f g h) ∙ frame_eq_same g) (λ h. ap (frame_eq f) (frame_eq_true g f h) ∙ frame_eq_same f)

pub pair_turned : (game : Game) (k : Kind) (f g : TurnFrame) → pair_shows game k f g ≡ true → pair_shows game k g f ≡ true
pair_turned game TwoCommits f g h = let d = digest_turned (digest_of game f) (digest_of game g) in grind arith
pair_turned game BadOpening f g h = let d = digest_turned (digest_of game f) (digest_of game g) in grind arith
pair_turned game Collision f g h = let d = digest_turned (digest_of game f) (digest_of game g) in let e = frame_turned f g in grind arith
pair_turned game Illegal f g h = absurd (false≢true h)

-- a frame shows nothing beside itself
pair_alone : (game : Game) (k : Kind) (f : TurnFrame) → pair_shows game k f f ≡ false
pair_alone game TwoCommits f = let d = digest_eq_same (digest_of game f) in grind arith
pair_alone game BadOpening f = let d = digest_eq_same (digest_of game f) in grind arith
pair_alone game Collision f = let e = frame_eq_same f in grind arith
pair_alone game Illegal f = refl

pub pair_apart : (game : Game) (k : Kind) (f g : TurnFrame) → pair_shows game k f g ≡ true → f ≡ g → ⊥
pair_apart game k f g h e = false≢true (sym (pair_alone game k g) ∙ ap (λ (x : TurnFrame). pair_shows game k x g) (sym e) ∙ h)

-- two sightings show what their frames do
pub kind_of_pair : (game : Game) (logs : List (List Entry)) (q t : ℕ) (k : Kind) (a b : Sighting) → (k ≡ Illegal → ⊥) → show_kind game q t logs k a b ≡ pair_shows game k a.frame b.frame
unfolding show_kind
kind_of_pair game logs q t TwoCommits a b other = refl
kind_of_pair game logs q t BadOpening a b other = refl
kind_of_pair game logs q t Collision a b other = refl
kind_of_pair game logs q t Illegal a b other = absurd (other refl)

-- the frame of an entry that got it is sighted
pub stands_sighted : (logs : List (List Entry)) (q : ℕ) (f : TurnFrame) → StandsIn logs q f → (s : Spot) × IsSighting logs q (turn_of f) (record { spot = s; frame = f })
stands_sighted logs q f stands =
    let log = Has_slice_get logs stands.0 stands.1 in
    let entry = Has_slice_get stands.0 (Got q f) stands.2 in
    (record { log = log.0; entry = entry.0 }, record { log = stands.0; there = log.1; got = entry.1; turn = refl })

-- a sighting has one frame
sighting_frame : (logs : List (List Entry)) (q t : ℕ) (s : Spot) (f g : TurnFrame) → IsSighting logs q t (record { spot = s; frame = f }) → IsSighting logs q t (record { spot = s; frame = g }) → f ≡ g
sighting_frame logs q t s f g a b =
    let logs_same : Some a.log ≡ Some b.log = sym a.there ∙ b.there in
    let log : a.log ≡ b.log = cc in
    let entry : Some (Got q f) ≡ Some (Got q g) = sym a.got ∙ ap (λ (h : List Entry). slice_get h s.entry) log ∙ b.got in
    cc

-- two frames of the turn that show the kind convict
pub frames_convict : (game : Game) (logs : List (List Entry)) (q t : ℕ) (k : Kind) (f g : TurnFrame) → q < players_of game → t < game.turns → (k ≡ Illegal → ⊥) → turn_of f ≡ t → turn_of g ≡ t →
    StandsIn logs q f → StandsIn logs q g → pair_shows game k f g ≡ true → Convicts game logs q t k
frames_convict game logs q t k f g ql tl other tf tg sf sg shown =
    let a = stands_sighted logs q f sf in
    let b = stands_sighted logs q g sg in
    let at : Sighting = record { spot = a.0; frame = f } in
    let by : Sighting = record { spot = b.0; frame = g } in
    let one : IsSighting logs q t at = subst (λ (u : ℕ). IsSighting logs q u at) tf a.1 in
    let two : IsSighting logs q t by = subst (λ (u : ℕ). IsSighting logs q u by) tg b.1 in
    let apart : a.0 ≡ b.0 → ⊥ = λ e. pair_apart game k f g shown (sighting_frame logs q t b.0 f g (subst (λ (s : Spot). IsSighting logs q t (record { spot = s; frame = f })) e one) two) in
    sightings_convict game logs q t k at by ql tl one two apart (kind_of_pair game logs q t k at by other ∙ shown) (kind_of_pair game logs q t k by at other ∙ pair_turned game k f g shown)

-- ---- the exhibit of a pair

pub two_shown : (game : Game) (q t : ℕ) (k : Kind) (fs : List TurnFrame) → (k ≡ Illegal → ⊥) → are_of_kind game q t k fs ≡ are_two_of q t (pair_shows game k) fs
unfolding are_of_kind
two_shown game q t TwoCommits fs other = refl
two_shown game q t BadOpening fs other = refl
two_shown game q t Collision fs other = refl
two_shown game q t Illegal fs other = absurd (other refl)

two_convict : (game : Game) (logs : List (List Entry)) (q t : ℕ) (k : Kind) (fs : List TurnFrame) → q < players_of game → t < game.turns → (k ≡ Illegal → ⊥) →
    are_two_of q t (pair_shows game k) fs ≡ true → EachIs (StandsIn logs q) fs → Convicts game logs q t k
two_convict game logs q t k [] ql tl other h stand = absurd (false≢true h)
two_convict game logs q t k (f ∷ []) ql tl other h stand = absurd (false≢true h)
two_convict game logs q t k (f ∷ g ∷ []) ql tl other h stand =
    let a = and_parts (is_of_turn q t f && is_of_turn q t g) (pair_shows game k f g) h in
    let b = and_parts (is_of_turn q t f) (is_of_turn q t g) a.0 in
    let one = and_parts (player_of f == q) (turn_of f == t) b.0 in
    let two = and_parts (player_of g == q) (turn_of g == t) b.1 in
    frames_convict game logs q t k f g ql tl other (eqb-true (turn_of f) t one.1) (eqb-true (turn_of g) t two.1) stand.0 stand.1.0 a.1
two_convict game logs q t k (f ∷ g ∷ e ∷ es) ql tl other h stand = absurd (false≢true h)

pub shown_convict : (game : Game) (logs : List (List Entry)) (q t : ℕ) (k : Kind) (fs : List TurnFrame) → (k ≡ Illegal → ⊥) → Shows game q t k fs → EachIs (StandsIn logs q) fs → Convicts game logs q t k
shown_convict game logs q t k fs other shown stand =
    let a = and_parts (nat_lt q (players_of game) && nat_lt t game.turns) (are_of_kind game q t k fs) shown in
    let b = and_parts (nat_lt q (players_of game)) (nat_lt t game.turns) a.0 in
    two_convict game logs q t k fs (ltb-true _ _ b.0) (ltb-true _ _ b.1) other (sym (two_shown game q t k fs other) ∙ a.1) stand
