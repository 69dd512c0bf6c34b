-- Illegal: an illegal move that is found in a log is shown by the frames of its turns.
use Rattle.std.proofs.Common.{◌≡◌, ◌⊎◌, ℕ, suc, ◌+◌, ◌*◌, Bool, true, false, List, [], ◌∷◌, ◌++◌, length, Option, Some, None, refl, sym, ap, subst, ◌∙◌, arith, inl, inr, slice_get, take}
use Rattle.std.specs.Prelude.{flat_map, nat_le, ◌&&◌, ◌||◌, ◌==◌, if◌then◌else◌}
use Rattle.std.proofs.lemmas.Bool.{and_parts, or_cases, eqb-true, leb-true, false≢true}
use Rattle.definitions.specs.declared.world.Move.{Move}
use Rattle.definitions.specs.declared.openings.Digest.{Digest}
use Rattle.definitions.specs.declared.frames.TurnFrame.{TurnFrame}
use Rattle.definitions.specs.declared.frames.TurnFrame.TheVariants.{Commit, Reveal}
use Rattle.definitions.specs.declared.logs.Entry.{Entry}
use Rattle.definitions.specs.declared.logs.Entry.TheVariants.{Chose, Got, Made}
use Rattle.definitions.specs.declared.findings.Kind.{Kind}
use Rattle.definitions.specs.declared.findings.Kind.TheVariants.{TwoCommits, BadOpening, Collision, Illegal}
use Rattle.definitions.specs.declared.findings.Spot.{Spot}
use Rattle.definitions.specs.declared.findings.Finding.{Finding}
use Rattle.definitions.specs.Lists.{EachIs, item_or}
use Rattle.definitions.specs.World.{Game}
use Rattle.definitions.specs.Logs.{digest_eq, got_in, got_of}
use Rattle.definitions.specs.Held.{Known, digest_of, first_commit}
use Rattle.definitions.specs.Findings.{Sighting, are_illegal, findings, got_known, is_commit, is_first_commit, is_illegal_after, is_illegal_at, opens, show_kind, sightings_from}
use Rattle.definitions.specs.Exhibits.{are_of_kind, end_illegal, is_opened_by, Shows}
use Rattle.definition_laws.specs.Members.{Has}
use Rattle.definition_laws.specs.Spots.{IsSighting}
use Rattle.definition_laws.proofs.Headline.{known_to_sound}
use Rattle.definition_laws.proofs.Least.{finding_is_least, findings_Has}
use Rattle.definition_laws.proofs.Members.{Has_each, slice_get_Has}
use Rattle.evidence.specs.Laws.{IsLogOf}
use Rattle.evidence.specs.Showing.{commit_first, frames_by, frames_of_finding, pair_at, turns_shown}
use Rattle.evidence.proofs.Convicting.{digest_turned}
use Rattle.evidence.proofs.Showing.{frame_sighted, item_there, pairs_shown, shows_from, sighted_own}
use Rattle.evidence.proofs.Resolved.{EndsIllegal, turns_show}

-- the first commitment to a turn that a log got, and where it stands
record IsFirstSeen (q t i entry : ℕ) (h : List Entry) : Type 0 where
  player : ℕ
  digest : Digest
  place : ℕ
  entry_is : entry ≡ i + place
  first : first_commit (got_of q h) t ≡ Some digest
  there : slice_get h place ≡ Some (Got q (Commit player t digest))

seen_later : (q t i entry : ℕ) (e : Entry) (h : List Entry) → first_commit (got_of q (e ∷ h)) t ≡ first_commit (got_of q h) t → IsFirstSeen q t (i + 1) entry h → IsFirstSeen q t i entry (e ∷ h)
seen_later q t i entry e h same w =
    let at = w.entry_is in
    record { player = w.player; digest = w.digest; place = suc w.place; entry_is = omega arith; first = same ∙ w.first; there = w.there }

first_seen : (q t log i : ℕ) (h : List Entry) (a : Sighting) → is_first_commit (sightings_from q t log i h) a ≡ true → IsFirstSeen q t i a.spot.entry h
unfolding sightings_from got_of
first_seen q t log i [] a f = absurd (false≢true f)
first_seen q t log i (Chose u m n ∷ h) a f = seen_later q t i a.spot.entry (Chose u m n) h refl (first_seen q t log (i + 1) h a f)
first_seen q t log i (Made g ∷ h) a f = seen_later q t i a.spot.entry (Made g) h refl (first_seen q t log (i + 1) h a f)
first_seen q t log i (Got p (Reveal r u m n) ∷ h) a f = seen_later q t i a.spot.entry (Got p (Reveal r u m n)) h (passed (p == q)) (go (p == q) (u == t) f (first_seen q t log (i + 1) h a))
  where
    passed : (b : Bool) → first_commit ((if b then Reveal r u m n ∷ [] else []) ++ flat_map (got_in q) h) t ≡ first_commit (flat_map (got_in q) h) t
    passed true = refl
    passed false = refl

    here : Sighting
    here = record { spot = record { log = log; entry = i }; frame = Reveal r u m n }

    go : (b c : Bool) → is_first_commit ((if b && c then here ∷ [] else []) ++ sightings_from q t log (i + 1) h) a ≡ true →
        (is_first_commit (sightings_from q t log (i + 1) h) a ≡ true → IsFirstSeen q t (i + 1) a.spot.entry h) → IsFirstSeen q t (i + 1) a.spot.entry h
    go true true f ih = ih f
    go true false f ih = ih f
    go false c f ih = ih f
first_seen q t log i (Got p (Commit r u d) ∷ h) a f = go (p == q) refl (u == t) refl f (first_seen q t log (i + 1) h a)
  where
    here : Sighting
    here = record { spot = record { log = log; entry = i }; frame = Commit r u d }

    got : Entry
    got = Got p (Commit r u d)

    go : (b : Bool) → (p == q) ≡ b → (c : Bool) → (u == t) ≡ c → is_first_commit ((if b && c then here ∷ [] else []) ++ sightings_from q t log (i + 1) h) a ≡ true →
        (is_first_commit (sightings_from q t log (i + 1) h) a ≡ true → IsFirstSeen q t (i + 1) a.spot.entry h) → IsFirstSeen q t i a.spot.entry (got ∷ h)
    go false e c k f ih = seen_later q t i a.spot.entry got h (rw e refl) (ih f)
    go true e false k f ih = seen_later q t i a.spot.entry got h (rw (e, k) refl) (ih f)
    go true e true k f ih =
        let entry : i ≡ a.spot.entry = eqb-true i a.spot.entry f in
        let player : p ≡ q = eqb-true p q e in
        let turn : u ≡ t = eqb-true u t k in
        record {
          player = r;
          digest = d;
          place = 0;
          entry_is = omega arith;
          first = rw (e, k) refl;
          there = ap (λ (n : ℕ). Some (Got n (Commit r u d))) player ∙ ap (λ (n : ℕ). Some (Got q (Commit r n d))) turn;
        }

-- ---- the pair of an illegal move

-- the commitment and the reveal that are sighted, in a log of the session
pub record IsIllegalPair (game : Game) (q t : ℕ) (h : List Entry) (c r : TurnFrame) : Type 0 where
  pub ends : EndsIllegal game q t h c r
  pub commits : is_commit c ≡ true
  pub reveals : is_commit r ≡ false

-- what opens a digest that is there
opens_some : (game : Game) (f : TurnFrame) (o : Option Digest) → opens game f o ≡ true → (d : Digest) × (o ≡ Some d) × (digest_eq (digest_of game f) d ≡ true)
opens_some game f None h = absurd (false≢true h)
opens_some game f (Some d) h = (d, refl, h)

-- an illegal move is shown by a reveal
pub illegal_reveals : (game : Game) (q : ℕ) (before : List Move) (f : TurnFrame) → is_illegal_after game q before f ≡ true → is_commit f ≡ false
illegal_reveals game q before (Commit p t d) h = absurd (false≢true h)
illegal_reveals game q before (Reveal p t m n) h = refl

opened_of : (game : Game) (p t : ℕ) (d : Digest) (f : TurnFrame) → is_commit f ≡ false → digest_eq (digest_of game f) d ≡ true → is_opened_by game (Commit p t d) f ≡ true
opened_of game p t d (Commit q u e) reveals same = absurd (false≢true (sym reveals))
opened_of game p t d (Reveal q u m n) reveals same = digest_turned d (digest_of game (Reveal q u m n)) ∙ same

pub illegal_pair : (game : Game) (logs : List (List Entry)) (q t : ℕ) (a b : Sighting) → EachIs (IsLogOf game) logs → IsSighting logs q t a → IsSighting logs q t b → are_illegal game q t logs a b ≡ true →
    (a.spot.log ≡ b.spot.log) × IsIllegalPair game q t (item_or logs a.spot.log []) a.frame b.frame
unfolding are_illegal
illegal_pair game logs q t a b all sa sb shown =
    let h : List Entry = item_or logs a.spot.log [] in
    let k : Known = got_known game q h in
    let x = and_parts ((a.spot.log == b.spot.log) && is_first_commit (sightings_from q t a.spot.log 0 h) a) (is_illegal_at game q t k b.frame) shown in
    let y = and_parts (a.spot.log == b.spot.log) (is_first_commit (sightings_from q t a.spot.log 0 h) a) x.0 in
    let z = and_parts (nat_le t (length k.moves) && opens game b.frame (slice_get k.digests t)) (is_illegal_after game q (take t k.moves) b.frame) x.1 in
    let w = and_parts (nat_le t (length k.moves)) (opens game b.frame (slice_get k.digests t)) z.0 in
    let first = first_seen q t a.spot.log 0 h a y.1 in
    let held = opens_some game b.frame (slice_get k.digests t) w.1 in
    let sound = (known_to_sound game q (got_of q h) (2 * game.turns)).first t held.0 held.1 in
    let digests : Some first.digest ≡ Some held.0 = sym first.first ∙ sound in
    let digest : first.digest ≡ held.0 = cc in
    let place : a.spot.entry ≡ first.place = let e = first.entry_is in omega arith in
    let log : h ≡ sa.log = item_there logs a.spot.log sa.log [] sa.there in
    let entries : Some (Got q a.frame) ≡ Some (Got q (Commit first.player t first.digest)) =
    sym sa.got ∙ ap (λ (g : List Entry). slice_get g a.spot.entry) (sym log) ∙ ap (slice_get h) place ∙ first.there in
    let frame : a.frame ≡ Commit first.player t first.digest = cc in
    let reveals = illegal_reveals game q (take t k.moves) b.frame z.1 in (
      eqb-true a.spot.log b.spot.log y.0,
      record {
        ends = record {
          commit_of_turn = sighted_own game logs q t a all sa;
          reveal_of_turn = sighted_own game logs q t b all sb;
          opened = ap (λ (f : TurnFrame). is_opened_by game f b.frame) frame ∙ opened_of game first.player t first.digest b.frame reveals (ap (digest_eq (digest_of game b.frame)) digest ∙ held.2);
          illegal = z.1;
          before = leb-true t (length k.moves) w.0;
        };
        commits = ap is_commit frame;
        reveals = reveals;
      },
    )

-- ---- the finding

-- the frames of its two spots, the commitment first
pair_in_order : (game : Game) (logs : List (List Entry)) (f : Finding) (lower higher : Sighting) → f.first ≡ lower.spot → f.second ≡ higher.spot →
    IsSighting logs f.player f.turn lower → IsSighting logs f.player f.turn higher → pair_at logs f ≡ lower.frame ∷ higher.frame ∷ []
pair_in_order game logs f lower higher first second sl sh =
    let a = frame_sighted logs f.player f.turn lower f.first first sl in
    let b = frame_sighted logs f.player f.turn higher f.second second sh in
    rw (a, b) refl

log_of : (game : Game) (logs : List (List Entry)) (q t : ℕ) (s : Sighting) → EachIs (IsLogOf game) logs → IsSighting logs q t s → IsLogOf game (item_or logs s.spot.log [])
log_of game logs q t s all w =
    subst (IsLogOf game) (sym (item_there logs s.spot.log w.log [] w.there)) (Has_each (IsLogOf game) logs w.log all (slice_get_Has logs s.spot.log w.log w.there))

-- the frames of the turns up to the finding's, in the log of the sighting
turns_and_pair : (game : Game) (logs : List (List Entry)) (q t log : ℕ) (c r : TurnFrame) (pair : List TurnFrame) → IsLogOf game (item_or logs log []) → IsIllegalPair game q t (item_or logs log []) c r →
    commit_first pair ≡ c ∷ r ∷ [] → end_illegal game q t (turns_shown game q t (item_or logs log []) ++ commit_first pair) [] ≡ true
turns_and_pair game logs q t log c r pair of w is =
    ap (λ (fs : List TurnFrame). end_illegal game q t (turns_shown game q t (item_or logs log []) ++ fs) []) is ∙ turns_show game q t (item_or logs log []) c r of w.ends

pub illegal_shown : (game : Game) (logs : List (List Entry)) (f : Finding) (lower higher : Sighting) → EachIs (IsLogOf game) logs → f.first ≡ lower.spot → f.second ≡ higher.spot →
    IsSighting logs f.player f.turn lower → IsSighting logs f.player f.turn higher → (are_illegal game f.player f.turn logs lower higher || are_illegal game f.player f.turn logs higher lower) ≡ true →
    end_illegal game f.player f.turn (frames_by game logs f Illegal) [] ≡ true
illegal_shown game logs f lower higher all first second sl sh shown =
    let pair = pair_in_order game logs f lower higher first second sl sh in
    let log : f.first.log ≡ lower.spot.log = ap (λ (s : Spot). s.log) first in
    let Ends : ℕ → Type 0 = λ n. end_illegal game f.player f.turn (turns_shown game f.player f.turn (item_or logs n []) ++ commit_first (pair_at logs f)) [] ≡ true in
    elim (or_cases (are_illegal game f.player f.turn logs lower higher) (are_illegal game f.player f.turn logs higher lower) shown) [
      | inl a ↦
          let w = illegal_pair game logs f.player f.turn lower higher all sl sh a in
          let is : commit_first (pair_at logs f) ≡ lower.frame ∷ higher.frame ∷ [] = rw pair (rw w.1.commits refl) in
          subst Ends (sym log) (turns_and_pair game logs f.player f.turn lower.spot.log lower.frame higher.frame (pair_at logs f) (log_of game logs f.player f.turn lower all sl) w.1 is)
      | inr b ↦
          let w = illegal_pair game logs f.player f.turn higher lower all sh sl b in
          let is : commit_first (pair_at logs f) ≡ higher.frame ∷ lower.frame ∷ [] = rw pair (rw w.1.reveals refl) in
          subst Ends (w.0 ∙ sym log) (turns_and_pair game logs f.player f.turn higher.spot.log higher.frame lower.frame (pair_at logs f) (log_of game logs f.player f.turn higher all sh) w.1 is)
    ]

-- ---- all findings

-- the frames of a finding that is not of an illegal move
pair_frames : (game : Game) (logs : List (List Entry)) (f : Finding) (k : Kind) → (k ≡ Illegal → ⊥) → frames_by game logs f k ≡ pair_at logs f
pair_frames game logs f TwoCommits other = refl
pair_frames game logs f BadOpening other = refl
pair_frames game logs f Collision other = refl
pair_frames game logs f Illegal other = absurd (other refl)

illegal_or_pair : (k : Kind) → (k ≡ Illegal) ⊎ (k ≡ Illegal → ⊥)
illegal_or_pair TwoCommits = inr (λ e. cc)
illegal_or_pair BadOpening = inr (λ e. cc)
illegal_or_pair Collision = inr (λ e. cc)
illegal_or_pair Illegal = inl refl

pub findings_are_shown : (game : Game) (logs : List (List Entry)) (f : Finding) → EachIs (IsLogOf game) logs → Has (findings game logs) f → Shows game f.player f.turn f.kind (frames_of_finding game logs f)
unfolding frames_of_finding are_of_kind show_kind
findings_are_shown game logs f all m =
    elim (illegal_or_pair f.kind) [
      | inr other ↦ subst (λ (fs : List TurnFrame). Shows game f.player f.turn f.kind fs) (sym (pair_frames game logs f f.kind other)) (pairs_shown game logs f all m other)
      | inl is ↦
          let there = findings_Has game logs f m in
          let w = finding_is_least game logs f.player f.turn f.kind f there.2 in
          let shown = subst (λ (k : Kind). show_kind game f.player f.turn logs k w.lower w.higher ≡ true) is w.shown in
          let ends = illegal_shown game logs f w.lower w.higher all w.first_is w.second_is w.lower_seen w.higher_seen shown in
          subst (λ (k : Kind). Shows game f.player f.turn k (frames_by game logs f k)) (sym is) (shows_from game f.player f.turn Illegal (frames_by game logs f Illegal) there.0 there.1 ends)
    ]
