-- Standing: the frames by which a finding is shown stand in the logs.
use Rattle.std.proofs.Common.{◌≡◌, ℕ, Bool, true, false, List, [], ◌∷◌, Option, Some, None, refl, sym, ap, subst, ◌∙◌, slice_get, take}
use Rattle.std.specs.Prelude.{find, is_some, if◌then◌else◌}
use Rattle.std.specs.List.{range_with_len}
use Rattle.plain_lemmas.proofs.Each.{each_append}
use Rattle.definitions.specs.declared.openings.Digest.{Digest}
use Rattle.definitions.specs.declared.frames.TurnFrame.{TurnFrame}
use Rattle.definitions.specs.declared.logs.Entry.{Entry}
use Rattle.definitions.specs.declared.logs.Entry.TheVariants.{Got}
use Rattle.definitions.specs.declared.findings.Kind.{Kind}
use Rattle.definitions.specs.declared.findings.Kind.TheVariants.{TwoCommits, BadOpening, Collision, Illegal}
use Rattle.definitions.specs.declared.findings.Spot.{Spot}
use Rattle.definitions.specs.declared.findings.Finding.{Finding}
use Rattle.definitions.specs.Lists.{EachIs, item_or}
use Rattle.definitions.specs.World.{Game}
use Rattle.definitions.specs.Logs.{got_of}
use Rattle.definitions.specs.Held.{Known, commit_of, opening_of}
use Rattle.definitions.specs.Findings.{Sighting, findings, got_known, is_commit}
use Rattle.definition_laws.specs.Members.{Has}
use Rattle.definition_laws.specs.Spots.{IsSighting}
use Rattle.definition_laws.proofs.Least.{finding_is_least, findings_Has}
use Rattle.definition_laws.proofs.Listing.{EachIs_flat_map, find_stands}
use Rattle.definition_laws.proofs.Members.{Has_middle, slice_get_Has}
use Rattle.definition_laws.proofs.WellFormed.{got_entry}
use Rattle.evidence.specs.Laws.{StandsIn}
use Rattle.evidence.specs.Showing.{commit_first, frame_at, frames_by, frames_of_finding, if_there, pair_at, resolving, turn_shown, turns_shown}
use Rattle.evidence.proofs.Showing.{frame_sighted, item_there}

-- ---- the frames at the finding's spots

sighted_stands : (logs : List (List Entry)) (q t : ℕ) (s : Sighting) → IsSighting logs q t s → StandsIn logs q s.frame
sighted_stands logs q t s w = (w.log, slice_get_Has logs s.spot.log w.log w.there, slice_get_Has w.log s.spot.entry (Got q s.frame) w.got)

spot_stands : (logs : List (List Entry)) (q t : ℕ) (s : Sighting) (spot : Spot) → spot ≡ s.spot → IsSighting logs q t s → EachIs (StandsIn logs q) (frame_at logs spot)
spot_stands logs q t s spot at w = subst (λ (fs : List TurnFrame). EachIs (StandsIn logs q) fs) (sym (frame_sighted logs q t s spot at w)) (sighted_stands logs q t s w, tt)

turned_stand : (logs : List (List Entry)) (q : ℕ) (fs : List TurnFrame) → EachIs (StandsIn logs q) fs → EachIs (StandsIn logs q) (commit_first fs)
turned_stand logs q [] each = tt
turned_stand logs q (f ∷ []) each = each
turned_stand logs q (f ∷ g ∷ fs) each = go (is_commit f)
  where
    go : (b : Bool) → EachIs (StandsIn logs q) (if b then f ∷ g ∷ fs else g ∷ f ∷ fs)
    go true = each
    go false = (each.1.0, (each.0, each.1.1))

-- ---- the frames of the turns before

found_stands : (logs : List (List Entry)) (h : List Entry) (q : ℕ) (test : TurnFrame → Bool) → Has logs h → EachIs (StandsIn logs q) (if_there (find test (got_of q h)))
found_stands logs h q test among = go (find test (got_of q h)) refl
  where
    go : (o : Option TurnFrame) → find test (got_of q h) ≡ o → EachIs (StandsIn logs q) (if_there o)
    go None e = tt
    go (Some f) e =
        let r = find_stands test (got_of q h) f e in
        ((h, among, got_entry q h f (subst (λ (fs : List TurnFrame). Has fs f) (sym r.2) (Has_middle r.0 r.1 f))), tt)

resolving_stands : (game : Game) (logs : List (List Entry)) (h : List Entry) (q u : ℕ) (k : Known) (o : Option Digest) → Has logs h → EachIs (StandsIn logs q) (if_there (resolving game q k (got_of q h) u o))
resolving_stands game logs h q u k None among = tt
resolving_stands game logs h q u k (Some d) among = found_stands logs h q (λ f. is_some (opening_of game q (take u k.moves) d u f)) among

turns_stand : (game : Game) (logs : List (List Entry)) (h : List Entry) (q t : ℕ) → Has logs h → EachIs (StandsIn logs q) (turns_shown game q t h)
unfolding turns_shown
turns_stand game logs h q t among =
    EachIs_flat_map (StandsIn logs q) (turn_shown game q (got_known game q h) (got_of q h)) (range_with_len 0 t)
    (λ u. each_append (StandsIn logs q) _ _ (found_stands logs h q (λ f. is_some (commit_of u f)) among) (resolving_stands game logs h q u (got_known game q h) (slice_get (got_known game q h).digests u) among))

-- ---- all of them

frames_stand : (game : Game) (logs : List (List Entry)) (f : Finding) (k : Kind) → EachIs (StandsIn logs f.player) (pair_at logs f) → Has logs (item_or logs f.first.log []) → EachIs (StandsIn logs f.player) (frames_by game logs f k)
frames_stand game logs f TwoCommits pair among = pair
frames_stand game logs f BadOpening pair among = pair
frames_stand game logs f Collision pair among = pair
frames_stand game logs f Illegal pair among = each_append (StandsIn logs f.player) _ _ (turns_stand game logs (item_or logs f.first.log []) f.player f.turn among) (turned_stand logs f.player (pair_at logs f) pair)

pub findings_stand : (game : Game) (logs : List (List Entry)) (f : Finding) → Has (findings game logs) f → EachIs (StandsIn logs f.player) (frames_of_finding game logs f)
unfolding frames_of_finding
findings_stand game logs f m =
    let there = findings_Has game logs f m in
    let w = finding_is_least game logs f.player f.turn f.kind f there.2 in
    let seen = w.lower_seen in
    let log : item_or logs f.first.log [] ≡ seen.log = ap (λ (s : Spot). item_or logs s.log []) w.first_is ∙ item_there logs w.lower.spot.log seen.log [] seen.there in
    let among : Has logs (item_or logs f.first.log []) = subst (Has logs) (sym log) (slice_get_Has logs w.lower.spot.log seen.log seen.there) in
    let pair = each_append (StandsIn logs f.player) _ _ (spot_stands logs f.player f.turn w.lower f.first w.first_is w.lower_seen) (spot_stands logs f.player f.turn w.higher f.second w.second_is w.higher_seen) in
    frames_stand game logs f f.kind pair among
