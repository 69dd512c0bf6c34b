-- Paired: the frames at a finding's spots, and those of its exhibit.
use Rattle.std.proofs.Common.{Bool, List, Some, [], ap, false, inl, inr, refl, subst, true, ℕ, ◌++◌, ◌≤◌, ◌∙◌, ◌≡◌, ◌⊎◌, length, slice_get}
use Rattle.std.specs.Prelude.{◌||◌}
use Rattle.std.proofs.lemmas.Bool.{false≢true, and_parts, eqb-true, leb-true}
use Rattle.definitions.specs.declared.findings.Spot.{Spot}
use Rattle.definitions.specs.declared.findings.Kind.{Kind}
use Rattle.definitions.specs.declared.findings.Kind.TheVariants.{TwoCommits, BadOpening, Collision, Illegal}
use Rattle.definitions.specs.declared.findings.Finding.{Finding}
use Rattle.definitions.specs.declared.frames.TurnFrame.{TurnFrame}
use Rattle.definitions.specs.declared.logs.Entry.{Entry}
use Rattle.definitions.specs.World.{Game}
use Rattle.definitions.specs.Findings.{Sighting, are_illegal, findings, got_known, show_kind}
use Rattle.definitions.specs.Lists.{item_or}
use Rattle.definition_laws.specs.Members.{Has}
use Rattle.definition_laws.specs.Spots.{IsLeastPair}
use Rattle.definition_laws.proofs.Least.{finding_is_least, findings_Has}
use Rattle.frame_index.specs.Frames.{IndexState, IsIndex, kept_in}
use Rattle.frame_index.proofs.Wrong.{item_is}
use Rattle.evidence.specs.Showing.{frames_by, frames_of_finding, pair_at}
use Rattle.auditor.specs.Exhibits.{before_pair, both, is_illegal, kept_at, pair_shown, shown_by}
use Rattle.auditor.proofs.Spotted.{kept_there, spotted}

-- what is kept with a finding's spots are the frames there
pub pair_is : (game : Game) (logs : List (List Entry)) (f : Finding) (index : IndexState) → IsIndex game logs index → Has (findings game logs) f →
    both (kept_at (kept_in index f.player f.turn) f.first) (kept_at (kept_in index f.player f.turn) f.second) ≡ pair_at logs f
pair_is game logs f index w m =
    let there = findings_Has game logs f m in
    let keeps = w.stands f.player f.turn in
    let s = spotted game f.player f.turn logs (kept_in index f.player f.turn) keeps f.kind f there.2 in
    (λ i. kept_there game f.player f.turn logs (kept_in index f.player f.turn) f.first keeps s.0 i ++ kept_there game f.player f.turn logs (kept_in index f.player f.turn) f.second keeps s.1 i)

-- with those before them they are the frames by which it is shown
pub frames_are : (game : Game) (logs : List (List Entry)) (f : Finding) (out : List TurnFrame) → out ≡ before_pair (is_illegal f.kind) game logs f ++ pair_shown logs f → out ≡ frames_of_finding game logs f
unfolding frames_of_finding
frames_are game logs f out e = e ∙ go f.kind
  where
    go : (k : Kind) → before_pair (is_illegal k) game logs f ++ shown_by (is_illegal k) (pair_at logs f) ≡ frames_by game logs f k
    go TwoCommits = refl
    go BadOpening = refl
    go Collision = refl
    go Illegal = refl

-- where the log of an illegal move's first spot stands, and that it resolves the turns before
pub record IsReached (game : Game) (logs : List (List Entry)) (f : Finding) : Type 0 where
  pub log : List Entry
  pub there : slice_get logs f.first.log ≡ Some log
  pub before : f.turn ≤ length (got_known game f.player log).moves

kind_illegal : (k : Kind) → is_illegal k ≡ true → k ≡ Illegal
kind_illegal TwoCommits e = absurd (false≢true e)
kind_illegal BadOpening e = absurd (false≢true e)
kind_illegal Collision e = absurd (false≢true e)
kind_illegal Illegal e = refl

either : (a b : Bool) → (a || b) ≡ true → (a ≡ true) ⊎ (b ≡ true)
either true b e = inl refl
either false b e = inr e

reached_by : (game : Game) (logs : List (List Entry)) (q t : ℕ) (a b : Sighting) (h : List Entry) → slice_get logs a.spot.log ≡ Some h → are_illegal game q t logs a b ≡ true →
    (a.spot.log ≡ b.spot.log) × (t ≤ length (got_known game q h).moves)
unfolding are_illegal
reached_by game logs q t a b h at e =
    let x = and_parts _ _ e in
    let y = and_parts _ _ x.0 in
    let z = and_parts _ _ (and_parts _ _ x.1).0 in
    let le = leb-true t (length (got_known game q (item_or logs a.spot.log [])).moves) z.0 in
    (eqb-true _ _ y.0, subst (λ (g : List Entry). t ≤ length (got_known game q g).moves) (item_is logs a.spot.log h at) le)

pub reached : (game : Game) (logs : List (List Entry)) (f : Finding) → Has (findings game logs) f → is_illegal f.kind ≡ true → IsReached game logs f
unfolding show_kind
reached game logs f m e =
    let there = findings_Has game logs f m in
    let w = finding_is_least game logs f.player f.turn f.kind f there.2 in
    let shown : show_kind game f.player f.turn logs Illegal w.lower w.higher ≡ true = subst (λ (k : Kind). show_kind game f.player f.turn logs k w.lower w.higher ≡ true) (kind_illegal f.kind e) w.shown in
    record {
      log = w.lower_seen.log;
      there = ap (λ (s : Spot). slice_get logs s.log) w.first_is ∙ w.lower_seen.there;
      before = go w (either _ _ shown);
    }
  where
    go : (w : IsLeastPair game logs f) → (are_illegal game f.player f.turn logs w.lower w.higher ≡ true) ⊎ (are_illegal game f.player f.turn logs w.higher w.lower ≡ true) → f.turn ≤ length (got_known game f.player w.lower_seen.log).moves
    go w (inl x) = (reached_by game logs f.player f.turn w.lower w.higher w.lower_seen.log w.lower_seen.there x).1
    go w (inr x) =
        let other = reached_by game logs f.player f.turn w.higher w.lower w.higher_seen.log w.higher_seen.there x in
        (reached_by game logs f.player f.turn w.higher w.lower w.lower_seen.log (ap (slice_get logs) other.0 ∙ w.lower_seen.there) x).1
