-- Told: what the text of an audit shows of a player of whom two logs resolve a turn by different moves.
use Rattle.std.proofs.Common.{◌≡◌, ◌⊎◌, ℕ, ◌<◌, Bool, true, List, [], ◌∷◌, ◌++◌, Option, Some, ap, sym, refl, subst, append_assoc, inl, inr, slice_get, ◌∙◌}
use Rattle.std.specs.Prelude.{not, nat_lt, ◌&&◌, ◌==◌}
use Rattle.std.proofs.lemmas.Bool.{and_parts, eqb-true, false≢true}
use Rattle.std.proofs.lemmas.Grind.{flat_map-append}
use Rattle.definitions.specs.declared.world.Move.{Move}
use Rattle.definitions.specs.declared.openings.Digest.{Digest}
use Rattle.definitions.specs.declared.frames.TurnFrame.{TurnFrame}
use Rattle.definitions.specs.declared.frames.TurnFrame.TheVariants.{Commit, Reveal}
use Rattle.definitions.specs.declared.logs.Entry.{Entry}
use Rattle.definitions.specs.declared.logs.Entry.TheVariants.{Chose, Made, Got}
use Rattle.definitions.specs.declared.findings.Kind.{Kind}
use Rattle.definitions.specs.declared.findings.Kind.TheVariants.{TwoCommits, Collision}
use Rattle.definitions.specs.declared.findings.Finding.{Finding}
use Rattle.definitions.specs.Lists.{EachIs}
use Rattle.definitions.specs.World.{Game, players_of}
use Rattle.definitions.specs.Logs.{digest_eq}
use Rattle.definitions.specs.Held.{digest_of}
use Rattle.definitions.specs.Findings.{are_two_commits, findings, got_known, is_commit, same_digest}
use Rattle.definitions.specs.Exhibits.{are_of_kind, are_two_of, is_of_turn, Shows}
use Rattle.definition_laws.specs.Members.{Has}
use Rattle.definition_laws.specs.Spots.{AllFit, GotFits}
use Rattle.definition_laws.proofs.Alike.{digest_eq_same}
use Rattle.definition_laws.proofs.Collided.{accused_named, collision_strings}
use Rattle.definition_laws.proofs.Members.{Has_each, Has_split, each_Has}
use Rattle.grid_world.specs.Sessions.{IsSession}
use Rattle.evidence.specs.Laws.{IsLogOf, StandsIn}
use Rattle.evidence.specs.Showing.{frames_by, frames_of_finding, frame_at}
use Rattle.evidence.specs.Text.{FitsText, exhibit_text}
use Rattle.evidence.proofs.Few.{shown_read}
use Rattle.evidence.proofs.Illegal.{findings_are_shown}
use Rattle.evidence.proofs.Showing.{frame_sighted, sighted_own}
use Rattle.evidence.proofs.Standing.{findings_stand}
use Rattle.auditor.specs.Agreed.{agreed_count, world}
use Rattle.file_commands.specs.AuditLines.{finding_line}
use Rattle.file_commands.specs.Audit.{all_found_text, are_all_agreed, audit_text, exhibit_of, found_text, rest_text}
use Rattle.file_commands.specs.AuditLaws.{AllFitText, AreTwoCommitments, AreTwoFaces, AreTwoStrings, GotFitsText, StandsInText, TellsTwoFaces}

-- ---- what fits a text fits an opening

got_fits : (e : Entry) → GotFitsText e → GotFits e
got_fits (Chose t m n) h = tt
got_fits (Made f) h = tt
got_fits (Got q (Commit p t d)) h = tt
got_fits (Got q (Reveal p t m n)) h = record { turn = h.0.1; to = h.0.2; strike = h.0.3 }

all_fit : (logs : List (List Entry)) → AllFitText logs → AllFit logs
all_fit logs all = each_Has (λ h. EachIs GotFits h) logs (λ h m. each_Has GotFits h (λ e n. got_fits e (Has_each GotFitsText h e (Has_each (λ h. EachIs GotFitsText h) logs h all m) n)))

-- the frames by which a finding is shown fit a text
pub frames_fit : (game : Game) (logs : List (List Entry)) (f : Finding) → AllFitText logs → Has (findings game logs) f → EachIs FitsText (frames_of_finding game logs f)
frames_fit game logs f all m =
    let fs = frames_of_finding game logs f in
    each_Has FitsText fs (λ x n.
    let s = Has_each (StandsIn logs f.player) fs x (findings_stand game logs f m) n in
    Has_each GotFitsText s.0 (Got f.player x) (Has_each (λ h. EachIs GotFitsText h) logs s.0 all s.1) s.2)

-- ---- the finding stands in the text

found_split : (game : Game) (logs : List (List Entry)) (front back : List Finding) (f : Finding) →
    all_found_text game logs (front ++ f ∷ back) ≡ all_found_text game logs front ++ ((finding_line f ++ exhibit_text (exhibit_of game logs f)) ++ all_found_text game logs back)
unfolding all_found_text found_text
found_split game logs front back f = flat_map-append (found_text game logs) front (f ∷ back)

stands_in : (game : Game) (owners : List (Option ℕ)) (logs : List (List Entry)) (f : Finding) → Has (findings game logs) f → StandsInText (audit_text game owners logs) f (exhibit_of game logs f)
unfolding audit_text
stands_in game owners logs f m =
    let s = Has_split (findings game logs) f m in
    let rest = rest_text game (agreed_count game owners logs) (are_all_agreed game owners logs) (world game owners logs) in
    let a = all_found_text game logs s.0 in
    let x = finding_line f ++ exhibit_text (exhibit_of game logs f) in
    let b = all_found_text game logs s.1 in
    record {
      front = a;
      back = b ++ rest;
      parts = ap (λ fs. all_found_text game logs fs ++ rest) s.2 ∙ ap (λ y. y ++ rest) (found_split game logs s.0 s.1 f) ∙ append_assoc a (x ++ b) rest ∙ ap (λ y. a ++ y) (append_assoc x b rest) ∙ sym (append_assoc a x (b ++ rest));
    }

-- ---- two commitments, or two byte strings

commits_from : (p q u t : ℕ) (d : Digest) → p ≡ q → u ≡ t → Commit p u d ≡ Commit q t d
commits_from p q u t d a b = cc

two_parts : (q t : ℕ) (test : TurnFrame → TurnFrame → Bool) (f g : TurnFrame) → are_two_of q t test (f ∷ g ∷ []) ≡ true → (is_of_turn q t f ≡ true) × (is_of_turn q t g ≡ true) × (test f g ≡ true)
two_parts q t test f g h =
    let a = and_parts (is_of_turn q t f && is_of_turn q t g) (test f g) h in
    let b = and_parts (is_of_turn q t f) (is_of_turn q t g) a.0 in
    (b.0, b.1, a.1)

commit_parts : (game : Game) (f g : TurnFrame) → are_two_commits game f g ≡ true → (is_commit f ≡ true) × (is_commit g ≡ true) × (not (same_digest game f g) ≡ true)
commit_parts game f g h =
    let a = and_parts (is_commit f && is_commit g) (not (same_digest game f g)) h in
    let b = and_parts (is_commit f) (is_commit g) a.0 in
    (b.0, b.1, a.1)

two_commitments : (game : Game) (q t : ℕ) (fs : List TurnFrame) → are_two_of q t (are_two_commits game) fs ≡ true → AreTwoCommitments q t fs
unfolding digest_of
two_commitments game q t [] h = absurd (false≢true h)
two_commitments game q t (f ∷ []) h = absurd (false≢true h)
two_commitments game q t (f ∷ g ∷ e ∷ es) h = absurd (false≢true h)
two_commitments game q t (Reveal p u m n ∷ g ∷ []) h =
    absurd (false≢true (commit_parts game (Reveal p u m n) g (two_parts q t (are_two_commits game) (Reveal p u m n) g h).2).0)
two_commitments game q t (Commit p u d ∷ Reveal r v m n ∷ []) h =
    absurd (false≢true (commit_parts game (Commit p u d) (Reveal r v m n) (two_parts q t (are_two_commits game) (Commit p u d) (Reveal r v m n) h).2).1)
two_commitments game q t (Commit p u d ∷ Commit r v e ∷ []) h =
    let parts = two_parts q t (are_two_commits game) (Commit p u d) (Commit r v e) h in
    let one = and_parts (p == q) (u == t) parts.0 in
    let two = and_parts (r == q) (v == t) parts.1 in
    let tests = commit_parts game (Commit p u d) (Commit r v e) parts.2 in
    record {
      one = d;
      other = e;
      frames = ap (λ x. x ∷ Commit r v e ∷ []) (commits_from p q u t d (eqb-true p q one.0) (eqb-true u t one.1)) ∙
          ap (λ x. Commit q t d ∷ x ∷ []) (commits_from r q v t e (eqb-true r q two.0) (eqb-true v t two.1));
      differ = λ same. false≢true (sym (ap not (ap (digest_eq d) (sym same) ∙ digest_eq_same d)) ∙ tests.2);
    }

of_kind : (game : Game) (q t : ℕ) (k : Kind) (fs : List TurnFrame) → Shows game q t k fs → are_of_kind game q t k fs ≡ true
of_kind game q t k fs h = (and_parts (nat_lt q (players_of game) && nat_lt t game.turns) (are_of_kind game q t k fs) h).1

two_strings : (game : Game) (logs : List (List Entry)) (f : Finding) → EachIs (IsLogOf game) logs → AllFit logs → Has (findings game logs) f → f.kind ≡ Collision →
    AreTwoStrings game f.player f.turn (frames_of_finding game logs f)
unfolding frames_of_finding
two_strings game logs f all fit m kind =
    let c = collision_strings game logs f fit m kind in
    let own = and_parts _ _ (sighted_own game logs f.player f.turn _ all c.first_is) in
    let own' = and_parts _ _ (sighted_own game logs f.player f.turn _ all c.second_is) in
    let first = frame_sighted logs f.player f.turn _ f.first refl c.first_is in
    let second = frame_sighted logs f.player f.turn _ f.second refl c.second_is in
    record {
      one = c.one;
      other = c.other;
      players = (eqb-true _ _ own.0, eqb-true _ _ own'.0);
      turns = (eqb-true _ _ own.1, eqb-true _ _ own'.1);
      frames = ap (frames_by game logs f) kind ∙ ap (λ fs. fs ++ frame_at logs f.second) first ∙
          ap (λ fs. Reveal c.one.player c.one.turn c.one.mv c.one.nonce ∷ fs) second;
      bytes_differ = c.bytes_differ;
      one_digest = c.one_digest;
    }

-- ---- both together

faces_of : (game : Game) (logs : List (List Entry)) (f : Finding) → EachIs (IsLogOf game) logs → AllFit logs → Has (findings game logs) f → (f.kind ≡ TwoCommits) ⊎ (f.kind ≡ Collision) →
    Shows game f.player f.turn f.kind (frames_of_finding game logs f) → AreTwoFaces game f.player f.turn f.kind (frames_of_finding game logs f)
unfolding are_of_kind
faces_of game logs f all fit m (inl kind) shows =
    let fs = frames_of_finding game logs f in
    subst (λ (k : Kind). AreTwoFaces game f.player f.turn k fs) (sym kind)
    (two_commitments game f.player f.turn fs (subst (λ (k : Kind). are_of_kind game f.player f.turn k fs ≡ true) kind (of_kind game f.player f.turn f.kind fs shows)))
faces_of game logs f all fit m (inr kind) shows =
    let fs = frames_of_finding game logs f in
    subst (λ (k : Kind). AreTwoFaces game f.player f.turn k fs) (sym kind) (two_strings game logs f all fit m kind)

tells : (game : Game) (owners : List (Option ℕ)) (logs : List (List Entry)) (f : Finding) → IsSession game → EachIs (IsLogOf game) logs → AllFitText logs →
    Has (findings game logs) f → (f.kind ≡ TwoCommits) ⊎ (f.kind ≡ Collision) → TellsTwoFaces game owners logs f.player f.turn
tells game owners logs f facts all fit m kind =
    let shows = findings_are_shown game logs f all m in
    record {
      finding = f;
      exhibit = exhibit_of game logs f;
      listed = m;
      of_turn = (refl, refl);
      stands = stands_in game owners logs f m;
      read = (shown_read game (exhibit_of game logs f) facts shows (frames_fit game logs f fit m)).1;
      accuses = (refl, refl, refl);
      faces = faces_of game logs f all (all_fit logs fit) m kind shows;
      shows = shows;
    }

pub different_told : (game : Game) (owners : List (Option ℕ)) (logs : List (List Entry)) (i j q t : ℕ) (g h : List Entry) (m k : Move) →
    IsSession game → EachIs (IsLogOf game) logs → AllFitText logs → q < players_of game →
    slice_get logs i ≡ Some g → slice_get logs j ≡ Some h → slice_get (got_known game q g).moves t ≡ Some m → slice_get (got_known game q h).moves t ≡ Some k →
    (m ≡ k → ⊥) → TellsTwoFaces game owners logs q t
different_told game owners logs i j q t g h m k facts all fit ql gi hj mg kh apart =
    let w = accused_named game logs i j q t g h m k ql gi hj mg kh apart in
    subst (λ (p : ℕ). TellsTwoFaces game owners logs p t) w.1.1
    (subst (λ (u : ℕ). TellsTwoFaces game owners logs w.0.player u) w.1.2 (tells game owners logs w.0 facts all fit w.1.0 w.1.3))
