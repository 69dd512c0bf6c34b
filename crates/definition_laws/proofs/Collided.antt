-- Collided: whom two resolved moves name among the findings, and the byte strings of a collision.
use Rattle.std.proofs.Common.{List, None, Some, ap, arith, inl, inr, refl, subst, sym, true, ℕ, ◌*◌, ◌<◌, ◌∙◌, ◌≡◌, ◌⊎◌, Option, slice_get}
use Rattle.std.specs.Prelude.{is_some, not}
use Rattle.std.proofs.lemmas.Bool.{and_parts, false≢true}
use Rattle.std.proofs.lemmas.Option.{slice_get_within}
use Rattle.sha2.specs.Sha256.{sha256}
use Rattle.definitions.specs.declared.world.Move.{Move}
use Rattle.definitions.specs.declared.openings.Digest.{Digest}
use Rattle.definitions.specs.declared.openings.Opening.{Opening}
use Rattle.definitions.specs.declared.frames.TurnFrame.{TurnFrame}
use Rattle.definitions.specs.declared.frames.TurnFrame.TheVariants.{Commit, Reveal}
use Rattle.definitions.specs.declared.logs.Entry.{Entry}
use Rattle.definitions.specs.declared.logs.Entry.TheVariants.{Got}
use Rattle.definitions.specs.declared.findings.Kind.{Kind}
use Rattle.definitions.specs.declared.findings.Kind.TheVariants.{TwoCommits, Collision}
use Rattle.definitions.specs.declared.findings.Spot.{Spot}
use Rattle.definitions.specs.declared.findings.Finding.{Finding}
use Rattle.definitions.specs.Lists.{EachIs}
use Rattle.definitions.specs.World.{Game, players_of}
use Rattle.definitions.specs.Openings.{commitment, opening}
use Rattle.definitions.specs.Logs.{frame_eq, got_of}
use Rattle.definitions.specs.Held.{digest_of}
use Rattle.definitions.specs.Findings.{Sighting, are_collision, finding_at, findings, got_known, same_digest, show_kind}
use Rattle.definitions.proofs.Codes.{opening-same}
use Rattle.definition_laws.specs.Members.{Has}
use Rattle.definition_laws.specs.Spots.{AllFit, FitsFrame, GotFits, IsCollision, IsSighting, ShowsTwoFaces}
use Rattle.definition_laws.proofs.Accused.{accused}
use Rattle.definition_laws.proofs.Alike.{digest_eq_true, frame_eq_same}
use Rattle.definition_laws.proofs.Knowing.{known_to_orderly}
use Rattle.definition_laws.proofs.Least.{Has_findings, finding_is_least, findings_Has}
use Rattle.definition_laws.proofs.Listed.{finding_at_kind}
use Rattle.definition_laws.proofs.Members.{Has_each, slice_get_Has}

named_of : (game : Game) (logs : List (List Entry)) (q t : ℕ) (k : Kind) → q < players_of game → t < game.turns → (k ≡ TwoCommits) ⊎ (k ≡ Collision) →
    is_some (finding_at game logs q t k) ≡ true → (f : Finding) × ShowsTwoFaces game logs q t f
named_of game logs q t k ql tl which h = go (finding_at game logs q t k) refl h
  where
    kind : (f : Finding) → f.kind ≡ k → (k ≡ TwoCommits) ⊎ (k ≡ Collision) → (f.kind ≡ TwoCommits) ⊎ (f.kind ≡ Collision)
    kind f e (inl a) = inl (e ∙ a)
    kind f e (inr b) = inr (e ∙ b)

    go : (o : Option Finding) → finding_at game logs q t k ≡ o → is_some o ≡ true → (f : Finding) × ShowsTwoFaces game logs q t f
    go None e h = absurd (false≢true h)
    go (Some f) e h =
        let of = finding_at_kind game logs q t k f e in
        (f, (Has_findings game logs q t k f ql tl e, of.0, of.1, kind f of.2 which))

-- where two logs resolve a player's turn by different moves, that player's turn stands among the findings
pub accused_named : (game : Game) (logs : List (List Entry)) (i j q t : ℕ) (g h : List Entry) (m k : Move) → q < players_of game →
    slice_get logs i ≡ Some g → slice_get logs j ≡ Some h → slice_get (got_known game q g).moves t ≡ Some m → slice_get (got_known game q h).moves t ≡ Some k →
    (m ≡ k → ⊥) → (f : Finding) × ShowsTwoFaces game logs q t f
accused_named game logs i j q t g h m k ql gi hj mg kh apart = go (accused game logs i j q t g h m k gi hj mg kh apart)
  where
    below : t < game.turns
    below =
        let within = slice_get_within (got_known game q g).moves t m mg in
        let o = known_to_orderly game q (got_of q g) (2 * game.turns) in
        let turns = o.turns in
        omega arith

    go : (is_some (finding_at game logs q t TwoCommits) ≡ true) ⊎ (is_some (finding_at game logs q t Collision) ≡ true) → (f : Finding) × ShowsTwoFaces game logs q t f
    go (inl a) = named_of game logs q t TwoCommits ql below (inl refl) a
    go (inr b) = named_of game logs q t Collision ql below (inr refl) b

-- the frame of a sighting fits, where all frames that the logs got do
sighting_fits : (logs : List (List Entry)) (q t : ℕ) (s : Sighting) → AllFit logs → IsSighting logs q t s → FitsFrame s.frame
sighting_fits logs q t s all w =
    Has_each GotFits w.log (Got q s.frame) (Has_each (λ h. EachIs GotFits h) logs w.log all (slice_get_Has logs s.spot.log w.log w.there)) (slice_get_Has w.log s.spot.entry (Got q s.frame) w.got)

-- a sighting at the spot that the finding names
at_spot : (logs : List (List Entry)) (q t : ℕ) (s : Sighting) (spot : Spot) (f : TurnFrame) → spot ≡ s.spot → s.frame ≡ f → IsSighting logs q t s →
    IsSighting logs q t (record { spot = spot; frame = f })
at_spot logs q t s spot f e is w =
    subst (λ (u : Spot). IsSighting logs q t (record { spot = u; frame = f })) (sym e)
    (subst (λ (g : TurnFrame). IsSighting logs q t (record { spot = s.spot; frame = g })) is w)

-- two reveals of a collision: their openings' bytes differ, and have one digest
strings : (game : Game) (f g : TurnFrame) → are_collision game f g ≡ true → FitsFrame f → FitsFrame g →
    (a b : Opening) × (f ≡ Reveal a.player a.turn a.mv a.nonce) × (g ≡ Reveal b.player b.turn b.mv b.nonce) ×
    (opening game.id a ≡ opening game.id b → ⊥) × (sha256 (opening game.id a) ≡ sha256 (opening game.id b))
unfolding digest_of commitment
strings game (Commit p t d) g h x y = absurd (false≢true h)
strings game (Reveal p t m n) (Commit q u e) h x y = absurd (false≢true h)
strings game (Reveal p t m n) (Reveal q u k o) h x y = (a, b, refl, refl, apart, same)
  where
    a : Opening
    a = record { player = p; turn = t; mv = m; nonce = n }

    b : Opening
    b = record { player = q; turn = u; mv = k; nonce = o }

    tests : (not (frame_eq (Reveal p t m n) (Reveal q u k o)) ≡ true) × (same_digest game (Reveal p t m n) (Reveal q u k o) ≡ true)
    tests = and_parts _ _ h

    apart : opening game.id a ≡ opening game.id b → ⊥
    apart e =
        let one : a ≡ b = opening-same game.id a b x y e in
        let frames : Reveal p t m n ≡ Reveal q u k o = ap (λ (o : Opening). Reveal o.player o.turn o.mv o.nonce) one in
        let alike : frame_eq (Reveal p t m n) (Reveal q u k o) ≡ true = ap (frame_eq (Reveal p t m n)) (sym frames) ∙ frame_eq_same (Reveal p t m n) in
        false≢true (sym (ap not alike) ∙ tests.0)

    same : sha256 (opening game.id a) ≡ sha256 (opening game.id b)
    same = ap (λ (d : Digest). d.bytes) (digest_eq_true (commitment game.id a) (commitment game.id b) tests.1)

-- a collision among the findings is two byte strings with one digest
pub collision_strings : (game : Game) (logs : List (List Entry)) (f : Finding) → AllFit logs → Has (findings game logs) f → f.kind ≡ Collision → IsCollision game logs f
unfolding show_kind
collision_strings game logs f all m kind =
    let there = findings_Has game logs f m in
    let w = finding_is_least game logs f.player f.turn f.kind f there.2 in
    let shown : are_collision game w.lower.frame w.higher.frame ≡ true =
    subst (λ (k : Kind). show_kind game f.player f.turn logs k w.lower w.higher ≡ true) kind w.shown in
    let s = strings game w.lower.frame w.higher.frame shown (sighting_fits logs f.player f.turn w.lower all w.lower_seen) (sighting_fits logs f.player f.turn w.higher all w.higher_seen) in
    record {
      one = s.0;
      other = s.1;
      first_is = at_spot logs f.player f.turn w.lower f.first (Reveal s.0.player s.0.turn s.0.mv s.0.nonce) w.first_is s.2 w.lower_seen;
      second_is = at_spot logs f.player f.turn w.higher f.second (Reveal s.1.player s.1.turn s.1.mv s.1.nonce) w.second_is s.3 w.higher_seen;
      bytes_differ = s.4;
      one_digest = s.5;
    }
