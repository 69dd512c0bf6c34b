-- Behind: the entries behind which a reveal stands, and those that resolve a turn.
use Rattle.std.proofs.Common.{◌*◌, List, Some, ap, arith, subst, sym, true, ℕ, ◌++◌, ◌<◌, ◌∙◌, ◌∷◌, ◌≡◌, ◌≤◌}
use Rattle.std.specs.Prelude.{not, ◌==◌}
use Rattle.std.specs.List.{range_with_len}
use Rattle.std.proofs.lemmas.Bool.{cond-false, ne_eqb}
use Rattle.definitions.specs.declared.world.Move.{Move}
use Rattle.definitions.specs.declared.openings.Nonce.{Nonce}
use Rattle.definitions.specs.declared.openings.Digest.{Digest}
use Rattle.definitions.specs.declared.frames.TurnFrame.{TurnFrame}
use Rattle.definitions.specs.declared.frames.TurnFrame.TheVariants.{Commit, Reveal}
use Rattle.definitions.specs.declared.logs.Entry.{Entry}
use Rattle.definitions.specs.declared.logs.Entry.TheVariants.{Got, Made}
use Rattle.definitions.specs.World.{Game, players_of}
use Rattle.definitions.specs.Openings.{commitment}
use Rattle.definitions.specs.Logs.{frames_of, got_of}
use Rattle.definitions.specs.Held.{known, known_to, digest_of, held, resolved}
use Rattle.definitions.specs.Findings.{got_known}
use Rattle.definitions.specs.Meets.{meets}
use Rattle.definitions.specs.Entries.{AreWellFormed}
use Rattle.definitions.specs.Honest.{IsHonest, others}
use Rattle.definition_laws.specs.Members.{Has}
use Rattle.definition_laws.proofs.Headline.{reveal_behind, resolved_opens}
use Rattle.definition_laws.proofs.Members.{Has_filter, Has_middle, Has_range, Has_split}
use Rattle.definition_laws.proofs.Nexts.{held_is_first}
use Rattle.definition_laws.proofs.Permits.{IsHonest_prefix}
use Rattle.definition_laws.proofs.WellFormed.{got_entry, honest_well_formed, well_got}

-- each other player of the session is among the others
pub Has_others : (game : Game) (me q : ℕ) → q < players_of game → (q ≡ me → ⊥) → Has (others game me) q
unfolding others
Has_others game me q lt other =
    Has_filter (λ q. not (q == me)) (range_with_len 0 (players_of game)) q (Has_range 0 (players_of game) q (omega arith) (omega arith)) (ap not (ne_eqb q me other))

pub frames_of_other : (me q : ℕ) (h : List Entry) → (q ≡ me → ⊥) → frames_of me q h ≡ got_of q h
frames_of_other me q h other = cond-false (q == me) _ _ (ne_eqb q me other)

-- another player is known by the frames that were got of it
pub known_is_got : (game : Game) (me q : ℕ) (h : List Entry) → (q ≡ me → ⊥) → known game me h q ≡ got_known game q h
unfolding known
known_is_got game me q h other = ap (λ (fs : List TurnFrame). known_to game q fs (2 * game.turns)) (frames_of_other me q h other)

-- a digest that a well-formed log holds of another player came in that player's commitment
pub held_received : (game : Game) (me q t : ℕ) (h : List Entry) (d : Digest) → AreWellFormed game me h → (q ≡ me → ⊥) → held game me h q t ≡ Some d → Has h (Got q (Commit q t d))
held_received game me q t h d all other e =
    let w = held_is_first game me q t h d e in
    let there : Has (got_of q h) (Commit w.0 t d) =
    subst (λ (fs : List TurnFrame). Has fs (Commit w.0 t d)) (sym w.3 ∙ frames_of_other me q h other) (Has_middle w.1 w.2 (Commit w.0 t d)) in
    let entry = got_entry q h (Commit w.0 t d) there in
    let player : w.0 ≡ q = (well_got game me q h (Commit w.0 t d) all entry).2 in
    subst (λ (p : ℕ). Has h (Got q (Commit p t d))) player entry

-- a reveal that an honest log made stands behind the received commitment of each other player that met
pub reveal_behind_received : (game : Game) (me t q : ℕ) (g rest : List Entry) (m : Move) (n : Nonce) → 1 ≤ game.ahead →
    IsHonest game me (g ++ Made (Reveal me t m n) ∷ rest) → q < players_of game → (q ≡ me → ⊥) → meets game me g q t ≡ true →
    (d : Digest) × (held game me g q t ≡ Some d) × Has g (Got q (Commit q t d))
reveal_behind_received game me t q g rest m n ahead i lt other met =
    let among = Has_split (others game me) q (Has_others game me q lt other) in
    let b = reveal_behind game me t g rest m n among.0 among.1 q i among.2 met in
    let well = honest_well_formed game me g ahead (IsHonest_prefix game me g (Made (Reveal me t m n) ∷ rest) i) in
    (b.0, b.1, held_received game me q t g b.0 well other b.1)

-- a turn that a well-formed log resolves of another player was revealed by that player, and the reveal opens the digest held
pub resolved_received : (game : Game) (me q t : ℕ) (h : List Entry) (m : Move) → AreWellFormed game me h → (q ≡ me → ⊥) → resolved game me h q t ≡ Some m →
    (d : Digest) × (n : Nonce) × (held game me h q t ≡ Some d) × Has h (Got q (Commit q t d)) × Has h (Got q (Reveal q t m n)) ×
    (d ≡ commitment game.id (record { player = q; turn = t; mv = m; nonce = n }))
unfolding digest_of
resolved_received game me q t h m all other e =
    let o = resolved_opens game me q t h m e in
    let w = o.3 in
    let there : Has (got_of q h) (Reveal w.player t m w.nonce) =
    subst (λ (fs : List TurnFrame). Has fs (Reveal w.player t m w.nonce)) (sym w.stands ∙ frames_of_other me q h other) (Has_middle w.front w.rest (Reveal w.player t m w.nonce)) in
    let entry = got_entry q h (Reveal w.player t m w.nonce) there in
    let player : w.player ≡ q = (well_got game me q h (Reveal w.player t m w.nonce) all entry).2 in (
      o.0,
      w.nonce,
      o.1,
      held_received game me q t h o.0 all other o.1,
      subst (λ (p : ℕ). Has h (Got q (Reveal p t m w.nonce))) player entry,
      sym w.opens ∙ ap (λ (p : ℕ). commitment game.id (record { player = p; turn = t; mv = m; nonce = w.nonce })) player,
    )
