-- Fair: an honest log's reveals stand after the commitments of all that meet, and what it accepts opens what it holds.
use Rattle.std.proofs.Common.{List, None, Option, Some, inl, inr, refl, subst, ℕ, ◌++◌, ◌<◌, ◌∷◌, ◌≡◌, ◌≤◌, ◌⊎◌}
use Rattle.std.specs.Prelude.{IsSome, IsTrue}
use Rattle.definitions.specs.declared.logs.Entry.{Entry}
use Rattle.definitions.specs.declared.logs.Entry.TheVariants.{Got, Made}
use Rattle.definitions.specs.declared.frames.TurnFrame.{TurnFrame}
use Rattle.definitions.specs.declared.frames.TurnFrame.TheVariants.{Commit, Reveal}
use Rattle.definitions.specs.declared.openings.Nonce.{Nonce}
use Rattle.definitions.specs.declared.world.Move.{Move}
use Rattle.definitions.specs.World.{Game, players_of}
use Rattle.definitions.specs.Held.{resolved}
use Rattle.definitions.specs.Meets.{meets}
use Rattle.definitions.specs.Honest.{IsHonest}
use Rattle.definition_laws.proofs.Behind.{reveal_behind_received, resolved_received}
use Rattle.definition_laws.proofs.Permits.{IsHonest_prefix}
use Rattle.definition_laws.proofs.WellFormed.{honest_well_formed}
use Rattle.definition_laws.specs.Members.{Has}
use Rattle.definition_laws.proofs.Members.{Has_split}
use Rattle.definition_laws.specs.FairPlay.{IsCommittedBy, IsFairPlay, IsGotIn}

got_in : (log : List Entry) (q : ℕ) (f : TurnFrame) → Has log (Got q f) → IsGotIn log q f
got_in log q f h = let s = Has_split log (Got q f) h in record { before = s.0; behind = s.1; log_is = s.2 }

-- a player who met the owner, or whose turn was resolved, had committed to it
behind_met : (game : Game) (me : ℕ) (front back : List Entry) (q t : ℕ) (mv : Move) (nonce : Nonce) → 1 ≤ game.ahead → IsHonest game me (front ++ Made (Reveal me t mv nonce) ∷ back) →
    q < players_of game → (q ≡ me → ⊥) → (IsTrue (meets game me front q t) ⊎ IsSome (resolved game me front q t)) → IsCommittedBy game me front q t
behind_met game me front back q t mv nonce a i l other (inl met) =
    let b = reveal_behind_received game me t q front back mv nonce a i l other met in
    record { digest = b.0; held_is = b.1; received = got_in front q (Commit q t b.0) b.2 }
behind_met game me front back q t mv nonce a i l other (inr some) = go (resolved game me front q t) refl some
  where
    go : (o : Option Move) → resolved game me front q t ≡ o → IsSome o → IsCommittedBy game me front q t
    go None e none = cc
    go (Some m) e there =
        let j = IsHonest_prefix game me front (Made (Reveal me t mv nonce) ∷ back) i in
        let r = resolved_received game me q t front m (honest_well_formed game me front a j) other e in
        record { digest = r.0; held_is = r.2; received = got_in front q (Commit q t r.0) r.3 }

-- an honest log shows fair play
pub honest_fair : (game : Game) (me : ℕ) (log : List Entry) → 1 ≤ game.ahead → IsHonest game me log → IsFairPlay game me log
honest_fair game me log a i = record {
  honest = i;
  behind = λ front back q t mv nonce e l other met. behind_met game me front back q t mv nonce a (subst (λ (h : List Entry). IsHonest game me h) e i) l other met;
  opened = λ q t mv other e.
      let r = resolved_received game me q t log mv (honest_well_formed game me log a i) other e in
      record { digest = r.0; nonce = r.1; held_is = r.2; opens = r.5; committed = got_in log q (Commit q t r.0) r.3; revealed = got_in log q (Reveal q t mv r.1) r.4 };
}
