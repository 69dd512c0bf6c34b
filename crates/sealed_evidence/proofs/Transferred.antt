-- Transferred: where the judge says yes, the exhibit shows more of a player that plays fair.
use Rattle.std.proofs.Common.{◌<◌, ℕ, List, sym, subst, arith}
use Rattle.std.specs.Prelude.{◌&&◌, IsTrue, nat_lt}
use Rattle.std.proofs.lemmas.Bool.{and_parts, ltb-true}
use Rattle.definitions.specs.declared.frames.TurnFrame.{TurnFrame}
use Rattle.definitions.specs.Exhibits.{Shows, are_of_kind, shows}
use Rattle.definitions.specs.Lists.{EachIs}
use Rattle.definitions.specs.World.{Game, players_of}
use Rattle.grid_world.specs.Sessions.{IsSession}
use Rattle.commitment.specs.Spelling.{FitsFrame}
use Rattle.evidence.specs.declared.exhibit.Exhibit.{Exhibit}
use Rattle.seal_keys.specs.Keys.{root_of}
use Rattle.seal_keys.specs.States.{Keys}
use Rattle.seal_blame.specs.Made.{AreMade}
use Rattle.seal_blame.specs.Blames.{are_valid}
use Rattle.seal_blame.proofs.Blamed.{AreJudged, blames_so, first_new}
use Rattle.seal_blame.proofs.NotMade.{not_all_made}
use Rattle.sealed_evidence.specs.declared.sealed.SealedExhibit.{SealedExhibit}
use Rattle.sealed_evidence.specs.Judging.{are_sealed, shows_sealed}
use Rattle.sealed_evidence.specs.Transferable.{AreOfAccused, ShowsMore}
use Rattle.sealed_evidence.specs.Transferable.{JudgedEvidenceIsTransferable}
use Rattle.sealed_evidence.proofs.Judged.{judged}

-- the frames show in this session what the exhibit says
abbrev IsShown : Game → Exhibit → Type 0
IsShown game x = Shows game x.player x.turn x.kind x.frames

-- so they are of a player of the session
seated : (game : Game) (x : Exhibit) → IsShown game x → x.player < players_of game
seated game x h =
    let in_session = nat_lt x.player (players_of game) && nat_lt x.turn game.turns in
    let a = and_parts in_session (are_of_kind game x.player x.turn x.kind x.frames) h in
    ltb-true _ _ (and_parts (nat_lt x.player (players_of game)) (nat_lt x.turn game.turns) a.0).0

module _ (game : Game) (roots : List (List ℕ)) (x : SealedExhibit) (session : IsSession game)
    (fit : EachIs FitsFrame x.exhibit.frames) (h : IsTrue (shows_sealed game roots x)) where
  shown : IsShown game x.exhibit
  shown =
      let e = x.exhibit in
      let shows_it = shows game e.player e.turn e.kind e.frames in
      (and_parts shows_it (are_sealed game roots e.frames x.seals) h).0

  module _ (keys : Keys) (made : List TurnFrame) (are : AreOfAccused game roots x keys made) where
    abbrev AreValid : Game → (root : List ℕ) → Type 0
    AreValid g root = IsTrue (are_valid g root x.exhibit.frames x.seals)

    fair : AreMade keys.game keys.player made
    fair =
        let made_in : Game → Type 0 = λ g. AreMade g x.exhibit.player made in
        let its = subst made_in (sym are.game_is) are.fair in
        subst (λ (q : ℕ). AreMade keys.game q made) (sym are.player_is) its

    sealed : AreValid keys.game (root_of keys.game keys.seed)
    sealed =
        let its = subst (AreValid game) are.root_is (judged game roots x h) in
        subst (λ (g : Game). AreValid g (root_of g keys.seed)) (sym are.game_is) its

    judged_so : AreJudged keys made x.exhibit.frames x.seals
    judged_so =
        let below = seated game x.exhibit shown in
        let most = session.players.1 in
        let is = are.player_is in
        record {
          session = subst IsSession (sym are.game_is) session;
          player = omega (arith, below, most, is);
          fair = fair;
          sealed = sealed;
          fit = fit;
        }

    pub shows_more : ShowsMore keys made x
    shows_more =
        let e = x.exhibit in
        let some = not_all_made game e.player e.turn e.kind e.frames made shown are.fair in
        let first = first_new game e.player made e.frames are.fair some in
        let blames = blames_so keys made e.frames x.seals first.0 judged_so first.1 in
        record { number = first.0; how = blames.0; first = first.1; blames = blames.1 }

pub transferable : JudgedEvidenceIsTransferable
transferable game roots x session fit h keys made are =
    shows_more game roots x session fit h keys made are
