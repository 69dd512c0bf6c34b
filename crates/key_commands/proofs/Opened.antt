-- Opened: the files of the commands are read one after the other.
use Rattle.std.proofs.Common.{◌≡◌, ◌<◌, ℕ, true, false, List, [], ◌∷◌, Option, refl, ap, sym, ◌∙◌, subst, nat_lt}
use Rattle.std.specs.Prelude.{Result, Ok, Err}
use Rattle.definitions.specs.declared.frames.TurnFrame.{TurnFrame}
use Rattle.definitions.specs.World.{Game, players_of}
use Rattle.definitions.specs.Logs as L
use Rattle.definitions.specs.Honest.{IsHonest}
use Rattle.station.specs.Shelves.{ShelfState}
use Rattle.line_io.specs.Files.{Contents, behind_first, content}
use Rattle.peer_core.specs.Views.{PeerState}
use Rattle.old_log.specs.Resumed.{IsWhole}
use Rattle.run_frame.specs.Frame.{is_input_fault}
use Rattle.run_frame.specs.Opening.{IsDueFor, Opens}
use Rattle.run_frame.specs.Sessions.{game_for, is_shelf_fault, with_player}
use Rattle.run_frame.specs.declared.statuses.Status.{Status}
use Rattle.run_frame.specs.declared.statuses.Status.TheVariants.{Usage}
use Rattle.run_frame.proofs.Opening.{reads_first, reads_then, refused_on}
use Rattle.key_commands.specs.declared.opening.KeySource.{KeySource}
use Rattle.key_commands.specs.declared.opening.SealSource.{SealSource}
use Rattle.key_commands.specs.Due.{AreKeysDue, AreSourcesDue, IsPeerFor, IsPeerOf, OpensKeys, OpensSealing, ReadsAfterSession}
use Rattle.key_commands.specs.Opened.{Keyed, MayReadEach, MayReadLog, MayReadSeed, Sealed, after_seed, after_session, keyed_for, made_in, made_unless, seed_then, sealed_for, session_then, with_made, with_seed}
use Rattle.key_commands.specs.Seeds.{seed_in}
use Rattle.key_commands.specs.Words.{Keying, Sealing}

-- the player is one of the session, or none
pub player_in : (player : ℕ) (game : Game) (r : Result Game Status) → r ≡ Ok game → nat_lt player (players_of game) ≡ true → with_player player r ≡ Ok game
player_in player game r e within = rw (e, within) refl

pub player_out : (player : ℕ) (game : Game) (r : Result Game Status) → r ≡ Ok game → nat_lt player (players_of game) ≡ false → with_player player r ≡ Err Usage
player_out player game r e out = rw (e, out) refl

-- whenever
abbrev Whenever : Contents → ℕ → Type 0
Whenever contents n = Unit {0}

-- ---- a session and a seed

module _ (k : Keying) (a b : ShelfState) where
  pub no_session : (status : Status) → Opens a b k.session (is_input_fault status) (λ content. IsDueFor (game_for k.player content) (Err status)) → OpensKeys k a b (Err status)
  no_session status o =
      reads_first a b k.session (k.seed ∷ []) _ (MayReadSeed k.player) (λ contents. AreKeysDue k (keyed_for k contents) (Err status)) _ o
      (λ contents. tt)
      (λ contents h. refused_on (λ g. after_session g (behind_first contents)) (λ s. refl) (game_for k.player (content contents 0)) status h)

  module _ (c : ShelfState) (game : Game) (o : Opens a b k.session false (λ content. game_for k.player content ≡ Ok game)) where
    seed_read : (seed : Result (List ℕ) Status) (keys : Result KeySource Status) → Opens b c k.seed (is_shelf_fault keys) (λ content. IsDueFor (seed_in content) seed) →
        ((due : Result (List ℕ) Status) → IsDueFor due seed → AreKeysDue k (with_seed game due) keys) → OpensKeys k a c keys
    seed_read seed keys x due =
        reads_then a b k.session (k.seed ∷ []) _ (MayReadSeed k.player) (λ contents. AreKeysDue k (keyed_for k contents) keys) c (is_shelf_fault keys)
        Whenever (λ contents. IsDueFor (seed_in (content contents 0)) seed) o
        (reads_first b c k.seed [] _ Whenever (λ contents. IsDueFor (seed_in (content contents 0)) seed) _ x (λ contents. tt) (λ contents h. h))
        (λ contents. tt) (λ contents h n w. (game, h))
        (λ contents h d. subst (λ (g : Result Game Status). AreKeysDue k (after_session g (behind_first contents)) keys) (sym h) (due _ d))

    pub no_seed : (status : Status) → Opens b c k.seed (is_input_fault status) (λ content. IsDueFor (seed_in content) (Err status)) → OpensKeys k a c (Err status)
    no_seed status x = seed_read (Err status) (Err status) x (λ due h. refused_on (with_seed game) (λ s. refl) due status h)

    pub a_seed : (seed : List ℕ) (source : KeySource) → source.session ≡ game → source.seed ≡ seed → k.player < players_of game →
        Opens b c k.seed false (λ content. IsDueFor (seed_in content) (Ok seed)) → OpensKeys k a c (Ok source)
    a_seed seed source session_is seed_is within x = seed_read (Ok seed) (Ok source) x (λ due h. record {
      due_is = ap (with_seed game) h ∙ ap (λ (s : List ℕ). let keyed : Result Keyed Status = Ok (record { game = game; seed = s }) in keyed) (sym seed_is)
          ∙ ap (λ (g : Game). let keyed : Result Keyed Status = Ok (record { game = g; seed = source.seed }) in keyed) (sym session_is);
      player_is = subst (λ (g : Game). k.player < players_of g) (sym session_is) within;
    })

-- ---- a log

-- a peer of a whole log made what the log says
pub whole_peer : (game : Game) (player : ℕ) (bytes : List ℕ) (peer : PeerState) → IsWhole game player bytes peer → IsPeerOf game player bytes peer
whole_peer game player bytes peer w = record {
  due_is = ap (made_unless game bytes) w.fit ∙ ap (λ (p : PeerState). let made : Result (List TurnFrame) Status = Ok (L.made p.entries) in made) (sym w.peer_is);
  game_is = ap (λ (p : PeerState). p.game) w.peer_is;
  player_is = ap (λ (p : PeerState). p.me) w.peer_is;
}

-- ---- the seed and the log, after the session

module _ (s : Sealing) (game : Game) (a b : ShelfState) where
  pub no_seed_then : (status : Status) → Opens a b s.keys.seed (is_input_fault status) (λ content. IsDueFor (seed_in content) (Err status)) → ReadsAfterSession s game a b (Err status)
  no_seed_then status o =
      reads_first a b s.keys.seed (s.log ∷ []) _ MayReadLog (λ contents. AreSourcesDue s (seed_then game s.keys.player contents) (Err status)) _ o
      (λ contents. tt)
      (λ contents h. refused_on (λ d. after_seed game s.keys.player d (behind_first contents)) (λ e. refl) (seed_in (content contents 0)) status h)

  module _ (c : ShelfState) (seed : List ℕ) (o : Opens a b s.keys.seed false (λ content. seed_in content ≡ Ok seed)) where
    log_read : (peer : Result PeerState Status) (sources : Result SealSource Status) → Opens b c s.log (is_shelf_fault sources) (λ content. IsPeerFor game s.keys.player content peer) →
        ((content : Option (List ℕ)) → IsPeerFor game s.keys.player content peer → AreSourcesDue s (with_made (record { game = game; seed = seed }) (made_in game s.keys.player content)) sources) →
        ReadsAfterSession s game a c sources
    log_read peer sources x due =
        reads_then a b s.keys.seed (s.log ∷ []) _ MayReadLog (λ contents. AreSourcesDue s (seed_then game s.keys.player contents) sources) c (is_shelf_fault sources)
        Whenever (λ contents. IsPeerFor game s.keys.player (content contents 0) peer) o
        (reads_first b c s.log [] _ Whenever (λ contents. IsPeerFor game s.keys.player (content contents 0) peer) _ x (λ contents. tt) (λ contents h. h))
        (λ contents. tt) (λ contents h n w. (seed, h))
        (λ contents h d. subst (λ (r : Result (List ℕ) Status). AreSourcesDue s (after_seed game s.keys.player r (behind_first contents)) sources) (sym h) (due _ d))

    pub no_log : (status : Status) → Opens b c s.log (is_input_fault status) (λ content. IsPeerFor game s.keys.player content (Err status)) → ReadsAfterSession s game a c (Err status)
    no_log status x =
        log_read (Err status) (Err status) x (λ content h. refused_on (with_made (record { game = game; seed = seed })) (λ e. refl) (made_in game s.keys.player content) status h)

    pub a_log : (peer : PeerState) (source : SealSource) → source.peer ≡ peer → source.seed ≡ seed → s.keys.player < players_of game → IsHonest game s.keys.player peer.entries →
        Opens b c s.log false (λ content. IsPeerFor game s.keys.player content (Ok peer)) → ReadsAfterSession s game a c (Ok source)
    a_log peer source peer_is seed_is within honest x = log_read (Ok peer) (Ok source) x (λ content h.
        let game_is : source.peer.game ≡ game = ap (λ (p : PeerState). p.game) peer_is ∙ h.game_is in
        let me_is : source.peer.me ≡ s.keys.player = ap (λ (p : PeerState). p.me) peer_is ∙ h.player_is in
        let made : L.made peer.entries ≡ L.made source.peer.entries = ap (λ (p : PeerState). L.made p.entries) (sym peer_is) in
        record {
          due_is = ap (with_made (record { game = game; seed = seed })) h.due_is
              ∙ ap (λ (fs : List TurnFrame). let x : Result Sealed Status = Ok (record { keys = record { game = game; seed = seed }; made = fs }) in x) made
              ∙ ap (λ (t : List ℕ). let x : Result Sealed Status = Ok (record { keys = record { game = game; seed = t }; made = L.made source.peer.entries }) in x) (sym seed_is)
              ∙ ap (λ (g : Game). let x : Result Sealed Status = Ok (record { keys = record { game = g; seed = source.seed }; made = L.made source.peer.entries }) in x) (sym game_is);
          player_is = me_is;
          seated = subst (λ (q : ℕ). q < players_of source.peer.game) (sym me_is) (subst (λ (g : Game). s.keys.player < players_of g) (sym game_is) within);
          honest = subst (λ (p : PeerState). IsHonest source.peer.game source.peer.me p.entries) (sym peer_is)
              (subst (λ (q : ℕ). IsHonest source.peer.game q peer.entries) (sym me_is) (subst (λ (g : Game). IsHonest g s.keys.player peer.entries) (sym game_is) honest));
        })

-- ---- the session, and then the rest

module _ (s : Sealing) (a b : ShelfState) where
  pub no_session_then : (status : Status) → Opens a b s.keys.session (is_input_fault status) (λ content. IsDueFor (game_for s.keys.player content) (Err status)) → OpensSealing s a b (Err status)
  no_session_then status o =
      reads_first a b s.keys.session (s.keys.seed ∷ s.log ∷ []) _ (MayReadEach s.keys.player) (λ contents. AreSourcesDue s (sealed_for s contents) (Err status)) _ o
      (λ contents. tt)
      (λ contents h. refused_on (λ g. session_then g s.keys.player (behind_first contents)) (λ e. refl) (game_for s.keys.player (content contents 0)) status h)

  pub a_session_then : (c : ShelfState) (game : Game) (sources : Result SealSource Status) → Opens a b s.keys.session false (λ content. game_for s.keys.player content ≡ Ok game) →
      ReadsAfterSession s game b c sources → OpensSealing s a c sources
  a_session_then c game sources o rest =
      reads_then a b s.keys.session (s.keys.seed ∷ s.log ∷ []) _ (MayReadEach s.keys.player) (λ contents. AreSourcesDue s (sealed_for s contents) sources) c (is_shelf_fault sources)
      MayReadLog (λ contents. AreSourcesDue s (seed_then game s.keys.player contents) sources) o rest
      (λ contents. tt) (λ contents h n w. ((game, h), w))
      (λ contents h due. subst (λ (g : Result Game Status). AreSourcesDue s (session_then g s.keys.player (behind_first contents)) sources) (sym h) due)
