-- Due: what was opened is what is due by the files.
use Rattle.std.specs.Prelude.{◌≡◌, ℕ, ◌<◌, List, [], ◌∷◌, Option, Result, Ok, Err}
use Rattle.definitions.specs.World.{Game, players_of}
use Rattle.definitions.specs.Logs as L
use Rattle.definitions.specs.Honest.{IsHonest}
use Rattle.station.specs.Shelves.{ShelfState}
use Rattle.old_log.specs.Begun.{log_front_of}
use Rattle.old_log.specs.Old.{whole_fault}
use Rattle.peer_core.specs.Views.{PeerState}
use Rattle.run_frame.specs.Opening.{IsRefusedBy, Reads}
use Rattle.run_frame.specs.Sessions.{is_shelf_fault}
use Rattle.run_frame.specs.declared.statuses.Status.{Status}
use Rattle.key_commands.specs.declared.opening.KeySource.{KeySource}
use Rattle.key_commands.specs.declared.opening.SealSource.{SealSource}
use Rattle.key_commands.specs.Opened.{Keyed, MayReadEach, MayReadLog, MayReadSeed, Sealed, keyed_for, made_unless, seed_then, sealed_for}
use Rattle.key_commands.specs.Words.{Keying, Sealing}

-- ---- a session and a seed

-- These are what is due, and the player is one of the session.
pub record AreKeys (k : Keying) (due : Result Keyed Status) (s : KeySource) : Type 0 where
  pub due_is : due ≡ Ok (record { game = s.session; seed = s.seed })
  pub player_is : k.player < players_of s.session

abbrev pub AreKeysDue : Keying → Result Keyed Status → Result KeySource Status → Type 0
AreKeysDue k due (Ok s) = AreKeys k due s
AreKeysDue k due (Err status) = IsRefusedBy due status

-- The session was read, and then the seed.
abbrev pub OpensKeys : Keying → (before after : ShelfState) → Result KeySource Status → Type 0
OpensKeys k before after keys =
    Reads before after (k.session ∷ k.seed ∷ []) (is_shelf_fault keys) (MayReadSeed k.player) (λ contents. AreKeysDue k (keyed_for k contents) keys)

-- ---- a log

-- The peer is the player's in this session, and its log made what is due.
pub record IsPeerOf (game : Game) (player : ℕ) (bytes : List ℕ) (peer : PeerState) : Type 0 where
  pub due_is : made_unless game bytes (whole_fault game player bytes) ≡ Ok (L.made peer.entries)
  pub game_is : peer.game ≡ game
  pub player_is : peer.me ≡ player

abbrev pub IsPeerDue : Game → (player : ℕ) → (bytes : List ℕ) → Result PeerState Status → Type 0
IsPeerDue game player bytes (Ok peer) = IsPeerOf game player bytes peer
IsPeerDue game player bytes (Err status) = IsRefusedBy (made_unless game bytes (whole_fault game player bytes)) status

-- the same by the log's file
abbrev pub IsPeerFor : Game → (player : ℕ) → Option (List ℕ) → Result PeerState Status → Type 0
IsPeerFor game player content peer = IsPeerDue game player (log_front_of content) peer

-- ---- all of it

-- These are what is due: the peer is the player's, and it played fair.
pub record AreSources (s : Sealing) (due : Result Sealed Status) (sources : SealSource) : Type 0 where
  pub due_is : due ≡ Ok (record { keys = record { game = sources.peer.game; seed = sources.seed }; made = L.made sources.peer.entries })
  pub player_is : sources.peer.me ≡ s.keys.player
  pub seated : sources.peer.me < players_of sources.peer.game
  pub honest : IsHonest sources.peer.game sources.peer.me sources.peer.entries

abbrev pub AreSourcesDue : Sealing → Result Sealed Status → Result SealSource Status → Type 0
AreSourcesDue s due (Ok sources) = AreSources s due sources
AreSourcesDue s due (Err status) = IsRefusedBy due status

-- The seed was read, and then the log.
abbrev pub ReadsAfterSession : Sealing → Game → (before after : ShelfState) → Result SealSource Status → Type 0
ReadsAfterSession s game before after sources =
    Reads before after (s.keys.seed ∷ s.log ∷ []) (is_shelf_fault sources) MayReadLog (λ contents. AreSourcesDue s (seed_then game s.keys.player contents) sources)

-- The session was read, and then the seed and the log.
abbrev pub OpensSealing : Sealing → (before after : ShelfState) → Result SealSource Status → Type 0
OpensSealing s before after sources =
    Reads before after (s.keys.session ∷ s.keys.seed ∷ s.log ∷ []) (is_shelf_fault sources) (MayReadEach s.keys.player) (λ contents. AreSourcesDue s (sealed_for s contents) sources)
