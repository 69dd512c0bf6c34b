-- Laws: what holds of every history.
use Rattle.std.specs.Prelude.{◌≡◌, ◌⊎◌, ◌<◌, ◌≤◌, ℕ, Bool, true, false, ◌||◌, List, [], ◌∷◌, ◌++◌, Some, is_some, IsTrue, slice_get}
use Rattle.definitions.specs.declared.frames.TurnFrame.{TurnFrame}
use Rattle.definitions.specs.declared.frames.TurnFrame.TheVariants as F
use Rattle.definitions.specs.declared.world.Move.{Move}
use Rattle.definitions.specs.declared.openings.Nonce.{Nonce}
use Rattle.definitions.specs.declared.openings.Digest.{Digest}
use Rattle.definitions.specs.declared.logs.Entry.{Entry}
use Rattle.definitions.specs.declared.logs.Entry.TheVariants.{Made, Got}
use Rattle.definitions.specs.Logs.{player_of}
use Rattle.definitions.specs.World.{players_of}
use Rattle.definitions.specs.Held.{held}
use Rattle.definitions.specs.Meets.{meets}
use Rattle.definitions.specs.Honest.{IsHonest}
use Rattle.definitions.specs.Findings.{is_clean}
use Rattle.definition_laws.specs.Members.{Has}
use Rattle.wire_frames.specs.declared.frames.Frame.{Frame}
use Rattle.wire_frames.specs.declared.frames.Frame.TheVariants.{Hello, Turn, Want}
use Rattle.wire_frames.specs.Spelling.{spelling}
use Rattle.wire_frames.specs.Streams.{given_of}
use Rattle.socket_station.specs.declared.answers.Ready.{Ready}
use Rattle.socket_station.specs.Items.{Item, Call, PollCall, SyncCall, Polled, Took, Gave, Synced, Failed}
use Rattle.socket_station.specs.Faults.{is_poll_call, is_keep_call}
use Rattle.socket_station.specs.Moved.{kept_in}
use Rattle.socket_station.specs.Standings.{OpensNew}
use Rattle.session_log.specs.Spelling.{log_bytes}
use Rattle.peer_rules.specs.declared.phases.Phase.TheVariants.{Running}
use Rattle.peer_rules.specs.Passes.{IsWanted}
use Rattle.loop_rules.specs.Settings.{Setting}
use Rattle.socket_lines.specs.declared.line.Line.{Line}
use Rattle.loop_rules.specs.Tables.{line_of}
use Rattle.loop_rules.specs.Views.{View, safe_frames}
use Rattle.loop_rules.specs.After.{after, view_of}
use Rattle.loop_rules.specs.Licence.{IsLicensed}
use Rattle.loop_rules.specs.Rules.{IsAllowed, due_of, is_front}
use Rattle.loop_rules.specs.Histories.{IsHistory, log_name}
use Rattle.loop_rules.specs.Told.{IsTold}

-- what was told up to some moment is a history
abbrev pub PrefixesAreHistories : Type 0
PrefixesAreHistories = (s : Setting) (items more : List Item) → IsHistory s (items ++ more) → IsHistory s items

-- each item is one that may come behind those before it, and such items make a history
abbrev pub ItemsAreAllowed : Type 0
ItemsAreAllowed = (s : Setting) (items more : List Item) (item : Item) → IsHistory s (items ++ item ∷ more) → IsAllowed (view_of s items) item

abbrev pub AllowedItemsAreAdded : Type 0
AllowedItemsAreAdded = (s : Setting) (items : List Item) (item : Item) → IsHistory s items → IsAllowed (view_of s items) item → IsHistory s (items ++ item ∷ [])

-- an item that is allowed, and of whose sockets none was used before, is told on
abbrev pub ToldGoesOn : Type 0
ToldGoesOn = (items : List Item) (v : View) (item : Item) → IsTold items v → OpensNew items item → IsAllowed v item → IsTold (items ++ item ∷ []) (after v item)

-- each poll is licensed, one that fails too
abbrev pub PollsAreLicensed : Type 0
PollsAreLicensed = (s : Setting) (items more : List Item) (list : List Ready) → IsHistory s (items ++ Polled list ∷ more) → IsLicensed (view_of s items)

abbrev pub FailedPollsAreLicensed : Type 0
FailedPollsAreLicensed = (s : Setting) (items more : List Item) → IsHistory s (items ++ Failed PollCall ∷ more) → IsLicensed (view_of s items)

-- the failure of such a call ends the run: of `listen` or `poll`, of `log_to`, `keep` or `sync`
abbrev pub ends_run : Call → Bool
ends_run call = is_poll_call call || is_keep_call call

-- after such a failure nothing stands
abbrev pub FaultsAreLast : Type 0
FaultsAreLast = (s : Setting) (items more : List Item) (call : Call) → ends_run call ≡ true → IsHistory s (items ++ Failed call ∷ more) → more ≡ []

-- the own frame is one of these; a HELLO or a WANT is none
abbrev pub IsOwnOf : (safe : List TurnFrame) → Frame → Type 0
IsOwnOf safe (Hello id q pass next) = Unit {0}
IsOwnOf safe (Turn f) = (place : ℕ) × (slice_get safe place ≡ Some f)
IsOwnOf safe (Want place) = Unit {0}

-- the bytes are the first ones of a frame, of own frames of one of these alone
abbrev pub BeginsFrame : (safe : List TurnFrame) → (bytes : List ℕ) → Type 0
BeginsFrame safe bytes = (f : Frame) × IsOwnOf safe f × IsTrue (is_front bytes (spelling f))

-- the bytes go on with what is left of a frame that was begun, or begin one
abbrev pub GoesOn : (safe : List TurnFrame) → Line → (bytes : List ℕ) → Type 0
GoesOn safe l bytes = IsTrue (is_front bytes l.unsent) ⊎ ((l.unsent ≡ []) × BeginsFrame safe bytes)

-- bytes are given on a socket that was opened, and they are the first ones of those that go out next on it: what is left of the frame that was
-- begun, or the front of a frame, of own ones of those alone that were kept and then synced before
abbrev pub GivenIsDue : Type 0
GivenIsDue = (s : Setting) (items more : List Item) (socket : ℕ) (bytes : List ℕ) → IsHistory s (items ++ Gave socket bytes ∷ more) →
    (l : Line) × (line_of (view_of s items).table socket ≡ Some l) × IsTrue (is_front bytes (due_of (view_of s items) l)) ×
    GoesOn (safe_frames (view_of s items)) l bytes

-- the bytes kept, joined, are those of one log: of the entries that are shown as kept
abbrev pub KeptBytesAreTheLog : Type 0
KeptBytesAreTheLog = (s : Setting) (items : List Item) → IsHistory s items → kept_in items ≡ log_bytes s.game.id s.me (view_of s items).kept

-- the first item begins a log, or is the failure of that
abbrev pub LogsAreBegunFirst : Type 0
LogsAreBegunFirst = (s : Setting) (item : Item) (more : List Item) → IsHistory s (item ∷ more) → IsTrue (is_some (log_name item))

-- a sync, done or failed
abbrev pub IsSync : Item → Type 0
IsSync Synced = Unit {0}
IsSync (Failed SyncCall) = Unit {0}
IsSync _ = ⊥

-- while the loop listens, nothing stands behind a log with a finding but a sync of it
abbrev pub FindingsAreLast : Type 0
FindingsAreLast = (s : Setting) (items more : List Item) (item : Item) → (view_of s items).phase ≡ Running → is_clean (view_of s items).setting.game (view_of s items).kept ≡ false →
    IsHistory s (items ++ item ∷ more) → IsSync item

-- the log kept is one that an honest peer may have, where the entries taken over are
abbrev pub KeptIsHonest : Type 0
KeptIsHonest = (s : Setting) (items : List Item) → IsHonest s.game s.me s.over → IsHistory s items → IsHonest s.game s.me (view_of s items).kept

-- a reveal that is kept stands in the log behind a received commitment of each other player whose sphere met the own one in that turn
abbrev pub RevealsKeptStandBehind : Type 0
RevealsKeptStandBehind = (s : Setting) (items : List Item) (g rest : List Entry) (t q : ℕ) (m : Move) (n : Nonce) → 1 ≤ s.game.ahead →
    IsHonest s.game s.me s.over → IsHistory s items → (view_of s items).kept ≡ g ++ Made (F.Reveal s.me t m n) ∷ rest →
    q < players_of s.game → (q ≡ s.me → ⊥) → IsTrue (meets s.game s.me g q t) →
    (d : Digest) × (held s.game s.me g q t ≡ Some d) × Has g (Got q (F.Commit q t d))

-- the item took, on this socket, the bytes that made these frames whole
abbrev pub Brings : View → Item → (socket : ℕ) → List Frame → Type 0
Brings v (Took n bytes) socket frames = (n ≡ socket) × ((l : Line) × (line_of v.table n ≡ Some l) × ((given_of l.reader bytes).frames ≡ frames))
Brings v _ socket frames = ⊥

-- one of the frames is a HELLO of the session and this player, with the pass wanted of it
pub record HasHello (s : Setting) (q : ℕ) (frames : List Frame) : Type 0 where
  pub pass : List ℕ
  pub next : ℕ
  pub wanted : IsWanted s.roster q pass
  pub stands : Has frames (Hello s.game.id q pass next)

-- one of the items took the bytes that made such a HELLO whole on the socket
pub record IsGreeted (s : Setting) (items : List Item) (socket q : ℕ) : Type 0 where
  pub before : List Item
  pub item : Item
  pub more : List Item
  pub stands : items ≡ before ++ item ∷ more
  pub frames : List Frame
  pub brought : Brings (view_of s before) item socket frames
  pub hello : HasHello s q frames

-- One of the items took the bytes that made the frame whole, on a socket on which such a HELLO of the frame's player had come: by an item before
-- it, or as a frame before it.
pub record IsBrought (s : Setting) (items : List Item) (f : TurnFrame) : Type 0 where
  pub before : List Item
  pub item : Item
  pub more : List Item
  pub stands : items ≡ before ++ item ∷ more
  pub socket : ℕ
  pub front : List Frame
  pub back : List Frame
  pub brought : Brings (view_of s before) item socket (front ++ Turn f ∷ back)
  pub greeted : IsGreeted s before socket (player_of f) ⊎ HasHello s (player_of f) front

-- a frame that is logged as received stands in the entries taken over, or bytes were taken before that made it whole, on a socket that its player's
-- pass had named
abbrev pub ReceiptsStandBehind : Type 0
ReceiptsStandBehind = (s : Setting) (items : List Item) (q : ℕ) (f : TurnFrame) → IsHistory s items → Has (view_of s items).kept (Got q f) →
    Has s.over (Got q f) ⊎ IsBrought s items f

-- the commitment was received: it stands in the entries taken over, or these items took the bytes that made it whole, on a socket that its player's
-- pass had named
abbrev pub IsReceivedIn : Setting → List Item → (q t : ℕ) → Digest → Type 0
IsReceivedIn s items q t d = Has s.over (Got q (F.Commit q t d)) ⊎ IsBrought s items (F.Commit q t d)

-- An own reveal that may be given stands in the log kept, after these entries. By them, of each other
-- player whose sphere met the own one a commitment to that turn is held, which was received before.
pub record IsFair (s : Setting) (items : List Item) (t : ℕ) (m : Move) (n : Nonce) : Type 0 where
  pub before : List Entry
  pub rest : List Entry
  pub stands : (view_of s items).kept ≡ before ++ Made (F.Reveal s.me t m n) ∷ rest
  pub received : (q : ℕ) → q < players_of s.game → (q ≡ s.me → ⊥) → IsTrue (meets s.game s.me before q t) →
      (d : Digest) × (held s.game s.me before q t ≡ Some d) × IsReceivedIn s items q t d

abbrev pub RevealsGivenAreFair : Type 0
RevealsGivenAreFair = (s : Setting) (items : List Item) (place t : ℕ) (m : Move) (n : Nonce) → 1 ≤ s.game.ahead → IsHonest s.game s.me s.over → IsHistory s items →
    slice_get (safe_frames (view_of s items)) place ≡ Some (F.Reveal s.me t m n) → IsFair s items t m n
