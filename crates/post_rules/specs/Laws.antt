-- Laws: what holds of every history.
use Rattle.std.specs.Prelude.{◌≡◌, ◌<◌, ◌≤◌, ℕ, Bool, true, ◌||◌, List, [], ◌∷◌, ◌++◌, Option, Some, IsTrue, length, slice_get}
use Rattle.definitions.specs.declared.frames.TurnFrame.{TurnFrame}
use Rattle.definitions.specs.declared.frames.TurnFrame.TheVariants as F
use Rattle.definitions.specs.declared.world.Move.{Move}
use Rattle.definitions.specs.declared.openings.Nonce.{Nonce}
use Rattle.definitions.specs.declared.openings.Digest.{Digest}
use Rattle.definitions.specs.declared.logs.Entry.{Entry}
use Rattle.definitions.specs.declared.logs.Entry.TheVariants.{Made, Got}
use Rattle.definitions.specs.World.{players_of}
use Rattle.definitions.specs.Held.{held, resolved}
use Rattle.definitions.specs.Openings.{commitment}
use Rattle.definitions.specs.Logs.{made}
use Rattle.definitions.specs.Meets.{meets}
use Rattle.definitions.specs.Honest.{IsHonest}
use Rattle.definition_laws.specs.Members.{Has}
use Rattle.letters.specs.declared.letter.Letter.{Letter}
use Rattle.letters.specs.Reading.{letter_in}
use Rattle.letters.specs.Spelling.{letter_bytes}
use Rattle.session_log.specs.Spelling.{log_bytes}
use Rattle.socket_station.specs.declared.answers.Addr.{Addr}
use Rattle.datagram_post.specs.Items.{Item, Call, PollCall, Polled, Took, Gave, Failed}
use Rattle.datagram_post.specs.Faults.{is_poll_call, is_keep_call}
use Rattle.datagram_post.specs.Moved.{kept_in}
use Rattle.peer_rules.specs.Passes.{IsWanted}
use Rattle.peer_rules.specs.Addresses.{told_addr}
use Rattle.post_rules.specs.declared.partners.Partner.{Partner}
use Rattle.post_rules.specs.Views.{Setting, View, start, anew}
use Rattle.post_rules.specs.After.{view_after}
use Rattle.post_rules.specs.Sending.{batch, letter_to}
use Rattle.post_rules.specs.Licence.{may_send, IsLicensed}
use Rattle.post_rules.specs.Rules.{is_mail, is_allowed}
use Rattle.post_rules.specs.Histories.{are_allowed, are_stretches}

-- each poll is licensed
abbrev pub PollsAreLicensed : Type 0
PollsAreLicensed = (v : View) (items more : List Item) → are_allowed v (items ++ Polled ∷ more) ≡ true → IsLicensed (view_after v items)

-- and so is each poll that fails
abbrev pub FailedPollsAreLicensed : Type 0
FailedPollsAreLicensed = (v : View) (items more : List Item) → are_allowed v (items ++ Failed PollCall ∷ more) ≡ true → IsLicensed (view_after v items)

-- the failure of such a call ends the run: of `bind` or `poll`, of `log_to`, `keep` or `sync`
abbrev pub ends_run : Call → Bool
ends_run call = is_poll_call call || is_keep_call call

-- after such a failure nothing stands
abbrev pub FaultsAreLast : Type 0
FaultsAreLast = (v : View) (items more : List Item) (call : Call) → ends_run call ≡ true → are_allowed v (items ++ Failed call ∷ more) ≡ true → more ≡ []

-- The datagram is the next one of its batch. All that came is handled, and all of the log is kept
-- and synced.
pub record IsDue (v : View) (addr : Addr) (bytes : List ℕ) : Type 0 where
  pub ready : IsTrue (may_send v)
  pub next : IsTrue (is_mail (slice_get (batch v) v.settling.sent) addr bytes)

-- each datagram that is given is due
abbrev pub GivenIsDue : Type 0
GivenIsDue = (v : View) (items more : List Item) (addr : Addr) (bytes : List ℕ) → are_allowed v (items ++ Gave addr bytes ∷ more) ≡ true → IsDue (view_after v items) addr bytes

-- the bytes kept, joined, are those of one log: of the entries that are shown as kept
abbrev pub KeptBytesAreTheLog : Type 0
KeptBytesAreTheLog = (s : Setting) (items : List Item) → are_allowed (start s) items ≡ true → kept_in items ≡ log_bytes s.game.id s.me (view_after (start s) items).kept

-- the log kept is one that an honest peer may have
abbrev pub KeptIsHonest : Type 0
KeptIsHonest = (v : View) (items : List Item) → IsHonest v.setting.game v.setting.me v.kept → are_allowed v items ≡ true →
    IsHonest v.setting.game v.setting.me (view_after v items).kept

-- ---- a whole run: its earlier stretches, and the items told so far in the last one

-- what the stretches show where the next one begins
abbrev pub begin_view : View → List (List Item) → View
begin_view v [] = v
begin_view v (items ∷ more) = begin_view (anew (view_after v items)) more

-- all items of the stretches
abbrev pub joined : List (List Item) → List Item
joined [] = []
joined (items ∷ more) = items ++ joined more

-- what a run shows after these items of its last stretch
abbrev pub view_at : Setting → List (List Item) → List Item → View
view_at s front items = view_after (begin_view (start s) front) items

-- the earlier stretches and the items so far of the last one go by the rules
abbrev pub IsRun : Setting → List (List Item) → List Item → Type 0
IsRun s front items = (are_stretches (start s) front ≡ true) × (are_allowed (begin_view (start s) front) items ≡ true)

-- the datagram has the session's id and the pass wanted of the player, and brings this frame
pub record Brings (s : Setting) (bytes : List ℕ) (q : ℕ) (f : TurnFrame) : Type 0 where
  pub letter : Letter
  pub reads : letter_in bytes ≡ Some letter
  pub session : letter.id ≡ s.game.id
  pub player : letter.player ≡ q
  pub wanted : IsWanted s.roster q letter.pass
  pub frame : letter.frame ≡ Some f

-- one of the items took such a datagram
pub record IsBrought (s : Setting) (items : List Item) (q : ℕ) (f : TurnFrame) : Type 0 where
  pub before : List Item
  pub bytes : List ℕ
  pub more : List Item
  pub stands : items ≡ before ++ Took bytes ∷ more
  pub brings : Brings s bytes q f

-- a frame that is logged as received came in a good datagram that was taken before
abbrev pub ReceiptsStandBehind : Type 0
ReceiptsStandBehind = (s : Setting) (front : List (List Item)) (items : List Item) (q : ℕ) (f : TurnFrame) → IsRun s front items →
    Has (view_at s front items).kept (Got q f) → IsBrought s (joined front ++ items) q f

-- the log kept in a run is one that an honest peer may have
abbrev pub RunsAreHonest : Type 0
RunsAreHonest = (s : Setting) (front : List (List Item)) (items : List Item) → IsRun s front items → IsHonest s.game s.me (view_at s front items).kept

-- An own reveal stands in the log kept, behind these entries. For each other player whose sphere
-- met the own one by them, the commitment held is one that was received before.
pub record IsFair (s : Setting) (h : List Entry) (items : List Item) (t : ℕ) (m : Move) (n : Nonce) : Type 0 where
  pub before : List Entry
  pub rest : List Entry
  pub stands : h ≡ before ++ Made (F.Reveal s.me t m n) ∷ rest
  pub received : (q : ℕ) → q < players_of s.game → (q ≡ s.me → ⊥) → IsTrue (meets s.game s.me before q t) →
      (d : Digest) × (held s.game s.me before q t ≡ Some d) × Has before (Got q (F.Commit q t d)) × IsBrought s items q (F.Commit q t d)

-- What is given at a moment is a greeting of the own number, to a player of the roster, with the
-- place that the log kept wants of it. Behind it stands nothing or an own frame of the log, which
-- is synced. Where that is a reveal, it is fair.
pub record IsGiven (s : Setting) (v : View) (items : List Item) (addr : Addr) (bytes : List ℕ) : Type 0 where
  pub partner : Partner
  pub among : Has s.roster.links partner.link
  pub to : addr ≡ told_addr partner.link.addr
  pub frame : Option TurnFrame
  pub spelled : bytes ≡ letter_bytes (letter_to s.game s.me v.kept partner frame)
  pub synced : v.synced ≡ length v.kept
  pub own : (f : TurnFrame) → frame ≡ Some f → Has (made v.kept) f
  pub fair : (t : ℕ) (m : Move) (n : Nonce) → frame ≡ Some (F.Reveal s.me t m n) → IsFair s v.kept items t m n

-- a datagram that may be given says so of the log kept
abbrev pub GivenStandsBehind : Type 0
GivenStandsBehind = (s : Setting) (front : List (List Item)) (items : List Item) (addr : Addr) (bytes : List ℕ) → 1 ≤ s.game.ahead → IsRun s front items →
    is_allowed (view_at s front items) (Gave addr bytes) ≡ true → IsGiven s (view_at s front items) (joined front ++ items) addr bytes

-- the bytes kept in a run, joined, are those of one log: of the entries that are shown as kept
abbrev pub RunsKeepTheLog : Type 0
RunsKeepTheLog = (s : Setting) (front : List (List Item)) (items : List Item) → IsRun s front items →
    kept_in (joined front ++ items) ≡ log_bytes s.game.id s.me (view_at s front items).kept

-- A move that the log of a run accepts of another player opens the commitment held. Both frames
-- came in good datagrams that were taken before.
abbrev pub MovesAcceptedOpen : Type 0
MovesAcceptedOpen = (s : Setting) (front : List (List Item)) (items : List Item) (q t : ℕ) (m : Move) → 1 ≤ s.game.ahead → IsRun s front items → (q ≡ s.me → ⊥) →
    resolved s.game s.me (view_at s front items).kept q t ≡ Some m →
    (d : Digest) × (n : Nonce) × (held s.game s.me (view_at s front items).kept q t ≡ Some d) × IsBrought s (joined front ++ items) q (F.Commit q t d) ×
    IsBrought s (joined front ++ items) q (F.Reveal q t m n) × (d ≡ commitment s.game.id (record { player = q; turn = t; mv = m; nonce = n }))
