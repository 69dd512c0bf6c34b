-- Runs: the log kept as the protocol's own run, and all that holds of a whole run in one record.
use Rattle.std.specs.Prelude.{◌≡◌, ◌≤◌, ◌⊎◌, ℕ, true, List, [], ◌∷◌, ◌++◌, Some, None, IsTrue, is_some}
use Rattle.definitions.specs.Lists.{EachIs}
use Rattle.definitions.specs.declared.frames.TurnFrame.{TurnFrame}
use Rattle.definitions.specs.declared.frames.TurnFrame.TheVariants as F
use Rattle.definitions.specs.declared.world.Move.{Move}
use Rattle.definitions.specs.declared.openings.Nonce.{Nonce}
use Rattle.definitions.specs.declared.openings.Digest.{Digest}
use Rattle.definitions.specs.declared.logs.Entry.{Entry}
use Rattle.definitions.specs.declared.logs.Entry.TheVariants.{Got}
use Rattle.definitions.specs.World.{Game}
use Rattle.definitions.specs.Held.{held, resolved}
use Rattle.definitions.specs.Openings.{commitment}
use Rattle.definitions.specs.Honest.{IsHonest}
use Rattle.definitions.specs.Advance.{advance}
use Rattle.definitions.specs.Steps.{log_run}
use Rattle.definition_laws.specs.Members.{Has}
use Rattle.session_log.specs.Spelling.{log_bytes}
use Rattle.socket_station.specs.declared.answers.Addr.{Addr}
use Rattle.datagram_post.specs.Items.{Item, Call, PollCall, Polled, Gave, Failed}
use Rattle.datagram_post.specs.Moved.{kept_in}
use Rattle.peer_rules.specs.Addresses.{told_addr}
use Rattle.peer_rules.specs.Steps.{steps_told}
use Rattle.post_rules.specs.Views.{Setting}
use Rattle.post_rules.specs.Licence.{IsLicensed}
use Rattle.post_rules.specs.Histories.{log_name, bound_addr}
use Rattle.post_rules.specs.Laws.{ends_run, joined, view_at, IsRun, IsBrought, IsGiven}

-- The log, with the own frames that may be made by now, is what the protocol's run comes to that
-- takes as its steps the choices and the frames that came, in their order.
abbrev pub IsLogRun : Game → (me : ℕ) → List Entry → Type 0
IsLogRun game me h = advance game me h ≡ log_run game me (advance game me []) (steps_told h)

-- the log kept in a run is the protocol's own run
abbrev pub LogsAreRuns : Type 0
LogsAreRuns = (s : Setting) (front : List (List Item)) (items : List Item) → 1 ≤ s.game.ahead → IsRun s front items →
    IsLogRun s.game s.me (view_at s front items).kept

-- The run, whose last stretch is `items`, has this item in a stretch behind `before`, and these
-- stretches before that one.
pub record IsMoment (front : List (List Item)) (items : List Item) (earlier : List (List Item)) (before : List Item) (item : Item) : Type 0 where
  pub more : List Item
  pub rest : List (List Item)
  pub stands : front ++ items ∷ [] ≡ earlier ++ (before ++ item ∷ more) ∷ rest

-- a poll, done or failed
abbrev pub IsPoll : Item → Type 0
IsPoll item = (item ≡ Polled) ⊎ (item ≡ Failed PollCall)

-- none of the items begins a log or binds an address, or fails to
abbrev pub BeginsNone : List Item → Type 0
BeginsNone items = EachIs (λ i. (log_name i ≡ None) × (bound_addr i ≡ None)) items

-- the first item, if there is one, binds the own address or fails to, and no other does
abbrev pub BindsFirst : Setting → List Item → Type 0
BindsFirst s [] = Unit {0}
BindsFirst s (item ∷ items) = (bound_addr item ≡ Some (told_addr s.roster.me)) × (log_name item ≡ None) × BeginsNone items

-- The first item, if there is one, begins a log or fails to. The second, if there is one, binds the
-- own address or fails to, and no other item does either.
abbrev pub BeginsFirst : Setting → List Item → Type 0
BeginsFirst s [] = Unit {0}
BeginsFirst s (item ∷ items) = IsTrue (is_some (log_name item)) × BindsFirst s items

-- a move that the log accepts of another player opens the commitment held, and both frames came
pub record IsOpened (s : Setting) (h : List Entry) (items : List Item) (q t : ℕ) (m : Move) : Type 0 where
  pub digest : Digest
  pub nonce : Nonce
  pub held_so : held s.game s.me h q t ≡ Some digest
  pub committed : IsBrought s items q (F.Commit q t digest)
  pub revealed : IsBrought s items q (F.Reveal q t m nonce)
  pub opens : digest ≡ commitment s.game.id (record { player = q; turn = t; mv = m; nonce = nonce })

-- What holds of a whole run. The bytes kept are those of one log, which an honest peer may have and
-- which is the protocol's own run. Each frame in it that was received came in a good datagram that
-- was taken before, and each move that it accepts opens the commitment held. What was given at any
-- moment speaks of the log kept then, and a reveal in it is fair. Each poll was licensed. The log was
-- begun first and the own address bound next, once each, and after a failed call of the log, of that
-- address or of a poll nothing stands.
pub record IsFairRun (s : Setting) (front : List (List Item)) (items : List Item) : Type 0 where
  pub log : kept_in (joined front ++ items) ≡ log_bytes s.game.id s.me (view_at s front items).kept
  pub honest : IsHonest s.game s.me (view_at s front items).kept
  pub run : IsLogRun s.game s.me (view_at s front items).kept
  pub received : (q : ℕ) (f : TurnFrame) → Has (view_at s front items).kept (Got q f) → IsBrought s (joined front ++ items) q f
  pub opened : (q t : ℕ) (m : Move) → (q ≡ s.me → ⊥) → resolved s.game s.me (view_at s front items).kept q t ≡ Some m →
      IsOpened s (view_at s front items).kept (joined front ++ items) q t m
  pub given : (earlier : List (List Item)) (before : List Item) (addr : Addr) (bytes : List ℕ) → IsMoment front items earlier before (Gave addr bytes) →
      IsGiven s (view_at s earlier before) (joined earlier ++ before) addr bytes
  pub polls : (earlier : List (List Item)) (before : List Item) (item : Item) → IsPoll item → IsMoment front items earlier before item →
      IsLicensed (view_at s earlier before)
  pub begins : BeginsFirst s (joined front ++ items)
  pub faults : (earlier : List (List Item)) (before : List Item) (call : Call) → ends_run call ≡ true → (k : IsMoment front items earlier before (Failed call)) →
      (k.more ≡ []) × (joined k.rest ≡ [])

-- every run is fair, where players commit at least a turn ahead, as every session has it
abbrev pub RunsAreFair : Type 0
RunsAreFair = (s : Setting) (front : List (List Item)) (items : List Item) → 1 ≤ s.game.ahead → IsRun s front items → IsFairRun s front items
