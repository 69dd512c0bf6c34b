-- Mails: the datagrams of a post, and what its calls ask the machine and change.
use Rattle.std.specs.Prelude.{◌≡◌, ◌⊎◌, ◌&&◌, ◌==◌, ℕ, Bool, true, false, List, [], ◌∷◌, ◌++◌, Some, None, Result, Ok, Err, is_ok, length, if◌then◌else◌}
use Rattle.socket_station.specs.declared.answers.Addr.{Addr}
use Rattle.datagram_post.specs.declared.answers.Received.{Received}
use Rattle.datagram_post.specs.declared.answers.Received.TheVariants as R
use Rattle.datagram_post.specs.declared.answers.Sent.{Sent}
use Rattle.datagram_post.specs.declared.answers.Sent.TheVariants as S
use Rattle.machine_host.specs.declared.faults.HostFault.{HostFault}
use Rattle.machine_host.specs.declared.faults.HostFault.TheVariants as F
use Rattle.machine_host.specs.Asks as A
use Rattle.machine_host.specs.Asks.{Ask, bytes_of}
use Rattle.post_mio.specs.declared.pace.TheConstants.{PAUSE, REST}

pub record MailState : Type 0 where
  -- what the machine was asked so far
  pub asks : List Ask
  -- whether datagrams are received and sent at an address
  pub is_bound : Bool
  -- whether the last receive since the last poll took a datagram, so that more may be left
  pub has_more : Bool

-- the datagrams of a post that asked for nothing but this yet
abbrev pub fresh : List Ask → MailState
fresh asks = record { asks = asks; is_bound = false; has_more = false }

-- Two objects that waits are made on are made, the address is bound, and the first of them reports
-- that datagrams may be there; or one of these calls failed, and no other followed.
abbrev pub Binds : Addr → (is_done : Bool) → (before after : List Ask) → Type 0
Binds addr true before after =
    after ≡ before ++ A.Selected None ∷ A.Selected None ∷ A.Bound addr None ∷ A.MailboxWatched None ∷ []
Binds addr false before after =
    (fault : HostFault) ×
    ((after ≡ before ++ A.Selected (Some fault) ∷ [])
    ⊎ ((after ≡ before ++ A.Selected None ∷ A.Selected (Some fault) ∷ [])
    ⊎ ((after ≡ before ++ A.Selected None ∷ A.Selected None ∷ A.Bound addr (Some fault) ∷ [])
    ⊎ (after ≡ before ++ A.Selected None ∷ A.Selected None ∷ A.Bound addr None ∷ A.MailboxWatched (Some fault) ∷ []))))

-- it is bound once: a further bind fails, and nothing is asked
abbrev pub BindsTo : (was_bound : Bool) → Addr → (is_done : Bool) → (a b : MailState) → Type 0
BindsTo true addr is_done a b = (is_done ≡ false) × (b ≡ a)
BindsTo false addr is_done a b = Binds addr is_done a.asks b.asks × (b ≡ record a { asks = b.asks; is_bound = is_done })

-- the machine waited at most so long
abbrev pub WaitsFor : (millis : ℕ) → (is_done : Bool) → (before after : List Ask) → Type 0
WaitsFor millis is_done before after =
    (answer : Result (List ℕ) HostFault) × (after ≡ before ++ A.Waited millis answer ∷ []) × (is_done ≡ is_ok answer)

-- how long a poll waits for datagrams: not at all where more may be left
abbrev pub patience_of : (has_more : Bool) → ℕ
patience_of true = 0
patience_of false = PAUSE

-- The machine waited for datagrams, at most so long, and then for a rest: it is done where it could both.
abbrev pub WaitsTwice : (millis : ℕ) → (is_done : Bool) → (before after : List Ask) → Type 0
WaitsTwice millis is_done before after =
    (first : Result (List ℕ) HostFault) × (second : Result (List ℕ) HostFault) ×
    (after ≡ before ++ A.Waited millis first ∷ A.Waited REST second ∷ []) × (is_done ≡ (is_ok first && is_ok second))

-- so a poll waits, and what was received before it is forgotten
pub record Waits (is_done : Bool) (a b : MailState) : Type 0 where
  pub asked : WaitsTwice (patience_of a.has_more) is_done a.asks b.asks
  pub same : b ≡ record a { asks = b.asks; has_more = false }

-- where nothing is bound a poll fails, and nothing is asked
abbrev pub PollsTo : (is_bound : Bool) → (is_done : Bool) → (a b : MailState) → Type 0
PollsTo false is_done a b = (is_done ≡ false) × (b ≡ a)
PollsTo true is_done a b = Waits is_done a b

-- whether nothing can be done now
abbrev pub would_block : HostFault → Bool
would_block F.WouldBlock = true
would_block _ = false

-- what a receive comes to: a datagram of no bytes is one too
abbrev pub received_of : Result ℕ HostFault → Received
received_of (Ok count) = R.Took count
received_of (Err fault) = if would_block fault then R.NotYet else R.Failed

abbrev pub has_taken : Received → Bool
has_taken (R.Took count) = true
has_taken R.NotYet = false
has_taken R.Failed = false

-- the machine was asked for one datagram, and the answer is what that comes to
abbrev pub ReceivesOne : Received → (buf : List ℕ) → (before after : List Ask) → Type 0
ReceivesOne received buf before after =
    (answer : Result ℕ HostFault) × (after ≡ before ++ A.Received (bytes_of answer buf) ∷ []) × (received ≡ received_of answer)

pub record Receives (received : Received) (buf : List ℕ) (a b : MailState) : Type 0 where
  pub asked : ReceivesOne received buf a.asks b.asks
  pub same : b ≡ record a { asks = b.asks; has_more = has_taken received }

abbrev pub ReceivesTo : (is_bound : Bool) → Received → (buf : List ℕ) → (a b : MailState) → Type 0
ReceivesTo false received buf a b = (received ≡ R.Failed) × (b ≡ a)
ReceivesTo true received buf a b = Receives received buf a b

-- what a send of so many bytes comes to: a datagram of which a part went didn't go
abbrev pub sent_of : Result ℕ HostFault → (len : ℕ) → Sent
sent_of (Ok count) len = if count == len then S.Gave else S.Failed
sent_of (Err fault) len = if would_block fault then S.NotYet else S.Failed

-- the machine was asked once to send these bytes to the address, and the answer is what that comes to
abbrev pub SendsOne : Addr → Sent → (bytes : List ℕ) → (before after : List Ask) → Type 0
SendsOne addr sent bytes before after =
    (answer : Result ℕ HostFault) × (after ≡ before ++ A.Sent addr bytes answer ∷ []) × (sent ≡ sent_of answer (length bytes))

pub record Sends (addr : Addr) (sent : Sent) (bytes : List ℕ) (a b : MailState) : Type 0 where
  pub asked : SendsOne addr sent bytes a.asks b.asks
  pub same : b ≡ record a { asks = b.asks }

abbrev pub SendsTo : (is_bound : Bool) → Addr → Sent → (bytes : List ℕ) → (a b : MailState) → Type 0
SendsTo false addr sent bytes a b = (sent ≡ S.Failed) × (b ≡ a)
SendsTo true addr sent bytes a b = Sends addr sent bytes a b
