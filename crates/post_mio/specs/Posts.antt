-- Posts: what the calls of a post ask the machine and answer.
use Rattle.std.specs.Prelude.{◌≡◌, ℕ, Bool, List}
use Rattle.socket_station.specs.declared.answers.Addr.{Addr}
use Rattle.socket_station.specs.declared.answers.Did.{Did}
use Rattle.datagram_post.specs.Items.{did_by}
use Rattle.host_log.specs.Logs.{Keeps, LogStand, LogsTo, SyncsTo, kept_on, logged_on, synced_on}
use Rattle.post_mio.specs.Mails.{BindsTo, MailState, PollsTo}

-- it is bound at the address that it was asked for
abbrev pub BindsAt : Addr → Did → (a b : MailState) → Type 0
BindsAt addr did a b = (is_done : Bool) × BindsTo a.is_bound addr is_done a b × (did ≡ did_by is_done)

abbrev pub Polls : Did → (a b : MailState) → Type 0
Polls did a b = (is_done : Bool) × PollsTo a.is_bound is_done a b × (did ≡ did_by is_done)

-- a log of that name is begun, or that failed
pub record Logs (name : List ℕ) (did : Did) (before after : LogStand) (a b : MailState) : Type 0 where
  pub is_done : Bool
  pub answer : did ≡ did_by is_done
  pub asked : LogsTo name before.begun is_done a.asks b.asks
  pub stands : after ≡ logged_on is_done before
  pub same : b ≡ record a { asks = b.asks }

-- the bytes are kept, all of them, or that failed
pub record KeepsIn (bytes : List ℕ) (did : Did) (before after : LogStand) (a b : MailState) : Type 0 where
  pub is_done : Bool
  pub answer : did ≡ did_by is_done
  pub asked : Keeps bytes before.file is_done a.asks b.asks
  pub stands : after ≡ kept_on is_done before
  pub same : b ≡ record a { asks = b.asks }

-- the log is synced, or that failed
pub record SyncsIn (did : Did) (before after : LogStand) (a b : MailState) : Type 0 where
  pub is_done : Bool
  pub answer : did ≡ did_by is_done
  pub asked : SyncsTo before.file is_done a.asks b.asks
  pub stands : after ≡ synced_on is_done before
  pub same : b ≡ record a { asks = b.asks }
