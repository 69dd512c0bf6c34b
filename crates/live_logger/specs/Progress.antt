-- Progress: how far the log of one player came.
use Rattle.std.specs.Prelude.{◌≡◌, ℕ, Bool, ◌&&◌, List, Option, Some, None, length, nat_eq, slice_get}
use Rattle.std.specs.List.{list_any}
use Rattle.std.specs.Option.{option_eq}
use Rattle.socket_lines.specs.declared.line.Line.{Line}
use Rattle.auditor.specs.Agreed.{agreed_count}
use Rattle.log_streams.specs.Streams.{Stream, count_of, entries_of, lists_of, owners_of}
use Rattle.log_books.specs.Pages.{closed_at}
use Rattle.watch_rules.specs.Views.{View}
use Rattle.live_logger.specs.declared.progress.Progress.{Progress}

-- the socket is open and has the player's name
abbrev pub has_name : ℕ → Line → Bool
has_name q l = l.is_open && option_eq nat_eq l.name (Some q)

-- the player's log as it came, and what the logs of all agree on of its turns
pub record IsProgressOf (v : View) (q : ℕ) (p : Progress) : Type 0 where
  pub linked : p.is_linked ≡ list_any (has_name q) v.sockets.lines
  pub bytes : (s : Stream) → slice_get v.streams q ≡ Some s → p.bytes ≡ count_of s
  pub entries : (s : Stream) → slice_get v.streams q ≡ Some s → p.entries ≡ length (entries_of v.setting.game s)
  pub agreed : p.agreed ≡ agreed_count v.setting.game (owners_of v.setting.game v.streams) (lists_of v.setting.game v.streams) q
  pub closed : (s : Stream) → slice_get v.streams q ≡ Some s → p.closed ≡ closed_at v.setting.game s
