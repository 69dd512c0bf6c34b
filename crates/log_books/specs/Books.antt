-- Books: the streams of all players, and what is kept of them.
use Rattle.std.specs.Prelude.{◌≡◌, ℕ, ◌≤◌, Bool, false, ◌==◌, List, length, get_or, Some, slice_get}
use Rattle.std.specs.List.{fold, list_all, range_with_len}
use Rattle.record.specs.Note.{Note}
use Rattle.definitions.specs.declared.limits.TheConstants.{MOST_PLAYERS}
use Rattle.definitions.specs.Lists.{EachIs}
use Rattle.definitions.specs.World.{Game, players_of}
use Rattle.definitions.specs.declared.findings.Finding.{Finding}
use Rattle.definitions.specs.Findings.{findings}
use Rattle.definition_laws.specs.Members.{Has}
use Rattle.evidence.specs.declared.exhibit.Exhibit.{Exhibit}
use Rattle.agreed_turns.specs.States.{AgreedState, IsOf}
use Rattle.auditor.specs.Agreed.{agreed_count}
use Rattle.auditor.specs.Exhibits.{IsExhibitOf}
use Rattle.auditor.specs.Reports.{IsReportOf, Reported}
use Rattle.auditor.specs.Audits.{AuditState, StandsFor, count_in}
use Rattle.log_streams.specs.Streams.{Stream, lists_of, no_stream, no_streams, owners_of, took_of}
use Rattle.log_books.specs.declared.pages.Page.{Page}
use Rattle.log_books.specs.Heeding.{IsOwn}
use Rattle.log_books.specs.Pages.{IsPageOf}

-- what contracts see: the session, the streams by the players' numbers, and whether memory ran
-- out, after which nothing is promised of what is kept
pub record BooksState : Type 0 where
  pub game : Game
  pub streams : List Stream
  pub is_out_of_memory : Bool

-- the streams with one note more of the record of what came: a player's number and a piece
abbrev pub with_note : Game → List Stream → Note → List Stream
with_note game streams note = took_of game (get_or note.numbers 0 0) note.bytes streams

-- the streams by that record
abbrev pub streams_by : Game → List Note → List Stream
streams_by game notes = fold (with_note game) (no_streams game) notes

-- what is kept stands for the streams: the auditor and the agreed turns for their lists, and each
-- page for its stream, which is of the player's own log
pub record StandFor (game : Game) (streams : List Stream) (a : AuditState) (g : AgreedState) (pages : List Page) : Type 0 where
  pub session : a.session ≡ game
  pub many : length streams ≡ players_of game
  pub each : length pages ≡ players_of game
  pub most : players_of game ≤ MOST_PLAYERS
  pub audit : StandsFor game (owners_of game streams) (lists_of game streams) a
  pub pages_are : (q : ℕ) (s : Stream) (p : Page) → slice_get streams q ≡ Some s → slice_get pages q ≡ Some p → IsPageOf game a q s p
  pub own : (q : ℕ) (s : Stream) → slice_get streams q ≡ Some s → IsOwn game q s
  pub agreed : IsOf game (lists_of game streams) g

-- the same, unless memory ran out
abbrev pub StandIfWhole : Game → List Stream → Bool → AuditState → AgreedState → List Page → Type 0
StandIfWhole game streams out a g pages = out ≡ false → StandFor game streams a g pages

-- the report is that on the lists which the streams give, as if the audit began afresh
abbrev pub ReportsOn : Game → List Stream → Reported → Type 0
ReportsOn game streams r = IsReportOf game (owners_of game streams) (lists_of game streams) r

-- the exhibit shows the finding, if it is one of these lists
abbrev pub ExhibitsOn : Game → List Stream → Finding → Exhibit → Type 0
ExhibitsOn game streams f x = Has (findings game (lists_of game streams)) f → IsExhibitOf game (lists_of game streams) f x

-- every turn of the player is agreed by the lists
abbrev pub is_agreed_of : Game → List Stream → (q : ℕ) → Bool
is_agreed_of game streams q = agreed_count game (owners_of game streams) (lists_of game streams) q == game.turns

-- every turn of every player is agreed
abbrev pub is_agreed : Game → List Stream → Bool
is_agreed game streams = list_all (is_agreed_of game streams) (range_with_len 0 (players_of game))

-- this is the page of a player of whose log nothing came
abbrev pub IsNewPage : Game → Page → Type 0
IsNewPage game p = (a : AuditState) (q : ℕ) → count_in a q ≡ 0 → IsPageOf game a q no_stream p

-- one for each player
pub record AreNew (game : Game) (pages : List Page) : Type 0 where
  pub few : players_of game ≤ MOST_PLAYERS
  pub many : length pages ≡ players_of game
  pub each : EachIs (IsNewPage game) pages
