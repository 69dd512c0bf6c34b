-- Sound: what holds of every list of sockets.
use Rattle.std.specs.Prelude.{◌≤◌, ℕ, Bool, ◌&&◌, not, length}
use Rattle.std.specs.List.{count_by, list_all}
use Rattle.definitions.specs.Lists.{EachIs}
use Rattle.socket_lines.specs.declared.limits.TheConstants.{HELLO_BYTES, MOST_ACCEPTED}
use Rattle.socket_lines.specs.declared.line.Line.{Line}
use Rattle.loop_rules.specs.Told.{Differ}
use Rattle.socket_list.specs.declared.sockets.TheConstants.{MOST_SOCKETS}
use Rattle.socket_list.specs.Sockets.{Sockets}

-- of a first frame no more is taken than a HELLO has
pub record IsFit (l : Line) : Type 0 where
  pub taken : l.taken ≤ HELLO_BYTES
  pub read : l.reader.place ≤ l.taken

-- an open socket that is not to be shut
abbrev pub is_fine : Line → Bool
is_fine l = l.is_open && not l.is_wrong

-- the sockets differ, no more were accepted than are at most, and there is room for all that a
-- poll may bring
pub record IsSound (t : Sockets) (cap : ℕ) : Type 0 where
  pub differ : Differ t.lines
  pub fit : EachIs IsFit t.lines
  pub accepted : t.accepted ≤ MOST_ACCEPTED
  pub fine : count_by is_fine t.lines ≤ t.accepted
  pub few : length t.lines ≤ MOST_SOCKETS
  pub room : MOST_SOCKETS ≤ cap

-- no open socket is left that is to be shut
abbrev pub none_wrong : Sockets → Bool
none_wrong t = list_all (λ l. not (l.is_open && l.is_wrong)) t.lines
