-- Lines: what a history shows of one socket, and what is due on it.
use Rattle.std.specs.Prelude.{ℕ, ◌-◌, Bool, true, false, ◌&&◌, ◌||◌, ◌==◌, [], Option, Some, None, is_some, is_none, if◌then◌else◌}
use Rattle.wire_frames.specs.Reading.{at_start}
use Rattle.socket_lines.specs.declared.limits.TheConstants.{HELLO_BYTES}
use Rattle.socket_lines.specs.declared.line.Line.{Line}

-- a socket that was accepted: nothing is due before its HELLO
abbrev pub accepted_line : (socket : ℕ) → (is_wrong : Bool) → Line
accepted_line socket is_wrong = record {
  socket = socket;
  is_open = true;
  dialled = None;
  name = None;
  reader = at_start;
  taken = 0;
  is_quiet = false;
  is_blocked = false;
  is_wrong = is_wrong;
  hello = None;
  unsent = [];
  sending = None;
  cursor = 0;
  jump = None;
}

-- a socket that was dialled: the HELLO is due at once
abbrev pub dialled_line : (socket q next : ℕ) → Line
dialled_line socket q next = record (accepted_line socket false) { dialled = Some q; hello = Some next }

abbrev pub closed : Line → Line
closed l = record l { is_open = false }

abbrev pub quieted : Line → Line
quieted l = record l { is_quiet = true }

abbrev pub blocked : Line → Line
blocked l = record l { is_blocked = true }

-- a poll listed it: it may be read and written again
abbrev pub woken : Line → Line
woken l = record l { is_quiet = false; is_blocked = false }

abbrev pub doomed : Line → Line
doomed l = record l { is_wrong = true }

-- a WANT moves the cursor, at once or behind the own frame that is given in part
abbrev pub moved_to : ℕ → Line → Line
moved_to place l = if is_some l.sending then record l { jump = Some place } else record l { cursor = place }

abbrev pub is_player : Option ℕ → ℕ → Bool
is_player None q = false
is_player (Some p) q = p == q

abbrev pub is_named : ℕ → Line → Bool
is_named q l = l.is_open && is_player l.name q

-- an open socket that was dialled for the player or is named so
abbrev pub serves : ℕ → Line → Bool
serves q l = l.is_open && (is_player l.dialled q || is_player l.name q)

abbrev pub or_else : Option ℕ → Option ℕ → Option ℕ
or_else (Some q) other = Some q
or_else None other = other

-- the player whose HELLO came, or for whom it was dialled
abbrev pub player_of : Line → Option ℕ
player_of l = or_else l.name l.dialled

abbrev pub is_wanted_name : Option ℕ → ℕ → Bool
is_wanted_name None q = true
is_wanted_name (Some p) q = p == q

-- a socket that was dialled is named by the player dialled alone
abbrev pub lets_name : ℕ → Line → Bool
lets_name q l = is_wanted_name l.dialled q

-- how many bytes may be taken before it has a name
abbrev pub unnamed_room : Line → ℕ
unnamed_room l = HELLO_BYTES - l.taken

-- it has a name: the cursor stands at the place asked for, and the own HELLO is due unless it was at the dial
abbrev pub named_line : (q from next : ℕ) → Line → Line
named_line q from next l = record l { name = Some q; cursor = from; hello = (if is_none l.dialled then Some next else l.hello) }
