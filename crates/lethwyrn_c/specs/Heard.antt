-- Heard: how the bytes of a player's link are read on, what becomes of the peer by them, and what C is told.
use Rattle.std.specs.Prelude.{ℕ, ◌^◌, List, Option, Some, None, length, get_or, set, nat_le, ◌||◌, if◌then◌else◌}
use Rattle.std.specs.Str.{bytes_eq}
use Rattle.definitions.specs.declared.logs.Entry.{Entry}
use Rattle.definitions.specs.World.{Game, players_of}
use Rattle.definitions.specs.Answers.{got_answer}
use Rattle.peer_core.specs.Views.{PeerState, with_got}
use Rattle.wire_frames.specs.declared.frames.FedWhat.{FedWhat}
use Rattle.wire_frames.specs.declared.frames.FedWhat.TheVariants.{More, Whole, Bad}
use Rattle.wire_frames.specs.declared.frames.Frame.TheVariants.{Hello, Turn, Want}
use Rattle.wire_frames.specs.Reading.{Reading, Step, at_start, fed_step}
use Rattle.lethwyrn_c.specs.declared.views.GreetView.{GreetView}
use Rattle.lethwyrn_c.specs.Codes.{code_of_answer}
use Rattle.lethwyrn_c.specs.Standings.{Standing}

-- the log of a peer that was handed what a link brought from this player: a frame of a turn is taken as it comes, and nothing else changes it
abbrev pub heard : ℕ → PeerState → FedWhat → List Entry
heard from p More = p.entries
heard from p (Bad place) = p.entries
heard from p (Whole (Hello id player pass next)) = p.entries
heard from p (Whole (Want place)) = p.entries
heard from p (Whole (Turn frame)) = with_got p.game p.me p.entries from frame

-- the code that says what a link brought, and what became of it
abbrev pub code_of_heard : ℕ → PeerState → FedWhat → ℕ
code_of_heard from p More = 30
code_of_heard from p (Bad place) = 33
code_of_heard from p (Whole (Hello id player pass next)) = 31
code_of_heard from p (Whole (Want place)) = 32
code_of_heard from p (Whole (Turn frame)) = code_of_answer (got_answer p.game p.me p.entries from frame)

-- what C is told of a hello or a want; nothing else changes it
abbrev pub greeting : Game → FedWhat → GreetView → GreetView
greeting game More old = old
greeting game (Bad place) old = old
greeting game (Whole (Hello id player pass next)) old = record { next = next; player = player; same_session = bytes_eq id game.id; pass = pass }
greeting game (Whole (Want place)) old = record { next = place; player = old.player; same_session = old.same_session; pass = old.pass }
greeting game (Whole (Turn frame)) old = old

-- the reader of a player's link, and its step on these bytes
abbrev pub reader_of : Standing → ℕ → Reading
reader_of s from = get_or s.links from at_start

abbrev pub step_of : ℕ → List ℕ → Standing → Step
step_of from bytes s = fed_step (reader_of s from) bytes

-- why bytes aren't read: the session has no such player, or there are 2^32 or more at once, or 2^63 in all
abbrev pub refusal : ℕ → List ℕ → Standing → Option ℕ
refusal from bytes s =
    if nat_le (players_of s.peer.game) from then Some 4
    else if nat_le (2 ^ 32) (length bytes) || nat_le (2 ^ 63) (reader_of s from).place then Some 9 else None

-- the one where nothing is refused, else the other
abbrev pub unless : {X : Type 0} → Option ℕ → X → X → X
unless None x old = x
unless (Some code) x old = old

abbrev pub or_code : Option ℕ → ℕ → ℕ
or_code None code = code
or_code (Some refused) code = refused

-- what hearing the bytes answers, how many of them are used, what C is told, and what stands behind the handle then
abbrev pub hear_code : ℕ → List ℕ → Standing → ℕ
hear_code from bytes s = or_code (refusal from bytes s) (code_of_heard from s.peer (step_of from bytes s).fed.what)

abbrev pub hear_used : ℕ → List ℕ → Standing → ℕ
hear_used from bytes s = unless (refusal from bytes s) (step_of from bytes s).fed.used 0

abbrev pub hear_greeting : ℕ → List ℕ → Standing → GreetView → GreetView
hear_greeting from bytes s old = unless (refusal from bytes s) (greeting s.peer.game (step_of from bytes s).fed.what old) old

abbrev pub behind_frame : ℕ → Standing → Step → Standing
behind_frame from s step = record s { peer = record s.peer { entries = heard from s.peer step.fed.what }; links = set s.links from step.reader }

abbrev pub hear_behind : ℕ → List ℕ → Standing → Standing
hear_behind from bytes s = unless (refusal from bytes s) (behind_frame from s (step_of from bytes s)) s

-- a link that begins anew
abbrev pub link_code : ℕ → Standing → ℕ
link_code player s = if nat_le (players_of s.peer.game) player then 4 else 0

abbrev pub link_behind : ℕ → Standing → Standing
link_behind player s = if nat_le (players_of s.peer.game) player then s else record s { links = set s.links player at_start }
