-- Calls: what a call finds behind a handle, and what it makes of it.
use Rattle.std.specs.Prelude.{◌≡◌, ℕ, ℤ, ◌⊎◌, List, [], ◌∷◌, ◌++◌, Option, Some, None, Result, Ok, Err, length, pos, slice_get, replicate, nat_le, if◌then◌else◌}
use Rattle.std.specs.Option.{is_some}
use Rattle.definitions.specs.declared.logs.Entry.{Entry}
use Rattle.session_log.specs.declared.faults.LogFault.{LogFault}
use Rattle.definitions.specs.declared.logs.Entry.TheVariants as E
use Rattle.definitions.specs.declared.answers.OwnFault.{OwnFault}
use Rattle.definitions.specs.declared.answers.Need.{Need}
use Rattle.definitions.specs.declared.findings.Finding.{Finding}
use Rattle.definitions.specs.declared.world.Move.{Move}
use Rattle.definitions.specs.declared.world.Track.{Track}
use Rattle.definitions.specs.World.{Game, players_of}
use Rattle.definitions.specs.Logs.{chosen}
use Rattle.definitions.specs.Honest.{IsHonest, made_count}
use Rattle.definitions.specs.Advance as A
use Rattle.definitions.specs.Needs as N
use Rattle.definitions.specs.Settled.{settled}
use Rattle.definition_laws.specs.First.{finding_of_log}
use Rattle.grid_world.specs.declared.fault.SessionFault.{SessionFault}
use Rattle.grid_world.specs.declared.fault.SessionFault.TheVariants.{At, Memory}
use Rattle.grid_world.specs.Answers.{IsReadFrom}
use Rattle.grid_world.specs.Reading.{game_at}
use Rattle.old_log.specs.Old.{dropped_at, old_entries, old_fault}
use Rattle.peer_core.specs.Views.{PeerState, player_view, choice_of}
use Rattle.peer_core.specs.declared.views.PlayerView.{PlayerView}
use Rattle.peer_core.specs.Scoring.{settled_score}
use Rattle.wire_frames.specs.Reading.{at_start}
use Rattle.wire_frames.specs.declared.frames.Frame.TheVariants.{Hello}
use Rattle.wire_frames.specs.Spelling.{spelling}
use Rattle.lethwyrn_c.specs.declared.link.TheConstants.{LINKS}
use Rattle.lethwyrn_c.specs.declared.views.Refusal.{Refusal}
use Rattle.lethwyrn_c.specs.declared.views.MoveView.{MoveView}
use Rattle.lethwyrn_c.specs.declared.views.NeedView.{NeedView}
use Rattle.lethwyrn_c.specs.declared.views.TrackView.{TrackView}
use Rattle.lethwyrn_c.specs.declared.views.FindingView.{FindingView}
use Rattle.lethwyrn_c.specs.declared.views.ScoreView.{ScoreView}
use Rattle.lethwyrn_c.specs.Codes.{code_of_fault, code_of_progress, made_by, code_of_what, code_of_kind, code_of_log, code_of_rule}
use Rattle.lethwyrn_c.specs.Standings.{Standing, log_front}

-- ---- handles with and without a peer

-- what a call answers: 1 where there is no peer
abbrev pub code_or : (Standing → ℕ) → Option Standing → ℕ
code_or f None = 1
code_or f (Some s) = f s

-- what it writes: nothing where nothing stands behind the handle
abbrev pub told_or : {S X : Type 0} → (S → X → X) → Option S → X → X
told_or f None old = old
told_or f (Some s) old = f s old

-- what stands behind the handle then
abbrev pub then_or : {S : Type 0} → (S → S) → Option S → Option S
then_or f None = None
then_or f (Some s) = Some (f s)

-- there was a peer and is one, of which this holds
abbrev pub Behind : (Standing → Standing → Type 0) → Option Standing → Option Standing → Type 0
Behind R None t = ⊥
Behind R (Some s) None = ⊥
Behind R (Some s) (Some t) = R s t

abbrev pub IsThere : {S : Type 0} → (S → Type 0) → Option S → Type 0
IsThere P None = ⊥
IsThere P (Some s) = P s

-- this is the code that is due, or want of memory came in its place; a handle that is in use is
-- refused without taking any
abbrev pub IsDue : {S : Type 0} → Option S → ℕ → ℤ → Type 0
IsDue None due code = (code ≡ pos due) ⊎ (code ≡ pos 2)
IsDue (Some s) due code = code ≡ pos 6

-- ---- a peer is made

-- the code, by what the text says
abbrev pub session_code : (Game → ℕ) → Result Game SessionFault → ℕ
session_code f (Ok game) = f game
session_code f (Err (At line what)) = 3
session_code f (Err Memory) = 2

abbrev pub player_code : ℕ → ℕ → Game → ℕ
player_code player code game = if nat_le (players_of game) player then 4 else code

abbrev pub make_code : List ℕ → ℕ → ℕ
make_code text player = session_code (player_code player 0) (game_at text)

-- the line of the text that is at fault, and the rule that it breaks
abbrev pub session_told : Result Game SessionFault → Refusal → Refusal
session_told (Ok game) old = old
session_told (Err (At line what)) old = record { line = line; rule = code_of_rule what; at = old.at; why = old.why; dropped = old.dropped }
session_told (Err Memory) old = old

-- a peer of this player and of the session with this text, whose log is empty
pub record IsMade (text : List ℕ) (player : ℕ) (s : Standing) : Type 0 where
  pub said : game_at text ≡ Ok s.peer.game
  pub read : IsReadFrom s.peer.game text
  pub me : s.peer.me ≡ player
  pub entries : s.peer.entries ≡ []
  pub links : s.links ≡ replicate LINKS at_start
  pub given : s.given ≡ 0
  pub stored : s.stored ≡ 0
  pub sent : s.sent ≡ 0

-- the text gave no session, and why: its first fault is told, or nothing where memory was wanting
abbrev pub IsUnread : List ℕ → Refusal → Refusal → ℤ → Type 0
IsUnread text old new code = ((code ≡ pos 3) × (session_code (λ game. 0) (game_at text) ≡ 3) × (new ≡ session_told (game_at text) old)) ⊎ ((code ≡ pos 2) × (new ≡ old))

-- ---- a peer goes on from a log

abbrev pub log_code : Option LogFault → ℕ
log_code None = 0
log_code (Some f) = 5

abbrev pub resumed_code : ℕ → List ℕ → Game → ℕ
resumed_code player log game = if nat_le (players_of game) player then 4 else log_code (old_fault game player log)

abbrev pub resume_code : List ℕ → ℕ → List ℕ → ℕ
resume_code text player log = session_code (resumed_code player log) (game_at text)

-- how many bytes of a log are kept: up to its first fault, if it has one, and none where it has no whole entry
abbrev pub kept_at : List Entry → Option ℕ → ℕ → ℕ
kept_at [] dropped len = 0
kept_at (e ∷ es) None len = len
kept_at (e ∷ es) (Some at) len = at

-- the byte from which on the log can't be used, and why; or how many bytes are kept, and whether others follow
abbrev pub log_told : Option LogFault → ℕ → Option ℕ → Refusal → Refusal
log_told (Some f) kept dropped old = record { line = old.line; rule = old.rule; at = f.at; why = code_of_log f.why; dropped = old.dropped }
log_told None kept dropped old = record { line = old.line; rule = old.rule; at = kept; why = old.why; dropped = is_some dropped }

abbrev pub resume_told : ℕ → List ℕ → Result Game SessionFault → Refusal → Refusal
resume_told player log (Ok game) old = log_told (old_fault game player log) (kept_at (old_entries game log) (dropped_at game log) (length log)) (dropped_at game log) old
resume_told player log (Err (At line what)) old = record { line = line; rule = code_of_rule what; at = old.at; why = old.why; dropped = old.dropped }
resume_told player log (Err Memory) old = old

-- the log begins with these bytes, which are so many, and has no others unless something is dropped
pub record IsKept (log front : List ℕ) (at : ℕ) (dropped : Option ℕ) : Type 0 where
  pub rest : List ℕ
  pub bytes_are : log ≡ front ++ rest
  pub at_is : length front ≡ at
  pub whole : dropped ≡ None → rest ≡ []

-- a peer of the session that goes on from the log with these bytes, whose entries count as handed out and stored: their bytes are the log's,
-- up to the rest that is dropped
pub record IsGoneOn (game : Game) (player : ℕ) (log : List ℕ) (s : Standing) : Type 0 where
  pub game_is : s.peer.game ≡ game
  pub me : s.peer.me ≡ player
  pub entries : s.peer.entries ≡ old_entries game log
  pub honest : IsHonest game player s.peer.entries
  pub kept : IsKept log (log_front s.peer s.given) (kept_at (old_entries game log) (dropped_at game log) (length log)) (dropped_at game log)
  pub links : s.links ≡ replicate LINKS at_start
  pub given : s.given ≡ length s.peer.entries
  pub stored : s.stored ≡ length s.peer.entries
  pub sent : s.sent ≡ 0

-- the same of the session with this text
pub record IsOn (text : List ℕ) (player : ℕ) (log : List ℕ) (s : Standing) : Type 0 where
  pub said : game_at text ≡ Ok s.peer.game
  pub read : IsReadFrom s.peer.game text
  pub on : IsGoneOn s.peer.game player log s

-- ---- a choice

-- the move that C tells
abbrev pub move_of : MoveView → Move
move_of m = record { to = record { x = m.x; y = m.y }; strike = if m.strikes then Some (record { x = m.strike_x; y = m.strike_y }) else None }

abbrev pub code_of_choice : Option OwnFault → ℕ
code_of_choice None = 0
code_of_choice (Some fault) = code_of_fault fault

abbrev pub choice_code : Move → Standing → ℕ
choice_code m s = code_of_choice (N.choice_fault s.peer.game s.peer.me s.peer.entries m)

-- the log with the choice, where it isn't refused
abbrev pub with_choice : Move → List ℕ → PeerState → Option OwnFault → List Entry
with_choice m nonce p None = p.entries ++ E.Chose (length (chosen p.me p.entries)) m (record { bytes = nonce }) ∷ []
with_choice m nonce p (Some fault) = p.entries

abbrev pub after_choice : Move → List ℕ → Standing → Standing
after_choice m nonce s = record s { peer = record s.peer { entries = with_choice m nonce s.peer (N.choice_fault s.peer.game s.peer.me s.peer.entries m) } }

-- ---- frames are made

abbrev pub progress_code : Standing → ℕ
progress_code s = code_of_progress (A.progress s.peer.game s.peer.me s.peer.entries)

abbrev pub after_advance : Standing → Standing
after_advance s = record s { peer = record s.peer { entries = A.advance s.peer.game s.peer.me s.peer.entries } }

-- how many frames are made
abbrev pub made_of : Standing → ℕ
made_of s = made_by (A.progress s.peer.game s.peer.me s.peer.entries)

abbrev pub made_told : Option Standing → ℕ
made_told None = 0
made_told (Some s) = made_of s

-- ---- what is sent

abbrev pub sending_from : ℕ → Standing → Standing
sending_from place s = record s { sent = place }

-- the hello of this peer for a player of its session
abbrev pub hello : ℕ → List ℕ → Standing → List ℕ
hello player pass s = spelling (Hello s.peer.game.id s.peer.me pass (player_view s.peer.game s.peer.me s.peer.entries player).next)

-- 4 where the session has no such player
abbrev pub known_code : ℕ → Standing → ℕ
known_code player s = player_code player 0 s.peer.game

-- ---- what is told

-- 0 where there is something to tell, else 7
abbrev pub code_if : {X : Type 0} → Option X → ℕ
code_if None = 7
code_if (Some x) = 0

-- a need
abbrev pub need_view : Need → NeedView
need_view n = record { turn = n.turn; next = n.next; what = code_of_what n.what; player = n.player }

abbrev pub need_told : Option Need → NeedView → NeedView
need_told None old = old
need_told (Some n) old = need_view n

abbrev pub need_at : ℕ → Standing → Option Need
need_at i s = slice_get (N.needs s.peer.game s.peer.me s.peer.entries) i

-- a finding
abbrev pub finding_view : Finding → FindingView
finding_view f = record { turn = f.turn; kind = code_of_kind f.kind; first = f.first.entry; second = f.second.entry; player = f.player }

abbrev pub finding_told : Option Finding → FindingView → FindingView
finding_told None old = old
finding_told (Some f) old = finding_view f

abbrev pub finding_at : Standing → Option Finding
finding_at s = finding_of_log s.peer.game s.peer.entries

-- a track
abbrev pub track_view : ℕ → ℕ → Track → TrackView
track_view turns next t = record { turns = turns; next = next; x = t.at.x; y = t.at.y; charge = t.charge }

abbrev pub player_told : PlayerView → TrackView
player_told v = track_view v.turns v.next v.track

-- what the log shows of a player, where the session has it
abbrev pub track_of : ℕ → PeerState → TrackView → TrackView
track_of player p old = if nat_le (players_of p.game) player then old else player_told (player_view p.game p.me p.entries player)

abbrev pub track_told : ℕ → Standing → TrackView → TrackView
track_told player s old = track_of player s.peer old

-- the next choice: its turn, the place of the next own frame, and the track before it
abbrev pub next_told : Standing → TrackView → TrackView
next_told s old = track_view (choice_of s.peer.game s.peer.me s.peer.entries).turn (made_count s.peer.entries) (choice_of s.peer.game s.peer.me s.peer.entries).track

abbrev pub next_code : Standing → ℕ
next_code s = if N.may_choose s.peer.game s.peer.me s.peer.entries then 0 else 10

-- what the settled turns count
abbrev pub score_told : Standing → ScoreView → ScoreView
score_told s old = record {
  settled = settled s.peer.game s.peer.me s.peer.entries;
  given = (settled_score s.peer.game s.peer.me s.peer.entries).given;
  taken = (settled_score s.peer.game s.peer.me s.peer.entries).taken;
}

-- 0 where there is a peer
abbrev pub peer_code : Standing → ℕ
peer_code s = 0
