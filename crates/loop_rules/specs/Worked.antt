-- Worked histories: a match of two in a corridor, told item by item, as the first player's loop plays it.
use Rattle.std.specs.Prelude.{◌≡◌, ℕ, true, false, List, [], ◌∷◌, ◌++◌, None, map, take, drop, replicate}
use Rattle.std.specs.List.{fold}
use Rattle.definitions.specs.declared.frames.TurnFrame.{TurnFrame}
use Rattle.definitions.specs.declared.frames.TurnFrame.TheVariants as F
use Rattle.definitions.specs.declared.logs.Entry.{Entry}
use Rattle.definitions.specs.declared.logs.Entry.TheVariants.{Chose, Made, Got}
use Rattle.definitions.specs.World.{Game}
use Rattle.definition_laws.specs.Rows.{corridor_of, seat, nonce, to, commit_by, reveal_by}
use Rattle.wire_frames.specs.declared.frames.Frame.TheVariants.{Hello, Turn, Want}
use Rattle.wire_frames.specs.Spelling.{spelling}
use Rattle.session_log.specs.Writing.{Writing, fresh, written}
use Rattle.session_log.specs.Writing as W
use Rattle.rosters.specs.declared.addr.Addr.{Addr as RosterAddr}
use Rattle.socket_station.specs.declared.answers.Ready.TheVariants.{Opened, Socket as Seems}
use Rattle.socket_station.specs.Items.{Item, KeepCall, Listening, LogBegun, Dialled, Polled, Took, Gave, ReadNotYet, Failed, Shut, Kept, Synced}
use Rattle.socket_lines.specs.Seats.{reaches, dials}
use Rattle.peer_rules.specs.declared.phases.Phase.TheVariants.{Running}
use Rattle.loop_rules.specs.Settings.{Setting}
use Rattle.peer_rules.specs.Addresses.{told_addr}
use Rattle.loop_rules.specs.Tables.{Table}
use Rattle.loop_rules.specs.Views.{View, start, first_table}
use Rattle.loop_rules.specs.After.{view_of, view_after}
use Rattle.loop_rules.specs.Licence.{is_licensed, is_waited_for, all_is_read, all_is_played}
use Rattle.loop_rules.specs.Rules.{is_allowed}
use Rattle.loop_rules.specs.Histories.{are_allowed}
use Rattle.loop_rules.specs.Images.{is_image, handed_in, has_lucky_tail}

-- two turns, and a second player four cells off, whose sphere meets the first one's at once
abbrev pub game : Game
game = corridor_of 2 1 [] (seat 4 1 1 ∷ [])

abbrev pub addr_at : (port : ℕ) → RosterAddr
addr_at port = record { ip = 127 ∷ 0 ∷ 0 ∷ 1 ∷ []; port = port }

-- the pass that the first player shows, and the one that it wants
abbrev pub shown : List ℕ
shown = replicate 16 5

abbrev pub wanted : List ℕ
wanted = replicate 16 6

abbrev pub name : List ℕ
name = 110 ∷ []

-- a loop of the first player, which goes on from these entries
abbrev pub setting : List Entry → Setting
setting over = record {
  game = game;
  me = 0;
  over = over;
  roster = record { me = addr_at 7000; links = record { player = 1; addr = addr_at 7001; shows = shown; wants = wanted } ∷ [] };
}

-- the entries of the first turn: a choice, its commitment, the other's commitment, and the own reveal
abbrev pub chose : Entry
chose = Chose 0 (to 0) (nonce 0)

abbrev pub committed : Entry
committed = Made (commit_by game 0 0 0 0)

abbrev pub got_commit : Entry
got_commit = Got 1 (commit_by game 1 0 4 9)

abbrev pub revealed : Entry
revealed = Made (reveal_by 0 0 0 0)

-- what is kept for an entry behind these
abbrev pub kept_for : List Entry → Entry → List ℕ
kept_for before e = written (fold W.after (fresh game.id 0) before) e

-- the HELLO of each player, and frames on the link
abbrev pub hello_of : (next : ℕ) → List ℕ
hello_of next = spelling (Hello game.id 0 shown next)

abbrev pub other_hello : (next : ℕ) → List ℕ
other_hello next = spelling (Hello game.id 1 wanted next)

abbrev pub turn_bytes : TurnFrame → List ℕ
turn_bytes f = spelling (Turn f)

-- a frame of a turn that the match does not have
abbrev pub far_frame : TurnFrame
far_frame = F.Commit 1 7 (record { bytes = replicate 32 3 })

-- the log is begun, the loop listens, and the first move is chosen and committed
abbrev pub beginning : List Item
beginning =
    LogBegun name ∷ Listening (told_addr (addr_at 7000)) ∷
    Kept (kept_for [] chose) ∷ Kept (kept_for (chose ∷ []) committed) ∷ Synced ∷ []

-- the other player is dialled and greeted, and nothing comes yet
abbrev pub greeting : List Item
greeting = Dialled 0 1 (told_addr (addr_at 7001)) ∷ Gave 0 (hello_of 0) ∷ ReadNotYet 0 ∷ []

-- after a poll its HELLO and its commitment come, and the own commitment goes out in two pieces
abbrev pub exchange : List Item
exchange =
    Polled (Seems 0 ∷ []) ∷ Took 0 (other_hello 0) ∷ Gave 0 (take 10 (turn_bytes (commit_by game 0 0 0 0))) ∷
    Gave 0 (drop 10 (turn_bytes (commit_by game 0 0 0 0))) ∷ Took 0 (turn_bytes (commit_by game 1 0 4 9)) ∷
    Kept (kept_for (chose ∷ committed ∷ []) got_commit) ∷ []

-- then the own reveal is made, synced and given
abbrev pub revealing : List Item
revealing =
    Kept (kept_for (chose ∷ committed ∷ got_commit ∷ []) revealed) ∷ Synced ∷ Gave 0 (turn_bytes (reveal_by 0 0 0 0)) ∷ []

-- a far frame is answered by a WANT of the next place
abbrev pub asking : List Item
asking = Took 0 (turn_bytes far_frame) ∷ Gave 0 (spelling (Want 1)) ∷ ReadNotYet 0 ∷ []

-- what is shown behind them
abbrev pub begun : View
begun = view_of (setting []) beginning

abbrev pub greeted : View
greeted = view_after begun greeting

abbrev pub exchanged : View
exchanged = view_after greeted exchange

abbrev pub played : View
played = view_after exchanged revealing

-- ---- the match by the rules

unfoldable pub BeginsByTheRules : Type 0
BeginsByTheRules = are_allowed (start (setting [])) beginning ≡ true

unfoldable pub GreetsByTheRules : Type 0
GreetsByTheRules = are_allowed begun greeting ≡ true

-- the poll behind the greeting is licensed: the other's commitment is missed
unfoldable pub TakesFramesByTheRules : Type 0
TakesFramesByTheRules = are_allowed greeted exchange ≡ true

unfoldable pub RevealsByTheRules : Type 0
RevealsByTheRules = are_allowed exchanged revealing ≡ true

-- behind the WANT the next poll is licensed
unfoldable pub AsksOnceForAFarFrame : Type 0
AsksOnceForAFarFrame =
    (are_allowed played asking ≡ true) × (is_licensed (view_after played asking) ≡ true) ×
    (is_allowed (view_after played asking) (Gave 0 (spelling (Want 1))) ≡ false)

-- ---- sockets that are shut

-- a second socket is opened
abbrev pub opened : View
opened = view_after greeted (Polled (Opened 7 ∷ []) ∷ [])

-- a bad byte at the front shuts the socket, and nothing else does
unfoldable pub ShutsForABadByte : Type 0
ShutsForABadByte =
    (is_allowed opened (Shut 7) ≡ false) × (are_allowed opened (Took 7 (0 ∷ []) ∷ Shut 7 ∷ []) ≡ true) ×
    (is_allowed (view_after opened (Took 7 (0 ∷ []) ∷ [])) (ReadNotYet 7) ≡ false)

-- before its HELLO no more is read of a socket than that has
unfoldable pub ReadsNoMoreThanAHello : Type 0
ReadsNoMoreThanAHello =
    (is_allowed opened (Took 7 (other_hello 0)) ≡ true) × (is_allowed opened (Took 7 (other_hello 0 ++ 2 ∷ [])) ≡ false)

-- the first socket is named, and then the second one
abbrev pub named_alike : View
named_alike = view_after greeted (Polled (Opened 7 ∷ Seems 0 ∷ []) ∷ Took 0 (other_hello 0) ∷ Took 7 (other_hello 0) ∷ [])

-- of two sockets of one name the one that was named first is shut
unfoldable pub ShutsTheFormerOfOneName : Type 0
ShutsTheFormerOfOneName =
    (is_allowed named_alike (Shut 0) ≡ true) × (is_allowed named_alike (Shut 7) ≡ false) × (is_licensed named_alike ≡ false)

-- ---- faults

abbrev pub failed_keep : View
failed_keep = view_of (setting []) (LogBegun name ∷ Listening (told_addr (addr_at 7000)) ∷ Failed (KeepCall (kept_for [] chose)) ∷ [])

-- nothing comes after a keep that failed
unfoldable pub EndsAtAFailedKeep : Type 0
EndsAtAFailedKeep =
    (are_allowed (start (setting [])) (LogBegun name ∷ Listening (told_addr (addr_at 7000)) ∷ Failed (KeepCall (kept_for [] chose)) ∷ []) ≡ true) ×
    (is_allowed failed_keep (Kept (kept_for [] chose)) ≡ false) × (is_allowed failed_keep Synced ≡ false)

-- ---- licences

-- no poll with bytes unread
unfoldable pub ReadsBeforeItPolls : Type 0
ReadsBeforeItPolls =
    (is_licensed greeted ≡ true) × (is_licensed (view_after begun (take 2 greeting)) ≡ false) × (all_is_read (view_after begun (take 2 greeting)).table ≡ false)

-- no poll with a frame made and not synced
unfoldable pub SyncsBeforeItPolls : Type 0
SyncsBeforeItPolls =
    (all_is_played (view_of (setting []) (take 4 beginning)) ≡ false) × (all_is_played begun ≡ true) ×
    (is_allowed (view_after exchanged (take 1 revealing)) (Gave 0 (turn_bytes (reveal_by 0 0 0 0))) ≡ false)

-- both players' two turns
abbrev pub whole : List Entry
whole =
    chose ∷ committed ∷ got_commit ∷ revealed ∷ Got 1 (reveal_by 1 0 4 9) ∷ Chose 1 (to 0) (nonce 1) ∷ Made (commit_by game 0 1 0 1) ∷
    Got 1 (commit_by game 1 1 4 8) ∷ Made (reveal_by 0 1 0 1) ∷ Got 1 (reveal_by 1 1 4 8) ∷ []

-- the loop behind them, without a socket, where the other player asked for this place
abbrev pub asked_table : (asked : ℕ) → Table
asked_table asked = let t = first_table (setting whole) in record t { seats = map (λ c. dials (reaches asked c)) t.seats }

abbrev pub finished : (asked : ℕ) → View
finished asked = record (start (setting whole)) { phase = Running; kept = whole; synced = 10; table = asked_table asked }

-- no poll where no frame is missed and nothing waits
unfoldable pub PollsForAReason : Type 0
PollsForAReason = (is_licensed (finished 3) ≡ true) × (is_licensed (finished 4) ≡ false) × (is_waited_for (finished 4) ≡ false)

-- ---- crashes

-- the match up to where the other's commitment is kept and not synced yet
abbrev pub stopped : List Item
stopped = beginning ++ greeting ++ exchange

abbrev pub synced_then : List ℕ
synced_then = kept_for [] chose ++ kept_for (chose ∷ []) committed

-- an image has all that was synced, and may have a part of what was not; that is no lucky tail, but an entry that was never kept is one
unfoldable pub LeavesWhatWasSynced : Type 0
LeavesWhatWasSynced =
    (is_image stopped synced_then ≡ true) × (is_image stopped (kept_for [] chose) ≡ false) ×
    (is_image stopped (synced_then ++ take 50 (kept_for (chose ∷ committed ∷ []) got_commit)) ≡ true) ×
    (has_lucky_tail (setting []) (handed_in stopped None) (synced_then ++ take 50 (kept_for (chose ∷ committed ∷ []) got_commit)) ≡ false) ×
    (has_lucky_tail (setting []) (handed_in stopped None) (synced_then ++ kept_for (chose ∷ committed ∷ []) got_commit) ≡ false) ×
    (has_lucky_tail (setting []) (handed_in stopped None) (synced_then ++ kept_for (chose ∷ committed ∷ []) revealed) ≡ true)

-- ---- beginning from an older log, and what is said on a socket

-- the entries taken over are kept and synced before the loop listens
abbrev pub resumed : List Item
resumed =
    LogBegun name ∷ Kept (kept_for [] chose) ∷ Kept (kept_for (chose ∷ []) committed) ∷ Synced ∷ Listening (told_addr (addr_at 7000)) ∷ []

abbrev pub resumed_to : (count : ℕ) → View
resumed_to count = view_of (setting (chose ∷ committed ∷ [])) (take count resumed)

unfoldable pub GoesOnFromAnOlderLog : Type 0
GoesOnFromAnOlderLog =
    (are_allowed (start (setting (chose ∷ committed ∷ []))) resumed ≡ true) × (is_allowed (resumed_to 2) Synced ≡ false) ×
    (is_allowed (resumed_to 3) (Listening (told_addr (addr_at 7000))) ≡ false)

-- on a socket that was accepted the own HELLO goes out behind the other's
unfoldable pub AnswersAHello : Type 0
AnswersAHello =
    (is_allowed opened (Gave 7 (hello_of 0)) ≡ false) × (are_allowed opened (Took 7 (other_hello 0) ∷ Gave 7 (hello_of 0) ∷ []) ≡ true)

-- the own commitment was given in part
abbrev pub halfway : View
halfway = view_after greeted (take 3 exchange)

abbrev pub own_commit : List ℕ
own_commit = turn_bytes (commit_by game 0 0 0 0)

-- a WANT moves the cursor behind the frame that was begun
unfoldable pub MovesByAWant : Type 0
MovesByAWant =
    (are_allowed halfway (Took 0 (spelling (Want 0)) ∷ Gave 0 (drop 10 own_commit) ∷ Gave 0 own_commit ∷ []) ≡ true) ×
    (are_allowed halfway (Gave 0 (drop 10 own_commit) ∷ Gave 0 own_commit ∷ []) ≡ false) ×
    (are_allowed halfway (Took 0 (spelling (Want 0)) ∷ Gave 0 own_commit ∷ []) ≡ false)
