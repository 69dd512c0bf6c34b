-- Needs: whom the owner of a log waits for, and when it may choose.
use Rattle.std.specs.Prelude.{ℕ, ◌-◌, Bool, false, not, ◌&&◌, List, [], Option, Some, None, filter, map, nat_lt, is_none, if◌then◌else◌}
use Rattle.definitions.specs.declared.world.Move.{Move}
use Rattle.definitions.specs.declared.world.MoveFault.{MoveFault}
use Rattle.definitions.specs.declared.answers.OwnFault.{OwnFault}
use Rattle.definitions.specs.declared.answers.OwnFault.TheVariants.{NotNow, Illegal}
use Rattle.definitions.specs.declared.logs.Entry.{Entry}
use Rattle.definitions.specs.declared.frames.What.{What}
use Rattle.definitions.specs.declared.frames.What.TheVariants.{Commit, Reveal}
use Rattle.definitions.specs.declared.answers.Need.{Need}
use Rattle.definitions.specs.Lists.{is_empty}
use Rattle.definitions.specs.World.{Game}
use Rattle.definitions.specs.Moves.{move_fault}
use Rattle.definitions.specs.declared.places.Slot.{Slot}
use Rattle.definitions.specs.Places.{slot_at}
use Rattle.definitions.specs.Held.{resolved_count, next_place}
use Rattle.definitions.specs.Findings.{is_clean}
use Rattle.definitions.specs.Honest.{others, lets_reveal, lets_commit, made_count, chosen_for, chosen_track}

-- the need of q's commitment to the turn, or of its reveal
abbrev pub need_of : Game → ℕ → List Entry → ℕ → What → ℕ → Need
need_of game me h t what q = record { player = q; turn = t; next = next_place game me h q; what = what }

-- the need of that frame of each other player that does not pass the test
abbrev pub needs_unless : Game → ℕ → List Entry → (ℕ → Bool) → ℕ → What → List Need
needs_unless game me h test t what = map (need_of game me h t what) (filter (λ q. not (test q)) (others game me))

-- the player's turns are all resolved
abbrev pub is_done : Game → ℕ → List Entry → ℕ → Bool
is_done game me h q = not (nat_lt (resolved_count game me h q) game.turns)

-- what the owner misses for its commitment to a turn
abbrev pub commit_needs : Game → ℕ → List Entry → ℕ → List Need
commit_needs game me h t =
    if nat_lt t game.ahead then []
    else needs_unless game me h (lets_commit game me h (t - game.ahead)) (t - game.ahead) Reveal

-- what the owner misses for its reveal of a turn
abbrev pub reveal_needs : Game → ℕ → List Entry → ℕ → List Need
reveal_needs game me h t = needs_unless game me h (lets_reveal game me h t) t Commit

-- what the owner misses for one of the two frames of a turn
abbrev pub frame_needs : Game → ℕ → List Entry → What → ℕ → List Need
frame_needs game me h Commit t = commit_needs game me h t
frame_needs game me h Reveal t = reveal_needs game me h t

-- what the owner misses for its next frame; behind its last, each player whose turns are not all resolved
abbrev pub needs_at : Game → ℕ → List Entry → Option Slot → List Need
needs_at game me h None = needs_unless game me h (is_done game me h) (game.turns - 1) Reveal
needs_at game me h (Some s) = frame_needs game me h s.what s.turn

-- whom the owner waits for
unfoldable pub needs : Game → ℕ → List Entry → List Need
needs game me h = needs_at game me h (slot_at game (made_count h))

-- the frame is the commitment of a turn that is not chosen yet
abbrev pub is_unchosen_frame : ℕ → List Entry → What → ℕ → Bool
is_unchosen_frame me h Commit t = is_none (chosen_for me h t)
is_unchosen_frame me h Reveal t = false

-- the next frame is the commitment of a turn that is not chosen yet
abbrev pub is_unchosen : ℕ → List Entry → Option Slot → Bool
is_unchosen me h None = false
is_unchosen me h (Some s) = is_unchosen_frame me h s.what s.turn

-- the owner may choose a move
unfoldable pub may_choose : Game → ℕ → List Entry → Bool
may_choose game me h = is_clean game h && is_unchosen me h (slot_at game (made_count h)) && is_empty (needs game me h)

-- the fault of a choice whose move has this fault
abbrev pub own_fault : Option MoveFault → Option OwnFault
own_fault None = None
own_fault (Some f) = Some (Illegal f)

-- why the owner's choice is refused, if it is
unfoldable pub choice_fault : Game → ℕ → List Entry → Move → Option OwnFault
choice_fault game me h mv =
    if not (may_choose game me h) then Some NotNow else own_fault (move_fault game me (chosen_track game me h) mv)
