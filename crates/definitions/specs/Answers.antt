-- Answers: which frames that come are new, and what becomes of them.
use Rattle.std.specs.Prelude.{ℕ, ◌+◌, ◌*◌, Bool, not, ◌&&◌, ◌||◌, List, [], ◌∷◌, ◌++◌, nat_lt, nat_le, ◌==◌, if◌then◌else◌}
use Rattle.std.specs.List.{list_any}
use Rattle.definitions.specs.declared.frames.TurnFrame.{TurnFrame}
use Rattle.definitions.specs.declared.frames.TurnFrame.TheVariants.{Commit, Reveal}
use Rattle.definitions.specs.declared.logs.Entry.{Entry}
use Rattle.definitions.specs.declared.logs.Entry.TheVariants.{Got}
use Rattle.definitions.specs.declared.findings.Finding.{Finding}
use Rattle.definitions.specs.declared.answers.GotAnswer.{GotAnswer}
use Rattle.definitions.specs.declared.answers.GotAnswer.TheVariants.{Taken, Stashed, Same, Far, Foreign, Caught, Closed}
use Rattle.definitions.specs.declared.limits.TheConstants.{WINDOW}
use Rattle.definitions.specs.World.{Game, players_of}
use Rattle.definitions.specs.Places.{commit_place, reveal_place}
use Rattle.definitions.specs.Logs.{entry_eq, player_of}
use Rattle.definitions.specs.Held.{next_place}
use Rattle.definitions.specs.Findings.{findings, is_clean}

-- the place of a frame in its player's stream
unfoldable pub place_of : Game → TurnFrame → ℕ
place_of game (Commit p t d) = commit_place game t
place_of game (Reveal p t m n) = reveal_place game t

-- the frame's place is past the window that begins at the next place, or past the last turn
abbrev pub is_beyond : Game → ℕ → TurnFrame → Bool
is_beyond game next f = nat_lt (next + WINDOW) (place_of game f) || nat_le (2 * game.turns) (place_of game f)

-- the frame's place is past the window of its player
unfoldable pub is_far : Game → ℕ → List Entry → ℕ → TurnFrame → Bool
is_far game me h q f = is_beyond game (next_place game me h q) f

-- the log has got the frame from the player
unfoldable pub is_same : List Entry → ℕ → TurnFrame → Bool
is_same h q f = list_any (entry_eq (Got q f)) h

-- neither far nor there
abbrev pub is_new : Game → ℕ → List Entry → ℕ → TurnFrame → Bool
is_new game me h q f = not (is_far game me h q f) && not (is_same h q f)

-- the frame is another player's own
abbrev pub is_of_another : Game → ℕ → ℕ → TurnFrame → Bool
is_of_another game me q f = nat_lt q (players_of game) && not (q == me) && (player_of f == q)

-- what becomes of a new frame, by the findings of the log with it and the player's next place before it
abbrev pub new_answer : Game → ℕ → List Finding → TurnFrame → GotAnswer
new_answer game next (f ∷ fs) frame = Caught f
new_answer game next [] frame = if place_of game frame == next then Taken else Stashed

-- what becomes of a frame that comes from q
unfoldable pub got_answer : Game → ℕ → List Entry → ℕ → TurnFrame → GotAnswer
got_answer game me h q f =
    if not (is_clean game h) then Closed
    else if not (is_of_another game me q f) then Foreign
    else if is_far game me h q f then Far
    else if is_same h q f then Same
    else new_answer game (next_place game me h q) (findings game ((h ++ Got q f ∷ []) ∷ [])) f
