-- Exhibits: frames that show, without any log, that a player broke the protocol.
use Rattle.std.specs.Prelude.{ℕ, Bool, false, not, ◌&&◌, List, [], ◌∷◌, ◌++◌, length, nat_lt, ◌==◌, if◌then◌else◌, IsTrue}
use Rattle.definitions.specs.declared.world.Move.{Move}
use Rattle.definitions.specs.declared.frames.TurnFrame.{TurnFrame}
use Rattle.definitions.specs.declared.frames.TurnFrame.TheVariants.{Commit, Reveal}
use Rattle.definitions.specs.declared.findings.Kind.{Kind}
use Rattle.definitions.specs.declared.findings.Kind.TheVariants.{TwoCommits, BadOpening, Collision, Illegal}
use Rattle.definitions.specs.Lists.{is_empty}
use Rattle.definitions.specs.World.{Game, players_of}
use Rattle.definitions.specs.Logs.{digest_eq, player_of, turn_of}
use Rattle.definitions.specs.Held.{digest_of}
use Rattle.definitions.specs.Findings.{are_two_commits, are_bad_opening, are_collision, is_illegal_after}

-- the frame is of this player and turn
abbrev pub is_of_turn : ℕ → ℕ → TurnFrame → Bool
is_of_turn q t f = (player_of f == q) && (turn_of f == t)

-- there are two frames, both of this player and turn, that pass the test
abbrev pub are_two_of : ℕ → ℕ → (TurnFrame → TurnFrame → Bool) → List TurnFrame → Bool
are_two_of q t test [] = false
are_two_of q t test (f ∷ []) = false
are_two_of q t test (f ∷ g ∷ []) = is_of_turn q t f && is_of_turn q t g && test f g
are_two_of q t test (f ∷ g ∷ e ∷ es) = false

-- a commitment, and a reveal that opens it
abbrev pub is_opened_by : Game → TurnFrame → TurnFrame → Bool
is_opened_by game (Commit p t d) (Commit q u e) = false
is_opened_by game (Commit p t d) (Reveal q u m n) = digest_eq d (digest_of game (Reveal q u m n))
is_opened_by game (Reveal p t m n) g = false

-- the moves with the frame's, if it shows one
abbrev pub with_move_of : List Move → TurnFrame → List Move
with_move_of before (Commit p t d) = before
with_move_of before (Reveal p t m n) = before ++ m ∷ []

-- turn by turn from the first up to the last one: a commitment of the player and the reveal that opens it, all moves but
-- the last legal, and the last not
unfoldable pub end_illegal : Game → ℕ → ℕ → List TurnFrame → List Move → Bool
end_illegal game q last [] before = false
end_illegal game q last (f ∷ []) before = false
end_illegal game q last (f ∷ g ∷ fs) before =
    is_of_turn q (length before) f && is_of_turn q (length before) g && is_opened_by game f g &&
    (if length before == last then is_illegal_after game q before g && is_empty fs
    else not (is_illegal_after game q before g) && end_illegal game q last fs (with_move_of before g))

-- the frames show this kind of the player's turn
unfoldable pub are_of_kind : Game → ℕ → ℕ → Kind → List TurnFrame → Bool
are_of_kind game q t TwoCommits fs = are_two_of q t (are_two_commits game) fs
are_of_kind game q t BadOpening fs = are_two_of q t (are_bad_opening game) fs
are_of_kind game q t Collision fs = are_two_of q t (are_collision game) fs
are_of_kind game q t Illegal fs = end_illegal game q t fs []

-- the frames show this kind of a player and turn of the session
abbrev pub shows : Game → ℕ → ℕ → Kind → List TurnFrame → Bool
shows game q t kind fs = nat_lt q (players_of game) && nat_lt t game.turns && are_of_kind game q t kind fs

abbrev pub Shows : Game → ℕ → ℕ → Kind → List TurnFrame → Type 0
Shows game q t kind fs = IsTrue (shows game q t kind fs)
