-- Worked examples: scripts of choices and received frames in a corridor, and how the first player's log then stands.
use Rattle.std.specs.Prelude.{Option, ◌≡◌, ℕ, List, [], ◌∷◌, ◌++◌, Some, None, map, filter, flat_map, replicate, IsTrue}
use Rattle.std.specs.List.{range_with_len}
use Rattle.definitions.specs.declared.world.Cell.{Cell}
use Rattle.definitions.specs.declared.world.Move.{Move}
use Rattle.definitions.specs.declared.world.MoveFault.{MoveFault}
use Rattle.definitions.specs.declared.world.MoveFault.TheVariants.{Outside, Wall, TooFar, StrikeOutside, StrikeFar, NoCharge}
use Rattle.definitions.specs.declared.world.Seat.{Seat}
use Rattle.definitions.specs.declared.world.Track.{Track}
use Rattle.definitions.specs.declared.openings.Nonce.{Nonce}
use Rattle.definitions.specs.declared.frames.TurnFrame.{TurnFrame}
use Rattle.definitions.specs.declared.frames.TurnFrame.TheVariants as F
use Rattle.definitions.specs.declared.frames.What.{What}
use Rattle.definitions.specs.declared.frames.What.TheVariants.{Commit, Reveal}
use Rattle.definitions.specs.declared.logs.Entry.{Entry}
use Rattle.definitions.specs.declared.logs.Entry.TheVariants.{Chose, Made, Got}
use Rattle.definitions.specs.declared.findings.Kind.{Kind}
use Rattle.definitions.specs.declared.findings.Kind.TheVariants as K
use Rattle.definitions.specs.declared.findings.Finding.{Finding}
use Rattle.definitions.specs.declared.answers.Need.{Need}
use Rattle.definitions.specs.declared.answers.OwnFault.TheVariants.{NotNow}
use Rattle.definitions.specs.declared.answers.GotAnswer.TheVariants.{Taken, Stashed, Same, Far, Caught, Closed}
use Rattle.definitions.specs.declared.answers.Progress.TheVariants.{Choose, Done}
use Rattle.definitions.specs.World.{Game, has_cell}
use Rattle.definitions.specs.Sphere.{sphere_of}
use Rattle.definitions.specs.Moves.{next_track, move_fault, start_track, track_after}
use Rattle.definitions.specs.Openings.{commitment}
use Rattle.definitions.specs.Held.{known, next_place, resolved_count}
use Rattle.definitions.specs.Findings.{findings}
use Rattle.definitions.specs.Answers.{got_answer}
use Rattle.definitions.specs.Honest.{made_count}
use Rattle.definitions.specs.Needs.{choice_fault, may_choose, needs}
use Rattle.definitions.specs.Advance.{progress}
use Rattle.definitions.specs.Steps.{Chooses, Comes, LogStep, log_run}

-- the cell of this column and row
abbrev pub at : ℕ → ℕ → Cell
at x y = record { x = x; y = y }

-- a seat in the corridor's row
abbrev pub seat : (x speed reach : ℕ) → Seat
seat x speed reach = record { start = at x 0; speed = speed; reach = reach }

-- twelve cells in a row, with walls, and players of whom the first stands at the left end
abbrev pub corridor_of : (turns ahead : ℕ) → List Cell → List Seat → Game
corridor_of turns ahead walls others = record {
  version = 2;
  id = replicate 32 0;
  grid = record { width = 12; height = 1; walls = walls };
  rules = record { speed = 1; reach = 1; blast = 0; start_charge = 1; cap = 2; cost = 1 };
  turns = turns;
  ahead = ahead;
  seats = seat 0 1 1 ∷ others;
}

-- eight turns, committed one ahead, and a second player at x that steps and reaches one cell
abbrev pub corridor : ℕ → Game
corridor x = corridor_of 8 1 [] (seat x 1 1 ∷ [])

-- 32 equal bytes
abbrev pub nonce : ℕ → Nonce
nonce n = record { bytes = replicate 32 n }

-- to the cell of the row, with no strike
abbrev pub to : ℕ → Move
to x = record { to = at x 0; strike = None }

-- to the cell of the row, with a strike at another
abbrev pub hitting : (x struck : ℕ) → Move
hitting x struck = record { to = at x 0; strike = Some (at struck 0) }

-- choices to stay, with nonces in order from the first
abbrev pub stays : ℕ → List LogStep
stays n = map (λ k. Chooses (to 0) (nonce k)) (range_with_len 0 n)

-- a player's commitment to a turn's move to x, with a nonce of equal bytes
abbrev pub commit_by : Game → (q t x n : ℕ) → TurnFrame
commit_by game q t x n = F.Commit q t (commitment game.id (record { player = q; turn = t; mv = to x; nonce = nonce n }))

-- and its reveal
abbrev pub reveal_by : (q t x n : ℕ) → TurnFrame
reveal_by q t x n = F.Reveal q t (to x) (nonce n)

-- what the first player's log is after the steps
abbrev pub log_by : Game → List LogStep → List Entry
log_by game steps = log_run game 0 [] steps

-- the second player is waited for
abbrev pub waits_for : (turn next : ℕ) → What → List Need
waits_for turn next what = record { player = 1; turn = turn; next = next; what = what } ∷ []

-- the first finding: of the second player, in one log
abbrev pub found : (turn : ℕ) → Kind → (first second : ℕ) → Finding
found turn kind first second = record { player = 1; turn = turn; kind = kind; first = record { log = 0; entry = first }; second = record { log = 0; entry = second } }

-- before anything the player may choose
unfoldable pub BeginsWithAChoice : Type 0
BeginsWithAChoice = (needs (corridor 9) 0 [] ≡ []) × (progress (corridor 9) 0 [] ≡ Choose)

-- nine cells apart, five turns are played blind, and the sixth waits for the silent player's commitment; no seventh is taken
unfoldable pub PlaysBlindUntilSpheresMeet : Type 0
PlaysBlindUntilSpheresMeet =
    (needs (corridor 9) 0 (log_by (corridor 9) (stays 6)) ≡ waits_for 5 0 Commit) × (made_count (log_by (corridor 9) (stays 6)) ≡ 11) ×
    (choice_fault (corridor 9) 0 (log_by (corridor 9) (stays 6)) (to 0) ≡ Some NotNow)

-- four cells apart the spheres share one cell, and the first reveal waits
unfoldable pub WaitsWhereSpheresMeet : Type 0
WaitsWhereSpheresMeet =
    (needs (corridor 4) 0 (log_by (corridor 4) (stays 1)) ≡ waits_for 0 0 Commit) × (made_count (log_by (corridor 4) (stays 1)) ≡ 1) ×
    (filter (has_cell (sphere_of (corridor 4) 1 (at 4 0 ∷ []))) (sphere_of (corridor 4) 0 (at 0 0 ∷ [])) ≡ at 2 0 ∷ [])

-- five cells apart nobody is waited for in the first turn
unfoldable pub GoesWhereSpheresAreApart : Type 0
GoesWhereSpheresAreApart =
    (made_count (log_by (corridor 5) (stays 1)) ≡ 2) × (needs (corridor 5) 0 (log_by (corridor 5) (stays 1)) ≡ []) ×
    IsTrue (may_choose (corridor 5) 0 (log_by (corridor 5) (stays 1)))

-- a wall between them is never walked round: all turns are played, and only the end waits
abbrev pub walled : Game
walled = corridor_of 8 1 (at 5 0 ∷ []) (seat 9 1 1 ∷ [])

unfoldable pub WallsKeepSpheresApart : Type 0
WallsKeepSpheresApart =
    (made_count (log_by walled (stays 8)) ≡ 16) × (needs walled 0 (log_by walled (stays 8)) ≡ waits_for 7 0 Reveal)

-- a player of speed two and no reach, nine cells away, is waited for in the fourth turn
abbrev pub against_a_runner : Game
against_a_runner = corridor_of 8 1 [] (seat 9 2 0 ∷ [])

unfoldable pub RunnersAreWaitedForSooner : Type 0
RunnersAreWaitedForSooner =
    (made_count (log_by against_a_runner (stays 4)) ≡ 7) × (needs against_a_runner 0 (log_by against_a_runner (stays 4)) ≡ waits_for 3 0 Commit)

-- committing two turns ahead, five turns are revealed and seven committed; no eighth choice is taken
abbrev pub ahead_of : ℕ → Game
ahead_of x = corridor_of 8 2 [] (seat x 1 1 ∷ [])

unfoldable pub CommitsTwoAhead : Type 0
CommitsTwoAhead =
    (needs (ahead_of 9) 0 (log_by (ahead_of 9) (stays 7)) ≡ waits_for 5 0 Commit) × (made_count (log_by (ahead_of 9) (stays 7)) ≡ 12) ×
    (choice_fault (ahead_of 9) 0 (log_by (ahead_of 9) (stays 7)) (to 0) ≡ Some NotNow)

-- committing three turns ahead, the first reveal follows the third choice; all turns are committed and five revealed
abbrev pub further_ahead_of : ℕ → Game
further_ahead_of x = corridor_of 8 3 [] (seat x 1 1 ∷ [])

unfoldable pub CommitsThreeAhead : Type 0
CommitsThreeAhead =
    (made_count (log_by (further_ahead_of 9) (stays 2)) ≡ 2) × (made_count (log_by (further_ahead_of 9) (stays 3)) ≡ 4) ×
    (needs (further_ahead_of 9) 0 (log_by (further_ahead_of 9) (stays 8)) ≡ waits_for 5 0 Commit) × (made_count (log_by (further_ahead_of 9) (stays 8)) ≡ 13) ×
    (choice_fault (further_ahead_of 9) 0 (log_by (further_ahead_of 9) (stays 8)) (to 0) ≡ Some NotNow)

-- a first player that steps and reaches two cells, and a second, nine cells away, that steps one cell and reaches none
abbrev pub uneven : Game
uneven = record (corridor 9) { seats = seat 0 2 2 ∷ seat 9 1 0 ∷ [] }

-- each walks and strikes by its own seat, and the fifth turn is the first that waits
unfoldable pub PlayersDiffer : Type 0
PlayersDiffer =
    (made_count (log_by uneven (stays 5)) ≡ 9) × (needs uneven 0 (log_by uneven (stays 5)) ≡ waits_for 4 0 Commit) ×
    (move_fault uneven 0 (start_track uneven 0) (to 2) ≡ None) × (move_fault uneven 0 (start_track uneven 0) (to 3) ≡ Some TooFar) ×
    (move_fault uneven 1 (start_track uneven 1) (to 8) ≡ None) × (move_fault uneven 1 (start_track uneven 1) (to 7) ≡ Some TooFar) ×
    (move_fault uneven 0 (start_track uneven 0) (hitting 0 2) ≡ None) × (move_fault uneven 0 (start_track uneven 0) (hitting 0 3) ≡ Some StrikeFar) ×
    (move_fault uneven 1 (start_track uneven 1) (hitting 9 9) ≡ None) × (move_fault uneven 1 (start_track uneven 1) (hitting 9 8) ≡ Some StrikeFar)

-- the log of a choice, its commitment and its reveal
unfoldable pub LogsChoiceCommitmentReveal : Type 0
LogsChoiceCommitmentReveal =
    log_by (corridor 9) (stays 1) ≡
    Chose 0 (to 0) (nonce 0) ∷ Made (commit_by (corridor 9) 0 0 0 0) ∷ Made (reveal_by 0 0 0 0) ∷ []

-- once the other's first turn is resolved, the reveal that waited is made, and the next turn waits
abbrev pub goes_on : List LogStep
goes_on = stays 6 ++ Comes 1 (commit_by (corridor 9) 1 0 9 0) ∷ Comes 1 (reveal_by 1 0 9 0) ∷ Chooses (to 0) (nonce 6) ∷ []

unfoldable pub GoesOnWhenTheOtherIsKnown : Type 0
GoesOnWhenTheOtherIsKnown =
    (needs (corridor 9) 0 (log_by (corridor 9) goes_on) ≡ waits_for 6 2 Commit) × (made_count (log_by (corridor 9) goes_on) ≡ 13) ×
    (resolved_count (corridor 9) 0 (log_by (corridor 9) goes_on) 1 ≡ 1)

-- a commitment that came is taken, and when it comes again it is the same and changes nothing
abbrev pub first_commitment : TurnFrame
first_commitment = commit_by (corridor 9) 1 0 9 0

unfoldable pub TakesAFrameOnce : Type 0
TakesAFrameOnce =
    (got_answer (corridor 9) 0 [] 1 first_commitment ≡ Taken) ×
    (got_answer (corridor 9) 0 (Got 1 first_commitment ∷ []) 1 first_commitment ≡ Same) ×
    (log_by (corridor 9) (Comes 1 first_commitment ∷ Comes 1 first_commitment ∷ Comes 1 first_commitment ∷ []) ≡ Got 1 first_commitment ∷ [])

-- a reveal that comes before its commitment is kept, and counts once the commitment is there
abbrev pub reveal_first : List Entry
reveal_first = log_by (corridor 9) (Comes 1 (reveal_by 1 0 9 0) ∷ Comes 1 first_commitment ∷ [])

unfoldable pub StashesWhatComesEarly : Type 0
StashesWhatComesEarly =
    (got_answer (corridor 9) 0 [] 1 (reveal_by 1 0 9 0) ≡ Stashed) ×
    (got_answer (corridor 9) 0 (Got 1 (reveal_by 1 0 9 0) ∷ []) 1 first_commitment ≡ Taken) ×
    (next_place (corridor 9) 0 reveal_first 1 ≡ 2) × (track_after (corridor 9) 1 (known (corridor 9) 0 reveal_first 1).moves ≡ record { at = at 9 0; charge = 2 })

-- two commitments to one turn are caught, and nothing more is taken
unfoldable pub CatchesTwoCommitments : Type 0
CatchesTwoCommitments =
    (got_answer (corridor 9) 0 [] 1 (commit_by (corridor 9) 1 2 9 0) ≡ Stashed) ×
    (got_answer (corridor 9) 0 (Got 1 (commit_by (corridor 9) 1 2 9 0) ∷ []) 1 (commit_by (corridor 9) 1 2 9 1) ≡ Caught (found 2 K.TwoCommits 0 1)) ×
    (got_answer (corridor 9) 0 (Got 1 (commit_by (corridor 9) 1 2 9 0) ∷ Got 1 (commit_by (corridor 9) 1 2 9 1) ∷ []) 1 first_commitment ≡ Closed)

-- a reveal that opens another digest than the turn's frames before it is caught
unfoldable pub CatchesBadOpenings : Type 0
CatchesBadOpenings =
    (got_answer (corridor 9) 0 (Got 1 first_commitment ∷ Got 1 (reveal_by 1 0 9 0) ∷ []) 1 (reveal_by 1 0 9 9) ≡ Caught (found 0 K.BadOpening 0 2)) ×
    (got_answer (corridor 9) 0 (Got 1 (reveal_by 1 0 9 0) ∷ []) 1 (reveal_by 1 0 9 9) ≡ Caught (found 0 K.BadOpening 0 1))

-- a reveal of a move too far is caught
unfoldable pub CatchesIllegalMoves : Type 0
CatchesIllegalMoves =
    (got_answer (corridor 9) 0 [] 1 (commit_by (corridor 9) 1 0 7 0) ≡ Taken) ×
    (got_answer (corridor 9) 0 (Got 1 (commit_by (corridor 9) 1 0 7 0) ∷ []) 1 (reveal_by 1 0 7 0) ≡ Caught (found 0 K.Illegal 0 1)) ×
    (move_fault (corridor 9) 1 (start_track (corridor 9) 1) (to 7) ≡ Some TooFar)

-- committing three turns ahead, a move too far is caught although commitments at lower places are missing, also by a commitment
-- that comes late; one of a turn behind one that isn't resolved is caught with the commitment that resolves it, before what
-- that commitment shows of its own turn
abbrev pub too_far_later : List Entry
too_far_later =
    Got 1 (commit_by (further_ahead_of 9) 1 0 9 0) ∷ Got 1 (commit_by (further_ahead_of 9) 1 1 7 1) ∷
    Got 1 (reveal_by 1 0 9 0) ∷ Got 1 (reveal_by 1 1 7 1) ∷ Got 1 (reveal_by 1 2 9 9) ∷ []

unfoldable pub CatchesIllegalMovesAhead : Type 0
CatchesIllegalMovesAhead =
    (got_answer (further_ahead_of 9) 0 (Got 1 (commit_by (further_ahead_of 9) 1 0 7 0) ∷ []) 1 (reveal_by 1 0 7 0) ≡ Caught (found 0 K.Illegal 0 1)) ×
    (got_answer (further_ahead_of 9) 0 (Got 1 (commit_by (further_ahead_of 9) 1 1 9 1) ∷ Got 1 (reveal_by 1 0 7 0) ∷ []) 1 (commit_by (further_ahead_of 9) 1 0 7 0) ≡ Caught (found 0 K.Illegal 1 2)) ×
    (findings (further_ahead_of 9) (too_far_later ∷ []) ≡ []) ×
    (got_answer (further_ahead_of 9) 0 too_far_later 1 (commit_by (further_ahead_of 9) 1 2 9 2) ≡ Caught (found 1 K.Illegal 1 3))

-- a frame up to eight places past the next one is kept, and one further is refused, as is one past the last turn
unfoldable pub KeepsAWindowOfEight : Type 0
KeepsAWindowOfEight =
    (got_answer (corridor 9) 0 (Got 1 first_commitment ∷ []) 1 (commit_by (corridor 9) 1 5 9 5) ≡ Far) ×
    (got_answer (corridor 9) 0 (Got 1 first_commitment ∷ []) 1 (reveal_by 1 4 9 4) ≡ Stashed) ×
    (got_answer (corridor 9) 0 [] 1 (commit_by (corridor 9) 1 8 9 8) ≡ Far)

-- a strike costs, and a turn without one adds to the charge
abbrev pub duel : List LogStep
duel =
    Chooses (to 1) (nonce 0) ∷ Comes 1 (commit_by (corridor 4) 1 0 3 0) ∷ Comes 1 (reveal_by 1 0 3 0) ∷
    Chooses (record { to = at 2 0; strike = Some (at 3 0) }) (nonce 1) ∷ Comes 1 (commit_by (corridor 4) 1 1 3 1) ∷ Comes 1 (reveal_by 1 1 3 1) ∷ []

unfoldable pub StrikesCostCharge : Type 0
StrikesCostCharge =
    (progress (corridor 4) 0 (log_by (corridor 4) duel) ≡ Choose) × (made_count (log_by (corridor 4) duel) ≡ 4) ×
    (track_after (corridor 4) 0 (known (corridor 4) 0 (log_by (corridor 4) duel) 0).moves ≡ record { at = at 2 0; charge = 1 }) ×
    (track_after (corridor 4) 1 (known (corridor 4) 0 (log_by (corridor 4) duel) 1).moves ≡ record { at = at 3 0; charge = 2 })

-- committing two turns ahead, the other's commitments count in the order of turns, however they come
abbrev pub two_commitments : List LogStep
two_commitments = stays 2 ++ Comes 1 (commit_by (ahead_of 4) 1 1 4 1) ∷ Comes 1 (commit_by (ahead_of 4) 1 0 4 0) ∷ []

unfoldable pub TakesCommitmentsAhead : Type 0
TakesCommitmentsAhead =
    (got_answer (ahead_of 4) 0 (log_by (ahead_of 4) (stays 2)) 1 (commit_by (ahead_of 4) 1 1 4 1) ≡ Stashed) ×
    (needs (ahead_of 4) 0 (log_by (ahead_of 4) two_commitments) ≡ waits_for 0 2 Reveal) × (made_count (log_by (ahead_of 4) two_commitments) ≡ 3)

-- committing three turns ahead, a later turn's reveal counts once the turns before are resolved and all lower places are there
abbrev pub later_reveal : List LogStep
later_reveal =
    Comes 1 (commit_by (further_ahead_of 9) 1 0 9 0) ∷ Comes 1 (commit_by (further_ahead_of 9) 1 1 9 1) ∷ Comes 1 (reveal_by 1 1 9 1) ∷ []

abbrev pub earlier_reveal : List LogStep
earlier_reveal = later_reveal ++ Comes 1 (commit_by (further_ahead_of 9) 1 2 9 2) ∷ Comes 1 (reveal_by 1 0 9 0) ∷ []

abbrev pub last_commitment : List LogStep
last_commitment = earlier_reveal ++ Comes 1 (commit_by (further_ahead_of 9) 1 3 9 3) ∷ []

unfoldable pub KeepsRevealsInOrder : Type 0
KeepsRevealsInOrder =
    (resolved_count (further_ahead_of 9) 0 (log_by (further_ahead_of 9) later_reveal) 1 ≡ 0) × (next_place (further_ahead_of 9) 0 (log_by (further_ahead_of 9) later_reveal) 1 ≡ 2) ×
    (resolved_count (further_ahead_of 9) 0 (log_by (further_ahead_of 9) earlier_reveal) 1 ≡ 1) × (next_place (further_ahead_of 9) 0 (log_by (further_ahead_of 9) earlier_reveal) 1 ≡ 4) ×
    (resolved_count (further_ahead_of 9) 0 (log_by (further_ahead_of 9) last_commitment) 1 ≡ 2) × (next_place (further_ahead_of 9) 0 (log_by (further_ahead_of 9) last_commitment) 1 ≡ 6)

-- three players, of whom the last shows one face to the first and another to the second
abbrev pub three : Game
three = corridor_of 8 1 [] (seat 9 1 1 ∷ seat 11 1 1 ∷ [])

-- what came of the last player up to a turn to x with this nonce
abbrev pub face : (x n : ℕ) → List Entry
face x n =
    Got 2 (commit_by three 2 0 11 0) ∷ Got 2 (reveal_by 2 0 11 0) ∷ Got 2 (commit_by three 2 1 11 1) ∷ Got 2 (reveal_by 2 1 11 1) ∷
    Got 2 (commit_by three 2 2 11 2) ∷ Got 2 (reveal_by 2 2 11 2) ∷ Got 2 (commit_by three 2 3 x n) ∷ Got 2 (reveal_by 2 3 x n) ∷ []

-- a finding of the last player in both logs
abbrev pub in_both : Kind → (first second : ℕ) → Finding
in_both kind first second = record { player = 2; turn = 3; kind = kind; first = record { log = 0; entry = first }; second = record { log = 1; entry = second } }

unfoldable pub FindsTwoFaces : Type 0
FindsTwoFaces =
    (findings three (face 11 3 ∷ face 10 9 ∷ []) ≡ in_both K.TwoCommits 6 6 ∷ in_both K.BadOpening 6 7 ∷ []) ×
    (findings three (face 11 3 ∷ []) ≡ []) × (findings three (face 10 9 ∷ []) ≡ []) ×
    (resolved_count three 0 (face 11 3) 2 ≡ 4) × (resolved_count three 1 (face 10 9) 2 ≡ 4)

-- a player that stays, all of whose frames came before the first choice: each turn is played at once, and the end is done
abbrev pub all_came : List LogStep
all_came = flat_map (λ n. Comes 1 (commit_by (corridor 9) 1 n 9 n) ∷ Comes 1 (reveal_by 1 n 9 n) ∷ []) (range_with_len 0 8) ++ stays 8

unfoldable pub EndsDone : Type 0
EndsDone =
    (progress (corridor 9) 0 (log_by (corridor 9) all_came) ≡ Done) × (made_count (log_by (corridor 9) all_came) ≡ 16) ×
    (next_place (corridor 9) 0 (log_by (corridor 9) all_came) 1 ≡ 16)

-- a room of five by five cells with a wall of four, whose player takes two steps and reaches one cell
abbrev pub room : Game
room = record (corridor 0) {
  grid = record { width = 5; height = 5; walls = at 2 0 ∷ at 2 1 ∷ at 2 2 ∷ at 2 3 ∷ [] };
  rules = record { speed = 2; reach = 1; blast = 0; start_charge = 1; cap = 3; cost = 2 };
  seats = record { start = at 1 2; speed = 2; reach = 1 } ∷ [];
}

-- a track beside the wall, with this charge
abbrev pub beside : ℕ → Track
beside charge = record { at = at 1 2; charge = charge }

-- the fault of going to a cell, and of staying with a strike
abbrev pub going : (x y : ℕ) → Option MoveFault
going x y = move_fault room 0 (beside 1) (record { to = at x y; strike = None })

abbrev pub striking : (charge x y : ℕ) → Option MoveFault
striking charge x y = move_fault room 0 (beside charge) (record { to = at 1 2; strike = Some (at x y) })

-- each cause of a refused move, and legal moves with what they leave
unfoldable pub RefusesMovesByCause : Type 0
RefusesMovesByCause =
    (going 5 0 ≡ Some Outside) × (going 2 2 ≡ Some Wall) × (going 3 2 ≡ Some TooFar) × (going 1 0 ≡ None) × (going 2 4 ≡ None) ×
    (striking 1 5 2 ≡ Some StrikeOutside) × (striking 1 1 4 ≡ Some StrikeFar) × (striking 1 2 2 ≡ Some NoCharge) × (striking 2 2 2 ≡ None) ×
    (next_track room (beside 1) (record { to = at 2 4; strike = None }) ≡ record { at = at 2 4; charge = 2 }) ×
    (next_track room (beside 2) (record { to = at 1 2; strike = Some (at 2 2) }) ≡ record { at = at 1 2; charge = 0 })
