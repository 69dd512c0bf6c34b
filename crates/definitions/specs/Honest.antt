-- Honest logs: what a peer may do, entry by entry.
use Rattle.std.specs.Prelude.{ℕ, ◌-◌, Bool, true, false, not, ◌&&◌, ◌||◌, List, [], ◌∷◌, ◌++◌, Option, Some, None, length, filter, map, nat_lt, is_some, find, ◌==◌, IsTrue}
use Rattle.std.specs.List.{range_with_len, list_all}
use Rattle.definitions.specs.declared.openings.Opening.{Opening}
use Rattle.definitions.specs.declared.world.Move.{Move}
use Rattle.definitions.specs.declared.world.Track.{Track}
use Rattle.definitions.specs.declared.openings.Nonce.{Nonce}
use Rattle.definitions.specs.declared.openings.Digest.{Digest}
use Rattle.definitions.specs.declared.frames.TurnFrame.{TurnFrame}
use Rattle.definitions.specs.declared.frames.TurnFrame.TheVariants.{Commit, Reveal}
use Rattle.definitions.specs.declared.logs.Entry.{Entry}
use Rattle.definitions.specs.declared.logs.Entry.TheVariants.{Chose, Made, Got}
use Rattle.definitions.specs.World.{Game, players_of}
use Rattle.definitions.specs.Moves.{is_legal, track_after}
use Rattle.definitions.specs.Openings.{commitment}
use Rattle.definitions.specs.Places.{commit_place, reveal_place}
use Rattle.definitions.specs.Logs.{digest_eq, move_eq, nonce_eq, made, chosen}
use Rattle.definitions.specs.Held.{held, resolved}
use Rattle.definitions.specs.Meets.{meets}
use Rattle.definitions.specs.Findings.{is_clean}
use Rattle.definitions.specs.Answers.{is_new, is_of_another}

-- all players but this one, in order
unfoldable pub others : Game → ℕ → List ℕ
others game me = filter (λ q. not (q == me)) (range_with_len 0 (players_of game))

-- the player's commitment to the turn is held, or it does not meet the owner in it
abbrev pub lets_reveal : Game → ℕ → List Entry → ℕ → ℕ → Bool
lets_reveal game me g t q = is_some (held game me g q t) || not (meets game me g q t)

-- the player's turn is resolved, or it does not meet the owner in it
abbrev pub lets_commit : Game → ℕ → List Entry → ℕ → ℕ → Bool
lets_commit game me g t q = is_some (resolved game me g q t) || not (meets game me g q t)

-- the owner may reveal the turn
unfoldable pub may_reveal : Game → ℕ → List Entry → ℕ → Bool
may_reveal game me g t = list_all (lets_reveal game me g t) (others game me)

-- the owner may commit the turn
unfoldable pub may_commit : Game → ℕ → List Entry → ℕ → Bool
may_commit game me g t = nat_lt t game.ahead || list_all (lets_commit game me g (t - game.ahead)) (others game me)

-- how many frames the owner made
abbrev pub made_count : List Entry → ℕ
made_count g = length (made g)

-- what the owner chose for the turn
abbrev pub chosen_for : ℕ → List Entry → ℕ → Option Opening
chosen_for me g t = find (λ o. o.turn == t) (chosen me g)

-- the track after the moves that the owner chose
abbrev pub chosen_track : Game → ℕ → List Entry → Track
chosen_track game me g = track_after game me (map (λ o. o.mv) (chosen me g))

-- the digest is the commitment to what was chosen
abbrev pub commits_to : Game → Option Opening → Digest → Bool
commits_to game None d = false
commits_to game (Some o) d = digest_eq d (commitment game.id o)

-- the move and the nonce are what was chosen
abbrev pub reveals_of : Option Opening → Move → Nonce → Bool
reveals_of None m n = false
reveals_of (Some o) m n = move_eq m o.mv && nonce_eq n o.nonce

-- the choice of this turn and move may come next
unfoldable pub allows_choice : Game → ℕ → List Entry → ℕ → Move → Bool
allows_choice game me g t m =
    (length (chosen me g) == t) && nat_lt t game.turns && (made_count g == commit_place game t) &&
    is_legal game me (chosen_track game me g) m && may_commit game me g t

-- this own frame may come next
unfoldable pub allows_frame : Game → ℕ → List Entry → TurnFrame → Bool
allows_frame game me g (Commit p t d) =
    (p == me) && (made_count g == commit_place game t) && commits_to game (chosen_for me g t) d && may_commit game me g t
allows_frame game me g (Reveal p t m n) =
    (p == me) && (made_count g == reveal_place game t) && reveals_of (chosen_for me g t) m n && may_reveal game me g t

-- the entry may come next in the owner's log, findings aside
unfoldable pub allows : Game → ℕ → List Entry → Entry → Bool
allows game me g (Chose t m n) = allows_choice game me g t m
allows game me g (Made f) = allows_frame game me g f
allows game me g (Got q f) = is_of_another game me q f && is_new game me g q f

-- the entry may come next in the owner's log
abbrev pub allowed : Game → ℕ → List Entry → Entry → Bool
allowed game me g e = is_clean game g && allows game me g e

-- these entries may follow the log g, one after another
unfoldable pub honest_from : Game → ℕ → List Entry → List Entry → Bool
honest_from game me g [] = true
honest_from game me g (e ∷ es) = allowed game me g e && honest_from game me (g ++ e ∷ []) es

-- each entry of the log was allowed after those before it
abbrev pub IsHonest : Game → ℕ → List Entry → Type 0
IsHonest game me h = IsTrue (honest_from game me [] h)
