-- Logs: a peer's entries, and the frames in them.
use Rattle.std.specs.Prelude.{ℕ, Bool, true, false, ◌&&◌, List, [], ◌∷◌, Option, Some, None, flat_map, ◌==◌, if◌then◌else◌}
use Rattle.std.specs.Str.{bytes_eq}
use Rattle.definitions.specs.declared.world.Cell.{Cell}
use Rattle.definitions.specs.declared.world.Move.{Move}
use Rattle.definitions.specs.declared.openings.Nonce.{Nonce}
use Rattle.definitions.specs.declared.openings.Digest.{Digest}
use Rattle.definitions.specs.declared.openings.Opening.{Opening}
use Rattle.definitions.specs.declared.frames.TurnFrame.{TurnFrame}
use Rattle.definitions.specs.declared.frames.TurnFrame.TheVariants.{Commit, Reveal}
use Rattle.definitions.specs.declared.logs.Entry.{Entry}
use Rattle.definitions.specs.declared.logs.Entry.TheVariants.{Chose, Made, Got}
use Rattle.definitions.specs.World.{cell_eq}

-- the same digest
abbrev pub digest_eq : Digest → Digest → Bool
digest_eq a b = bytes_eq a.bytes b.bytes

-- the same nonce
abbrev pub nonce_eq : Nonce → Nonce → Bool
nonce_eq a b = bytes_eq a.bytes b.bytes

-- the same strike, or none in both
abbrev pub strike_eq : Option Cell → Option Cell → Bool
strike_eq None None = true
strike_eq None (Some d) = false
strike_eq (Some c) None = false
strike_eq (Some c) (Some d) = cell_eq c d

-- the same move
abbrev pub move_eq : Move → Move → Bool
move_eq a b = cell_eq a.to b.to && strike_eq a.strike b.strike

-- the same frame
abbrev pub frame_eq : TurnFrame → TurnFrame → Bool
frame_eq (Commit p t d) (Commit q u e) = (p == q) && (t == u) && digest_eq d e
frame_eq (Commit p t d) (Reveal q u n o) = false
frame_eq (Reveal p t m n) (Commit q u e) = false
frame_eq (Reveal p t m n) (Reveal q u k o) = (p == q) && (t == u) && move_eq m k && nonce_eq n o

-- the same entry
abbrev pub entry_eq : Entry → Entry → Bool
entry_eq (Chose t m n) (Chose u k o) = (t == u) && move_eq m k && nonce_eq n o
entry_eq (Chose t m n) (Made f) = false
entry_eq (Chose t m n) (Got q f) = false
entry_eq (Made f) (Chose u k o) = false
entry_eq (Made f) (Made g) = frame_eq f g
entry_eq (Made f) (Got q g) = false
entry_eq (Got p f) (Chose u k o) = false
entry_eq (Got p f) (Made g) = false
entry_eq (Got p f) (Got q g) = (p == q) && frame_eq f g

-- the player whose frame it is
abbrev pub player_of : TurnFrame → ℕ
player_of (Commit p t d) = p
player_of (Reveal p t m n) = p

-- the turn of which it is
abbrev pub turn_of : TurnFrame → ℕ
turn_of (Commit p t d) = t
turn_of (Reveal p t m n) = t

-- the move that a reveal shows
abbrev pub move_shown : TurnFrame → Option Move
move_shown (Commit p t d) = None
move_shown (Reveal p t m n) = Some m

-- a made frame
abbrev pub made_in : Entry → List TurnFrame
made_in (Chose t m n) = []
made_in (Made f) = f ∷ []
made_in (Got q f) = []

-- a frame that was got from the player
abbrev pub got_in : ℕ → Entry → List TurnFrame
got_in q (Chose t m n) = []
got_in q (Made f) = []
got_in q (Got p f) = if p == q then f ∷ [] else []

-- the opening of a choice by its owner
abbrev pub chosen_in : ℕ → Entry → List Opening
chosen_in me (Chose t m n) = record { player = me; turn = t; mv = m; nonce = n } ∷ []
chosen_in me (Made f) = []
chosen_in me (Got q f) = []

-- the frames that the log's owner made
unfoldable pub made : List Entry → List TurnFrame
made h = flat_map made_in h

-- the frames that were got from the player
unfoldable pub got_of : ℕ → List Entry → List TurnFrame
got_of q h = flat_map (got_in q) h

-- the openings that the log's owner chose
unfoldable pub chosen : ℕ → List Entry → List Opening
chosen me h = flat_map (chosen_in me) h

-- the frames of a player's stream that a log has: the owner's made ones, and the others' as they were got
abbrev pub frames_of : ℕ → ℕ → List Entry → List TurnFrame
frames_of me q h = if q == me then made h else got_of q h
