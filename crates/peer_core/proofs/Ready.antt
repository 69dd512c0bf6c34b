-- Ready: the stage that the owner's frames have come to.
use Rattle.std.proofs.Common.{◌≡◌, ℕ, ◌+◌, ◌-◌, ◌≤◌, ◌<◌, List, Option, Some, None, sym, ◌∙◌, ap, subst, arith, get_or, length, true}
use Rattle.definitions.specs.declared.world.Cell.{Cell}
use Rattle.definitions.specs.declared.world.Track.{Track}
use Rattle.definitions.specs.declared.logs.Entry.{Entry}
use Rattle.definitions.specs.declared.frames.What.{What}
use Rattle.definitions.specs.declared.frames.What.TheVariants as W
use Rattle.definitions.specs.declared.places.Slot.{Slot}
use Rattle.definitions.specs.World.{Game, players_of, is_open}
use Rattle.definitions.specs.Places.{slot_at}
use Rattle.definitions.specs.Held.{resolved_count}
use Rattle.definitions.specs.Meets.{cell_before}
use Rattle.definitions.specs.Honest.{IsHonest, made_count}
use Rattle.definitions.proofs.Slots.{slot_at_commit_is, slot_at_reveal_is}
use Rattle.definition_laws.proofs.OwnLog.{resolved_count_at_commit, resolved_count_at_reveal}
use Rattle.grid_world.specs.Sessions.{IsSession}
use Rattle.grid_world.proofs.Facts.{seat_open}
use Rattle.grid_world.proofs.Reveals.{ahead_least}
use Rattle.wait_rule.specs.Shown.{IsStageOf}
use Rattle.wait_rule.specs.Waiting.{IsStage}
use Rattle.wait_rule.specs.declared.views.Stage.TheVariants.{Commit, Reveal, After}
use Rattle.peer_core.specs.OwnTracks.{AreOwnTracks}
use Rattle.peer_core.proofs.OwnTracks.{own_cell_open, own_track_at, own_tracks_reach}

-- the owner's next slot is this frame of this turn
abbrev pub IsNext : Game → List Entry → What → ℕ → Type 0
IsNext game h w t = slot_at game (made_count h) ≡ Some (record { what = w; turn = t })

slot_with : What → ℕ → Option Slot
slot_with w t = Some (record { what = w; turn = t })

-- the slot that was looked up is the owner's next
pub next_is_slot : (game : Game) (h : List Entry) (n : ℕ) (o : Option Slot) (s : Slot) (w : What) → n ≡ made_count h → o ≡ slot_at game n → o ≡ Some s → s.what ≡ w → IsNext game h w s.turn
unfolding slot_with
next_is_slot game h n o s w e at is what = ap (slot_at game) (sym e) ∙ sym at ∙ is ∙ ap (λ (x : What). slot_with x s.turn) what

-- the turns that the owner has resolved when a reveal, or a commitment, is next
at_reveal : (game : Game) (me t : ℕ) (h : List Entry) → IsSession game → IsHonest game me h → IsNext game h W.Reveal t → (t < game.turns) × (resolved_count game me h me ≡ t)
at_reveal game me t h is i slot = let w = slot_at_reveal_is game (made_count h) t slot in (w.0, resolved_count_at_reveal game me t h (ahead_least game is) i w.0 (sym w.1))

at_commit : (game : Game) (me t : ℕ) (h : List Entry) → IsSession game → IsHonest game me h → IsNext game h W.Commit t → (t < game.turns) × (resolved_count game me h me ≡ t + 1 - game.ahead)
at_commit game me t h is i slot = let w = slot_at_commit_is game (made_count h) t slot in (w.0, resolved_count_at_commit game me t h (ahead_least game is) i w.0 (sym w.1))

-- a turn that the owner has come to has a track
pub reveal_track : (game : Game) (me t : ℕ) (h : List Entry) (ts : List Track) → IsSession game → IsHonest game me h → IsNext game h W.Reveal t → AreOwnTracks game me h ts → t < length ts
reveal_track game me t h ts is i slot are = let w = at_reveal game me t h is i slot in let r = w.1 in own_tracks_reach game me t h ts (ahead_least game is) i are (omega arith)

pub commit_track : (game : Game) (me t last : ℕ) (h : List Entry) (ts : List Track) → IsSession game → IsHonest game me h → IsNext game h W.Commit t → AreOwnTracks game me h ts → last ≡ t - game.ahead → last < length ts
commit_track game me t last h ts is i slot are l = let w = at_commit game me t h is i slot in let r = w.1 in own_tracks_reach game me last h ts (ahead_least game is) i are (omega arith)

-- the cell of that track is the owner's before the turn, and it is open
stage_cell : (game : Game) (me t : ℕ) (h : List Entry) (ts : List Track) (d : Track) → IsSession game → IsHonest game me h → AreOwnTracks game me h ts → t ≤ resolved_count game me h me → (get_or ts t d).at ≡ cell_before game me h me t
stage_cell game me t h ts d is i are le = own_track_at game me t h ts d (ahead_least game is) i are le

pub stage_open : (game : Game) (me t : ℕ) (h : List Entry) (ts : List Track) (d : Track) → IsSession game → me < players_of game → IsHonest game me h → AreOwnTracks game me h ts → t ≤ resolved_count game me h me →
    is_open game.grid (get_or ts t d).at ≡ true
stage_open game me t h ts d is lt i are le =
    let Is : Cell → Type 0 = λ c. is_open game.grid c ≡ true in
    subst Is (sym (stage_cell game me t h ts d is i are le)) (own_cell_open game me t h (ahead_least game is) i (seat_open game me is lt) le)

-- the commitment to a turn comes next
pub commit_stage : (game : Game) (me t last : ℕ) (h : List Entry) (ts : List Track) (d : Track) → IsSession game → me < players_of game → IsHonest game me h → IsNext game h W.Commit t → AreOwnTracks game me h ts →
    last ≡ t - game.ahead → IsStage game (Commit t (get_or ts last d).at) × IsStageOf game me h (Commit t (get_or ts last d).at)
commit_stage game me t last h ts d is lt i slot are l =
    let w = at_commit game me t h is i slot in
    let r = w.1 in
    let d = ahead_least game is in (
      (w.0, λ le. stage_open game me last h ts _ is lt i are (omega arith)),
      record { slot = slot; cell = λ le. stage_cell game me last h ts _ is i are (omega arith) ∙ ap (cell_before game me h me) l },
    )

-- the reveal of a turn comes next
pub reveal_stage : (game : Game) (me t : ℕ) (h : List Entry) (ts : List Track) (d : Track) → IsSession game → me < players_of game → IsHonest game me h → IsNext game h W.Reveal t → AreOwnTracks game me h ts →
    IsStage game (Reveal t (get_or ts t d).at) × IsStageOf game me h (Reveal t (get_or ts t d).at)
reveal_stage game me t h ts d is lt i slot are =
    let w = at_reveal game me t h is i slot in
    let r = w.1 in (
      (w.0, stage_open game me t h ts d is lt i are (omega arith)),
      record { slot = slot; cell = stage_cell game me t h ts d is i are (omega arith) },
    )

-- none comes any more
pub after_stage : (game : Game) (me n : ℕ) (h : List Entry) (o : Option Slot) → n ≡ made_count h → o ≡ slot_at game n → o ≡ None → IsStageOf game me h After
after_stage game me n h o e at none = record { slot = ap (slot_at game) (sym e) ∙ sym at ∙ none; cell = tt }
