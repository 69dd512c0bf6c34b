-- Plain: turns of which at most one commitment and one reveal are kept.
use Rattle.std.specs.Prelude.{◌≡◌, ◌⊎◌, ◌&&◌, ◌==◌, ◌+◌, ◌<◌, ◌≤◌, ℕ, Bool, true, false, List, [], ◌∷◌, Option, None, Some, IsTrue, if◌then◌else◌, length, slice_get, take}
use Rattle.std.specs.List.{list_any}
use Rattle.std.specs.Option.{option_or}
use Rattle.definitions.specs.declared.findings.Spot.{Spot}
use Rattle.definitions.specs.declared.world.Move.{Move}
use Rattle.definitions.specs.declared.world.Track.{Track}
use Rattle.definitions.specs.declared.frames.TurnFrame.{TurnFrame}
use Rattle.definitions.specs.declared.logs.Entry.{Entry}
use Rattle.definitions.specs.Findings.{findings_in, got_known, is_commit}
use Rattle.definitions.specs.Lists.{item_or}
use Rattle.definitions.specs.Logs.{got_of, move_shown}
use Rattle.definitions.specs.Moves.{is_legal, next_track, track_after}
use Rattle.definitions.specs.World.{Game, is_open}
use Rattle.definition_laws.specs.Members.{Has}
use Rattle.grid_world.specs.declared.streams.Stream.{Stream}
use Rattle.frame_index.specs.Streams.{IsReadFrom}
use Rattle.grid_world.specs.Streams.{next_of}
use Rattle.frame_index.specs.declared.kept.KeptFrame.{KeptFrame}
use Rattle.frame_index.specs.declared.common.Common.{Common}
use Rattle.frame_index.specs.declared.common.TurnRead.{TurnRead}
use Rattle.frame_index.specs.declared.common.TurnRead.TheVariants.{Over, Shown, Unlike}
use Rattle.frame_index.specs.Frames.{IndexState, IsIndex, kept_of}
use Rattle.frame_index.specs.Heads.{Ends, Stands, front_of}

-- all have one digest, and there is one of each kind at most
abbrev pub IsPlain : List KeptFrame → Type 0
IsPlain ks = (k l : KeptFrame) → Has ks k → Has ks l → (k.digest ≡ l.digest) × (is_commit k.frame ≡ is_commit l.frame → k ≡ l)

-- the move that the first reveal of these shows
abbrev pub move_in : List KeptFrame → Option Move
move_in [] = None
move_in (k ∷ ks) = option_or (move_shown k.frame) (move_in ks)

-- the track after a turn with this move, if there is one, which is legal; none where it isn't
pub record IsLed (game : Game) (q : ℕ) (track : Track) (m : Move) (next : Track) : Type 0 where
  pub legal : is_legal game q track m ≡ true
  pub leads : next ≡ next_track game track m
  pub opens : IsTrue (is_open game.grid next.at)

abbrev pub LeadsTo : Game → ℕ → Track → Option Move → Option Track → Type 0
LeadsTo game q track None None = ⊥
LeadsTo game q track None (Some next) = next ≡ track
LeadsTo game q track (Some m) None = Unit {0}
LeadsTo game q track (Some m) (Some next) = IsLed game q track m next

-- every log that resolves so many turns of the player has come to the track by them
abbrev pub AreAlong : Game → ℕ → List (List Entry) → ℕ → Track → Type 0
AreAlong game q logs t track = (i : ℕ) (h : List Entry) → slice_get logs i ≡ Some h → t ≤ length (got_known game q h).moves → track_after game q (take t (got_known game q h).moves) ≡ track

-- where the commitment stands that is kept first of these, and where the reveal
abbrev pub commit_spots : List KeptFrame → List Spot
commit_spots [] = []
commit_spots (k ∷ ks) = if is_commit k.frame then k.spots.items else commit_spots ks

abbrev pub reveal_spots : List KeptFrame → List Spot
reveal_spots [] = []
reveal_spots (k ∷ ks) = if is_commit k.frame then reveal_spots ks else k.spots.items

-- whether the log of this number is among the chosen ones
abbrev pub is_among : List Bool → ℕ → Bool
is_among chosen i = item_or chosen i false

-- one of the spots is in the log
abbrev pub is_in : List Spot → ℕ → Bool
is_in spots i = list_any (λ x. x.log == i) spots

-- of these logs those stay that have one of the spots
abbrev pub AreLeft : List Bool → List Spot → List Bool → Type 0
AreLeft old spots new = (i : ℕ) → is_among new i ≡ (is_among old i && is_in spots i)

-- a log that still shows all places has come to this one with the track; another one has ended, with so many turns resolved at most
abbrev pub HasCome : Game → ℕ → List TurnFrame → (place most : ℕ) → Track → Bool → Type 0
HasCome game q fs place most track true = (s : Stream) × Stands game q fs place s × (next_of s ≡ place) × (s.track ≡ track)
HasCome game q fs place most track false = (s : Stream) × IsReadFrom game q fs s × Ends game q fs s × (s.resolved ≤ most)

-- so it is of each log that was chosen at first
abbrev pub HaveCome : Game → ℕ → List (List Entry) → List Bool → (place most : ℕ) → Track → List Bool → Type 0
HaveCome game q logs first place most track chosen = (i : ℕ) (h : List Entry) → slice_get logs i ≡ Some h → is_among first i ≡ true → HasCome game q (got_of q h) place most track (is_among chosen i)

-- those that are chosen were so at first
abbrev pub AreOfFirst : List Bool → List Bool → Type 0
AreOfFirst first chosen = (i : ℕ) → is_among chosen i ≡ true → is_among first i ≡ true

-- the move by which the log resolves the player's turn, by the frames that it got
abbrev pub move_of : Game → ℕ → List Entry → ℕ → Option Move
move_of game q h t = slice_get (got_known game q h).moves t

-- each of the chosen logs resolves the player's turn by this move, or not at all; where there is a move, one does
pub record IsCommonAt (game : Game) (q : ℕ) (logs : List (List Entry)) (chosen : List Bool) (t : ℕ) (o : Option Move) : Type 0 where
  pub each : (i : ℕ) (h : List Entry) → slice_get logs i ≡ Some h → is_among chosen i ≡ true → (move_of game q h t ≡ None) ⊎ (move_of game q h t ≡ o)
  pub some : (m : Move) → o ≡ Some m → (i : ℕ) × (h : List Entry) × (slice_get logs i ≡ Some h) × (is_among chosen i ≡ true) × (move_of game q h t ≡ Some m)

-- so it is with all turns, by these moves
abbrev pub AreCommon : Game → ℕ → List (List Entry) → List Bool → List Move → Type 0
AreCommon game q logs chosen moves = (t : ℕ) → t < game.turns → IsCommonAt game q logs chosen t (slice_get moves t)

-- of the logs that were chosen at first, which have come so far, and which have not
pub record IsCommon (game : Game) (q : ℕ) (logs : List (List Entry)) (first : List Bool) (place most : ℕ) (c : Common) : Type 0 where
  pub come : HaveCome game q logs first place most c.track c.chosen
  pub of_first : AreOfFirst first c.chosen

-- the turn's commitment was read of these frames
pub record CommitIsRead (ks : List KeptFrame) (old new : Common) : Type 0 where
  pub plain : IsPlain ks
  pub track : new.track ≡ old.track
  pub left : AreLeft old.chosen (commit_spots ks) new.chosen

-- the turn's reveal was read of these frames
pub record RevealIsRead (game : Game) (q : ℕ) (ks : List KeptFrame) (old new : Common) : Type 0 where
  pub plain : IsPlain ks
  pub led : LeadsTo game q old.track (move_in ks) (Some new.track)
  pub left : AreLeft old.chosen (reveal_spots ks) new.chosen

-- no log that was chosen at first resolves the turn, or a later one
abbrev pub NoneGoesOn : Game → ℕ → List (List Entry) → List Bool → ℕ → Type 0
NoneGoesOn game q logs first t = (u : ℕ) → t ≤ u → (i : ℕ) (h : List Entry) → slice_get logs i ≡ Some h → is_among first i ≡ true → move_of game q h u ≡ None

-- all that is kept of the player's turn is plain, and it leads from the one track to the other
pub record IsPlainTurn (game : Game) (index : IndexState) (q t : ℕ) (track next : Track) : Type 0 where
  pub plain : IsPlain (kept_of index q t)
  pub led : LeadsTo game q track (move_in (kept_of index q t)) (Some next)

-- of no turn of the player the logs show a finding
abbrev pub IsClear : Game → IndexState → ℕ → Type 0
IsClear game index q = (logs : List (List Entry)) → IsIndex game logs index → (t : ℕ) → t < game.turns → findings_in game logs q t ≡ []

-- so it is with each player for whom this says so
abbrev pub AreClear : Game → IndexState → List Bool → Type 0
AreClear game index clear = (q : ℕ) → slice_get clear q ≡ Some true → IsClear game index q

-- A turn was read: it isn't plain; or no log resolves it; or those that do resolve it by this move, and it is plain.
abbrev pub TurnIsRead : Game → IndexState → ℕ → ℕ → Common → Common → TurnRead → Type 0
TurnIsRead game index q t old new Unlike = Unit {0}
TurnIsRead game index q t old new Over = (logs : List (List Entry)) (first : List Bool) → IsIndex game logs index → IsCommon game q logs first (front_of game t) t old → NoneGoesOn game q logs first t
TurnIsRead game index q t old new (Shown m) = IsPlainTurn game index q t old.track new.track ×
    ((logs : List (List Entry)) (first : List Bool) → IsIndex game logs index → IsCommon game q logs first (front_of game t) t old →
    IsCommonAt game q logs first t (Some m) × IsCommon game q logs first (front_of game (t + 1)) (t + 1) new)
