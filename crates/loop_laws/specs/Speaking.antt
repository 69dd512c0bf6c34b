-- Speaking: which frames may be given on a socket, by those that came on it.
use Rattle.std.specs.Prelude.{◌≡◌, ◌⊎◌, ℕ, ◌+◌, List, [], ◌∷◌, Option, Some, None, slice_get}
use Rattle.definitions.specs.declared.frames.TurnFrame.{TurnFrame}
use Rattle.definition_laws.specs.Members.{Has}
use Rattle.wire_frames.specs.declared.frames.Frame.{Frame}
use Rattle.wire_frames.specs.declared.frames.Frame.TheVariants.{Hello, Turn, Want}
use Rattle.rosters.specs.declared.roster.Link.{Link}
use Rattle.loop_rules.specs.Settings.{Setting}
use Rattle.peer_rules.specs.Passes.{IsWanted}

-- the first frame that came is a HELLO of the session and of this player, with the pass that the
-- roster wants of it
abbrev pub IsNamed : Setting → (came : List Frame) → (q : ℕ) → Type 0
IsNamed s came q = (pass : List ℕ) × (next : ℕ) × (more : List Frame) × IsWanted s.roster q pass ×
    (came ≡ Hello s.game.id q pass next ∷ more)

-- the frame asks for the own frames from this place on
abbrev pub AsksFor : Frame → (place : ℕ) → Type 0
AsksFor (Hello id q pass next) place = next ≡ place
AsksFor (Turn f) place = ⊥
AsksFor (Want wanted) place = wanted ≡ place

-- one of the frames that came asks for them
abbrev pub IsAsked : (came : List Frame) → (place : ℕ) → Type 0
IsAsked came place = (f : Frame) × Has came f × AsksFor f place

-- The frame is an own HELLO of the session, with the pass that the roster shows a player: one for
-- whom the socket was dialled, or who is named on it.
abbrev pub IsOwnHello : Setting → (dialled : List ℕ) → (came : List Frame) → Frame → Type 0
IsOwnHello s dialled came (Hello id me pass next) =
    (link : Link) × Has s.roster.links link × (pass ≡ link.shows) × (id ≡ s.game.id) ×
    (me ≡ s.me) × (Has dialled link.player ⊎ IsNamed s came link.player)
IsOwnHello s dialled came (Turn f) = ⊥
IsOwnHello s dialled came (Want place) = ⊥

-- Each of the frames is a WANT, or the own frame at a place: one that was asked for, or the next
-- one, which comes after the own frame before it.
abbrev pub Follows : (own : List TurnFrame) → (came : List Frame) → (next : Option ℕ) →
    List Frame → Type 0
Follows own came next [] = Unit {0}
Follows own came next (Hello id q pass from ∷ more) = ⊥
Follows own came next (Want place ∷ more) = Follows own came next more
Follows own came next (Turn f ∷ more) =
    (place : ℕ) × (slice_get own place ≡ Some f) × ((next ≡ Some place) ⊎ IsAsked came place) ×
    Follows own came (Some (place + 1)) more

-- a player is named, or there are no such frames
abbrev pub AnyNamed : Setting → (came : List Frame) → List Frame → Type 0
AnyNamed s came frames = (frames ≡ []) ⊎ ((q : ℕ) × IsNamed s came q)

-- The frames are none; or an own HELLO, and then, where a player is named, WANT frames and own
-- frames as they follow.
abbrev pub Speaks : Setting → (own : List TurnFrame) → (dialled : List ℕ) → (came : List Frame) →
    List Frame → Type 0
Speaks s own dialled came [] = Unit {0}
Speaks s own dialled came (f ∷ more) = IsOwnHello s dialled came f × Follows own came None more ×
    AnyNamed s came more
