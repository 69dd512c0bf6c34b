-- WatchText: the text by which a live logger knows the players of a session: a roster with a link to
-- each player.
use Rattle.std.specs.Prelude.{◌≡◌, ℕ, List, Option, Result, map}
use Rattle.std.specs.List.{range_with_len}
use Rattle.definitions.specs.Lists.{EachIs}
use Rattle.text_fields.specs.declared.fault.TextFault.{TextFault}
use Rattle.rosters.specs.declared.watching.TheConstants.{NOBODY}
use Rattle.rosters.specs.Reading.{roster_at, roster_fault}
use Rattle.rosters.specs.Rosters.{Neighbours}
use Rattle.rosters.specs.Text.{FitsAddr, FitsLink, roster_text}

-- there is one link to each of so many players, rising, and no other
abbrev pub LinksEach : (players : ℕ) → Neighbours → Type 0
LinksEach players r = map (λ l. l.player) r.links ≡ range_with_len 0 players

-- such a roster, whose parts fit their fields, and its text
pub record IsWatchFrom (players : ℕ) (r : Neighbours) (text : List ℕ) : Type 0 where
  pub own : FitsAddr r.me
  pub all : LinksEach players r
  pub links : EachIs FitsLink r.links
  pub text_is : text ≡ roster_text r

-- the roster that a text says, or its first line at fault: as in the roster of a player that none
-- of them is
abbrev pub watch_roster_at : (players : ℕ) → List ℕ → Result Neighbours TextFault
watch_roster_at players text = roster_at NOBODY players text

-- the first line at fault
abbrev pub watch_fault : (players : ℕ) → List ℕ → Option TextFault
watch_fault players text = roster_fault NOBODY players text
