-- Few: what shows something is an exhibit that a text may say.
use Rattle.std.proofs.Common.{◌≡◌, ℕ, ◌<◌, ◌≤◌, List, length, Ok, arith}
use Rattle.std.specs.Prelude.{◌&&◌, nat_lt}
use Rattle.std.proofs.lemmas.Bool.{and_parts, ltb-true}
use Rattle.definitions.specs.declared.frames.TurnFrame.{TurnFrame}
use Rattle.definitions.specs.declared.findings.Kind.{Kind}
use Rattle.definitions.specs.declared.findings.Kind.TheVariants.{TwoCommits, BadOpening, Collision, Illegal}
use Rattle.definitions.specs.declared.limits.TheConstants.{MOST_EVIDENCE_FRAMES, MOST_TURNS}
use Rattle.definitions.specs.Lists.{EachIs}
use Rattle.definitions.specs.World.{Game, players_of}
use Rattle.definitions.specs.Exhibits.{are_of_kind, Shows}
use Rattle.grid_world.specs.Sessions.{IsSession}
use Rattle.evidence.specs.declared.exhibit.Exhibit.{Exhibit}
use Rattle.evidence.specs.Text.{FitsText, IsExhibit, exhibit_text}
use Rattle.evidence.specs.Reading.{exhibit_at}
use Rattle.evidence.specs.Laws.{frame_count}
use Rattle.evidence.proofs.Counted.{shown_counted}
use Rattle.evidence.proofs.Found.{exhibit_read}

-- what shows something is of a player and a turn of the session
within : (game : Game) (q t : ℕ) (kind : Kind) (fs : List TurnFrame) → Shows game q t kind fs → (q < players_of game) × (t < game.turns)
within game q t kind fs h =
    let a = and_parts (nat_lt q (players_of game) && nat_lt t game.turns) (are_of_kind game q t kind fs) h in
    let b = and_parts (nat_lt q (players_of game)) (nat_lt t game.turns) a.0 in
    (ltb-true _ _ b.0, ltb-true _ _ b.1)

count_few : (kind : Kind) (t : ℕ) → t < MOST_TURNS → (0 < frame_count kind t) × (frame_count kind t ≤ MOST_EVIDENCE_FRAMES)
count_few TwoCommits t lt = (omega arith, omega arith)
count_few BadOpening t lt = (omega arith, omega arith)
count_few Collision t lt = (omega arith, omega arith)
count_few Illegal t lt = (omega arith, omega arith)

pub shown_few : (game : Game) (q t : ℕ) (kind : Kind) (fs : List TurnFrame) → IsSession game → Shows game q t kind fs → (0 < length fs) × (length fs ≤ MOST_EVIDENCE_FRAMES)
shown_few game q t kind fs facts h =
    let turn = (within game q t kind fs h).1 in
    let most = facts.turns.1 in
    let few = count_few kind t (omega arith) in
    let some = few.0 in
    let at_most = few.1 in
    let count = shown_counted game q t kind fs h in
    (omega arith, omega arith)

shown_is : (game : Game) (x : Exhibit) → IsSession game → Shows game x.player x.turn x.kind x.frames → EachIs FitsText x.frames → IsExhibit x
shown_is game x facts h fits =
    let at = within game x.player x.turn x.kind x.frames h in
    let player = at.0 in
    let turn = at.1 in
    let players = facts.players.1 in
    let turns = facts.turns.1 in
    let few = shown_few game x.player x.turn x.kind x.frames facts h in
    record { player = omega arith; turn = omega arith; some = few.0; few = few.1; frames = fits }

pub shown_read : (game : Game) (x : Exhibit) → IsSession game → Shows game x.player x.turn x.kind x.frames → EachIs FitsText x.frames → IsExhibit x × (exhibit_at (exhibit_text x) ≡ Ok x)
shown_read game x facts h fits =
    let is = shown_is game x facts h fits in
    (is, exhibit_read x is)
