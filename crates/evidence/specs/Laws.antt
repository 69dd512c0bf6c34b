-- Laws of evidence: what is found in logs is shown by frames of these, and frames that show it convict whom they are of.
use Rattle.std.specs.Prelude.{◌≡◌, ℕ, ◌+◌, ◌-◌, ◌*◌, ◌<◌, ◌≤◌, List, [], ◌∷◌, ◌++◌, length, take, Some, Ok}
use Rattle.definitions.specs.declared.openings.Digest.{Digest}
use Rattle.definitions.specs.declared.openings.Opening.{Opening}
use Rattle.definitions.specs.declared.frames.TurnFrame.{TurnFrame}
use Rattle.definitions.specs.declared.frames.TurnFrame.TheVariants.{Commit}
use Rattle.definitions.specs.declared.logs.Entry.{Entry}
use Rattle.definitions.specs.declared.logs.Entry.TheVariants.{Got}
use Rattle.definitions.specs.declared.findings.Kind.{Kind}
use Rattle.definitions.specs.declared.findings.Kind.TheVariants.{TwoCommits, BadOpening, Collision, Illegal}
use Rattle.definitions.specs.declared.findings.Finding.{Finding}
use Rattle.definitions.specs.declared.limits.TheConstants.{EVIDENCE_FRONT, MOST_EVIDENCE_FRAMES}
use Rattle.definitions.specs.Lists.{EachIs}
use Rattle.definitions.specs.World.{Game, players_of}
use Rattle.definitions.specs.Entries.{AreWellFormed}
use Rattle.definitions.specs.Findings.{findings}
use Rattle.definitions.specs.Exhibits.{Shows}
use Rattle.definition_laws.specs.Members.{Has}
use Rattle.evidence.specs.declared.exhibit.Exhibit.{Exhibit}
use Rattle.grid_world.specs.Sessions.{IsSession}
use Rattle.text_lines.specs.Lines.{ended_lines_of}
use Rattle.text_fields.specs.declared.fault.TextFault.TheVariants.{At}
use Rattle.evidence.specs.Text.{FitsText, IsExhibit, exhibit_text}
use Rattle.evidence.specs.Reading.{exhibit_at, exhibit_fault}
use Rattle.evidence.specs.Openings.{IsIllegalPlay, frames_of_openings}
use Rattle.evidence.specs.Showing.{frames_of_finding}

-- a log of the session, honest or not, whoever wrote it
abbrev pub IsLogOf : Game → List Entry → Type 0
IsLogOf game h = (me : ℕ) × AreWellFormed game me h

-- a finding in logs of the session is shown by frames that these got
abbrev pub FindingsAreShown : Type 0
FindingsAreShown = (game : Game) (logs : List (List Entry)) (f : Finding) → EachIs (IsLogOf game) logs → Has (findings game logs) f →
    Shows game f.player f.turn f.kind (frames_of_finding game logs f)

-- one of the logs got the frame of the player
abbrev pub StandsIn : List (List Entry) → ℕ → TurnFrame → Type 0
StandsIn logs q f = (h : List Entry) × Has logs h × Has h (Got q f)

-- each frame by which a finding is shown stands in one of the logs, as its player's
abbrev pub FramesOfFindingsStand : Type 0
FramesOfFindingsStand = (game : Game) (logs : List (List Entry)) (f : Finding) → Has (findings game logs) f → EachIs (StandsIn logs f.player) (frames_of_finding game logs f)

-- the logs have a finding of this kind of the player's turn
abbrev pub Convicts : Game → List (List Entry) → (q t : ℕ) → Kind → Type 0
Convicts game logs q t kind = (f : Finding) × Has (findings game logs) f × (f.player ≡ q) × (f.turn ≡ t) × (f.kind ≡ kind)

-- frames that show two commitments, a bad opening or a collision convict their player where each stands in one of the logs
abbrev pub ShownFramesConvict : Type 0
ShownFramesConvict = (game : Game) (logs : List (List Entry)) (q t : ℕ) (kind : Kind) (fs : List TurnFrame) → (kind ≡ Illegal → ⊥) → Shows game q t kind fs →
    EachIs (StandsIn logs q) fs → Convicts game logs q t kind

-- the log got a commitment of the player to the turn
abbrev pub HasCommit : List Entry → (q u : ℕ) → Type 0
HasCommit h q u = (d : Digest) × Has h (Got q (Commit q u d))

-- frames that show an illegal move convict their player of that turn or of one before it, where all of them stand in one log. A log
-- resolves a turn only once it holds the commitments that come before the turn's reveal: so where players commit more than two turns
-- ahead, the log has to have got these too, up to the reveal of the turn before
abbrev pub IllegalMovesConvict : Type 0
IllegalMovesConvict = (game : Game) (logs : List (List Entry)) (h : List Entry) (q t : ℕ) (fs : List TurnFrame) → 1 ≤ game.ahead → Has logs h → Shows game q t Illegal fs →
    EachIs (λ f. Has h (Got q f)) fs → ((u : ℕ) → 0 < t → t < u → u + 1 < t + game.ahead → u < game.turns → HasCommit h q u) →
    (f : Finding) × Has (findings game logs) f × (f.player ≡ q) × (f.turn ≤ t)

-- so many frames show this kind of the turn
abbrev pub frame_count : Kind → (t : ℕ) → ℕ
frame_count TwoCommits t = 2
frame_count BadOpening t = 2
frame_count Collision t = 2
frame_count Illegal t = 2 * (t + 1)

-- frames that show something are two, or two for each turn up to that of an illegal move
abbrev pub ShownFramesAreCounted : Type 0
ShownFramesAreCounted = (game : Game) (q t : ℕ) (kind : Kind) (fs : List TurnFrame) → Shows game q t kind fs → length fs ≡ frame_count kind t

-- what shows something of a session that a text may say has a frame at least, and no more than a text may have
abbrev pub ShownFramesAreFew : Type 0
ShownFramesAreFew = (game : Game) (q t : ℕ) (kind : Kind) (fs : List TurnFrame) → IsSession game → Shows game q t kind fs → (0 < length fs) × (length fs ≤ MOST_EVIDENCE_FRAMES)

-- so an exhibit that shows something is read back from its text. Its frames fit, as those of every value of their type do
abbrev pub ShownExhibitsAreRead : Type 0
ShownExhibitsAreRead = (game : Game) (x : Exhibit) → IsSession game → Shows game x.player x.turn x.kind x.frames → EachIs FitsText x.frames →
    IsExhibit x × (exhibit_at (exhibit_text x) ≡ Ok x)

-- an illegal move is shown by openings of which the last is of the first move that is not legal, each by its commitment and its reveal
abbrev pub IllegalExhibitsAreOpenings : Type 0
IllegalExhibitsAreOpenings = (game : Game) (q t : ℕ) (fs : List TurnFrame) → Shows game q t Illegal fs →
    (before : List Opening) × (last : Opening) × IsIllegalPlay game q t before last × (fs ≡ frames_of_openings game (before ++ last ∷ []))

-- and the frames of such openings show it
abbrev pub OpeningsMakeIllegalExhibits : Type 0
OpeningsMakeIllegalExhibits = (game : Game) (q t : ℕ) (before : List Opening) (last : Opening) → q < players_of game → t < game.turns → IsIllegalPlay game q t before last →
    Shows game q t Illegal (frames_of_openings game (before ++ last ∷ []))

-- the text of an exhibit is read as the exhibit
abbrev pub ExhibitsAreRead : Type 0
ExhibitsAreRead = (x : Exhibit) → IsExhibit x → exhibit_at (exhibit_text x) ≡ Ok x

-- a text that is read as an exhibit is its text
abbrev pub ExhibitsAreSpelled : Type 0
ExhibitsAreSpelled = (text : List ℕ) (x : Exhibit) → exhibit_at text ≡ Ok x → IsExhibit x × (text ≡ exhibit_text x)

-- each such text ends before the front of a file that decides
abbrev pub ExhibitsFitTheFront : Type 0
ExhibitsFitTheFront = (x : Exhibit) → IsExhibit x → length (exhibit_text x) < EVIDENCE_FRONT

-- the text of some exhibit begins with these lines
abbrev pub BeginsExhibit : List (List ℕ) → Type 0
BeginsExhibit lines = (x : Exhibit) × (rest : List (List ℕ)) × IsExhibit x × (ended_lines_of (exhibit_text x) ≡ lines ++ rest)

-- Line n of these is the first at fault: it is one of them, or the one that is missing behind the last.
pub record IsFirstFault (lines : List (List ℕ)) (n : ℕ) : Type 0 where
  pub number : (1 ≤ n) × (n ≤ length lines + 1)
  -- some exhibit begins with the lines before it
  pub before : BeginsExhibit (take (n - 1) lines)
  -- and none with the line, too
  pub faulty : n ≤ length lines → BeginsExhibit (take n lines) → ⊥

-- the line that is said to be at fault is the first at fault
abbrev pub FirstFaultsAreFirst : Type 0
FirstFaultsAreFirst = (text : List ℕ) (n : ℕ) → exhibit_fault text ≡ Some (At n) → IsFirstFault (ended_lines_of text) n
