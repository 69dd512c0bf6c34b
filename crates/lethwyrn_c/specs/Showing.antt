-- Showing: the text of the two frames that show a finding.
use Rattle.std.specs.Prelude.{ℕ, List, [], ◌∷◌, Option, Some, None, length, slice_get, nat_lt, if◌then◌else◌}
use Rattle.definitions.specs.declared.frames.TurnFrame.{TurnFrame}
use Rattle.definitions.specs.declared.logs.Entry.{Entry}
use Rattle.definitions.specs.declared.logs.Entry.TheVariants.{Chose, Made, Got}
use Rattle.definitions.specs.declared.findings.Finding.{Finding}
use Rattle.definitions.specs.declared.findings.Kind.{Kind}
use Rattle.definitions.specs.declared.findings.Kind.TheVariants.{TwoCommits, BadOpening, Collision, Illegal}
use Rattle.definition_laws.specs.First.{finding_of_log}
use Rattle.evidence.specs.declared.exhibit.Exhibit.{Exhibit}
use Rattle.evidence.specs.Text.{exhibit_text}
use Rattle.lethwyrn_c.specs.Standings.{Standing}

-- the frame that the entry got, if it got one
abbrev pub got_in : Option Entry → Option TurnFrame
got_in None = None
got_in (Some (Chose t m n)) = None
got_in (Some (Made f)) = None
got_in (Some (Got q f)) = Some f

abbrev pub frame_at : List Entry → ℕ → Option TurnFrame
frame_at entries at = got_in (slice_get entries at)

-- the two frames, which are to show the finding
abbrev pub exhibit_of : Finding → TurnFrame → TurnFrame → Exhibit
exhibit_of f first second = record { player = f.player; turn = f.turn; kind = f.kind; frames = first ∷ second ∷ [] }

-- the text of these two frames, if there are two
abbrev pub text_of_two : Finding → Option TurnFrame → Option TurnFrame → Option (List ℕ)
text_of_two f None second = None
text_of_two f (Some first) None = None
text_of_two f (Some first) (Some second) = Some (exhibit_text (exhibit_of f first second))

-- the text of the two frames at the finding's entries; an illegal move isn't shown by two
abbrev pub text_of_kind : List Entry → Finding → Kind → Option (List ℕ)
text_of_kind entries f TwoCommits = text_of_two f (frame_at entries f.first.entry) (frame_at entries f.second.entry)
text_of_kind entries f BadOpening = text_of_two f (frame_at entries f.first.entry) (frame_at entries f.second.entry)
text_of_kind entries f Collision = text_of_two f (frame_at entries f.first.entry) (frame_at entries f.second.entry)
text_of_kind entries f Illegal = None

-- the text that is to be written: of the log's first finding, if it has one
abbrev pub text_if : List Entry → Option Finding → Option (List ℕ)
text_if entries None = None
text_if entries (Some f) = text_of_kind entries f f.kind

abbrev pub evidence_text : Standing → Option (List ℕ)
evidence_text s = text_if s.peer.entries (finding_of_log s.peer.game s.peer.entries)

-- the code, with room for so many bytes
abbrev pub text_code : ℕ → Option (List ℕ) → ℕ
text_code room None = 18
text_code room (Some text) = if nat_lt room (length text) then 17 else 0

abbrev pub code_if_found : ℕ → List Entry → Option Finding → ℕ
code_if_found room entries None = 7
code_if_found room entries (Some f) = text_code room (text_of_kind entries f f.kind)

abbrev pub evidence_code : ℕ → Standing → ℕ
evidence_code room s = code_if_found room s.peer.entries (finding_of_log s.peer.game s.peer.entries)
