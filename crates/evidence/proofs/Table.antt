-- Evidence at work: a text that is read, changes of it that are refused, and what its frames show.
use Rattle.std.proofs.Common.{◌≡◌, ℕ, Bool, true, false, List, [], ◌∷◌, ◌++◌, map, Option, Some, None, Ok, refl}
use Prim.Native.String.{String}
use Rattle.std.specs.Prelude.{codes, replicate}
use Rattle.std.specs.Fmt.{digits}
use Rattle.hex.specs.Hex.{decode_pairs, encode_with}
use Rattle.definitions.specs.declared.world.Seat.{Seat}
use Rattle.definitions.specs.declared.frames.TurnFrame.{TurnFrame}
use Rattle.definitions.specs.declared.frames.TurnFrame.TheVariants.{Commit}
use Rattle.definitions.specs.declared.findings.Kind.{Kind}
use Rattle.definitions.specs.declared.findings.Kind.TheVariants.{TwoCommits, BadOpening, Collision, Illegal}
use Rattle.definitions.specs.World.{Game}
use Rattle.definitions.specs.Held.{digest_of}
use Rattle.definitions.specs.Exhibits.{are_of_kind, end_illegal, shows}
use Rattle.commitment.specs.Spelling.{frame_bytes, turn_frame_of}
use Rattle.text_lines.specs.Lines.{ended_lines_of, field_at, one_of}
use Rattle.text_fields.specs.declared.fault.TextFault.{TextFault}
use Rattle.text_fields.specs.declared.fault.TextFault.TheVariants.{At}
use Rattle.evidence.specs.declared.exhibit.Exhibit.{Exhibit}
use Rattle.evidence.specs.Text.{exhibit_text}
use Rattle.evidence.specs.Reading.{exhibit_at, exhibit_fault, frame_at, frame_said, frames_at, head_at, said_by}

-- a commitment of player 2 to a digest of which each byte is this one
abbrev commit : (turn byte : ℕ) → TurnFrame
commit turn byte = Commit 2 turn (record { bytes = replicate 32 byte })

abbrev two_commits : Exhibit
two_commits = record { player = 2; turn = 3; kind = TwoCommits; frames = commit 3 10 ∷ commit 3 11 ∷ [] }

-- the lines before those of the frames, and the two commitments' lines
abbrev head : String
head = "evidence 1\nplayer 2\nturn 3\nkind two-commits\n"

abbrev first : String
first = "frame 02002502000000030a0a0a0a0a0a0a0a0a0a0a0a0a0a0a0a0a0a0a0a0a0a0a0a0a0a0a0a0a0a0a0a\n"

abbrev second : String
second = "frame 02002502000000030b0b0b0b0b0b0b0b0b0b0b0b0b0b0b0b0b0b0b0b0b0b0b0b0b0b0b0b0b0b0b0b\n"

abbrev text : List ℕ
text = codes head ++ codes first ++ codes second ++ codes "end\n"

spelled : exhibit_text two_commits ≡ text
unfolding exhibit_text digits encode_with frame_bytes
spelled = refl

-- a text, and its first line at fault
record Row : Type 0 where
  text : List ℕ
  fault : Option TextFault

-- the lines before those of the frames, those of the frames, and the last ones
abbrev row : String → String → String → String → Option TextFault → Row
row a b c d fault = record { text = codes a ++ codes b ++ codes c ++ codes d; fault = fault }

abbrev table : List Row
table =
    row head first second "end\n" None ∷
    row head first "" "end\n" None ∷
    -- the last line
    row head first second "" (Some (At 7)) ∷
    row head first second "end" (Some (At 7)) ∷
    row head first second "end\nend\n" (Some (At 8)) ∷
    row head first second "end\n\n" (Some (At 8)) ∷
    row head "" "" "end\n" (Some (At 5)) ∷
    row head "" "" "" (Some (At 5)) ∷
    row "" "" "" "" (Some (At 1)) ∷
    -- the lines before those of the frames
    row "evidence 2\nplayer 2\nturn 3\nkind two-commits\n" first second "end\n" (Some (At 1)) ∷
    row "evidence 01\nplayer 2\nturn 3\nkind two-commits\n" first second "end\n" (Some (At 1)) ∷
    row "evidence 1\nplayer 256\nturn 3\nkind two-commits\n" first second "end\n" (Some (At 2)) ∷
    row "evidence 1\nplayer 255\nturn 4294967295\nkind illegal\n" first second "end\n" None ∷
    row "evidence 1\nplayer 2\nturn 4294967296\nkind two-commits\n" first second "end\n" (Some (At 3)) ∷
    row "evidence 1\nplayer 2\nturn 03\nkind two-commits\n" first second "end\n" (Some (At 3)) ∷
    row "evidence 1\nplayer 2\nturn 3\nkind two-commit\n" first second "end\n" (Some (At 4)) ∷
    row "evidence 1\nplayer 2\nturn 3\nkind  two-commits\n" first second "end\n" (Some (At 4)) ∷
    row "evidence 1\nplayer 2\nturn 3\n" first second "end\n" (Some (At 4)) ∷
    row "evidence 1\nplayer 2\nturn 3\nkind bad-opening\n" first second "end\n" None ∷
    row "evidence 1\nplayer 2\nturn 3\nkind collision\n" first second "end\n" None ∷
    -- frames
    row head "frame 02002502000000030A0a0a0a0a0a0a0a0a0a0a0a0a0a0a0a0a0a0a0a0a0a0a0a0a0a0a0a0a0a0a0a\n" second "end\n" (Some (At 5)) ∷
    row head first "frame 02002502000000030b0b0b0b0b0b0b0b0b0b0b0b0b0b0b0b0b0b0b0b0b0b0b0b0b0b0b0b0b0b0b\n" "end\n" (Some (At 6)) ∷
    row head first "frame 02002502000000030b0b0b0b0b0b0b0b0b0b0b0b0b0b0b0b0b0b0b0b0b0b0b0b0b0b0b0b0b0b0b0b \n" "end\n" (Some (At 6)) ∷
    row head first "frame \n" "end\n" (Some (At 6)) ∷
    row head first "\n" "end\n" (Some (At 6)) ∷
    []

-- the text is read, and of each one in the table the first line at fault is told
read : (exhibit_at text ≡ Ok two_commits) × (map (λ r. exhibit_fault r.text) table ≡ map (λ r. r.fault) table)
unfolding exhibit_at said_by ended_lines_of head_at frames_at frame_at frame_said one_of field_at decode_pairs turn_frame_of
read = (refl, refl)

-- ---- what frames show

-- a session of three players and four turns
abbrev seat : ℕ → Seat
seat x = record { start = record { x = x; y = 0 }; speed = 1; reach = 1 }

abbrev game : Game
game = record {
  version = 1;
  id = [];
  grid = record { width = 12; height = 1; walls = [] };
  rules = record { speed = 1; reach = 1; blast = 0; start_charge = 1; cap = 2; cost = 1 };
  turns = 4;
  ahead = 1;
  seats = seat 0 ∷ seat 9 ∷ seat 11 ∷ [];
}

-- what is to be shown of whom, by which frames, and whether they show it
record Case : Type 0 where
  player : ℕ
  turn : ℕ
  kind : Kind
  frames : List TurnFrame
  is : Bool

abbrev case : (player turn : ℕ) → Kind → List TurnFrame → Bool → Case
case player turn kind frames is = record { player = player; turn = turn; kind = kind; frames = frames; is = is }

abbrev cases : List Case
cases =
    case 2 3 TwoCommits (commit 3 10 ∷ commit 3 11 ∷ []) true ∷
    case 2 3 TwoCommits (commit 3 11 ∷ commit 3 10 ∷ []) true ∷
    case 2 3 TwoCommits (commit 3 10 ∷ commit 3 10 ∷ []) false ∷
    case 2 3 TwoCommits (commit 3 10 ∷ commit 3 11 ∷ commit 3 12 ∷ []) false ∷
    case 2 3 TwoCommits (commit 3 10 ∷ []) false ∷
    -- another turn, or another player
    case 2 3 TwoCommits (commit 3 10 ∷ commit 2 11 ∷ []) false ∷
    case 2 2 TwoCommits (commit 3 10 ∷ commit 3 11 ∷ []) false ∷
    case 1 3 TwoCommits (commit 3 10 ∷ commit 3 11 ∷ []) false ∷
    -- a turn or a player that the session has not
    case 2 4 TwoCommits (commit 4 10 ∷ commit 4 11 ∷ []) false ∷
    case 3 3 TwoCommits (Commit 3 3 (record { bytes = [] }) ∷ Commit 3 3 (record { bytes = 1 ∷ [] }) ∷ []) false ∷
    -- two commitments show nothing else
    case 2 3 BadOpening (commit 3 10 ∷ commit 3 11 ∷ []) false ∷
    case 2 3 Collision (commit 3 10 ∷ commit 3 11 ∷ []) false ∷
    case 2 0 Illegal (commit 0 10 ∷ commit 0 11 ∷ []) false ∷
    []

judged : map (λ c. shows game c.player c.turn c.kind c.frames) cases ≡ map (λ c. c.is) cases
unfolding are_of_kind end_illegal digest_of
judged = refl
