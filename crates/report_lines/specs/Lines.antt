-- Lines: the printed lines that commands share.
use Rattle.std.specs.Prelude.{ℕ, List, [], ◌∷◌, ◌++◌, drop, flat_map, Option, Some, None, codes, decimal}
use Rattle.hex.specs.Hex.{encode_lower}
use Rattle.definitions.specs.declared.world.Track.{Track}
use Rattle.definitions.specs.declared.world.MoveFault.{MoveFault}
use Rattle.definitions.specs.declared.world.MoveFault.TheVariants.{Outside, Wall, TooFar, StrikeOutside, StrikeFar, NoCharge}
use Rattle.definitions.specs.declared.frames.TurnFrame.{TurnFrame}
use Rattle.definitions.specs.declared.frames.TurnFrame.TheVariants as F
use Rattle.definitions.specs.declared.frames.What.{What}
use Rattle.definitions.specs.declared.frames.What.TheVariants.{Commit, Reveal}
use Rattle.definitions.specs.declared.answers.Need.{Need}
use Rattle.definitions.specs.declared.answers.OwnFault.{OwnFault}
use Rattle.definitions.specs.declared.answers.OwnFault.TheVariants.{NotNow, Illegal}
use Rattle.definitions.specs.declared.findings.Finding.{Finding}
use Rattle.definitions.specs.declared.answers.GotAnswer.{GotAnswer}
use Rattle.definitions.specs.declared.answers.GotAnswer.TheVariants.{Taken, Stashed, Same, Far, Foreign, Closed}
use Rattle.definitions.specs.declared.answers.GotAnswer.TheVariants as G
use Rattle.definitions.specs.declared.logs.Entry.{Entry}
use Rattle.definitions.specs.declared.logs.Entry.TheVariants.{Chose, Made, Got}
use Rattle.commitment.specs.Spelling.{frame_bytes}
use Rattle.text_fields.specs.Kinds.{kind_name}

-- the name of what is wrong with a move
abbrev pub fault_name : MoveFault → List ℕ
fault_name Outside = codes "M1"
fault_name Wall = codes "M2"
fault_name TooFar = codes "M3"
fault_name StrikeOutside = codes "M4"
fault_name StrikeFar = codes "M5"
fault_name NoCharge = codes "M6"

-- what is written about a choice of the turn: it is taken, or why not
unfoldable pub choice_text : (turn : ℕ) → Option OwnFault → List ℕ
choice_text turn None = codes "chosen " ++ decimal turn ++ codes "\n"
choice_text turn (Some NotNow) = codes "not now\n"
choice_text turn (Some (Illegal fault)) = codes "illegal " ++ fault_name fault ++ codes "\n"

-- what is written about a finding
unfoldable pub caught_text : Finding → List ℕ
caught_text f = codes "caught " ++ decimal f.player ++ codes " " ++ decimal f.turn ++ codes " " ++ kind_name f.kind ++ codes "\n"

-- what is written about a finding, if there is one
abbrev pub found_text : Option Finding → List ℕ
found_text None = []
found_text (Some f) = caught_text f

-- a line of this word, a player, and a place
unfoldable pub place_text : List ℕ → (q place : ℕ) → List ℕ
place_text word q place = word ++ decimal q ++ codes " " ++ decimal place ++ codes "\n"

unfoldable pub foreign_text : (q : ℕ) → List ℕ
foreign_text q = codes "foreign " ++ decimal q ++ codes "\n"

-- what is written about a frame of this place that came from q, by the peer's answer; after a finding no frame comes
abbrev pub got_text : (q place : ℕ) → GotAnswer → List ℕ
got_text q place Taken = place_text (codes "taken ") q place
got_text q place Stashed = place_text (codes "stashed ") q place
got_text q place Same = place_text (codes "same ") q place
got_text q place Far = place_text (codes "far ") q place
got_text q place Foreign = foreign_text q
got_text q place (G.Caught f) = caught_text f
got_text q place Closed = []

-- what is written about a player's greeting in its bytes, about the place whose frame it wants, and about a byte of them, at this
-- place of all that came from it, that no frame can go on with
unfoldable pub hello_text : (q : ℕ) → List ℕ
hello_text q = codes "hello " ++ decimal q ++ codes "\n"

abbrev pub want_text : (q place : ℕ) → List ℕ
want_text q place = place_text (codes "want ") q place

abbrev pub bad_text : (q place : ℕ) → List ℕ
bad_text q place = place_text (codes "bad ") q place

-- the word for one of a turn's two frames
abbrev pub what_name : What → List ℕ
what_name Commit = codes "commit "
what_name Reveal = codes "reveal "

-- what is written about a frame that is made: which of which turn, and its bytes
unfoldable pub made_frame_text : What → (turn : ℕ) → TurnFrame → List ℕ
made_frame_text what turn frame = codes "made " ++ what_name what ++ decimal turn ++ codes " " ++ encode_lower (frame_bytes frame) ++ codes "\n"

abbrev pub made_text : TurnFrame → List ℕ
made_text (F.Commit p t d) = made_frame_text Commit t (F.Commit p t d)
made_text (F.Reveal p t m n) = made_frame_text Reveal t (F.Reveal p t m n)

-- what is written about an entry that comes into the log: only a frame that is made is told so
abbrev pub entry_report : Entry → List ℕ
entry_report (Chose t m n) = []
entry_report (Made f) = made_text f
entry_report (Got q f) = []

-- what is written about the entries of the log behind the first so many
unfoldable pub added_text : ℕ → List Entry → List ℕ
added_text count log = flat_map entry_report (drop count log)

-- what is written about a need
unfoldable pub need_text : Need → List ℕ
need_text n = codes "need " ++ decimal n.player ++ codes " " ++ decimal n.turn ++ codes " " ++ what_name n.what ++ decimal n.next ++ codes "\n"

-- what is written about the needs, or that there is none
abbrev pub needs_text : List Need → List ℕ
needs_text [] = codes "done\n"
needs_text (n ∷ ns) = need_text n ++ flat_map need_text ns

-- what is written about a player's score: how many of its turns are settled, and the hits that it gave and took in them
unfoldable pub score_text : (turns given taken : ℕ) → List ℕ
score_text turns given taken = codes "score turns " ++ decimal turns ++ codes " given " ++ decimal given ++ codes " taken " ++ decimal taken ++ codes "\n"

-- what is written about a player when all turns are over: where it stands, with which charge, and the hits that it gave and took
unfoldable pub world_line_text : (q : ℕ) → Track → (gave took : ℕ) → List ℕ
world_line_text q track gave took =
    codes "world " ++ decimal q ++ codes " at " ++ decimal track.at.x ++ codes " " ++ decimal track.at.y ++ codes " charge " ++
    decimal track.charge ++ codes " given " ++ decimal gave ++ codes " taken " ++ decimal took ++ codes "\n"

-- what is written about the byte from which on a log is dropped
unfoldable pub dropped_line : ℕ → List ℕ
dropped_line at = codes "dropped " ++ decimal at ++ codes "\n"

-- the same, if it is dropped at all
abbrev pub dropped_text : Option ℕ → List ℕ
dropped_text None = []
dropped_text (Some at) = dropped_line at

-- what is written at the very end
abbrev pub end_line_text : List ℕ
end_line_text = codes "end\n"

-- what is written about a choice that is due
unfoldable pub due_text : (turn : ℕ) → List ℕ
due_text turn = codes "choose " ++ decimal turn ++ codes "\n"

-- what is written about a player: how many of its turns are resolved, its track after them, and the place that comes next of it
unfoldable pub player_text : (q turns : ℕ) → Track → (next : ℕ) → List ℕ
player_text q turns track next =
    codes "player " ++ decimal q ++ codes " turns " ++ decimal turns ++ codes " at " ++ decimal track.at.x ++ codes " " ++
    decimal track.at.y ++ codes " charge " ++ decimal track.charge ++ codes " next " ++ decimal next ++ codes "\n"
