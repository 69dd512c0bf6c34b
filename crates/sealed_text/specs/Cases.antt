-- Cases: worked texts of one frame, and which sealed exhibit or which line at fault each says. Seals
-- have two bytes here: those of a session have thousands, and are read alike.
use Rattle.std.specs.Prelude.{◌≡◌, ℕ, List, [], ◌∷◌, ◌++◌, Result, Ok, Err, codes, replicate}
use Rattle.definitions.specs.declared.frames.TurnFrame.{TurnFrame}
use Rattle.definitions.specs.declared.frames.TurnFrame.TheVariants.{Commit}
use Rattle.definitions.specs.declared.findings.Kind.TheVariants.{BadOpening}
use Rattle.text_lines.specs.Lines.{ended_lines_of}
use Rattle.text_fields.specs.declared.fault.TextFault.{TextFault}
use Rattle.text_fields.specs.declared.fault.TextFault.TheVariants.{At}
use Rattle.sealed_evidence.specs.declared.sealed.SealedExhibit.{SealedExhibit}
use Rattle.sealed_text.specs.Text.{sealed_text}
use Rattle.sealed_text.specs.Reading.{said_by}

-- a commitment of player 3 to turn 4, and the digits that spell its bytes
abbrev pub worked_frame : TurnFrame
worked_frame = Commit 3 4 (record { bytes = replicate 32 171 })

abbrev pub frame_digits : List ℕ
frame_digits = codes "0200250300000004abababababababababababababababababababababababababababababababab"

-- one frame with its seal
abbrev pub one_sealed : SealedExhibit
one_sealed = record { exhibit = record { player = 3; turn = 4; kind = BadOpening; frames = worked_frame ∷ [] }; seals = (10 ∷ 249 ∷ []) ∷ [] }

-- the lines before the frame
abbrev pub worked_head : List ℕ
worked_head = codes "evidence 2\nplayer 3\nturn 4\nkind bad-opening\n"

-- the text of this head, the frame, and this rest
abbrev pub text_with : (head rest : List ℕ) → List ℕ
text_with head rest = head ++ (codes "frame " ++ (frame_digits ++ rest))

-- what a text says, with seals of two bytes
abbrev pub said_of : List ℕ → Result SealedExhibit TextFault
said_of text = said_by 2 (ended_lines_of text)

-- what it says with this head, or with this rest after the frame
abbrev pub with_head : List ℕ → Result SealedExhibit TextFault
with_head head = said_of (text_with head (codes "\nseal 0af9\nend\n"))

abbrev pub with_rest : List ℕ → Result SealedExhibit TextFault
with_rest rest = said_of (text_with worked_head rest)

-- a sealed exhibit has the text that one would write by hand, and it is read as it
pub record TellsOneFrame : Type 0 where
  pub spelled : sealed_text one_sealed ≡ text_with worked_head (codes "\nseal 0af9\nend\n")
  pub read : with_rest (codes "\nseal 0af9\nend\n") ≡ Ok one_sealed

-- texts that differ from that one in one thing each, and the line at which each is at fault
pub record NamesTheLineAtFault : Type 0 where
  -- no line at all
  pub nothing : said_of [] ≡ Err (At 1)
  -- the version of exhibits without seals
  pub version : with_head (codes "evidence 1\nplayer 3\nturn 4\nkind bad-opening\n") ≡ Err (At 1)
  -- a player above the greatest
  pub player : with_head (codes "evidence 2\nplayer 256\nturn 4\nkind bad-opening\n") ≡ Err (At 2)
  -- no frame
  pub none : said_of (worked_head ++ codes "end\n") ≡ Err (At 5)
  -- a seal before its frame
  pub order : said_of (worked_head ++ codes "seal 0af9\nend\n") ≡ Err (At 5)
  -- `end` in place of the seal
  pub unsealed : with_rest (codes "\nend\n") ≡ Err (At 6)
  -- no line after the frame's
  pub missing : with_rest (codes "\n") ≡ Err (At 6)
  -- a frame in place of the seal
  pub twice : with_rest (codes "\nframe " ++ (frame_digits ++ codes "\nseal 0af9\nend\n")) ≡ Err (At 6)
  -- a capital digit
  pub capital : with_rest (codes "\nseal 0aF9\nend\n") ≡ Err (At 6)
  -- three digits, two and six
  pub odd : with_rest (codes "\nseal 0af\nend\n") ≡ Err (At 6)
  pub short : with_rest (codes "\nseal 0a\nend\n") ≡ Err (At 6)
  pub long : with_rest (codes "\nseal 0af900\nend\n") ≡ Err (At 6)
  -- two spaces
  pub spaces : with_rest (codes "\nseal  0af9\nend\n") ≡ Err (At 6)
  -- a second seal
  pub many : with_rest (codes "\nseal 0af9\nseal 0af9\nend\n") ≡ Err (At 7)
  -- `end` is missing
  pub ending : with_rest (codes "\nseal 0af9\n") ≡ Err (At 7)
  -- a last line without its LF
  pub unended : with_rest (codes "\nseal 0af9\nend") ≡ Err (At 7)
  -- an empty line after `end`
  pub more : with_rest (codes "\nseal 0af9\nend\n\n") ≡ Err (At 8)
  -- a second frame without its seal
  pub half : with_rest (codes "\nseal 0af9\nframe " ++ (frame_digits ++ codes "\nend\n")) ≡ Err (At 8)
