-- Worked: the worked texts, computed.
use Rattle.std.proofs.Common.{refl}
use Rattle.std.specs.Fmt.{digits}
use Rattle.hex.specs.Hex.{decode_pairs, encode_with}
use Rattle.commitment.specs.Spelling.{frame_bytes, turn_frame_of}
use Rattle.text_lines.specs.Lines.{ended_lines_of, field_at, one_of}
use Rattle.evidence.specs.Reading.{frame_said, head_at}
use Rattle.sealed_text.specs.Text.{sealed_text}
use Rattle.sealed_text.specs.Reading.{frame_at, pairs_at, said_by, seal_said}
use Rattle.sealed_text.specs.Cases.{NamesTheLineAtFault, TellsOneFrame}

pub one_frame_told : TellsOneFrame
unfolding sealed_text frame_bytes digits encode_with said_by head_at pairs_at frame_at frame_said seal_said ended_lines_of one_of field_at decode_pairs turn_frame_of
one_frame_told = record { spelled = refl; read = refl }

pub faults_named : NamesTheLineAtFault
unfolding said_by head_at pairs_at frame_at frame_said seal_said ended_lines_of one_of field_at decode_pairs turn_frame_of
faults_named = record {
  nothing = refl;
  version = refl;
  player = refl;
  none = refl;
  order = refl;
  unsealed = refl;
  missing = refl;
  twice = refl;
  capital = refl;
  odd = refl;
  short = refl;
  long = refl;
  spaces = refl;
  many = refl;
  ending = refl;
  unended = refl;
  more = refl;
  half = refl;
}
