-- Worked: the worked texts, computed.
use Rattle.std.proofs.Common.{refl}
use Rattle.std.specs.Fmt.{digits}
use Rattle.hex.specs.Hex.{decode_pairs, encode_with}
use Rattle.text_lines.specs.Lines.{ended_lines_of, field_at, one_of}
use Rattle.text_fields.specs.Numbers.{number_then}
use Rattle.roots.specs.Text.{roots_text}
use Rattle.roots.specs.Reading.{end_at, first_roots, root_said, said_by, with_root}
use Rattle.roots.specs.Cases.{NamesTheLineAtFault, TellsTwoRoots}

pub two_roots_told : TellsTwoRoots
unfolding roots_text digits encode_with said_by first_roots with_root root_said end_at ended_lines_of one_of field_at number_then decode_pairs
two_roots_told = record { spelled = refl; read = refl }

pub faults_named : NamesTheLineAtFault
unfolding said_by first_roots with_root root_said end_at ended_lines_of one_of field_at number_then decode_pairs
faults_named = record { nothing = refl; version = refl; order = refl; twice = refl; zero = refl; spaces = refl; capital = refl; short = refl; long = refl; few = refl; many = refl; ending = refl; unended = refl; more = refl }
