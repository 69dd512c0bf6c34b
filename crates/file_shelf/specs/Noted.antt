-- Noted: how the calls for files are noted.
use Rattle.std.specs.Prelude.{◌==◌, List, get_or, map, if◌then◌else◌}
use Rattle.record.specs.Note.{Note}
use Rattle.machine_host.specs.Noted.{done_said, answer_said, number_at}
use Rattle.file_shelf.specs.declared.notes.TheConstants as C
use Rattle.file_shelf.specs.FileAsks.{FileAsk, Opened, Sought, Read}

-- the call that a note is of
abbrev pub ask_of : Note → FileAsk
ask_of note =
    let call = get_or note.name 0 0 in
    let code = get_or note.name 1 0 in
    if call == C.OPEN then Opened (number_at 0 note) note.bytes (done_said code)
    else if call == C.SEEK then Sought (number_at 0 note) (number_at 1 note) (done_said code)
    else Read (number_at 0 note) (answer_said code note.bytes)

abbrev pub asks_in : List Note → List FileAsk
asks_in notes = map ask_of notes
