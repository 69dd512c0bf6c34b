use Rattle.drive_command.proofs.answering.answer.Goals as goal

pub returns-in-Bytes-clause-text : goal.returns-in-Bytes-clause-text
returns-in-Bytes-clause-text g c = λ input. rw (c.in-Bytes.ensures.answers input, ← c.as_slice.ensures.bytes) (c.bring.ensures.text input)
