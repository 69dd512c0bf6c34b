use Rattle.auditor.proofs.reading.start.Goals as goal

pub returns-clause-stand : goal.returns-clause-stand
returns-clause-stand c = λ logs w. c.in_ok-read_first.ensures.stand logs w (c.start_heads-heads.ensures.stand logs)
