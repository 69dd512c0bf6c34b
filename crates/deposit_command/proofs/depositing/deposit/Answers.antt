use Rattle.deposit_command.proofs.depositing.deposit.Goals as goal

pub returns : goal.returns
returns g c = record {
  result = c.send-end.result;
  last = c.send-end.new.self;
  sends = rw (c.from.ensures, c.requires.first, c.new-depositor.ensures) at c.send-end.ensures;
  written = c.tell_end.ensures;
}
