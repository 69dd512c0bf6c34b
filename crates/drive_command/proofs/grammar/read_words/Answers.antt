use Rattle.drive_command.proofs.grammar.read_words.Goals as goal

pub returns-in-Some-clause-few : goal.returns-in-Some-clause-few
returns-in-Some-clause-few c = c.in-Some.ensures.few c.args.last
