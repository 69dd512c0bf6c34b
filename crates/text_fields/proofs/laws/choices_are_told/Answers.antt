use Rattle.text_fields.proofs.ChoiceTexts.{choice_read, choice_spelled}
use Rattle.text_fields.proofs.laws.choices_are_told.Goals as goal

pub returns-clause-read : goal.returns-clause-read
returns-clause-read c = choice_read

pub returns-clause-spelled : goal.returns-clause-spelled
returns-clause-spelled c = choice_spelled
