use Rattle.text_lines.proofs.Forms.{one_of-some, one_of-spelled, one_within-some, one_within-spelled, three_of-some, three_of-spelled, three_or_five_of-five, three_or_five_of-some, two_of-some, two_of-spelled}
use Rattle.text_lines.proofs.laws.lines_are_told.Goals as goal

pub returns-clause-read : goal.returns-clause-read
returns-clause-read c = record { one = one_of-spelled; within = one_within-spelled; two = two_of-spelled; three = three_of-spelled; or_five = three_or_five_of-five }

pub returns-clause-spelled : goal.returns-clause-spelled
returns-clause-spelled c = record { one = one_of-some; within = one_within-some; two = two_of-some; three = three_of-some; or_five = three_or_five_of-some }
