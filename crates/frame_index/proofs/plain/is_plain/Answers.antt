use Rattle.frame_index.proofs.Plainly.{plain_short, plain_two}
use Rattle.std.proofs.Common.{sym, ◌∙◌}
use Rattle.frame_index.proofs.plain.is_plain.Goals as goal

pub returns-in-len1 : goal.returns-in-len1
returns-in-len1 c = λ t. plain_short c.args.kept.now c.in-len1.len_below

pub returns-then-is_commit : goal.returns-then-is_commit
returns-then-is_commit c = λ t. plain_two c.args.kept.now c.one-item.result c.other-item.result c.is_commit.result c.is_commit-in-len2.result c.in-len2.len_at_least c.in-len2.len_below c.one-item.is c.other-item.is
    c.is_commit.ensures c.is_commit-in-len2.ensures c.if-is_commit.true (sym c.eq.ensures ∙ t)
