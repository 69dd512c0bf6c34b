use Rattle.std.proofs.Common.{refl, ap}
use Rattle.run_frame.proofs.Alone.{refused_works, told_so}
use Rattle.file_commands.specs.Judge.{judge_answer}
use Rattle.file_commands.specs.JudgeLaw.{judge_law}
use Rattle.file_commands.specs.JudgeWords.{judging_said}
use Rattle.file_commands.proofs.JudgeHolds.{judge_holds}
use Rattle.file_commands.proofs.Judged.{case_reads, case_refused}
use Rattle.file_commands.proofs.commands.run_judge.Goals as goal

pub returns-in-Ok : goal.returns-in-Ok
returns-in-Ok g c = λ rest.
    let j = judging_said c.args.words in
    let o = c.in-Ok.ensures in
    told_so (judge_law j) (judge_holds j) refl rest _ _ _ o.calls (case_reads _ _ j _ o) _ _ c.judge_exhibit.result
    (λ contents input given. ap judge_answer (o.due contents given)) o.counted c.judge_exhibit.ensures tt

pub returns-in-Err : goal.returns-in-Err
returns-in-Err g c = λ rest.
    let j = judging_said c.args.words in
    let o = c.in-Err.ensures in
    refused_works (judge_law j) (judge_holds j) refl rest _ _ _ o.calls (case_reads _ _ j _ o) c.in-Err.status
    (λ contents input given. case_refused _ c.in-Err.status (o.due contents given)) o.counted (λ due d. tt)
