use Rattle.std.proofs.Common.{refl, ap}
use Rattle.run_frame.proofs.Alone.{refused_so, refused_works, told_so}
use Rattle.file_commands.specs.SealedJudge.{sealed_answer}
use Rattle.file_commands.specs.SealedJudgeLaw.{sealed_judge_law}
use Rattle.file_commands.specs.SealedWords.{sealed_judging_said}
use Rattle.file_commands.proofs.SealedHolds.{sealed_holds}
use Rattle.file_commands.proofs.commands.run_sealed_judge.Goals as goal

pub returns-in-Ok : goal.returns-in-Ok
returns-in-Ok g c = λ rest.
    let j = sealed_judging_said c.args.words in
    let o = c.in-Ok.ensures in
    told_so (sealed_judge_law j) (sealed_holds j) refl rest _ _ _ o.calls (record { reads = o.reads; due = o.ready }) _ _ c.judge_sealed_exhibit.result
    (λ contents input given. ap sealed_answer (o.due contents given)) o.counted c.judge_sealed_exhibit.ensures tt

pub returns-in-Err : goal.returns-in-Err
returns-in-Err g c = λ rest.
    let j = sealed_judging_said c.args.words in
    let o = c.in-Err.ensures in
    refused_works (sealed_judge_law j) (sealed_holds j) refl rest _ _ _ o.calls (record { reads = o.reads; due = o.ready }) c.in-Err.status
    (λ contents input given. refused_so sealed_answer (λ s. refl) _ c.in-Err.status (o.due contents given)) o.counted (λ due d. tt)
