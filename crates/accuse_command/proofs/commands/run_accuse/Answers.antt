use Rattle.std.proofs.Common.{refl}
use Rattle.run_frame.proofs.Alone.{refused_so, refused_works, told_works}
use Rattle.accuse_command.specs.Accuse.{accuse_answer}
use Rattle.accuse_command.specs.AccuseLaw.{accuse_law}
use Rattle.accuse_command.specs.AccuseWords.{accusing_said}
use Rattle.accuse_command.proofs.AccuseHolds.{accuse_holds}
use Rattle.accuse_command.proofs.Opened.{accused_told, on_files}
use Rattle.accuse_command.proofs.commands.run_accuse.Goals as goal

pub put_accusation-requires : goal.put_accusation-requires
put_accusation-requires g c = on_files (accusing_said c.args.words) _ _ c.in-Ok.accusation c.in-Ok.ensures

pub returns-in-Ok : goal.returns-in-Ok
returns-in-Ok g c = λ rest.
    let a = accusing_said c.args.words in
    let o = c.in-Ok.ensures in
    told_works (accuse_law a) (accuse_holds a) refl rest _ _ _ o.calls (record { reads = o.reads; due = o.ready }) _ c.put_accusation.result o.counted
    (λ contents input given. accused_told _ _ _ c.in-Ok.accusation c.put_accusation.result (o.due contents given) c.put_accusation.ensures) tt

pub returns-in-Err : goal.returns-in-Err
returns-in-Err g c = λ rest.
    let a = accusing_said c.args.words in
    let o = c.in-Err.ensures in
    refused_works (accuse_law a) (accuse_holds a) refl rest _ _ _ o.calls (record { reads = o.reads; due = o.ready }) c.in-Err.status
    (λ contents input given. refused_so accuse_answer (λ s. refl) _ c.in-Err.status (o.due contents given)) o.counted (λ due d. tt)
