use Rattle.std.proofs.Common.{refl, ap}
use Rattle.run_frame.proofs.Alone.{refused_so, refused_works, told_so}
use Rattle.key_commands.specs.Seal.{seal_answer}
use Rattle.key_commands.specs.SealLaw.{seal_law}
use Rattle.key_commands.specs.Words.{sealing_said}
use Rattle.key_commands.proofs.SealHolds.{seal_holds}
use Rattle.key_commands.proofs.commands.run_seal.Goals as goal

pub returns-in-Ok : goal.returns-in-Ok
returns-in-Ok g c = λ rest.
    let s = sealing_said c.args.words in
    let o = c.in-Ok.ensures in
    told_so (seal_law s) (seal_holds s) refl rest _ _ _ o.calls (record { reads = o.reads; due = o.ready }) _ _ c.tell_sealed.result
    (λ contents input given. ap seal_answer (o.due contents given).due_is) o.counted c.tell_sealed.ensures tt

pub returns-in-Err : goal.returns-in-Err
returns-in-Err g c = λ rest.
    let s = sealing_said c.args.words in
    let o = c.in-Err.ensures in
    refused_works (seal_law s) (seal_holds s) refl rest _ _ _ o.calls (record { reads = o.reads; due = o.ready }) c.in-Err.status
    (λ contents input given. refused_so seal_answer (λ e. refl) _ c.in-Err.status (o.due contents given)) o.counted (λ due d. tt)
