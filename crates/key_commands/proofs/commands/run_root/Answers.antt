use Rattle.std.proofs.Common.{[], ◌∷◌, refl, ap}
use Rattle.run_frame.proofs.Alone.{refused_so, refused_works, told_so}
use Rattle.run_frame.proofs.Working.{readings_fit, some_contents}
use Rattle.key_commands.specs.Root.{root_answer}
use Rattle.key_commands.specs.RootLaw.{root_law}
use Rattle.key_commands.specs.Words.{keying_said}
use Rattle.key_commands.proofs.RootHolds.{root_holds}
use Rattle.key_commands.proofs.commands.run_root.Goals as goal

pub returns-in-Ok : goal.returns-in-Ok
returns-in-Ok g c = λ rest.
    let k = keying_said c.args.words in
    let o = c.in-Ok.ensures in
    told_so (root_law k) (root_holds k) refl rest _ _ _ o.calls (record { reads = o.reads; due = o.ready }) _ _ c.tell_root.result
    (λ contents input given. ap (root_answer k.player) (o.due contents given).due_is) o.counted c.tell_root.ensures tt

pub returns-in-Err : goal.returns-in-Err
returns-in-Err g c = λ rest.
    let k = keying_said c.args.words in
    let o = c.in-Err.ensures in
    refused_works (root_law k) (root_holds k) refl rest _ _ _ o.calls (record { reads = o.reads; due = o.ready }) c.in-Err.status
    (λ contents input given. refused_so (root_answer k.player) (λ s. refl) _ c.in-Err.status (o.due contents given)) o.counted (λ due d. tt)

-- the player of what was opened is one of the session
pub tell_root-requires : goal.tell_root-requires
tell_root-requires g c =
    let k = keying_said c.args.words in
    let o = c.in-Ok.ensures in
    let some = some_contents o.calls in
    (o.due some (readings_fit (g.H.Shelf.state c.args.shelf.now).files (k.session ∷ k.seed ∷ []) o.calls o.reads.readings)).player_is
