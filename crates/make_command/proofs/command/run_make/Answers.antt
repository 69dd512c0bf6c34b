use Rattle.std.proofs.Common.{[], append-nil, refl, sym}
use Rattle.run_frame.proofs.Alone.{told_works}
use Rattle.make_command.specs.MakeLaw.{make_law}
use Rattle.make_command.proofs.MakeHolds.{make_holds}
use Rattle.make_command.proofs.command.run_make.Goals as goal

pub returns : goal.returns
returns g c = λ rest shelf.
    let n = c.args.number in
    told_works (make_law n) (make_holds n) refl rest _ shelf shelf [] (record { reads = record { same = refl; answered = sym (append-nil shelf.pieces); readings = refl }; due = refl }) _ c.make.result refl
    (λ contents input given. c.make.ensures) tt
