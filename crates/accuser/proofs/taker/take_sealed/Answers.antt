use Rattle.std.proofs.Common.{[], ◌∷◌, refl, subst, ℕ}
use Rattle.std.specs.Prelude.{OnOk}
use Rattle.definitions.specs.declared.logs.Entry.TheVariants.{Got}
use Rattle.auditor.specs.Taking.{Takes}
use Rattle.auditor.proofs.Viewed.{counts_of, takes_one}
use Rattle.accuser.proofs.Taken.{one_sealed, sealed_leaves}
use Rattle.accuser.proofs.taker.take_sealed.Goals as goal

pub returns-clause-takes : goal.returns-clause-takes
returns-clause-takes c =
    let takes = subst (λ (q : ℕ). OnOk c.take.result (Takes c.args.taker.now.auditor c.take.new.self c.args.file (Got q c.args.frame ∷ []))) c.player.ensures
    (takes_one c.take.result c.args.taker.now.auditor c.take.new.self c.args.file (Got c.player.result c.args.frame) c.take.ensures.stands) in
    let counts = counts_of c.take.result c.args.taker.now.auditor c.take.new.self c.args.file c.take.ensures.after in
    one_sealed c.take.result c.args.taker.now (record { auditor = c.take.new.self; seals = c.note.new.self; seal = c.args.taker.now.seal }) c.args.file c.args.frame c.args.taker.now.seal
    takes counts.counted (c.in_ok-note.ensures.noted)

pub returns-clause-leaves : goal.returns-clause-leaves
returns-clause-leaves c =
    let counts = counts_of c.take.result c.args.taker.now.auditor c.take.new.self c.args.file c.take.ensures.after in
    sealed_leaves c.args.session.now c.args.taker.now (record { auditor = c.take.new.self; seals = c.note.new.self; seal = c.args.taker.now.seal }) c.args.file
    c.requires.of_session counts.session counts.owner counts.others c.in_ok-note.ensures.game refl
