use Rattle.std.proofs.Common.{◌≡◌, ◌∙◌, ap, sym, ℕ}
use Rattle.definitions.specs.declared.frames.TurnFrame.{TurnFrame}
use Rattle.definitions.specs.declared.logs.Entry.TheVariants.{Chose, Got}
use Rattle.definitions.specs.declared.openings.Nonce.{Nonce}
use Rattle.definitions.specs.declared.world.Move.{Move}
use Rattle.auditor.specs.Audits.{crossed}
use Rattle.auditor.proofs.auditor.take_entry.Goals as goal

-- a choice gets no frame
no_frame : (t : ℕ) (m : Move) (n : Nonce) (q : ℕ) (f : TurnFrame) → Chose t m n ≡ Got q f → ⊥
no_frame t m n q f e = absurd cc

pub returns-in-Chose-clause-got : goal.returns-in-Chose-clause-got
returns-in-Chose-clause-got c = λ logs h there last w.
    c.own_entries_change_nothing.ensures c.args.session.now logs c.args.spot.log h c.args.entry.now c.args.index.now there
    (λ q f e. no_frame c.in-Chose.turn c.in-Chose.mv c.in-Chose.nonce q f (sym c.in-Chose.is ∙ e)) w

pub returns-in-Chose-clause-made : goal.returns-in-Chose-clause-made
returns-in-Chose-clause-made c = λ logs h there last w.
    c.own_entries_change_nothing.ensures c.args.session.now logs c.args.spot.log h (crossed c.args.entry.now) c.args.made.now there
    (λ q f e. no_frame c.in-Chose.turn c.in-Chose.mv c.in-Chose.nonce q f (sym (ap crossed c.in-Chose.is) ∙ e)) w
