use Rattle.std.proofs.Common.{List, subst, sym}
use Rattle.frame_index.specs.declared.seen.Seen.{Seen}
use Rattle.frame_index.specs.Keeps.{Keeps}
use Rattle.auditor.proofs.reading.read_on.Goals as goal

pub returns-clause-read : goal.returns-clause-read
returns-clause-read c = λ logs w stand.
    let kept = w.stands c.args.player c.args.turn in
    let keeps : List Seen → Type 0 = Keeps c.args.session.now c.args.player c.args.turn logs in
    record {
      kept = subst keeps (sym c.in_ok-gather-2.ensures) kept;
      before = stand;
      after = c.in_ok-read_turn.ensures.stand logs w (subst keeps (sym c.in_ok-gather.ensures) kept) stand;
    }
