use Rattle.std.proofs.Common.{List, subst, sym}
use Rattle.std.proofs.lemmas.Result.{on_ok_weaker}
use Rattle.frame_index.specs.declared.seen.Seen.{Seen}
use Rattle.frame_index.specs.Keeps.{Keeps}
use Rattle.frame_index.proofs.listing.put_turn.Goals as goal

pub returns-clause-stand : goal.returns-clause-stand
returns-clause-stand c =
    on_ok_weaker c.read_turn.result
    (λ d logs index stand. d logs index
    (subst (λ (ks : List Seen). Keeps c.args.session.now c.args.player c.args.turn logs ks) (sym c.in_ok-gather.ensures) (index.stands c.args.player c.args.turn)) stand) c.read_turn.ensures.stand
