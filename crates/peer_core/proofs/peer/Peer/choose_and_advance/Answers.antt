use Rattle.std.proofs.Common.{List, ap, sym, ◌∙◌}
use Rattle.definitions.specs.declared.logs.Entry.{Entry}
use Rattle.definitions.specs.Advance.{advance}
use Rattle.peer_core.specs.Views.{PeerState}
use Rattle.peer_core.proofs.Stepped.{choice_refused, choice_taken}
use Rattle.peer_core.proofs.peer.Peer.choose_and_advance.Goals as goal

pub returns-in-Err-clause-log : goal.returns-in-Err-clause-log
returns-in-Err-clause-log c =
    c.in-Err.ensures.refused ∙
    ap (λ (h : List Entry). record c.args.self.now { entries = h }) (sym (choice_refused _ _ _ _ c.args.nonce _ (sym c.in-Err.ensures.fault)))

pub returns-in-Ok-clause-log : goal.returns-in-Ok-clause-log
returns-in-Ok-clause-log c =
    c.advance.ensures.log ∙
    ap (λ (p : PeerState). record p { entries = advance p.game p.me p.entries }) c.in-Ok.ensures.chosen ∙
    ap (λ (h : List Entry). record c.args.self.now { entries = h }) (sym (choice_taken _ _ _ _ c.args.nonce (sym c.in-Ok.ensures.fault)))
