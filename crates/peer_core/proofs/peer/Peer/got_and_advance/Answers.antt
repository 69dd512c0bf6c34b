use Rattle.std.proofs.Common.{List, ap, ◌∙◌, ◌≡◌}
use Rattle.definitions.specs.declared.answers.GotAnswer.{GotAnswer}
use Rattle.definitions.specs.declared.logs.Entry.{Entry}
use Rattle.definitions.specs.Answers.{got_answer}
use Rattle.definitions.specs.Advance.{advance}
use Rattle.peer_core.specs.Views.{PeerState}
use Rattle.peer_core.specs.Answers.{is_logged}
use Rattle.peer_core.proofs.Stepped.{frame_logged, frame_unlogged}
use Rattle.peer_core.proofs.peer.Peer.got_and_advance.Goals as goal

pub returns-then-is_logged-clause-log : goal.returns-then-is_logged-clause-log
returns-then-is_logged-clause-log c =
    let v = c.args.self.now in
    let logged : c.is_logged.result ≡ is_logged (got_answer v.game v.me v.entries c.args.from c.args.frame.now) = c.is_logged.ensures ∙ ap (λ (a : GotAnswer). is_logged a) c.got-answer.ensures.answer in
    c.advance.ensures.log ∙
    ap (λ (p : PeerState). record p { entries = advance p.game p.me p.entries }) c.got-answer.ensures.log ∙
    ap (λ (h : List Entry). record c.args.self.now { entries = h }) (frame_logged v.game v.me v.entries c.args.from c.args.frame.now c.is_logged.result logged c.if-is_logged.true)

pub returns-else-is_logged-clause-log : goal.returns-else-is_logged-clause-log
returns-else-is_logged-clause-log c =
    let v = c.args.self.now in
    let logged : c.is_logged.result ≡ is_logged (got_answer v.game v.me v.entries c.args.from c.args.frame.now) = c.is_logged.ensures ∙ ap (λ (a : GotAnswer). is_logged a) c.got-answer.ensures.answer in
    c.got-answer.ensures.log ∙
    ap (λ (h : List Entry). record c.args.self.now { entries = h }) (frame_unlogged v.game v.me v.entries c.args.from c.args.frame.now c.is_logged.result logged c.if-is_logged.false)
