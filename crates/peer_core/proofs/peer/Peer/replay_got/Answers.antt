use Rattle.std.proofs.Common.{◌∙◌, [], ◌∷◌, ◌++◌, Bool, ap}
use Rattle.std.specs.Prelude.{if◌then◌else◌}
use Rattle.definitions.specs.declared.answers.GotAnswer.{GotAnswer}
use Rattle.definitions.specs.declared.logs.Entry.TheVariants.{Got}
use Rattle.peer_core.specs.Answers.{is_logged}
use Rattle.peer_core.specs.Views.{PeerState}
use Rattle.peer_core.proofs.Answering.{logged_is}
use Rattle.peer_core.proofs.Replaying.{got_allowed}
use Rattle.peer_core.proofs.peer.Peer.replay_got.Goals as goal

pub returns-clause-allowed : goal.returns-clause-allowed
returns-clause-allowed c =
    c.is_logged.ensures ∙ ap (λ (a : GotAnswer). is_logged a) c.got-answer.ensures.answer ∙
    logged_is c.args.self.now.game c.args.self.now.me c.args.self.now.entries c.args.from c.args.frame.now ∙
    got_allowed c.args.self.now.game c.args.self.now.me c.args.from c.args.self.now.entries c.args.frame.now

pub returns-clause-log : goal.returns-clause-log
returns-clause-log c =
    let with_log : Bool → PeerState = λ b. record {
      game = c.args.self.now.game;
      me = c.args.self.now.me;
      entries = if b then (c.args.self.now.entries ++ Got c.args.from c.args.frame.now ∷ []) else c.args.self.now.entries;
    } in
    c.got-answer.ensures.log ∙ ap with_log (got_allowed c.args.self.now.game c.args.self.now.me c.args.from c.args.self.now.entries c.args.frame.now)
