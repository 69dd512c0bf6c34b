use Rattle.std.proofs.Common.{◌<◌, ap, subst, sym, ◌∙◌, arith}
use Rattle.grid_world.specs.Sessions.{IsSession}
use Rattle.frame_index.specs.declared.limits.TheConstants.{MOST_LOGS}
use Rattle.std.specs.Prelude.{Some}
use Rattle.auditor.proofs.Viewed.{names_one}
use Rattle.make_command.proofs.Taken.{hostile_taken, log_sent, log_short, log_taken}
use Rattle.make_command.proofs.auditing.take_player.Goals as goal

pub returns-then-not-is_honest : goal.returns-then-not-is_honest
returns-then-not-is_honest c =
    let w : IsSession c.args.table.now.game = subst IsSession c.session.ensures c.facts-2.ensures in
    let most = w.players.1 in
    let lt = c.requires.player in
    let below : c.args.player < MOST_LOGS = omega (arith, lt, most) in
    hostile_taken c.args.table.now.game c.args.table.now.logs c.args.player below c.args.auditor.now (sym c.is_honest.ensures ∙ c.if-not-is_honest.true) c.requires.taken

pub take_entries-requires-clause-few : goal.take_entries-requires-clause-few
take_entries-requires-clause-few c =
    log_short c.args.table.now.game c.session.result.now c.args.table.now.logs c.args.player c.log_of.result.now c.args.auditor.now c.owner.new.self c.from-2.result c.facts-2.ensures c.session.ensures c.facts.ensures.honest
    c.requires.player c.log_of.ensures c.from-2.ensures c.requires.taken (names_one c.args.auditor.now c.owner.new.self c.from.result (Some c.args.player) c.owner.ensures.after).counts

pub take_entries-requires-clause-senders : goal.take_entries-requires-clause-senders
take_entries-requires-clause-senders c =
    log_sent c.args.table.now.game c.session.result.now c.args.table.now.logs c.args.player c.log_of.result.now c.facts-2.ensures c.session.ensures c.facts.ensures.honest c.log_of.ensures

pub returns : goal.returns
returns c =
    let one = names_one c.args.auditor.now c.owner.new.self c.from.result (Some c.args.player) c.owner.ensures.after in
    log_taken c.args.table.now.game c.session.result.now c.args.table.now.logs c.args.player c.log_of.result.now c.args.auditor.now c.owner.new.self c.take_entries.new.auditor c.from.result c.from-2.result c.take_entries.result
    c.facts-2.ensures c.session.ensures c.requires.player c.log_of.ensures c.from.ensures c.from-2.ensures c.requires.taken c.owner.ensures.stands one.session one.counts one.owner_is
    one.others c.take_entries.ensures
