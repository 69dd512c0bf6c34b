use Rattle.std.proofs.Common.{refl, ap}
use Rattle.definitions.specs.World.{Game}
use Rattle.socket_station.specs.declared.answers.SocketWrite.TheVariants as O
use Rattle.ready_loop.proofs.CallsOut.{is_due, write_some, write_open, write_place, wrote_line, wrote_fits, gave_as}
use Rattle.ready_loop.proofs.ready.Loop.write.Goals as goal

pub write-requires-clause-some : goal.write-requires-clause-some
write-requires-clause-some g c =
    write_some _ c.args.self.now c.args.place c.args.socket c.bytes.result.now c.self.view_is c.requires.at c.requires.wants
    (is_due _ c.args.self.now c.args.place c.own_at-own.result c.id.result.now c.session.result.now.id c.me.result c.due-due.result c.bytes.result.now c.self.view_is c.own_at-own.ensures c.id.ensures (ap (λ (x : Game). x.id) c.session.ensures) c.me.ensures c.due-due.ensures c.bytes.ensures.bytes)

pub write-requires-clause-is_open : goal.write-requires-clause-is_open
write-requires-clause-is_open g c = write_open _ c.args.self.now c.args.place c.args.socket c.requires.at c.requires.serving c.requires.wants

pub give-requires-clause-own : goal.give-requires-clause-own
give-requires-clause-own g c = write_place _ c.args.self.now c.args.place c.own_at-own.result c.self.view_is c.facts.ensures c.own_at-own.ensures

pub give-requires-clause-due : goal.give-requires-clause-due
give-requires-clause-due g c = λ l h. (record { id = c.id.result.now; me = c.me.result }, c.due-due.ensures l h)

pub invariant_of-self : goal.invariant_of-self
invariant_of-self g c =
    wrote_fits _ _ c.args.self.now c.self.inside.writer c.args.place c.args.socket (O.Gave c.in-Gave.count) c.bytes.result.now c.give.new.self c.self.view_is c.requires.serving c.requires.at c.requires.shut c.requires.wants c.self.invariant
    (is_due _ c.args.self.now c.args.place c.own_at-own.result c.id.result.now c.session.result.now.id c.me.result c.due-due.result c.bytes.result.now c.self.view_is c.own_at-own.ensures c.id.ensures (ap (λ (x : Game). x.id) c.session.ensures) c.me.ensures c.due-due.ensures c.bytes.ensures.bytes)
    c.bytes.ensures.few
    (gave_as _ c.args.self.now c.args.place c.args.socket c.in-Gave.count c.own_at-own.result c.id.result.now c.session.result.now.id c.me.result c.give.new.self c.self.view_is c.own_at-own.ensures c.id.ensures (ap (λ (x : Game). x.id) c.session.ensures) c.me.ensures
    (λ x h. c.give.ensures x (record { id = c.id.result.now; me = c.me.result }) h (c.due-due.ensures x h)))

pub returns-in-Gave : goal.returns-in-Gave
returns-in-Gave g c =
    wrote_line _ _ _ c.args.self.now _ c.args.place c.args.socket c.write.result (O.Gave c.in-Gave.count) c.bytes.result.now c.give.new.self c.self.view_is c.requires.serving c.requires.at c.requires.shut c.requires.wants c.self.invariant.differ
    (is_due _ c.args.self.now c.args.place c.own_at-own.result c.id.result.now c.session.result.now.id c.me.result c.due-due.result c.bytes.result.now c.self.view_is c.own_at-own.ensures c.id.ensures (ap (λ (x : Game). x.id) c.session.ensures) c.me.ensures c.due-due.ensures c.bytes.ensures.bytes)
    c.bytes.ensures.few c.in-Gave.is c.write.ensures.within c.write.ensures.after
    (gave_as _ c.args.self.now c.args.place c.args.socket c.in-Gave.count c.own_at-own.result c.id.result.now c.session.result.now.id c.me.result c.give.new.self c.self.view_is c.own_at-own.ensures c.id.ensures (ap (λ (x : Game). x.id) c.session.ensures) c.me.ensures
    (λ x h. c.give.ensures x (record { id = c.id.result.now; me = c.me.result }) h (c.due-due.ensures x h)))
    refl

pub returns-in-NotYet : goal.returns-in-NotYet
returns-in-NotYet g c =
    wrote_line _ _ _ c.args.self.now _ c.args.place c.args.socket c.write.result O.NotYet c.bytes.result.now c.block.new.self c.self.view_is c.requires.serving c.requires.at c.requires.shut c.requires.wants c.self.invariant.differ
    (is_due _ c.args.self.now c.args.place c.own_at-own.result c.id.result.now c.session.result.now.id c.me.result c.due-due.result c.bytes.result.now c.self.view_is c.own_at-own.ensures c.id.ensures (ap (λ (x : Game). x.id) c.session.ensures) c.me.ensures c.due-due.ensures c.bytes.ensures.bytes)
    c.bytes.ensures.few c.in-NotYet.is c.write.ensures.within c.write.ensures.after (λ x h. c.block.ensures) refl

pub returns-in-Failed : goal.returns-in-Failed
returns-in-Failed g c =
    wrote_line _ _ _ c.args.self.now _ c.args.place c.args.socket c.write.result O.Failed c.bytes.result.now c.close.new.self c.self.view_is c.requires.serving c.requires.at c.requires.shut c.requires.wants c.self.invariant.differ
    (is_due _ c.args.self.now c.args.place c.own_at-own.result c.id.result.now c.session.result.now.id c.me.result c.due-due.result c.bytes.result.now c.self.view_is c.own_at-own.ensures c.id.ensures (ap (λ (x : Game). x.id) c.session.ensures) c.me.ensures c.due-due.ensures c.bytes.ensures.bytes)
    c.bytes.ensures.few c.in-Failed.is c.write.ensures.within c.write.ensures.after (λ x h. c.close.ensures) refl
