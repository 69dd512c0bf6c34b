use Rattle.std.proofs.Common.{refl}
use Rattle.socket_station.specs.declared.answers.Dial.TheVariants as D
use Rattle.ready_loop.proofs.CallsOut.{dial_new, dial_seat_at, dial_fits, dial_line}
use Rattle.ready_loop.proofs.ready.Loop.dial.Goals as goal

pub dialled-requires-clause-new : goal.dialled-requires-clause-new
dialled-requires-clause-new g c = dial_new _ _ c.args.self.now c.dial.result c.in-Socket.socket _ _ c.self.view_is c.requires.serving c.in-Socket.is c.dial.ensures.fresh

pub dial_seat-requires : goal.dial_seat-requires
dial_seat-requires g c = dial_seat_at _ c.args.self.now c.args.seat c.link_at-link.result c.self.view_is c.requires.next c.link_at-link.ensures.link

pub invariant_of-self : goal.invariant_of-self
invariant_of-self g c = dial_fits _ c.args.self.now c.self.inside.writer c.args.seat c.link_at-link.result c.next_of-next.result (D.Socket c.in-Socket.socket) c.dialled.new.self c.self.view_is c.self.invariant c.dialled.ensures

pub invariant_of-self-in-Failed : goal.invariant_of-self-in-Failed
invariant_of-self-in-Failed g c = dial_fits _ c.args.self.now c.self.inside.writer c.args.seat c.link_at-link.result c.next_of-next.result D.Failed c.dial_seat.new.self c.self.view_is c.self.invariant c.dial_seat.ensures.seats

pub returns-in-Socket : goal.returns-in-Socket
returns-in-Socket g c =
    dial_line _ _ _ c.args.self.now _ c.self.inside.writer c.args.seat c.link_at-link.result c.next_of-next.result c.dial.result (D.Socket c.in-Socket.socket) c.dialled.new.self c.self.view_is c.requires.serving c.self.invariant c.requires.next c.link_at-link.ensures.link c.next_of-next.ensures
    c.in-Socket.is c.dial.ensures.fresh c.dial.ensures.after c.dialled.ensures refl

pub returns-in-Failed : goal.returns-in-Failed
returns-in-Failed g c =
    dial_line _ _ _ c.args.self.now _ c.self.inside.writer c.args.seat c.link_at-link.result c.next_of-next.result c.dial.result D.Failed c.dial_seat.new.self c.self.view_is c.requires.serving c.self.invariant c.requires.next c.link_at-link.ensures.link c.next_of-next.ensures
    c.in-Failed.is c.dial.ensures.fresh c.dial.ensures.after c.dial_seat.ensures.seats refl
