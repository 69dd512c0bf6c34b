use Rattle.socket_lines.specs.Seats as S
use Rattle.socket_table.proofs.Changed.{seat_changed, names_same, fit_names}
use Rattle.socket_table.proofs.table.Table.put_namer.Goals as goal

pub invariant_of-self : goal.invariant_of-self
invariant_of-self c =
    (seat_changed _ _ _ _ c.args.seat c.args.player (S.names c.args.taken c.args.from) c.index_mut.result.now c.name.new.self c.self.view_is c.self.invariant c.requires.seat c.index_mut.ensures.value c.name.ensures
    (names_same c.args.taken c.args.from) (λ x g f. fit_names c.args.taken c.args.from x c.requires.taken (c.requires.unspent x g))).0

pub returns : goal.returns
returns c =
    (seat_changed _ _ _ _ c.args.seat c.args.player (S.names c.args.taken c.args.from) c.index_mut.result.now c.name.new.self c.self.view_is c.self.invariant c.requires.seat c.index_mut.ensures.value c.name.ensures
    (names_same c.args.taken c.args.from) (λ x g f. fit_names c.args.taken c.args.from x c.requires.taken (c.requires.unspent x g))).1
