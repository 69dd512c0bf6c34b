use Rattle.std.proofs.Common.{◌≡◌, ◌<◌, ap, ◌∙◌, ◌++◌, ◌∷◌, [], arith, length, rules, vec_len}
use Rattle.socket_lines.specs.declared.line.Line.{Line}
use Rattle.socket_table.proofs.Opened.{sound_dialled, room_for_line}
use Rattle.socket_table.proofs.table.Table.add_dialled.Goals as goal

pub add-requires : goal.add-requires
add-requires c =
    let len : vec_len c.self.inside.lines ≡ length c.self.inside.lines.items = search rules in
    let room = room_for_line _ _ _ _ c.self.view_is c.self.invariant c.requires.room in
    omega (arith, len, room)

pub invariant_of-self : goal.invariant_of-self
invariant_of-self c =
    sound_dialled _ _ _ _ _ c.args.socket c.args.player c.args.next c.add.new.list.items c.self.view_is c.self.invariant c.add.ensures.capacity (let few : c.args.player < 256 = search rules in few) c.requires.new c.requires.free c.requires.room
    (c.add.ensures.items ∙ ap (λ (l : Line). c.self.inside.lines.items ++ l ∷ []) c.dialled.ensures)
