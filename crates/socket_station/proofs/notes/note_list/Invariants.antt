use Rattle.std.proofs.Common.{◌≡◌, take}
use Rattle.socket_station.specs.Noted.{noted_in, with_list}
use Rattle.socket_station.proofs.notes.note_list.Given as goal

abbrev pub invariant-loop-item : goal.invariant-loop-item
invariant-loop-item l = noted_in l.notes.notes ≡ with_list (take l.item-index l.ready) (noted_in l.initial.notes.notes)
