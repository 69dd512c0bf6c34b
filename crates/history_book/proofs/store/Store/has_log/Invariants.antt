use Rattle.std.proofs.Common.{◌≡◌, map, drop}
use Rattle.std.specs.List.{list_any}
use Rattle.history_book.specs.Stores.{part_of, names_log}
use Rattle.history_book.proofs.store.Store.has_log.Given as goal

abbrev pub invariant-loop-part : goal.invariant-loop-part
invariant-loop-part l = list_any (names_log l.name) (map (part_of l.self-inside.bytes.items) l.part-items) ≡ list_any (names_log l.name) (map (part_of l.self-inside.bytes.items) (drop l.part-index l.part-items))
