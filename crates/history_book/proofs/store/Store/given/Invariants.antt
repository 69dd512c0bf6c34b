use Rattle.std.proofs.Common.{◌≡◌, ◌-◌, length, map, take, drop}
use Rattle.history_book.specs.Stores.{part_of, given_parts}
use Rattle.history_book.proofs.Givings.{Copied}
use Rattle.history_book.proofs.store.Store.given.Given as goal

abbrev pub invariant-loop-part : goal.invariant-loop-part
invariant-loop-part l = record {
  skip : l.skip ≡ l.at - length (given_parts l.socket (map (part_of l.self-inside.bytes.items) (take l.part-index l.part-items)));
  copied : Copied l.fn.out l.out l.done (drop l.at (given_parts l.socket (map (part_of l.self-inside.bytes.items) (take l.part-index l.part-items))));
}
