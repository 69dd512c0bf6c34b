use Rattle.std.proofs.Common.{◌≡◌, drop, map}
use Rattle.std.specs.List.{list_any}
use Rattle.std.specs.Str.{bytes_eq}
use Rattle.worked_cases.proofs.files.is_among.Given as goal

abbrev pub invariant-loop-own : goal.invariant-loop-own
invariant-loop-own l = list_any (bytes_eq l.name) (map (λ own. own.items) l.names) ≡ list_any (bytes_eq l.name) (map (λ own. own.items) (drop l.own-index l.names))
