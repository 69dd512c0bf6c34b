use Rattle.std.proofs.Common.{◌≡◌, map}
use Rattle.station.specs.Files.{NamesDiffer}
use Rattle.worked_cases.proofs.files.shelved.Given as goal

abbrev pub invariant-files : goal.invariant-files
invariant-files l = NamesDiffer l.files.items × (map (λ f. f.name) l.files.items ≡ map (λ n. n.items) l.names.items)
