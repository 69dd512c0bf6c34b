-- Kinds: how the kinds of findings are named in texts.
use Rattle.std.specs.Prelude.{ℕ, List, codes}
use Rattle.definitions.specs.declared.findings.Kind.{Kind}
use Rattle.definitions.specs.declared.findings.Kind.TheVariants.{TwoCommits, BadOpening, Collision, Illegal}

-- the name of a kind of finding
abbrev pub kind_name : Kind → List ℕ
kind_name TwoCommits = codes "two-commits"
kind_name BadOpening = codes "bad-opening"
kind_name Collision = codes "collision"
kind_name Illegal = codes "illegal"
