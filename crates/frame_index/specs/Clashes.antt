-- Clashes: a table of reveals by their digests.
use Rattle.std.specs.Prelude.{◌≡◌, true, false, ℕ, List, Option, Some}
use Rattle.std.specs.Ordering.{nat_cmp}
use Rattle.std.specs.Cmp.Lexicographic.{slice_cmp}
use Rattle.std.specs.BTreeMap.{BTreeMap, get}
use Rattle.definitions.specs.declared.frames.TurnFrame.{TurnFrame}
use Rattle.definitions.specs.declared.openings.Digest.{Digest}
use Rattle.definitions.specs.Logs.{digest_eq}
use Rattle.definitions.specs.Findings.{is_commit}
use Rattle.definition_laws.specs.Members.{Has}
use Rattle.frame_index.specs.declared.seen.Seen.{Seen}

-- what a table of reveals has under each digest
abbrev pub Table : Type 0
Table = Digest → Option TurnFrame

-- by a map over the digests' bytes
abbrev pub look : BTreeMap (List ℕ) TurnFrame → Table
look table d = get (slice_cmp nat_cmp) table d.bytes

-- a reveal stands in the table under its digest
abbrev pub InTable : Table → Seen → Type 0
InTable table k = is_commit k.frame ≡ false → table k.digest ≡ Some k.frame

-- this one does, and all that did before
abbrev pub IsNoted : Table → Table → Seen → Type 0
IsNoted old new one = InTable new one × ((k : Seen) → InTable old k → InTable new k)

-- no two different reveals have one digest
abbrev pub AreApart : List Seen → Type 0
AreApart seen = (k l : Seen) → Has seen k → Has seen l → is_commit k.frame ≡ false → is_commit l.frame ≡ false → digest_eq k.digest l.digest ≡ true → k.frame ≡ l.frame

-- another reveal stands in the table under the digest of this one
abbrev pub IsClash : Table → Seen → Type 0
IsClash table one = (is_commit one.frame ≡ false) × (f : TurnFrame) × (table one.digest ≡ Some f) × (f ≡ one.frame → ⊥)

-- what stands in the table is of these reveals
abbrev pub IsFrom : List Seen → Table → Type 0
IsFrom seen table = (d : Digest) (f : TurnFrame) → table d ≡ Some f → (k : Seen) × Has seen k × (is_commit k.frame ≡ false) × (k.digest ≡ d) × (k.frame ≡ f)

-- two different reveals have one digest
abbrev pub HaveClash : List Seen → Type 0
HaveClash seen = (k : Seen) × (l : Seen) × Has seen k × Has seen l × (is_commit k.frame ≡ false) × (is_commit l.frame ≡ false) × (k.digest ≡ l.digest) × (k.frame ≡ l.frame → ⊥)
