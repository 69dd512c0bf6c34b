-- Openings: the bytes that a commitment is the digest of.
use Rattle.std.specs.Prelude.{ℕ, ◌<◌, ◌^◌, List, [], ◌∷◌, ◌++◌, Option, Some, None}
use Rattle.std.specs.Int.{w16, w32, to_be_bytes}
use Rattle.sha2.specs.Sha256.{sha256}
use Rattle.definitions.specs.declared.world.Cell.{Cell}
use Rattle.definitions.specs.declared.world.Move.{Move}
use Rattle.definitions.specs.declared.openings.Digest.{Digest}
use Rattle.definitions.specs.declared.openings.Opening.{Opening}

-- a cell's four bytes
unfoldable pub cell_bytes : Cell → List ℕ
cell_bytes c = to_be_bytes w16 c.x ++ to_be_bytes w16 c.y

-- the flag, and the strike where there is one
abbrev pub strike_bytes : Option Cell → List ℕ
strike_bytes None = 0 ∷ []
strike_bytes (Some c) = 1 ∷ cell_bytes c

-- a move's five or nine bytes
unfoldable pub move_bytes : Move → List ℕ
move_bytes mv = cell_bytes mv.to ++ strike_bytes mv.strike

-- the bytes of an opening in the session with this id
unfoldable pub opening : List ℕ → Opening → List ℕ
opening id o = id ++ (o.player ∷ (to_be_bytes w32 o.turn ++ (move_bytes o.mv ++ o.nonce.bytes)))

-- the commitment to an opening
unfoldable pub commitment : List ℕ → Opening → Digest
commitment id o = record { bytes = sha256 (opening id o) }

-- a cell whose coordinates fit two bytes
abbrev pub FitsCell : Cell → Type 0
FitsCell c = (c.x < 2 ^ 16) × (c.y < 2 ^ 16)

-- a strike, where there is one, whose coordinates fit
abbrev pub FitsStrike : Option Cell → Type 0
FitsStrike None = Unit {0}
FitsStrike (Some c) = FitsCell c

-- an opening whose turn and cells fit their fields
pub record FitsOpening (o : Opening) : Type 0 where
  pub turn : o.turn < 2 ^ 32
  pub to : FitsCell o.mv.to
  pub strike : FitsStrike o.mv.strike
