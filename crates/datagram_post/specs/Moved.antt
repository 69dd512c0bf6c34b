-- Moved: which datagrams a history took and gave, and which bytes it kept.
use Rattle.std.specs.Prelude.{ℕ, List, [], ◌∷◌}
use Rattle.std.specs.List.{flat_map}
use Rattle.socket_station.specs.declared.answers.Addr.{Addr}
use Rattle.datagram_post.specs.Items.{Item, Took, Gave, Kept}

-- a datagram that went out
pub record Mail : Type 0 where
  pub to : Addr
  pub bytes : List ℕ

-- the bytes that an item kept
abbrev pub kept_at : Item → List ℕ
kept_at (Kept bytes) = bytes
kept_at _ = []

-- the datagram that an item gave
abbrev pub gave_at : Item → List Mail
gave_at (Gave addr bytes) = record { to = addr; bytes = bytes } ∷ []
gave_at _ = []

-- the bytes of the datagram that an item took
abbrev pub took_at : Item → List (List ℕ)
took_at (Took bytes) = bytes ∷ []
took_at _ = []

-- the bytes kept
abbrev pub kept_in : List Item → List ℕ
kept_in items = flat_map kept_at items

-- the datagrams given, the first one first
abbrev pub given_in : List Item → List Mail
given_in items = flat_map gave_at items

-- the bytes of the datagrams taken, the first one first
abbrev pub taken_in : List Item → List (List ℕ)
taken_in items = flat_map took_at items
