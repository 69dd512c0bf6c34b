-- HeldMails: the datagrams that were given, as they stand in memory.
use Rattle.std.specs.Prelude.{ℕ, ◌+◌, ◌≤◌, List, [], ◌∷◌, take, drop}
use Rattle.datagram_post.specs.Moved.{Mail}
use Rattle.memory_post.specs.declared.mails.Part.{Part}

-- datagrams, and how many more of them with how many bytes have room
pub record HeldMails : Type 0 where
  pub all : List Mail
  pub items : ℕ
  pub bytes : ℕ

-- the datagram of a part, whose bytes stand among all bytes
abbrev pub mail_of : List ℕ → Part → Mail
mail_of bytes p = record { to = p.to; bytes = take p.len (drop p.at bytes) }

-- Each part stands among so many bytes.
abbrev pub AreWithin : ℕ → List Part → Type 0
AreWithin n [] = Unit {0}
AreWithin n (p ∷ parts) = (p.at + p.len ≤ n) × AreWithin n parts
