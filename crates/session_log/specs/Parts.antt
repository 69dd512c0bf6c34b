-- Parts: what is kept of an entry begun, and the bytes for which it stands.
use Rattle.std.specs.Prelude.{◌≡◌, ℕ, ◌+◌, ◌-◌, ◌<◌, ◌≤◌, List, [], ◌++◌, true, false, length, take}
use Rattle.sha2.specs.Hashers.{Holds256}
use Rattle.session_log.specs.declared.part.Part.{Part}
use Rattle.session_log.specs.Entries.{told_len}

-- this is the text so far: its first 64 bytes are kept, and it was hashed behind what the entry is chained to
pub record HoldsText (p : Part) (chain text : List ℕ) : Type 0 where
  pub len : p.text_len ≡ length text
  pub kept : take p.text_len p.kept ≡ take 64 text
  pub hashed : Holds256 p.hasher (chain ++ text)

-- these are the bytes of the entry begun: those of the text, and behind a whole text those of the digest
pub record HoldsBegun (p : Part) (chain held : List ℕ) : Type 0 where
  pub text : List ℕ
  pub digest : List ℕ
  pub all : held ≡ text ++ digest
  pub of_text : HoldsText p chain text
  pub of_digest : take p.digest_len p.digest ≡ digest
  pub digest_len : p.digest_len ≡ length digest
  pub within : length text ≤ told_len text + 3
  pub ended : 0 < length digest → length text ≡ told_len text + 3

-- nothing came of an entry that is chained to the digest
pub record IsFresh (p : Part) (chain held : List ℕ) : Type 0 where
  pub chained : p.digest ≡ chain
  pub none : held ≡ []
  pub text_len : p.text_len ≡ 0
  pub digest_len : p.digest_len ≡ 0

-- these are the bytes so far of the entry that is chained to the first ones
pub record HoldsPart (p : Part) (chain held : List ℕ) : Type 0 where
  pub fresh : p.fresh ≡ true → IsFresh p chain held
  pub begun : p.fresh ≡ false → HoldsBegun p chain held

-- how many bytes the entry lacks that begins with these, if those that follow are these
abbrev pub lacked : List ℕ → List ℕ → ℕ
lacked held bytes = told_len (held ++ bytes) + 35 - length held
