-- HeldPosts: what a post in memory is seen as.
use Rattle.std.specs.Prelude.{ℕ, ◌≡◌, ◌+◌, ◌≤◌, ◌<◌, ◌^◌, Bool, true, false, List, [], ◌∷◌, ◌++◌, length, vec_capacity}
use Rattle.std.specs.List.{list_any}
use Rattle.datagram_post.specs.Items.{Item, LogBegun}
use Rattle.datagram_post.specs.Moved.{given_in, kept_in}
use Rattle.memory_post.specs.declared.memory.MemoryPost.TheInside.{Inside}
use Rattle.memory_post.specs.Ledgers.{HeldLedger, new_ledger, goes, charged, long}

-- a post in memory
pub record HeldPost : Type 0 where
  -- what was answered
  pub history : List Item
  -- for how many items it was made
  pub events : ℕ
  -- the room that is left, and which calls are to fail
  pub ledger : HeldLedger
  -- what came and was not taken
  pub unread : List (List ℕ)

-- a post with so much room, on which nothing was called
abbrev pub new_post : (events bytes : ℕ) → HeldPost
new_post events bytes = record { history = []; events = events; ledger = new_ledger events bytes; unread = [] }

-- whether a call that tells so many bytes goes on
abbrev pub goes_on : HeldPost → ℕ → Bool
goes_on p size = goes size p.ledger

-- the post after a call that told this item, of so many bytes
abbrev pub called : Item → ℕ → HeldPost → HeldPost
called item size p = record p { history = p.history ++ item ∷ []; ledger = charged size p.ledger }

-- whether an item begins a log
abbrev pub begins : Item → Bool
begins (LogBegun name) = true
begins _ = false

-- whether a log was begun
abbrev pub is_begun : List Item → Bool
is_begun items = list_any begins items

-- What stands in memory is what the history says, and the room that is left was taken at the
-- start.
pub record IsPost (b : Inside) : Type 0 where
  pub calls : b.ledger.calls ≡ long (length b.notes)
  pub mails : b.mails.all ≡ given_in b.notes
  pub kept : b.kept.items ≡ kept_in b.notes
  pub begun : b.begun ≡ is_begun b.notes
  pub told : length b.mails.all + b.ledger.items ≤ b.events
  pub few : b.events < 2 ^ 32
  pub mail_items : b.ledger.items ≤ b.mails.items
  pub mail_bytes : b.ledger.bytes ≤ b.mails.bytes
  pub kept_bytes : b.ledger.bytes + length b.kept.items ≤ vec_capacity b.kept
