-- Untouched: which items leave the number 0 as it was.
use Rattle.std.proofs.Common.{◌≡◌, ℕ, List, [], ◌∷◌, ◌++◌}
use Rattle.socket_station.specs.declared.answers.Addr.{Addr}
use Rattle.socket_station.specs.declared.answers.Did.{Did}
use Rattle.socket_station.specs.declared.answers.Did.TheVariants.{Done, Failed as DidFailed}
use Rattle.socket_station.specs.Items.{Item, Listening, LogBegun, DialCall, Failed, Polled, Took, Gave, ReadNotYet, WriteNotYet, Synced, keep_item}
use Rattle.socket_station.specs.Standings.{standing_in}
use Rattle.socket_station.proofs.Histories.{standing-more}

pub listening : (items : List Item) (addr : Addr) → standing_in (items ++ Listening addr ∷ []) 0 ≡ standing_in items 0
listening items addr = standing-more items (Listening addr) 0

pub log_begun : (items : List Item) (name : List ℕ) → standing_in (items ++ LogBegun name ∷ []) 0 ≡ standing_in items 0
log_begun items name = standing-more items (LogBegun name) 0

pub not_dialled : (items : List Item) (player : ℕ) (addr : Addr) → standing_in (items ++ Failed (DialCall player addr) ∷ []) 0 ≡ standing_in items 0
not_dialled items player addr = standing-more items (Failed (DialCall player addr)) 0

pub nothing_listed : (items : List Item) → standing_in (items ++ Polled [] ∷ []) 0 ≡ standing_in items 0
nothing_listed items = standing-more items (Polled []) 0

pub took : (items : List Item) (s : ℕ) (bytes : List ℕ) → standing_in (items ++ Took s bytes ∷ []) 0 ≡ standing_in items 0
took items s bytes = standing-more items (Took s bytes) 0

pub read_none : (items : List Item) (s : ℕ) → standing_in (items ++ ReadNotYet s ∷ []) 0 ≡ standing_in items 0
read_none items s = standing-more items (ReadNotYet s) 0

pub gave : (items : List Item) (s : ℕ) (bytes : List ℕ) → standing_in (items ++ Gave s bytes ∷ []) 0 ≡ standing_in items 0
gave items s bytes = standing-more items (Gave s bytes) 0

pub wrote_none : (items : List Item) (s : ℕ) → standing_in (items ++ WriteNotYet s ∷ []) 0 ≡ standing_in items 0
wrote_none items s = standing-more items (WriteNotYet s) 0

pub kept : (items : List Item) (did : Did) (bytes : List ℕ) → standing_in (items ++ keep_item did bytes ∷ []) 0 ≡ standing_in items 0
kept items Done bytes = standing-more items (keep_item Done bytes) 0
kept items DidFailed bytes = standing-more items (keep_item DidFailed bytes) 0

pub synced : (items : List Item) → standing_in (items ++ Synced ∷ []) 0 ≡ standing_in items 0
synced items = standing-more items Synced 0

pub ruleset still_new = (listening, log_begun, not_dialled, nothing_listed, took, read_none, gave, wrote_none, kept, synced)
