-- Images: what a crash may leave of a log.
use Rattle.std.specs.Prelude.{ℕ, zero, suc, ◌+◌, Bool, false, not, ◌&&◌, ◌==◌, nat_le, List, [], ◌∷◌, ◌++◌, Option, Some, None, length, take, drop, if◌then◌else◌, IsTrue}
use Rattle.std.specs.List.{flat_map}
use Rattle.std.specs.Str.{bytes_eq}
use Rattle.definitions.specs.declared.limits.TheConstants.{LONGEST_LOG}
use Rattle.session_log.specs.Spelling.{chained, first_chain}
use Rattle.session_log.specs.Entries.{told_len}
use Rattle.socket_station.specs.Items.{Item, Kept, Failed, KeepCall}
use Rattle.socket_station.specs.Moved.{synced_in}
use Rattle.loop_rules.specs.Settings.{Setting}

-- the bytes kept up to the last sync, followed by any bytes, and in all no more than a log may have
abbrev pub is_image : List Item → (image : List ℕ) → Bool
is_image items image = bytes_eq (take (length (synced_in items)) image) (synced_in items) && nat_le (length image) LONGEST_LOG

abbrev pub IsImage : List Item → (image : List ℕ) → Type 0
IsImage items image = IsTrue (is_image items image)

-- the bytes that an item handed to `keep`, whether it failed or not
abbrev pub handed_by : Item → List ℕ
handed_by (Kept bytes) = bytes
handed_by (Failed (KeepCall bytes)) = bytes
handed_by _ = []

abbrev pub handed_next : Option Item → List ℕ
handed_next None = []
handed_next (Some item) = handed_by item

-- all bytes handed to `keep` behind these items; the stop may fall within the call of the next one
abbrev pub handed_in : List Item → (next : Option Item) → List ℕ
handed_in items next = flat_map handed_by items ++ handed_next next

-- how many bytes the entry has at the front, by its length
abbrev pub entry_len : List ℕ → ℕ
entry_len bytes = told_len bytes + 35

-- an entry stands whole at the front
abbrev pub has_whole : List ℕ → Bool
has_whole bytes = nat_le 2 (length bytes) && nat_le (entry_len bytes) (length bytes)

-- the entry at the front ends with the digest that belongs behind this one
abbrev pub is_chained : (chain bytes : List ℕ) → Bool
is_chained chain bytes =
    bytes_eq (take 32 (drop (told_len bytes + 3) bytes)) (chained chain (take (told_len bytes + 3) bytes))

-- behind entries that are alike in both, and the digest of the last of them: the first entry of the image that is another one is whole
-- and chained as it should be; among so many entries at most
abbrev pub lucky_behind : (most : ℕ) → (chain handed image : List ℕ) → Bool
lucky_behind zero chain handed image = false
lucky_behind (suc most) chain handed image =
    if not (has_whole image) then false
    else if bytes_eq (take (entry_len image) image) (take (entry_len image) handed)
    then lucky_behind most (take 32 (drop (told_len image + 3) image)) (drop (entry_len image) handed) (drop (entry_len image) image)
    else is_chained chain image

-- the same from the owner's byte on: where that is another one, the first entry is
abbrev pub lucky_from : (id handed image : List ℕ) → Bool
lucky_from id handed [] = false
lucky_from id [] (owner ∷ image) = has_whole image && is_chained (first_chain id owner) image
lucky_from id (b ∷ handed) (owner ∷ image) =
    if b == owner then lucky_behind (length image) (first_chain id owner) handed image
    else has_whole image && is_chained (first_chain id owner) image

-- The image has a lucky tail: bytes that were never handed to `keep` and that read as an entry all the same. A crash is taken to leave none:
-- who makes such bytes by chance has found what SHA-256 is believed to hide, and a log is begun as a new file, in which nothing stands of an
-- older one that began alike.
abbrev pub has_lucky_tail : Setting → (handed image : List ℕ) → Bool
has_lucky_tail s handed image = lucky_from s.game.id handed image
