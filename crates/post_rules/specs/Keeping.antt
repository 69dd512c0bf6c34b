-- Keeping: which entry may be kept next, and what is shown after it.
use Rattle.std.specs.Prelude.{ℕ, Bool, true, false, ◌&&◌, List, [], ◌∷◌, ◌++◌, drop, Option, Some, None}
use Rattle.std.specs.Str.{bytes_eq}
use Rattle.definitions.specs.World.{Game}
use Rattle.definitions.specs.declared.logs.Entry.{Entry}
use Rattle.definitions.specs.declared.logs.Entry.TheVariants.{Chose, Made, Got}
use Rattle.session_log.specs.Writing.{written}
use Rattle.session_log.specs.Writing as W
use Rattle.peer_rules.specs.declared.arrivals.Arrival.{Arrival}
use Rattle.peer_rules.specs.Entries.{entry_in, is_first}
use Rattle.peer_rules.specs.Order.{comes_next}
use Rattle.post_rules.specs.Views.{View}
use Rattle.post_rules.specs.Handling.{still_new}

-- a frame that came is logged where it is the first that waits and is new
abbrev pub is_its_turn : Game → (me : ℕ) → List Entry → List Arrival → Entry → Bool
is_its_turn game me h waiting (Got q f) = is_first (still_new game me h waiting) q f
is_its_turn game me h waiting (Chose t m n) = true
is_its_turn game me h waiting (Made f) = true

-- the entry may be logged next
abbrev pub may_log : Game → (me : ℕ) → List Entry → List Arrival → Entry → Bool
may_log game me h waiting e = comes_next game me h e && is_its_turn game me h waiting e

-- the frames that wait after it was logged
abbrev pub waiting_after : Game → (me : ℕ) → List Entry → List Arrival → Entry → List Arrival
waiting_after game me h waiting (Got q f) = drop 1 (still_new game me h waiting)
waiting_after game me h waiting (Chose t m n) = waiting
waiting_after game me h waiting (Made f) = waiting

-- the bytes are those of this entry, which may be logged next
abbrev pub may_keep_as : View → List ℕ → Option Entry → Bool
may_keep_as v bytes None = false
may_keep_as v bytes (Some e) = bytes_eq bytes (written v.writer e) && may_log v.setting.game v.setting.me v.kept v.waiting e

-- the bytes are those of an entry that may be logged next
abbrev pub spells_next : View → List ℕ → Bool
spells_next v bytes = may_keep_as v bytes (entry_in v.writer bytes)

-- what is shown after this entry was kept
abbrev pub with_entry : Entry → View → View
with_entry e v = record v { kept = v.kept ++ e ∷ []; writer = W.after v.writer e; waiting = waiting_after v.setting.game v.setting.me v.kept v.waiting e }

-- the same, where the bytes spell an entry
abbrev pub kept_entry : View → Option Entry → View
kept_entry v None = v
kept_entry v (Some e) = with_entry e v

-- what is shown after these bytes were kept
abbrev pub kept_on : View → List ℕ → View
kept_on v bytes = kept_entry v (entry_in v.writer bytes)
