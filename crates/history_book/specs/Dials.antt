-- The dials for a player.
use Rattle.std.specs.Prelude.{ℕ, ◌+◌, ◌==◌, Option, Some, None, List, if◌then◌else◌}
use Rattle.std.specs.List.{fold}
use Rattle.std.specs.Option.{option_or}
use Rattle.socket_station.specs.Items.{Item, Call, Dialled, Failed, DialCall}
use Rattle.history_book.specs.declared.dials.Dials.{Dials}
use Rattle.history_book.specs.Tallies.{short}

abbrev pub no_dials : Dials
no_dials = record { last = None; count = 0 }

-- one more dial, which gave that socket or failed
abbrev pub dialled_once : Option ℕ → Dials → Dials
dialled_once socket d = record { last = option_or socket d.last; count = short (d.count + 1) }

-- the dials for a player after a call that failed
abbrev pub dials_failed : ℕ → Dials → Call → Dials
dials_failed q d (DialCall player addr) = if player == q then dialled_once None d else d
dials_failed q d _ = d

-- the dials for a player after an item
abbrev pub dials_after : ℕ → Dials → Item → Dials
dials_after q d (Dialled s player addr) = if player == q then dialled_once (Some s) d else d
dials_after q d (Failed call) = dials_failed q d call
dials_after q d _ = d

-- the dials for a player: the last socket that was dialled for it, and how many dials were made, failed ones too
abbrev pub dials_in : ℕ → List Item → Dials
dials_in q items = fold (dials_after q) no_dials items
