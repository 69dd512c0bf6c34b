-- Cutting: a peer that goes back to the first entries of its log.
use Rattle.std.specs.Prelude.{ℕ, Bool, ◌&&◌, List, length, take, drop, nat_le, if◌then◌else◌}
use Rattle.definitions.specs.declared.logs.Entry.{Entry}
use Rattle.definitions.specs.Steps.{has_no_made}
use Rattle.peer_core.specs.declared.cutting.Cut.{Cut}
use Rattle.peer_core.specs.declared.cutting.Cut.TheVariants.{Done, BadCut}

-- the log has so many entries, and no frame that its owner made stands behind them
abbrev pub may_cut : List Entry → ℕ → Bool
may_cut h keep = nat_le keep (length h) && has_no_made (drop keep h)

-- what becomes of the cut
abbrev pub cut_answer : List Entry → ℕ → Cut
cut_answer h keep = if may_cut h keep then Done else BadCut

-- the log behind it
abbrev pub entries_kept : List Entry → ℕ → List Entry
entries_kept h keep = if may_cut h keep then take keep h else h
