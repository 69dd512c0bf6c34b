-- How socket numbers stand, by the history.
use Rattle.std.specs.Prelude.{◌≡◌, ℕ, ◌==◌, Bool, false, ◌||◌, List, [], ◌∷◌, if◌then◌else◌}
use Rattle.std.specs.List.{fold}
use Rattle.socket_station.specs.declared.answers.Ready.{Ready}
use Rattle.socket_station.specs.declared.answers.Ready.TheVariants.{Opened, Socket as Seems}
use Rattle.socket_station.specs.declared.answers.Standing.{Standing}
use Rattle.socket_station.specs.declared.answers.Standing.TheVariants.{Fresh, Open, Closed}
use Rattle.socket_station.specs.Items.{Item, Call, Dialled, Polled, Ended, Shut, Failed, ReadCall, WriteCall}

-- whether a list opens a socket
abbrev pub opens : List Ready → ℕ → Bool
opens [] n = false
opens (Opened s ∷ more) n = (s == n) || opens more n
opens (Seems s ∷ more) n = opens more n

-- how a number stands after a call that failed: a read or a write closes its socket
abbrev pub standing_failed : Call → ℕ → Standing → Standing
standing_failed (ReadCall s) n old = if s == n then Closed else old
standing_failed (WriteCall s) n old = if s == n then Closed else old
standing_failed _ n old = old

-- how a number stands after an item
abbrev pub standing_after : ℕ → Standing → Item → Standing
standing_after n old (Dialled s player addr) = if s == n then Open else old
standing_after n old (Polled list) = if opens list n then Open else old
standing_after n old (Ended s) = if s == n then Closed else old
standing_after n old (Shut s) = if s == n then Closed else old
standing_after n old (Failed call) = standing_failed call n old
standing_after n old _ = old

-- how a number stands behind these items
abbrev pub standing_in : List Item → ℕ → Standing
standing_in items n = fold (standing_after n) Fresh items

-- The numbers that a list opens differ, and were never used.
abbrev pub AreNew : (ℕ → Standing) → List Ready → Type 0
AreNew standing [] = Unit {0}
AreNew standing (Opened s ∷ more) = (standing s ≡ Fresh) × (opens more s ≡ false) × AreNew standing more
AreNew standing (Seems s ∷ more) = AreNew standing more

-- The sockets that an item opens are new behind these items.
abbrev pub OpensNew : List Item → Item → Type 0
OpensNew items (Dialled s player addr) = standing_in items s ≡ Fresh
OpensNew items (Polled list) = AreNew (standing_in items) list
OpensNew items _ = Unit {0}
