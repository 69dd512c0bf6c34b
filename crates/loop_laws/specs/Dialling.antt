-- Dialling: which items dial a player, and what has to come between two of them.
use Rattle.std.specs.Prelude.{◌≡◌, ◌<◌, ℕ, IsTrue}
use Rattle.definition_laws.specs.Members.{Has}
use Rattle.rosters.specs.declared.roster.Link.{Link}
use Rattle.socket_station.specs.declared.answers.Addr.{Addr}
use Rattle.socket_station.specs.Items.{Item, DialCall, Dialled, Polled, Failed}
use Rattle.loop_rules.specs.Settings.{Setting}
use Rattle.peer_rules.specs.Addresses.{addr_eq, told_addr}

-- the player was dialled, or that failed
abbrev pub IsDialFor : (q : ℕ) → Item → Type 0
IsDialFor q (Dialled m p addr) = p ≡ q
IsDialFor q (Failed (DialCall p addr)) = p ≡ q
IsDialFor q _ = ⊥

-- a poll was made
abbrev pub IsPoll : Item → Type 0
IsPoll (Polled list) = Unit {0}
IsPoll _ = ⊥

-- the roster has the player at this address, and it is one above the own one
abbrev pub IsToBeDialled : Setting → (q : ℕ) → Addr → Type 0
IsToBeDialled s q addr = (link : Link) × Has s.roster.links link × (link.player ≡ q) × (s.me < q) ×
    IsTrue (addr_eq addr (told_addr link.addr))
