-- Hearers: the peer as who hears on the sockets of its table.
use Rattle.definitions.specs.Held.{next_place}
use Rattle.peer_core.specs.Views.{PeerState}
use Rattle.loop_rules.specs.Hearing.{Hearer}

-- the peer's session, and the next places that its log shows
abbrev pub hearer_by : PeerState → Hearer
hearer_by p = record { id = p.game.id; next = next_place p.game p.me p.entries }
