-- Addresses: an address of a roster, as the outside is told it.
use Rattle.std.specs.Prelude.{Bool, ◌&&◌, ◌==◌}
use Rattle.std.specs.Str.{bytes_eq}
use Rattle.rosters.specs.declared.addr.Addr.{Addr as RosterAddr}
use Rattle.socket_station.specs.declared.answers.Addr.{Addr}

-- the address of a roster as a station or a post is told it
abbrev pub told_addr : RosterAddr → Addr
told_addr a = record { ip = a.ip; port = a.port }

-- both are one address
abbrev pub addr_eq : Addr → Addr → Bool
addr_eq a b = bytes_eq a.ip b.ip && (a.port == b.port)
