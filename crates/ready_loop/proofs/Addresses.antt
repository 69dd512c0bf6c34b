-- Addresses: each is the same as itself.
use Rattle.std.proofs.Common.{◌≡◌, true, refl}
use Rattle.std.proofs.lemmas.Bool.{eq-eqb, and_from}
use Rattle.std.proofs.lemmas.Slice.Eq.{bytes_eq-Decides}
use Rattle.socket_station.specs.declared.answers.Addr.{Addr}
use Rattle.peer_rules.specs.Addresses.{addr_eq}

pub same_addr : (a : Addr) → addr_eq a a ≡ true
same_addr a = and_from _ _ ((bytes_eq-Decides a.ip a.ip).1 refl) (eq-eqb a.port a.port refl)
