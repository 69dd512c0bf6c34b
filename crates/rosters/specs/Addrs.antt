-- Addrs: the type of addresses, by one name for all files here.
pub use Rattle.rosters.specs.declared.addr.Addr.{Addr}
