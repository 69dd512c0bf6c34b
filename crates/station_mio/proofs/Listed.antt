-- Listed: what one more item of a list opens.
use Rattle.std.proofs.Common.{◌+◌, ℕ, List, [], ◌∷◌, ◌++◌, arith}
use Rattle.socket_station.specs.declared.answers.Ready.{Ready}
use Rattle.socket_station.specs.declared.answers.Ready.TheVariants.{Opened, Socket as Seems}
use Rattle.station_mio.specs.Numbers.{OpensBetween}

-- a socket that seems ready opens nothing
pub seems-listed : (list : List Ready) (n first last : ℕ) → OpensBetween first last list → OpensBetween first last (list ++ Seems n ∷ [])
seems-listed [] n first last h = h
seems-listed (Opened s ∷ more) n first last h = (h.0, seems-listed more n (s + 1) last h.1)
seems-listed (Seems s ∷ more) n first last h = seems-listed more n first last h

-- the next number is opened
pub opened-listed : (list : List Ready) (first last : ℕ) → OpensBetween first last list → OpensBetween first (last + 1) (list ++ Opened last ∷ [])
opened-listed [] first last h = (h, omega arith)
opened-listed (Opened s ∷ more) first last h = (h.0, opened-listed more (s + 1) last h.1)
opened-listed (Seems s ∷ more) first last h = opened-listed more first last h
