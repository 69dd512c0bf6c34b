-- Rows: how the sockets of a station stand, each by its number.
use Rattle.std.specs.Prelude.{◌≡◌, ℕ, ◌+◌, ◌==◌, List, [], ◌∷◌, ◌++◌, Option, Some, None, find, map, take, drop, slice_get, if◌then◌else◌}
use Rattle.socket_station.specs.declared.answers.Addr.{Addr}
use Rattle.machine_host.specs.Asks.{Ask, Closed}
use Rattle.station_mio.specs.declared.rows.Row.{Row}
use Rattle.station_mio.specs.declared.rows.Row.TheVariants as R

-- how a socket stands: its number, and what is known of it
pub data Stand : Type 0 where
  -- it is to be dialled at that address, at that time
  Due : ℕ → Addr → ℕ → Stand
  -- it was dialled, and has until that time to be answered
  Dialled : ℕ → ℕ → Stand
  Up : ℕ → Stand
  -- it is over, which the next read or write tells
  Lost : ℕ → Stand

abbrev pub number_of : Stand → ℕ
number_of (Due n addr time) = n
number_of (Dialled n time) = n
number_of (Up n) = n
number_of (Lost n) = n

-- how the socket of a row stands, where a stream has this number
abbrev pub stand_of : {S : Type 0} → (S → ℕ) → Row S → Stand
stand_of number (R.Due n addr time) = Due n addr time
stand_of number (R.Dialled stream time) = Dialled (number stream) time
stand_of number (R.Up stream) = Up (number stream)
stand_of number (R.Lost n) = Lost n

abbrev pub stands_of : {S : Type 0} → (S → ℕ) → List (Row S) → List Stand
stands_of number rows = map (stand_of number) rows

-- how the socket of this number stands: the first one of this number
abbrev pub stand_in : ℕ → List Stand → Option Stand
stand_in n stands = find (λ s. number_of s == n) stands

-- that one is replaced, or gone
abbrev pub replaced : ℕ → (Stand → List Stand) → List Stand → List Stand
replaced n f [] = []
replaced n f (s ∷ stands) = if number_of s == n then f s ++ stands else s ∷ replaced n f stands

-- the others, without it
abbrev pub without : ℕ → List Stand → List Stand
without n stands = replaced n (λ s. []) stands

-- one that is ready stands
abbrev pub up : Stand → Stand
up (Dialled n time) = Up n
up s = s

abbrev pub raised : ℕ → List Stand → List Stand
raised n stands = replaced n (λ s. up s ∷ []) stands

-- the socket of this number stands at this place, and none of this number before it; or there is none
abbrev pub IsPlaceOf : ℕ → List Stand → Option ℕ → Type 0
IsPlaceOf n stands None =
    (stand_in n stands ≡ None) × ((f : Stand → List Stand) → replaced n f stands ≡ stands)
IsPlaceOf n stands (Some place) =
    (s : Stand) × (slice_get stands place ≡ Some s) × (number_of s ≡ n) × (stand_in n stands ≡ Some s) ×
    ((f : Stand → List Stand) → replaced n f stands ≡ take place stands ++ (f s ++ drop (place + 1) stands))

-- the calls by which a socket is closed that has a stream
abbrev pub closings_of : Stand → List Ask
closings_of (Due n addr time) = []
closings_of (Dialled n time) = Closed n ∷ []
closings_of (Up n) = Closed n ∷ []
closings_of (Lost n) = []

abbrev pub closings_at : Option Stand → List Ask
closings_at None = []
closings_at (Some s) = closings_of s
