-- Reading: what a roster says, line by line, and its first line at fault.
use Rattle.std.specs.Prelude.{ℕ, zero, suc, ◌+◌, List, [], ◌∷◌, ◌++◌, length, Option, Some, None, Result, Ok, Err, ◌==◌, if◌then◌else◌, nat_lt, codes}
use Rattle.byte_fields.specs.Fronts as fronts
use Rattle.byte_fields.specs.Fronts.{behind}
use Rattle.text_lines.specs.Lines.{ended_lines_of, is_bare, one_within}
use Rattle.text_lines.specs.Reading.{◌>>=◌, ends_at, fault_of, keeps, line_at}
use Rattle.text_fields.specs.declared.fault.TextFault.{TextFault}
use Rattle.text_fields.specs.declared.fault.TextFault.TheVariants.{At}
use Rattle.rosters.specs.declared.roster.Link.{Link}
use Rattle.rosters.specs.Addrs.{Addr}
use Rattle.rosters.specs.Rosters.{Neighbours}
use Rattle.rosters.specs.Fields.{addr_then, line_end, number_then, pass_then, space}

-- what was read, where nothing stands behind it
abbrev pub alone : {X : Type 0} → X × List ℕ → Option X
alone x = if length x.1 == 0 then Some x.0 else None

-- the address that the line of the own address says
unfoldable pub me_said : List ℕ → Option Addr
me_said line = fronts.◌>>=◌ (behind (codes "me ") line) (λ rest. fronts.◌>>=◌ (addr_then line_end rest) alone)

-- the link to this player that stands behind its number
unfoldable pub link_behind : (player : ℕ) → List ℕ → Option Link
link_behind player text =
    fronts.◌>>=◌ (addr_then space text) (λ addr.
    fronts.◌>>=◌ (pass_then space addr.1) (λ shows.
    fronts.◌>>=◌ (pass_then line_end shows.1) (λ wants.
    alone (record { player = player; addr = addr.0; shows = shows.0; wants = wants.0 }, wants.1))))

-- the link that a line says
unfoldable pub link_said : List ℕ → Option Link
link_said line = fronts.◌>>=◌ (behind (codes "peer ") line) (λ rest. fronts.◌>>=◌ (number_then space 255 rest) (λ player. link_behind player.0 player.1))

-- the number of the line of this player's link
abbrev pub line_number : (me q : ℕ) → ℕ
line_number me q = if nat_lt me q then q + 2 else q + 3

-- the link to this player on the next line
unfoldable pub link_at : (me q : ℕ) → List (List ℕ) → Result (Link × List (List ℕ)) TextFault
link_at me q lines = do
  link ← line_at (At (line_number me q)) link_said lines
  keeps (At (line_number me q)) (link.0.player == q) link

-- the links, and this player's behind them, unless it is me
unfoldable pub with_link : (me q : ℕ) → List Link → List (List ℕ) → Result (List Link × List (List ℕ)) TextFault
with_link me q links lines = if q == me then Ok (links, lines) else (do
  link ← link_at me q lines
  Ok (links ++ (link.0 ∷ []), link.1))

-- the links to the players below this number but me, and the lines behind them
unfoldable pub links_at : (me players : ℕ) → List (List ℕ) → Result (List Link × List (List ℕ)) TextFault
links_at me zero lines = Ok ([], lines)
links_at me (suc q) lines = do
  before ← links_at me q lines
  with_link me q before.0 before.1

-- the last line, which is line n
unfoldable pub end_at : (n : ℕ) → List (List ℕ) → Result (List ℕ) TextFault
end_at n [] = Err (At n)
end_at n (line ∷ lines) = if is_bare (codes "end") line then ends_at (At (suc n)) lines else Err (At n)

-- the roster of me among so many players that these lines say, or the first of them at fault
unfoldable pub said_by : (me players : ℕ) → List (List ℕ) → Result Neighbours TextFault
said_by me players lines = do
  version ← line_at (At 1) (one_within (codes "roster") 1 1) lines
  own ← line_at (At 2) me_said version.1
  links ← links_at me players own.1
  end ← end_at (line_number me players) links.1
  Ok (record { me = own.0; links = links.0 })

-- the roster that a text says, or its first line at fault
abbrev pub roster_at : (me players : ℕ) → List ℕ → Result Neighbours TextFault
roster_at me players text = said_by me players (ended_lines_of text)

-- the first line of a text that is at fault
abbrev pub roster_fault : (me players : ℕ) → List ℕ → Option TextFault
roster_fault me players text = fault_of (roster_at me players text)
