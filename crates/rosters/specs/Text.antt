-- Text: the one text of a roster.
use Rattle.std.specs.Prelude.{◌≡◌, ℕ, ◌<◌, ◌≤◌, ◌^◌, List, [], ◌∷◌, ◌++◌, length, map, codes}
use Rattle.std.specs.Fmt.{decimal}
use Rattle.hex.specs.Hex.{IsBytes, encode_lower}
use Rattle.definitions.specs.Lists.{EachIs}
use Rattle.text_lines.specs.Lines.{joined, line_of}
use Rattle.rosters.specs.declared.roster.Link.{Link}
use Rattle.rosters.specs.Addrs.{Addr}
use Rattle.rosters.specs.Rosters.{LinksOthers, Neighbours}
use Rattle.rosters.specs.Fields.{dot, line_end, space}

-- numbers parted by dots, in front of what stands behind them
abbrev pub dotted : List ℕ → List ℕ → List ℕ
dotted [] rest = rest
dotted (a ∷ []) rest = decimal a ++ rest
dotted (a ∷ b ∷ bs) rest = decimal a ++ (dot ∷ dotted (b ∷ bs) rest)

-- `A.B.C.D PORT` in front of what stands behind it
abbrev pub addr_text : Addr → List ℕ → List ℕ
addr_text addr rest = dotted addr.ip (space ∷ (decimal addr.port ++ rest))

-- `SHOWS WANTS` and the end of the line
abbrev pub passes_text : Link → List ℕ
passes_text l = encode_lower l.shows ++ (space ∷ (encode_lower l.wants ++ (line_end ∷ [])))

abbrev pub version_line : List ℕ
version_line = line_of (codes "roster") (1 ∷ [])

abbrev pub me_line : Addr → List ℕ
me_line addr = codes "me " ++ addr_text addr (line_end ∷ [])

abbrev pub link_line : Link → List ℕ
link_line l = codes "peer " ++ (decimal l.player ++ (space ∷ addr_text l.addr (space ∷ passes_text l)))

abbrev pub end_line : List ℕ
end_line = line_of (codes "end") []

abbrev pub roster_lines : Neighbours → List (List ℕ)
roster_lines r = version_line ∷ me_line r.me ∷ (map link_line r.links ++ (end_line ∷ []))

unfoldable pub roster_text : Neighbours → List ℕ
roster_text r = joined (roster_lines r)

-- four numbers below 256, and a port from 1 to 65535
pub record FitsAddr (addr : Addr) : Type 0 where
  pub count : length addr.ip ≡ 4
  pub bytes : IsBytes addr.ip
  pub port : (1 ≤ addr.port) × (addr.port < 2 ^ 16)

-- a pass of 16 bytes
abbrev pub FitsPass : List ℕ → Type 0
FitsPass pass = (length pass ≡ 16) × IsBytes pass

-- a link whose parts fit their fields
pub record FitsLink (l : Link) : Type 0 where
  pub player : l.player < 256
  pub addr : FitsAddr l.addr
  pub shows : FitsPass l.shows
  pub wants : FitsPass l.wants

-- a roster of me among so many players, with a link to each other one, rising
pub record IsRoster (me players : ℕ) (r : Neighbours) : Type 0 where
  pub own : FitsAddr r.me
  pub numbers : LinksOthers me players r
  pub links : EachIs FitsLink r.links

-- such a roster, and its text
pub record IsReadFrom (me players : ℕ) (r : Neighbours) (text : List ℕ) : Type 0 where
  pub roster : IsRoster me players r
  pub text_is : text ≡ roster_text r
