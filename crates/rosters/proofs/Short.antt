-- Short: the text of a roster has fewer bytes than decide what a file says.
use Rattle.std.proofs.Common.{◌≡◌, ℕ, zero, suc, ◌+◌, ◌*◌, ◌^◌, ◌<◌, ◌≤◌, Bool, true, false, List, [], ◌∷◌, ◌++◌, length, length-append, map, sym, ap, ◌∙◌, arith}
use Rattle.std.specs.Prelude.{◌==◌, if◌then◌else◌}
use Rattle.std.specs.Fmt.{decimal}
use Rattle.std.proofs.lemmas.Fmt.{length-decimal-le}
use Rattle.std.proofs.lemmas.List.{length-map}
use Rattle.hex.specs.Hex.{IsBytes, encode_lower, lower_digits}
use Rattle.hex.proofs.HexLemmas.{length-encode_with}
use Rattle.definitions.specs.declared.limits.TheConstants.{MOST_PLAYERS}
use Rattle.definitions.specs.Lists.{EachIs}
use Rattle.text_lines.specs.Lines.{joined}
use Rattle.rosters.specs.declared.roster.Link.{Link}
use Rattle.rosters.specs.declared.limits.TheConstants.{ROSTER_FRONT}
use Rattle.rosters.specs.Addrs.{Addr}
use Rattle.rosters.specs.Rosters.{Neighbours, others, unless_me}
use Rattle.rosters.specs.Fields.{dot, line_end, space}
use Rattle.rosters.specs.Text.{FitsAddr, FitsLink, FitsPass, IsReadFrom, addr_text, dotted, end_line, link_line, me_line, passes_text, roster_text, version_line}

number_short : (n : ℕ) (rest : List ℕ) → n < 2 ^ 32 → length (decimal n ++ rest) ≤ 10 + length rest
number_short n rest small =
    let digits = length-decimal-le 10 n (omega arith) (omega arith) (omega arith) in
    let both = length-append (decimal n) rest in
    omega arith

dotted_short : (ip rest : List ℕ) → IsBytes ip → length (dotted ip rest) ≤ 11 * length ip + length rest
dotted_short [] rest bytes = omega arith
dotted_short (a ∷ []) rest bytes = let x : a < 256 = bytes 0 in let one = number_short a rest (omega arith) in omega arith
dotted_short (a ∷ b ∷ bs) rest bytes =
    let x : a < 256 = bytes 0 in
    let one = number_short a (dot ∷ dotted (b ∷ bs) rest) (omega arith) in
    let ih = dotted_short (b ∷ bs) rest (λ i. bytes (suc i)) in
    omega arith

addr_short : (addr : Addr) (rest : List ℕ) → FitsAddr addr → length (addr_text addr rest) ≤ 55 + length rest
addr_short addr rest fits =
    let port = number_short addr.port rest (omega (arith, fits.port.1)) in
    let ip = dotted_short addr.ip (space ∷ (decimal addr.port ++ rest)) fits.bytes in
    let count = fits.count in
    omega arith

pass_short : (pass rest : List ℕ) → FitsPass pass → length (encode_lower pass ++ rest) ≤ 32 + length rest
pass_short pass rest fits =
    let digits = length-encode_with lower_digits pass in
    let both = length-append (encode_lower pass) rest in
    let count = fits.0 in
    omega arith

link_short : (l : Link) → FitsLink l → length (link_line l) ≤ 200
link_short l fits =
    let wants = pass_short l.wants (line_end ∷ []) fits.wants in
    let shows = pass_short l.shows (space ∷ (encode_lower l.wants ++ (line_end ∷ []))) fits.shows in
    let addr = addr_short l.addr (space ∷ passes_text l) fits.addr in
    let player = number_short l.player (space ∷ addr_text l.addr (space ∷ passes_text l)) (omega (arith, fits.player)) in
    omega arith

links_short : (links : List Link) → EachIs FitsLink links → length (joined (map link_line links ++ (end_line ∷ []))) ≤ 200 * length links + 4
links_short [] fits = omega arith
links_short (l ∷ links) fits =
    let one = link_short l fits.0 in
    let ih = links_short links fits.1 in
    let both = length-append (link_line l) (joined (map link_line links ++ (end_line ∷ []))) in
    omega arith

others_few : (me players : ℕ) → length (others me players) ≤ players
others_few me zero = omega arith
others_few me (suc q) = let ih = others_few me q in let both = length-append (others me q) (unless_me me q) in let one = at_most (q == me) in omega arith
  where
    at_most : (b : Bool) → length (if b then [] else q ∷ []) ≤ 1
    at_most true = omega arith
    at_most false = omega arith

pub roster_short : (me players : ℕ) (r : Neighbours) (text : List ℕ) → players ≤ MOST_PLAYERS → IsReadFrom me players r text → length text < ROSTER_FRONT
unfolding roster_text
roster_short me players r text few from =
    let is = from.roster in
    let count : length r.links ≡ length (others me players) = sym (length-map r.links (λ l. l.player)) ∙ ap length is.numbers in
    let all = others_few me players in
    let links = links_short r.links is.links in
    let own = addr_short r.me (line_end ∷ []) is.own in
    let rest : List ℕ = joined (map link_line r.links ++ (end_line ∷ [])) in
    let second = length-append (me_line r.me) rest in
    let version = number_short 1 (line_end ∷ []) (omega arith) in
    let first = length-append version_line (me_line r.me ++ rest) in
    let whole : length text ≡ length (version_line ++ (me_line r.me ++ rest)) = ap (λ (t : List ℕ). length t) from.text_is in
    omega arith
