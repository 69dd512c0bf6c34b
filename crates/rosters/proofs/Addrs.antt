-- Addrs: an address and a pass before a mark are read, and what is read stands there.
use Rattle.std.proofs.Common.{◌≡◌, ℕ, zero, suc, ◌<◌, ◌≤◌, ◌^◌, true, false, List, [], ◌∷◌, ◌++◌, length, take, drop, Some, refl, sym, ap, subst, ◌∙◌, arith}
use Rattle.std.specs.Prelude.{bytes_eq, nat_le}
use Rattle.std.specs.Char.{is_ascii_digit}
use Rattle.std.specs.Fmt.{decimal}
use Rattle.std.proofs.lemmas.Bool.{leb-true, le-leb}
use Rattle.std.proofs.lemmas.List.{drop_at, take_at, take-append-drop, length-take-le, length-drop}
use Rattle.std.proofs.lemmas.Option.{same_Some}
use Rattle.std.proofs.lemmas.Slice.Eq.{bytes_eq-Decides}
use Rattle.hex.specs.Hex.{IsBytes, encode_lower, lower_digits}
use Rattle.hex.proofs.HexLemmas.{length-encode_with}
use Rattle.byte_fields.specs.Fronts.{behind}
use Rattle.byte_fields.proofs.Reading.{bind_some}
use Rattle.plain_lemmas.proofs.Lists.{front_stands}
use Rattle.plain_lemmas.proofs.Options.{some_when}
use Rattle.text_fields.specs.Hexes.{bytes_of}
use Rattle.text_fields.proofs.HexFields.{bytes_read, bytes_spelled}
use Rattle.rosters.specs.Addrs.{Addr}
use Rattle.rosters.specs.Fields.{addr_then, dot, number_then, pass_then, space}
use Rattle.rosters.specs.Text.{FitsAddr, FitsPass, addr_text, dotted}
use Rattle.rosters.proofs.Numbers.{number_read, number_spelled}
use Rattle.rosters.proofs.Passes.{pass_length}

-- ---- addresses

ip_read : (mark : ℕ) (ip : List ℕ) (port : ℕ) (rest : List ℕ) → is_ascii_digit mark ≡ false → length ip ≡ 4 → IsBytes ip → 1 ≤ port → port < 2 ^ 16 →
    addr_then mark (dotted ip (space ∷ decimal port ++ mark ∷ rest)) ≡ Some (record { ip = ip; port = port }, rest)
unfolding addr_then
ip_read mark [] port rest other count bytes low high = absurd (omega arith)
ip_read mark (a ∷ []) port rest other count bytes low high = absurd (omega arith)
ip_read mark (a ∷ b ∷ []) port rest other count bytes low high = absurd (omega arith)
ip_read mark (a ∷ b ∷ c ∷ []) port rest other count bytes low high = absurd (omega arith)
ip_read mark (a ∷ b ∷ c ∷ d ∷ e ∷ ip) port rest other count bytes low high = absurd (omega arith)
ip_read mark (a ∷ b ∷ c ∷ d ∷ []) port rest other count bytes low high =
    let p : List ℕ = decimal port ++ mark ∷ rest in
    let x : a < 256 = bytes 0 in
    let y : b < 256 = bytes 1 in
    let z : c < 256 = bytes 2 in
    let w : d < 256 = bytes 3 in
    rw (
      number_read dot 255 a (decimal b ++ (dot ∷ (decimal c ++ (dot ∷ (decimal d ++ (space ∷ p)))))) refl (omega arith) (omega arith),
      number_read dot 255 b (decimal c ++ (dot ∷ (decimal d ++ (space ∷ p)))) refl (omega arith) (omega arith),
      number_read dot 255 c (decimal d ++ (space ∷ p)) refl (omega arith) (omega arith),
      number_read space 255 d p refl (omega arith) (omega arith),
      number_read mark 65535 port rest other (omega arith) (omega arith),
      le-leb 1 port low,
    ) refl

pub addr_read : (mark : ℕ) (addr : Addr) (rest : List ℕ) → is_ascii_digit mark ≡ false → FitsAddr addr → addr_then mark (addr_text addr (mark ∷ rest)) ≡ Some (addr, rest)
addr_read mark addr rest other fits = ip_read mark addr.ip addr.port rest other fits.count fits.bytes fits.port.0 fits.port.1

four_bytes : (a b c d : ℕ) → a ≤ 255 → b ≤ 255 → c ≤ 255 → d ≤ 255 → IsBytes (a ∷ b ∷ c ∷ d ∷ [])
four_bytes a b c d x y z w zero = omega arith
four_bytes a b c d x y z w (suc zero) = omega arith
four_bytes a b c d x y z w (suc (suc zero)) = omega arith
four_bytes a b c d x y z w (suc (suc (suc zero))) = omega arith
four_bytes a b c d x y z w (suc (suc (suc (suc i)))) = omega arith

pub addr_spelled : (mark : ℕ) (text : List ℕ) (x : Addr × List ℕ) → addr_then mark text ≡ Some x → (text ≡ addr_text x.0 (mark ∷ x.1)) × FitsAddr x.0
unfolding addr_then
addr_spelled mark text x h =
    let a = bind_some (number_then dot 255 text) _ x h in
    let b = bind_some (number_then dot 255 a.0.1) _ x a.2 in
    let c = bind_some (number_then dot 255 b.0.1) _ x b.2 in
    let d = bind_some (number_then space 255 c.0.1) _ x c.2 in
    let p = bind_some (number_then mark 65535 d.0.1) _ x d.2 in
    let ip : List ℕ = a.0.0 ∷ b.0.0 ∷ c.0.0 ∷ d.0.0 ∷ [] in
    let addr : Addr = record { ip = ip; port = p.0.0 } in
    let kept = some_when (nat_le 1 p.0.0) (addr, p.0.1) x p.2 in
    let aa = number_spelled dot 255 text a.0 a.1 in
    let bb = number_spelled dot 255 a.0.1 b.0 b.1 in
    let cc4 = number_spelled dot 255 b.0.1 c.0 c.1 in
    let dd = number_spelled space 255 c.0.1 d.0 d.1 in
    let pp = number_spelled mark 65535 d.0.1 p.0 p.1 in
    let whole : text ≡ addr_text addr (mark ∷ p.0.1) =
    aa.0 ∙ ap (λ (r : List ℕ). decimal a.0.0 ++ dot ∷ r) (bb.0 ∙ ap (λ (r : List ℕ). decimal b.0.0 ++ dot ∷ r) (cc4.0 ∙ ap (λ (r : List ℕ). decimal c.0.0 ++ dot ∷ r) (dd.0 ∙ ap (λ (r : List ℕ). decimal d.0.0 ++ space ∷ r) pp.0))) in
    let fits : FitsAddr addr = record { count = refl; bytes = four_bytes a.0.0 b.0.0 c.0.0 d.0.0 aa.1 bb.1 cc4.1 dd.1; port = (leb-true 1 p.0.0 kept.0, omega (arith, pp.1)) } in
    subst (λ (y : Addr × List ℕ). (text ≡ addr_text y.0 (mark ∷ y.1)) × FitsAddr y.0) kept.1 (whole, fits)

-- ---- passes

mark_read : (mark : ℕ) (rest : List ℕ) → behind (mark ∷ []) (mark ∷ rest) ≡ Some rest
mark_read mark rest = let same : bytes_eq (mark ∷ []) (mark ∷ []) ≡ true = (bytes_eq-Decides (mark ∷ []) (mark ∷ [])).1 refl in rw same refl

pub pass_read : (mark : ℕ) (pass rest : List ℕ) → FitsPass pass → pass_then mark (encode_lower pass ++ mark ∷ rest) ≡ Some (pass, rest)
unfolding pass_then
pass_read mark pass rest fits =
    let long : length (encode_lower pass) ≡ 32 = length-encode_with lower_digits pass ∙ omega (arith, fits.0) in
    rw (
      drop_at (encode_lower pass) (mark ∷ rest) 32 long,
      mark_read mark rest,
      take_at (encode_lower pass) (mark ∷ rest) 32 long,
      bytes_read pass (omega (arith, fits.0)) fits.1,
    ) refl

pub pass_spelled : (mark : ℕ) (text : List ℕ) (x : List ℕ × List ℕ) → pass_then mark text ≡ Some x → (text ≡ encode_lower x.0 ++ mark ∷ x.1) × FitsPass x.0
unfolding pass_then
pass_spelled mark text x h =
    let a = bind_some (behind (mark ∷ []) (drop 32 text)) _ x h in
    let b = bind_some (bytes_of (take 32 text)) _ x a.2 in
    let back = front_stands (mark ∷ []) (drop 32 text) a.0 a.1 in
    let front = bytes_spelled (take 32 text) b.0 b.1 in
    let some : 0 < length (drop 32 text) = omega (arith, ap (λ (r : List ℕ). length r) back) in
    let long : 32 ≤ length text = omega (arith, some, length-drop 32 text) in
    let count = pass_length (take 32 text) b.0 (length-take-le 32 text long) b.1 in
    let whole : text ≡ encode_lower b.0 ++ mark ∷ a.0 = sym (take-append-drop 32 text) ∙ ap (λ (r : List ℕ). take 32 text ++ r) back ∙ ap (λ (r : List ℕ). r ++ mark ∷ a.0) front.2 in
    subst (λ (y : List ℕ × List ℕ). (text ≡ encode_lower y.0 ++ mark ∷ y.1) × FitsPass y.0) (same_Some _ _ b.2) (whole, (count, front.1))
