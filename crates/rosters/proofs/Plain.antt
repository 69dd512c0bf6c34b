-- Plain: the lines of a roster have no LF but their last byte, so they are the lines of the text that they make.
use Rattle.std.proofs.Common.{◌≡◌, ℕ, suc, ◌^◌, ◌<◌, Bool, true, false, List, [], ◌∷◌, ◌++◌, refl, sym, ap, subst, arith}
use Rattle.std.specs.Prelude.{◌&&◌, ◌==◌, codes, not}
use Rattle.std.specs.Fmt.{decimal}
use Rattle.std.proofs.lemmas.Bool.{and_from, and_parts, eqb-true}
use Rattle.hex.specs.Hex.{IsBytes, encode_lower}
use Rattle.text_fields.proofs.Digits.{digits_lower}
use Rattle.text_fields.proofs.Plain.{digits_plain, number_plain}
use Rattle.text_lines.proofs.Joined.{IsLine, bare_line, has_no_lf}
use Rattle.rosters.specs.declared.roster.Link.{Link}
use Rattle.rosters.specs.Addrs.{Addr}
use Rattle.rosters.specs.Fields.{dot, line_end, space}
use Rattle.rosters.specs.Text.{FitsAddr, FitsLink, FitsPass, addr_text, dotted, link_line, me_line, passes_text}

-- the last byte, and no other, is an LF
unfoldable pub ends_once : List ℕ → Bool
ends_once [] = false
ends_once (b ∷ []) = b == 10
ends_once (b ∷ c ∷ bs) = not (b == 10) && ends_once (c ∷ bs)

-- what stands before the LF
once_line : (line : List ℕ) → ends_once line ≡ true → (front : List ℕ) × (has_no_lf front ≡ true) × (line ≡ front ++ codes "\n")
unfolding ends_once
once_line [] h = absurd cc
once_line (b ∷ []) h = ([], refl, ap (λ n. n ∷ []) (eqb-true b 10 h))
once_line (b ∷ c ∷ bs) h =
    let both = and_parts (not (b == 10)) (ends_once (c ∷ bs)) h in
    let rest = once_line (c ∷ bs) both.1 in
    (b ∷ rest.0, and_from _ _ both.0 rest.1, ap (λ (t : List ℕ). b ∷ t) rest.2)

-- so it is a line
pub is_line : (line : List ℕ) → ends_once line ≡ true → IsLine line
is_line line h = let parts = once_line line h in subst IsLine (sym parts.2) (bare_line parts.0 parts.1)

-- bytes without an LF in front
pub plain_then : (front rest : List ℕ) → has_no_lf front ≡ true → ends_once rest ≡ true → ends_once (front ++ rest) ≡ true
unfolding ends_once
plain_then [] rest plain once = once
plain_then (b ∷ []) [] plain once = absurd cc
plain_then (b ∷ []) (c ∷ rest) plain once = and_from _ _ (and_parts (not (b == 10)) true plain).0 once
plain_then (b ∷ c ∷ front) rest plain once =
    let both = and_parts (not (b == 10)) (has_no_lf (c ∷ front)) plain in
    and_from _ _ both.0 (plain_then (c ∷ front) rest both.1 once)

pub pass_plain : (pass : List ℕ) → FitsPass pass → has_no_lf (encode_lower pass) ≡ true
pass_plain pass fits = digits_plain (encode_lower pass) (digits_lower pass fits.1)

-- a mark in front
pub mark_then : (mark : ℕ) (rest : List ℕ) → (mark == 10) ≡ false → ends_once rest ≡ true → ends_once (mark ∷ rest) ≡ true
mark_then mark rest other once = plain_then (mark ∷ []) rest (rw other refl) once

number_then_once : (n : ℕ) (rest : List ℕ) → n < 2 ^ 32 → ends_once rest ≡ true → ends_once (decimal n ++ rest) ≡ true
number_then_once n rest small once = plain_then (decimal n) rest (number_plain n small) once

dotted_once : (ip rest : List ℕ) → IsBytes ip → ends_once rest ≡ true → ends_once (dotted ip rest) ≡ true
dotted_once [] rest bytes once = once
dotted_once (a ∷ []) rest bytes once = let x : a < 256 = bytes 0 in number_then_once a rest (omega arith) once
dotted_once (a ∷ b ∷ bs) rest bytes once =
    let x : a < 256 = bytes 0 in
    number_then_once a (dot ∷ dotted (b ∷ bs) rest) (omega arith) (mark_then dot (dotted (b ∷ bs) rest) refl (dotted_once (b ∷ bs) rest (λ i. bytes (suc i)) once))

pub addr_once : (addr : Addr) (rest : List ℕ) → FitsAddr addr → ends_once rest ≡ true → ends_once (addr_text addr rest) ≡ true
addr_once addr rest fits once =
    dotted_once addr.ip (space ∷ (decimal addr.port ++ rest)) fits.bytes (mark_then space (decimal addr.port ++ rest) refl (number_then_once addr.port rest (omega (arith, fits.port.1)) once))

pub me_is_line : (addr : Addr) → FitsAddr addr → IsLine (me_line addr)
unfolding ends_once
me_is_line addr fits = is_line (me_line addr) (plain_then (codes "me ") (addr_text addr (line_end ∷ [])) refl (addr_once addr (line_end ∷ []) fits refl))

passes_once : (l : Link) → FitsLink l → ends_once (passes_text l) ≡ true
unfolding ends_once
passes_once l fits =
    plain_then (encode_lower l.shows) (space ∷ (encode_lower l.wants ++ (line_end ∷ []))) (pass_plain l.shows fits.shows)
    (mark_then space (encode_lower l.wants ++ (line_end ∷ [])) refl (plain_then (encode_lower l.wants) (line_end ∷ []) (pass_plain l.wants fits.wants) refl))

pub link_is_line : (l : Link) → FitsLink l → IsLine (link_line l)
link_is_line l fits =
    let addr = addr_once l.addr (space ∷ passes_text l) fits.addr (mark_then space (passes_text l) refl (passes_once l fits)) in
    let number = number_then_once l.player (space ∷ addr_text l.addr (space ∷ passes_text l)) (omega (arith, fits.player)) (mark_then space (addr_text l.addr (space ∷ passes_text l)) refl addr) in
    is_line (link_line l) (plain_then (codes "peer ") (decimal l.player ++ (space ∷ addr_text l.addr (space ∷ passes_text l))) refl number)
