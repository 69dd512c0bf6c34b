-- Lines: what the lines of a roster say, and how they are spelled.
use Rattle.std.proofs.Common.{◌≡◌, ℕ, ◌<◌, List, [], ◌∷◌, ◌++◌, length, Some, None, refl, ap, subst, ◌∙◌, arith}
use Rattle.std.specs.Prelude.{◌==◌, codes}
use Rattle.std.proofs.lemmas.Bool.{eqb-true}
use Rattle.std.specs.Fmt.{decimal}
use Rattle.hex.specs.Hex.{encode_lower}
use Rattle.byte_fields.specs.Fronts.{behind}
use Rattle.byte_fields.proofs.Reading.{bind_some}
use Rattle.plain_lemmas.proofs.Lists.{front_stands}
use Rattle.plain_lemmas.proofs.Options.{some_when}
use Rattle.rosters.specs.declared.roster.Link.{Link}
use Rattle.rosters.specs.Addrs.{Addr}
use Rattle.rosters.specs.Fields.{addr_then, line_end, number_then, pass_then, space}
use Rattle.rosters.specs.Reading.{alone, link_behind, link_said, me_said}
use Rattle.rosters.specs.Text.{FitsAddr, FitsLink, addr_text, link_line, me_line, passes_text}
use Rattle.rosters.proofs.Addrs.{addr_read, addr_spelled, pass_read, pass_spelled}
use Rattle.rosters.proofs.Numbers.{number_read, number_spelled}

-- an empty line says nothing
pub me_said-empty : me_said [] ≡ None
unfolding me_said
me_said-empty = refl

pub link_said-empty : link_said [] ≡ None
unfolding link_said
link_said-empty = refl

-- ---- what is spelled is read

pub me_read : (addr : Addr) → FitsAddr addr → me_said (me_line addr) ≡ Some addr
unfolding me_said
me_read addr fits = rw (addr_read line_end addr [] refl fits) refl

behind_read : (l : Link) → FitsLink l → link_behind l.player (addr_text l.addr (space ∷ passes_text l)) ≡ Some l
unfolding link_behind
behind_read l fits = rw (addr_read space l.addr (passes_text l) refl fits.addr, pass_read space l.shows (encode_lower l.wants ++ (line_end ∷ [])) fits.shows, pass_read line_end l.wants [] fits.wants) refl

pub link_read : (l : Link) → FitsLink l → link_said (link_line l) ≡ Some l
unfolding link_said
link_read l fits = rw (number_read space 255 l.player (addr_text l.addr (space ∷ passes_text l)) refl (omega (arith, fits.player)) (omega arith)) (behind_read l fits)

-- ---- what is read was spelled so

pub alone_is : {X : Type 0} (x : X × List ℕ) (y : X) → alone x ≡ Some y → (x.1 ≡ []) × (x.0 ≡ y)
alone_is x y h = let kept = some_when (length x.1 == 0) x.0 y h in (none x.1 (eqb-true (length x.1) 0 kept.0), kept.1)
  where
    none : (xs : List ℕ) → length xs ≡ 0 → xs ≡ []
    none [] e = refl
    none (b ∷ bs) e = absurd (omega arith)

pub me_taken : (line : List ℕ) (addr : Addr) → me_said line ≡ Some addr → (line ≡ me_line addr) × FitsAddr addr
unfolding me_said
me_taken line addr h =
    let front = bind_some (behind (codes "me ") line) _ addr h in
    let a = bind_some (addr_then line_end front.0) alone addr front.2 in
    let end = alone_is a.0 addr a.2 in
    let is = addr_spelled line_end front.0 a.0 a.1 in
    let text : front.0 ≡ addr_text addr (line_end ∷ []) = is.0 ∙ ap (λ (r : List ℕ). addr_text a.0.0 (line_end ∷ r)) end.0 ∙ ap (λ (b : Addr). addr_text b (line_end ∷ [])) end.1 in
    (front_stands (codes "me ") line front.0 front.1 ∙ ap (λ (t : List ℕ). codes "me " ++ t) text, subst FitsAddr end.1 is.1)

-- the link is to this player, its parts fit, and this text says it
record IsSaid (player : ℕ) (text : List ℕ) (l : Link) : Type 0 where
  same : player ≡ l.player
  spelled : text ≡ addr_text l.addr (space ∷ passes_text l)
  fits : player < 256 → FitsLink l

behind_taken : (player : ℕ) (text : List ℕ) (l : Link) → link_behind player text ≡ Some l → IsSaid player text l
unfolding link_behind
behind_taken player text l h =
    let a = bind_some (addr_then space text) _ l h in
    let s = bind_some (pass_then space a.0.1) _ l a.2 in
    let w = bind_some (pass_then line_end s.0.1) _ l s.2 in
    let made : Link = record { player = player; addr = a.0.0; shows = s.0.0; wants = w.0.0 } in
    let end = alone_is (made, w.0.1) l w.2 in
    let aa = addr_spelled space text a.0 a.1 in
    let ss = pass_spelled space a.0.1 s.0 s.1 in
    let ww = pass_spelled line_end s.0.1 w.0 w.1 in
    let wants : s.0.1 ≡ encode_lower w.0.0 ++ (line_end ∷ []) = ww.0 ∙ ap (λ (r : List ℕ). encode_lower w.0.0 ++ (line_end ∷ r)) end.0 in
    let shows : a.0.1 ≡ passes_text made = ss.0 ∙ ap (λ (r : List ℕ). encode_lower s.0.0 ++ (space ∷ r)) wants in
    subst (IsSaid player text) end.1 (record {
      same = refl;
      spelled = aa.0 ∙ ap (λ (r : List ℕ). addr_text a.0.0 (space ∷ r)) shows;
      fits = λ small. record { player = small; addr = aa.1; shows = ss.1; wants = ww.1 };
    })

pub link_taken : (line : List ℕ) (l : Link) → link_said line ≡ Some l → (line ≡ link_line l) × FitsLink l
unfolding link_said
link_taken line l h =
    let front = bind_some (behind (codes "peer ") line) _ l h in
    let q = bind_some (number_then space 255 front.0) _ l front.2 in
    let is = behind_taken q.0.0 q.0.1 l q.2 in
    let number = number_spelled space 255 front.0 q.0 q.1 in
    let text : front.0 ≡ decimal l.player ++ (space ∷ addr_text l.addr (space ∷ passes_text l)) =
    number.0 ∙ ap (λ (r : List ℕ). decimal q.0.0 ++ (space ∷ r)) is.spelled ∙ ap (λ n. decimal n ++ (space ∷ addr_text l.addr (space ∷ passes_text l))) is.same in
    (front_stands (codes "peer ") line front.0 front.1 ∙ ap (λ (t : List ℕ). codes "peer " ++ t) text, is.fits (omega (arith, number.1)))
