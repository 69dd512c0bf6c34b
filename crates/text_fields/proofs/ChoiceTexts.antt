-- Choices: a choice is read as what it spells, and spells what it is read as.
use Rattle.std.proofs.Common.{◌≡◌, ℕ, Bool, true, false, List, [], ◌∷◌, ◌++◌, refl, sym, ◌∙◌, ap, subst, append_assoc}
use Rattle.std.specs.Prelude.{Option, Some, None}
use Rattle.std.specs.Fmt.{decimal}
use Rattle.std.specs.List.{list_all}
use Rattle.std.proofs.lemmas.Bool.{and_left, and_right}
use Rattle.std.proofs.lemmas.List.Folds.{list_all-append}
use Rattle.std.proofs.lemmas.Option.{same_Some}
use Rattle.hex.specs.Hex.{encode_lower}
use Rattle.definitions.specs.declared.world.Cell.{Cell}
use Rattle.definitions.specs.declared.world.Move.{Move}
use Rattle.definitions.specs.declared.openings.Nonce.{Nonce}
use Rattle.definitions.specs.Openings.{FitsCell, FitsStrike}
use Rattle.byte_fields.proofs.Reading.{bind_some}
use Rattle.text_fields.specs.Cells.{cell_then}
use Rattle.text_fields.specs.Hexes.{is_lower_digit, nonce_of}
use Rattle.text_fields.specs.Spelling.{number_text, cell_text, FitsNonce}
use Rattle.text_fields.specs.Choices.{choice_text, move_then_nonce, or_else, step_of, strike_of, strike_text}
use Rattle.text_fields.proofs.HexFields.{nonce_read, nonce_spelled}
use Rattle.text_fields.proofs.Fields.{cell_read, cell_spelled}

-- a nonce has no space
spaced_none : (n : ℕ) (rest : List ℕ) → nonce_of (number_text n ++ rest) ≡ None
spaced_none n rest =
    let space : list_all is_lower_digit (number_text n) ≡ false
    = list_all-append is_lower_digit (decimal n) (32 ∷ []) ∙ and_right _ _ refl in
    let all : list_all is_lower_digit (number_text n ++ rest) ≡ false
    = list_all-append is_lower_digit (number_text n) rest ∙ and_left _ _ space in
    rw all refl

read_of : (to : Cell) (strike : Option Cell) (nonce : Nonce) → FitsCell to → FitsStrike strike → FitsNonce nonce →
    or_else (step_of (cell_text to ++ (strike_text strike ++ encode_lower nonce.bytes))) (strike_of (cell_text to ++ (strike_text strike ++ encode_lower nonce.bytes))) ≡
    Some (record { to = to; strike = strike }, nonce)
unfolding step_of strike_of
read_of to None nonce a b c = rw (cell_read to (encode_lower nonce.bytes) a, nonce_read nonce c) refl
read_of to (Some at) nonce a b c =
    let rest : List ℕ = encode_lower nonce.bytes in
    let none : nonce_of (cell_text at ++ rest) ≡ None
    = ap nonce_of (append_assoc (number_text at.x) (number_text at.y) rest) ∙ spaced_none at.x (number_text at.y ++ rest) in
    rw (cell_read to (cell_text at ++ rest) a, none, cell_read at rest b, nonce_read nonce c) refl

pub choice_read : (mv : Move) (nonce : Nonce) → FitsCell mv.to → FitsStrike mv.strike → FitsNonce nonce → move_then_nonce (choice_text mv nonce) ≡ Some (mv, nonce)
unfolding move_then_nonce
choice_read mv nonce a b c = read_of mv.to mv.strike nonce a b c

-- the text spells the choice, whose parts are within their limits
pub Spells : List ℕ → Move × Nonce → Type 0
Spells text c = FitsCell c.0.to × FitsStrike c.0.strike × FitsNonce c.1 × (text ≡ choice_text c.0 c.1)

step_spelled : (text : List ℕ) (c : Move × Nonce) → step_of text ≡ Some c → Spells text c
unfolding step_of Spells
step_spelled text c h =
    let a = bind_some (cell_then text) _ c h in
    let b = bind_some (nonce_of a.0.1) _ c a.2 in
    let to = cell_spelled text a.0 a.1 in
    let nonce = nonce_spelled a.0.1 b.0 b.1 in
    let whole : text ≡ cell_text a.0.0 ++ encode_lower b.0.bytes = to.0 ∙ ap (λ r. cell_text a.0.0 ++ r) nonce.1 in
    let mv : Move = record { to = a.0.0; strike = None } in
    subst (λ (d : Move × Nonce). Spells text d) (same_Some (mv, b.0) c b.2) (to.1, tt, nonce.0, whole)

strike_spelled : (text : List ℕ) (c : Move × Nonce) → strike_of text ≡ Some c → Spells text c
unfolding strike_of Spells
strike_spelled text c h =
    let a = bind_some (cell_then text) _ c h in
    let s = bind_some (cell_then a.0.1) _ c a.2 in
    let b = bind_some (nonce_of s.0.1) _ c s.2 in
    let to = cell_spelled text a.0 a.1 in
    let at = cell_spelled a.0.1 s.0 s.1 in
    let nonce = nonce_spelled s.0.1 b.0 b.1 in
    let whole : text ≡ cell_text a.0.0 ++ (cell_text s.0.0 ++ encode_lower b.0.bytes)
    = to.0 ∙ ap (λ r. cell_text a.0.0 ++ r) at.0 ∙ ap (λ r. cell_text a.0.0 ++ (cell_text s.0.0 ++ r)) nonce.1 in
    let mv : Move = record { to = a.0.0; strike = Some s.0.0 } in
    subst (λ (d : Move × Nonce). Spells text d) (same_Some (mv, b.0) c b.2) (to.1, at.1, nonce.0, whole)

either_spelled : (text : List ℕ) (c : Move × Nonce) (a b : Option (Move × Nonce)) → (a ≡ Some c → Spells text c) → (b ≡ Some c → Spells text c) → or_else a b ≡ Some c → Spells text c
either_spelled text c None b f g h = g h
either_spelled text c (Some x) b f g h = f h

pub choice_spelled : (text : List ℕ) (c : Move × Nonce) → move_then_nonce text ≡ Some c → FitsCell c.0.to × FitsStrike c.0.strike × FitsNonce c.1 × (text ≡ choice_text c.0 c.1)
unfolding move_then_nonce Spells
choice_spelled text c h = either_spelled text c (step_of text) (strike_of text) (step_spelled text c) (strike_spelled text c) h
