-- Different openings have different bytes.
use Rattle.std.proofs.Common.{◌≡◌, ℕ, ◌<◌, ◌^◌, List, ◌++◌, length, refl, sym, ◌∙◌, ap, append_assoc}
use Rattle.std.specs.Prelude.{Option, Some, None}
use Rattle.std.specs.Int.{w16, w32, to_be_bytes, from_be_bytes}
use Rattle.std.proofs.lemmas.Nat.{from_be_bytes-to_be_bytes_2, from_be_bytes-to_be_bytes_4}
use Rattle.definitions.specs.declared.world.Cell.{Cell}
use Rattle.definitions.specs.declared.world.Move.{Move}
use Rattle.definitions.specs.declared.openings.Opening.{Opening}
use Rattle.definitions.specs.Openings.{cell_bytes, strike_bytes, move_bytes, opening, FitsCell, FitsStrike, FitsOpening}
use Rattle.definitions.proofs.Fronts.{front_same}

to_be_bytes_2-same : (m n : ℕ) → m < 2 ^ 16 → n < 2 ^ 16 → to_be_bytes w16 m ≡ to_be_bytes w16 n → m ≡ n
to_be_bytes_2-same m n h k e = sym (from_be_bytes-to_be_bytes_2 m h) ∙ ap (from_be_bytes w16) e ∙ from_be_bytes-to_be_bytes_2 n k

to_be_bytes_4-same : (m n : ℕ) → m < 2 ^ 32 → n < 2 ^ 32 → to_be_bytes w32 m ≡ to_be_bytes w32 n → m ≡ n
to_be_bytes_4-same m n h k e = sym (from_be_bytes-to_be_bytes_4 m h) ∙ ap (from_be_bytes w32) e ∙ from_be_bytes-to_be_bytes_4 n k

-- a cell by its column and its row
pub cell_from : (a b : Cell) → a.x ≡ b.x → a.y ≡ b.y → a ≡ b
cell_from a b ex ey =
    let at_x : ℕ → Cell = λ n. record { x = n; y = a.y } in
    let at_y : ℕ → Cell = λ n. record { x = b.x; y = n } in
    ap at_x ex ∙ ap at_y ey

length-cell_bytes : (c : Cell) → length (cell_bytes c) ≡ 4
unfolding cell_bytes
length-cell_bytes c = refl

cell_bytes-same : (a b : Cell) → FitsCell a → FitsCell b → cell_bytes a ≡ cell_bytes b → a ≡ b
unfolding cell_bytes
cell_bytes-same a b f g e =
    let parts = front_same (to_be_bytes w16 a.x) (to_be_bytes w16 a.y) (to_be_bytes w16 b.x) (to_be_bytes w16 b.y) refl e in
    cell_from a b (to_be_bytes_2-same a.x b.x f.0 g.0 parts.0) (to_be_bytes_2-same a.y b.y f.1 g.1 parts.1)

-- the bytes of a strike with what follows them: none and one differ in the flag
strike_bytes-same : (s t : Option Cell) (xs ys : List ℕ) → FitsStrike s → FitsStrike t → strike_bytes s ++ xs ≡ strike_bytes t ++ ys → (s ≡ t) × (xs ≡ ys)
strike_bytes-same None None xs ys f g e = (refl, cc)
strike_bytes-same None (Some d) xs ys f g e = cc
strike_bytes-same (Some c) None xs ys f g e = cc
strike_bytes-same (Some c) (Some d) xs ys f g e =
    let tails : cell_bytes c ++ xs ≡ cell_bytes d ++ ys = cc in
    let parts = front_same (cell_bytes c) xs (cell_bytes d) ys (length-cell_bytes c ∙ sym (length-cell_bytes d)) tails in
    (ap (λ (e : Cell). Some e) (cell_bytes-same c d f g parts.0), parts.1)

move_from : (m n : Move) → m.to ≡ n.to → m.strike ≡ n.strike → m ≡ n
move_from m n a b =
    let at_to : Cell → Move = λ c. record { to = c; strike = m.strike } in
    let at_strike : Option Cell → Move = λ s. record { to = n.to; strike = s } in
    ap at_to a ∙ ap at_strike b

-- openings with the same bytes are the same
pub opening-same : (id : List ℕ) (a b : Opening) → FitsOpening a → FitsOpening b → opening id a ≡ opening id b → a ≡ b
unfolding opening move_bytes
opening-same id a b f g e =
    let rest = (front_same id _ id _ refl e).1 in
    let player : a.player ≡ b.player = cc in
    let tail : to_be_bytes w32 a.turn ++ (move_bytes a.mv ++ a.nonce.bytes) ≡ to_be_bytes w32 b.turn ++ (move_bytes b.mv ++ b.nonce.bytes) = cc in
    let turns = front_same (to_be_bytes w32 a.turn) _ (to_be_bytes w32 b.turn) _ refl tail in
    let turn = to_be_bytes_4-same a.turn b.turn f.turn g.turn turns.0 in
    let moves : cell_bytes a.mv.to ++ (strike_bytes a.mv.strike ++ a.nonce.bytes) ≡ cell_bytes b.mv.to ++ (strike_bytes b.mv.strike ++ b.nonce.bytes) =
    sym (append_assoc (cell_bytes a.mv.to) (strike_bytes a.mv.strike) a.nonce.bytes) ∙ turns.1 ∙ append_assoc (cell_bytes b.mv.to) (strike_bytes b.mv.strike) b.nonce.bytes in
    let tos = front_same (cell_bytes a.mv.to) _ (cell_bytes b.mv.to) _ (length-cell_bytes a.mv.to ∙ sym (length-cell_bytes b.mv.to)) moves in
    let to = cell_bytes-same a.mv.to b.mv.to f.to g.to tos.0 in
    let strikes = strike_bytes-same a.mv.strike b.mv.strike _ _ f.strike g.strike tos.1 in
    let at_player : ℕ → Opening = λ n. record a { player = n } in
    let at_turn : ℕ → Opening = λ n. record { player = b.player; turn = n; mv = a.mv; nonce = a.nonce } in
    let at_move : Move → Opening = λ m. record { player = b.player; turn = b.turn; mv = m; nonce = a.nonce } in
    let at_nonce : List ℕ → Opening = λ n. record { player = b.player; turn = b.turn; mv = b.mv; nonce = record { bytes = n } } in
    ap at_player player ∙ ap at_turn turn ∙ ap at_move (move_from a.mv b.mv to strikes.0) ∙ ap at_nonce strikes.1
