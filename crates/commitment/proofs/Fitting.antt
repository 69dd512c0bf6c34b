-- Fitting: a frame that is read fits its fields.
use Rattle.std.proofs.Common.{◌≡◌, inl, inr, ℕ, ◌+◌, ◌-◌, ◌<◌, ◌^◌, true, List, length, take, drop, refl, ap, arith, subst, ◌∙◌}
use Rattle.std.specs.Prelude.{Some, slice_index, slice_range, ◌==◌, ◌&&◌}
use Rattle.std.proofs.lemmas.Bool.{eqb-true, and_parts}
use Rattle.std.proofs.lemmas.List.{length-take-le, length-drop}
use Rattle.definitions.specs.declared.frames.TurnFrame.{TurnFrame}
use Rattle.definitions.specs.Openings.{FitsCell}
use Rattle.commitment.specs.Spelling.{FitsFrame, cell_at, has_head, short_at, turn_at, turn_frame_of}
use Rattle.std.proofs.lemmas.Option.{same_Some}
use Rattle.plain_lemmas.proofs.Options.{when_some}
use Rattle.plain_lemmas.proofs.Tests.{chosen}
use Rattle.plain_lemmas.proofs.Lists.{AreBytes}

short_small : (bytes : List ℕ) (at : ℕ) → AreBytes bytes → short_at bytes at < 2 ^ 16
short_small bytes at b = omega (arith, b at, b (at + 1))

cell_small : (bytes : List ℕ) (at : ℕ) → AreBytes bytes → FitsCell (cell_at bytes at)
cell_small bytes at b = (short_small bytes at b, short_small bytes (at + 2) b)

turn_small : (bytes : List ℕ) → AreBytes bytes → turn_at bytes < 2 ^ 32
turn_small bytes b = omega (arith, b 4, b 5, b 6, b 7)

-- so many bytes as the head says, up to the end
end_long : (kind payload at : ℕ) (bytes : List ℕ) → has_head kind payload bytes ≡ true → payload + 3 ≡ at + 32 → length (slice_range bytes at (at + 32)) ≡ 32
end_long kind payload at bytes h all =
    let long : length bytes ≡ payload + 3 = eqb-true _ _ (and_parts _ _ (and_parts _ _ (and_parts _ _ h).0).0).0 in
    let count : at + 32 - at ≡ 32 = omega arith in
    ap (λ n. length (take n (drop at bytes))) count ∙ length-take-le 32 (drop at bytes) (omega (arith, length-drop at bytes))

pub fits_read : (bytes : List ℕ) (frame : TurnFrame) → AreBytes bytes → turn_frame_of bytes ≡ Some frame → FitsFrame frame
unfolding turn_frame_of
fits_read bytes frame b h = elim (chosen (has_head 2 37 bytes) _ _ _ h) [
  | inl a ↦ subst FitsFrame (same_Some _ _ a.1) (b 3, turn_small bytes b, end_long 2 37 8 bytes a.0 refl)
  | inr n ↦ elim (chosen (has_head 3 42 bytes && (slice_index bytes 12 == 0)) _ _ _ n.1) [
    | inl a ↦
        let head = (and_parts _ _ a.0).0 in
        subst FitsFrame (same_Some _ _ a.1) (b 3, turn_small bytes b, cell_small bytes 8 b, tt, end_long 3 42 13 bytes head refl)
    | inr m ↦
        let a = when_some (has_head 3 46 bytes && (slice_index bytes 12 == 1)) _ _ m.1 in
        let head = (and_parts _ _ a.0).0 in
        subst FitsFrame (same_Some _ _ a.1) (b 3, turn_small bytes b, cell_small bytes 8 b, cell_small bytes 13 b, end_long 3 46 17 bytes head refl)
  ]
]
