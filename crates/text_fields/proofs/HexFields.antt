-- Fields of hexadecimal digits: nonces, frames and bytes are read from their digits, and digits that are read are theirs.
use Rattle.std.proofs.Common.{◌≡◌, inl, inr, ℕ, ◌<◌, false, List, length, refl, sym, ◌∙◌, ap, arith, subst}
use Rattle.std.specs.Prelude.{Some, ◌==◌, ◌&&◌, not}
use Rattle.std.specs.Result.{result_ok}
use Rattle.std.specs.List.{list_all}
use Rattle.std.proofs.lemmas.Bool.{eqb-false, ne_eqb, and_parts, not-true, cases_eq}
use Rattle.hex.specs.Hex.{IsBytes, lower_digits, decode_of, decode_sized, encode_lower}
use Rattle.hex.proofs.HexLemmas.{length-encode_with, decode_of-encode_lower, decode_sized-encode_lower, decode_sized-ok}
use Rattle.definitions.specs.declared.openings.Nonce.{Nonce}
use Rattle.definitions.specs.declared.frames.TurnFrame.{TurnFrame}
use Rattle.commitment.specs.Spelling.{frame_bytes, FitsFrame, turn_frame_of}
use Rattle.commitment.proofs.Fitting.{fits_read}
use Rattle.commitment.proofs.Reading.{spelled_read, read_spelled}
use Rattle.text_fields.specs.Hexes.{is_lower_digit, nonce_of, frame_of, bytes_of}
use Rattle.text_fields.specs.Spelling.{FitsNonce}
use Rattle.text_fields.proofs.Digits.{digits_lower, digits_spelled, sized_read, ok_some}
use Rattle.plain_lemmas.proofs.Options.{map_some, then_some, when_some}

-- ---- what is spelled is read

pub nonce_read : (nonce : Nonce) → FitsNonce nonce → nonce_of (encode_lower nonce.bytes) ≡ Some nonce
nonce_read nonce fits = rw (digits_lower nonce.bytes fits.1, decode_sized-encode_lower nonce.bytes 32 fits.0 fits.1) refl

pub frame_read : (frame : TurnFrame) → FitsFrame frame → IsBytes (frame_bytes frame) → frame_of (encode_lower (frame_bytes frame)) ≡ Some frame
frame_read frame fits b = rw (digits_lower (frame_bytes frame) b, decode_of-encode_lower (frame_bytes frame) b) (spelled_read frame fits)

pub bytes_read : (bytes : List ℕ) → 0 < length bytes → IsBytes bytes → bytes_of (encode_lower bytes) ≡ Some bytes
bytes_read bytes some b =
    let long = length-encode_with lower_digits bytes in
    let other : (length (encode_lower bytes) == 0) ≡ false = ne_eqb _ _ (λ e. absurd (omega arith)) in
    rw (other, digits_lower bytes b, decode_of-encode_lower bytes b) refl

-- ---- what is read was spelled so

pub nonce_spelled : (text : List ℕ) (nonce : Nonce) → nonce_of text ≡ Some nonce → FitsNonce nonce × (text ≡ encode_lower nonce.bytes)
nonce_spelled text nonce h =
    let kept = when_some (list_all is_lower_digit text) _ nonce h in
    let made = map_some (λ (bytes : List ℕ). record { bytes = bytes }) (result_ok (decode_sized text 32)) nonce kept.1 in
    let sized = ok_some (decode_sized text 32) made.0 made.1 in
    let is = digits_spelled text made.0 kept.0 (sized_read text 32 made.0 sized) in
    let long = decode_sized-ok text 32 made.0 sized in
    subst (λ (n : Nonce). FitsNonce n × (text ≡ encode_lower n.bytes)) made.2 ((omega (arith, is.2), is.1), is.0)

pub frame_spelled : (text : List ℕ) (frame : TurnFrame) → frame_of text ≡ Some frame →
    FitsFrame frame × IsBytes (frame_bytes frame) × (text ≡ encode_lower (frame_bytes frame))
frame_spelled text frame h =
    let kept = when_some (list_all is_lower_digit text) _ frame h in
    let made = then_some turn_frame_of (result_ok (decode_of text)) frame kept.1 in
    let is = digits_spelled text made.0 kept.0 (ok_some (decode_of text) made.0 made.1) in
    let same = sym (read_spelled made.0 frame is.1 made.2) in
    (fits_read made.0 frame is.1 made.2, subst IsBytes same is.1, is.0 ∙ ap encode_lower same)

pub bytes_spelled : (text bytes : List ℕ) → bytes_of text ≡ Some bytes → (0 < length bytes) × IsBytes bytes × (text ≡ encode_lower bytes)
bytes_spelled text bytes h =
    let kept = when_some (not (length text == 0) && list_all is_lower_digit text) _ bytes h in
    let both = and_parts (not (length text == 0)) (list_all is_lower_digit text) kept.0 in
    let is = digits_spelled text bytes both.1 (ok_some (decode_of text) bytes kept.1) in
    let other = eqb-false (length text) 0 (not-true (length text == 0) both.0) in
    (elim (cases_eq (length text) 0) [ inl e ↦ absurd (other e) | inr e ↦ omega (arith, is.2, e) ], is.1, is.0)
