-- Digits: the digits of a log's bytes, entry by entry.
use Rattle.std.proofs.Common.{List, [], ap, refl, sym, ℕ, ◌+◌, ◌/◌, ◌%◌, ◌<◌, ◌≤◌, ◌++◌, ◌≡◌, ◌∙◌, ◌∷◌, drop, length}
use Rattle.std.specs.Prelude.{codes, false, get_or, slice_index, ◌==◌}
use Rattle.std.proofs.lemmas.List.{at_drop_more, drop_all}
use Rattle.hex.specs.Hex.{encode_lower, encode_with}
use Rattle.definitions.specs.declared.logs.Entry.{Entry}
use Rattle.session_log.specs.Spelling.{log_bytes}
use Rattle.session_log.specs.Writing.{Writing, after, all_written, fresh, written}
use Rattle.session_log.proofs.Logs.{log_written}
use Rattle.drive_command.specs.Report.{log_field}

encode_append : (t a b : List ℕ) → encode_with t (a ++ b) ≡ encode_with t a ++ encode_with t b
unfolding encode_with
encode_append t [] b = refl
encode_append t (x ∷ a) b = ap (λ (d : List ℕ). slice_index t (x / 16) ∷ slice_index t (x % 16) ∷ d) (encode_append t a b)

-- the first entry's digits, and those of the rest
pub digits_more : (w : Writing) (e : Entry) (entries : List Entry) → encode_lower (all_written w (e ∷ entries)) ≡ encode_lower (written w e) ++ encode_lower (all_written (after w e) entries)
digits_more w e entries = encode_append _ (written w e) (all_written (after w e) entries)

pub digits_none : (w : Writing) → encode_lower (all_written w []) ≡ []
unfolding encode_with
digits_none w = refl

-- the digits of the entries from one on
pub digits_step : (w new : Writing) (entries : List Entry) (i : ℕ) (d : Entry) (text : List ℕ) → i < length entries →
    text ≡ encode_lower (written w (get_or entries i d)) → new ≡ after w (get_or entries i d) →
    encode_lower (all_written w (drop i entries)) ≡ text ++ encode_lower (all_written new (drop (i + 1) entries))
digits_step w new entries i d text l told next =
    let e : Entry = get_or entries i d in
    at_drop_more (λ (es : List Entry). encode_lower (all_written w es)) entries i d l ∙
    digits_more w e (drop (i + 1) entries) ∙
    ap (λ (t : List ℕ). t ++ encode_lower (all_written (after w e) (drop (i + 1) entries))) (sym told) ∙
    ap (λ (v : Writing). text ++ encode_lower (all_written v (drop (i + 1) entries))) (sym next)

-- the digits behind the last
pub digits_end : (w : Writing) (entries : List Entry) (i : ℕ) → length entries ≤ i → encode_lower (all_written w (drop i entries)) ≡ []
digits_end w entries i l = ap (λ (es : List Entry). encode_lower (all_written w es)) (drop_all i entries l) ∙ digits_none w

-- what has a byte is told behind a space
told_field : (bytes : List ℕ) (b : ℕ) (rest : List ℕ) → bytes ≡ b ∷ rest → log_field bytes ≡ 32 ∷ encode_lower bytes
told_field bytes b rest e = rw e refl

-- the field of a log with an entry
pub field_more : (id : List ℕ) (me : ℕ) (e : Entry) (entries : List Entry) → log_field (log_bytes id me (e ∷ entries)) ≡ 32 ∷ encode_lower (all_written (fresh id me) (e ∷ entries))
field_more id me e entries =
    told_field (log_bytes id me (e ∷ entries)) _ _ refl ∙ ap (λ (bytes : List ℕ). 32 ∷ encode_lower bytes) (sym (log_written id me (e ∷ entries)))

pub field_some : (id : List ℕ) (me : ℕ) (entries : List Entry) → (length entries == 0) ≡ false → log_field (log_bytes id me entries) ≡ codes " " ++ encode_lower (all_written (fresh id me) entries)
field_some id me [] e = cc
field_some id me (x ∷ entries) e = field_more id me x entries
