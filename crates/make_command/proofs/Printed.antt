-- Printed: the lines of players one behind the other, as they are found and as they are written.
use Rattle.std.proofs.Common.{◌≡◌, ℕ, suc, ◌+◌, ◌<◌, List, [], ◌∷◌, ◌++◌, Option, None, Some, length, drop, drop-cons, get_or, append-nil, refl, sym, ◌∙◌, ap, arith}
use Rattle.std.specs.Prelude.{filter_map, option_to_list}
use Rattle.std.specs.List.{range_with_len}
use Rattle.auditor.proofs.Ranged.{picked_more}
use Rattle.auditor.specs.declared.world.WorldLine.{WorldLine}
use Rattle.make_command.specs.Make.{player_line, player_lines}

-- what stands past the end of a list of lines
abbrev pub no_line : WorldLine
no_line = record { track = record { at = record { x = 0; y = 0 }; charge = 0 }; score = record { given = 0; taken = 0 } }

-- the first that are left, and the others behind it
pub lines_next : (q : ℕ) (lines : List WorldLine) (i : ℕ) (text : List ℕ) → i < length lines → text ≡ player_line q (get_or lines i no_line) →
    player_lines q (drop i lines) ≡ text ++ player_lines (q + 1) (drop (i + 1) lines)
lines_next q lines i text lt e =
    let at : suc i ≡ i + 1 = omega arith in
    ap (player_lines q) (drop-cons lines i no_line lt) ∙ ap (λ (n : ℕ). player_line q (get_or lines i no_line) ++ player_lines (q + 1) (drop n lines)) at ∙
    ap (λ (t : List ℕ). t ++ player_lines (q + 1) (drop (i + 1) lines)) (sym e)

-- ---- the lines that are told of the first so many players

-- the next player's line is told
pub line_more : (f : ℕ → Option WorldLine) (n : ℕ) (old new : List WorldLine) (line : WorldLine) → old ≡ filter_map f (range_with_len 0 n) → new ≡ old ++ line ∷ [] → f n ≡ Some line →
    new ≡ filter_map f (range_with_len 0 (n + 1))
line_more f n old new line before more told =
    more ∙ ap (λ (lines : List WorldLine). lines ++ line ∷ []) before ∙ ap (λ (o : Option WorldLine). filter_map f (range_with_len 0 n) ++ option_to_list o) (sym told) ∙ sym (picked_more f n)

-- or it isn't
pub line_none : (f : ℕ → Option WorldLine) (n : ℕ) (old new : List WorldLine) → old ≡ filter_map f (range_with_len 0 n) → new ≡ old → f n ≡ None → new ≡ filter_map f (range_with_len 0 (n + 1))
line_none f n old new before same told =
    same ∙ before ∙ sym (append-nil (filter_map f (range_with_len 0 n))) ∙ ap (λ (o : Option WorldLine). filter_map f (range_with_len 0 n) ++ option_to_list o) (sym told) ∙ sym (picked_more f n)

pub none_of : (o : Option WorldLine) → ((x : WorldLine) → o ≡ Some x → ⊥) → o ≡ None
none_of None none = refl
none_of (Some x) none = absurd (none x refl)
