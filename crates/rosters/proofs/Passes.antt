-- Passes: 32 digits are those of 16 bytes.
use Rattle.std.proofs.Common.{◌≡◌, ℕ, ◌<◌, false, List, [], ◌∷◌, length, Some, None, refl, ap, arith, take, drop}
use Rattle.std.specs.Prelude.{nat_lt}
use Rattle.std.proofs.lemmas.List.{drop_all, take_all}
use Rattle.std.proofs.lemmas.Bool.{le-ltb}
use Rattle.hex.specs.Hex.{lower_digits}
use Rattle.hex.proofs.HexLemmas.{length-encode_with}
use Rattle.byte_fields.specs.Fields.{bytes_at}
use Rattle.text_fields.specs.Hexes.{bytes_of}
use Rattle.byte_fields.specs.Fronts.{behind}
use Rattle.rosters.specs.Fields.{pass_then}
use Rattle.text_fields.proofs.HexFields.{bytes_spelled}

pub pass_length : (digits pass : List ℕ) → length digits ≡ 32 → bytes_of digits ≡ Some pass → length pass ≡ 16
pass_length digits pass count is =
    let spelled = bytes_spelled digits pass is in
    let long = length-encode_with lower_digits pass in
    let same = ap length spelled.2 in
    omega arith

-- so all of them are taken
pub pass_whole : (digits pass : List ℕ) → length digits ≡ 32 → bytes_of digits ≡ Some pass → bytes_at 16 pass 0 ≡ Some pass
pass_whole digits pass count is =
    let len = pass_length digits pass count is in
    let enough : nat_lt (length pass) 16 ≡ false = le-ltb _ _ (omega arith) in
    rw (enough, take_all 16 pass (omega arith)) refl

-- a pass that stands before the mark, or none
pub pass_short : (mark : ℕ) (text : List ℕ) → length text < 32 → None ≡ pass_then mark text
unfolding pass_then
pass_short mark text short = rw (drop_all 32 text (omega arith)) refl

pub pass_unmarked : (mark : ℕ) (text : List ℕ) → None ≡ behind (mark ∷ []) (drop 32 text) → None ≡ pass_then mark text
unfolding pass_then
pass_unmarked mark text none = rw (← none) refl

pub pass_bad : (mark : ℕ) (text rest : List ℕ) → Some rest ≡ behind (mark ∷ []) (drop 32 text) → None ≡ bytes_of (take 32 text) → None ≡ pass_then mark text
unfolding pass_then
pass_bad mark text rest some none = rw (← some, ← none) refl

pub pass_there : (mark : ℕ) (text rest pass : List ℕ) → Some rest ≡ behind (mark ∷ []) (drop 32 text) → Some pass ≡ bytes_of (take 32 text) → Some (pass, rest) ≡ pass_then mark text
unfolding pass_then
pass_there mark text rest pass some is = rw (← some, ← is) refl
