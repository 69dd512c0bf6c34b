use Rattle.std.proofs.Common.{Bool, false, refl, true, ◌≡◌, ap}
use Rattle.std.proofs.lemmas.Str.{IsUtf8-from_is_utf8, is_utf8-from_IsUtf8}
use Rattle.std.specs.Prelude.{Some}
use Rattle.std.specs.Str.{is_utf8}
use Rattle.station.specs.Words.{is_plain}
use Rattle.station.proofs.texts.read_text.Goals as goal

-- a test that can't be true
not_true : (b : Bool) → (b ≡ true → ⊥) → b ≡ false
not_true true h = absurd (h refl)
not_true false h = refl

pub returns-then-is_plain : goal.returns-then-is_plain
returns-then-is_plain c =
    let utf8 : is_utf8 c.args.word.now ≡ true = is_utf8-from_IsUtf8 c.args.word.now c.in-Ok.ensures.cases.1 in
    let plain : is_plain c.args.word.now ≡ true = cc in
    rw (utf8, plain) (ap Some c.in-Ok.ensures.cases.0)

pub returns-else-is_plain : goal.returns-else-is_plain
returns-else-is_plain c =
    let utf8 : is_utf8 c.args.word.now ≡ true = is_utf8-from_IsUtf8 c.args.word.now c.in-Ok.ensures.cases.1 in
    let plain : is_plain c.args.word.now ≡ false = cc in
    rw (utf8, plain) refl

pub returns-in-Err : goal.returns-in-Err
returns-in-Err c =
    let utf8 : is_utf8 c.args.word.now ≡ false = not_true (is_utf8 c.args.word.now) (λ e. c.in-Err.ensures.cases.0 (IsUtf8-from_is_utf8 c.args.word.now e)) in
    rw utf8 refl
