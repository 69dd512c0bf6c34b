use Rattle.std.proofs.Common.{Bool, false, refl, sym, true, ◌≡◌, ◌∙◌, ap}
use Rattle.std.specs.Prelude.{◌&&◌}
use Rattle.std.proofs.lemmas.Str.{IsUtf8-from_is_utf8, is_utf8-from_IsUtf8}
use Rattle.std.specs.Str.{is_utf8}
use Rattle.station.specs.Words.{is_plain}
use Rattle.station.proofs.texts.is_word.Goals as goal

pub returns-in-Ok : goal.returns-in-Ok
returns-in-Ok c = c.is_plain.ensures ∙ sym (ap (λ (b : Bool). b && is_plain c.args.word.now) (is_utf8-from_IsUtf8 c.args.word.now c.in-Ok.ensures.cases.1))

-- a test that can't be true
not_true : (b : Bool) → (b ≡ true → ⊥) → b ≡ false
not_true true h = absurd (h refl)
not_true false h = refl

pub returns-in-Err : goal.returns-in-Err
returns-in-Err c = sym (ap (λ (b : Bool). b && is_plain c.args.word.now) (not_true (is_utf8 c.args.word.now) (λ e. c.in-Err.ensures.cases.0 (IsUtf8-from_is_utf8 c.args.word.now e))))
