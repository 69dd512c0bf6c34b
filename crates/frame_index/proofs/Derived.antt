-- Derived: the test of a derived `==` on frames is that of the definitions.
use Rattle.std.proofs.Common.{Bool, None, Some, ap, refl, sym, ◌∙◌, ◌≡◌, Option}
use Rattle.std.specs.Prelude.{◌&&◌, ◌==◌}
use Rattle.std.specs.Option.{option_eq}
use Rattle.std.proofs.Math.Bool.{and_assoc}
use Rattle.definitions.specs.declared.world.Cell.{Cell}
use Rattle.definitions.specs.declared.frames.TurnFrame.{TurnFrame}
use Rattle.definitions.specs.declared.frames.TurnFrame.TheVariants.{Commit, Reveal}
use Rattle.definitions.specs.contracts.frames.TurnFramePartialEq.TheImpl.{eq-value}
use Rattle.definitions.specs.World.{cell_eq}
use Rattle.definitions.specs.Logs.{digest_eq, frame_eq, nonce_eq, strike_eq}

strike_test : (s r : Option Cell) → option_eq (λ x y. (x.x == y.x) && (x.y == y.y)) s r ≡ strike_eq s r
strike_test None None = refl
strike_test None (Some r) = refl
strike_test (Some s) None = refl
strike_test (Some s) (Some r) = refl

pub frame_test : (f g : TurnFrame) → eq-value.it f g ≡ frame_eq f g
frame_test (Commit p t d) (Commit q u e) = sym (and_assoc (p == q) (t == u) (digest_eq d e))
frame_test (Commit p t d) (Reveal q u m n) = refl
frame_test (Reveal p t m n) (Commit q u d) = refl
frame_test (Reveal p t m n) (Reveal q u k o) =
    ap (λ (b : Bool). (p == q) && ((t == u) && ((cell_eq m.to k.to && b) && nonce_eq n o))) (strike_test m.strike k.strike)
    ∙ ap (λ (b : Bool). (p == q) && b) (sym (and_assoc (t == u) (cell_eq m.to k.to && strike_eq m.strike k.strike) (nonce_eq n o)))
    ∙ sym (and_assoc (p == q) ((t == u) && (cell_eq m.to k.to && strike_eq m.strike k.strike)) (nonce_eq n o))
    ∙ ap (λ (b : Bool). b && nonce_eq n o) (sym (and_assoc (p == q) (t == u) (cell_eq m.to k.to && strike_eq m.strike k.strike)))
