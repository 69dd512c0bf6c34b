-- Accorded: one move more among those that are compared.
use Rattle.std.proofs.Common.{Bool, List, Some, [], ap, refl, sym, true, false, ◌++◌, ◌∙◌, ◌∷◌, ◌≡◌}
use Rattle.std.specs.Prelude.{◌&&◌, unwrap_or}
use Rattle.std.specs.List.{list_all}
use Rattle.std.proofs.Math.Bool.{and_assoc}
use Rattle.definitions.specs.declared.world.Move.{Move}
use Rattle.definitions.specs.Logs.{move_eq}
use Rattle.auditor.specs.declared.agreed.Accord.{Accord}
use Rattle.auditor.specs.Accords.{accord_of, agreed_in, is_alike}
use Rattle.frame_index.specs.Agreeing.{one_move}

and_last : (b : Bool) → (b && true) ≡ b
and_last true = refl
and_last false = refl

all_more : {X : Type 0} (p : X → Bool) (xs : List X) (x : X) → list_all p (xs ++ x ∷ []) ≡ (list_all p xs && p x)
all_more p [] x = and_last (p x)
all_more p (y ∷ ys) x = ap (λ (b : Bool). p y && b) (all_more p ys x) ∙ sym (and_assoc (p y) (list_all p ys) (p x))

pub accord_more : (ms : List Move) (m : Move) → accord_of (ms ++ m ∷ []) ≡ record { first = Some (unwrap_or (accord_of ms).first m); same = (accord_of ms).same && is_alike (accord_of ms).first m }
accord_more [] m = refl
accord_more (x ∷ ms) m =
    let made : Bool → Accord = λ b. record { first = Some x; same = b } in
    ap made (all_more (move_eq x) ms m)

pub one_is : (ms : List Move) → agreed_in (accord_of ms) ≡ one_move ms
one_is [] = refl
one_is (m ∷ ms) = refl
