use Rattle.std.proofs.Common.{List, [], ap, arith, subst, sym, true, ◌++◌, ◌∙◌, ◌∷◌, ◌≡◌, ◌≤◌, length, ℕ}
use Rattle.frame_index.specs.declared.kept.KeptFrame.{KeptFrame}
use Rattle.frame_index.specs.declared.kept.TheConstants.{FEW}
use Rattle.frame_index.specs.Kept.{HavePlaces, has_place, key_bytes}
use Rattle.frame_index.proofs.Placed.{places_push}
use Rattle.frame_index.proofs.kept.add.Goals as goal

pub returns-clause-places : goal.returns-clause-places
returns-clause-places c =
    let one : KeptFrame = c.in_ok-one.one in
    let ks : List KeptFrame = c.args.kept.now.items in
    let new = c.note_place.new.places in
    let of_one : key_bytes c.args.frame.now c.args.digest ≡ key_bytes one.frame one.digest = λ n. key_bytes (sym c.in_ok-one.ensures.0 n) (sym c.in_ok-one.ensures.1 n) in
    let here : FEW ≤ length ks → has_place new (key_bytes one.frame one.digest) ≡ true = λ few. subst (λ (key : List ℕ). has_place new key ≡ true) (c.key_of.ensures ∙ of_one) (c.in_ok-note_place.ensures.now (omega (arith, few, c.len.ensures, ap length c.make_room.ensures))) in
    subst (λ (xs : List KeptFrame). HavePlaces xs new) (sym (c.in_ok-push.ensures.items ∙ ap (λ (xs : List KeptFrame). xs ++ one ∷ []) c.make_room.ensures))
    (places_push ks one new here (λ at k few there. c.note_place.ensures.stay (key_bytes k.frame k.digest) (c.requires.places at k few there)))
