-- Settling: a turn that is settled stays so.
use Rattle.std.proofs.Common.{Bool, List, [], ap, arith, inl, inr, length, refl, true, ℕ, ◌++◌, ◌<◌, ◌∙◌, ◌∷◌, ◌≡◌, ◌≤◌, ◌⊎◌}
use Rattle.std.specs.List.{list_any}
use Rattle.std.proofs.lemmas.Bool.{and_from, and_parts, eqb-true, false≢true, or_cases, or_left}
use Rattle.std.proofs.lemmas.List.Folds.{list_any-append}
use Rattle.std.proofs.lemmas.Option.{slice_get_within}
use Rattle.plain_lemmas.proofs.Tests.{not_kept}
use Rattle.definitions.specs.declared.frames.TurnFrame.{TurnFrame}
use Rattle.definitions.specs.declared.frames.TurnFrame.TheVariants.{Commit, Reveal}
use Rattle.definitions.specs.declared.logs.Entry.{Entry}
use Rattle.definitions.specs.World.{Game}
use Rattle.definitions.specs.Places.{reveal_place}
use Rattle.definitions.specs.Logs.{made, made_in}
use Rattle.definitions.specs.Held.{known, next_place, resolved_count}
use Rattle.definitions.specs.Answers.{place_of}
use Rattle.definitions.specs.Honest.{IsHonest, lets_commit, others}
use Rattle.definitions.specs.Settled.{is_reveal_of, is_settled}
use Rattle.definition_laws.specs.Members.{Has}
use Rattle.definition_laws.proofs.ForPeers.{made_item_place, own_next}
use Rattle.definition_laws.proofs.Listing.{either_kept, flat_map_append, list_all_kept}
use Rattle.definition_laws.proofs.Meetings.{meets_before}
use Rattle.definition_laws.proofs.Members.{Has_slice_get}
use Rattle.definition_laws.proofs.Nexts.{known_orderly}
use Rattle.definition_laws.proofs.Order.{reveal_known}
use Rattle.definition_laws.proofs.Permits.{resolved_later}

any_Has : {X : Type 0} (p : X → Bool) (xs : List X) → list_any p xs ≡ true → (x : X) × Has xs x × (p x ≡ true)
any_Has p [] h = absurd (false≢true h)
any_Has {X} p (x ∷ xs) h = go (or_cases (p x) (list_any p xs) h) (any_Has p xs)
  where
    go : (p x ≡ true) ⊎ (list_any p xs ≡ true) → (list_any p xs ≡ true → (y : X) × Has xs y × (p y ≡ true)) → (y : X) × Has (x ∷ xs) y × (p y ≡ true)
    go (inl a) ih = (x, inl refl, a)
    go (inr b) ih = let r = ih b in (r.0, inr r.1, r.2)

-- a turn whose reveal an honest owner made is resolved of it
pub revealed_is_resolved : (game : Game) (me t : ℕ) (h : List Entry) → 1 ≤ game.ahead → IsHonest game me h → list_any (is_reveal_of t) (made h) ≡ true →
    t < resolved_count game me h me
unfolding place_of
revealed_is_resolved game me t h d i r = go (any_Has (is_reveal_of t) (made h) r).0 (any_Has (is_reveal_of t) (made h) r).1 (any_Has (is_reveal_of t) (made h) r).2
  where
    go : (f : TurnFrame) → Has (made h) f → is_reveal_of t f ≡ true → t < resolved_count game me h me
    go (Commit p u c) m e = absurd (false≢true e)
    go (Reveal p u m n) there e =
        let at = Has_slice_get (made h) (Reveal p u m n) there in
        let within = slice_get_within (made h) at.0 (Reveal p u m n) at.1 in
        let place = made_item_place game me at.0 h (Reveal p u m n) d i at.1 in
        let turn = eqb-true u t e in
        let lt = place.2 in
        let here = place.0 in
        let next = own_next game me h d i in
        let known_places = reveal_known game (length (known game me h me).digests) (length (known game me h me).moves) u d (known_orderly game me me h) lt in
        let below : reveal_place game u < next_place game me h me = omega arith in
        let resolved = known_places.1 below in
        omega arith

-- a turn that is settled stays settled
pub settled_stays : (game : Game) (me t : ℕ) (g h : List Entry) → 1 ≤ game.ahead → IsHonest game me g → is_settled game me g t ≡ true → is_settled game me (g ++ h) t ≡ true
unfolding is_settled made
settled_stays game me t g h d i s =
    let both = and_parts _ _ s in
    let count = revealed_is_resolved game me t g d i both.0 in
    and_from _ _
    (ap (list_any (is_reveal_of t)) (flat_map_append made_in g h) ∙ list_any-append (is_reveal_of t) (made g) (made h) ∙ or_left _ _ both.0)
    (list_all_kept (lets_commit game me g t) (lets_commit game me (g ++ h) t) (others game me)
    (λ q. either_kept _ _ _ _ (resolved_later game me q t g h) (not_kept _ _ (meets_before game me q t g h (omega arith)))) both.1)
