-- Authentic: what logs take of an honest player whose frames alone they got: its own choices, and no finding.
use Rattle.std.proofs.Common.{List, None, Some, [], ap, refl, subst, sym, zero, suc, ℕ, ◌*◌, ◌∙◌, ◌∷◌, ◌≡◌, ◌≤◌, length, slice_get, take}
use Rattle.std.specs.Prelude.{map, ◌==◌}
use Rattle.std.proofs.lemmas.Bool.{cond-false, ne_eqb}
use Rattle.std.proofs.lemmas.Option.{slice_get_within}
use Rattle.plain_lemmas.proofs.Each.{each_kept}
use Rattle.definitions.specs.declared.world.Move.{Move}
use Rattle.definitions.specs.declared.openings.Opening.{Opening}
use Rattle.definitions.specs.declared.frames.TurnFrame.{TurnFrame}
use Rattle.definitions.specs.declared.logs.Entry.{Entry}
use Rattle.definitions.specs.declared.findings.Finding.{Finding}
use Rattle.definitions.specs.Lists.{EachIs}
use Rattle.definitions.specs.World.{Game}
use Rattle.definitions.specs.Logs.{chosen, frames_of, got_of, made}
use Rattle.definitions.specs.Held.{known, resolved}
use Rattle.definitions.specs.Findings.{finding_at, findings}
use Rattle.definitions.specs.Honest.{IsHonest}
use Rattle.definition_laws.specs.Members.{Has}
use Rattle.definitions.specs.Steps.{IsMadeIn}
use Rattle.definition_laws.proofs.Deliveries.{made_in_Has}
use Rattle.definition_laws.proofs.Innocent.{Conforms, conform_honest, innocent, known_chosen}
use Rattle.definition_laws.proofs.Least.{findings_Has}
use Rattle.definition_laws.proofs.Listing.{slice_get_take}
use Rattle.definition_laws.proofs.Members.{Has_each}
use Rattle.definition_laws.proofs.OwnLog.{own_honest}

-- frames that the player's own honest log made conform to what it chose
pub got_conform : (game : Game) (q : ℕ) (own h : List Entry) → 1 ≤ game.ahead → IsHonest game q own → EachIs (IsMadeIn own) (got_of q h) →
    EachIs (Conforms game (chosen q own)) (got_of q h)
got_conform game q own h d honest all =
    each_kept _ _ (got_of q h) (λ f at. Has_each (Conforms game (chosen q own)) (made own) f (conform_honest game q own d honest) (made_in_Has own f at)) all

-- a player of whom the logs got only what its own honest log made is never named
pub never_named : (game : Game) (q : ℕ) (own : List Entry) (logs : List (List Entry)) (f : Finding) → 1 ≤ game.ahead → IsHonest game q own →
    EachIs (λ g. EachIs (IsMadeIn own) (got_of q g)) logs → Has (findings game logs) f → f.player ≡ q → ⊥
never_named game q own logs f d honest all m player =
    let w = own_honest game q own d honest in
    let there = findings_Has game logs f m in
    let none = innocent game q f.turn (chosen q own) logs f.kind w.legal (each_kept _ _ logs (λ g h. got_conform game q own g d honest h) all) in
    let some : finding_at game logs q f.turn f.kind ≡ Some f = subst (λ (n : ℕ). finding_at game logs n f.turn f.kind ≡ Some f) player there.2 in
    let e : None ≡ Some f = sym none ∙ some in
    cc

slice_get_unmap : {X Y : Type 0} (f : X → Y) (xs : List X) (t : ℕ) (y : Y) → slice_get (map f xs) t ≡ Some y → (x : X) × (slice_get xs t ≡ Some x) × (f x ≡ y)
slice_get_unmap f [] t y h = absurd (let e : None ≡ Some y = h in cc)
slice_get_unmap f (x ∷ xs) zero y h = (x, refl, cc)
slice_get_unmap f (x ∷ xs) (suc t) y h = slice_get_unmap f xs t y h

-- a move accepted of such a player is the one that it chose
pub accepted_is_chosen : (game : Game) (me q t : ℕ) (own h : List Entry) (m : Move) → 1 ≤ game.ahead → IsHonest game q own → (q ≡ me → ⊥) →
    EachIs (IsMadeIn own) (got_of q h) → resolved game me h q t ≡ Some m → (o : Opening) × (slice_get (chosen q own) t ≡ Some o) × (o.mv ≡ m)
unfolding known
accepted_is_chosen game me q t own h m d honest other all e =
    let frames : frames_of me q h ≡ got_of q h = cond-false (q == me) _ _ (ne_eqb q me other) in
    let conform : EachIs (Conforms game (chosen q own)) (frames_of me q h) =
    subst (λ (fs : List TurnFrame). EachIs (Conforms game (chosen q own)) fs) (sym frames) (got_conform game q own h d honest all) in
    let moves = known_chosen game q (chosen q own) (frames_of me q h) (2 * game.turns) conform in
    let below = slice_get_within (known game me h q).moves t m e in
    let at : slice_get (map (λ o. o.mv) (take (length (known game me h q).moves) (chosen q own))) t ≡ Some m = ap (λ (ms : List Move). slice_get ms t) (sym moves) ∙ e in
    let o = slice_get_unmap (λ o. o.mv) (take (length (known game me h q).moves) (chosen q own)) t m at in
    (o.0, sym (slice_get_take (length (known game me h q).moves) t (chosen q own) below) ∙ o.1, o.2)
