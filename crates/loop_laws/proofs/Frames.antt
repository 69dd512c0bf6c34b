-- Frames: what is so of the frames that came and were given stays so as more come and more are
-- made.
use Rattle.std.proofs.Common.{◌≡◌, ◌⊎◌, inl, inr, ℕ, ◌+◌, refl, ap, ◌∙◌, List, [], ◌∷◌, ◌++◌}
use Rattle.std.specs.Prelude.{Option, Some, slice_get}
use Rattle.definitions.specs.declared.frames.TurnFrame.{TurnFrame}
use Rattle.definition_laws.specs.Members.{Has}
use Rattle.definition_laws.proofs.Members.{Has_front, Has_back}
use Rattle.wire_frames.specs.declared.frames.Frame.{Frame}
use Rattle.wire_frames.specs.declared.frames.Frame.TheVariants.{Hello, Turn, Want}
use Rattle.loop_rules.specs.Settings.{Setting}
use Rattle.loop_laws.specs.Speaking.{IsNamed, AsksFor, IsAsked, IsOwnHello, Follows, AnyNamed}

-- each own frame of the first stands in the second, at its place
abbrev pub OwnMore : (first second : List TurnFrame) → Type 0
OwnMore first second = (place : ℕ) (f : TurnFrame) → slice_get first place ≡ Some f → slice_get second place ≡ Some f

abbrev pub AskedMore : (first second : List Frame) → Type 0
AskedMore first second = (place : ℕ) → IsAsked first place → IsAsked second place

abbrev pub NamedMore : Setting → (first second : List Frame) → Type 0
NamedMore s first second = (q : ℕ) → IsNamed s first q → IsNamed s second q

abbrev pub HasMore : (first second : List ℕ) → Type 0
HasMore first second = (q : ℕ) → Has first q → Has second q

pub asked_more : (came gs : List Frame) → AskedMore came (came ++ gs)
asked_more came gs place a = (a.0, Has_front came gs a.0 a.1, a.2)

pub named_more : (s : Setting) (came gs : List Frame) → NamedMore s came (came ++ gs)
named_more s came gs q n = (n.0, n.1, n.2 ++ gs, n.3, ap (λ (x : List Frame). x ++ gs) n.4)

pub asked_last : (came : List Frame) (f : Frame) (place : ℕ) → AsksFor f place → IsAsked (came ++ f ∷ []) place
asked_last came f place a = (f, Has_back came (f ∷ []) f (inl refl), a)

-- ---- the frames given, with the place that comes next after them

abbrev pub Goes : (own : List TurnFrame) → (came : List Frame) → (next : Option ℕ) → List Frame → (last : Option ℕ) → Type 0
Goes own came next [] last = next ≡ last
Goes own came next (Hello id q pass from ∷ more) last = ⊥
Goes own came next (Want place ∷ more) last = Goes own came next more last
Goes own came next (Turn f ∷ more) last = (place : ℕ) × (slice_get own place ≡ Some f) × ((next ≡ Some place) ⊎ IsAsked came place) × Goes own came (Some (place + 1)) more last

pub goes_follows : (own : List TurnFrame) (came : List Frame) (next : Option ℕ) (fs : List Frame) (last : Option ℕ) → Goes own came next fs last → Follows own came next fs
goes_follows own came next [] last g = tt
goes_follows own came next (Hello id q pass from ∷ more) last g = absurd g
goes_follows own came next (Want place ∷ more) last g = goes_follows own came next more last g
goes_follows own came next (Turn f ∷ more) last g = (g.0, g.1, g.2, goes_follows own came (Some (g.0 + 1)) more last g.3)

pub goes_want : (own : List TurnFrame) (came : List Frame) (next : Option ℕ) (fs : List Frame) (last : Option ℕ) (p : ℕ) → Goes own came next fs last → Goes own came next (fs ++ Want p ∷ []) last
goes_want own came next [] last p g = g
goes_want own came next (Hello id q pass from ∷ more) last p g = absurd g
goes_want own came next (Want place ∷ more) last p g = goes_want own came next more last p g
goes_want own came next (Turn f ∷ more) last p g = (g.0, g.1, g.2, goes_want own came (Some (g.0 + 1)) more last p g.3)

pub goes_turn : (own : List TurnFrame) (came : List Frame) (next : Option ℕ) (fs : List Frame) (last : Option ℕ) (f : TurnFrame) (place : ℕ) → slice_get own place ≡ Some f →
    (last ≡ Some place) ⊎ IsAsked came place → Goes own came next fs last → Goes own came next (fs ++ Turn f ∷ []) (Some (place + 1))
goes_turn own came next [] last f place at (inl e) g = (place, at, inl (g ∙ e), refl)
goes_turn own came next [] last f place at (inr a) g = (place, at, inr a, refl)
goes_turn own came next (Hello id q pass from ∷ more) last f place at w g = absurd g
goes_turn own came next (Want p ∷ more) last f place at w g = goes_turn own came next more last f place at w g
goes_turn own came next (Turn h ∷ more) last f place at w g = (g.0, g.1, g.2, goes_turn own came (Some (g.0 + 1)) more last f place at w g.3)

pub goes_more : (own made : List TurnFrame) (came all : List Frame) (next : Option ℕ) (fs : List Frame) (last : Option ℕ) → OwnMore own made → AskedMore came all →
    Goes own came next fs last → Goes made all next fs last
goes_more own made came all next [] last o a g = g
goes_more own made came all next (Hello id q pass from ∷ more) last o a g = absurd g
goes_more own made came all next (Want place ∷ more) last o a g = goes_more own made came all next more last o a g
goes_more own made came all next (Turn f ∷ more) last o a g = (
  g.0,
  o g.0 f g.1,
  elim g.2 [ inl e ↦ inl e | inr x ↦ inr (a g.0 x) ],
  goes_more own made came all (Some (g.0 + 1)) more last o a g.3,
)

pub follows_more : (own made : List TurnFrame) (came all : List Frame) (next : Option ℕ) (fs : List Frame) → OwnMore own made → AskedMore came all →
    Follows own came next fs → Follows made all next fs
follows_more own made came all next [] o a g = tt
follows_more own made came all next (Hello id q pass from ∷ more) o a g = absurd g
follows_more own made came all next (Want place ∷ more) o a g = follows_more own made came all next more o a g
follows_more own made came all next (Turn f ∷ more) o a g = (
  g.0,
  o g.0 f g.1,
  elim g.2 [ inl e ↦ inl e | inr x ↦ inr (a g.0 x) ],
  follows_more own made came all (Some (g.0 + 1)) more o a g.3,
)

-- ---- the own HELLO

pub hello_more : (s : Setting) (players all : List ℕ) (came more : List Frame) (f : Frame) → HasMore players all → NamedMore s came more → IsOwnHello s players came f → IsOwnHello s all more f
hello_more s players all came more (Hello id me pass next) p n h =
    (h.0, h.1, h.2, h.3, h.4, elim h.5 [ inl x ↦ inl (p h.0.player x) | inr x ↦ inr (n h.0.player x) ])
hello_more s players all came more (Turn f) p n h = absurd h
hello_more s players all came more (Want place) p n h = absurd h

pub any_more : (s : Setting) (came more : List Frame) (fs : List Frame) → NamedMore s came more → AnyNamed s came fs → AnyNamed s more fs
any_more s came more fs n (inl e) = inl e
any_more s came more fs n (inr x) = inr (x.0, n x.0 x.1)
