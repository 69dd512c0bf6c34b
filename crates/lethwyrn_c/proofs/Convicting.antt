-- Convicting: the two frames at a finding's entries show it.
use Rattle.std.proofs.Common.{◌≡◌, ℕ, zero, suc, ◌⊎◌, inl, inr, List, [], ◌∷◌, ◌++◌, length, refl, sym, ap, ◌∙◌, subst, arith}
use Rattle.std.specs.Prelude.{Option, Some, None, slice_get}
use Rattle.definitions.specs.declared.frames.TurnFrame.{TurnFrame}
use Rattle.definitions.specs.declared.logs.Entry.{Entry}
use Rattle.definitions.specs.declared.logs.Entry.TheVariants.{Chose, Made, Got}
use Rattle.definitions.specs.declared.findings.Finding.{Finding}
use Rattle.definitions.specs.declared.findings.Kind.{Kind}
use Rattle.definitions.specs.declared.findings.Kind.TheVariants.{TwoCommits, BadOpening, Collision, Illegal}
use Rattle.definitions.specs.Lists.{item_or}
use Rattle.definitions.specs.Exhibits.{Shows}
use Rattle.definitions.specs.Findings.{findings}
use Rattle.definition_laws.proofs.Members.{slice_get_Has}
use Rattle.definition_laws.proofs.WellFormed.{honest_well_formed}
use Rattle.grid_world.proofs.Reveals.{ahead_least}
use Rattle.evidence.specs.Laws.{frame_count}
use Rattle.evidence.specs.Showing as E
use Rattle.evidence.specs.Text.{exhibit_text}
use Rattle.evidence.proofs.Counted.{shown_counted}
use Rattle.evidence.proofs.Showing.{pairs_shown}
use Rattle.lethwyrn_c.specs.Convicting.{EvidenceConvicts}
use Rattle.lethwyrn_c.proofs.Fair.{runs_fair}
use Rattle.lethwyrn_c.specs.Showing.{exhibit_of, frame_at, got_in, text_if, text_of_kind, text_of_two}

-- the frame of the entry, or none, both ways
record IsGotThere (h : List Entry) (n e : ℕ) : Type 0 where
  frame : TurnFrame
  list_is : E.frame_got (slice_get (item_or (h ∷ []) n []) e) ≡ frame ∷ []
  there : frame_at h e ≡ Some frame

got_by : (o : Option Entry) → (E.frame_got o ≡ []) ⊎ ((f : TurnFrame) × (E.frame_got o ≡ f ∷ []) × (got_in o ≡ Some f))
got_by None = inl refl
got_by (Some (Chose t m n)) = inl refl
got_by (Some (Made f)) = inl refl
got_by (Some (Got q f)) = inr (f, refl, refl)

got_there : (h : List Entry) (n e : ℕ) → (E.frame_got (slice_get (item_or (h ∷ []) n []) e) ≡ []) ⊎ IsGotThere h n e
got_there h zero e = elim (got_by (slice_get h e)) [ inl none ↦ inl none | inr w ↦ inr (record { frame = w.0; list_is = w.1; there = w.2 }) ]
got_there h (suc n) e = inl refl

-- where the two lists have two frames, each has one
record AreTwo (h : List Entry) (f : Finding) : Type 0 where
  first : TurnFrame
  second : TurnFrame
  pair_is : E.pair_at (h ∷ []) f ≡ first ∷ second ∷ []
  first_at : frame_at h f.first.entry ≡ Some first
  second_at : frame_at h f.second.entry ≡ Some second

one_at_most : (h : List Entry) (n e : ℕ) (xs : List TurnFrame) → E.frame_got (slice_get (item_or (h ∷ []) n []) e) ≡ xs → length xs ≡ 2 → ⊥
one_at_most h n e xs is two = elim (got_there h n e) [
  | inl none ↦ (let l = ap length (sym none ∙ is) in absurd (omega (arith, two)))
  | inr w ↦ (let l = ap length (sym w.list_is ∙ is) in absurd (omega (arith, two)))
]

two_there : (h : List Entry) (f : Finding) → length (E.pair_at (h ∷ []) f) ≡ 2 → AreTwo h f
two_there h f two = elim (got_there h f.first.log f.first.entry) [
  | inl none ↦ absurd (one_at_most h f.second.log f.second.entry _ refl (ap (λ (xs : List TurnFrame). length (xs ++ E.frame_at (h ∷ []) f.second)) (sym none) ∙ two))
  | inr a ↦ elim (got_there h f.second.log f.second.entry) [
    | inl none ↦ absurd (let l : length (a.frame ∷ []) ≡ 2 = ap (λ (xs : List TurnFrame). length (xs ++ [])) (sym a.list_is) ∙ (ap (λ (xs : List TurnFrame). length (E.frame_at (h ∷ []) f.first ++ xs)) (sym none) ∙ two) in omega (arith, l))
    | inr b ↦ record {
      first = a.frame;
      second = b.frame;
      pair_is = ap (λ (xs : List TurnFrame). xs ++ E.frame_at (h ∷ []) f.second) a.list_is ∙ ap (λ (xs : List TurnFrame). a.frame ∷ xs) b.list_is;
      first_at = a.there;
      second_at = b.there;
    }
  ]
]

-- the text of the two, for every kind that two frames show
two_text : (h : List Entry) (f : Finding) (k : Kind) (a b : TurnFrame) → (k ≡ Illegal → ⊥) → frame_at h f.first.entry ≡ Some a → frame_at h f.second.entry ≡ Some b →
    text_of_kind h f k ≡ Some (exhibit_text (exhibit_of f a b))
two_text h f TwoCommits a b none x y = ap (λ (o : Option TurnFrame). text_of_two f o (frame_at h f.second.entry)) x ∙ ap (λ (o : Option TurnFrame). text_of_two f (Some a) o) y
two_text h f BadOpening a b none x y = ap (λ (o : Option TurnFrame). text_of_two f o (frame_at h f.second.entry)) x ∙ ap (λ (o : Option TurnFrame). text_of_two f (Some a) o) y
two_text h f Collision a b none x y = ap (λ (o : Option TurnFrame). text_of_two f o (frame_at h f.second.entry)) x ∙ ap (λ (o : Option TurnFrame). text_of_two f (Some a) o) y
two_text h f Illegal a b none x y = absurd (none refl)

two_counted : (k : Kind) (t n : ℕ) → (k ≡ Illegal → ⊥) → n ≡ frame_count k t → n ≡ 2
two_counted TwoCommits t n none e = e
two_counted BadOpening t n none e = e
two_counted Collision t n none e = e
two_counted Illegal t n none e = absurd (none refl)

pub convicts : EvidenceConvicts
convicts s taken named f r found none =
    let game = s.peer.game in
    let fair = runs_fair s taken named r in
    let h : List Entry = s.peer.entries in
    let well = honest_well_formed game s.peer.me h (ahead_least game fair.session) fair.honest in
    let shown : Shows game f.player f.turn f.kind (E.pair_at (h ∷ []) f) = pairs_shown game (h ∷ []) f ((s.peer.me, well), tt) (slice_get_Has (findings game (h ∷ [])) 0 f found) none in
    let two : AreTwo h f = two_there h f (two_counted f.kind f.turn _ none (shown_counted game f.player f.turn f.kind (E.pair_at (h ∷ []) f) shown)) in
    let text : text_if h (Some f) ≡ Some (exhibit_text (exhibit_of f two.first two.second)) = two_text h f f.kind two.first two.second none two.first_at two.second_at in
    record {
      first = two.first;
      second = two.second;
      text_is = ap (λ (o : Option Finding). text_if h o) found ∙ text;
      shows = subst (λ (fs : List TurnFrame). Shows game f.player f.turn f.kind fs) two.pair_is shown;
    }
