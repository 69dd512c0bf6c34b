-- Lifted: the least pair of what is kept is that of all sightings.
use Rattle.std.proofs.Common.{Bool, List, None, Some, [], ap, arith, false, inl, inr, refl, subst, sym, true, ℕ, ◌<◌, ◌∙◌, ◌∷◌, ◌≡◌, ◌≤◌, ◌⊎◌, Option, slice_get}
use Rattle.std.specs.Prelude.{cond, find, option_map}
use Rattle.std.specs.Option.{option_or}
use Rattle.std.proofs.lemmas.Bool.{false≢true, cases_lt}
use Rattle.definitions.specs.declared.findings.Spot.{Spot}
use Rattle.definitions.specs.declared.findings.Kind.{Kind}
use Rattle.definitions.specs.declared.frames.TurnFrame.{TurnFrame}
use Rattle.definitions.specs.declared.logs.Entry.{Entry}
use Rattle.definitions.specs.declared.logs.Entry.TheVariants.{Got}
use Rattle.definitions.specs.World.{Game}
use Rattle.definitions.specs.Findings.{Sighting, first_pair, finding_at, finding_of, show_kind, sightings}
use Rattle.definition_laws.specs.Members.{Has}
use Rattle.definition_laws.specs.Spots.{IsSighting, SpotBefore}
use Rattle.definition_laws.proofs.Sighted.{seen_is_sighting}
use Rattle.definition_laws.proofs.Least.{least_is_finding}
use Rattle.frame_index.specs.declared.seen.Seen.{Seen}
use Rattle.frame_index.specs.Keeps.{Keeps, IsFirstOf, IsLeastOf, NotAfter, finding_by, sighting_of}
use Rattle.definition_laws.proofs.Sighted.{spot_from}
use Rattle.frame_index.proofs.Lowest.{not_after_trans, before_trans}

-- where one spot has two sightings, they have one frame
pub one_frame : (logs : List (List Entry)) (q t : ℕ) (a b : Sighting) → IsSighting logs q t a → IsSighting logs q t b → a.spot ≡ b.spot → a.frame ≡ b.frame
one_frame logs q t a b v w e =
    let logs_same : Some v.log ≡ Some w.log = sym v.there ∙ ap (λ (s : Spot). slice_get logs s.log) e ∙ w.there in
    let log : v.log ≡ w.log = cc in
    let got : Some (Got q a.frame) ≡ Some (Got q b.frame) = sym v.got ∙ ap (λ (s : Spot). slice_get v.log s.entry) e ∙ ap (λ (h : List Entry). slice_get h b.spot.entry) log ∙ w.got in
    cc

-- what is kept is not after what it stands for
pub first_not_after : (k : Seen) (s : Sighting) → IsFirstOf k s → NotAfter k.spot s.spot
first_not_after k s f = go (cases_lt k.spot.entry s.spot.entry)
  where
    go : (k.spot.entry < s.spot.entry) ⊎ (s.spot.entry ≤ k.spot.entry) → NotAfter k.spot s.spot
    go (inl a) = inl (inr (f.log, a))
    go (inr a) = let le = f.entry in inr (spot_from k.spot s.spot f.log (omega arith))

find_no : {X : Type 0} (p : X → Bool) (xs : List X) → ((x : X) → Has xs x → p x ≡ true → ⊥) → find p xs ≡ None
find_no p [] h = refl
find_no {X} p (x ∷ xs) h = go (p x) refl (find_no p xs (λ y m. h y (inr m)))
  where
    go : (b : Bool) → p x ≡ b → find p xs ≡ None → cond b (Some x) (find p xs) ≡ None
    go true e ih = absurd (h x (inl refl) e)
    go false e ih = ih

-- no pair where no two pass
pub no_pair : {X : Type 0} (test : X → X → Bool) (xs : List X) → ((a b : X) → Has xs a → Has xs b → test a b ≡ true → ⊥) → first_pair test xs ≡ None
unfolding first_pair
no_pair test [] h = refl
no_pair {X} test (x ∷ xs) h =
    ap (λ (o : Option X). option_or (option_map (λ y. (x, y)) o) (first_pair test xs)) (find_no (test x) xs (λ y m. h x y (inl refl) (inr m)))
    ∙ no_pair test xs (λ a b m n. h a b (inr m) (inr n))

module _ (game : Game) (q t : ℕ) (logs : List (List Entry)) (kind : Kind) (test : TurnFrame → TurnFrame → Bool) (kept : List Seen)
    (swaps : (f g : TurnFrame) → test f g ≡ test g f) (apart : (f : TurnFrame) → test f f ≡ false)
    (shows : (a b : Sighting) → show_kind game q t logs kind a b ≡ test a.frame b.frame) (keeps : Keeps game q t logs kept) where
  -- two sightings that pass stand for two that are kept and pass
  Stand : Sighting → Sighting → Type 0
  Stand a b = (k : Seen) × (l : Seen) × Has kept k × Has kept l × IsFirstOf k a × IsFirstOf l b × (test k.frame l.frame ≡ true)

  stand : (a b : Sighting) → IsSighting logs q t a → IsSighting logs q t b → show_kind game q t logs kind a b ≡ true → Stand a b
  unfolding Stand
  stand a b va vb h =
      let x = keeps.firsts a va in
      let y = keeps.firsts b vb in
      (x.0, y.0, x.1, y.1, x.2, y.2, ap (λ (f : TurnFrame). test f y.0.frame) x.2.frame ∙ ap (test a.frame) y.2.frame ∙ sym (shows a b) ∙ h)

  -- the least pair of what is kept makes the finding
  pub lifted : (r : Option (Spot × Spot)) → IsLeastOf test kept r → finding_at game logs q t kind ≡ finding_by q t kind r
  unfolding finding_at Stand
  lifted None h =
      ap (option_map (finding_of q t kind)) (no_pair (show_kind game q t logs kind) (sightings q t 0 logs) (λ a b ma mb k.
      let s = stand a b (seen_is_sighting q t logs a ma) (seen_is_sighting q t logs b mb) k in h s.0 s.1 s.2 s.3 s.6))
  lifted (Some p) h = least_is_finding game logs (record { player = q; turn = t; kind = kind; first = p.0; second = p.1 }) (record {
    lower = sighting_of h.lower;
    higher = sighting_of h.higher;
    first_is = h.first_is;
    second_is = h.second_is;
    lower_seen = keeps.within h.lower h.lower_in;
    higher_seen = keeps.within h.higher h.higher_in;
    in_order = order (h.least h.higher h.lower h.higher_in h.lower_in (swaps _ _ ∙ h.shown)).0;
    shown = shows (sighting_of h.lower) (sighting_of h.higher) ∙ h.shown;
    least = least;
  })
    where
      order : NotAfter h.lower.spot h.higher.spot → SpotBefore h.lower.spot h.higher.spot
      order (inl a) = a
      order (inr e) =
          let frames = one_frame logs q t (sighting_of h.lower) (sighting_of h.higher) (keeps.within h.lower h.lower_in) (keeps.within h.higher h.higher_in) e in
          absurd (false≢true (sym (apart h.higher.frame) ∙ ap (λ (f : TurnFrame). test f h.higher.frame) (sym frames) ∙ h.shown))

      least : (a b : Sighting) → IsSighting logs q t a → IsSighting logs q t b → SpotBefore a.spot b.spot → show_kind game q t logs kind a b ≡ true →
          SpotBefore p.0 a.spot ⊎ ((p.0 ≡ a.spot) × (SpotBefore p.1 b.spot ⊎ (p.1 ≡ b.spot)))
      least a b va vb before k = by s (h.least s.0 s.1 s.2 s.3 s.6)
        where
          s : Stand a b
          s = stand a b va vb k

          second : NotAfter h.higher.spot b.spot → SpotBefore p.1 b.spot ⊎ (p.1 ≡ b.spot)
          second w = subst (λ (u : Spot). NotAfter u b.spot) (sym h.second_is) w

          by : (s : Stand a b) → NotAfter h.lower.spot s.0.spot × (h.lower.spot ≡ s.0.spot → NotAfter h.higher.spot s.1.spot) →
              SpotBefore p.0 a.spot ⊎ ((p.0 ≡ a.spot) × (SpotBefore p.1 b.spot ⊎ (p.1 ≡ b.spot)))
          by s w = at (not_after_trans h.lower.spot s.0.spot a.spot w.0 (first_not_after s.0 a s.4)) (first_not_after s.0 a s.4) w.0
            where
              at : NotAfter h.lower.spot a.spot → NotAfter s.0.spot a.spot → NotAfter h.lower.spot s.0.spot →
                  SpotBefore p.0 a.spot ⊎ ((p.0 ≡ a.spot) × (SpotBefore p.1 b.spot ⊎ (p.1 ≡ b.spot)))
              at (inl x) y z = inl (subst (λ (u : Spot). SpotBefore u a.spot) (sym h.first_is) x)
              at (inr x) y (inr z) = inr (h.first_is ∙ x, second (not_after_trans h.higher.spot s.1.spot b.spot (w.1 z) (first_not_after s.1 b s.5)))
              at (inr x) (inr y) (inl z) = inr (h.first_is ∙ x, second (not_after_trans h.higher.spot s.1.spot b.spot (w.1 (x ∙ sym y)) (first_not_after s.1 b s.5)))
              at (inr x) (inl y) (inl z) = inl (subst (λ (u : Spot). SpotBefore u a.spot) (sym h.first_is) (trans z y))
                where
                  trans : SpotBefore h.lower.spot s.0.spot → SpotBefore s.0.spot a.spot → SpotBefore h.lower.spot a.spot
                  trans u v = before_trans h.lower.spot s.0.spot a.spot u v
