-- InLog: the first frame of a log that a function takes, by what is kept.
use Rattle.std.proofs.Common.{Bool, List, None, Some, [], ap, arith, false, inl, inr, refl, suc, sym, true, zero, ℕ, ◌++◌, ◌<◌, ◌∙◌, ◌∷◌, ◌≡◌, ◌≤◌, Option, slice_get}
use Rattle.std.specs.Prelude.{flat_map, is_some, ◌==◌, if◌then◌else◌}
use Rattle.std.specs.Option.{option_or}
use Rattle.std.proofs.lemmas.Bool.{false≢true, and_parts, and_from, eqb-true, eq-eqb}
use Rattle.definitions.specs.declared.findings.Spot.{Spot}
use Rattle.definitions.specs.declared.frames.TurnFrame.{TurnFrame}
use Rattle.definitions.specs.declared.logs.Entry.{Entry}
use Rattle.definitions.specs.declared.logs.Entry.TheVariants.{Chose, Got, Made}
use Rattle.definitions.specs.Lists.{first_of}
use Rattle.definitions.specs.World.{Game}
use Rattle.definitions.specs.Logs.{got_in, got_of, turn_of}
use Rattle.definitions.specs.Findings.{Sighting}
use Rattle.definition_laws.specs.Members.{Has}
use Rattle.definition_laws.specs.Spots.{IsSighting}
use Rattle.frame_index.specs.declared.seen.Seen.{Seen}
use Rattle.frame_index.specs.Keeps.{Keeps, IsLeast, NotAfter, sighting_of}
use Rattle.frame_index.specs.InLog.{takes, taken}

module _ {Y : Type 0} (g : TurnFrame → Option Y) (q : ℕ) where
  -- none where it takes no frame of the player
  none_taken : (h : List Entry) → ((n : ℕ) (f : TurnFrame) → slice_get h n ≡ Some (Got q f) → g f ≡ None) → first_of g (got_of q h) ≡ None
  unfolding got_of
  none_taken [] r = refl
  none_taken (Chose u m n ∷ h) r = none_taken h (λ n f e. r (suc n) f e)
  none_taken (Made x ∷ h) r = none_taken h (λ n f e. r (suc n) f e)
  none_taken (Got p x ∷ h) r = go (p == q) refl (none_taken h (λ n f e. r (suc n) f e))
    where
      go : (b : Bool) → (p == q) ≡ b → first_of g (flat_map (got_in q) h) ≡ None → first_of g ((if b then x ∷ [] else []) ++ flat_map (got_in q) h) ≡ None
      go false e rest = rest
      go true e rest = ap (λ (o : Option Y). option_or o (first_of g (flat_map (got_in q) h))) (r 0 x (ap (λ (n : ℕ). Some (Got n x)) (eqb-true p q e))) ∙ rest

  -- the first that it takes
  first_taken : (h : List Entry) (n : ℕ) (f : TurnFrame) (y : Y) → slice_get h n ≡ Some (Got q f) → g f ≡ Some y →
      ((m : ℕ) (x : TurnFrame) → m < n → slice_get h m ≡ Some (Got q x) → g x ≡ None) → first_of g (got_of q h) ≡ Some y
  unfolding got_of
  first_taken [] n f y at e r = absurd (let nothing : None ≡ Some (Got q f) = at in cc)
  first_taken (Chose u m k ∷ h) zero f y at e r = absurd cc
  first_taken (Chose u m k ∷ h) (suc n) f y at e r = first_taken h n f y at e (λ m x lt. r (suc m) x (omega arith))
  first_taken (Made x ∷ h) zero f y at e r = absurd cc
  first_taken (Made x ∷ h) (suc n) f y at e r = first_taken h n f y at e (λ m x lt. r (suc m) x (omega arith))
  first_taken (Got p x ∷ h) zero f y at e r =
      let player : p ≡ q = cc in
      let frame : x ≡ f = cc in
      rw (eq-eqb p q player) (ap (λ (o : Option Y). option_or o (first_of g (flat_map (got_in q) h))) (ap g frame ∙ e))
  first_taken (Got p x ∷ h) (suc n) f y at e r = go (p == q) refl (first_taken h n f y at e (λ m x lt. r (suc m) x (omega arith)))
    where
      go : (b : Bool) → (p == q) ≡ b → first_of g (flat_map (got_in q) h) ≡ Some y → first_of g ((if b then x ∷ [] else []) ++ flat_map (got_in q) h) ≡ Some y
      go false e rest = rest
      go true e rest = ap (λ (o : Option Y). option_or o (first_of g (flat_map (got_in q) h))) (r 0 x (omega arith) (ap (λ (n : ℕ). Some (Got n x)) (eqb-true p q e))) ∙ rest

  module _ (game : Game) (t : ℕ) (logs : List (List Entry)) (i : ℕ) (h : List Entry) (kept : List Seen) (keeps : Keeps game q t logs kept)
      (there : slice_get logs i ≡ Some h) (of_turn : (f : TurnFrame) (y : Y) → g f ≡ Some y → turn_of f ≡ t) where
    -- a frame of the log that it takes stands for one that is kept with an entry that is no later
    abbrev Standing : ℕ → TurnFrame → Type 0
    Standing n f = (k : Seen) × Has kept k × (takes g i k ≡ true) × (k.spot.log ≡ i) × (k.spot.entry ≤ n)

    standing : (n : ℕ) (f : TurnFrame) (y : Y) → slice_get h n ≡ Some (Got q f) → g f ≡ Some y → Standing n f
    standing n f y at e =
        let s : Sighting = record { spot = record { log = i; entry = n }; frame = f } in
        let r = keeps.firsts s (record { log = h; there = there; got = at; turn = of_turn f y e }) in
        (r.0, r.1, and_from _ _ (eq-eqb r.0.spot.log i r.2.log) (ap (λ (x : TurnFrame). is_some (g x)) r.2.frame ∙ ap is_some e), r.2.log, r.2.entry)

    -- the first that it takes is that of the least that is kept
    pub first_in_log : (o : Option Seen) → IsLeast (takes g i) kept o → first_of g (got_of q h) ≡ taken g o
    first_in_log None least = none_taken h (λ n f at. misses n f at (g f) refl)
      where
        misses : (n : ℕ) (f : TurnFrame) → slice_get h n ≡ Some (Got q f) → (o : Option Y) → g f ≡ o → o ≡ None
        misses n f at None e = refl
        misses n f at (Some y) e = let s = standing n f y at e in absurd (least s.0 s.1 s.2)
    first_in_log (Some k) least = go (g k.frame) refl (and_parts _ _ least.1)
      where
        seen : IsSighting logs q t (sighting_of k)
        seen = keeps.within k least.0

        entry : (k.spot.log ≡ i) → slice_get h k.spot.entry ≡ Some (Got q k.frame)
        entry e =
            let one : Some seen.log ≡ Some h = sym seen.there ∙ ap (slice_get logs) e ∙ there in
            let log : seen.log ≡ h = cc in
            ap (λ (x : List Entry). slice_get x k.spot.entry) (sym log) ∙ seen.got

        earlier : (k.spot.log ≡ i) → (m : ℕ) (x : TurnFrame) → m < k.spot.entry → slice_get h m ≡ Some (Got q x) → (o : Option Y) → g x ≡ o → o ≡ None
        earlier at m x lt got None e = refl
        earlier at m x lt got (Some y) e = let s = standing m x y got e in absurd (against s.0 s.3 s.4 (least.2 s.0 s.1 s.2))
          where
            against : (s : Seen) → s.spot.log ≡ i → s.spot.entry ≤ m → NotAfter k.spot s.spot → ⊥
            against s log le (inl (inl a)) = omega arith
            against s log le (inl (inr a)) = let b = a.1 in omega arith
            against s log le (inr a) = let b : k.spot.entry ≡ s.spot.entry = ap (λ (u : Spot). u.entry) a in omega arith

        go : (o : Option Y) → g k.frame ≡ o → (((k.spot.log == i) ≡ true) × (is_some (g k.frame) ≡ true)) → first_of g (got_of q h) ≡ g k.frame
        go None e parts = absurd (false≢true (sym (ap is_some e) ∙ parts.1))
        go (Some y) e parts =
            let log = eqb-true k.spot.log i parts.0 in
            first_taken h k.spot.entry k.frame y (entry log) e (λ m x lt got. earlier log m x lt got (g x) refl) ∙ sym e
