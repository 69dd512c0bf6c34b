-- Spotted: the frames of a finding are kept with its spots.
use Rattle.std.proofs.Common.{Bool, List, None, Some, [], ap, arith, false, inl, inr, refl, subst, suc, sym, true, zero, ℕ, ◌+◌, ◌≤◌, ◌∙◌, ◌∷◌, ◌≡◌, ◌⊎◌, Option, slice_get, length, take}
use Rattle.std.specs.Prelude.{◌&&◌, ◌==◌, find, if◌then◌else◌, option_map}
use Rattle.std.proofs.lemmas.Bool.{false≢true, and_from, and_parts, eq-eqb, eqb-true}
use Rattle.std.proofs.lemmas.Option.{same_Some}
use Rattle.definitions.specs.declared.findings.Spot.{Spot}
use Rattle.definitions.specs.declared.findings.Kind.{Kind}
use Rattle.definitions.specs.declared.findings.Kind.TheVariants.{TwoCommits, BadOpening, Collision, Illegal}
use Rattle.definitions.specs.declared.findings.Finding.{Finding}
use Rattle.definitions.specs.declared.frames.TurnFrame.{TurnFrame}
use Rattle.definitions.specs.declared.logs.Entry.{Entry}
use Rattle.definitions.specs.Lists.{item_or}
use Rattle.definitions.specs.World.{Game}
use Rattle.definitions.specs.Held.{commit_of}
use Rattle.definitions.specs.Findings.{Sighting, are_bad_opening, are_collision, are_illegal, are_two_commits, finding_at, got_known, is_illegal_at}
use Rattle.definition_laws.specs.Members.{Has}
use Rattle.definition_laws.specs.Spots.{IsSighting}
use Rattle.frame_index.specs.declared.seen.Seen.{Seen}
use Rattle.frame_index.specs.InLog.{NoneBelow, is_bad, takes}
use Rattle.frame_index.specs.Keeps.{Keeps, IsLeast, IsLeastOf, finding_by, sighting_of}
use Rattle.frame_index.specs.Pairs.{bad_opening, collision, in_order, two_commits}
use Rattle.frame_index.specs.Wants.{is_before, least_from}
use Rattle.frame_index.proofs.Illegals.{illegal_none, none_below_more}
use Rattle.definition_laws.proofs.Sighted.{spot_from}
use Rattle.frame_index.proofs.Lowest.{least_is}
use Rattle.frame_index.proofs.Shown.{bad_opening_found, bad_opening_is, collision_found, collision_is, two_commits_found, two_commits_is}
use Rattle.frame_index.proofs.Wrong.{item_is, none_without_commit, none_without_wrong, wrong_found}
use Rattle.evidence.specs.Showing.{frame_at, if_there}
use Rattle.evidence.proofs.Showing.{frame_sighted}
use Rattle.evidence.proofs.Illegal.{illegal_reveals}
use Rattle.auditor.specs.Exhibits.{IsKeptAt, kept_at, spot_eq}

module _ (game : Game) (q t : ℕ) (logs : List (List Entry)) (kept : List Seen) (keeps : Keeps game q t logs kept) where
  -- both spots are those of frames that are kept
  abbrev Spotted : Finding → Type 0
  Spotted f = IsKeptAt kept f.first × IsKeptAt kept f.second

  pair_spotted : (test : TurnFrame → TurnFrame → Bool) (k : Kind) (o : Option (Spot × Spot)) (f : Finding) → IsLeastOf test kept o → finding_by q t k o ≡ Some f → Spotted f
  pair_spotted test k None f is e = absurd (let none : None ≡ Some f = e in cc)
  pair_spotted test k (Some p) f is e =
      let made : Finding = record { player = q; turn = t; kind = k; first = p.0; second = p.1 } in
      let same : made ≡ f = same_Some made f e in
      ((is.lower, is.lower_in, sym is.first_is ∙ ap (λ (g : Finding). g.first) same), (is.higher, is.higher_in, sym is.second_is ∙ ap (λ (g : Finding). g.second) same))

  order_spotted : (r c : Seen) → Has kept r → Has kept c → IsKeptAt kept (in_order r c).0 × IsKeptAt kept (in_order r c).1
  order_spotted r c mr mc = go (is_before r.spot c.spot)
    where
      of_pair : Spot × Spot → Type 0
      of_pair p = IsKeptAt kept p.0 × IsKeptAt kept p.1

      go : (b : Bool) → of_pair (if b then (r.spot, c.spot) else (c.spot, r.spot))
      go true = ((r, mr, refl), (c, mc, refl))
      go false = ((c, mc, refl), (r, mr, refl))

  right : (i : ℕ) (h : List Entry) (f : TurnFrame) → slice_get logs i ≡ Some h → is_illegal_at game q t (got_known game q h) f ≡ is_bad game q t logs i f
  right i h f at = ap (λ (x : List Entry). is_illegal_at game q t (got_known game q x) f) (sym (item_is logs i h at))

  abbrev AreSpotted : Type 0
  AreSpotted = (f : Finding) → finding_at game logs q t Illegal ≡ Some f → Spotted f

  -- where no log below shows an illegal move, the first one that does has its pair among what is kept
  spotted_from : (n i : ℕ) → length logs ≤ n + i → NoneBelow game q t logs i → AreSpotted
  spotted_from zero i le below = λ f e. absurd (let none : None ≡ Some f = illegal_none game q t logs kept keeps i (omega arith) below ∙ e in cc)
  spotted_from (suc n) i le below = with_commit (spotted_from n (i + 1) (omega arith)) (least_from (takes (commit_of t) i) None kept) (least_is (takes (commit_of t) i) kept _ refl)
    where
      next : (NoneBelow game q t logs (i + 1) → AreSpotted) → ((a b : Sighting) → a.spot.log ≡ i → IsSighting logs q t a → IsSighting logs q t b → are_illegal game q t logs a b ≡ true → ⊥) → AreSpotted
      next more none = more (none_below_more game q t logs kept keeps i None refl (λ h at. none) below)

      with_wrong : (NoneBelow game q t logs (i + 1) → AreSpotted) → (c : Seen) → IsLeast (takes (commit_of t) i) kept (Some c) → (o : Option Seen) → IsLeast (λ k. (k.spot.log == i) && is_bad game q t logs i k.frame) kept o → AreSpotted
      with_wrong more c l None m = next more (none_without_wrong game q t logs kept keeps (is_bad game q t logs) right i m)
      with_wrong more c l (Some r) m = λ f e.
          let bad = and_parts _ _ m.1 in
          let reveals = illegal_reveals game q (take t (got_known game q (item_or logs i [])).moves) r.frame (and_parts _ _ bad.1).1 in
          let pair = order_spotted r c m.0 l.0 in
          let p = in_order r c in
          let made : Finding = record { player = q; turn = t; kind = Illegal; first = p.0; second = p.1 } in
          let same : made ≡ f = same_Some made f (sym (wrong_found game q t logs kept keeps (is_bad game q t logs) right i c r (record { commit = l; wrong = m }) below reveals) ∙ e) in
          subst Spotted same pair

      with_commit : (NoneBelow game q t logs (i + 1) → AreSpotted) → (o : Option Seen) → IsLeast (takes (commit_of t) i) kept o → AreSpotted
      with_commit more None l = next more (none_without_commit game q t logs kept keeps (is_bad game q t logs) right i l)
      with_commit more (Some c) l = with_wrong more c l (least_from (λ k. (k.spot.log == i) && is_bad game q t logs i k.frame) None kept) (least_is (λ k. (k.spot.log == i) && is_bad game q t logs i k.frame) kept _ refl)

  pub spotted : (k : Kind) (f : Finding) → finding_at game logs q t k ≡ Some f → IsKeptAt kept f.first × IsKeptAt kept f.second
  spotted TwoCommits f e = pair_spotted (are_two_commits game) TwoCommits (two_commits kept) f (two_commits_is game q t logs kept keeps) (sym (two_commits_found game q t logs kept keeps) ∙ e)
  spotted BadOpening f e = pair_spotted (are_bad_opening game) BadOpening (bad_opening kept) f (bad_opening_is game q t logs kept keeps) (sym (bad_opening_found game q t logs kept keeps) ∙ e)
  spotted Collision f e = pair_spotted (are_collision game) Collision (collision kept) f (collision_is game q t logs kept keeps) (sym (collision_found game q t logs kept keeps) ∙ e)
  spotted Illegal f e = spotted_from (length logs) 0 (omega arith) (λ a b lt va vb h. absurd (omega arith)) f e

-- what is kept with a spot is the frame that was got there
frame_there : (logs : List (List Entry)) (q t : ℕ) (s : Spot) (ks : List Seen) → ((k : Seen) → Has ks k → IsSighting logs q t (sighting_of k)) → IsKeptAt ks s → if_there (kept_at ks s) ≡ frame_at logs s
frame_there logs q t s [] all there = absurd there.1
frame_there logs q t s (k ∷ ks) all there = go (frame_there logs q t s ks (λ x m. all x (inr m))) (spot_eq k.spot s) refl
  where
    rest : spot_eq k.spot s ≡ false → (k ≡ there.0) ⊎ Has ks there.0 → IsKeptAt ks s
    rest e (inl same) =
        let at : k.spot ≡ s = ap (λ (x : Seen). x.spot) same ∙ there.2 in
        absurd (false≢true (sym e ∙ and_from _ _ (eq-eqb _ _ (ap (λ (x : Spot). x.log) at)) (eq-eqb _ _ (ap (λ (x : Spot). x.entry) at))))
    rest e (inr m) = (there.0, m, there.2)

    go : (IsKeptAt ks s → if_there (kept_at ks s) ≡ frame_at logs s) → (b : Bool) → spot_eq k.spot s ≡ b → if_there (option_map (λ k. k.frame) (if b then Some k else find (λ k. spot_eq k.spot s) ks)) ≡ frame_at logs s
    go more true e =
        let parts = and_parts _ _ e in
        sym (frame_sighted logs q t (sighting_of k) s (sym (spot_from k.spot s (eqb-true _ _ parts.0) (eqb-true _ _ parts.1))) (all k (inl refl)))
    go more false e = more (rest e there.1)

pub kept_there : (game : Game) (q t : ℕ) (logs : List (List Entry)) (kept : List Seen) (s : Spot) → Keeps game q t logs kept → IsKeptAt kept s → if_there (kept_at kept s) ≡ frame_at logs s
kept_there game q t logs kept s keeps there = frame_there logs q t s kept keeps.within there
