-- Wrong: the least pair of a commitment and a reveal that opens it and is not legal, by the least log that has one.
use Rattle.std.proofs.Common.{Bool, List, None, Some, [], ap, arith, false, inl, inr, refl, subst, suc, sym, true, zero, ℕ, ◌+◌, ◌<◌, ◌∙◌, ◌∷◌, ◌≡◌, ◌≤◌, ◌⊎◌, slice_get}
use Rattle.std.specs.Prelude.{◌&&◌, ◌||◌, ◌==◌, if◌then◌else◌, is_some, option_map}
use Rattle.std.proofs.lemmas.Bool.{false≢true, and_from, and_parts, or_left, or_right, eqb-true, eq-eqb, cases_lt}
use Rattle.definitions.specs.declared.findings.Spot.{Spot}
use Rattle.definitions.specs.declared.findings.Kind.TheVariants.{Illegal}
use Rattle.definitions.specs.declared.frames.TurnFrame.{TurnFrame}
use Rattle.definitions.specs.declared.frames.TurnFrame.TheVariants.{Commit, Reveal}
use Rattle.definitions.specs.declared.logs.Entry.{Entry}
use Rattle.definitions.specs.declared.logs.Entry.TheVariants.{Got}
use Rattle.definitions.specs.Lists.{item_or}
use Rattle.definitions.specs.World.{Game}
use Rattle.definitions.specs.Held.{commit_of}
use Rattle.definitions.specs.Logs.{turn_of}
use Rattle.definitions.specs.Findings.{Sighting, are_illegal, finding_at, finding_of, got_known, is_commit, is_first_commit, is_illegal_at, show_kind, sightings, sightings_from}
use Rattle.definition_laws.specs.Members.{Has}
use Rattle.definition_laws.specs.Spots.{IsSighting, SpotBefore}
use Rattle.definition_laws.proofs.Sighted.{seen_is_sighting}
use Rattle.definition_laws.proofs.Least.{least_is_finding}
use Rattle.frame_index.specs.declared.seen.Seen.{Seen}
use Rattle.frame_index.specs.InLog.{takes, InOne}
use Rattle.frame_index.specs.Keeps.{Keeps, IsFirstOf, IsLeast, NotAfter, finding_by, sighting_of}
use Rattle.frame_index.specs.Wants.{is_before}
use Rattle.frame_index.specs.Pairs.{in_order}
use Rattle.definition_laws.proofs.Sighted.{spot_from}
use Rattle.frame_index.proofs.Lowest.{before_false, before_true, not_after_trans, before_trans}
use Rattle.frame_index.proofs.Lifted.{first_not_after, no_pair, one_frame}
use Rattle.frame_index.proofs.InSight.{NoCommit, first_at, none_first}

-- the log of a number
pub item_is : (logs : List (List Entry)) (i : ℕ) (h : List Entry) → slice_get logs i ≡ Some h → item_or logs i [] ≡ h
item_is [] i h at = absurd (let nothing : None ≡ Some h = at in cc)
item_is (x ∷ xs) zero h at = cc
item_is (x ∷ xs) (suc i) h at = item_is xs i h at

pub commit_some : (t : ℕ) (f : TurnFrame) → turn_of f ≡ t → is_commit f ≡ is_some (commit_of t f)
commit_some t (Commit p u d) e = sym (ap (λ (b : Bool). is_some (if b then Some d else None)) (eq-eqb u t e))
commit_some t (Reveal p u m n) e = refl

module _ (game : Game) (q t : ℕ) (logs : List (List Entry)) (kept : List Seen) (keeps : Keeps game q t logs kept) (bad : ℕ → TurnFrame → Bool)
    (right : (i : ℕ) (h : List Entry) (f : TurnFrame) → slice_get logs i ≡ Some h → is_illegal_at game q t (got_known game q h) f ≡ bad i f) where
  -- the first commitment of a log, where the kept one is the least
  is_first : (i : ℕ) (h : List Entry) (c : Seen) (a : Sighting) → slice_get logs i ≡ Some h → IsLeast (takes (commit_of t) i) kept (Some c) →
      is_first_commit (sightings_from q t i 0 h) a ≡ (c.spot.entry == a.spot.entry)
  is_first i h c a there least = first_at q t i 0 h c.spot.entry c.frame a entry seen.turn (commit_some t c.frame seen.turn ∙ (and_parts _ _ least.1).1) earlier
      ∙ (let place : 0 + c.spot.entry ≡ c.spot.entry = omega arith in ap (λ (n : ℕ). n == a.spot.entry) place)
    where
      seen : IsSighting logs q t (sighting_of c)
      seen = keeps.within c least.0

      log : c.spot.log ≡ i
      log = eqb-true c.spot.log i (and_parts (c.spot.log == i) (is_some (commit_of t c.frame)) least.1).0

      entry : slice_get h c.spot.entry ≡ Some (Got q c.frame)
      entry =
          let one : Some seen.log ≡ Some h = sym seen.there ∙ ap (slice_get logs) log ∙ there in
          let same : seen.log ≡ h = cc in
          ap (λ (x : List Entry). slice_get x c.spot.entry) (sym same) ∙ seen.got

      earlier : (m : ℕ) → m < c.spot.entry → NoCommit q t h m
      earlier m lt x at turn = go (is_commit x) refl
        where
          go : (b : Bool) → is_commit x ≡ b → b ≡ false
          go false e = refl
          go true e = absurd (against k.0 k.2 (least.2 k.0 k.1 (and_from _ _ (eq-eqb k.0.spot.log i k.2.log) passes)))
            where
              k : (k : Seen) × Has kept k × IsFirstOf k (record { spot = record { log = i; entry = m }; frame = x })
              k = keeps.firsts (record { spot = record { log = i; entry = m }; frame = x }) (record { log = h; there = there; got = at; turn = turn })

              passes : is_some (commit_of t k.0.frame) ≡ true
              passes = ap (λ (f : TurnFrame). is_some (commit_of t f)) k.2.frame ∙ sym (commit_some t x turn) ∙ e

              against : (s : Seen) → IsFirstOf s (record { spot = record { log = i; entry = m }; frame = x }) → NotAfter c.spot s.spot → ⊥
              against s w (inl (inl a)) = let u = w.log in let v = log in omega arith
              against s w (inl (inr a)) = let u = w.entry in let v = a.1 in omega arith
              against s w (inr a) = let u = w.entry in let v : c.spot.entry ≡ s.spot.entry = ap (λ (u : Spot). u.entry) a in omega arith

  -- a wrong pair of sightings, in one log: its parts
  record Parts (a b : Sighting) : Type 0 where
    log : List Entry
    there : slice_get logs a.spot.log ≡ Some log
    same : b.spot.log ≡ a.spot.log
    first : is_first_commit (sightings_from q t a.spot.log 0 log) a ≡ true
    wrong : bad a.spot.log b.frame ≡ true

  parts : (a b : Sighting) → IsSighting logs q t a → are_illegal game q t logs a b ≡ true → Parts a b
  unfolding are_illegal
  parts a b va h =
      let x = and_parts _ _ h in
      let y = and_parts _ _ x.0 in
      let item = item_is logs a.spot.log va.log va.there in
      record {
        log = va.log;
        there = va.there;
        same = sym (eqb-true _ _ y.0);
        first = ap (λ (g : List Entry). is_first_commit (sightings_from q t a.spot.log 0 g) a) (sym item) ∙ y.1;
        wrong = sym (right a.spot.log va.log b.frame va.there) ∙ ap (λ (g : List Entry). is_illegal_at game q t (got_known game q g) b.frame) (sym item) ∙ x.1;
      }

  module _ (i : ℕ) (c r : Seen) (one : InOne q t kept bad i c r)
      (below : (a b : Sighting) → a.spot.log < i → IsSighting logs q t a → IsSighting logs q t b → are_illegal game q t logs a b ≡ true → ⊥) where
    c_seen : IsSighting logs q t (sighting_of c)
    c_seen = keeps.within c one.commit.0

    r_seen : IsSighting logs q t (sighting_of r)
    r_seen = keeps.within r one.wrong.0

    c_log : c.spot.log ≡ i
    c_log = eqb-true c.spot.log i (and_parts (c.spot.log == i) (is_some (commit_of t c.frame)) one.commit.1).0

    r_log : r.spot.log ≡ i
    r_log = eqb-true r.spot.log i (and_parts (r.spot.log == i) (bad i r.frame) one.wrong.1).0

    there : slice_get logs i ≡ Some c_seen.log
    there = ap (slice_get logs) (sym c_log) ∙ c_seen.there

    pub pair_shown : are_illegal game q t logs (sighting_of c) (sighting_of r) ≡ true
    unfolding are_illegal
    pair_shown = and_from _ _ (and_from _ _ (eq-eqb c.spot.log r.spot.log (c_log ∙ sym r_log)) first) wrong
      where
        item : item_or logs c.spot.log [] ≡ c_seen.log
        item = item_is logs c.spot.log c_seen.log c_seen.there

        first : is_first_commit (sightings_from q t c.spot.log 0 (item_or logs c.spot.log [])) (sighting_of c) ≡ true
        first = (λ k. is_first_commit (sightings_from q t (c_log k) 0 (item k)) (sighting_of c)) ∙ is_first i c_seen.log c (sighting_of c) there one.commit ∙ eq-eqb c.spot.entry c.spot.entry refl

        wrong : is_illegal_at game q t (got_known game q (item_or logs c.spot.log [])) r.frame ≡ true
        wrong = ap (λ (g : List Entry). is_illegal_at game q t (got_known game q g) r.frame) item ∙ right i c_seen.log r.frame there ∙ (and_parts (r.spot.log == i) (bad i r.frame) one.wrong.1).1

    -- any such pair is of a later log, or of the same commitment and no earlier reveal
    abbrev Later : Sighting → Sighting → Type 0
    Later x y = ((i < x.spot.log) × (y.spot.log ≡ x.spot.log)) ⊎ ((c.spot ≡ x.spot) × NotAfter r.spot y.spot)

    later : (x y : Sighting) → IsSighting logs q t x → IsSighting logs q t y → are_illegal game q t logs x y ≡ true → Later x y
    later x y vx vy h = go (cases_lt x.spot.log i) (cases_lt i x.spot.log)
      where
        p : Parts x y
        p = parts x y vx h

        at : x.spot.log ≡ i → Later x y
        at e = inr (spot_from c.spot x.spot (c_log ∙ sym e) entry, not_after_trans r.spot k.0.spot y.spot (one.wrong.2 k.0 k.1 passes) (first_not_after k.0 y k.2))
          where
            same : p.log ≡ c_seen.log
            same = let a : Some p.log ≡ Some c_seen.log = sym p.there ∙ ap (slice_get logs) e ∙ there in cc

            entry : c.spot.entry ≡ x.spot.entry
            entry = eqb-true c.spot.entry x.spot.entry (sym (is_first i c_seen.log c x there one.commit)
                ∙ (λ j. is_first_commit (sightings_from q t (sym e j) 0 (sym same j)) x) ∙ p.first)

            k : (k : Seen) × Has kept k × IsFirstOf k y
            k = keeps.firsts y vy

            passes : ((k.0.spot.log == i) && bad i k.0.frame) ≡ true
            passes = and_from _ _ (eq-eqb k.0.spot.log i (k.2.log ∙ p.same ∙ e)) (ap (bad i) k.2.frame ∙ ap (λ (n : ℕ). bad n y.frame) (sym e) ∙ p.wrong)

        go : (x.spot.log < i) ⊎ (i ≤ x.spot.log) → (i < x.spot.log) ⊎ (x.spot.log ≤ i) → Later x y
        go (inl a) b = absurd (below x y a vx vy h)
        go (inr a) (inl b) = inl (b, p.same)
        go (inr a) (inr b) = at (omega arith)

    reveal_apart : is_commit r.frame ≡ false → c.spot ≡ r.spot → ⊥
    reveal_apart no_commit e =
        let frames = one_frame logs q t (sighting_of c) (sighting_of r) c_seen r_seen e in
        false≢true (sym no_commit ∙ ap is_commit (sym frames) ∙ commit_some t c.frame c_seen.turn ∙ (and_parts (c.spot.log == i) (is_some (commit_of t c.frame)) one.commit.1).1)

    -- the pair of the least log is the finding
    pub wrong_found : is_commit r.frame ≡ false → finding_at game logs q t Illegal ≡ finding_by q t Illegal (Some (in_order r c))
    unfolding show_kind
    wrong_found no_commit = by (is_before r.spot c.spot) refl
      where
        Within : Spot → Spot → Sighting → Sighting → Type 0
        Within s u a b = SpotBefore s a.spot ⊎ ((s ≡ a.spot) × (SpotBefore u b.spot ⊎ (u ≡ b.spot)))

        cases : (a b : Sighting) → (are_illegal game q t logs a b || are_illegal game q t logs b a) ≡ true → (are_illegal game q t logs a b ≡ true) ⊎ (are_illegal game q t logs b a ≡ true)
        cases a b h = go (are_illegal game q t logs a b) refl h
          where
            go : (k : Bool) → are_illegal game q t logs a b ≡ k → (k || are_illegal game q t logs b a) ≡ true → (are_illegal game q t logs a b ≡ true) ⊎ (are_illegal game q t logs b a ≡ true)
            go true e h = inl e
            go false e h = inr h

        -- a pair of a later log comes later
        far : (s u : Spot) (a b : Sighting) → s.log ≡ i → i < a.spot.log → Within s u a b
        far s u a b e lt = inl (inl (omega arith))

        by : (k : Bool) → is_before r.spot c.spot ≡ k → finding_at game logs q t Illegal ≡ finding_by q t Illegal (Some (in_order r c))
        by true e = rw e (least_is_finding game logs (record { player = q; turn = t; kind = Illegal; first = r.spot; second = c.spot }) (record {
          lower = sighting_of r;
          higher = sighting_of c;
          first_is = refl;
          second_is = refl;
          lower_seen = r_seen;
          higher_seen = c_seen;
          in_order = before_true r.spot c.spot e;
          shown = or_right _ _ pair_shown;
          least = λ a b va vb before h. pick a b va vb before (cases a b h);
        }))
          where
            one_way : (a b : Sighting) → Later a b → Within r.spot c.spot a b
            one_way a b (inl l) = far r.spot c.spot a b r_log l.0
            one_way a b (inr l) = inl (subst (SpotBefore r.spot) l.0 (before_true r.spot c.spot e))

            other_way : (a b : Sighting) → Later b a → Within r.spot c.spot a b
            other_way a b (inl l) = let lt = l.0 in let same = l.1 in far r.spot c.spot a b r_log (omega arith)
            other_way a b (inr l) = at l.1
              where
                at : NotAfter r.spot a.spot → Within r.spot c.spot a b
                at (inl x) = inl x
                at (inr x) = inr (x, inr l.0)

            pick : (a b : Sighting) → IsSighting logs q t a → IsSighting logs q t b → SpotBefore a.spot b.spot → (are_illegal game q t logs a b ≡ true) ⊎ (are_illegal game q t logs b a ≡ true) → Within r.spot c.spot a b
            pick a b va vb before (inl h) = one_way a b (later a b va vb h)
            pick a b va vb before (inr h) = other_way a b (later b a vb va h)
        by false e = rw e (least_is_finding game logs (record { player = q; turn = t; kind = Illegal; first = c.spot; second = r.spot }) (record {
          lower = sighting_of c;
          higher = sighting_of r;
          first_is = refl;
          second_is = refl;
          lower_seen = c_seen;
          higher_seen = r_seen;
          in_order = order (before_false r.spot c.spot e);
          shown = or_left _ _ pair_shown;
          least = λ a b va vb before h. pick a b va vb before (cases a b h);
        }))
          where
            order : NotAfter c.spot r.spot → SpotBefore c.spot r.spot
            order (inl x) = x
            order (inr x) = absurd (reveal_apart no_commit x)

            one_way : (a b : Sighting) → Later a b → Within c.spot r.spot a b
            one_way a b (inl l) = far c.spot r.spot a b c_log l.0
            one_way a b (inr l) = inr (l.0, l.1)

            other_way : (a b : Sighting) → SpotBefore a.spot b.spot → Later b a → Within c.spot r.spot a b
            other_way a b before (inl l) = let lt = l.0 in let same = l.1 in far c.spot r.spot a b c_log (omega arith)
            other_way a b before (inr l) = inl (at l.1)
              where
                at : NotAfter r.spot a.spot → SpotBefore c.spot a.spot
                at (inl x) = before_trans c.spot r.spot a.spot (order (before_false r.spot c.spot e)) x
                at (inr x) = subst (SpotBefore c.spot) x (order (before_false r.spot c.spot e))

            pick : (a b : Sighting) → IsSighting logs q t a → IsSighting logs q t b → SpotBefore a.spot b.spot → (are_illegal game q t logs a b ≡ true) ⊎ (are_illegal game q t logs b a ≡ true) → Within c.spot r.spot a b
            pick a b va vb before (inl h) = one_way a b (later a b va vb h)
            pick a b va vb before (inr h) = other_way a b before (later b a vb va h)

  -- a log of which no commitment is kept shows nothing
  pub none_without_commit : (i : ℕ) → IsLeast (takes (commit_of t) i) kept None → (a b : Sighting) → a.spot.log ≡ i → IsSighting logs q t a → IsSighting logs q t b → are_illegal game q t logs a b ≡ true → ⊥
  none_without_commit i least a b log va vb h = false≢true (sym (none_first q t a.spot.log 0 p.log a none) ∙ p.first)
    where
      p : Parts a b
      p = parts a b va h

      none : (m : ℕ) → NoCommit q t p.log m
      none m x at turn = go (is_commit x) refl
        where
          go : (b : Bool) → is_commit x ≡ b → b ≡ false
          go false e = refl
          go true e = absurd (least k.0 k.1 (and_from _ _ (eq-eqb k.0.spot.log i (k.2.log ∙ log)) (ap (λ (f : TurnFrame). is_some (commit_of t f)) k.2.frame ∙ sym (commit_some t x turn) ∙ e)))
            where
              k : (k : Seen) × Has kept k × IsFirstOf k (record { spot = record { log = a.spot.log; entry = m }; frame = x })
              k = keeps.firsts (record { spot = record { log = a.spot.log; entry = m }; frame = x }) (record { log = p.log; there = p.there; got = at; turn = turn })

  -- nor does one of which no wrong reveal is kept
  pub none_without_wrong : (i : ℕ) → IsLeast (λ k. (k.spot.log == i) && bad i k.frame) kept None → (a b : Sighting) → a.spot.log ≡ i → IsSighting logs q t a → IsSighting logs q t b →
      are_illegal game q t logs a b ≡ true → ⊥
  none_without_wrong i least a b log va vb h =
      let p = parts a b va h in
      let k = keeps.firsts b vb in
      least k.0 k.1 (and_from _ _ (eq-eqb k.0.spot.log i (k.2.log ∙ p.same ∙ log)) (ap (bad i) k.2.frame ∙ ap (λ (n : ℕ). bad n b.frame) (sym log) ∙ p.wrong))

  -- where no log shows one there is no finding
  pub wrong_none : ((a b : Sighting) → IsSighting logs q t a → IsSighting logs q t b → are_illegal game q t logs a b ≡ true → ⊥) → finding_at game logs q t Illegal ≡ None
  unfolding finding_at show_kind
  wrong_none never =
      ap (option_map (finding_of q t Illegal)) (no_pair (show_kind game q t logs Illegal) (sightings q t 0 logs)
      (λ a b ma mb h. go a b (seen_is_sighting q t logs a ma) (seen_is_sighting q t logs b mb) (are_illegal game q t logs a b) refl h))
    where
      go : (a b : Sighting) → IsSighting logs q t a → IsSighting logs q t b → (k : Bool) → are_illegal game q t logs a b ≡ k → (k || are_illegal game q t logs b a) ≡ true → ⊥
      go a b va vb true e h = never a b va vb e
      go a b va vb false e h = never b a vb va h
