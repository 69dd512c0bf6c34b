-- Shown: for each kind of two frames, the pair that is found is the least.
use Rattle.std.proofs.Common.{Bool, List, None, Some, ap, false, inl, inr, refl, sym, true, ℕ, ◌∙◌, ◌≡◌, ◌⊎◌, Option}
use Rattle.std.specs.Prelude.{not, ◌&&◌, ◌||◌, is_some}
use Rattle.std.proofs.lemmas.Bool.{false≢true, and_parts, and_from, or_left, or_right}
use Rattle.definitions.specs.declared.openings.Digest.{Digest}
use Rattle.definitions.specs.declared.frames.TurnFrame.{TurnFrame}
use Rattle.definitions.specs.declared.logs.Entry.{Entry}
use Rattle.definitions.specs.declared.findings.Kind.TheVariants.{TwoCommits, BadOpening, Collision}
use Rattle.definitions.specs.World.{Game}
use Rattle.definitions.specs.Held.{digest_of}
use Rattle.definitions.specs.Logs.{digest_eq, frame_eq}
use Rattle.definitions.specs.Findings.{finding_at, show_kind, is_reveal, is_commit, same_digest, are_two_commits, are_bad_opening, are_collision}
use Rattle.definition_laws.specs.Members.{Has}
use Rattle.definition_laws.proofs.Alike.{digest_eq_same, digest_eq_true, frame_eq_same, frame_eq_true}
use Rattle.frame_index.specs.declared.seen.Seen.{Seen}
use Rattle.frame_index.specs.declared.seen.Wanted.TheVariants.{Any, Commit, Reveal, CommitUnlike, Rival}
use Rattle.frame_index.specs.Wants.{wants, least_from, is_before, has_rival}
use Rattle.frame_index.specs.Pairs.{least, pair_with, in_order, two_commits, two_commits_by, partner_of, crossed, bad_opening, bad_opening_or, bad_opening_by, collision, collision_by}
use Rattle.frame_index.specs.Clashes.{AreApart}
use Rattle.frame_index.specs.Keeps.{Keeps, finding_by, IsLeast, IsPair, IsLeastOf, NotAfter, sighting_of}
use Rattle.frame_index.proofs.Lowest.{before_true, before_false, not_after_trans, least_is}
use Rattle.frame_index.proofs.Lifted.{one_frame, lifted}

no_is : (b : Bool) → not b ≡ true → b ≡ false
no_is false h = refl
no_is true h = absurd (false≢true h)

is_no : (b : Bool) → b ≡ false → not b ≡ true
is_no b e = ap not e

no_no : (b : Bool) → not (not b) ≡ b
no_no true = refl
no_no false = refl

-- a test of equality answers alike either way
module _ {X : Type 0} (eq : X → X → Bool) (yes : (x y : X) → eq x y ≡ true → x ≡ y) (same : (x : X) → eq x x ≡ true) where
  pub eq_swap : (x y : X) → eq x y ≡ eq y x
  eq_swap x y = go (eq x y) refl (eq y x) refl
    where
      go : (a : Bool) → eq x y ≡ a → (b : Bool) → eq y x ≡ b → a ≡ b
      go true e true f = refl
      go false e false f = refl
      go true e false f = sym (ap (eq y) (yes x y e) ∙ same y) ∙ f
      go false e true f = sym e ∙ (ap (eq x) (yes y x f) ∙ same x)

digest_swap : (d e : Digest) → digest_eq d e ≡ digest_eq e d
digest_swap = eq_swap digest_eq digest_eq_true digest_eq_same

frame_swap : (f g : TurnFrame) → frame_eq f g ≡ frame_eq g f
frame_swap = eq_swap frame_eq frame_eq_true frame_eq_same

-- what is unlike one of two like digests is unlike the other
unlike : (d e f : Digest) → digest_eq d e ≡ true → digest_eq d f ≡ false → digest_eq e f ≡ false
unlike d e f h k = ap (λ (x : Digest). digest_eq x f) (sym (digest_eq_true d e h)) ∙ k

some_is : {X : Type 0} (o : Option X) → (o ≡ None → ⊥) → is_some o ≡ true
some_is None h = absurd (h refl)
some_is (Some x) h = refl

module _ (game : Game) (q t : ℕ) (logs : List (List Entry)) (kept : List Seen) (keeps : Keeps game q t logs kept) where
  same_is : (a b : Seen) → Has kept a → Has kept b → same_digest game a.frame b.frame ≡ digest_eq a.digest b.digest
  same_is a b ma mb = ap (λ (d : Digest). digest_eq d (digest_of game b.frame)) (sym (keeps.digests a ma)) ∙ ap (digest_eq a.digest) (sym (keeps.digests b mb))

  -- one spot has one frame
  frames : (a b : Seen) → Has kept a → Has kept b → a.spot ≡ b.spot → a.frame ≡ b.frame
  frames a b ma mb e = one_frame logs q t (sighting_of a) (sighting_of b) (keeps.within a ma) (keeps.within b mb) e

  digests : (a b : Seen) → Has kept a → Has kept b → a.spot ≡ b.spot → a.digest ≡ b.digest
  digests a b ma mb e = keeps.digests a ma ∙ ap (digest_of game) (frames a b ma mb e) ∙ sym (keeps.digests b mb)

  -- two commitments

  abbrev Two : Seen → Seen → Type 0
  Two a b = (is_commit a.frame ≡ true) × (is_commit b.frame ≡ true) × (digest_eq a.digest b.digest ≡ false)

  two_parts : (a b : Seen) → Has kept a → Has kept b → are_two_commits game a.frame b.frame ≡ true → Two a b
  two_parts a b ma mb h =
      let x = and_parts _ _ h in
      let y = and_parts _ _ x.0 in
      (y.0, y.1, sym (same_is a b ma mb) ∙ no_is _ x.1)

  two_from : (a b : Seen) → Has kept a → Has kept b → Two a b → are_two_commits game a.frame b.frame ≡ true
  two_from a b ma mb h = and_from _ _ (and_from _ _ h.0 h.1) (is_no _ (same_is a b ma mb ∙ h.2))

  pub two_commits_is : IsLeastOf (are_two_commits game) kept (two_commits kept)
  unfolding two_commits
  two_commits_is = first (least Commit kept) refl
    where
      second : (a : Seen) → IsLeast (wants Commit) kept (Some a) → (o : Option Seen) → least (CommitUnlike a.digest) kept ≡ o → IsLeastOf (are_two_commits game) kept (pair_with a o)
      second a la None e = λ x y mx my h. go x y mx my (two_parts x y mx my h) (digest_eq x.digest a.digest) refl (digest_eq y.digest a.digest) refl
        where
          none : IsLeast (wants (CommitUnlike a.digest)) kept None
          none = least_is _ kept None e

          go : (x y : Seen) → Has kept x → Has kept y → Two x y → (b : Bool) → digest_eq x.digest a.digest ≡ b → (c : Bool) → digest_eq y.digest a.digest ≡ c → ⊥
          go x y mx my parts false u c v = none x mx (and_from _ _ parts.0 (is_no _ u))
          go x y mx my parts true u false v = none y my (and_from _ _ parts.1 (is_no _ v))
          go x y mx my parts true u true v = false≢true (sym (unlike x.digest a.digest y.digest u parts.2) ∙ (digest_swap a.digest y.digest ∙ v))
      second a la (Some b) e =
          let lb = least_is (wants (CommitUnlike a.digest)) kept (Some b) e in
          let w = and_parts _ _ lb.1 in
          record {
            lower = a;
            higher = b;
            lower_in = la.0;
            higher_in = lb.0;
            first_is = refl;
            second_is = refl;
            shown = two_from a b la.0 lb.0 (la.1, w.0, digest_swap a.digest b.digest ∙ no_is _ w.1);
            least = λ x y mx my h. let parts = two_parts x y mx my h in (
              la.2 x mx parts.0,
              λ same. lb.2 y my (and_from _ _ parts.1 (is_no _
                  (digest_swap y.digest a.digest ∙ ap (λ (d : Digest). digest_eq d y.digest) (digests a x la.0 mx same) ∙ parts.2))),
            );
          }

      first : (o : Option Seen) → least Commit kept ≡ o → IsLeastOf (are_two_commits game) kept (two_commits_by kept o)
      first None e = λ x y mx my h. least_is (wants Commit) kept None e x mx (two_parts x y mx my h).0
      first (Some a) e = second a (least_is (wants Commit) kept (Some a) e) (least (CommitUnlike a.digest) kept) refl

  -- a reveal and another frame with another digest

  abbrev Bad : Seen → Seen → Type 0
  Bad a b = ((is_reveal a.frame ≡ true) ⊎ (is_reveal b.frame ≡ true)) × (digest_eq a.digest b.digest ≡ false)

  bad_parts : (a b : Seen) → Has kept a → Has kept b → are_bad_opening game a.frame b.frame ≡ true → Bad a b
  bad_parts a b ma mb h =
      let x = and_parts _ _ h in
      (either (is_reveal a.frame) refl x.0, sym (same_is a b ma mb) ∙ no_is _ x.1)
    where
      either : (c : Bool) → is_reveal a.frame ≡ c → (c || is_reveal b.frame) ≡ true → (is_reveal a.frame ≡ true) ⊎ (is_reveal b.frame ≡ true)
      either true e h = inl e
      either false e h = inr h

  bad_from : (a b : Seen) → Has kept a → Has kept b → Bad a b → are_bad_opening game a.frame b.frame ≡ true
  bad_from a b ma mb h = and_from _ _ (either h.0) (is_no _ (same_is a b ma mb ∙ h.1))
    where
      either : (is_reveal a.frame ≡ true) ⊎ (is_reveal b.frame ≡ true) → (is_reveal a.frame || is_reveal b.frame) ≡ true
      either (inl e) = or_left _ _ e
      either (inr e) = or_right _ _ e

  -- what is looked for beside the first frame makes a bad opening with it
  partner_parts : (a x : Seen) → wants (partner_of a) x ≡ true → Bad a x
  partner_parts a x h = go (is_reveal a.frame) refl h
    where
      go : (c : Bool) → is_reveal a.frame ≡ c → wants (partner_of a) x ≡ true → Bad a x
      go true e h = (inl e, digest_swap a.digest x.digest ∙ no_is _ (rw e at h))
      go false e h = let w = and_parts (not (is_commit x.frame)) (not (digest_eq x.digest a.digest)) (rw e at h) in (inr (sym (no_no _) ∙ w.0), digest_swap a.digest x.digest ∙ no_is _ w.1)

  partner_from : (a x : Seen) → Bad a x → wants (partner_of a) x ≡ true
  partner_from a x h = go (is_reveal a.frame) refl h.0
    where
      go : (c : Bool) → is_reveal a.frame ≡ c → (is_reveal a.frame ≡ true) ⊎ (is_reveal x.frame ≡ true) → wants (partner_of a) x ≡ true
      go true e k = rw e (is_no _ (digest_swap x.digest a.digest ∙ h.1))
      go false e (inl k) = absurd (false≢true (sym e ∙ k))
      go false e (inr k) = rw e (and_from _ _ (no_no _ ∙ k) (is_no _ (digest_swap x.digest a.digest ∙ h.1)))

  -- where nothing makes a bad opening with the first frame
  module _ (a : Seen) (la : IsLeast (wants Any) kept (Some a)) (none : IsLeast (wants (partner_of a)) kept None) where
    -- each reveal is like it
    reveals_like : (x : Seen) → Has kept x → is_reveal x.frame ≡ true → digest_eq x.digest a.digest ≡ true
    reveals_like x mx h = go (digest_eq x.digest a.digest) refl
      where
        go : (c : Bool) → digest_eq x.digest a.digest ≡ c → c ≡ true
        go true e = refl
        go false e = absurd (none x mx (partner_from a x (inr h, digest_swap a.digest x.digest ∙ e)))

    -- one of the two is a reveal that is like it, and the other a commitment that is not
    abbrev Crossed : Seen → Seen → Type 0
    Crossed r c = (is_reveal r.frame ≡ true) × (is_reveal c.frame ≡ false) × (digest_eq c.digest a.digest ≡ false)

    crossed_from : (r c : Seen) → Has kept r → Has kept c → is_reveal r.frame ≡ true → digest_eq r.digest c.digest ≡ false → Crossed r c
    crossed_from r c mr mc h k = (h, commit (is_reveal c.frame) refl, away)
      where
        away : digest_eq c.digest a.digest ≡ false
        away = digest_swap c.digest a.digest ∙ unlike r.digest a.digest c.digest (reveals_like r mr h) k

        commit : (b : Bool) → is_reveal c.frame ≡ b → b ≡ false
        commit false e = refl
        commit true e = absurd (false≢true (sym away ∙ reveals_like c mc e))

    which : (x y : Seen) → Has kept x → Has kept y → are_bad_opening game x.frame y.frame ≡ true → Crossed x y ⊎ Crossed y x
    which x y mx my h = go (bad_parts x y mx my h)
      where
        go : Bad x y → Crossed x y ⊎ Crossed y x
        go (inl r, d) = inl (crossed_from x y mx my r d)
        go (inr r, d) = inr (crossed_from y x my mx r (digest_swap y.digest x.digest ∙ d))

    reveal_wanted : (r c : Seen) → Crossed r c → wants Reveal r ≡ true
    reveal_wanted r c h = no_no _ ∙ h.0

    commit_wanted : (r c : Seen) → Crossed r c → wants (CommitUnlike a.digest) c ≡ true
    commit_wanted r c h = and_from _ _ (is_no _ h.1) (is_no _ h.2)

    pub crossed_is : (o u : Option Seen) → least Reveal kept ≡ o → least (CommitUnlike a.digest) kept ≡ u → IsLeastOf (are_bad_opening game) kept (crossed o u)
    crossed_is None u e f = λ x y mx my h. go x y mx my (which x y mx my h)
      where
        go : (x y : Seen) → Has kept x → Has kept y → Crossed x y ⊎ Crossed y x → ⊥
        go x y mx my (inl w) = least_is (wants Reveal) kept None e x mx (reveal_wanted x y w)
        go x y mx my (inr w) = least_is (wants Reveal) kept None e y my (reveal_wanted y x w)
    crossed_is (Some r) None e f = λ x y mx my h. go x y mx my (which x y mx my h)
      where
        go : (x y : Seen) → Has kept x → Has kept y → Crossed x y ⊎ Crossed y x → ⊥
        go x y mx my (inl w) = least_is (wants (CommitUnlike a.digest)) kept None f y my (commit_wanted x y w)
        go x y mx my (inr w) = least_is (wants (CommitUnlike a.digest)) kept None f x mx (commit_wanted y x w)
    crossed_is (Some r) (Some c) e f = by (is_before r.spot c.spot) refl
      where
        lr : IsLeast (wants Reveal) kept (Some r)
        lr = least_is (wants Reveal) kept (Some r) e

        lc : IsLeast (wants (CommitUnlike a.digest)) kept (Some c)
        lc = least_is (wants (CommitUnlike a.digest)) kept (Some c) f

        reveals : is_reveal r.frame ≡ true
        reveals = sym (no_no _) ∙ lr.1

        commits : is_reveal c.frame ≡ false
        commits = no_is (is_reveal c.frame) (and_parts (is_commit c.frame) (not (digest_eq c.digest a.digest)) lc.1).0

        apart : digest_eq r.digest c.digest ≡ false
        apart = unlike a.digest r.digest c.digest (digest_swap a.digest r.digest ∙ reveals_like r lr.0 reveals) (digest_swap a.digest c.digest ∙ no_is (digest_eq c.digest a.digest) (and_parts (is_commit c.frame) (not (digest_eq c.digest a.digest)) lc.1).1)

        -- a reveal and a commitment have two spots
        two_spots : {A : Type 0} → (x y : Seen) → Has kept x → Has kept y → is_reveal x.frame ≡ true → is_reveal y.frame ≡ false → x.spot ≡ y.spot → A
        two_spots x y mx my u v same = absurd (false≢true (sym v ∙ ap is_reveal (sym (frames x y mx my same)) ∙ u))

        by : (b : Bool) → is_before r.spot c.spot ≡ b → IsPair (are_bad_opening game) kept (in_order r c)
        by true g = rw g record {
          lower = r;
          higher = c;
          lower_in = lr.0;
          higher_in = lc.0;
          first_is = refl;
          second_is = refl;
          shown = bad_from r c lr.0 lc.0 (inl reveals, apart);
          least = λ x y mx my h. at x y mx my (which x y mx my h);
        }
          where
            at : (x y : Seen) → Has kept x → Has kept y → Crossed x y ⊎ Crossed y x → NotAfter r.spot x.spot × (r.spot ≡ x.spot → NotAfter c.spot y.spot)
            at x y mx my (inl w) = (lr.2 x mx (reveal_wanted x y w), λ same. lc.2 y my (commit_wanted x y w))
            at x y mx my (inr w) = (not_after_trans r.spot c.spot x.spot (inl (before_true r.spot c.spot g)) (lc.2 x mx (commit_wanted y x w)), λ same. two_spots r x lr.0 mx reveals w.1 same)
        by false g = rw g record {
          lower = c;
          higher = r;
          lower_in = lc.0;
          higher_in = lr.0;
          first_is = refl;
          second_is = refl;
          shown = bad_from c r lc.0 lr.0 (inr reveals, digest_swap c.digest r.digest ∙ apart);
          least = λ x y mx my h. at x y mx my (which x y mx my h);
        }
          where
            at : (x y : Seen) → Has kept x → Has kept y → Crossed x y ⊎ Crossed y x → NotAfter c.spot x.spot × (c.spot ≡ x.spot → NotAfter r.spot y.spot)
            at x y mx my (inl w) = (not_after_trans c.spot r.spot x.spot (before_false r.spot c.spot g) (lr.2 x mx (reveal_wanted x y w)), λ same. two_spots x c mx lc.0 w.0 commits (sym same))
            at x y mx my (inr w) = (lc.2 x mx (commit_wanted y x w), λ same. lr.2 y my (reveal_wanted y x w))

  pub bad_opening_is : IsLeastOf (are_bad_opening game) kept (bad_opening kept)
  unfolding bad_opening
  bad_opening_is = first (least Any kept) refl
    where
      second : (a : Seen) → IsLeast (wants Any) kept (Some a) → (o : Option Seen) → least (partner_of a) kept ≡ o → IsLeastOf (are_bad_opening game) kept (bad_opening_or kept a o)
      second a la None e = crossed_is a la (least_is _ kept None e) (least Reveal kept) (least (CommitUnlike a.digest) kept) refl refl
      second a la (Some b) e =
          let lb = least_is (wants (partner_of a)) kept (Some b) e in
          record {
            lower = a;
            higher = b;
            lower_in = la.0;
            higher_in = lb.0;
            first_is = refl;
            second_is = refl;
            shown = bad_from a b la.0 lb.0 (partner_parts a b lb.1);
            least = λ x y mx my h. (la.2 x mx refl, λ same. lb.2 y my (partner_from a y (bad_parts a y la.0 my (ap (λ (f : TurnFrame). are_bad_opening game f y.frame) (frames a x la.0 mx same) ∙ h))));
          }

      first : (o : Option Seen) → least Any kept ≡ o → IsLeastOf (are_bad_opening game) kept (bad_opening_by kept o)
      first None e = λ x y mx my h. least_is (wants Any) kept None e x mx refl
      first (Some a) e = second a (least_is (wants Any) kept (Some a) e) (least (partner_of a) kept) refl

  -- two reveals with one digest

  abbrev Collide : Seen → Seen → Type 0
  Collide a b = (is_reveal a.frame ≡ true) × (is_reveal b.frame ≡ true) × (frame_eq a.frame b.frame ≡ false) × (digest_eq a.digest b.digest ≡ true)

  collide_parts : (a b : Seen) → Has kept a → Has kept b → are_collision game a.frame b.frame ≡ true → Collide a b
  collide_parts a b ma mb h =
      let x = and_parts _ _ h in
      let y = and_parts _ _ x.0 in
      let z = and_parts _ _ y.0 in
      (z.0, z.1, no_is _ y.1, sym (same_is a b ma mb) ∙ x.1)

  collide_from : (a b : Seen) → Has kept a → Has kept b → Collide a b → are_collision game a.frame b.frame ≡ true
  collide_from a b ma mb h = and_from _ _ (and_from _ _ (and_from _ _ h.0 h.1) (is_no _ h.2)) (same_is a b ma mb ∙ h.3)

  rival_parts : (a x : Seen) → is_reveal a.frame ≡ true → wants (Rival a.digest a.frame) x ≡ true → Collide a x
  rival_parts a x r h =
      let u = and_parts _ _ h in
      let v = and_parts _ _ u.1 in
      (r, sym (no_no _) ∙ u.0, frame_swap a.frame x.frame ∙ no_is _ v.1, digest_swap a.digest x.digest ∙ v.0)

  rival_from : (a x : Seen) → Collide a x → wants (Rival a.digest a.frame) x ≡ true
  rival_from a x h = and_from _ _ (no_no _ ∙ h.1) (and_from _ _ (digest_swap x.digest a.digest ∙ h.3) (is_no _ (frame_swap x.frame a.frame ∙ h.2)))

  -- one of two that collide has a rival
  rivalled : (a x : Seen) → Has kept x → Collide a x → has_rival kept a ≡ true
  rivalled a x mx h = and_from _ _ (no_no _ ∙ h.0) (some_is (least (Rival a.digest a.frame) kept) (λ e. least_is (wants (Rival a.digest a.frame)) kept None e x mx (rival_from a x h)))

  pub collision_is : IsLeastOf (are_collision game) kept (collision kept)
  unfolding collision
  collision_is = first (least_from (has_rival kept) None kept) refl
    where
      second : (a : Seen) → IsLeast (has_rival kept) kept (Some a) → (o : Option Seen) → least (Rival a.digest a.frame) kept ≡ o → IsLeastOf (are_collision game) kept (pair_with a o)
      second a la None e = λ x y mx my h. false≢true (sym (ap is_some e) ∙ (and_parts (not (is_commit a.frame)) (is_some (least (Rival a.digest a.frame) kept)) la.1).1)
      second a la (Some b) e =
          let lb = least_is (wants (Rival a.digest a.frame)) kept (Some b) e in
          record {
            lower = a;
            higher = b;
            lower_in = la.0;
            higher_in = lb.0;
            first_is = refl;
            second_is = refl;
            shown = collide_from a b la.0 lb.0 (rival_parts a b (sym (no_no _) ∙ (and_parts _ _ la.1).0) lb.1);
            least = λ x y mx my h. (
              la.2 x mx (rivalled x y my (collide_parts x y mx my h)),
              λ same. lb.2 y my (rival_from a y (collide_parts a y la.0 my
                  (ap (λ (f : TurnFrame). are_collision game f y.frame) (frames a x la.0 mx same) ∙ h))),
            );
          }

      first : (o : Option Seen) → least_from (has_rival kept) None kept ≡ o → IsLeastOf (are_collision game) kept (collision_by kept o)
      first None e = λ x y mx my h. least_is (has_rival kept) kept None e x mx (rivalled x y my (collide_parts x y mx my h))
      first (Some a) e = second a (least_is (has_rival kept) kept (Some a) e) (least (Rival a.digest a.frame) kept) refl

bool_swap : (a b : Bool) → (a && b) ≡ (b && a)
bool_swap true true = refl
bool_swap true false = refl
bool_swap false true = refl
bool_swap false false = refl

or_swap : (a b : Bool) → (a || b) ≡ (b || a)
or_swap true true = refl
or_swap true false = refl
or_swap false true = refl
or_swap false false = refl

no_and : (a : Bool) → (a && false) ≡ false
no_and true = refl
no_and false = refl

-- the tests of two frames answer alike either way, and never of one frame
module _ (game : Game) where
  two_swap : (f g : TurnFrame) → are_two_commits game f g ≡ are_two_commits game g f
  two_swap f g = ap (λ (b : Bool). b && not (same_digest game f g)) (bool_swap (is_commit f) (is_commit g))
      ∙ ap (λ (b : Bool). is_commit g && is_commit f && not b) (digest_swap (digest_of game f) (digest_of game g))

  two_apart : (f : TurnFrame) → are_two_commits game f f ≡ false
  two_apart f = ap (λ (b : Bool). is_commit f && is_commit f && not b) (digest_eq_same (digest_of game f)) ∙ no_and _

  bad_swap : (f g : TurnFrame) → are_bad_opening game f g ≡ are_bad_opening game g f
  bad_swap f g = ap (λ (b : Bool). b && not (same_digest game f g)) (or_swap (is_reveal f) (is_reveal g))
      ∙ ap (λ (b : Bool). (is_reveal g || is_reveal f) && not b) (digest_swap (digest_of game f) (digest_of game g))

  bad_apart : (f : TurnFrame) → are_bad_opening game f f ≡ false
  bad_apart f = ap (λ (b : Bool). (is_reveal f || is_reveal f) && not b) (digest_eq_same (digest_of game f)) ∙ no_and _

  collide_swap : (f g : TurnFrame) → are_collision game f g ≡ are_collision game g f
  collide_swap f g = ap (λ (b : Bool). b && not (frame_eq f g) && same_digest game f g) (bool_swap (is_reveal f) (is_reveal g))
      ∙ ap (λ (b : Bool). is_reveal g && is_reveal f && not b && same_digest game f g) (frame_swap f g)
      ∙ ap (λ (b : Bool). is_reveal g && is_reveal f && not (frame_eq g f) && b) (digest_swap (digest_of game f) (digest_of game g))

  collide_apart : (f : TurnFrame) → are_collision game f f ≡ false
  collide_apart f = ap (λ (b : Bool). is_reveal f && is_reveal f && not b && same_digest game f f) (frame_eq_same f) ∙ ap (λ (b : Bool). b && same_digest game f f) (no_and _)

-- so each pair that is found makes the finding
module _ (game : Game) (q t : ℕ) (logs : List (List Entry)) (kept : List Seen) (keeps : Keeps game q t logs kept) where
  pub two_commits_found : finding_at game logs q t TwoCommits ≡ finding_by q t TwoCommits (two_commits kept)
  unfolding show_kind
  two_commits_found = lifted game q t logs TwoCommits (are_two_commits game) kept (two_swap game) (two_apart game) (λ a b. refl) keeps (two_commits kept) (two_commits_is game q t logs kept keeps)

  pub bad_opening_found : finding_at game logs q t BadOpening ≡ finding_by q t BadOpening (bad_opening kept)
  unfolding show_kind
  bad_opening_found = lifted game q t logs BadOpening (are_bad_opening game) kept (bad_swap game) (bad_apart game) (λ a b. refl) keeps (bad_opening kept) (bad_opening_is game q t logs kept keeps)

  pub collision_found : finding_at game logs q t Collision ≡ finding_by q t Collision (collision kept)
  unfolding show_kind
  collision_found = lifted game q t logs Collision (are_collision game) kept (collide_swap game) (collide_apart game) (λ a b. refl) keeps (collision kept) (collision_is game q t logs kept keeps)

  -- where no two different reveals have one digest there is none
  pub collision_apart : AreApart kept → finding_at game logs q t Collision ≡ None
  unfolding show_kind
  collision_apart apart = lifted game q t logs Collision (are_collision game) kept (collide_swap game) (collide_apart game) (λ a b. refl) keeps None (λ a b ma mb h. none a b ma mb h)
    where
      none : (a b : Seen) → Has kept a → Has kept b → are_collision game a.frame b.frame ≡ true → ⊥
      none a b ma mb h =
          let parts = collide_parts game q t logs kept keeps a b ma mb h in
          let same = apart a b ma mb (ap not parts.0) (ap not parts.1) parts.3 in
          false≢true (sym parts.2 ∙ ap (frame_eq a.frame) (sym same) ∙ frame_eq_same a.frame)
