-- Grows: what is kept stands for the logs with one entry more.
use Rattle.std.proofs.Common.{List, None, Some, [], ap, arith, inl, inr, refl, subst, suc, sym, zero, ℕ, ◌++◌, ◌<◌, ◌∙◌, ◌∷◌, ◌≡◌, ◌⊎◌, slice_get, length}
use Rattle.std.proofs.lemmas.Option.{slice_get_within}
use Rattle.definitions.specs.declared.frames.TurnFrame.{TurnFrame}
use Rattle.definitions.specs.declared.logs.Entry.{Entry}
use Rattle.definitions.specs.declared.logs.Entry.TheVariants.{Got}
use Rattle.definitions.specs.World.{Game}
use Rattle.definitions.specs.Held.{digest_of}
use Rattle.definitions.specs.Logs.{turn_of}
use Rattle.definitions.specs.Findings.{Sighting}
use Rattle.definition_laws.specs.Members.{Has}
use Rattle.definition_laws.specs.Spots.{IsSighting}
use Rattle.definition_laws.proofs.Listing.{slice_get_last}
use Rattle.frame_index.specs.declared.seen.Seen.{Seen}
use Rattle.frame_index.specs.Keeps.{Keeps, IsFirstOf, sighting_of}
use Rattle.frame_index.specs.Appended.{with_entry}

-- an item of a list with one more is one of the list, or the last
last_or : {X : Type 0} (xs : List X) (e x : X) (n : ℕ) → slice_get (xs ++ e ∷ []) n ≡ Some x → (slice_get xs n ≡ Some x) ⊎ ((n ≡ length xs) × (e ≡ x))
last_or [] e x zero h = inr (refl, cc)
last_or [] e x (suc n) h = absurd cc
last_or (y ∷ ys) e x zero h = inl h
last_or (y ∷ ys) e x (suc n) h = go (last_or ys e x n h)
  where
    go : (slice_get ys n ≡ Some x) ⊎ ((n ≡ length ys) × (e ≡ x)) → (slice_get (y ∷ ys) (suc n) ≡ Some x) ⊎ ((suc n ≡ length (y ∷ ys)) × (e ≡ x))
    go (inl a) = inl a
    go (inr b) = inr (ap suc b.0, b.1)

stays : {X : Type 0} (xs : List X) (e x : X) (n : ℕ) → slice_get xs n ≡ Some x → slice_get (xs ++ e ∷ []) n ≡ Some x
stays [] e x n h = absurd (let none : None ≡ Some x = h in cc)
stays (y ∷ ys) e x zero h = h
stays (y ∷ ys) e x (suc n) h = stays ys e x n h

-- the log of a number in the logs with one entry more
log_before : (logs : List (List Entry)) (i l : ℕ) (e : Entry) (h g : List Entry) → slice_get logs i ≡ Some h → slice_get (with_entry logs i e) l ≡ Some g →
    (slice_get logs l ≡ Some g) ⊎ ((l ≡ i) × (g ≡ h ++ e ∷ []))
log_before [] i l e h g at k = inl k
log_before (x ∷ xs) zero zero e h g at k = inr (refl, let a : x ≡ h = cc in let b : x ++ e ∷ [] ≡ g = cc in sym b ∙ ap (λ (y : List Entry). y ++ e ∷ []) a)
log_before (x ∷ xs) zero (suc l) e h g at k = inl k
log_before (x ∷ xs) (suc i) zero e h g at k = inl k
log_before (x ∷ xs) (suc i) (suc l) e h g at k = go (log_before xs i l e h g at k)
  where
    go : (slice_get xs l ≡ Some g) ⊎ ((l ≡ i) × (g ≡ h ++ e ∷ [])) → (slice_get xs l ≡ Some g) ⊎ ((suc l ≡ suc i) × (g ≡ h ++ e ∷ []))
    go (inl a) = inl a
    go (inr b) = inr (ap suc b.0, b.1)

log_after : (logs : List (List Entry)) (i l : ℕ) (e : Entry) (g : List Entry) → slice_get logs l ≡ Some g →
    (k : List Entry) × (slice_get (with_entry logs i e) l ≡ Some k) × ((k ≡ g) ⊎ (k ≡ g ++ e ∷ []))
log_after [] i l e g at = (g, at, inl refl)
log_after (x ∷ xs) zero zero e g at = (x ++ e ∷ [], refl, inr (let a : x ≡ g = cc in ap (λ (y : List Entry). y ++ e ∷ []) a))
log_after (x ∷ xs) zero (suc l) e g at = (g, at, inl refl)
log_after (x ∷ xs) (suc i) zero e g at = (g, at, inl refl)
log_after (x ∷ xs) (suc i) (suc l) e g at = log_after xs i l e g at

pub own_after : (logs : List (List Entry)) (i : ℕ) (e : Entry) (h : List Entry) → slice_get logs i ≡ Some h → slice_get (with_entry logs i e) i ≡ Some (h ++ e ∷ [])
own_after [] i e h at = absurd (let none : None ≡ Some h = at in cc)
own_after (x ∷ xs) zero e h at = let a : x ≡ h = cc in ap (λ (y : List Entry). Some (y ++ e ∷ [])) a
own_after (x ∷ xs) (suc i) e h at = own_after xs i e h at

module _ (q t : ℕ) (logs : List (List Entry)) (i : ℕ) (e : Entry) (h : List Entry) (there : slice_get logs i ≡ Some h) where
  -- a sighting stays one
  pub sighting_stays : (s : Sighting) → IsSighting logs q t s → IsSighting (with_entry logs i e) q t s
  sighting_stays s w = go (log_after logs i s.spot.log e w.log w.there)
    where
      go : (k : List Entry) × (slice_get (with_entry logs i e) s.spot.log ≡ Some k) × ((k ≡ w.log) ⊎ (k ≡ w.log ++ e ∷ [])) → IsSighting (with_entry logs i e) q t s
      go (k, at, inl same) = record { log = k; there = at; got = ap (λ (g : List Entry). slice_get g s.spot.entry) same ∙ w.got; turn = w.turn }
      go (k, at, inr more) = record {
        log = k;
        there = at;
        got = ap (λ (g : List Entry). slice_get g s.spot.entry) more ∙ stays w.log e (Got q s.frame) s.spot.entry w.got;
        turn = w.turn;
      }

  -- a sighting was one before, or is the new entry
  pub sighting_before : (s : Sighting) → IsSighting (with_entry logs i e) q t s →
      IsSighting logs q t s ⊎ ((s.spot.log ≡ i) × (s.spot.entry ≡ length h) × (e ≡ Got q s.frame) × (turn_of s.frame ≡ t))
  sighting_before s w = go (log_before logs i s.spot.log e h w.log there w.there)
    where
      go : (slice_get logs s.spot.log ≡ Some w.log) ⊎ ((s.spot.log ≡ i) × (w.log ≡ h ++ e ∷ [])) →
          IsSighting logs q t s ⊎ ((s.spot.log ≡ i) × (s.spot.entry ≡ length h) × (e ≡ Got q s.frame) × (turn_of s.frame ≡ t))
      go (inl a) = inl record { log = w.log; there = a; got = w.got; turn = w.turn }
      go (inr b) = at (last_or h e (Got q s.frame) s.spot.entry (ap (λ (g : List Entry). slice_get g s.spot.entry) (sym b.1) ∙ w.got))
        where
          at : (slice_get h s.spot.entry ≡ Some (Got q s.frame)) ⊎ ((s.spot.entry ≡ length h) × (e ≡ Got q s.frame)) →
              IsSighting logs q t s ⊎ ((s.spot.log ≡ i) × (s.spot.entry ≡ length h) × (e ≡ Got q s.frame) × (turn_of s.frame ≡ t))
          at (inl x) = inl record { log = h; there = ap (slice_get logs) b.0 ∙ there; got = x; turn = w.turn }
          at (inr y) = inr (b.0, y.0, y.1, w.turn)

  -- what is kept stays right where the entry gets no frame of the player's turn
  pub keeps_other : (game : Game) (kept : List Seen) → ((f : TurnFrame) → e ≡ Got q f → turn_of f ≡ t → ⊥) → Keeps game q t logs kept → Keeps game q t (with_entry logs i e) kept
  keeps_other game kept never k = record {
    within = λ x m. sighting_stays (sighting_of x) (k.within x m);
    digests = k.digests;
    firsts = λ s w. go s (sighting_before s w);
  }
    where
      go : (s : Sighting) → IsSighting logs q t s ⊎ ((s.spot.log ≡ i) × (s.spot.entry ≡ length h) × (e ≡ Got q s.frame) × (turn_of s.frame ≡ t)) →
          (x : Seen) × Has kept x × IsFirstOf x s
      go s (inl a) = k.firsts s a
      go s (inr b) = absurd (never s.frame b.2 b.3)

module _ (game : Game) (q : ℕ) (logs : List (List Entry)) (h : List Entry) (kept : List Seen) (s : Seen) (there : slice_get logs s.spot.log ≡ Some h)
    (last : s.spot.entry ≡ length h) (digest : s.digest ≡ digest_of game s.frame) where
  abbrev after : List (List Entry)
  after = with_entry logs s.spot.log (Got q s.frame)

  new_sighting : IsSighting after q (turn_of s.frame) (sighting_of s)
  new_sighting = record {
    log = h ++ Got q s.frame ∷ [];
    there = own_after logs s.spot.log (Got q s.frame) h there;
    got = ap (slice_get (h ++ Got q s.frame ∷ [])) last ∙ slice_get_last h (Got q s.frame);
    turn = refl;
  }

  abbrev IsNew : Sighting → Type 0
  IsNew u = (u.spot.log ≡ s.spot.log) × (u.spot.entry ≡ length h) × (Got q s.frame ≡ Got q u.frame) × (turn_of u.frame ≡ turn_of s.frame)

  -- what is kept with the new sighting, or with an earlier one of its frame in its log, and nothing else new, stands for the logs with the new entry
  pub keeps_grown : (more : List Seen) → ((k : Seen) → Has kept k → Has more k) → ((k : Seen) → Has more k → Has kept k ⊎ (s ≡ k)) →
      Has more s ⊎ ((k : Seen) × Has kept k × (k.spot.log ≡ s.spot.log) × (k.frame ≡ s.frame)) → Keeps game q (turn_of s.frame) logs kept → Keeps game q (turn_of s.frame) after more
  keeps_grown more stay come one k = record { within = λ x m. all x (come x m); digests = λ x m. digests x (come x m); firsts = λ u w. at u (before u w) one }
    where
      before : (u : Sighting) → IsSighting after q (turn_of s.frame) u → IsSighting logs q (turn_of s.frame) u ⊎ IsNew u
      before u w = sighting_before q (turn_of s.frame) logs s.spot.log (Got q s.frame) h there u w

      all : (x : Seen) → Has kept x ⊎ (s ≡ x) → IsSighting after q (turn_of s.frame) (sighting_of x)
      all x (inl a) = sighting_stays q (turn_of s.frame) logs s.spot.log (Got q s.frame) h there (sighting_of x) (k.within x a)
      all x (inr b) = subst (λ (y : Seen). IsSighting after q (turn_of s.frame) (sighting_of y)) b new_sighting

      digests : (x : Seen) → Has kept x ⊎ (s ≡ x) → x.digest ≡ digest_of game x.frame
      digests x (inl a) = k.digests x a
      digests x (inr b) = subst (λ (y : Seen). y.digest ≡ digest_of game y.frame) b digest

      earlier : (x : Seen) → Has kept x → x.spot.log ≡ s.spot.log → x.spot.entry < length h
      earlier x m log =
          let w = k.within x m in
          let one : Some w.log ≡ Some h = sym w.there ∙ ap (slice_get logs) log ∙ there in
          let same : w.log ≡ h = cc in
          slice_get_within h x.spot.entry (Got q x.frame) (ap (λ (g : List Entry). slice_get g x.spot.entry) (sym same) ∙ w.got)

      at : (u : Sighting) → IsSighting logs q (turn_of s.frame) u ⊎ IsNew u → Has more s ⊎ ((k : Seen) × Has kept k × (k.spot.log ≡ s.spot.log) × (k.frame ≡ s.frame)) →
          (x : Seen) × Has more x × IsFirstOf x u
      at u (inl a) one = let r = k.firsts u a in (r.0, stay r.0 r.1, r.2)
      at u (inr b) (inl m) =
          let frame : s.frame ≡ u.frame = cc in
          let place = b.1 in
          (s, m, record { frame = frame; log = sym b.0; entry = omega arith })
      at u (inr b) (inr f) =
          let frame : s.frame ≡ u.frame = cc in
          let place = b.1 in
          let less = earlier f.0 f.1 f.2 in
          (f.0, stay f.0 f.1, record { frame = f.3 ∙ frame; log = f.2 ∙ sym b.0; entry = omega arith })
