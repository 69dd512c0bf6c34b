-- Growing: what is kept of a player's turn, where the spots of one frame change or a frame comes behind the others.
use Rattle.std.proofs.Common.{Bool, List, None, Some, [], ap, false, inl, inr, refl, suc, subst, sym, true, zero, ℕ, ◌++◌, ◌∙◌, ◌∷◌, ◌<◌, ◌≡◌, ◌⊎◌, length, set, slice_get}
use Rattle.std.specs.Prelude.{◌==◌, Err, Ok, OnErr, OnOk, Result, if◌then◌else◌, map}
use Rattle.std.specs.List.{list_any}
use Rattle.std.proofs.lemmas.Bool.{eqb-true, false≢true}
use Rattle.std.proofs.lemmas.Option.{slice_get_within}
use Rattle.definitions.specs.declared.findings.Spot.{Spot}
use Rattle.definitions.specs.declared.openings.Digest.{Digest}
use Rattle.definitions.specs.declared.frames.TurnFrame.{TurnFrame}
use Rattle.definitions.specs.World.{Game}
use Rattle.definitions.specs.Held.{digest_of}
use Rattle.definitions.specs.Logs.{player_of, turn_of}
use Rattle.definition_laws.specs.Members.{Has}
use Rattle.definition_laws.proofs.Members.{Has_append, Has_back, Has_flat_map, Has_front, flat_map_Has, map_Has, slice_get_Has}
use Rattle.frame_index.specs.declared.seen.Seen.{Seen}
use Rattle.frame_index.specs.declared.kept.KeptFrame.{KeptFrame}
use Rattle.frame_index.proofs.Once.{logs_noted, logs_one, once_more, once_set}
use Rattle.frame_index.specs.Kept.{AreAlike, AreOf, AreOnce, Grows, IsAdded, IsNotedAt, StandsAt, seen_in, seen_of, seen_with, sight}
use Rattle.frame_index.specs.Spots.{AreOfLogs, spot_noted}

-- what follows where there is a value, and where there is an error
pub on_ok : {T E P Q : Type 0} (r : Result T E) → (P → Q) → OnOk r P → OnOk r Q
on_ok (Ok x) f p = f p
on_ok (Err e) f p = tt

pub on_err : {T E P Q : Type 0} (r : Result T E) → (P → Q) → OnErr r P → OnErr r Q
on_err (Ok x) f p = tt
on_err (Err e) f p = f p

Has_map : {X Y : Type 0} (f : X → Y) (xs : List X) (x : X) → Has xs x → Has (map f xs) (f x)
Has_map {X} {Y} f (y ∷ ys) x (inl e) = inl (ap f e)
Has_map f (y ∷ ys) x (inr h) = inr (Has_map f ys x h)
Has_map f [] x h = absurd h

pub last_has : {X : Type 0} (xs : List X) (e x : X) → Has (xs ++ e ∷ []) x → Has xs x ⊎ (e ≡ x)
last_has {X} xs e x m = go (Has_append xs (e ∷ []) x m)
  where
    go : Has xs x ⊎ Has (e ∷ []) x → Has xs x ⊎ (e ≡ x)
    go (inl a) = inl a
    go (inr (inl a)) = inr a
    go (inr (inr a)) = absurd a

-- a list with another item at one place
set_has : {X : Type 0} (xs : List X) (i : ℕ) (l x : X) → Has (set xs i l) x → Has xs x ⊎ (l ≡ x)
set_has [] i l x m = absurd m
set_has (y ∷ ys) zero l x (inl e) = inr e
set_has (y ∷ ys) zero l x (inr m) = inl (inr m)
set_has (y ∷ ys) (suc i) l x (inl e) = inl (inl e)
set_has (y ∷ ys) (suc i) l x (inr m) = go (set_has ys i l x m)
  where
    go : Has ys x ⊎ (l ≡ x) → Has (y ∷ ys) x ⊎ (l ≡ x)
    go (inl a) = inl (inr a)
    go (inr b) = inr b

has_set : {X : Type 0} (xs : List X) (i : ℕ) (l x k : X) → slice_get xs i ≡ Some k → Has xs x → Has (set xs i l) x ⊎ (k ≡ x)
has_set [] i l x k at m = absurd m
has_set (y ∷ ys) zero l x k at (inl e) = inr (let same : y ≡ k = cc in sym same ∙ e)
has_set (y ∷ ys) zero l x k at (inr m) = inl (inr m)
has_set (y ∷ ys) (suc i) l x k at (inl e) = inl (inl e)
has_set (y ∷ ys) (suc i) l x k at (inr m) = go (has_set ys i l x k at m)
  where
    go : Has (set ys i l) x ⊎ (k ≡ x) → Has (set (y ∷ ys) (suc i) l) x ⊎ (k ≡ x)
    go (inl a) = inl (inr a)
    go (inr b) = inr b

set_now : {X : Type 0} (xs : List X) (i : ℕ) (l k : X) → slice_get xs i ≡ Some k → Has (set xs i l) l
set_now [] i l k at = absurd (let none : None ≡ Some k = at in cc)
set_now (y ∷ ys) zero l k at = inl refl
set_now (y ∷ ys) (suc i) l k at = inr (set_now ys i l k at)

-- spots with one more
noted_has : (xs : List Spot) (s x : Spot) → Has (spot_noted xs s) x → Has xs x ⊎ (s ≡ x)
noted_has xs s x m = go (list_any (λ y. y.log == s.log) xs) m
  where
    go : (b : Bool) → Has (if b then xs else xs ++ s ∷ []) x → Has xs x ⊎ (s ≡ x)
    go true m = inl m
    go false m = last_has xs s x m

has_noted : (xs : List Spot) (s x : Spot) → Has xs x → Has (spot_noted xs s) x
has_noted xs s x m = go (list_any (λ y. y.log == s.log) xs)
  where
    go : (b : Bool) → Has (if b then xs else xs ++ s ∷ []) x
    go true = m
    go false = Has_front xs (s ∷ []) x m

pub any_has : (xs : List Spot) (l : ℕ) → list_any (λ y. y.log == l) xs ≡ true → (x : Spot) × Has xs x × (x.log ≡ l)
any_has [] l h = absurd (false≢true h)
any_has (x ∷ xs) l h = go (x.log == l) refl h (any_has xs l)
  where
    go : (b : Bool) → (x.log == l) ≡ b → list_any (λ y. y.log == l) (x ∷ xs) ≡ true → (list_any (λ y. y.log == l) xs ≡ true → (x : Spot) × Has xs x × (x.log ≡ l)) → (y : Spot) × Has (x ∷ xs) y × (y.log ≡ l)
    go true e h ih = (x, inl refl, eqb-true _ _ e)
    go false e h ih = let r = ih (rw e at h) in (r.0, inr r.1, r.2)

noted_now : (xs : List Spot) (s : Spot) → Has (spot_noted xs s) s ⊎ ((x : Spot) × Has xs x × (x.log ≡ s.log))
noted_now xs s = go (list_any (λ y. y.log == s.log) xs) refl
  where
    go : (b : Bool) → list_any (λ y. y.log == s.log) xs ≡ b → Has (if b then xs else xs ++ s ∷ []) s ⊎ ((x : Spot) × Has xs x × (x.log ≡ s.log))
    go true e = inr (any_has xs s.log e)
    go false e = inl (Has_back xs (s ∷ []) s (inl refl))

-- a frame is kept at each of its spots
pub kept_has : (k : KeptFrame) (s : Spot) → Has k.spots.items s → Has (seen_of k) (seen_with k.frame k.digest s)
kept_has k s m = Has_map (seen_with k.frame k.digest) k.spots.items s m

pub has_kept : (k : KeptFrame) (x : Seen) → Has (seen_of k) x → (s : Spot) × Has k.spots.items s × (seen_with k.frame k.digest s ≡ x)
has_kept k x m = map_Has (seen_with k.frame k.digest) k.spots.items x m

-- the spots of the frame at one place change
module _ (old new : List KeptFrame) (at : ℕ) (k l : KeptFrame) (there : slice_get old at ≡ Some k) (frame : l.frame ≡ k.frame) (digest : l.digest ≡ k.digest) (new_is : new ≡ set old at l) where
  moved : (s : Spot) → seen_with l.frame l.digest s ≡ seen_with k.frame k.digest s
  moved s = λ i. seen_with (frame i) (digest i) s

  own : (game : Game) (q t : ℕ) → AreOf game q t old → AreOf game q t new
  own game q t is x m = go (set_has old at l x (subst (λ (ks : List KeptFrame). Has ks x) new_is m))
    where
      go : Has old x ⊎ (l ≡ x) → (player_of x.frame ≡ q) × (turn_of x.frame ≡ t) × (x.digest ≡ digest_of game x.frame)
      go (inl a) = is x a
      go (inr e) =
          let r = is k (slice_get_Has old at k there) in
          subst (λ (y : KeptFrame). (player_of y.frame ≡ q) × (turn_of y.frame ≡ t) × (y.digest ≡ digest_of game y.frame)) e
          (ap player_of frame ∙ r.0, ap turn_of frame ∙ r.1, digest ∙ r.2 ∙ ap (digest_of game) (sym frame))

  stay : ((s : Spot) → Has k.spots.items s → Has l.spots.items s) → (x : Seen) → Has (seen_in old) x → Has (seen_in new) x
  stay within x m = let r = flat_map_Has seen_of old x m in go r.0 r.2 (has_set old at l r.0 k there r.1)
    where
      go : (y : KeptFrame) → Has (seen_of y) x → Has (set old at l) y ⊎ (k ≡ y) → Has (seen_in new) x
      go y n (inl a) = subst (λ (ks : List KeptFrame). Has (seen_in ks) x) (sym new_is) (Has_flat_map seen_of (set old at l) y x a n)
      go y n (inr e) =
          let r = has_kept k x (subst (λ (z : KeptFrame). Has (seen_of z) x) (sym e) n) in
          subst (λ (ks : List KeptFrame). Has (seen_in ks) x) (sym new_is)
          (Has_flat_map seen_of (set old at l) l x (set_now old at l k there) (subst (Has (seen_of l)) (moved r.0 ∙ r.2) (kept_has l r.0 (within r.0 r.1))))

  come : (u : Spot) → ((s : Spot) → Has l.spots.items s → Has k.spots.items s ⊎ (u ≡ s)) → (x : Seen) → Has (seen_in new) x → Has (seen_in old) x ⊎ (seen_with k.frame k.digest u ≡ x)
  come u from x m =
      let r = flat_map_Has seen_of (set old at l) x (subst (λ (ks : List KeptFrame). Has (seen_in ks) x) new_is m) in
      go r.0 r.2 (set_has old at l r.0 r.1)
    where
      go : (y : KeptFrame) → Has (seen_of y) x → Has old y ⊎ (l ≡ y) → Has (seen_in old) x ⊎ (seen_with k.frame k.digest u ≡ x)
      go y n (inl a) = inl (Has_flat_map seen_of old y x a n)
      go y n (inr e) = let r = has_kept l x (subst (λ (z : KeptFrame). Has (seen_of z) x) (sym e) n) in at_spot r.0 r.2 (from r.0 r.1)
        where
          at_spot : (s : Spot) → seen_with l.frame l.digest s ≡ x → Has k.spots.items s ⊎ (u ≡ s) → Has (seen_in old) x ⊎ (seen_with k.frame k.digest u ≡ x)
          at_spot s is (inl b) = inl (Has_flat_map seen_of old k x (slice_get_Has old at k there) (subst (Has (seen_of k)) (sym (moved s) ∙ is) (kept_has k s b)))
          at_spot s is (inr b) = inr (ap (seen_with k.frame k.digest) b ∙ sym (moved s) ∙ is)

  -- to the same ones
  pub spots_alike : l.spots.items ≡ k.spots.items → AreAlike old new
  spots_alike same = record {
    own = own;
    to = stay (λ s m. subst (λ (xs : List Spot). Has xs s) (sym same) m);
    fro = λ x m. only x (flat_map_Has seen_of (set old at l) x (subst (λ (ks : List KeptFrame). Has (seen_in ks) x) new_is m));
    once = λ w. subst AreOnce (sym new_is) (once_set old at k l there frame (λ apart. subst AreOfLogs (sym same) apart) w);
  }
    where
      only : (x : Seen) → (y : KeptFrame) × Has (set old at l) y × Has (seen_of y) x → Has (seen_in old) x
      only x (y, a, n) = go (set_has old at l y a)
        where
          go : Has old y ⊎ (l ≡ y) → Has (seen_in old) x
          go (inl b) = Has_flat_map seen_of old y x b n
          go (inr e) =
              let r = has_kept l x (subst (λ (z : KeptFrame). Has (seen_of z) x) (sym e) n) in
              Has_flat_map seen_of old k x (slice_get_Has old at k there) (subst (Has (seen_of k)) (sym (moved r.0) ∙ r.2) (kept_has k r.0 (subst (λ (xs : List Spot). Has xs r.0) same r.1)))

  -- to those with one more
  pub spots_grow : (game : Game) (f : TurnFrame) (s : Spot) → k.frame ≡ f → l.spots.items ≡ spot_noted k.spots.items s → Grows game f s old new
  spots_grow game f s is same = record {
    own = λ q t of player turn. own game q t of;
    stay = stay (λ x m. subst (λ (xs : List Spot). Has xs x) (sym same) (has_noted k.spots.items s x m));
    come = λ q t of x m. here q t of x (come s (λ y n. noted_has k.spots.items s y (subst (λ (xs : List Spot). Has xs y) same n)) x m);
    one = λ q t of. now q t of (noted_now k.spots.items s);
    once = λ q t of w. subst AreOnce (sym new_is) (once_set old at k l there frame (λ apart. subst AreOfLogs (sym same) (logs_noted k.spots.items s apart)) w);
  }
    where
      right : (q t : ℕ) → AreOf game q t old → (u : Spot) → seen_with k.frame k.digest u ≡ sight game f u
      right q t of u = let r = of k (slice_get_Has old at k there) in (λ i. seen_with (is i) ((r.2 ∙ ap (digest_of game) is) i) u)

      here : (q t : ℕ) → AreOf game q t old → (x : Seen) → Has (seen_in old) x ⊎ (seen_with k.frame k.digest s ≡ x) → Has (seen_in old) x ⊎ (sight game f s ≡ x)
      here q t of x (inl a) = inl a
      here q t of x (inr e) = inr (sym (right q t of s) ∙ e)

      now : (q t : ℕ) → AreOf game q t old → Has (spot_noted k.spots.items s) s ⊎ ((x : Spot) × Has k.spots.items x × (x.log ≡ s.log)) →
          Has (seen_in new) (sight game f s) ⊎ ((y : Seen) × Has (seen_in old) y × (y.spot.log ≡ s.log) × (y.frame ≡ f))
      now q t of (inl a) = inl (subst (λ (ks : List KeptFrame). Has (seen_in ks) (sight game f s)) (sym new_is)
          (Has_flat_map seen_of (set old at l) l (sight game f s) (set_now old at l k there) (subst (Has (seen_of l)) (moved s ∙ right q t of s) (kept_has l s (subst (λ (xs : List Spot). Has xs s) (sym same) a)))))
      now q t of (inr (x, m, log)) = inr (seen_with k.frame k.digest x, Has_flat_map seen_of old k (seen_with k.frame k.digest x) (slice_get_Has old at k there) (kept_has k x m), log, is)

pub noted_grows : (game : Game) (f : TurnFrame) (s : Spot) (old new : List KeptFrame) (at : ℕ) → StandsAt old at f → IsNotedAt old new at s → Grows game f s old new
noted_grows game f s old new at (k, here, is) (l, there, (m, frame, digest, spots, new_is)) =
    let both : Some l ≡ Some k = sym there ∙ here in
    let same : l ≡ k = cc in
    spots_grow old new at l m there frame digest new_is game f s (ap (λ (x : KeptFrame). x.frame) same ∙ is) spots

pub stands_within : (ks : List KeptFrame) (at : ℕ) (f : TurnFrame) → StandsAt ks at f → at < length ks
stands_within ks at f (k, there, is) = slice_get_within ks at k there

-- a frame comes behind the others
pub added_grows : (game : Game) (f : TurnFrame) (d : Digest) (s : Spot) (old new : List KeptFrame) → d ≡ digest_of game f → ((i : ℕ) (k : KeptFrame) → slice_get old i ≡ Some k → k.frame ≡ f → k.digest ≡ d → ⊥) →
    IsAdded old new f d s → Grows game f s old new
added_grows game f d s old new right other (l, frame, digest, spots, new_is) = record {
  own = λ q t of player turn x m. each q t of player turn x (last_has old l x (subst (λ (ks : List KeptFrame). Has ks x) new_is m));
  stay = λ x m. let r = flat_map_Has seen_of old x m in subst (λ (ks : List KeptFrame). Has (seen_in ks) x) (sym new_is) (Has_flat_map seen_of (old ++ l ∷ []) r.0 x (Has_front old (l ∷ []) r.0 r.1) r.2);
  come = λ q t of x m. fresh x (flat_map_Has seen_of (old ++ l ∷ []) x (subst (λ (ks : List KeptFrame). Has (seen_in ks) x) new_is m));
  one = λ q t of. inl (subst (λ (ks : List KeptFrame). Has (seen_in ks) (sight game f s)) (sym new_is)
      (Has_flat_map seen_of (old ++ l ∷ []) l (sight game f s) (Has_back old (l ∷ []) l (inl refl)) (subst (Has (seen_of l)) (is s) (kept_has l s (subst (λ (xs : List Spot). Has xs s) (sym spots) (inl refl))))));
  once = λ q t of w. subst AreOnce (sym new_is) (once_more old l (unlike q t of) (subst AreOfLogs (sym spots) (logs_one s)) w);
}
  where
    -- a frame with the right digest that is the new one has its digest too
    unlike : (q t : ℕ) → AreOf game q t old → (i : ℕ) (k : KeptFrame) → slice_get old i ≡ Some k → k.frame ≡ l.frame → ⊥
    unlike q t of i k at same = other i k at (same ∙ frame) ((of k (slice_get_Has old i k at)).2 ∙ ap (digest_of game) (same ∙ frame) ∙ sym right)

    is : (u : Spot) → seen_with l.frame l.digest u ≡ sight game f u
    is u = λ i. seen_with (frame i) ((digest ∙ right) i) u

    each : (q t : ℕ) → AreOf game q t old → player_of f ≡ q → turn_of f ≡ t → (x : KeptFrame) → Has old x ⊎ (l ≡ x) → (player_of x.frame ≡ q) × (turn_of x.frame ≡ t) × (x.digest ≡ digest_of game x.frame)
    each q t of player turn x (inl a) = of x a
    each q t of player turn x (inr e) = subst (λ (y : KeptFrame). (player_of y.frame ≡ q) × (turn_of y.frame ≡ t) × (y.digest ≡ digest_of game y.frame)) e
        (ap player_of frame ∙ player, ap turn_of frame ∙ turn, digest ∙ right ∙ ap (digest_of game) (sym frame))

    fresh : (x : Seen) → (y : KeptFrame) × Has (old ++ l ∷ []) y × Has (seen_of y) x → Has (seen_in old) x ⊎ (sight game f s ≡ x)
    fresh x (y, a, n) = go (last_has old l y a)
      where
        go : Has old y ⊎ (l ≡ y) → Has (seen_in old) x ⊎ (sight game f s ≡ x)
        go (inl b) = inl (Has_flat_map seen_of old y x b n)
        go (inr e) = let r = has_kept l x (subst (λ (z : KeptFrame). Has (seen_of z) x) (sym e) n) in spot r.0 (subst (λ (xs : List Spot). Has xs r.0) spots r.1) r.2
          where
            spot : (u : Spot) → Has (s ∷ []) u → seen_with l.frame l.digest u ≡ x → Has (seen_in old) x ⊎ (sight game f s ≡ x)
            spot u (inl c) w = inr (sym (is s) ∙ ap (seen_with l.frame l.digest) c ∙ w)
            spot u (inr c) w = absurd c

-- nothing changes
pub alike_same : (old new : List KeptFrame) → new ≡ old → AreAlike old new
alike_same old new same = record {
  own = λ game q t of. subst (AreOf game q t) (sym same) of;
  to = λ x m. subst (λ (ks : List KeptFrame). Has (seen_in ks) x) (sym same) m;
  fro = λ x m. subst (λ (ks : List KeptFrame). Has (seen_in ks) x) same m;
  once = λ w. subst AreOnce (sym same) w;
}
