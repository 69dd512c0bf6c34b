-- Placed: each frame but the first few has a place in the table.
use Rattle.std.proofs.Common.{Bool, List, None, Some, [], ap, arith, cond, false, inl, inr, refl, subst, sym, true, ℕ, ◌++◌, ◌∙◌, ◌∷◌, ◌≡◌, ◌≤◌, ◌⊎◌, length, set, slice_get}
use Rattle.std.specs.Prelude.{bytes_eq}
use Rattle.std.specs.Option.{is_some}
use Rattle.std.specs.Ordering.{nat_cmp}
use Rattle.std.specs.Cmp.Lexicographic.{slice_cmp}
use Rattle.std.specs.BTreeMap.{BTreeMap, get, is_at}
use Rattle.std.proofs.lemmas.Bool.{false≢true}
use Rattle.std.proofs.lemmas.Map.Text.{is_eq-slice_cmp}
use Rattle.definitions.specs.declared.openings.Digest.{Digest}
use Rattle.definitions.specs.declared.frames.TurnFrame.{TurnFrame}
use Rattle.definitions.specs.Logs.{frame_eq}
use Rattle.definition_laws.proofs.Alike.{digest_eq_same, frame_eq_same}
use Rattle.frame_index.specs.declared.kept.KeptFrame.{KeptFrame}
use Rattle.frame_index.specs.declared.kept.TheConstants.{FEW}
use Rattle.frame_index.specs.Kept.{HavePlaces, key_bytes}
use Rattle.frame_index.proofs.Once.{push_get, set_get}

pub same_test : (f g : TurnFrame) → f ≡ g → frame_eq f g ≡ true
same_test f g same = ap (frame_eq f) (sym same) ∙ frame_eq_same f

-- a key more in the table
pub still_there : (old new : BTreeMap (List ℕ) ℕ) (key : List ℕ) (v : ℕ) → ((q : List ℕ) → get (slice_cmp nat_cmp) new q ≡ cond (is_at (slice_cmp nat_cmp key) q) (Some v) (get (slice_cmp nat_cmp) old q)) →
    (q : List ℕ) → is_some (get (slice_cmp nat_cmp) old q) ≡ true → is_some (get (slice_cmp nat_cmp) new q) ≡ true
still_there old new key v changed q is = ap is_some (changed q) ∙ go (is_at (slice_cmp nat_cmp key) q)
  where
    go : (b : Bool) → is_some (cond b (Some v) (get (slice_cmp nat_cmp) old q)) ≡ true
    go true = refl
    go false = is

pub places_more : (ks : List KeptFrame) (old new : BTreeMap (List ℕ) ℕ) (key : List ℕ) (v : ℕ) →
    ((q : List ℕ) → get (slice_cmp nat_cmp) new q ≡ cond (is_at (slice_cmp nat_cmp key) q) (Some v) (get (slice_cmp nat_cmp) old q)) → HavePlaces ks old → HavePlaces ks new
places_more ks old new key v changed w at k few there = still_there old new key v changed (key_bytes k.frame k.digest) (w at k few there)

bytes_same : (xs : List ℕ) → bytes_eq xs xs ≡ true
bytes_same xs = digest_eq_same (record { bytes = xs })

-- the key itself is there
pub now_there : (old new : BTreeMap (List ℕ) ℕ) (key : List ℕ) (v : ℕ) → ((q : List ℕ) → get (slice_cmp nat_cmp) new q ≡ cond (is_at (slice_cmp nat_cmp key) q) (Some v) (get (slice_cmp nat_cmp) old q)) →
    is_some (get (slice_cmp nat_cmp) new key) ≡ true
now_there old new key v changed = ap is_some (changed key) ∙ ap (λ (b : Bool). is_some (cond b (Some v) (get (slice_cmp nat_cmp) old key))) (is_eq-slice_cmp key key ∙ bytes_same key)

-- one of them has other spots
pub places_set : (ks : List KeptFrame) (at : ℕ) (k l : KeptFrame) (places : BTreeMap (List ℕ) ℕ) → slice_get ks at ≡ Some k → l.frame ≡ k.frame → l.digest ≡ k.digest → HavePlaces ks places → HavePlaces (set ks at l) places
places_set ks at k l places there frame digest w i x few h = go (set_get ks at l i x h)
  where
    go : ((i ≡ at) × (x ≡ l)) ⊎ (slice_get ks i ≡ Some x) → is_some (get (slice_cmp nat_cmp) places (key_bytes x.frame x.digest)) ≡ true
    go (inl (e, f)) =
        let same : key_bytes k.frame k.digest ≡ key_bytes x.frame x.digest = λ n. key_bytes ((sym frame ∙ ap (λ (y : KeptFrame). y.frame) (sym f)) n) ((sym digest ∙ ap (λ (y : KeptFrame). y.digest) (sym f)) n) in
        subst (λ (key : List ℕ). is_some (get (slice_cmp nat_cmp) places key) ≡ true) same (w i k few (ap (slice_get ks) e ∙ there))
    go (inr g) = w i x few g

-- one comes behind the others, which has a place or is one of the first few
pub places_push : (ks : List KeptFrame) (l : KeptFrame) (places : BTreeMap (List ℕ) ℕ) → (FEW ≤ length ks → is_some (get (slice_cmp nat_cmp) places (key_bytes l.frame l.digest)) ≡ true) → HavePlaces ks places →
    HavePlaces (ks ++ l ∷ []) places
places_push ks l places here w i x few h = go (push_get ks l i x h)
  where
    go : (slice_get ks i ≡ Some x) ⊎ ((i ≡ length ks) × (x ≡ l)) → is_some (get (slice_cmp nat_cmp) places (key_bytes x.frame x.digest)) ≡ true
    go (inl g) = w i x few g
    go (inr (e, f)) = subst (λ (y : KeptFrame). is_some (get (slice_cmp nat_cmp) places (key_bytes y.frame y.digest)) ≡ true) (sym f) (here (let n = few in omega (arith, e, n)))

-- where no place is told, none of them is the frame
pub none_late : (ks : List KeptFrame) (places : BTreeMap (List ℕ) ℕ) (f : TurnFrame) (d : Digest) → HavePlaces ks places → None ≡ get (slice_cmp nat_cmp) places (key_bytes f d) →
    (at : ℕ) (k : KeptFrame) → FEW ≤ at → slice_get ks at ≡ Some k → k.frame ≡ f → k.digest ≡ d → ⊥
none_late ks places f d w none at k few there frame digest =
    let same : key_bytes k.frame k.digest ≡ key_bytes f d = λ n. key_bytes (frame n) (digest n) in
    let some : is_some (get (slice_cmp nat_cmp) places (key_bytes f d)) ≡ true = subst (λ (key : List ℕ). is_some (get (slice_cmp nat_cmp) places key) ≡ true) same (w at k few there) in
    false≢true (ap is_some none ∙ some)
