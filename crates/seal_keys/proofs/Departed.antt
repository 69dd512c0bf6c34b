-- Departed: what holds where a seal's path departs from that of the keys, and where it doesn't.
use Rattle.std.proofs.Common.{◌≡◌, ℕ, zero, suc, ◌+◌, ◌-◌, ◌*◌, ◌/◌, ◌%◌, ◌^◌, ◌<◌, ◌≤◌, Bool, true, false, List, ◌++◌, None, Some, length, add-one, refl, sym, ap, ◌∙◌, inl, inr, subst, arith, length-append}
use Rattle.std.specs.Prelude.{Option, ◌==◌, bytes_eq, if◌then◌else◌, not}
use Rattle.std.proofs.lemmas.Bool.{and_parts, both_ways, cases_eq, cases_lt, eq-eqb, eqb-true, ltb-true, ne_eqb, not-false, not-true}
use Rattle.std.proofs.lemmas.Slice.Eq.{bytes_eq-Decides}
use Rattle.std.proofs.Math.Nat.{div-eq_of_lt, div-one}
use Rattle.plain_lemmas.proofs.Tests.{of_chosen}
use Rattle.sha2.specs.Sha256.{sha256}
use Rattle.sha2.proofs.Facts256.{length-sha256}
use Rattle.definitions.specs.declared.frames.TurnFrame.{TurnFrame}
use Rattle.definitions.specs.World.{Game}
use Rattle.definitions.specs.Logs.{turn_of}
use Rattle.definitions.specs.Answers.{place_of}
use Rattle.definitions.proofs.Fronts.{front_same}
use Rattle.seal_keys.specs.Parts.{joined_below, part_of}
use Rattle.seal_keys.specs.Keys.{leaf_of, node, node_of, places, public_pair, public_value, publics, root_of, tree_height}
use Rattle.seal_keys.specs.Seals.{beside, bit_of, is_valid, seal_path, message, root_by_seal, seal_len, shown, shown_pair, sibling_of}
use Rattle.seal_keys.specs.Departures.{departs_at, departure, key_path, last_below}
use Rattle.seal_keys.specs.Laws.{DeparturesAreTwoStrings, DisclosedValuesHashAlike}
use Rattle.seal_keys.proofs.Digests.{length-node_of, length-public_pair, length-public_value}
use Rattle.std.proofs.lemmas.Nat.{shr_below}
use Rattle.seal_keys.proofs.Heights.{power_next, tree_height_enough}
use Rattle.seal_keys.proofs.Paths.{index_up, seal_path_none}
use Rattle.seal_keys.proofs.Roots.{beside_children, bit_of-lt, leaf_here, seal_path_suc, secret_hashed}
use Rattle.seal_keys.proofs.Trees.{node_above}
use Rattle.seal_keys.proofs.Parts.{length-part_of, parts_same}

-- ---- the last at which a test passes

pub last_none : (test : ℕ → Bool) → last_below test 0 ≡ None
unfolding last_below
last_none test = refl

pub last_here : (test : ℕ → Bool) (n : ℕ) → test n ≡ true → last_below test (n + 1) ≡ Some n
unfolding last_below
last_here test n is = rw add-one (rw is refl)

pub last_before : (test : ℕ → Bool) (n : ℕ) → test n ≡ false → last_below test (n + 1) ≡ last_below test n
unfolding last_below
last_before test n is = rw add-one (rw is refl)

-- one test more
pub last_step : (test : ℕ → Bool) (n : ℕ) (same : Bool) (before : Option ℕ) → test n ≡ not same → before ≡ last_below test n →
    (if same then before else Some n) ≡ last_below test (n + 1)
last_step test n true before is was = was ∙ sym (last_before test n is)
last_step test n false before is was = sym (last_here test n is)

-- it passes there, and at no higher one
record IsLast (test : ℕ → Bool) (n h : ℕ) : Type 0 where
  passes : test h ≡ true
  below : h < n
  none : (g : ℕ) → h < g → g < n → test g ≡ false

last_is : (test : ℕ → Bool) (n h : ℕ) → last_below test n ≡ Some h → IsLast test n h
unfolding last_below
last_is test zero h is = absurd (cc)
last_is test (suc n) h is = go (test n) refl is (last_is test n h)
  where
    go : (b : Bool) → test n ≡ b → (if b then Some n else last_below test n) ≡ Some h → (last_below test n ≡ Some h → IsLast test n h) → IsLast test (suc n) h
    go true here e before =
        let same : n ≡ h = cc in
        record { passes = ap test (sym same) ∙ here; below = omega arith; none = λ g above under. absurd (omega arith) }
    go false not e before =
        let rest = before e in
        let under = rest.below in
        record {
          passes = rest.passes;
          below = omega arith;
          none = λ g above lt. elim (cases_lt g n) [
            | inl less ↦ rest.none g above less
            | inr at ↦ let same : n ≡ g = omega arith in ap test (sym same) ∙ not
          ];
        }

fails_below : (test : ℕ → Bool) (n g : ℕ) → last_below test n ≡ None → g < n → test g ≡ false
unfolding last_below
fails_below test zero g is lt = absurd (omega arith)
fails_below test (suc n) g is lt = go (test n) refl is (fails_below test n g)
  where
    go : (b : Bool) → test n ≡ b → (if b then Some n else last_below test n) ≡ None → (last_below test n ≡ None → g < n → test g ≡ false) → test g ≡ false
    go true here e before = absurd (cc)
    go false not e before = elim (cases_lt g n) [
      | inl less ↦ before e less
      | inr at ↦ let same : n ≡ g = omega arith in ap test (sym same) ∙ not
    ]

-- ---- what a test of departure tells

stays : (game : Game) (seed : List ℕ) (f : TurnFrame) (s : List ℕ) (h : ℕ) → departs_at game seed f s h ≡ false →
    seal_path (message game f) s (place_of game f) h ≡ key_path game seed (place_of game f) h
unfolding departs_at
stays game seed f s h e =
    (bytes_eq-Decides (seal_path (message game f) s (place_of game f) h) (key_path game seed (place_of game f) h)).0 (not-false _ e)

goes : (game : Game) (seed : List ℕ) (f : TurnFrame) (s : List ℕ) (h : ℕ) → departs_at game seed f s h ≡ true →
    seal_path (message game f) s (place_of game f) h ≡ key_path game seed (place_of game f) h → ⊥
unfolding departs_at
goes game seed f s h e same =
    both_ways _ (not-true _ e) ((bytes_eq-Decides (seal_path (message game f) s (place_of game f) h) (key_path game seed (place_of game f) h)).1 same)

-- ---- the digest of what the keys' path has at a height is their node there

key_path_hashed : (game : Game) (seed : List ℕ) (k h : ℕ) → k < places game → sha256 (key_path game seed k h) ≡ node_of game seed h (k / 2 ^ h)
unfolding key_path
key_path_hashed game seed k zero lt = sym (leaf_here game seed k lt) ∙ ap (node_of game seed 0) (sym (div-one k))
key_path_hashed game seed k (suc h) lt = sym (node_above (leaf_of seed (places game)) h (k / 2 ^ suc h))

beside_same : (j : ℕ) (a b a' b' : List ℕ) → length a ≡ 32 → length b ≡ 32 → length a' ≡ 32 → length b' ≡ 32 → beside j a b ≡ beside j a' b' → a ≡ a'
unfolding beside
beside_same j a b a' b' la lb la' lb' same = go (j % 2 == 0) same
  where
    go : (even : Bool) → (if even then a ++ b else b ++ a) ≡ (if even then a' ++ b' else b' ++ a') → a ≡ a'
    go true e = (front_same a b a' b' (la ∙ sym la') e).0
    go false e = (front_same b a b' a' (lb ∙ sym lb') e).1

-- what stands above is the same: so is the digest below
under_same : (game : Game) (seed m s : List ℕ) (k h : ℕ) → 32 * (512 + h) + 32 ≤ length s → seal_path m s k (suc h) ≡ key_path game seed k (suc h) →
    sha256 (seal_path m s k h) ≡ node_of game seed h (k / 2 ^ h)
unfolding key_path
under_same game seed m s k h room same =
    let j : ℕ = k / 2 ^ h in
    let up : k / 2 ^ suc h ≡ j / 2 = sym (index_up k h ∙ ap (λ (n : ℕ). k / 2 ^ n) (add-one h)) in
    beside_same j (sha256 (seal_path m s k h)) (part_of s (512 + h)) (node_of game seed h j) (node_of game seed h (sibling_of j)) (length-sha256 _) (length-part_of s (512 + h) room)
    (length-node_of game seed h j) (length-node_of game seed h (sibling_of j))
    (sym (seal_path_suc m s k h) ∙ same ∙ ap (λ (i : ℕ). node_of game seed h (2 * i) ++ node_of game seed h (2 * i + 1)) up ∙ sym (beside_children (leaf_of seed (places game)) h j))

pub key_path_none : (game : Game) (seed : List ℕ) (k : ℕ) → key_path game seed k 0 ≡ publics seed k
unfolding key_path
key_path_none game seed k = refl

pub key_path_more : (game : Game) (seed : List ℕ) (k h : ℕ) →
    key_path game seed k (h + 1) ≡ node_of game seed h (2 * (k / 2 ^ (h + 1))) ++ node_of game seed h (2 * (k / 2 ^ (h + 1)) + 1)
unfolding key_path
key_path_more game seed k h =
    ap (key_path game seed k) (add-one h) ∙ ap (λ (n : ℕ). node_of game seed h (2 * (k / 2 ^ n)) ++ node_of game seed h (2 * (k / 2 ^ n) + 1)) (sym (add-one h))

-- whether it departs_at, by what was compared
pub departs_by : (game : Game) (seed : List ℕ) (f : TurnFrame) (s : List ℕ) (h : ℕ) (a b : List ℕ) (same : Bool) → same ≡ bytes_eq a b →
    a ≡ seal_path (message game f) s (place_of game f) h → b ≡ key_path game seed (place_of game f) h → departs_at game seed f s h ≡ not same
unfolding departs_at
departs_by game seed f s h a b same is left right =
    ap (λ (x : List ℕ). not (bytes_eq x (key_path game seed (place_of game f) h))) (sym left) ∙ ap (λ (y : List ℕ). not (bytes_eq a y)) (sym right) ∙ ap not (sym is)

-- the children stand in the tree
pub children_within : (game : Game) (k h : ℕ) → game.turns ≤ 8192 → k < places game → h < tree_height game → 2 * (k / 2 ^ h / 2) + 1 < 2 ^ (tree_height game - h)
children_within game k h few lt less =
    let left : ℕ = tree_height game - h - 1 in
    let enough = tree_height_enough game few in
    let all : left + 1 + h ≡ tree_height game = omega arith in
    let wide : left + 1 ≡ tree_height game - h = omega arith in
    let small : k / 2 ^ h < 2 ^ (left + 1) = shr_below k (left + 1) h (subst (λ (n : ℕ). k < 2 ^ n) (sym all) (omega arith)) in
    let next = power_next left in
    subst (λ (n : ℕ). 2 * (k / 2 ^ h / 2) + 1 < 2 ^ n) wide (omega arith)

-- ---- a valid seal

pub record IsValid (game : Game) (root : List ℕ) (f : TurnFrame) (s : List ℕ) : Type 0 where
  pub turn : turn_of f < game.turns
  pub long : length s ≡ seal_len game
  pub leads : root_by_seal game f s ≡ root

pub valid_parts : (game : Game) (root : List ℕ) (f : TurnFrame) (s : List ℕ) → is_valid game root f s ≡ true → IsValid game root f s
unfolding is_valid
valid_parts game root f s v =
    let a = and_parts _ _ v in
    let b = and_parts _ _ a.0 in
    record { turn = ltb-true _ _ b.0; long = eqb-true _ _ b.1; leads = (bytes_eq-Decides (root_by_seal game f s) root).0 a.1 }

-- at the top the digests are the same
top_same : (game : Game) (seed : List ℕ) (f : TurnFrame) (s : List ℕ) → game.turns ≤ 8192 → place_of game f < places game → root_by_seal game f s ≡ root_of game seed →
    sha256 (seal_path (message game f) s (place_of game f) (tree_height game)) ≡ node_of game seed (tree_height game) (place_of game f / 2 ^ tree_height game)
top_same game seed f s few lt leads =
    let enough = tree_height_enough game few in
    let none : place_of game f / 2 ^ tree_height game ≡ 0 = div-eq_of_lt (omega arith) in
    leads ∙ ap (node_of game seed (tree_height game)) (sym none)

-- two strings at a height
two_at : (game : Game) (seed : List ℕ) (f : TurnFrame) (s : List ℕ) (h : ℕ) → game.turns ≤ 8192 → place_of game f < places game →
    IsValid game (root_of game seed) f s → IsLast (departs_at game seed f s) (tree_height game + 1) h →
    sha256 (seal_path (message game f) s (place_of game f) h) ≡ node_of game seed h (place_of game f / 2 ^ h)
two_at game seed f s h few lt valid last = elim (cases_lt h (tree_height game)) [
  | inl less ↦
      let above : departs_at game seed f s (suc h) ≡ false = last.none (suc h) (omega arith) (omega arith) in
      let long = valid.long in
      under_same game seed (message game f) s (place_of game f) h (omega arith) (stays game seed f s (suc h) above)
  | inr top ↦
      let under = last.below in
      let same : tree_height game ≡ h = omega arith in
      subst (λ (g : ℕ). sha256 (seal_path (message game f) s (place_of game f) g) ≡ node_of game seed g (place_of game f / 2 ^ g)) same
      (top_same game seed f s few lt valid.leads)
]

pub departures : DeparturesAreTwoStrings
unfolding departure
departures game seed f s h few lt v is =
    let valid = valid_parts game (root_of game seed) f s v in
    let last = last_is (departs_at game seed f s) (tree_height game + 1) h is in
    let under = last.below in (
      omega arith,
      record {
        differ = goes game seed f s h last.passes;
        one_digest = two_at game seed f s h few lt valid last ∙ sym (key_path_hashed game seed (place_of game f) h lt);
      },
    )

-- ---- what a seal discloses

pub length-shown_pair : (m s : List ℕ) (i : ℕ) → i < 256 → 16384 ≤ length s → length (shown_pair m s i) ≡ 64
unfolding shown_pair
length-shown_pair m s i lt room =
    let own = length-sha256 (part_of s i) in
    let rest = length-part_of s (256 + i) (omega arith) in
    of_chosen (λ (b : List ℕ). length b ≡ 64) (bit_of m i == 0) (sha256 (part_of s i) ++ part_of s (256 + i)) (part_of s (256 + i) ++ sha256 (part_of s i))
    (omega (arith, length-append (sha256 (part_of s i)) (part_of s (256 + i)))) (omega (arith, length-append (part_of s (256 + i)) (sha256 (part_of s i))))

pair_opens : (seed m s : List ℕ) (k i : ℕ) → i < 256 → 16384 ≤ length s → shown_pair m s i ≡ public_pair seed k i → sha256 (part_of s i) ≡ public_value seed k i (bit_of m i)
unfolding shown_pair public_pair
pair_opens seed m s k i lt room same = elim (cases_eq (bit_of m i) 0) [
  | inl is ↦
      let here = rw (eq-eqb (bit_of m i) 0 is) at same in
      (front_same (sha256 (part_of s i)) (part_of s (256 + i)) (public_value seed k i 0) (public_value seed k i 1) (length-sha256 _ ∙ sym (length-public_value seed k i 0)) here).0
      ∙ ap (public_value seed k i) (sym is)
  | inr one ↦
      let small = bit_of-lt m i in
      let is : bit_of m i ≡ 1 = grind arith in
      let here = rw (ne_eqb (bit_of m i) 0 one) at same in
      (front_same (part_of s (256 + i)) (sha256 (part_of s i)) (public_value seed k i 0) (public_value seed k i 1) (length-part_of s (256 + i) (omega arith) ∙ sym (length-public_value seed k i 0)) here).1
      ∙ ap (public_value seed k i) (sym is)
]

pub secrets : DisclosedValuesHashAlike
unfolding departure shown publics key_path
secrets game seed f s i v none lt =
    let valid = valid_parts game (root_of game seed) f s v in
    let long = valid.long in
    let k : ℕ = place_of game f in
    let m : List ℕ = message game f in
    let low = fails_below (departs_at game seed f s) (tree_height game + 1) 0 none (omega arith) in
    let all : joined_below (shown_pair m s) 256 ≡ joined_below (public_pair seed k) 256 = sym (seal_path_none m s k) ∙ stays game seed f s 0 low in
    pair_opens seed m s k i lt (omega arith)
    (parts_same (shown_pair m s) (public_pair seed k) 256 64 i (λ j less. length-shown_pair m s j less (omega arith)) (λ j less. length-public_pair seed k j) all lt)
    ∙ sym (secret_hashed seed k i (bit_of m i))
