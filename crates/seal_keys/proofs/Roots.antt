-- Roots: a seal leads to the root of its keys.
use Rattle.std.proofs.Common.{◌≡◌, ℕ, zero, suc, ◌+◌, ◌-◌, ◌*◌, ◌/◌, ◌%◌, ◌^◌, ◌<◌, ◌≤◌, true, List, [], ◌++◌, length, add-one, refl, sym, ap, ◌∙◌, inl, inr, arith, length-append}
use Rattle.std.proofs.lemmas.Bool.{cases_eq, eq-eqb, ne_eqb, lt-ltb}
use Rattle.std.proofs.lemmas.List.{append-nil}
use Rattle.std.proofs.lemmas.Nat.Bits.{bit_at-lt}
use Rattle.std.proofs.Math.Nat.{div-eq_of_lt, div-one}
use Rattle.sha2.specs.Sha256.{sha256}
use Rattle.std.proofs.lemmas.Slice.Eq.{bytes_eq-Decides}
use Rattle.definitions.specs.declared.frames.TurnFrame.{TurnFrame}
use Rattle.definitions.specs.World.{Game}
use Rattle.definitions.specs.Logs.{turn_of}
use Rattle.seal_keys.specs.Parts.{joined_below, part_of}
use Rattle.seal_keys.specs.Keys.{leaf_of, node, node_of, places, public_pair, public_value, publics, root_of, secret, tree_height}
use Rattle.seal_keys.specs.Seals.{beside, bit_of, disclosed, is_valid, seal_path, other_public, root_by_seal, seal_len, seal_of, shown, shown_pair, sibling_at, sibling_of}
use Rattle.seal_keys.specs.Laws.{SealsDiscloseTheirBits}
use Rattle.seal_keys.proofs.Digests.{leaf_of_place, length-node_of, length-public_value, length-secret}
use Rattle.seal_keys.proofs.Paths.{index_up, seal_path_none}
use Rattle.seal_keys.proofs.Trees.{node_above}
use Rattle.seal_keys.proofs.Parts.{length-joined_below, part_of_behind, part_of-joined_below, same_joined}

pub bit_of-lt : (m : List ℕ) (i : ℕ) → bit_of m i < 2
unfolding bit_of
bit_of-lt m i = bit_at-lt _ _

-- ---- the parts of a seal

pub discloses_bits : SealsDiscloseTheirBits
unfolding seal_of
discloses_bits game seed k i m lt =
    part_of-joined_below (disclosed seed k m) 256 i _ (λ i. length-secret seed k i (bit_of m i)) lt

second_of : (game : Game) (seed : List ℕ) (k i : ℕ) (m : List ℕ) → i < 256 → part_of (seal_of game seed k m) (256 + i) ≡ other_public seed k m i
unfolding seal_of
second_of game seed k i m lt =
    let long : length (joined_below (disclosed seed k m) 256) ≡ 32 * 256 = length-joined_below (disclosed seed k m) 256 32 (λ i. length-secret seed k i (bit_of m i)) in
    part_of_behind (joined_below (disclosed seed k m) 256) _ 256 i long
    ∙ part_of-joined_below (other_public seed k m) 256 i _ (λ i. length-public_value seed k i (1 - bit_of m i)) lt

third_of : (game : Game) (seed : List ℕ) (k h : ℕ) (m : List ℕ) → h < tree_height game → part_of (seal_of game seed k m) (512 + h) ≡ sibling_at game seed k h
unfolding seal_of
third_of game seed k h m lt =
    let one : length (joined_below (disclosed seed k m) 256) ≡ 32 * 256 = length-joined_below (disclosed seed k m) 256 32 (λ i. length-secret seed k i (bit_of m i)) in
    let two : length (joined_below (other_public seed k m) 256) ≡ 32 * 256 = length-joined_below (other_public seed k m) 256 32 (λ i. length-public_value seed k i (1 - bit_of m i)) in
    let rest : List ℕ = joined_below (sibling_at game seed k) (tree_height game) in
    let at : 512 + h ≡ 256 + (256 + h) = omega arith in
    ap (part_of (seal_of game seed k m)) at ∙ part_of_behind (joined_below (disclosed seed k m) 256) (joined_below (other_public seed k m) 256 ++ rest) 256 (256 + h) one
    ∙ part_of_behind (joined_below (other_public seed k m) 256) rest 256 h two
    ∙ ap (λ (b : List ℕ). part_of b h) (sym (append-nil rest))
    ∙ part_of-joined_below (sibling_at game seed k) (tree_height game) h [] (λ j. length-node_of game seed j (sibling_of (k / 2 ^ j))) lt

pub length-seal_of : (game : Game) (seed : List ℕ) (k : ℕ) (m : List ℕ) → length (seal_of game seed k m) ≡ seal_len game
unfolding seal_of
length-seal_of game seed k m =
    let one : length (joined_below (disclosed seed k m) 256) ≡ 256 * 32 = length-joined_below (disclosed seed k m) 256 32 (λ i. length-secret seed k i (bit_of m i)) in
    let two : length (joined_below (other_public seed k m) 256) ≡ 256 * 32 = length-joined_below (other_public seed k m) 256 32 (λ i. length-public_value seed k i (1 - bit_of m i)) in
    let three = length-joined_below (sibling_at game seed k) (tree_height game) 32 (λ j. length-node_of game seed j (sibling_of (k / 2 ^ j))) in
    omega (
      arith,
      length-append (joined_below (disclosed seed k m) 256) (joined_below (other_public seed k m) 256 ++ joined_below (sibling_at game seed k) (tree_height game)),
      length-append (joined_below (other_public seed k m) 256) (joined_below (sibling_at game seed k) (tree_height game)),
    )

-- ---- what it shows

-- of a bit: the public values, where what it discloses is the secret of the bit's value
pub pair_shown : (seed m s : List ℕ) (k i : ℕ) → sha256 (part_of s i) ≡ public_value seed k i (bit_of m i) → part_of s (256 + i) ≡ public_value seed k i (1 - bit_of m i) →
    shown_pair m s i ≡ public_pair seed k i
unfolding shown_pair public_pair
pair_shown seed m s k i own rest = elim (cases_eq (bit_of m i) 0) [
  | inl is ↦
      let low = own ∙ ap (public_value seed k i) is in
      let high = rest ∙ ap (λ (b : ℕ). public_value seed k i (1 - b)) is in
      rw (eq-eqb (bit_of m i) 0 is) (ap (λ (x : List ℕ). x ++ part_of s (256 + i)) low ∙ ap (λ (x : List ℕ). public_value seed k i 0 ++ x) high)
  | inr not ↦
      let lt = bit_of-lt m i in
      let is : bit_of m i ≡ 1 = grind arith in
      let high = own ∙ ap (public_value seed k i) is in
      let low = rest ∙ ap (λ (b : ℕ). public_value seed k i (1 - b)) is in
      rw (ne_eqb (bit_of m i) 0 not) (ap (λ (x : List ℕ). x ++ sha256 (part_of s i)) low ∙ ap (λ (x : List ℕ). public_value seed k i 0 ++ x) high)
]

pub secret_hashed : (seed : List ℕ) (k i v : ℕ) → sha256 (secret seed k i v) ≡ public_value seed k i v
unfolding public_value
secret_hashed seed k i v = refl

shown_of : (game : Game) (seed : List ℕ) (k : ℕ) (m : List ℕ) → shown m (seal_of game seed k m) ≡ publics seed k
unfolding shown publics
shown_of game seed k m =
    same_joined (shown_pair m (seal_of game seed k m)) (public_pair seed k) 256 (λ i lt.
    pair_shown seed m (seal_of game seed k m) k i (ap sha256 (discloses_bits game seed k i m lt) ∙ secret_hashed seed k i (bit_of m i)) (second_of game seed k i m lt))

-- ---- where it leads

-- a node of the way and its sibling are the children of their parent
pub beside_children : (leaves : ℕ → List ℕ) (h j : ℕ) → beside j (node leaves h j) (node leaves h (sibling_of j)) ≡ node leaves h (2 * (j / 2)) ++ node leaves h (2 * (j / 2) + 1)
unfolding beside
beside_children leaves h j = elim (cases_eq (j % 2) 0) [
  | inl even ↦
      let left : j ≡ 2 * (j / 2) = omega arith in
      let right : j + 1 ≡ 2 * (j / 2) + 1 = omega arith in
      rw (eq-eqb (j % 2) 0 even) (ap (λ (i : ℕ). node leaves h i ++ node leaves h (j + 1)) left ∙ ap (λ (i : ℕ). node leaves h (2 * (j / 2)) ++ node leaves h i) right)
  | inr odd ↦
      let left : j - 1 ≡ 2 * (j / 2) = grind arith in
      let right : j ≡ 2 * (j / 2) + 1 = grind arith in
      rw (ne_eqb (j % 2) 0 odd) (ap (λ (i : ℕ). node leaves h i ++ node leaves h j) left ∙ ap (λ (i : ℕ). node leaves h (2 * (j / 2)) ++ node leaves h i) right)
]

node_up : (leaves : ℕ → List ℕ) (h j : ℕ) → sha256 (node leaves h (2 * j) ++ node leaves h (2 * j + 1)) ≡ node leaves (h + 1) j
node_up leaves h j = sym (node_above leaves h j) ∙ ap (λ (n : ℕ). node leaves n j) (sym (add-one h))

pub leaf_here : (game : Game) (seed : List ℕ) (k : ℕ) → k < places game → node_of game seed 0 k ≡ sha256 (publics seed k)
unfolding node
leaf_here game seed k lt = leaf_of_place seed (places game) k lt

pub seal_path_suc : (m s : List ℕ) (k h : ℕ) → seal_path m s k (suc h) ≡ beside (k / 2 ^ h) (sha256 (seal_path m s k h)) (part_of s (512 + h))
unfolding seal_path
seal_path_suc m s k h = refl

-- the digest at each height is that of the keys' node
way_of : (game : Game) (seed : List ℕ) (k h : ℕ) (m : List ℕ) → k < places game → h ≤ tree_height game →
    sha256 (seal_path m (seal_of game seed k m) k h) ≡ node_of game seed h (k / 2 ^ h)
way_of game seed k zero m lt low =
    let leaf : node_of game seed 0 k ≡ sha256 (publics seed k) = leaf_here game seed k lt in
    ap sha256 (seal_path_none m (seal_of game seed k m) k ∙ shown_of game seed k m) ∙ sym leaf ∙ ap (node_of game seed 0) (sym (div-one k))
way_of game seed k (suc h) m lt low =
    let s : List ℕ = seal_of game seed k m in
    let j : ℕ = k / 2 ^ h in
    let up : j / 2 ≡ k / 2 ^ suc h = index_up k h ∙ ap (λ (n : ℕ). k / 2 ^ n) (add-one h) in
    ap sha256 (seal_path_suc m s k h ∙ ap (λ (o : List ℕ). beside j o (part_of s (512 + h))) (way_of game seed k h m lt (omega arith))
    ∙ ap (beside j (node_of game seed h j)) (third_of game seed k h m (omega arith)) ∙ beside_children (leaf_of seed (places game)) h j)
    ∙ node_up (leaf_of seed (places game)) h (j / 2) ∙ ap (λ (n : ℕ). node_of game seed n (j / 2)) (add-one h) ∙ ap (node_of game seed (suc h)) up

-- a seal leads to the root
pub root_of_seal : (game : Game) (seed : List ℕ) (k : ℕ) (m : List ℕ) → k < places game → places game ≤ 2 ^ tree_height game →
    sha256 (seal_path m (seal_of game seed k m) k (tree_height game)) ≡ root_of game seed
root_of_seal game seed k m lt enough =
    let none : k / 2 ^ tree_height game ≡ 0 = div-eq_of_lt (omega arith) in
    way_of game seed k (tree_height game) m lt (omega arith) ∙ ap (node_of game seed (tree_height game)) none

pub valid_of : (game : Game) (root s : List ℕ) (f : TurnFrame) → turn_of f < game.turns → length s ≡ seal_len game → root_by_seal game f s ≡ root → is_valid game root f s ≡ true
unfolding is_valid
valid_of game root s f lt long leads =
    let turn = lt-ltb (turn_of f) game.turns lt in
    let len = eq-eqb (length s) (seal_len game) long in
    let bytes = (bytes_eq-Decides (root_by_seal game f s) root).1 leads in
    rw (turn, len, bytes) refl
