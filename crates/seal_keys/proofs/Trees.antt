-- Trees: the nodes of a tree in a table of rows.
use Rattle.std.proofs.Common.{◌≡◌, ℕ, zero, suc, ◌+◌, ◌-◌, ◌*◌, ◌^◌, ◌<◌, ◌≤◌, ◌++◌, List, [], slice_index_or, refl, sym, ap, ◌∙◌, inl, inr, arith}
use Rattle.std.proofs.lemmas.Bool.{cases_lt}
use Rattle.sha2.specs.Sha256.{sha256}
use Rattle.seal_keys.specs.NodeTables.{HasNodes}
use Rattle.seal_keys.specs.Keys.{node}
use Rattle.seal_keys.proofs.Heights.{power_next, power_le}

-- the nodes of height 0 stand where the leaves do
pub leaves_stand : (leaves : ℕ → List ℕ) (tree w : ℕ) (nodes : List (List ℕ)) → w ≡ 2 ^ tree → ((j : ℕ) → j < w → slice_index_or nodes (w + j) [] ≡ leaves j) → HasNodes leaves tree 0 nodes
unfolding node
leaves_stand leaves tree w nodes is stand zero j low lt =
    let same : tree - 0 ≡ tree = omega arith in
    let wide : 2 ^ (tree - 0) ≡ w = ap (λ (n : ℕ). 2 ^ n) same ∙ sym is in
    ap (λ (p : ℕ). slice_index_or nodes (p + j) []) wide ∙ stand j (omega arith)
leaves_stand leaves tree w nodes is stand (suc h) j low lt = absurd (omega arith)

-- a node by its children
pub node_above : (leaves : ℕ → List ℕ) (h j : ℕ) → node leaves (suc h) j ≡ sha256 (node leaves h (2 * j) ++ node leaves h (2 * j + 1))
unfolding node
node_above leaves h j = refl

-- a row is written over that of its children
pub row_stands : (leaves : ℕ → List ℕ) (tree done w : ℕ) (old new : List (List ℕ)) → done < tree → w ≡ 2 ^ (tree - done - 1) →
    ((j : ℕ) → j < w → slice_index_or new (w + j) [] ≡ sha256 (slice_index_or old (2 * w + 2 * j) [] ++ slice_index_or old (2 * w + 2 * j + 1) [])) →
    ((p : ℕ) → 2 * w ≤ p → slice_index_or new p [] ≡ slice_index_or old p []) →
    HasNodes leaves tree done old → HasNodes leaves tree (done + 1) new
row_stands leaves tree done w old new lt is row kept before h j low within =
    let next = power_next (tree - done - 1) in
    let same : tree - done - 1 + 1 ≡ tree - done = omega arith in
    let wide : 2 ^ (tree - done) ≡ 2 * w = ap (λ (n : ℕ). 2 ^ n) (sym same) ∙ next ∙ ap (λ (n : ℕ). 2 * n) (sym is) in
    elim (cases_lt h (done + 1)) [
      | inl less ↦
          let above = power_le (tree - done) (tree - h) (omega arith) in
          kept (2 ^ (tree - h) + j) (omega arith) ∙ before h j (omega arith) within
      | inr here ↦
          let at : suc done ≡ h = omega arith in
          let width : 2 ^ (tree - h) ≡ w = ap (λ (n : ℕ). 2 ^ n) (let e : tree - h ≡ tree - done - 1 = omega arith in e) ∙ sym is in
          let in_row : j < w = omega arith in
          let child : (i : ℕ) → i < 2 * w → slice_index_or old (2 * w + i) [] ≡ node leaves done i
          = λ i small. ap (λ (p : ℕ). slice_index_or old (p + i) []) (sym wide) ∙ before done i (omega arith) (omega arith) in
          let one : 2 * w + 2 * j + 1 ≡ 2 * w + (2 * j + 1) = omega arith in
          let left = child (2 * j) (omega arith) in
          let right : slice_index_or old (2 * w + 2 * j + 1) [] ≡ node leaves done (2 * j + 1)
          = ap (λ (p : ℕ). slice_index_or old p []) one ∙ child (2 * j + 1) (omega arith) in
          ap (λ (p : ℕ). slice_index_or new (p + j) []) width ∙ row j in_row
          ∙ ap (λ (n : List ℕ). sha256 (n ++ slice_index_or old (2 * w + 2 * j + 1) [])) left ∙ ap (λ (n : List ℕ). sha256 (node leaves done (2 * j) ++ n)) right
          ∙ sym (node_above leaves done j) ∙ ap (λ (g : ℕ). node leaves g j) at
    ]
