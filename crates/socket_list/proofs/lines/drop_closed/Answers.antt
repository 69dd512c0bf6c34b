use Rattle.std.proofs.Common.{◌≡◌, ◌<◌, ◌≤◌, ℕ, zero, suc, List, [], ◌∷◌, Some, Bool, true, false, refl, sym, ap, ◌∙◌, arith, length, slice_get}
use Rattle.std.specs.Prelude.{cond, filter}
use Rattle.std.specs.List.{remove}
use Rattle.std.proofs.lemmas.List.Edits.{length-remove}
use Rattle.std.proofs.lemmas.Option.{slice_get-get_or}
use Rattle.socket_lines.specs.declared.line.Line.{Line}
use Rattle.socket_list.proofs.lines.drop_closed.Goals as goal

without-one : (xs : List Line) (k : ℕ) (x : Line) → slice_get xs k ≡ Some x → x.is_open ≡ false → filter (λ y. y.is_open) (remove xs k) ≡ filter (λ y. y.is_open) xs
without-one [] k x g o = absurd (cc)
without-one (t ∷ ts) zero x g o = let e : t.is_open ≡ false = (let tx : t ≡ x = cc in ap (λ (y : Line). y.is_open) tx ∙ o) in sym (ap (λ (b : Bool). cond b (t ∷ filter (λ y. y.is_open) ts) (filter (λ y. y.is_open) ts)) e)
without-one (t ∷ ts) (suc k) x g o = ap (λ (ys : List Line). cond t.is_open (t ∷ ys) ys) (without-one ts k x g o)

front-same : (xs : List Line) (k j : ℕ) (m : Line) → j < k → slice_get (remove xs k) j ≡ Some m → slice_get xs j ≡ Some m
front-same [] k j m h g = ends k j m g
  where
    ends : (k j : ℕ) (m : Line) → slice_get (remove {X = Line} [] k) j ≡ Some m → slice_get {X = Line} [] j ≡ Some m
    ends zero j m g = g
    ends (suc k) j m g = g
front-same (t ∷ ts) zero j m h g = absurd (omega (arith, h))
front-same (t ∷ ts) (suc k) zero m h g = g
front-same (t ∷ ts) (suc k) (suc j) m h g = front-same ts k j m (omega (arith, h)) g

all-open : (xs : List Line) (n : ℕ) → length xs ≤ n → ((j : ℕ) (m : Line) → j < n → slice_get xs j ≡ Some m → m.is_open ≡ true) → filter (λ y. y.is_open) xs ≡ xs
all-open [] n h f = refl
all-open (t ∷ ts) zero h f = absurd (omega (arith, h))
all-open (t ∷ ts) (suc n) h f =
    let e = f zero t (omega arith) refl in
    ap (λ (b : Bool). cond b (t ∷ filter (λ y. y.is_open) ts) (filter (λ y. y.is_open) ts)) e ∙ ap (λ (ys : List Line). t ∷ ys) (all-open ts n (omega (arith, h)) (λ j m l g. f (suc j) m (omega (arith, l)) g))

pub returns-clause-items : goal.returns-clause-items
returns-clause-items c =
    let v = c.loop-at.invariant in
    let t = c.loop-at-test.false in
    let len = c.len.ensures in
    sym (all-open c.loop-at.lines.items c.loop-at.at (omega (arith, t, len)) v.front) ∙ v.same

pub loop-at-preserved : goal.loop-at-preserved
loop-at-preserved c =
    let v = c.loop-at.invariant in
    let t = c.loop-at-test.true in
    let len = c.len.ensures in
    let ls = c.loop-at.lines.items in
    let x = c.index.result.now in
    let there : slice_get ls c.loop-at.at ≡ Some x = slice_get-get_or ls c.loop-at.at x (omega (arith, t, len)) ∙ ap (λ (l : Line). Some l) (sym c.index.ensures) in
    let it = c.remove.ensures.items in
    let long = length-remove ls c.loop-at.at (omega (arith, t, len)) in
    let new = ap (λ (ys : List Line). length ys) it in
    record {
      inside = omega (arith, long, new, t, len);
      same = ap (λ (ys : List Line). filter (λ y. y.is_open) ys) it ∙ (without-one ls c.loop-at.at x there c.if-index.false ∙ v.same);
      front = λ j m h g. v.front j m h (front-same ls c.loop-at.at j m h (ap (λ (ys : List Line). slice_get ys j) (sym it) ∙ g));
      capacity = c.remove.ensures.capacity ∙ v.capacity;
    }
