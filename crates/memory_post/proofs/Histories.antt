-- Histories: what an item leaves as it was.
use Rattle.std.proofs.Common.{◌≡◌, ℕ, ◌-◌, ◌≤◌, Bool, true, false, List, [], ◌∷◌, ◌++◌, refl, ap, ◌∙◌, append-nil, length, arith, length-append, if◌then◌else◌}
use Rattle.memory_post.specs.Ledgers.{HeldLedger, charged, fits, long}
use Rattle.std.specs.Prelude.{◌&&◌, ◌||◌, not}
use Rattle.std.specs.List.{list_any}
use Rattle.std.proofs.lemmas.List.Folds.{list_any-append}
use Rattle.datagram_post.specs.declared.answers.Received.{Received}
use Rattle.datagram_post.specs.declared.answers.Received.TheVariants as R
use Rattle.datagram_post.specs.Items.{Item, did_by, log_item, receive_item}
use Rattle.datagram_post.specs.Moved.{given_in, kept_in}
use Rattle.datagram_post.proofs.Histories.{given-more, kept-more}
use Rattle.memory_post.specs.HeldPosts.{begins, is_begun}

-- a receive keeps, gives and begins nothing
pub receive-given : (h : List Item) (r : Received) (buf : List ℕ) → given_in (h ++ receive_item r buf ∷ []) ≡ given_in h
receive-given h (R.Took n) buf = given-more h (receive_item (R.Took n) buf) ∙ append-nil (given_in h)
receive-given h R.NotYet buf = given-more h (receive_item R.NotYet buf) ∙ append-nil (given_in h)
receive-given h R.Failed buf = given-more h (receive_item R.Failed buf) ∙ append-nil (given_in h)

pub receive-kept : (h : List Item) (r : Received) (buf : List ℕ) → kept_in (h ++ receive_item r buf ∷ []) ≡ kept_in h
receive-kept h (R.Took n) buf = kept-more h (receive_item (R.Took n) buf) ∙ append-nil (kept_in h)
receive-kept h R.NotYet buf = kept-more h (receive_item R.NotYet buf) ∙ append-nil (kept_in h)
receive-kept h R.Failed buf = kept-more h (receive_item R.Failed buf) ∙ append-nil (kept_in h)

or-none : (b : Bool) → (b || (false || false)) ≡ b
or-none true = refl
or-none false = refl

pub receive-begun : (h : List Item) (r : Received) (buf : List ℕ) → is_begun (h ++ receive_item r buf ∷ []) ≡ is_begun h
receive-begun h (R.Took n) buf = list_any-append begins h (receive_item (R.Took n) buf ∷ []) ∙ or-none (is_begun h)
receive-begun h R.NotYet buf = list_any-append begins h (receive_item R.NotYet buf ∷ []) ∙ or-none (is_begun h)
receive-begun h R.Failed buf = list_any-append begins h (receive_item R.Failed buf ∷ []) ∙ or-none (is_begun h)

-- a log is begun where none was
pub log-begun : (h : List Item) (goes : Bool) (name : List ℕ) → is_begun (h ++ log_item (did_by (goes && not (is_begun h))) name ∷ []) ≡ (is_begun h || goes)
log-begun h goes name = list_any-append begins h (log_item (did_by (goes && not (is_begun h))) name ∷ []) ∙ go (is_begun h) goes
  where
    go : (b g : Bool) → (b || list_any begins (log_item (did_by (g && not b)) name ∷ [])) ≡ (b || g)
    go true true = refl
    go true false = refl
    go false true = refl
    go false false = refl

pub log-given : (h : List Item) (b : Bool) (name : List ℕ) → given_in (h ++ log_item (did_by b) name ∷ []) ≡ given_in h
log-given h true name = given-more h (log_item (did_by true) name) ∙ append-nil (given_in h)
log-given h false name = given-more h (log_item (did_by false) name) ∙ append-nil (given_in h)

pub log-kept : (h : List Item) (b : Bool) (name : List ℕ) → kept_in (h ++ log_item (did_by b) name ∷ []) ≡ kept_in h
log-kept h true name = kept-more h (log_item (did_by true) name) ∙ append-nil (kept_in h)
log-kept h false name = kept-more h (log_item (did_by false) name) ∙ append-nil (kept_in h)

-- ---- the room

less-items : (b : Bool) (n : ℕ) → (if b then n - 1 else n) ≤ n
less-items true n = omega arith
less-items false n = omega arith

less-bytes : (b : Bool) (n s : ℕ) → (if b then n - s else n) ≤ n
less-bytes true n s = omega arith
less-bytes false n s = omega arith

-- a call takes room and gives none back
pub charged-items : (size : ℕ) (l m : HeldLedger) → m ≡ charged size l → m.items ≤ l.items
charged-items size l m e = (let h = less-items (fits size l) l.items in let a = ap (λ (x : HeldLedger). x.items) e in omega (arith, h, a))

pub charged-bytes : (size : ℕ) (l m : HeldLedger) → m ≡ charged size l → m.bytes ≤ l.bytes
charged-bytes size l m e = (let h = less-bytes (fits size l) l.bytes size in let a = ap (λ (x : HeldLedger). x.bytes) e in omega (arith, h, a))

-- and is counted
pub charged-calls : (size : ℕ) (l m : HeldLedger) (h k : List Item) (item : Item) → m ≡ charged size l → l.calls ≡ long (length h) → k ≡ h ++ item ∷ [] → m.calls ≡ long (length k)
charged-calls size l m h k item e c is =
    let a = ap (λ (x : HeldLedger). x.calls) e in
    let n = ap (λ (x : List Item). length x) is in
    let one = length-append h (item ∷ []) in
    omega (arith, a, c, n, one)
