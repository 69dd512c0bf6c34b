-- Going: histories that go on, one behind the other.
use Rattle.std.proofs.Common.{inl, inr, ◌≡◌, ◌+◌, ◌≤◌, refl, sym, ap, subst, ◌∙◌, List, [], ◌∷◌, ◌++◌, append_assoc, append-nil, arith}
use Rattle.std.specs.Prelude.{◌⊎◌}
use Rattle.socket_station.specs.Items.{Item}
use Rattle.socket_station.specs.Standings.{OpensNew}
use Rattle.loop_rules.specs.Told.{IsTold}
use Rattle.loop_laws.specs.Sockets.{SocketsAreNew}
use Rattle.ready_loop.specs.States.{LoopState, setting_of, choices_of, view_of}
use Rattle.ready_loop.specs.Going.{poll_count, polls_of, undialled, Grows, Goes}

pub polls_more : (items : List Item) (item : Item) → polls_of (items ++ item ∷ []) ≡ polls_of items + poll_count item
polls_more [] item = omega arith
polls_more (x ∷ items) item = (let more = polls_more items item in omega (arith, more))

-- ---- the numbers of sockets are new

pub new_none : SocketsAreNew []
new_none [] more item e = absurd (let q : [] ≡ item ∷ more = e in cc)
new_none (x ∷ before) more item e = absurd (let q : [] ≡ x ∷ (before ++ item ∷ more) = e in cc)

-- an item of a longer list is one of those before the last, or the last
one_more : (before front more : List Item) (item x : Item) → before ++ item ∷ [] ≡ front ++ x ∷ more → ((tail : List Item) × (before ≡ front ++ x ∷ tail)) ⊎ ((front ≡ before) × (x ≡ item))
one_more [] [] more item x e = inr (refl, (let q : item ∷ [] ≡ x ∷ more = e in let r : x ≡ item = cc in r))
one_more [] (f ∷ []) more item x e = absurd (let q : item ∷ [] ≡ f ∷ x ∷ more = e in cc)
one_more [] (f ∷ g ∷ front) more item x e = absurd (let q : item ∷ [] ≡ f ∷ g ∷ (front ++ x ∷ more) = e in cc)
one_more (b ∷ before) [] more item x e = inl (before, (let q : b ∷ (before ++ item ∷ []) ≡ x ∷ more = e in let r : b ∷ before ≡ x ∷ before = cc in r))
one_more (b ∷ before) (f ∷ front) more item x e = go (one_more before front more item x tails)
  where
    heads : b ≡ f
    heads = (let q : b ∷ (before ++ item ∷ []) ≡ f ∷ (front ++ x ∷ more) = e in let r : b ≡ f = cc in r)

    tails : before ++ item ∷ [] ≡ front ++ x ∷ more
    tails = (let q : b ∷ (before ++ item ∷ []) ≡ f ∷ (front ++ x ∷ more) = e in let r : before ++ item ∷ [] ≡ front ++ x ∷ more = cc in r)

    go : ((tail : List Item) × (before ≡ front ++ x ∷ tail)) ⊎ ((front ≡ before) × (x ≡ item)) → ((tail : List Item) × (b ∷ before ≡ f ∷ (front ++ x ∷ tail))) ⊎ ((f ∷ front ≡ b ∷ before) × (x ≡ item))
    go (inl w) = inl (w.0, (let q = w.1 in let h = heads in let r : b ∷ before ≡ f ∷ (front ++ x ∷ w.0) = cc in r))
    go (inr w) = inr ((let q = w.0 in let h = heads in let r : f ∷ front ≡ b ∷ before = cc in r), w.1)

-- they stay so with each item that opens new ones
pub new_more : (before : List Item) (item : Item) → SocketsAreNew before → OpensNew before item → SocketsAreNew (before ++ item ∷ [])
new_more before item new opens front more x e = go (one_more before front more item x e)
  where
    go : ((tail : List Item) × (before ≡ front ++ x ∷ tail)) ⊎ ((front ≡ before) × (x ≡ item)) → OpensNew front x
    go (inl w) = new front w.0 x w.1
    go (inr w) = subst (λ (items : List Item). OpensNew items x) (sym w.0) (subst (λ (y : Item). OpensNew before y) (sym w.1) opens)

pub new_after : (before after : List Item) (item : Item) → after ≡ before ++ item ∷ [] → OpensNew before item → SocketsAreNew before → SocketsAreNew after
new_after before after item e opens new = subst SocketsAreNew (sym e) (new_more before item new opens)

-- ---- histories that go on

-- nothing was called
pub goes_still : (items : List Item) (l : LoopState) → IsTold items (view_of l) → Goes items items l l
goes_still items l told = record { more = []; grown = sym (append-nil items); new = λ n. n; polls = refl; setting = refl; undialled = omega arith; told = told; chosen = refl }

-- one call was made, which is no poll
pub goes_one : (before after : List Item) (item : Item) (l m : LoopState) → after ≡ before ++ item ∷ [] → poll_count item ≡ 0 → OpensNew before item → setting_of m ≡ setting_of l → undialled m ≤ undialled l →
    IsTold (before ++ item ∷ []) (view_of m) → choices_of m ≡ choices_of l → Goes before after l m
goes_one before after item l m e none opens setting undialled told chosen = record {
  more = item ∷ [];
  grown = e;
  new = new_after before after item e opens;
  polls = (let count = polls_more before item in let all = ap (λ (items : List Item). polls_of items) e in omega (arith, count, all, none));
  setting = setting;
  undialled = undialled;
  told = subst (λ (items : List Item). IsTold items (view_of m)) (sym e) told;
  chosen = chosen;
}

pub goes_then : (a b c : List Item) (l m n : LoopState) → Goes a b l m → Goes b c m n → Goes a c l n
goes_then a b c l m n g h = record {
  more = g.more ++ h.more;
  grown = h.grown ∙ ap (λ (items : List Item). items ++ h.more) g.grown ∙ append_assoc a g.more h.more;
  new = λ n. h.new (g.new n);
  polls = h.polls ∙ g.polls;
  setting = h.setting ∙ g.setting;
  undialled = (let x = g.undialled in let y = h.undialled in omega (arith, x, y));
  told = h.told;
  chosen = h.chosen ∙ g.chosen;
}

-- ---- where moves may be chosen

pub grows : (a b : List Item) (l m : LoopState) → Goes a b l m → Grows a b l m
grows a b l m g = record { more = g.more; grown = g.grown; new = g.new; polls = g.polls; setting = g.setting; undialled = g.undialled; told = g.told }

pub grows_then : (a b c : List Item) (l m n : LoopState) → Grows a b l m → Grows b c m n → Grows a c l n
grows_then a b c l m n g h = record {
  more = g.more ++ h.more;
  grown = h.grown ∙ ap (λ (items : List Item). items ++ h.more) g.grown ∙ append_assoc a g.more h.more;
  new = λ n. h.new (g.new n);
  polls = h.polls ∙ g.polls;
  setting = h.setting ∙ g.setting;
  undialled = (let x = g.undialled in let y = h.undialled in omega (arith, x, y));
  told = h.told;
}

pub goes_grows : (a b c : List Item) (l m n : LoopState) → Goes a b l m → Grows b c m n → Grows a c l n
goes_grows a b c l m n g h = grows_then a b c l m n (grows a b l m g) h

pub grows_goes : (a b c : List Item) (l m n : LoopState) → Grows a b l m → Goes b c m n → Grows a c l n
grows_goes a b c l m n g h = grows_then a b c l m n g (grows b c m n h)
