-- Tallied: how often items of each kind come, from what stands between two of them.
use Rattle.std.proofs.Common.{inl, inr, ◌≡◌, ℕ, ◌+◌, ◌<◌, ◌≤◌, Bool, true, false, refl, sym, ap, subst, ◌∙◌, List, [], ◌∷◌, ◌++◌, append_assoc, cond, length, length-append, arith}
use Rattle.std.specs.Prelude.{◌==◌, ◌||◌}
use Rattle.std.specs.List.{count_by, flat_map}
use Rattle.std.proofs.lemmas.Bool.{eqb-true, eq-eqb, false≢true}
use Rattle.std.proofs.lemmas.List.Concat.{flat_map-cons}
use Rattle.std.proofs.lemmas.List.Sums.{sum_by-cons}
use Rattle.definition_laws.specs.Members.{Has}
use Rattle.socket_station.specs.declared.answers.Ready.{Ready}
use Rattle.socket_station.specs.declared.answers.Ready.TheVariants.{Opened, Socket as Seems}
use Rattle.socket_station.specs.Items.{Item, ListenCall, LogCall, DialCall, PollCall, ReadCall, WriteCall, KeepCall, SyncCall, Listening, LogBegun, Dialled, Polled, Took, Gave, ReadNotYet, WriteNotYet, Ended, Failed, Shut, Kept, Synced}
use Rattle.loop_rules.specs.Settings.{Setting}
use Rattle.loop_rules.specs.Histories.{IsHistory}
use Rattle.loop_laws.specs.Sockets.{SocketsAreNew}
use Rattle.loop_laws.specs.Listing.{IsRead, IsWrite, Lists, SomeIs}
use Rattle.loop_laws.specs.Paying.{Closes, IsKept, Touches}
use Rattle.loop_laws.specs.Dialling.{IsDialFor, IsPoll}
use Rattle.loop_laws.specs.Tallies.{gave_of, is_closing, is_dial, is_give, is_idle_read, is_idle_write, is_keep, is_listing, is_poll, is_sync, is_take, seems_in, took_of}
use Rattle.loop_laws.specs.Laws.{TakesAreFew, GivesAreFew, SyncsAreFew, IdleReadsAreFew, IdleWritesAreFew, ClosingsAreFew, DialsAreFew}
use Rattle.loop_laws.proofs.Dials.{dials_have_polls}
use Rattle.loop_laws.proofs.Marks.{reads_are_listed, writes_are_listed}
use Rattle.loop_laws.proofs.Paid.{takes_have_bytes, gives_have_bytes, syncs_have_entries, closings_are_last}

-- ---- counting

count_cons : (p : Item → Bool) (x : Item) (xs : List Item) → count_by p (x ∷ xs) ≡ cond (p x) 1 0 + count_by p xs
count_cons p x xs = sum_by-cons (λ y. cond (p y) 1 0) x xs

some_as : (A B : Item → Type 0) (items : List Item) → ((item : Item) → A item → B item) → SomeIs A items → SomeIs B items
some_as A B items f w = (w.0, w.1, f w.0 w.2)

-- between two items of one kind stands one of the other
abbrev Apart : (p q : Item → Bool) → List Item → Type 0
Apart p q items = (front between more : List Item) (x y : Item) → items ≡ front ++ x ∷ (between ++ y ∷ more) → p x ≡ true → p y ≡ true → SomeIs (λ item. q item ≡ true) between

-- and before the first one
abbrev Waits : (p q : Item → Bool) → List Item → Type 0
Waits p q items = (between more : List Item) (y : Item) → items ≡ between ++ y ∷ more → p y ≡ true → SomeIs (λ item. q item ≡ true) between

-- then there is no more than one of the first kind beyond those of the other
few : (p q : Item → Bool) (items : List Item) → Apart p q items → (b : Bool) → (b ≡ true → Waits p q items) → count_by p items ≤ count_by q items + cond b 0 1
few p q [] a b w = omega arith
few p q (x ∷ items) a b w = go (p x) refl (q x) refl b refl (λ c v. few p q items rest c v)
  where
    rest : Apart p q items
    rest front between more y z e u v = a (x ∷ front) between more y z (ap (λ (xs : List Item). x ∷ xs) e) u v

    next_waits : p x ≡ true → Waits p q items
    next_waits u between more y e v = a [] between more x y (ap (λ (xs : List Item). x ∷ xs) e) u v

    later : (between : List Item) → q x ≡ false → SomeIs (λ item. q item ≡ true) (x ∷ between) → SomeIs (λ item. q item ≡ true) between
    later between f s = pick s.1
      where
        pick : Has (x ∷ between) s.0 → SomeIs (λ item. q item ≡ true) between
        pick (inl same) = absurd (false≢true (sym f ∙ ap q same ∙ s.2))
        pick (inr there) = (s.0, there, s.2)

    still : Waits p q (x ∷ items) → q x ≡ false → Waits p q items
    still v f between more y e u = later between f (v (x ∷ between) more y (ap (λ (xs : List Item). x ∷ xs) e) u)

    none : p x ≡ true → Waits p q (x ∷ items) → ⊥
    none u v = (v [] items x refl u).1

    pc : (c : Bool) → p x ≡ c → count_by p (x ∷ items) ≡ cond c 1 0 + count_by p items
    pc c e = count_cons p x items ∙ ap (λ (d : Bool). cond d 1 0 + count_by p items) e

    qc : (c : Bool) → q x ≡ c → count_by q (x ∷ items) ≡ cond c 1 0 + count_by q items
    qc c e = count_cons q x items ∙ ap (λ (d : Bool). cond d 1 0 + count_by q items) e

    go : (i : Bool) → p x ≡ i → (j : Bool) → q x ≡ j → (c : Bool) → b ≡ c → ((d : Bool) → (d ≡ true → Waits p q items) → count_by p items ≤ count_by q items + cond d 0 1) → count_by p (x ∷ items) ≤ count_by q (x ∷ items) + cond c 0 1
    go true u j v true is ih = absurd (none u (w is))
    go true u true v false is ih = (let m = pc true u in let n = qc true v in let r = ih true (λ e. next_waits u) in omega (arith, m, n, r))
    go true u false v false is ih = (let m = pc true u in let n = qc false v in let r = ih true (λ e. next_waits u) in omega (arith, m, n, r))
    go false u true v true is ih = (let m = pc false u in let n = qc true v in let r = ih false (λ e. absurd (false≢true e)) in omega (arith, m, n, r))
    go false u true v false is ih = (let m = pc false u in let n = qc true v in let r = ih false (λ e. absurd (false≢true e)) in omega (arith, m, n, r))
    go false u false v true is ih = (let m = pc false u in let n = qc false v in let r = ih true (λ e. still (w is) v) in omega (arith, m, n, r))
    go false u false v false is ih = (let m = pc false u in let n = qc false v in let r = ih false (λ e. absurd (false≢true e)) in omega (arith, m, n, r))

one_more : (p q : Item → Bool) (items : List Item) → Apart p q items → count_by p items ≤ count_by q items + 1
one_more p q items a = few p q items a false (λ e. absurd (false≢true e))

-- ---- what each test says

sync_is : (item : Item) → is_sync item ≡ true → item ≡ Synced
sync_is (LogBegun name) e = absurd (false≢true e)
sync_is (Listening addr) e = absurd (false≢true e)
sync_is (Dialled m p addr) e = absurd (false≢true e)
sync_is (Polled list) e = absurd (false≢true e)
sync_is (Took m bytes) e = absurd (false≢true e)
sync_is (Gave m bytes) e = absurd (false≢true e)
sync_is (ReadNotYet m) e = absurd (false≢true e)
sync_is (WriteNotYet m) e = absurd (false≢true e)
sync_is (Ended m) e = absurd (false≢true e)
sync_is (Shut m) e = absurd (false≢true e)
sync_is (Kept bytes) e = absurd (false≢true e)
sync_is Synced e = refl
sync_is (Failed (ListenCall addr)) e = absurd (false≢true e)
sync_is (Failed (LogCall name)) e = absurd (false≢true e)
sync_is (Failed (DialCall p addr)) e = absurd (false≢true e)
sync_is (Failed PollCall) e = absurd (false≢true e)
sync_is (Failed (ReadCall m)) e = absurd (false≢true e)
sync_is (Failed (WriteCall m)) e = absurd (false≢true e)
sync_is (Failed (KeepCall bytes)) e = absurd (false≢true e)
sync_is (Failed SyncCall) e = absurd (false≢true e)

idle_read_is : (n : ℕ) (item : Item) → is_idle_read n item ≡ true → item ≡ ReadNotYet n
idle_read_is n (LogBegun name) e = absurd (false≢true e)
idle_read_is n (Listening addr) e = absurd (false≢true e)
idle_read_is n (Dialled m p addr) e = absurd (false≢true e)
idle_read_is n (Polled list) e = absurd (false≢true e)
idle_read_is n (Took m bytes) e = absurd (false≢true e)
idle_read_is n (Gave m bytes) e = absurd (false≢true e)
idle_read_is n (ReadNotYet m) e = ap ReadNotYet (eqb-true m n e)
idle_read_is n (WriteNotYet m) e = absurd (false≢true e)
idle_read_is n (Ended m) e = absurd (false≢true e)
idle_read_is n (Shut m) e = absurd (false≢true e)
idle_read_is n (Kept bytes) e = absurd (false≢true e)
idle_read_is n Synced e = absurd (false≢true e)
idle_read_is n (Failed (ListenCall addr)) e = absurd (false≢true e)
idle_read_is n (Failed (LogCall name)) e = absurd (false≢true e)
idle_read_is n (Failed (DialCall p addr)) e = absurd (false≢true e)
idle_read_is n (Failed PollCall) e = absurd (false≢true e)
idle_read_is n (Failed (ReadCall m)) e = absurd (false≢true e)
idle_read_is n (Failed (WriteCall m)) e = absurd (false≢true e)
idle_read_is n (Failed (KeepCall bytes)) e = absurd (false≢true e)
idle_read_is n (Failed SyncCall) e = absurd (false≢true e)

idle_write_is : (n : ℕ) (item : Item) → is_idle_write n item ≡ true → item ≡ WriteNotYet n
idle_write_is n (LogBegun name) e = absurd (false≢true e)
idle_write_is n (Listening addr) e = absurd (false≢true e)
idle_write_is n (Dialled m p addr) e = absurd (false≢true e)
idle_write_is n (Polled list) e = absurd (false≢true e)
idle_write_is n (Took m bytes) e = absurd (false≢true e)
idle_write_is n (Gave m bytes) e = absurd (false≢true e)
idle_write_is n (ReadNotYet m) e = absurd (false≢true e)
idle_write_is n (WriteNotYet m) e = ap WriteNotYet (eqb-true m n e)
idle_write_is n (Ended m) e = absurd (false≢true e)
idle_write_is n (Shut m) e = absurd (false≢true e)
idle_write_is n (Kept bytes) e = absurd (false≢true e)
idle_write_is n Synced e = absurd (false≢true e)
idle_write_is n (Failed (ListenCall addr)) e = absurd (false≢true e)
idle_write_is n (Failed (LogCall name)) e = absurd (false≢true e)
idle_write_is n (Failed (DialCall p addr)) e = absurd (false≢true e)
idle_write_is n (Failed PollCall) e = absurd (false≢true e)
idle_write_is n (Failed (ReadCall m)) e = absurd (false≢true e)
idle_write_is n (Failed (WriteCall m)) e = absurd (false≢true e)
idle_write_is n (Failed (KeepCall bytes)) e = absurd (false≢true e)
idle_write_is n (Failed SyncCall) e = absurd (false≢true e)

closing_is : (n : ℕ) (item : Item) → is_closing n item ≡ true → Closes n item
closing_is n (LogBegun name) e = absurd (false≢true e)
closing_is n (Listening addr) e = absurd (false≢true e)
closing_is n (Dialled m p addr) e = absurd (false≢true e)
closing_is n (Polled list) e = absurd (false≢true e)
closing_is n (Took m bytes) e = absurd (false≢true e)
closing_is n (Gave m bytes) e = absurd (false≢true e)
closing_is n (ReadNotYet m) e = absurd (false≢true e)
closing_is n (WriteNotYet m) e = absurd (false≢true e)
closing_is n (Ended m) e = eqb-true m n e
closing_is n (Shut m) e = eqb-true m n e
closing_is n (Kept bytes) e = absurd (false≢true e)
closing_is n Synced e = absurd (false≢true e)
closing_is n (Failed (ListenCall addr)) e = absurd (false≢true e)
closing_is n (Failed (LogCall name)) e = absurd (false≢true e)
closing_is n (Failed (DialCall p addr)) e = absurd (false≢true e)
closing_is n (Failed PollCall) e = absurd (false≢true e)
closing_is n (Failed (ReadCall m)) e = eqb-true m n e
closing_is n (Failed (WriteCall m)) e = eqb-true m n e
closing_is n (Failed (KeepCall bytes)) e = absurd (false≢true e)
closing_is n (Failed SyncCall) e = absurd (false≢true e)

closing_touches : (n : ℕ) (item : Item) → Closes n item → Touches n item
closing_touches n (LogBegun name) e = absurd e
closing_touches n (Listening addr) e = absurd e
closing_touches n (Dialled m p addr) e = absurd e
closing_touches n (Polled list) e = absurd e
closing_touches n (Took m bytes) e = absurd e
closing_touches n (Gave m bytes) e = absurd e
closing_touches n (ReadNotYet m) e = absurd e
closing_touches n (WriteNotYet m) e = absurd e
closing_touches n (Ended m) e = inl e
closing_touches n (Shut m) e = inr (inr (ap Shut e))
closing_touches n (Kept bytes) e = absurd e
closing_touches n Synced e = absurd e
closing_touches n (Failed (ListenCall addr)) e = absurd e
closing_touches n (Failed (LogCall name)) e = absurd e
closing_touches n (Failed (DialCall p addr)) e = absurd e
closing_touches n (Failed PollCall) e = absurd e
closing_touches n (Failed (ReadCall m)) e = inl e
closing_touches n (Failed (WriteCall m)) e = inr (inl e)
closing_touches n (Failed (KeepCall bytes)) e = absurd e
closing_touches n (Failed SyncCall) e = absurd e

dial_is : (q : ℕ) (item : Item) → is_dial q item ≡ true → IsDialFor q item
dial_is q (LogBegun name) e = absurd (false≢true e)
dial_is q (Listening addr) e = absurd (false≢true e)
dial_is q (Dialled m p addr) e = eqb-true p q e
dial_is q (Polled list) e = absurd (false≢true e)
dial_is q (Took m bytes) e = absurd (false≢true e)
dial_is q (Gave m bytes) e = absurd (false≢true e)
dial_is q (ReadNotYet m) e = absurd (false≢true e)
dial_is q (WriteNotYet m) e = absurd (false≢true e)
dial_is q (Ended m) e = absurd (false≢true e)
dial_is q (Shut m) e = absurd (false≢true e)
dial_is q (Kept bytes) e = absurd (false≢true e)
dial_is q Synced e = absurd (false≢true e)
dial_is q (Failed (ListenCall addr)) e = absurd (false≢true e)
dial_is q (Failed (LogCall name)) e = absurd (false≢true e)
dial_is q (Failed (DialCall p addr)) e = eqb-true p q e
dial_is q (Failed PollCall) e = absurd (false≢true e)
dial_is q (Failed (ReadCall m)) e = absurd (false≢true e)
dial_is q (Failed (WriteCall m)) e = absurd (false≢true e)
dial_is q (Failed (KeepCall bytes)) e = absurd (false≢true e)
dial_is q (Failed SyncCall) e = absurd (false≢true e)

poll_is : (item : Item) → IsPoll item → is_poll item ≡ true
poll_is (LogBegun name) e = absurd e
poll_is (Listening addr) e = absurd e
poll_is (Dialled m p addr) e = absurd e
poll_is (Polled list) e = refl
poll_is (Took m bytes) e = absurd e
poll_is (Gave m bytes) e = absurd e
poll_is (ReadNotYet m) e = absurd e
poll_is (WriteNotYet m) e = absurd e
poll_is (Ended m) e = absurd e
poll_is (Shut m) e = absurd e
poll_is (Kept bytes) e = absurd e
poll_is Synced e = absurd e
poll_is (Failed (ListenCall addr)) e = absurd e
poll_is (Failed (LogCall name)) e = absurd e
poll_is (Failed (DialCall p addr)) e = absurd e
poll_is (Failed PollCall) e = absurd e
poll_is (Failed (ReadCall m)) e = absurd e
poll_is (Failed (WriteCall m)) e = absurd e
poll_is (Failed (KeepCall bytes)) e = absurd e
poll_is (Failed SyncCall) e = absurd e

keep_is : (item : Item) → IsKept item → is_keep item ≡ true
keep_is (LogBegun name) e = absurd e
keep_is (Listening addr) e = absurd e
keep_is (Dialled m p addr) e = absurd e
keep_is (Polled list) e = absurd e
keep_is (Took m bytes) e = absurd e
keep_is (Gave m bytes) e = absurd e
keep_is (ReadNotYet m) e = absurd e
keep_is (WriteNotYet m) e = absurd e
keep_is (Ended m) e = absurd e
keep_is (Shut m) e = absurd e
keep_is (Kept bytes) e = refl
keep_is Synced e = absurd e
keep_is (Failed (ListenCall addr)) e = absurd e
keep_is (Failed (LogCall name)) e = absurd e
keep_is (Failed (DialCall p addr)) e = absurd e
keep_is (Failed PollCall) e = absurd e
keep_is (Failed (ReadCall m)) e = absurd e
keep_is (Failed (WriteCall m)) e = absurd e
keep_is (Failed (KeepCall bytes)) e = absurd e
keep_is (Failed SyncCall) e = absurd e

seems_is : (n : ℕ) (list : List Ready) → Has list (Seems n) → seems_in n list ≡ true
seems_is n [] e = absurd e
seems_is n (Opened m ∷ list) (inl e) = absurd (let x : Opened m ≡ Seems n = e in cc)
seems_is n (Opened m ∷ list) (inr e) = seems_is n list e
seems_is n (Seems m ∷ list) (inl e) = ap (λ (b : Bool). b || seems_in n list) (eq-eqb m n (let x : Seems m ≡ Seems n = e in let y : m ≡ n = cc in y))
seems_is n (Seems m ∷ list) (inr e) = any (m == n) (seems_is n list e)
  where
    any : (b : Bool) → seems_in n list ≡ true → (b || seems_in n list) ≡ true
    any true f = refl
    any false f = f

listing_is : (n : ℕ) (item : Item) → Lists n item → is_listing n item ≡ true
listing_is n (LogBegun name) e = absurd e
listing_is n (Listening addr) e = absurd e
listing_is n (Dialled m p addr) e = absurd e
listing_is n (Polled list) e = seems_is n list e
listing_is n (Took m bytes) e = absurd e
listing_is n (Gave m bytes) e = absurd e
listing_is n (ReadNotYet m) e = absurd e
listing_is n (WriteNotYet m) e = absurd e
listing_is n (Ended m) e = absurd e
listing_is n (Shut m) e = absurd e
listing_is n (Kept bytes) e = absurd e
listing_is n Synced e = absurd e
listing_is n (Failed (ListenCall addr)) e = absurd e
listing_is n (Failed (LogCall name)) e = absurd e
listing_is n (Failed (DialCall p addr)) e = absurd e
listing_is n (Failed PollCall) e = absurd e
listing_is n (Failed (ReadCall m)) e = absurd e
listing_is n (Failed (WriteCall m)) e = absurd e
listing_is n (Failed (KeepCall bytes)) e = absurd e
listing_is n (Failed SyncCall) e = absurd e

-- ---- the laws

pub syncs_are_few : SyncsAreFew
syncs_are_few s items h = one_more is_sync is_keep items (λ front between more x y e u v.
    (let i = e ∙ ap (λ (z : Item). front ++ z ∷ (between ++ y ∷ more)) (sync_is x u) ∙ ap (λ (z : Item). front ++ Synced ∷ (between ++ z ∷ more)) (sync_is y v) in
    some_as IsKept (λ item. is_keep item ≡ true) between keep_is (syncs_have_entries s front between more (subst (IsHistory s) i h))))

pub idle_reads_are_few : IdleReadsAreFew
idle_reads_are_few s items n new h = one_more (is_idle_read n) (is_listing n) items (λ front between more x y e u v.
    (let i = e ∙ ap (λ (z : Item). front ++ z ∷ (between ++ y ∷ more)) (idle_read_is n x u) in
    some_as (Lists n) (λ item. is_listing n item ≡ true) between (listing_is n)
    (reads_are_listed s front between more n y (subst SocketsAreNew i new) (subst (IsHistory s) i h) (subst (IsRead n) (sym (idle_read_is n y v)) refl))))

pub idle_writes_are_few : IdleWritesAreFew
idle_writes_are_few s items n new h = one_more (is_idle_write n) (is_listing n) items (λ front between more x y e u v.
    (let i = e ∙ ap (λ (z : Item). front ++ z ∷ (between ++ y ∷ more)) (idle_write_is n x u) in
    some_as (Lists n) (λ item. is_listing n item ≡ true) between (listing_is n)
    (writes_are_listed s front between more n y (subst SocketsAreNew i new) (subst (IsHistory s) i h) (subst (IsWrite n) (sym (idle_write_is n y v)) refl))))

abbrev never : Item → Bool
never item = false

never_counts : (items : List Item) → count_by never items ≡ 0
never_counts [] = refl
never_counts (x ∷ items) = (let one = count_cons never x items in let more = never_counts items in omega (arith, one, more))

pub closings_are_few : ClosingsAreFew
closings_are_few s items n new h = (let all = one_more (is_closing n) never items apart in let zero_of = never_counts items in omega (arith, all, zero_of))
  where
    apart : Apart (is_closing n) never items
    apart front between more x y e u v = absurd (closings_are_last s front between more n x y (subst SocketsAreNew e new) (subst (IsHistory s) e h) (closing_is n x u) (closing_touches n y (closing_is n y v)))

pub dials_are_few : DialsAreFew
dials_are_few s items q h = one_more (is_dial q) is_poll items (λ front between more x y e u v.
    some_as IsPoll (λ item. is_poll item ≡ true) between poll_is (dials_have_polls s front between more q x y (subst (IsHistory s) e h) (dial_is q x u) (dial_is q y v)))

-- ---- bytes

one_take : (item : Item) → ((n : ℕ) (bytes : List ℕ) → item ≡ Took n bytes → 0 < length bytes) → cond (is_take item) 1 0 ≤ length (took_of item)
one_take (LogBegun name) w = omega arith
one_take (Listening addr) w = omega arith
one_take (Dialled m p addr) w = omega arith
one_take (Polled list) w = omega arith
one_take (Took m bytes) w = (let some = w m bytes refl in omega (arith, some))
one_take (Gave m bytes) w = omega arith
one_take (ReadNotYet m) w = omega arith
one_take (WriteNotYet m) w = omega arith
one_take (Ended m) w = omega arith
one_take (Shut m) w = omega arith
one_take (Kept bytes) w = omega arith
one_take Synced w = omega arith
one_take (Failed (ListenCall addr)) w = omega arith
one_take (Failed (LogCall name)) w = omega arith
one_take (Failed (DialCall p addr)) w = omega arith
one_take (Failed PollCall) w = omega arith
one_take (Failed (ReadCall m)) w = omega arith
one_take (Failed (WriteCall m)) w = omega arith
one_take (Failed (KeepCall bytes)) w = omega arith
one_take (Failed SyncCall) w = omega arith

takes_from : (s : Setting) (front items : List Item) → IsHistory s (front ++ items) → count_by is_take items ≤ length (flat_map took_of items)
takes_from s front [] h = omega arith
takes_from s front (item ∷ items) h =
    let more = takes_from s (front ++ item ∷ []) items (subst (IsHistory s) (sym (append_assoc front (item ∷ []) items)) h) in
    let here = one_take item (λ n bytes e. takes_have_bytes s front items n bytes (subst (λ (x : Item). IsHistory s (front ++ x ∷ items)) e h)) in
    let count = count_cons is_take item items in
    let bytes = ap (λ (xs : List ℕ). length xs) (flat_map-cons took_of item items) in
    let long = length-append (took_of item) (flat_map took_of items) in
    omega (arith, more, here, count, bytes, long)

one_give : (item : Item) → ((n : ℕ) (bytes : List ℕ) → item ≡ Gave n bytes → 0 < length bytes) → cond (is_give item) 1 0 ≤ length (gave_of item)
one_give (LogBegun name) w = omega arith
one_give (Listening addr) w = omega arith
one_give (Dialled m p addr) w = omega arith
one_give (Polled list) w = omega arith
one_give (Took m bytes) w = omega arith
one_give (Gave m bytes) w = (let some = w m bytes refl in omega (arith, some))
one_give (ReadNotYet m) w = omega arith
one_give (WriteNotYet m) w = omega arith
one_give (Ended m) w = omega arith
one_give (Shut m) w = omega arith
one_give (Kept bytes) w = omega arith
one_give Synced w = omega arith
one_give (Failed (ListenCall addr)) w = omega arith
one_give (Failed (LogCall name)) w = omega arith
one_give (Failed (DialCall p addr)) w = omega arith
one_give (Failed PollCall) w = omega arith
one_give (Failed (ReadCall m)) w = omega arith
one_give (Failed (WriteCall m)) w = omega arith
one_give (Failed (KeepCall bytes)) w = omega arith
one_give (Failed SyncCall) w = omega arith

gives_from : (s : Setting) (front items : List Item) → IsHistory s (front ++ items) → count_by is_give items ≤ length (flat_map gave_of items)
gives_from s front [] h = omega arith
gives_from s front (item ∷ items) h =
    let more = gives_from s (front ++ item ∷ []) items (subst (IsHistory s) (sym (append_assoc front (item ∷ []) items)) h) in
    let here = one_give item (λ n bytes e. gives_have_bytes s front items n bytes (subst (λ (x : Item). IsHistory s (front ++ x ∷ items)) e h)) in
    let count = count_cons is_give item items in
    let bytes = ap (λ (xs : List ℕ). length xs) (flat_map-cons gave_of item items) in
    let long = length-append (gave_of item) (flat_map gave_of items) in
    omega (arith, more, here, count, bytes, long)

pub takes_are_few : TakesAreFew
takes_are_few s items h = takes_from s [] items h

pub gives_are_few : GivesAreFew
gives_are_few s items h = gives_from s [] items h
