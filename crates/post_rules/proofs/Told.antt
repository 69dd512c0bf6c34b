-- Told: histories that go on, one after the other.
use Rattle.std.proofs.Common.{◌≡◌, true, false, refl, sym, ap, subst, ◌∙◌, List, [], ◌∷◌, ◌++◌, append_assoc, append-nil}
use Rattle.std.proofs.lemmas.Bool.{and_parts, and_from, false≢true}
use Rattle.datagram_post.specs.Items.{Item, Call, BindCall, LogCall, PollCall, ReceiveCall, SendCall, KeepCall, SyncCall, Bound, LogBegun, Polled, Took, ReceiveNotYet, Gave, SendNotYet, Failed, Kept, Synced}
use Rattle.peer_rules.specs.declared.phases.Phase.TheVariants.{KeepFault, PollFault}
use Rattle.post_rules.specs.Views.{View}
use Rattle.post_rules.specs.After.{after, after_failed, in_phase, view_after}
use Rattle.post_rules.specs.Rules.{is_allowed}
use Rattle.post_rules.specs.Histories.{are_allowed, Follows}
use Rattle.post_rules.specs.Laws.{ends_run}

-- what is shown after two lists is what is shown after the one and then the other
pub view_then : (v : View) (xs ys : List Item) → view_after v (xs ++ ys) ≡ view_after (view_after v xs) ys
view_then v [] ys = refl
view_then v (x ∷ xs) ys = view_then (after v x) xs ys

pub allowed_then : (v : View) (xs ys : List Item) → are_allowed v xs ≡ true → are_allowed (view_after v xs) ys ≡ true → are_allowed v (xs ++ ys) ≡ true
allowed_then v [] ys a b = b
allowed_then v (x ∷ xs) ys a b = let p = and_parts _ _ a in and_from _ _ p.0 (allowed_then (after v x) xs ys p.1 b)

pub allowed_front : (v : View) (xs ys : List Item) → are_allowed v (xs ++ ys) ≡ true → are_allowed v xs ≡ true
allowed_front v [] ys a = refl
allowed_front v (x ∷ xs) ys a = let p = and_parts _ _ a in and_from _ _ p.0 (allowed_front (after v x) xs ys p.1)

pub allowed_after : (v : View) (xs ys : List Item) → are_allowed v (xs ++ ys) ≡ true → are_allowed (view_after v xs) ys ≡ true
allowed_after v [] ys a = a
allowed_after v (x ∷ xs) ys a = let p = and_parts _ _ a in allowed_after (after v x) xs ys p.1

pub allowed_next : (v : View) (xs more : List Item) (item : Item) → are_allowed v (xs ++ item ∷ more) ≡ true → is_allowed (view_after v xs) item ≡ true
allowed_next v xs more item a = (and_parts _ _ (allowed_after v xs (item ∷ more) a)).0

-- ---- after a fault nothing is allowed

pub keep_fault_ends : (v : View) (item : Item) → is_allowed (in_phase KeepFault v) item ≡ true → ⊥
keep_fault_ends v (LogBegun name) h = cc
keep_fault_ends v (Bound addr) h = cc
keep_fault_ends v Polled h = cc
keep_fault_ends v (Took bytes) h = cc
keep_fault_ends v ReceiveNotYet h = cc
keep_fault_ends v (Gave addr bytes) h = cc
keep_fault_ends v (SendNotYet addr bytes) h = cc
keep_fault_ends v (Kept bytes) h = cc
keep_fault_ends v Synced h = cc
keep_fault_ends v (Failed (BindCall addr)) h = cc
keep_fault_ends v (Failed (LogCall name)) h = cc
keep_fault_ends v (Failed PollCall) h = cc
keep_fault_ends v (Failed ReceiveCall) h = cc
keep_fault_ends v (Failed (SendCall addr bytes)) h = cc
keep_fault_ends v (Failed (KeepCall bytes)) h = cc
keep_fault_ends v (Failed SyncCall) h = cc

pub poll_fault_ends : (v : View) (item : Item) → is_allowed (in_phase PollFault v) item ≡ true → ⊥
poll_fault_ends v (LogBegun name) h = cc
poll_fault_ends v (Bound addr) h = cc
poll_fault_ends v Polled h = cc
poll_fault_ends v (Took bytes) h = cc
poll_fault_ends v ReceiveNotYet h = cc
poll_fault_ends v (Gave addr bytes) h = cc
poll_fault_ends v (SendNotYet addr bytes) h = cc
poll_fault_ends v (Kept bytes) h = cc
poll_fault_ends v Synced h = cc
poll_fault_ends v (Failed (BindCall addr)) h = cc
poll_fault_ends v (Failed (LogCall name)) h = cc
poll_fault_ends v (Failed PollCall) h = cc
poll_fault_ends v (Failed ReceiveCall) h = cc
poll_fault_ends v (Failed (SendCall addr bytes)) h = cc
poll_fault_ends v (Failed (KeepCall bytes)) h = cc
poll_fault_ends v (Failed SyncCall) h = cc

pub none_after : (v : View) (call : Call) (more : List Item) → ends_run call ≡ true → are_allowed (after_failed v call) more ≡ true → more ≡ []
none_after v call [] e h = refl
none_after v (BindCall addr) (x ∷ more) e h = absurd (poll_fault_ends v x (and_parts _ _ h).0)
none_after v (LogCall name) (x ∷ more) e h = absurd (keep_fault_ends v x (and_parts _ _ h).0)
none_after v PollCall (x ∷ more) e h = absurd (poll_fault_ends v x (and_parts _ _ h).0)
none_after v ReceiveCall (x ∷ more) e h = absurd (false≢true e)
none_after v (SendCall addr bytes) (x ∷ more) e h = absurd (false≢true e)
none_after v (KeepCall bytes) (x ∷ more) e h = absurd (keep_fault_ends v x (and_parts _ _ h).0)
none_after v SyncCall (x ∷ more) e h = absurd (keep_fault_ends v x (and_parts _ _ h).0)

pub faults_are_last : (v : View) (items more : List Item) (call : Call) → ends_run call ≡ true → are_allowed v (items ++ Failed call ∷ more) ≡ true → more ≡ []
faults_are_last v items more call e h = none_after (view_after v items) call more e (and_parts _ _ (allowed_after v items (Failed call ∷ more) h)).1

-- ---- histories that follow

pub follows_still : (v : View) (items : List Item) → Follows v v items items
follows_still v items = record { more = []; grown = sym (append-nil items); allowed = refl; shown = refl }

pub follows_one : (v w : View) (before now : List Item) (item : Item) → now ≡ before ++ item ∷ [] → is_allowed v item ≡ true → after v item ≡ w → Follows v w before now
follows_one v w before now item e a s = record { more = item ∷ []; grown = e; allowed = and_from _ _ a refl; shown = s }

pub follows_then : (u v w : View) (a b c : List Item) → Follows u v a b → Follows v w b c → Follows u w a c
follows_then u v w a b c f g = record {
  more = f.more ++ g.more;
  grown = g.grown ∙ ap (λ (items : List Item). items ++ g.more) f.grown ∙ append_assoc a f.more g.more;
  allowed = allowed_then u f.more g.more f.allowed (subst (λ (x : View). are_allowed x g.more ≡ true) (sym f.shown) g.allowed);
  shown = view_then u f.more g.more ∙ ap (λ (x : View). view_after x g.more) f.shown ∙ g.shown;
}

-- the history shows an equal view
pub follows_to : (u v w : View) (a b : List Item) → Follows u v a b → v ≡ w → Follows u w a b
follows_to u v w a b f e = record { more = f.more; grown = f.grown; allowed = f.allowed; shown = f.shown ∙ e }

pub follows_from : (u v w : View) (a b : List Item) → u ≡ v → Follows v w a b → Follows u w a b
follows_from u v w a b e f = subst (λ (x : View). Follows x w a b) (sym e) f
