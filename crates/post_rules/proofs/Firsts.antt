-- Firsts: a log is begun first, and the own address is bound next; after a fault nothing comes.
use Rattle.std.proofs.Common.{◌≡◌, ◌⊎◌, inl, inr, Bool, true, false, refl, sym, ap, subst, ◌∙◌, List, [], ◌∷◌, ◌++◌}
use Rattle.std.specs.Prelude.{Option, Some, None, IsTrue, is_some}
use Rattle.std.proofs.lemmas.Bool.{and_parts, and_from, or_parts, false≢true}
use Rattle.plain_lemmas.proofs.Each.{each_append}
use Rattle.definitions.specs.declared.logs.Entry.{Entry}
use Rattle.socket_station.specs.declared.answers.Addr.{Addr}
use Rattle.letters.specs.declared.letter.Letter.{Letter}
use Rattle.letters.specs.Reading.{letter_in}
use Rattle.datagram_post.specs.Items.{Item, Call, BindCall, LogCall, PollCall, ReceiveCall, SendCall, KeepCall, SyncCall, Bound, LogBegun, Polled, Took, ReceiveNotYet, Gave, SendNotYet, Failed, Kept, Synced}
use Rattle.peer_rules.specs.Addresses.{told_addr}
use Rattle.peer_rules.specs.Phases.{is_fresh, is_logged, is_early}
use Rattle.peer_rules.specs.declared.phases.Phase.{Phase}
use Rattle.peer_rules.specs.declared.phases.Phase.TheVariants.{Fresh, Logged, KeepFault, PollFault}
use Rattle.peer_rules.specs.Entries.{entry_in}
use Rattle.post_rules.specs.Views.{Setting, View, start, anew}
use Rattle.post_rules.specs.Hearing.{heard_if, heard_letter, is_good}
use Rattle.post_rules.specs.Keeping.{kept_entry}
use Rattle.post_rules.specs.After.{after, after_failed, in_phase, view_after}
use Rattle.post_rules.specs.Rules.{is_allowed}
use Rattle.post_rules.specs.Histories.{are_allowed, are_stretches, log_name, bound_addr}
use Rattle.post_rules.specs.Laws.{ends_run, joined, IsRun}
use Rattle.post_rules.specs.Runs.{BeginsNone, BindsFirst, BeginsFirst}
use Rattle.post_rules.proofs.Told.{keep_fault_ends, poll_fault_ends}
use Rattle.post_rules.proofs.Given.{same_addr}
use Rattle.post_rules.proofs.Stretches.{stretches_more, joined_more}

-- ---- once the loop runs, or a call failed

heard_phase : (b : Bool) (l : Letter) (v : View) → (heard_if b l v).phase ≡ v.phase
heard_phase true l v = refl
heard_phase false l v = refl

letter_phase : (o : Option Letter) (v : View) → (heard_letter o v).phase ≡ v.phase
letter_phase None v = refl
letter_phase (Some l) v = heard_phase (is_good v.setting.game.id v.partners l) l v

entry_phase : (v : View) (o : Option Entry) → (kept_entry v o).phase ≡ v.phase
entry_phase v None = refl
entry_phase v (Some e) = refl

not_early : (p : Phase) → is_early p ≡ false → (is_fresh p ≡ true → ⊥) × (is_logged p ≡ true → ⊥)
not_early p l = (let x = or_parts (is_fresh p) (is_logged p) l in (λ e. false≢true (sym x.0 ∙ e), λ e. false≢true (sym x.1 ∙ e)))

-- such an item begins nothing, and leads to no earlier phase
abbrev IsLate : View → Item → Type 0
IsLate v item = (log_name item ≡ None) × (bound_addr item ≡ None) × (is_early (after v item).phase ≡ false)

late_item : (v : View) (item : Item) → is_early v.phase ≡ false → is_allowed v item ≡ true → IsLate v item
late_item v (LogBegun name) l h = absurd ((not_early v.phase l).0 h)
late_item v (Bound addr) l h = absurd ((not_early v.phase l).1 (and_parts _ _ h).0)
late_item v Polled l h = (refl, refl, l)
late_item v (Took bytes) l h = (refl, refl, ap is_early (letter_phase (letter_in bytes) v) ∙ l)
late_item v ReceiveNotYet l h = (refl, refl, l)
late_item v (Gave addr bytes) l h = (refl, refl, l)
late_item v (SendNotYet addr bytes) l h = (refl, refl, l)
late_item v (Kept bytes) l h = (refl, refl, ap is_early (entry_phase v (entry_in v.writer bytes)) ∙ l)
late_item v Synced l h = (refl, refl, l)
late_item v (Failed (BindCall addr)) l h = absurd ((not_early v.phase l).1 (and_parts _ _ h).0)
late_item v (Failed (LogCall name)) l h = absurd ((not_early v.phase l).0 h)
late_item v (Failed PollCall) l h = (refl, refl, refl)
late_item v (Failed ReceiveCall) l h = (refl, refl, l)
late_item v (Failed (SendCall addr bytes)) l h = (refl, refl, l)
late_item v (Failed (KeepCall bytes)) l h = (refl, refl, refl)
late_item v (Failed SyncCall) l h = (refl, refl, refl)

late_all : (v : View) (items : List Item) → is_early v.phase ≡ false → are_allowed v items ≡ true → BeginsNone items × (is_early (view_after v items).phase ≡ false)
late_all v [] l h = (tt, l)
late_all v (x ∷ items) l h =
    let p = and_parts _ _ h in
    let i = late_item v x l p.0 in
    let r = late_all (after v x) items i.2 p.1 in
    (((i.0, i.1), r.0), r.1)

late_stretches : (v : View) (all : List (List Item)) → is_early v.phase ≡ false → are_stretches v all ≡ true → BeginsNone (joined all)
late_stretches v [] l h = tt
late_stretches v (xs ∷ more) l h =
    let p = and_parts _ _ h in
    let r = late_all v xs l p.0 in
    each_append (λ i. (log_name i ≡ None) × (bound_addr i ≡ None)) xs (joined more) r.0 (late_stretches (anew (view_after v xs)) more r.1 p.1)

-- ---- once the log is begun

-- the item binds the own address, or fails to
abbrev Binds : Setting → View → Item → Type 0
Binds s v item = (bound_addr item ≡ Some (told_addr s.roster.me)) × (log_name item ≡ None) × (is_early (after v item).phase ≡ false)

binds_in : (v : View) (item : Item) → is_allowed (in_phase Logged v) item ≡ true → Binds v.setting (in_phase Logged v) item
binds_in v (LogBegun name) h = absurd (false≢true h)
binds_in v (Bound addr) h = (ap (λ (a : Addr). Some a) (same_addr addr (told_addr v.setting.roster.me) h), refl, refl)
binds_in v Polled h = absurd (false≢true h)
binds_in v (Took bytes) h = absurd (false≢true h)
binds_in v ReceiveNotYet h = absurd (false≢true h)
binds_in v (Gave addr bytes) h = absurd (false≢true h)
binds_in v (SendNotYet addr bytes) h = absurd (false≢true h)
binds_in v (Kept bytes) h = absurd (false≢true h)
binds_in v Synced h = absurd (false≢true h)
binds_in v (Failed (BindCall addr)) h = (ap (λ (a : Addr). Some a) (same_addr addr (told_addr v.setting.roster.me) h), refl, refl)
binds_in v (Failed (LogCall name)) h = absurd (false≢true h)
binds_in v (Failed PollCall) h = absurd (false≢true h)
binds_in v (Failed ReceiveCall) h = absurd (false≢true h)
binds_in v (Failed (SendCall addr bytes)) h = absurd (false≢true h)
binds_in v (Failed (KeepCall bytes)) h = absurd (false≢true h)
binds_in v (Failed SyncCall) h = absurd (false≢true h)

-- a view by its phase
phase_is : (p : Phase) (v : View) → v.phase ≡ p → v ≡ in_phase p v
phase_is p v e = ap (λ (q : Phase). in_phase q v) e

binds : (s : Setting) (v : View) (item : Item) → v.setting ≡ s → v.phase ≡ Logged → is_allowed v item ≡ true → Binds s v item
binds s v item set e h =
    let same = phase_is Logged v e in
    subst (λ (z : Setting). Binds z v item) set
    (subst (λ (w : View). Binds v.setting w item) (sym same) (binds_in v item (subst (λ (w : View). is_allowed w item ≡ true) same h)))

bind_stretches : (s : Setting) (v : View) (all : List (List Item)) → v.setting ≡ s → v.phase ≡ Logged → are_stretches v all ≡ true → BindsFirst s (joined all)
bind_stretches s v [] set e h = tt
bind_stretches s v ([] ∷ more) set e h = bind_stretches s (anew v) more set e h
bind_stretches s v ((x ∷ xs) ∷ more) set e h =
    let p = and_parts _ _ h in
    let q = and_parts _ _ p.0 in
    let b = binds s v x set e q.0 in
    (b.0, b.1, late_stretches (after v x) (xs ∷ more) b.2 (and_from _ _ q.1 p.1))

-- ---- after a fault

-- a call of the log failed, or one of the own address or a poll
abbrev pub IsEnded : View → Type 0
IsEnded v = (v.phase ≡ KeepFault) ⊎ (v.phase ≡ PollFault)

nothing_comes : (v : View) (item : Item) → IsEnded v → is_allowed v item ≡ true → ⊥
nothing_comes v item (inl e) h = keep_fault_ends v item (subst (λ (w : View). is_allowed w item ≡ true) (phase_is KeepFault v e) h)
nothing_comes v item (inr e) h = poll_fault_ends v item (subst (λ (w : View). is_allowed w item ≡ true) (phase_is PollFault v e) h)

pub ended_stretches : (v : View) (all : List (List Item)) → IsEnded v → are_stretches v all ≡ true → joined all ≡ []
ended_stretches v [] e h = refl
ended_stretches v ([] ∷ more) e h = ended_stretches (anew v) more e h
ended_stretches v ((x ∷ xs) ∷ more) e h = absurd (nothing_comes v x e (and_parts _ _ (and_parts _ _ h).0).0)

pub fault_ends : (v : View) (call : Call) → ends_run call ≡ true → IsEnded (after_failed v call)
fault_ends v (BindCall addr) e = inr refl
fault_ends v (LogCall name) e = inl refl
fault_ends v PollCall e = inr refl
fault_ends v ReceiveCall e = absurd (false≢true e)
fault_ends v (SendCall addr bytes) e = absurd (false≢true e)
fault_ends v (KeepCall bytes) e = inl refl
fault_ends v SyncCall e = inl refl

-- ---- from the first item on

-- the item begins a log, or fails to
abbrev BeginsLogBy : View → Item → Type 0
BeginsLogBy v item = IsTrue (is_some (log_name item)) × (((after v item).phase ≡ Logged) ⊎ IsEnded (after v item)) × ((after v item).setting ≡ v.setting)

begins_in : (v : View) (item : Item) → is_allowed (in_phase Fresh v) item ≡ true → BeginsLogBy (in_phase Fresh v) item
begins_in v (LogBegun name) h = (refl, inl refl, refl)
begins_in v (Bound addr) h = absurd (false≢true h)
begins_in v Polled h = absurd (false≢true h)
begins_in v (Took bytes) h = absurd (false≢true h)
begins_in v ReceiveNotYet h = absurd (false≢true h)
begins_in v (Gave addr bytes) h = absurd (false≢true h)
begins_in v (SendNotYet addr bytes) h = absurd (false≢true h)
begins_in v (Kept bytes) h = absurd (false≢true h)
begins_in v Synced h = absurd (false≢true h)
begins_in v (Failed (BindCall addr)) h = absurd (false≢true h)
begins_in v (Failed (LogCall name)) h = (refl, inr (inl refl), refl)
begins_in v (Failed PollCall) h = absurd (false≢true h)
begins_in v (Failed ReceiveCall) h = absurd (false≢true h)
begins_in v (Failed (SendCall addr bytes)) h = absurd (false≢true h)
begins_in v (Failed (KeepCall bytes)) h = absurd (false≢true h)
begins_in v (Failed SyncCall) h = absurd (false≢true h)

begins_by : (v : View) (item : Item) → v.phase ≡ Fresh → is_allowed v item ≡ true → BeginsLogBy v item
begins_by v item e h =
    let same = phase_is Fresh v e in
    subst (λ (w : View). BeginsLogBy w item) (sym same) (begins_in v item (subst (λ (w : View). is_allowed w item ≡ true) same h))

-- the stretches after the first item
next_stretches : (s : Setting) (v : View) (all : List (List Item)) → v.setting ≡ s → (v.phase ≡ Logged) ⊎ IsEnded v → are_stretches v all ≡ true → BindsFirst s (joined all)
next_stretches s v all set (inl e) h = bind_stretches s v all set e h
next_stretches s v all set (inr e) h = subst (BindsFirst s) (sym (ended_stretches v all e h)) tt

begin_stretches : (s : Setting) (v : View) (all : List (List Item)) → v.setting ≡ s → v.phase ≡ Fresh → are_stretches v all ≡ true → BeginsFirst s (joined all)
begin_stretches s v [] set e h = tt
begin_stretches s v ([] ∷ more) set e h = begin_stretches s (anew v) more set e h
begin_stretches s v ((x ∷ xs) ∷ more) set e h =
    let p = and_parts _ _ h in
    let q = and_parts _ _ p.0 in
    let b = begins_by v x e q.0 in
    (b.0, next_stretches s (after v x) (xs ∷ more) (b.2 ∙ set) b.1 (and_from _ _ q.1 p.1))

pub runs_begin_first : (s : Setting) (front : List (List Item)) (items : List Item) → IsRun s front items → BeginsFirst s (joined front ++ items)
runs_begin_first s front items r =
    subst (BeginsFirst s) (joined_more front items) (begin_stretches s (start s) (front ++ items ∷ []) refl refl (stretches_more (start s) front items r.0 r.1))
