-- Failures: which item a stretch ends by, by the phase that it leads to.
use Rattle.std.proofs.Common.{◌≡◌, ◌⊎◌, inl, inr, ◌∙◌, ◌+◌, Bool, true, false, List, [], ◌∷◌, ◌++◌, ap, append_assoc, arith, refl, subst, sym}
use Rattle.std.specs.Prelude.{Option, Some, None, cond}
use Rattle.std.specs.List.{count_by}
use Rattle.std.proofs.lemmas.Bool.{and_parts, false≢true}
use Rattle.std.proofs.lemmas.List.Sums.{sum_by-append}
use Rattle.definitions.specs.declared.logs.Entry.{Entry}
use Rattle.letters.specs.declared.letter.Letter.{Letter}
use Rattle.letters.specs.Reading.{letter_in}
use Rattle.datagram_post.specs.Faults.{is_fault, is_keep_call, is_poll_call}
use Rattle.datagram_post.specs.Items.{Item, Call, BindCall, LogCall, PollCall, ReceiveCall, SendCall, KeepCall, SyncCall, Bound, LogBegun, Polled, Took, ReceiveNotYet, Gave, SendNotYet, Failed, Kept, Synced}
use Rattle.peer_rules.specs.declared.phases.Phase.{Phase}
use Rattle.peer_rules.specs.declared.phases.Phase.TheVariants.{Logged, Running, KeepFault, PollFault}
use Rattle.peer_rules.specs.Entries.{entry_in}
use Rattle.post_rules.specs.Views.{View}
use Rattle.post_rules.specs.Hearing.{heard_if, heard_letter, is_good}
use Rattle.post_rules.specs.Keeping.{kept_entry}
use Rattle.post_rules.specs.After.{after, after_failed, view_after}
use Rattle.post_rules.specs.Histories.{are_allowed}
use Rattle.post_rules.specs.Laws.{FaultsAreLast, ends_run}
use Rattle.post_command.specs.Faults.{EndsBy, FailsNeither}

-- ---- the phase after one item

-- what an item that leads to a phase of failure is, or else the phase was there before
abbrev LeadsTo : (Call → Bool) → Phase → View → Item → Type 0
LeadsTo is_such p v item = ((call : Call) × (item ≡ Failed call) × (is_such call ≡ true)) ⊎ (v.phase ≡ p)

if_phase : (b : Bool) (l : Letter) (v : View) → (heard_if b l v).phase ≡ v.phase
if_phase true l v = refl
if_phase false l v = refl

letter_phase : (o : Option Letter) (v : View) → (heard_letter o v).phase ≡ v.phase
letter_phase None v = refl
letter_phase (Some l) v = if_phase (is_good v.setting.game.id v.partners l) l v

kept_phase : (v : View) (o : Option Entry) → (kept_entry v o).phase ≡ v.phase
kept_phase v None = refl
kept_phase v (Some e) = refl

keep_fault : (v : View) (item : Item) → (after v item).phase ≡ KeepFault → LeadsTo is_keep_call KeepFault v item
keep_fault v (LogBegun name) e = absurd (let x : Logged ≡ KeepFault = e in cc)
keep_fault v (Bound addr) e = absurd (let x : Running ≡ KeepFault = e in cc)
keep_fault v Polled e = inr e
keep_fault v (Took bytes) e = inr (sym (letter_phase (letter_in bytes) v) ∙ e)
keep_fault v ReceiveNotYet e = inr e
keep_fault v (Gave addr bytes) e = inr e
keep_fault v (SendNotYet addr bytes) e = inr e
keep_fault v (Kept bytes) e = inr (sym (kept_phase v (entry_in v.writer bytes)) ∙ e)
keep_fault v Synced e = inr e
keep_fault v (Failed (BindCall addr)) e = absurd (let x : PollFault ≡ KeepFault = e in cc)
keep_fault v (Failed (LogCall name)) e = inl (LogCall name, refl, refl)
keep_fault v (Failed PollCall) e = absurd (let x : PollFault ≡ KeepFault = e in cc)
keep_fault v (Failed ReceiveCall) e = inr e
keep_fault v (Failed (SendCall addr bytes)) e = inr e
keep_fault v (Failed (KeepCall bytes)) e = inl (KeepCall bytes, refl, refl)
keep_fault v (Failed SyncCall) e = inl (SyncCall, refl, refl)

poll_fault : (v : View) (item : Item) → (after v item).phase ≡ PollFault → LeadsTo is_poll_call PollFault v item
poll_fault v (LogBegun name) e = absurd (let x : Logged ≡ PollFault = e in cc)
poll_fault v (Bound addr) e = absurd (let x : Running ≡ PollFault = e in cc)
poll_fault v Polled e = inr e
poll_fault v (Took bytes) e = inr (sym (letter_phase (letter_in bytes) v) ∙ e)
poll_fault v ReceiveNotYet e = inr e
poll_fault v (Gave addr bytes) e = inr e
poll_fault v (SendNotYet addr bytes) e = inr e
poll_fault v (Kept bytes) e = inr (sym (kept_phase v (entry_in v.writer bytes)) ∙ e)
poll_fault v Synced e = inr e
poll_fault v (Failed (BindCall addr)) e = inl (BindCall addr, refl, refl)
poll_fault v (Failed (LogCall name)) e = absurd (let x : KeepFault ≡ PollFault = e in cc)
poll_fault v (Failed PollCall) e = inl (PollCall, refl, refl)
poll_fault v (Failed ReceiveCall) e = inr e
poll_fault v (Failed (SendCall addr bytes)) e = inr e
poll_fault v (Failed (KeepCall bytes)) e = absurd (let x : KeepFault ≡ PollFault = e in cc)
poll_fault v (Failed SyncCall) e = absurd (let x : KeepFault ≡ PollFault = e in cc)

-- such calls end a run
keep_ends : (call : Call) → is_keep_call call ≡ true → ends_run call ≡ true
keep_ends (BindCall addr) e = refl
keep_ends (LogCall name) e = refl
keep_ends PollCall e = refl
keep_ends ReceiveCall e = e
keep_ends (SendCall addr bytes) e = e
keep_ends (KeepCall bytes) e = refl
keep_ends SyncCall e = refl

poll_ends : (call : Call) → is_poll_call call ≡ true → ends_run call ≡ true
poll_ends (BindCall addr) e = refl
poll_ends (LogCall name) e = refl
poll_ends PollCall e = refl
poll_ends ReceiveCall e = e
poll_ends (SendCall addr bytes) e = e
poll_ends (KeepCall bytes) e = refl
poll_ends SyncCall e = refl

-- and no run goes on behind one
not_running : (v : View) (call : Call) → ends_run call ≡ true → (after_failed v call).phase ≡ Running → ⊥
not_running v (BindCall addr) e r = let x : PollFault ≡ Running = r in cc
not_running v (LogCall name) e r = let x : KeepFault ≡ Running = r in cc
not_running v PollCall e r = let x : PollFault ≡ Running = r in cc
not_running v ReceiveCall e r = false≢true e
not_running v (SendCall addr bytes) e r = false≢true e
not_running v (KeepCall bytes) e r = let x : KeepFault ≡ Running = r in cc
not_running v SyncCall e r = let x : KeepFault ≡ Running = r in cc

-- ---- a stretch

module _ (last : FaultsAreLast) (is_such : Call → Bool) (p : Phase) (leads : (v : View) (item : Item) → (after v item).phase ≡ p → LeadsTo is_such p v item) (ends : (call : Call) → is_such call ≡ true → ends_run call ≡ true) where
  -- the phase was there before these items, or they end by such a failure
  ends_by : (v : View) (items : List Item) → are_allowed v items ≡ true → (view_after v items).phase ≡ p → (v.phase ≡ p) ⊎ EndsBy is_such items
  ends_by v [] h e = inl e
  ends_by v (item ∷ more) h e = by_rest (ends_by (after v item) more (and_parts _ _ h).1 e)
    where
      ended : LeadsTo is_such p v item → (v.phase ≡ p) ⊎ EndsBy is_such (item ∷ more)
      ended (inr there) = inl there
      ended (inl f) =
          let none : more ≡ [] = last v [] more f.0 (ends f.0 f.2) (subst (λ (i : Item). are_allowed v (i ∷ more) ≡ true) f.1 h) in
          inr ([], f.0, ap (λ (i : Item). i ∷ more) f.1 ∙ ap (λ (r : List Item). Failed f.0 ∷ r) none, f.2)

      by_rest : ((after v item).phase ≡ p) ⊎ EndsBy is_such more → (v.phase ≡ p) ⊎ EndsBy is_such (item ∷ more)
      by_rest (inl there) = ended (leads v item there)
      by_rest (inr b) = inr (item ∷ b.0, b.1, ap (λ (r : List Item). item ∷ r) b.2, b.3)

module _ (last : FaultsAreLast) (v : View) (items : List Item) (allowed : are_allowed v items ≡ true) where
  pub keep_failed : (v.phase ≡ KeepFault → ⊥) → (view_after v items).phase ≡ KeepFault → EndsBy is_keep_call items
  keep_failed before e = by_cases (ends_by last is_keep_call KeepFault keep_fault keep_ends v items allowed e)
    where
      by_cases : (v.phase ≡ KeepFault) ⊎ EndsBy is_keep_call items → EndsBy is_keep_call items
      by_cases (inl there) = absurd (before there)
      by_cases (inr b) = b

  pub poll_failed : (v.phase ≡ PollFault → ⊥) → (view_after v items).phase ≡ PollFault → EndsBy is_poll_call items
  poll_failed before e = by_cases (ends_by last is_poll_call PollFault poll_fault poll_ends v items allowed e)
    where
      by_cases : (v.phase ≡ PollFault) ⊎ EndsBy is_poll_call items → EndsBy is_poll_call items
      by_cases (inl there) = absurd (before there)
      by_cases (inr b) = b

-- ---- no failure

-- the failures in two lists
faults_joined : (is_such : Call → Bool) (xs ys : List Item) → count_by (is_fault is_such) (xs ++ ys) ≡ count_by (is_fault is_such) xs + count_by (is_fault is_such) ys
faults_joined is_such xs ys = sum_by-append (λ (i : Item). cond (is_fault is_such i) 1 0) xs ys

-- an item that is the failure of such a call
fault_is : (is_such : Call → Bool) (item : Item) → is_fault is_such item ≡ true → (call : Call) × (item ≡ Failed call) × (is_such call ≡ true)
fault_is is_such (Failed call) e = (call, refl, e)
fault_is is_such (LogBegun name) e = absurd (false≢true e)
fault_is is_such (Bound addr) e = absurd (false≢true e)
fault_is is_such Polled e = absurd (false≢true e)
fault_is is_such (Took bytes) e = absurd (false≢true e)
fault_is is_such ReceiveNotYet e = absurd (false≢true e)
fault_is is_such (Gave addr bytes) e = absurd (false≢true e)
fault_is is_such (SendNotYet addr bytes) e = absurd (false≢true e)
fault_is is_such (Kept bytes) e = absurd (false≢true e)
fault_is is_such Synced e = absurd (false≢true e)

module _ (last : FaultsAreLast) (is_such : Call → Bool) (ends : (call : Call) → is_such call ≡ true → ends_run call ≡ true) where
  -- where it runs, no such call failed
  fails_none : (v : View) (items : List Item) → are_allowed v items ≡ true → (view_after v items).phase ≡ Running → count_by (is_fault is_such) items ≡ 0
  fails_none v [] h e = refl
  fails_none v (item ∷ more) h e = go (fails_none (after v item) more (and_parts _ _ h).1 e) (is_fault is_such item) refl
    where
      never : is_fault is_such item ≡ true → ⊥
      never fault =
          let f = fault_is is_such item fault in
          let allowed : are_allowed v (Failed f.0 ∷ more) ≡ true = subst (λ (i : Item). are_allowed v (i ∷ more) ≡ true) f.1 h in
          let none : more ≡ [] = last v [] more f.0 (ends f.0 f.2) allowed in
          let running : (view_after v (Failed f.0 ∷ [])).phase ≡ Running =
          subst (λ (r : List Item). (view_after v (Failed f.0 ∷ r)).phase ≡ Running) none (subst (λ (i : Item). (view_after v (i ∷ more)).phase ≡ Running) f.1 e) in
          not_running v f.0 (ends f.0 f.2) running

      go : count_by (is_fault is_such) more ≡ 0 → (b : Bool) → is_fault is_such item ≡ b → count_by (is_fault is_such) (item ∷ more) ≡ 0
      go rest true is = absurd (never is)
      go rest false is =
          let first = faults_joined is_such (item ∷ []) more in
          let none : count_by (is_fault is_such) (item ∷ []) ≡ 0 = ap (λ (b : Bool). 0 + cond b 1 0) is in
          omega (arith, first, none, rest)

pub fails_neither : FaultsAreLast → (v : View) (items : List Item) → are_allowed v items ≡ true → (view_after v items).phase ≡ Running → FailsNeither items
fails_neither last v items h e = (fails_none last is_keep_call keep_ends v items h e, fails_none last is_poll_call poll_ends v items h e)

-- ---- two stretches

pub neither_joined : (xs ys : List Item) → FailsNeither xs → FailsNeither ys → FailsNeither (xs ++ ys)
neither_joined xs ys a b = (
  (let j = faults_joined is_keep_call xs ys in let c = a.0 in let d = b.0 in omega (arith, j, c, d)),
  (let j = faults_joined is_poll_call xs ys in let c = a.1 in let d = b.1 in omega (arith, j, c, d)),
)

pub ends_joined : (is_such : Call → Bool) (xs ys : List Item) → EndsBy is_such ys → EndsBy is_such (xs ++ ys)
ends_joined is_such xs ys b = (xs ++ b.0, b.1, ap (λ (r : List Item). xs ++ r) b.2 ∙ sym (append_assoc xs b.0 (Failed b.1 ∷ [])), b.3)

-- no list ends by the failure of such a call where none failed
pub no_end : (is_such : Call → Bool) (items : List Item) → count_by (is_fault is_such) items ≡ 0 → EndsBy is_such items → ⊥
no_end is_such items none b =
    let all : count_by (is_fault is_such) (b.0 ++ Failed b.1 ∷ []) ≡ 0 = ap (count_by (is_fault is_such)) (sym b.2) ∙ none in
    let j = faults_joined is_such b.0 (Failed b.1 ∷ []) in
    let one : count_by (is_fault is_such) (Failed b.1 ∷ []) ≡ 1 = ap (λ (t : Bool). 0 + cond t 1 0) b.3 in
    omega (arith, all, j, one)
