-- Failures: which item a history ends by, by the phase that it leads to.
use Rattle.std.proofs.Common.{◌≡◌, ◌⊎◌, inl, inr, ◌∙◌, Bool, true, false, List, [], ◌∷◌, ◌++◌, Option, Some, None, ap, append-nil, refl, subst, sym}
use Rattle.std.proofs.lemmas.List.Sums.{fold-append}
use Rattle.definitions.specs.declared.logs.Entry.{Entry}
use Rattle.socket_station.specs.Faults.{is_keep_call, is_poll_call}
use Rattle.socket_station.specs.Items.{Item, Call}
use Rattle.socket_station.specs.Items as I
use Rattle.peer_rules.specs.declared.phases.Phase.{Phase}
use Rattle.peer_rules.specs.declared.phases.Phase.TheVariants.{Fresh, Logged, Running, KeepFault, PollFault}
use Rattle.loop_rules.specs.Settings.{Setting}
use Rattle.loop_rules.specs.Views.{View, start}
use Rattle.loop_rules.specs.Keeping.{kept_entry, with_entry}
use Rattle.peer_rules.specs.Entries.{entry_in}
use Rattle.loop_rules.specs.After.{after, after_failed, view_of}
use Rattle.loop_rules.specs.Histories.{IsHistory}
use Rattle.loop_rules.specs.Laws.{FaultsAreLast, ends_run}
use Rattle.loop_rules.specs.Told.{IsTold}
use Rattle.loop_rules.proofs.Kept.{keeps_took, keeps_sorted}
use Rattle.run_frame.specs.FailedCalls.{EndsBy, FailsNone}
use Rattle.peer_command.specs.Faults.{FailsNeither}

-- ---- the phase after one item

-- what an item that leads to a phase of failure is, or else the phase was there before
abbrev LeadsTo : (Call → Bool) → Phase → View → Item → Type 0
LeadsTo is_such p v item = ((call : Call) × (item ≡ I.Failed call) × (is_such call ≡ true)) ⊎ (v.phase ≡ p)

kept_phase : (v : View) (o : Option Entry) → (kept_entry v o).phase ≡ v.phase
kept_phase v None = refl
kept_phase v (Some e) = (keeps_sorted (with_entry e v).table.waiting (with_entry e v)).phase

keep_fault : (v : View) (item : Item) → (after v item).phase ≡ KeepFault → LeadsTo is_keep_call KeepFault v item
keep_fault v (I.LogBegun name) e = absurd (let x : Logged ≡ KeepFault = e in cc)
keep_fault v (I.Listening addr) e = absurd (let x : Running ≡ KeepFault = e in cc)
keep_fault v (I.Dialled s q addr) e = inr e
keep_fault v (I.Polled list) e = inr e
keep_fault v (I.Took s bytes) e = inr (sym (keeps_took v s bytes).phase ∙ e)
keep_fault v (I.Gave s bytes) e = inr e
keep_fault v (I.ReadNotYet s) e = inr e
keep_fault v (I.WriteNotYet s) e = inr e
keep_fault v (I.Ended s) e = inr e
keep_fault v (I.Shut s) e = inr e
keep_fault v (I.Kept bytes) e = inr (sym (kept_phase v (entry_in v.writer bytes)) ∙ e)
keep_fault v I.Synced e = inr e
keep_fault v (I.Failed (I.ListenCall addr)) e = absurd (let x : PollFault ≡ KeepFault = e in cc)
keep_fault v (I.Failed (I.LogCall name)) e = inl (I.LogCall name, refl, refl)
keep_fault v (I.Failed (I.DialCall q addr)) e = inr e
keep_fault v (I.Failed I.PollCall) e = absurd (let x : PollFault ≡ KeepFault = e in cc)
keep_fault v (I.Failed (I.ReadCall s)) e = inr e
keep_fault v (I.Failed (I.WriteCall s)) e = inr e
keep_fault v (I.Failed (I.KeepCall bytes)) e = inl (I.KeepCall bytes, refl, refl)
keep_fault v (I.Failed I.SyncCall) e = inl (I.SyncCall, refl, refl)

poll_fault : (v : View) (item : Item) → (after v item).phase ≡ PollFault → LeadsTo is_poll_call PollFault v item
poll_fault v (I.LogBegun name) e = absurd (let x : Logged ≡ PollFault = e in cc)
poll_fault v (I.Listening addr) e = absurd (let x : Running ≡ PollFault = e in cc)
poll_fault v (I.Dialled s q addr) e = inr e
poll_fault v (I.Polled list) e = inr e
poll_fault v (I.Took s bytes) e = inr (sym (keeps_took v s bytes).phase ∙ e)
poll_fault v (I.Gave s bytes) e = inr e
poll_fault v (I.ReadNotYet s) e = inr e
poll_fault v (I.WriteNotYet s) e = inr e
poll_fault v (I.Ended s) e = inr e
poll_fault v (I.Shut s) e = inr e
poll_fault v (I.Kept bytes) e = inr (sym (kept_phase v (entry_in v.writer bytes)) ∙ e)
poll_fault v I.Synced e = inr e
poll_fault v (I.Failed (I.ListenCall addr)) e = inl (I.ListenCall addr, refl, refl)
poll_fault v (I.Failed (I.LogCall name)) e = absurd (let x : KeepFault ≡ PollFault = e in cc)
poll_fault v (I.Failed (I.DialCall q addr)) e = inr e
poll_fault v (I.Failed I.PollCall) e = inl (I.PollCall, refl, refl)
poll_fault v (I.Failed (I.ReadCall s)) e = inr e
poll_fault v (I.Failed (I.WriteCall s)) e = inr e
poll_fault v (I.Failed (I.KeepCall bytes)) e = absurd (let x : KeepFault ≡ PollFault = e in cc)
poll_fault v (I.Failed I.SyncCall) e = absurd (let x : KeepFault ≡ PollFault = e in cc)

-- such calls end a run
keep_ends : (call : Call) → is_keep_call call ≡ true → ends_run call ≡ true
keep_ends (I.ListenCall addr) e = refl
keep_ends (I.LogCall name) e = refl
keep_ends (I.DialCall q addr) e = e
keep_ends I.PollCall e = refl
keep_ends (I.ReadCall s) e = e
keep_ends (I.WriteCall s) e = e
keep_ends (I.KeepCall bytes) e = refl
keep_ends I.SyncCall e = refl

poll_ends : (call : Call) → is_poll_call call ≡ true → ends_run call ≡ true
poll_ends (I.ListenCall addr) e = refl
poll_ends (I.LogCall name) e = refl
poll_ends (I.DialCall q addr) e = absurd (let x : false ≡ true = e in cc)
poll_ends I.PollCall e = refl
poll_ends (I.ReadCall s) e = absurd (let x : false ≡ true = e in cc)
poll_ends (I.WriteCall s) e = absurd (let x : false ≡ true = e in cc)
poll_ends (I.KeepCall bytes) e = refl
poll_ends I.SyncCall e = refl

-- and no run goes on behind one
not_running : (v : View) (call : Call) → ends_run call ≡ true → (after_failed v call).phase ≡ Running → ⊥
not_running v (I.ListenCall addr) e r = let x : PollFault ≡ Running = r in cc
not_running v (I.LogCall name) e r = let x : KeepFault ≡ Running = r in cc
not_running v (I.DialCall q addr) e r = let x : false ≡ true = e in cc
not_running v I.PollCall e r = let x : PollFault ≡ Running = r in cc
not_running v (I.ReadCall s) e r = let x : false ≡ true = e in cc
not_running v (I.WriteCall s) e r = let x : false ≡ true = e in cc
not_running v (I.KeepCall bytes) e r = let x : KeepFault ≡ Running = r in cc
not_running v I.SyncCall e r = let x : KeepFault ≡ Running = r in cc

-- ---- a whole history

-- one item moved to those before
moved : (before : List Item) (item : Item) (more : List Item) → before ++ item ∷ more ≡ (before ++ item ∷ []) ++ more
moved [] item more = refl
moved (x ∷ before) item more = ap (λ r. x ∷ r) (moved before item more)

view-more : (s : Setting) (before : List Item) (item : Item) → view_of s (before ++ item ∷ []) ≡ after (view_of s before) item
view-more s before item = fold-append after (start s) before (item ∷ [])

module _ (last : FaultsAreLast) (is_such : Call → Bool) (p : Phase) (leads : (v : View) (item : Item) → (after v item).phase ≡ p → LeadsTo is_such p v item) (ends : (call : Call) → is_such call ≡ true → ends_run call ≡ true) (s : Setting) where
  -- the phase was there before these items, or they end by such a failure
  ends_by : (before items : List Item) → IsHistory s (before ++ items) → (view_of s (before ++ items)).phase ≡ p → ((view_of s before).phase ≡ p) ⊎ EndsBy is_such items
  ends_by before [] h e = inl (subst (λ (x : List Item). (view_of s x).phase ≡ p) (append-nil before) e)
  ends_by before (item ∷ more) h e =
      let m = moved before item more in
      by-rest (ends_by (before ++ item ∷ []) more (subst (IsHistory s) m h) (subst (λ (x : List Item). (view_of s x).phase ≡ p) m e))
    where
      ended : ((call : Call) × (item ≡ I.Failed call) × (is_such call ≡ true)) ⊎ ((view_of s before).phase ≡ p) → ((view_of s before).phase ≡ p) ⊎ EndsBy is_such (item ∷ more)
      ended (inr there) = inl there
      ended (inl f) =
          let failed : IsHistory s (before ++ I.Failed f.0 ∷ more) = subst (λ (i : Item). IsHistory s (before ++ i ∷ more)) f.1 h in
          let none : more ≡ [] = last s before more f.0 (ends f.0 f.2) failed in
          inr ([], f.0, ap (λ (i : Item). i ∷ more) f.1 ∙ ap (λ (r : List Item). I.Failed f.0 ∷ r) none, f.2)

      by-rest : ((view_of s (before ++ item ∷ [])).phase ≡ p) ⊎ EndsBy is_such more → ((view_of s before).phase ≡ p) ⊎ EndsBy is_such (item ∷ more)
      by-rest (inl there) = ended (leads (view_of s before) item (sym (ap (λ (v : View). v.phase) (view-more s before item)) ∙ there))
      by-rest (inr b) = inr (item ∷ b.0, b.1, ap (λ (r : List Item). item ∷ r) b.2, b.3)

-- ---- a whole history that shows a view

module _ (last : FaultsAreLast) (items : List Item) (v : View) (told : IsTold items v) where
  in_phase_of : (p : Phase) → v.phase ≡ p → (view_of v.setting items).phase ≡ p
  in_phase_of p e = ap (λ (w : View). w.phase) told.shown ∙ e

  pub keep_failed : v.phase ≡ KeepFault → EndsBy is_keep_call items
  keep_failed e = by-cases (ends_by last is_keep_call KeepFault keep_fault keep_ends v.setting [] items told.allowed (in_phase_of KeepFault e))
    where
      by-cases : (Fresh ≡ KeepFault) ⊎ EndsBy is_keep_call items → EndsBy is_keep_call items
      by-cases (inl never) = absurd (cc)
      by-cases (inr b) = b

  pub poll_failed : v.phase ≡ PollFault → EndsBy is_poll_call items
  poll_failed e = by-cases (ends_by last is_poll_call PollFault poll_fault poll_ends v.setting [] items told.allowed (in_phase_of PollFault e))
    where
      by-cases : (Fresh ≡ PollFault) ⊎ EndsBy is_poll_call items → EndsBy is_poll_call items
      by-cases (inl never) = absurd (cc)
      by-cases (inr b) = b

  -- where it runs, no such call failed
  fails_none : (is_such : Call → Bool) → ((call : Call) → is_such call ≡ true → ends_run call ≡ true) → v.phase ≡ Running → FailsNone is_such items
  fails_none is_such ends e = λ before more call same such.
      let h : IsHistory v.setting (before ++ I.Failed call ∷ more) = subst (IsHistory v.setting) same told.allowed in
      let none : more ≡ [] = last v.setting before more call (ends call such) h in
      let whole : items ≡ before ++ I.Failed call ∷ [] = same ∙ ap (λ (r : List Item). before ++ I.Failed call ∷ r) none in
      let shown : view_of v.setting items ≡ after_failed (view_of v.setting before) call = ap (view_of v.setting) whole ∙ view-more v.setting before (I.Failed call) in
      not_running (view_of v.setting before) call (ends call such) (sym (ap (λ (w : View). w.phase) shown) ∙ in_phase_of Running e)

  pub fails_neither : v.phase ≡ Running → FailsNeither items
  fails_neither e = (fails_none is_keep_call keep_ends e, fails_none is_poll_call poll_ends e)
