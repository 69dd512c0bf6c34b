-- Began: the log is begun, and the own address bound.
use Rattle.std.proofs.Common.{◌≡◌, ℕ, Bool, true, false, refl, sym, ap, subst, ◌∙◌, List, [], ◌∷◌, ◌++◌, length}
use Rattle.std.proofs.lemmas.Bool.{and_from}
use Rattle.definitions.specs.declared.logs.Entry.{Entry}
use Rattle.datagram_post.specs.Items.{did_by, Item, BindCall, LogCall, Bound, LogBegun, Failed, log_item, bind_item}
use Rattle.peer_rules.specs.Addresses.{told_addr}
use Rattle.peer_rules.specs.Phases.{is_fresh, is_logged}
use Rattle.peer_rules.specs.declared.phases.Phase.{Phase}
use Rattle.peer_rules.specs.declared.phases.Phase.TheVariants.{Fresh, Logged, Running, KeepFault, PollFault}
use Rattle.post_rules.specs.Views.{new_settling, start}
use Rattle.post_rules.specs.Histories.{Follows, BeginsLog}
use Rattle.post_rules.proofs.Told.{follows_one, follows_then, follows_from}
use Rattle.loop_ends.specs.declared.ends.Begun.TheVariants as B
use Rattle.datagram_loop.specs.States.{LoopState, setting_of, view_of, in_phase, IsReady}
use Rattle.datagram_loop.specs.Beginning.{IsNew, logged_on, bound_on, Begins}
use Rattle.datagram_loop.proofs.Views.{same_addr}

-- a new loop shows what is shown before the first item
new_view : (l : LoopState) → IsNew l → start (setting_of l) ≡ view_of [] new_settling l
new_view l n = subst (λ (x : LoopState). start (setting_of x) ≡ view_of [] new_settling x) (sym n.new) refl

fresh_phase : (l : LoopState) → IsNew l → l.phase ≡ Fresh
fresh_phase l n = ap (λ (x : LoopState). x.phase) n.new

pub new_fresh : (l : LoopState) → IsNew l → l.phase ≡ Fresh
new_fresh l n = fresh_phase l n

-- the log is begun, or that fails
logs : (done : Bool) (name : List ℕ) (a b : List Item) (l m : LoopState) → IsNew l → b ≡ a ++ log_item (did_by done) name ∷ [] → m ≡ logged_on done l → Follows (start (setting_of l)) (view_of [] new_settling m) a b
logs true name a b l m n on same =
    follows_from (start (setting_of l)) (view_of [] new_settling l) (view_of [] new_settling m) a b (new_view l n)
    (subst (λ (x : LoopState). Follows (view_of [] new_settling l) (view_of [] new_settling x) a b) (sym same)
    (follows_one (view_of [] new_settling l) (view_of [] new_settling (in_phase Logged l)) a b (LogBegun name) on (ap is_fresh (fresh_phase l n)) refl))
logs false name a b l m n on same =
    follows_from (start (setting_of l)) (view_of [] new_settling l) (view_of [] new_settling m) a b (new_view l n)
    (subst (λ (x : LoopState). Follows (view_of [] new_settling l) (view_of [] new_settling x) a b) (sym same)
    (follows_one (view_of [] new_settling l) (view_of [] new_settling (in_phase KeepFault l)) a b (Failed (LogCall name)) on (ap is_fresh (fresh_phase l n)) refl))

-- the own address is bound, or that fails
binds : (done : Bool) (a b : List Item) (m n : LoopState) → m.phase ≡ Logged → b ≡ a ++ bind_item (did_by done) (told_addr m.roster.me) ∷ [] → n ≡ bound_on done m → Follows (view_of [] new_settling m) (view_of [] new_settling n) a b
binds true a b m n p on same =
    subst (λ (x : LoopState). Follows (view_of [] new_settling m) (view_of [] new_settling x) a b) (sym same)
    (follows_one (view_of [] new_settling m) (view_of [] new_settling (in_phase Running m)) a b (Bound (told_addr m.roster.me)) on (and_from _ _ (ap is_logged p) (same_addr (told_addr m.roster.me))) refl)
binds false a b m n p on same =
    subst (λ (x : LoopState). Follows (view_of [] new_settling m) (view_of [] new_settling x) a b) (sym same)
    (follows_one (view_of [] new_settling m) (view_of [] new_settling (in_phase PollFault m)) a b (Failed (BindCall (told_addr m.roster.me))) on (and_from _ _ (ap is_logged p) (same_addr (told_addr m.roster.me))) refl)

-- the first item is of the log of this name
named : (done : Bool) (name : List ℕ) (items more : List Item) → items ≡ log_item (did_by done) name ∷ more → BeginsLog name items
named true name items more e = subst (BeginsLog name) (sym e) refl
named false name items more e = subst (BeginsLog name) (sym e) refl

first_on : (none a : List Item) (item : Item) → none ≡ [] → a ≡ none ++ item ∷ [] → a ≡ [] ++ item ∷ []
first_on none a item e on = on ∙ ap (λ (x : List Item). x ++ item ∷ []) e

pub begins_unlogged : (done : Bool) (name : List ℕ) (none a : List Item) (l m : LoopState) → IsNew l → none ≡ [] → a ≡ none ++ log_item (did_by done) name ∷ [] → m ≡ logged_on done l → done ≡ false → Begins name B.KeepFault l m a
begins_unlogged done name none a l m n e on same off =
    let is : m ≡ in_phase KeepFault l = same ∙ ap (λ (b : Bool). logged_on b l) off in
    let at = first_on none a (log_item (did_by done) name) e on in
    record {
      told = logs done name [] a l m n at same;
      named = named done name a [] at;
      same = is ∙ ap (λ (p : Phase). in_phase p l) (sym (ap (λ (x : LoopState). x.phase) is));
      stands = ap (λ (x : LoopState). x.phase) is;
    }

-- after the begin of the log
pub record IsLogged (name : List ℕ) (a : List Item) (l m : LoopState) : Type 0 where
  pub new : IsNew l
  pub told : Follows (start (setting_of l)) (view_of [] new_settling m) [] a
  pub at : a ≡ LogBegun name ∷ []
  pub same : m ≡ in_phase Logged l

pub is_logged_on : (done : Bool) (name : List ℕ) (none a : List Item) (l m : LoopState) → IsNew l → none ≡ [] → a ≡ none ++ log_item (did_by done) name ∷ [] → m ≡ logged_on done l → done ≡ true → IsLogged name a l m
is_logged_on done name none a l m n e on same sure =
    let at = first_on none a (log_item (did_by done) name) e on in
    record { new = n; told = logs done name [] a l m n at same; at = at ∙ ap (λ (b : Bool). log_item (did_by b) name ∷ []) sure; same = same ∙ ap (λ (b : Bool). logged_on b l) sure }

pub logged_phase : (name : List ℕ) (a : List Item) (l m : LoopState) → IsLogged name a l m → m.phase ≡ Logged
logged_phase name a l m k = ap (λ (x : LoopState). x.phase) k.same

begun_told : (done : Bool) (name : List ℕ) (a b : List Item) (l m n : LoopState) → IsLogged name a l m → b ≡ a ++ bind_item (did_by done) (told_addr m.roster.me) ∷ [] → n ≡ bound_on done m → Follows (start (setting_of l)) (view_of [] new_settling n) [] b
begun_told done name a b l m n k on same = follows_then (start (setting_of l)) (view_of [] new_settling m) (view_of [] new_settling n) [] a b k.told (binds done a b m n (logged_phase name a l m k) on same)

begun_named : (done : Bool) (name : List ℕ) (a b : List Item) (item : Item) (l m : LoopState) → IsLogged name a l m → b ≡ a ++ item ∷ [] → BeginsLog name b
begun_named done name a b item l m k on = named true name b (item ∷ []) (on ∙ ap (λ (x : List Item). x ++ item ∷ []) k.at)

pub begins_unbound : (done : Bool) (name : List ℕ) (a b : List Item) (l m n : LoopState) → IsLogged name a l m → b ≡ a ++ bind_item (did_by done) (told_addr m.roster.me) ∷ [] → n ≡ bound_on done m → done ≡ false → Begins name B.PollFault l n b
begins_unbound done name a b l m n k on same off =
    let is : n ≡ in_phase PollFault l = same ∙ ap (λ (x : Bool). bound_on x m) off ∙ ap (in_phase PollFault) k.same in
    record {
      told = begun_told done name a b l m n k on same;
      named = begun_named done name a b (bind_item (did_by done) (told_addr m.roster.me)) l m k on;
      same = is ∙ ap (λ (p : Phase). in_phase p l) (sym (ap (λ (x : LoopState). x.phase) is));
      stands = ap (λ (x : LoopState). x.phase) is;
    }

pub begins_ready : (done : Bool) (name : List ℕ) (a b : List Item) (l m n : LoopState) → IsLogged name a l m → b ≡ a ++ bind_item (did_by done) (told_addr m.roster.me) ∷ [] → n ≡ bound_on done m → done ≡ true → Begins name B.Ready l n b
begins_ready done name a b l m n k on same sure =
    let is : n ≡ in_phase Running l = same ∙ ap (λ (x : Bool). bound_on x m) sure ∙ ap (in_phase Running) k.same in
    let kept : l.kept ≡ 0 = ap (λ (x : LoopState). x.kept) k.new.new in
    let synced : l.synced ≡ 0 = ap (λ (x : LoopState). x.synced) k.new.new in
    record {
      told = begun_told done name a b l m n k on same;
      named = begun_named done name a b (bind_item (did_by done) (told_addr m.roster.me)) l m k on;
      same = is ∙ ap (λ (p : Phase). in_phase p l) (sym (ap (λ (x : LoopState). x.phase) is));
      stands = subst IsReady (sym is) (record { running = refl; kept = kept ∙ sym (ap (λ (es : List Entry). length es) k.new.first); synced = synced ∙ sym kept });
    }
