-- Stretches: a run goes on, and its bytes are those of its log.
use Rattle.std.proofs.Common.{◌≡◌, ℕ, true, refl, sym, ap, subst, ◌∙◌, List, [], ◌∷◌, ◌++◌, append_assoc, append-nil}
use Rattle.std.proofs.lemmas.Bool.{and_parts, and_from}
use Rattle.definition_laws.proofs.ForPeers.{honest_empty}
use Rattle.session_log.specs.Spelling.{log_bytes}
use Rattle.session_log.proofs.Logs.{log_written}
use Rattle.datagram_post.specs.Items.{Item}
use Rattle.datagram_post.specs.Moved.{kept_at, kept_in}
use Rattle.post_rules.specs.Views.{Setting, View, start, anew}
use Rattle.post_rules.specs.After.{after, view_after}
use Rattle.post_rules.specs.Histories.{are_allowed, are_stretches}
use Rattle.post_rules.specs.Laws.{begin_view, joined, view_at, IsRun, RunsKeepTheLog}
use Rattle.post_rules.specs.Runs.{LogsAreRuns}
use Rattle.post_rules.proofs.Logs.{Adds, Keeps, adds, adds_by, adds_none}

pub begin_more : (v : View) (front : List (List Item)) (items : List Item) → begin_view v (front ++ items ∷ []) ≡ anew (view_after (begin_view v front) items)
begin_more v [] items = refl
begin_more v (xs ∷ front) items = begin_more (anew (view_after v xs)) front items

pub joined_more : (front : List (List Item)) (items : List Item) → joined (front ++ items ∷ []) ≡ joined front ++ items
joined_more [] items = append-nil items
joined_more (xs ∷ front) items = ap (λ (ys : List Item). xs ++ ys) (joined_more front items) ∙ sym (append_assoc xs (joined front) items)

pub stretches_more : (v : View) (front : List (List Item)) (items : List Item) → are_stretches v front ≡ true → are_allowed (begin_view v front) items ≡ true → are_stretches v (front ++ items ∷ []) ≡ true
stretches_more v [] items a b = and_from _ _ b refl
stretches_more v (xs ∷ front) items a b = let p = and_parts _ _ a in and_from _ _ p.0 (stretches_more (anew (view_after v xs)) front items p.1 b)

-- a run of which another stretch begins
pub run_more : (s : Setting) (front : List (List Item)) (items more : List Item) → IsRun s front items → are_allowed (anew (view_at s front items)) more ≡ true → IsRun s (front ++ items ∷ []) more
run_more s front items more r h = (
  stretches_more (start s) front items r.0 r.1,
  subst (λ (x : View). are_allowed x more ≡ true) (sym (begin_more (start s) front items)) h,
)

-- ---- bytes

-- entries kept by some items, and then by what comes after
adds_through : (v later : View) (items : List Item) (bytes : List ℕ) → are_allowed v items ≡ true → Adds (view_after v items) later bytes → Adds v later (kept_in items ++ bytes)
adds_through v later [] bytes h r = r
adds_through v later (item ∷ items) bytes h r =
    let p = and_parts _ _ h in
    subst (Adds v later) (sym (append_assoc (kept_at item) (kept_in items) bytes))
    (adds_by v later item (kept_in items ++ bytes) p.0 (adds_through (after v item) later items bytes p.1 r))

anew_keeps : (v : View) → Keeps v (anew v)
anew_keeps v = record { kept = refl; writer = refl; setting = refl }

kept_joined : (xs ys : List Item) → kept_in (xs ++ ys) ≡ kept_in xs ++ kept_in ys
kept_joined [] ys = refl
kept_joined (x ∷ xs) ys = ap (λ (bytes : List ℕ). kept_at x ++ bytes) (kept_joined xs ys) ∙ sym (append_assoc (kept_at x) (kept_in xs) (kept_in ys))

adds_stretches : (v : View) (front : List (List Item)) (items : List Item) → are_stretches v front ≡ true → are_allowed (begin_view v front) items ≡ true →
    Adds v (view_after (begin_view v front) items) (kept_in (joined front ++ items))
adds_stretches v [] items a b = adds v items b
adds_stretches v (xs ∷ front) items a b =
    let p = and_parts _ _ a in
    let w = view_after v xs in
    let later = view_after (begin_view (anew w) front) items in
    let same : kept_in xs ++ kept_in (joined front ++ items) ≡ kept_in ((xs ++ joined front) ++ items) =
    sym (kept_joined xs (joined front ++ items)) ∙ ap kept_in (sym (append_assoc xs (joined front) items)) in
    subst (Adds v later) same
    (adds_through v later xs (kept_in (joined front ++ items)) p.0
    (adds_none w (anew w) later (kept_in (joined front ++ items)) (anew_keeps w) (adds_stretches (anew w) front items p.1 b)))

pub logs_are_runs : LogsAreRuns
logs_are_runs s front items d r = (adds_stretches (start s) front items r.0 r.1).runs d (honest_empty s.game s.me) refl

pub runs_keep_the_log : RunsKeepTheLog
runs_keep_the_log s front items r =
    let x = adds_stretches (start s) front items r.0 r.1 in
    x.written ∙ log_written s.game.id s.me x.entries ∙ ap (log_bytes s.game.id s.me) (sym x.kept)
