-- Whole: all that holds of a whole run, at its end and at each moment.
use Rattle.std.proofs.Common.{◌≡◌, inl, inr, true, refl, sym, ap, subst, ◌∙◌, List, [], ◌∷◌, ◌++◌}
use Rattle.std.proofs.lemmas.Bool.{and_parts, and_from}
use Rattle.datagram_post.specs.Items.{Item, Call, Gave, Failed}
use Rattle.post_rules.specs.Views.{Setting, View, start, anew}
use Rattle.post_rules.specs.After.{after_failed, view_after}
use Rattle.post_rules.specs.Licence.{IsLicensed}
use Rattle.post_rules.specs.Rules.{is_allowed}
use Rattle.post_rules.specs.Histories.{are_allowed, are_stretches}
use Rattle.post_rules.specs.Laws.{ends_run, begin_view, joined, view_at, IsRun}
use Rattle.post_rules.specs.Runs.{IsMoment, IsPoll, RunsAreFair}
use Rattle.post_rules.proofs.Told.{view_then, allowed_front, allowed_next, faults_are_last}
use Rattle.post_rules.proofs.Firsts.{ended_stretches, fault_ends, runs_begin_first}
use Rattle.post_rules.proofs.Stretches.{stretches_more, runs_keep_the_log, logs_are_runs}
use Rattle.post_rules.proofs.Received.{receipts_stand_behind}
use Rattle.post_rules.proofs.Given.{runs_are_honest, given_stands_behind}
use Rattle.post_rules.proofs.Opened.{moves_accepted_open}

-- the stretches before one of them, and that one, go by the rules
stretch_at : (v : View) (earlier : List (List Item)) (items : List Item) (rest : List (List Item)) → are_stretches v (earlier ++ items ∷ rest) ≡ true →
    (are_stretches v earlier ≡ true) × (are_allowed (begin_view v earlier) items ≡ true) × (are_stretches (anew (view_after (begin_view v earlier) items)) rest ≡ true)
stretch_at v [] items rest h = (let p = and_parts _ _ h in (refl, p.0, p.1))
stretch_at v (xs ∷ earlier) items rest h =
    let p = and_parts _ _ h in
    let r = stretch_at (anew (view_after v xs)) earlier items rest p.1 in
    (and_from _ _ p.0 r.0, r.1, r.2)

-- a moment of a run ends a run, and its item may come next there
pub moments_are_runs : (s : Setting) (front : List (List Item)) (items : List Item) (earlier : List (List Item)) (before : List Item) (item : Item) → IsRun s front items → IsMoment front items earlier before item →
    IsRun s earlier before × (is_allowed (view_at s earlier before) item ≡ true)
moments_are_runs s front items earlier before item r k =
    let all = subst (λ (xs : List (List Item)). are_stretches (start s) xs ≡ true) k.stands (stretches_more (start s) front items r.0 r.1) in
    let x = stretch_at (start s) earlier (before ++ item ∷ k.more) k.rest all in
    ((x.0, allowed_front (begin_view (start s) earlier) before (item ∷ k.more) x.1), allowed_next (begin_view (start s) earlier) before k.more item x.1)

-- after a failed call that ends a run nothing stands
faults_end : (s : Setting) (front : List (List Item)) (items : List Item) (earlier : List (List Item)) (before : List Item) (call : Call) → IsRun s front items → ends_run call ≡ true →
    (k : IsMoment front items earlier before (Failed call)) → (k.more ≡ []) × (joined k.rest ≡ [])
faults_end s front items earlier before call r ends k =
    let all = subst (λ (xs : List (List Item)). are_stretches (start s) xs ≡ true) k.stands (stretches_more (start s) front items r.0 r.1) in
    let x = stretch_at (start s) earlier (before ++ Failed call ∷ k.more) k.rest all in
    let v = view_at s earlier before in
    let none : k.more ≡ [] = faults_are_last (begin_view (start s) earlier) before k.more call ends x.1 in
    let shown : view_after (begin_view (start s) earlier) (before ++ Failed call ∷ k.more) ≡ after_failed v call =
    view_then (begin_view (start s) earlier) before (Failed call ∷ k.more) ∙ ap (view_after (after_failed v call)) none in
    (none, ended_stretches (anew (after_failed v call)) k.rest (fault_ends v call ends) (subst (λ (w : View). are_stretches (anew w) k.rest ≡ true) shown x.2))

-- a poll that may come next is licensed
licensed_by : (v : View) (item : Item) → IsPoll item → is_allowed v item ≡ true → IsLicensed v
licensed_by v item (inl e) h = sym (ap (is_allowed v) e) ∙ h
licensed_by v item (inr e) h = sym (ap (is_allowed v) e) ∙ h

pub runs_are_fair : RunsAreFair
runs_are_fair s front items ahead r = record {
  log = runs_keep_the_log s front items r;
  honest = runs_are_honest s front items r;
  run = logs_are_runs s front items ahead r;
  received = λ q f m. receipts_stand_behind s front items q f r m;
  opened = λ q t m other e. let x = moves_accepted_open s front items q t m ahead r other e in
      record { digest = x.0; nonce = x.1; held_so = x.2; committed = x.3; revealed = x.4; opens = x.5 };
  given = λ earlier before addr bytes k. let x = moments_are_runs s front items earlier before (Gave addr bytes) r k in
      given_stands_behind s earlier before addr bytes ahead x.0 x.1;
  polls = λ earlier before item poll k. let x = moments_are_runs s front items earlier before item r k in
      licensed_by (view_at s earlier before) item poll x.1;
  begins = runs_begin_first s front items r;
  faults = λ earlier before call ends k. faults_end s front items earlier before call r ends k;
}
