-- Told: the history of a beginning, and of each play after it, is one of a run by the rules.
use Rattle.std.proofs.Common.{◌≡◌, true, refl, sym, ap, subst, ◌∙◌, List, [], ◌++◌}
use Rattle.datagram_post.specs.Items.{Item}
use Rattle.post_rules.specs.Views.{View, start, anew}
use Rattle.post_rules.specs.After.{view_after}
use Rattle.post_rules.specs.Histories.{are_allowed}
use Rattle.post_rules.specs.Laws.{view_at}
use Rattle.post_rules.proofs.Stretches.{begin_more, joined_more, run_more}
use Rattle.datagram_loop.specs.States.{setting_of, view_of}
use Rattle.datagram_loop.specs.Laws.{BeginningsAreTold, PlaysAreTold}
use Rattle.post_rules.specs.Views.{new_settling}

pub beginnings_are_told : BeginningsAreTold
beginnings_are_told name begun l m items b =
    let f = b.told in
    let same : items ≡ f.more = f.grown in
    record {
      setting = ap setting_of b.same;
      run = (refl, subst (λ (xs : List Item). are_allowed (start (setting_of l)) xs ≡ true) (sym same) f.allowed);
      all = refl;
      waiting = [];
      settling = new_settling;
      shows = ap (view_after (start (setting_of l))) same ∙ f.shown;
    }

pub plays_are_told : PlaysAreTold
plays_are_told s front items before after l m by to polls ended t e =
    let f = e.follows in
    let from : anew (view_at s front items) ≡ view_of [] new_settling l = ap anew t.shows in
    let allowed : are_allowed (anew (view_at s front items)) f.more ≡ true = ap (λ (v : View). are_allowed v f.more) from ∙ f.allowed in (
      f.more,
      record {
        setting = e.setting ∙ t.setting;
        run = run_more s front items f.more t.run allowed;
        all = f.grown ∙ ap (λ (xs : List Item). xs ++ f.more) (t.all ∙ sym (joined_more front items));
        waiting = e.waiting;
        settling = e.settling;
        shows = ap (λ (v : View). view_after v f.more) (begin_more (start s) front items ∙ from) ∙ f.shown;
      },
    )
