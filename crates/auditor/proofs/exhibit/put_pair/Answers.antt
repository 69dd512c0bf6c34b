use Rattle.std.proofs.Common.{◌≡◌, ◌++◌, ◌∙◌, ap, sym, List, Bool, true, false}
use Rattle.std.proofs.lemmas.Result.{on_ok_weaker}
use Rattle.definitions.specs.declared.frames.TurnFrame.{TurnFrame}
use Rattle.frame_index.specs.declared.seen.Seen.{Seen}
use Rattle.frame_index.specs.Frames.{kept_in}
use Rattle.evidence.specs.Showing.{commit_first, pair_at}
use Rattle.auditor.specs.Exhibits.{both, is_illegal, kept_at, shown_by}
use Rattle.auditor.proofs.Paired.{pair_is}
use Rattle.auditor.proofs.exhibit.put_pair.Goals as goal

pub returns-then-is_illegal : goal.returns-then-is_illegal
returns-then-is_illegal c =
    let f = c.args.finding.now in
    let kept = kept_in c.args.index.now f.player f.turn in
    let seen : c.deref.result.now ≡ kept = c.deref.ensures.value ∙ c.in_ok-gather.ensures in
    let first : c.kept_at-first.result ≡ kept_at kept f.first = c.kept_at-first.ensures ∙ ap (λ (ks : List Seen). kept_at ks f.first) seen in
    let second : c.kept_at-second.result ≡ kept_at kept f.second = c.kept_at-second.ensures ∙ ap (λ (ks : List Seen). kept_at ks f.second) (c.deref-2.ensures.value ∙ c.in_ok-gather.ensures) in
    let illegal : true ≡ is_illegal f.kind = sym c.if-is_illegal.true ∙ c.is_illegal.ensures in
    on_ok_weaker c.put_commit_first.result (λ e game logs w m.
    let pair : both c.kept_at-first.result c.kept_at-second.result ≡ pair_at logs f = (λ i. both (first i) (second i)) ∙ pair_is game logs f c.args.index.now w m in
    e ∙ ap (λ (fs : List TurnFrame). c.args.out.now.items ++ fs) (ap commit_first pair ∙ ap (λ (b : Bool). shown_by b (pair_at logs f)) illegal)) c.put_commit_first.ensures

pub returns-else-is_illegal : goal.returns-else-is_illegal
returns-else-is_illegal c =
    let f = c.args.finding.now in
    let kept = kept_in c.args.index.now f.player f.turn in
    let seen : c.deref.result.now ≡ kept = c.deref.ensures.value ∙ c.in_ok-gather.ensures in
    let first : c.kept_at-first.result ≡ kept_at kept f.first = c.kept_at-first.ensures ∙ ap (λ (ks : List Seen). kept_at ks f.first) seen in
    let second : c.kept_at-second.result ≡ kept_at kept f.second = c.kept_at-second.ensures ∙ ap (λ (ks : List Seen). kept_at ks f.second) (c.deref-2.ensures.value ∙ c.in_ok-gather.ensures) in
    let legal : false ≡ is_illegal f.kind = sym c.if-is_illegal.false ∙ c.is_illegal.ensures in
    on_ok_weaker c.put_both.result (λ e game logs w m.
    let pair : both c.kept_at-first.result c.kept_at-second.result ≡ pair_at logs f = (λ i. both (first i) (second i)) ∙ pair_is game logs f c.args.index.now w m in
    e ∙ ap (λ (fs : List TurnFrame). c.args.out.now.items ++ fs) (pair ∙ ap (λ (b : Bool). shown_by b (pair_at logs f)) legal)) c.put_both.ensures
