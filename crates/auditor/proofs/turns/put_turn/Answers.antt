use Rattle.std.proofs.Common.{◌≡◌, ◌++◌, ◌∷◌, ◌∙◌, [], ap, sym, List, Some}
use Rattle.std.proofs.lemmas.List.{append_assoc}
use Rattle.definitions.specs.declared.frames.TurnFrame.{TurnFrame}
use Rattle.frame_index.specs.Frames.{kept_in}
use Rattle.auditor.specs.declared.turns.Resolved.{Resolved}
use Rattle.auditor.specs.Exhibits.{resolved_kept}
use Rattle.auditor.proofs.Turned.{turn_kept, turn_open}
use Rattle.auditor.proofs.turns.put_turn.Goals as goal

pub returns-in_ok-push-2-clause-track : goal.returns-in_ok-push-2-clause-track
returns-in_ok-push-2-clause-track c = turn_open c.args.session.now c.args.player c.args.track.now c.args.log c.deref.result.now c.in-Some.resolved (sym c.resolved_in.ensures ∙ c.in-Some.is)

pub returns-in_ok-push-2-clause-turn : goal.returns-in_ok-push-2-clause-turn
returns-in_ok-push-2-clause-turn c = λ logs h w there is.
    let kept = kept_in c.args.index.now c.args.player c.args.turn in
    let seen : c.deref.result.now ≡ kept = c.deref.ensures.value ∙ c.in_ok-gather.ensures in
    let t = turn_kept c.args.session.now c.args.player c.args.turn logs c.args.log h kept (w.stands c.args.player c.args.turn) there c.args.track.now is in
    let one : Some t.0 ≡ Some c.in-Some.resolved = sym t.1 ∙ ap (resolved_kept c.args.session.now c.args.player c.args.track.now c.args.log) (sym seen) ∙ sym c.resolved_in.ensures ∙ c.in-Some.is in
    let same : t.0 ≡ c.in-Some.resolved = cc in (
      c.in_ok-push-2.ensures.items ∙ ap (λ (fs : List TurnFrame). fs ++ c.in-Some.resolved.reveal ∷ []) c.in_ok-push.ensures.items
          ∙ append_assoc c.args.out.now.items (c.in-Some.resolved.commit ∷ []) (c.in-Some.resolved.reveal ∷ [])
          ∙ ap (λ (fs : List TurnFrame). c.args.out.now.items ++ fs) (ap (λ (r : Resolved). r.commit ∷ r.reveal ∷ []) (sym same) ∙ sym t.2),
      ap (λ (r : Resolved). r.track) (sym same) ∙ t.3,
    )

pub returns-in_default-clause-turn : goal.returns-in_default-clause-turn
returns-in_default-clause-turn c = λ logs h w there is.
    let kept = kept_in c.args.index.now c.args.player c.args.turn in
    let seen : c.deref.result.now ≡ kept = c.deref.ensures.value ∙ c.in_ok-gather.ensures in
    let t = turn_kept c.args.session.now c.args.player c.args.turn logs c.args.log h kept (w.stands c.args.player c.args.turn) there c.args.track.now is in
    absurd (c.in_default.not-Some t.0 (c.resolved_in.ensures ∙ ap (resolved_kept c.args.session.now c.args.player c.args.track.now c.args.log) seen ∙ t.1))
