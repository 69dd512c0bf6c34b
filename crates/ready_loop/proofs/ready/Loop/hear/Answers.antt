use Rattle.std.proofs.Common.{refl, sym, ◌∙◌, subst, ◌+◌, ◌^◌, ◌<◌}
use Rattle.ready_loop.specs.States.{LoopState}
use Rattle.std.specs.Prelude.{slice_get, Some, ◌≡◌}
use Rattle.ready_loop.proofs.CallsIn.{waiting_player, heard_got, heard_hears, heard_passed}
use Rattle.ready_loop.proofs.ready.Loop.hear.Goals as goal

pub keep_got-requires-clause-few : goal.keep_got-requires-clause-few
keep_got-requires-clause-few g c = subst (λ (l : LoopState). l.handled + 1 < 2 ^ 64) (sym c.self.view_is) c.first-arrival.ensures.few

pub pass_over-requires-clause-few : goal.pass_over-requires-clause-few
pass_over-requires-clause-few g c = subst (λ (l : LoopState). l.handled + 1 < 2 ^ 64) (sym c.self.view_is) c.first-arrival.ensures.few

pub pass_over-requires-clause-player : goal.pass_over-requires-clause-player
pass_over-requires-clause-player g c = waiting_player _ c.args.self.now c.first-arrival.result c.got-answer.new.self c.self.inside.writer c.self.view_is c.self.invariant c.first-arrival.ensures.first c.got-answer.ensures.log

pub keep_got-requires-clause-got : goal.keep_got-requires-clause-got
keep_got-requires-clause-got g c =
    heard_got _ _ c.args.self.now _ c.first-arrival.result c.got-answer.result c.got-answer.new.self c.self.inside.writer
    (record {
      same = c.self.view_is;
      first = subst (λ (l : LoopState). slice_get l.table.waiting l.handled ≡ Some c.first-arrival.result) (sym c.self.view_is) c.first-arrival.ensures.first;
      answered = c.got-answer.ensures.answer;
      log = c.got-answer.ensures.log;
      others = c.self.invariant.waiting;
    }) c.self.invariant c.requires.hearing c.requires.next (sym c.is_logged.ensures ∙ c.if-is_logged.true) refl

pub returns-then-is_logged : goal.returns-then-is_logged
returns-then-is_logged g c =
    heard_hears c.keep_got.result _ _ _ c.args.self.now _ c.keep_got.new.self c.first-arrival.result c.got-answer.result c.got-answer.new.self c.self.inside.writer
    (record {
      same = c.self.view_is;
      first = subst (λ (l : LoopState). slice_get l.table.waiting l.handled ≡ Some c.first-arrival.result) (sym c.self.view_is) c.first-arrival.ensures.first;
      answered = c.got-answer.ensures.answer;
      log = c.got-answer.ensures.log;
      others = c.self.invariant.waiting;
    }) c.self.invariant (sym c.is_logged.ensures ∙ c.if-is_logged.true) refl c.keep_got.ensures

pub returns : goal.returns
returns g c =
    heard_passed _ _ c.args.self.now _ c.pass_over.new.self c.first-arrival.result c.got-answer.result c.got-answer.new.self c.self.inside.writer
    (record {
      same = c.self.view_is;
      first = subst (λ (l : LoopState). slice_get l.table.waiting l.handled ≡ Some c.first-arrival.result) (sym c.self.view_is) c.first-arrival.ensures.first;
      answered = c.got-answer.ensures.answer;
      log = c.got-answer.ensures.log;
      others = c.self.invariant.waiting;
    }) c.self.invariant c.requires.hearing c.requires.next (sym c.is_logged.ensures ∙ c.if-is_logged.false) refl c.pass_over.ensures
