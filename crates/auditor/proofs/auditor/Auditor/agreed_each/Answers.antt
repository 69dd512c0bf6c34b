use Rattle.std.proofs.Common.{List, ap, arith, subst, sym, ℕ, ◌++◌, ◌∙◌, ◌≡◌, Option, length}
use Rattle.std.specs.Prelude.{filter_map, option_to_list}
use Rattle.std.specs.List.{range_with_len}
use Rattle.definitions.specs.declared.world.Move.{Move}
use Rattle.auditor.specs.Agreed.{agreed_move, agreed_moves}
use Rattle.frame_index.specs.Heads.{AreOpen}
use Rattle.auditor.specs.Audits.{AuditState, crossed_logs}
use Rattle.auditor.proofs.Viewed.{none_read}
use Rattle.auditor.proofs.Ranged.{picked_more}
use Rattle.auditor.proofs.auditor.Auditor.agreed_each.Goals as goal

pub loop-turn-init : goal.loop-turn-init
loop-turn-init c =
    let i = c.self.inside in
    let seen : AuditState = record { session = i.session; index = i.index; made = i.made; counts = i.counts; owners = i.owners } in
    record {
      few = let none = ap (λ (ms : List Move). length ms) c.new-moves.ensures.items in omega arith;
      got = subst (λ (a : AuditState). AreOpen a.session c.in_ok-got.got.after) c.self.view_is c.in_ok-got.ensures.opens;
      made = subst (λ (a : AuditState). AreOpen a.session c.in_ok-made.made.after) c.self.view_is c.in_ok-made.ensures.opens;
      put = λ logs w. (
        none_read c.args.self.now seen c.self.view_is c.args.player logs (record { got = c.in_ok-got.got; made = c.in_ok-made.made }) (λ v. c.in_ok-got.ensures.stand logs v.audit.index)
            (λ v. c.in_ok-made.ensures.stand (crossed_logs logs) v.audit.made) w,
        c.new-moves.ensures.items,
      );
    }

pub put_agreed-requires-clause-got : goal.put_agreed-requires-clause-got
put_agreed-requires-clause-got c = c.loop-turn.invariant.got

pub put_agreed-requires-clause-made : goal.put_agreed-requires-clause-made
put_agreed-requires-clause-made c = c.loop-turn.invariant.made

pub loop-turn-preserved : goal.loop-turn-preserved
loop-turn-preserved c = record {
  few = let one = c.in_ok-put_agreed.ensures.one in let few = c.loop-turn.invariant.few in omega arith;
  got = c.in_ok-put_agreed.ensures.got;
  made = c.in_ok-put_agreed.ensures.made;
  put = λ logs w.
      let f : ℕ → Option Move = agreed_move c.args.self.now.session c.args.self.now.owners logs c.args.player in
      let before = c.loop-turn.invariant.put logs w in
      let more = c.in_ok-put_agreed.ensures.put logs w before.0 in
      (more.0, more.1 ∙ ap (λ (ms : List Move). ms ++ option_to_list (f c.loop-turn.turn)) before.1 ∙ sym (picked_more f c.loop-turn.turn));
}

pub returns-clause-few : goal.returns-clause-few
returns-clause-few c =
    let few = c.loop-turn.invariant.few in
    let end = c.loop-turn.auto.turn-end in
    let value = c.turns-turn-end.ensures.value in
    let same = ap (λ (a : AuditState). a.session.turns) c.self.view_is in
    omega (arith, few, end, value, same)

pub returns-clause-moves : goal.returns-clause-moves
unfolding agreed_moves
returns-clause-moves c = λ logs w.
    let f : ℕ → Option Move = agreed_move c.args.self.now.session c.args.self.now.owners logs c.args.player in
    let all : c.loop-turn.turn ≡ c.args.self.now.session.turns =
    (let end = c.loop-turn.auto.turn-end in let value = c.turns-turn-end.ensures.value in let same = ap (λ (a : AuditState). a.session.turns) c.self.view_is in omega (arith, c.loop-turn-test.false, end, value, same)) in
    (c.loop-turn.invariant.put logs w).1 ∙ ap (λ (n : ℕ). filter_map f (range_with_len 0 n)) all
