use Rattle.std.proofs.Common.{List, Option, ap, arith, length, subst, sym, ℕ, ◌++◌, ◌≡◌, ◌∙◌}
use Rattle.std.specs.Prelude.{IfSome, filter_map, option_to_list}
use Rattle.std.specs.List.{range_with_len}
use Rattle.definitions.specs.declared.world.Move.{Move}
use Rattle.definitions.specs.declared.logs.Entry.{Entry}
use Rattle.auditor.specs.declared.common.Plays.{Plays}
use Rattle.auditor.specs.Agreed.{ArePlays, agreed_move, agreed_moves}
use Rattle.auditor.specs.Audits.{AuditState}
use Rattle.auditor.specs.Reading.{IsReadable}
use Rattle.auditor.proofs.Ranged.{picked_more}
use Rattle.auditor.proofs.auditor.Auditor.common_agreed.Goals as goal

pub loop-turn-init : goal.loop-turn-init
loop-turn-init c = record {
  few = let none = ap (λ (ms : List Move). length ms) c.new-moves.ensures.items in omega (arith, none);
  put = λ logs w. c.new-moves.ensures.items;
}

pub loop-turn-preserved : goal.loop-turn-preserved
loop-turn-preserved c =
    let self = c.args.self.now in
    let t = c.loop-turn.turn in
    let plays : (logs : List (List Entry)) → IsReadable self logs → ArePlays self.session self.owners logs c.args.player c.in-Some.plays.got.items c.in-Some.plays.made.items =
    subst (λ (o : Option Plays). IfSome o (λ p. (logs : List (List Entry)) → IsReadable self logs → ArePlays self.session self.owners logs c.args.player p.got.items p.made.items)) c.in-Some.is c.in_ok-plays.ensures.plays in
    let one = c.in_ok-put_joined.ensures.one in
    let few = c.loop-turn.invariant.few in
    let end = c.turns-turn-end.ensures.value in
    let same = ap (λ (a : AuditState). a.session.turns) c.self.view_is in
    let test = c.loop-turn-test.true in
    record {
      few = omega (arith, one, few);
      put = λ logs w.
          let f : ℕ → Option Move = agreed_move self.session self.owners logs c.args.player in
          c.in_ok-put_joined.ensures.put ∙ ap (λ (o : Option Move). c.loop-turn.moves.items ++ option_to_list o) (sym (plays logs w t (omega (arith, end, same, test))))
          ∙ ap (λ (ms : List Move). ms ++ option_to_list (f t)) (c.loop-turn.invariant.put logs w) ∙ sym (picked_more f t);
    }

pub returns-clause-moves : goal.returns-clause-moves
unfolding agreed_moves
returns-clause-moves c = λ logs w.
    let f : ℕ → Option Move = agreed_move c.args.self.now.session c.args.self.now.owners logs c.args.player in
    let all : c.loop-turn.turn ≡ c.args.self.now.session.turns = (let end = c.loop-turn.auto.turn-end in let value = c.turns-turn-end.ensures.value in let same = ap (λ (a : AuditState). a.session.turns) c.self.view_is in omega (arith, c.loop-turn-test.false, end, value, same)) in
    c.loop-turn.invariant.put logs w ∙ ap (λ (n : ℕ). filter_map f (range_with_len 0 n)) all
