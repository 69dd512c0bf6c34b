use Rattle.std.proofs.Common.{List, ap, arith, refl, sym, ℕ, ◌++◌, ◌∙◌, ◌≡◌, Option}
use Rattle.std.specs.Prelude.{filter_map, option_to_list}
use Rattle.std.specs.List.{range_with_len}
use Rattle.definitions.specs.declared.world.Move.{Move}
use Rattle.auditor.specs.Accords.{accord_of, agreed_in}
use Rattle.auditor.specs.Agreed.{agreed_move, resolved_at}
use Rattle.frame_index.specs.Agreeing.{one_move}
use Rattle.auditor.proofs.Accorded.{one_is}
use Rattle.auditor.proofs.Ranged.{picked_more}
use Rattle.auditor.proofs.auditor.Auditor.agreed_move.Goals as goal

pub loop-log-init : goal.loop-log-init
loop-log-init c = record { noted = λ logs long owned got made. refl }

pub loop-log-preserved : goal.loop-log-preserved
loop-log-preserved c = record {
  noted = λ logs long owned got made.
      let f : ℕ → Option Move = resolved_at c.args.self.now.session c.args.self.now.owners logs c.args.player c.args.turn in
      let before : List Move = filter_map f (range_with_len 0 c.loop-log.log) in
      c.with_move-accord.ensures before (c.loop-log.invariant.noted logs long owned got made)
      ∙ ap (λ (o : Option Move). accord_of (before ++ option_to_list o)) (c.resolved_at-mv.ensures logs long owned got made) ∙ ap accord_of (sym (picked_more f c.loop-log.log));
}

pub returns : goal.returns
unfolding agreed_move
returns c = λ logs long owned got made.
    let f : ℕ → Option Move = resolved_at c.args.self.now.session c.args.self.now.owners logs c.args.player c.args.turn in
    let all : c.loop-log.log ≡ 64 = omega (arith, c.loop-log-test.false, c.loop-log.auto.log-end) in
    c.agreed_in.ensures ∙ ap agreed_in (c.loop-log.invariant.noted logs long owned got made) ∙ one_is (filter_map f (range_with_len 0 c.loop-log.log))
    ∙ ap (λ (n : ℕ). one_move (filter_map f (range_with_len 0 n))) (all ∙ sym long)
