use Rattle.std.proofs.Common.{List, ap, arith, length, length-append, replicate, subst, sym, ◌∙◌, ◌+◌, ◌∷◌, []}
use Rattle.agreed_turns.specs.declared.accords.Accord.TheVariants.{Open}
use Rattle.agreed_turns.specs.declared.heads.Head.{Head}
use Rattle.agreed_turns.proofs.Started.{AreAtStart, start_more, start_none, start_player, start_sound}
use Rattle.agreed_turns.proofs.turns.PlayerTurns.new.Goals as goal

pub loop-init : goal.loop-init
loop-init c = record {
  many = ap length c.in_ok-heads.ensures.items;
  start = subst (λ (hs : List Head). AreAtStart c.args.session.now c.args.player hs) (sym c.in_ok-heads.ensures.items) (start_none c.args.session.now c.args.player);
}

pub loop-preserved : goal.loop-preserved
loop-preserved c =
    let items = c.in_ok-push.ensures.items in
    record {
      many = ap length items ∙ length-append c.loop.heads.items (c.new.result ∷ []) ∙ ap (λ n. n + 1) c.loop.invariant.many;
      start = subst (λ (hs : List Head). AreAtStart c.args.session.now c.args.player hs) (sym items)
          (start_more c.args.session.now c.args.player c.loop.heads.items c.new.result c.loop.invariant.start c.new.ensures);
    }

pub returns-clause-sound : goal.returns-clause-sound
returns-clause-sound c =
    let many = c.loop.invariant.many in
    start_sound c.args.session.now c.args.player c.loop.heads.items c.in_ok-new.field-0 c.loop.invariant.start (c.in_ok-new.ensures ∙ ap (λ n. replicate n Open) c.turns.ensures.value) c.facts.ensures c.requires (omega arith)

pub returns-clause-new : goal.returns-clause-new
returns-clause-new c = start_player c.args.session.now c.args.player c.loop.heads.items c.in_ok-new.field-0 c.loop.invariant.start (c.in_ok-new.ensures ∙ ap (λ n. replicate n Open) c.turns.ensures.value)
