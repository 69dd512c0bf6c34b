use Rattle.std.proofs.Common.{List, ap, sym, ◌∙◌, map, arith}
use Rattle.auditor.specs.declared.world.WorldLine.{WorldLine}
use Rattle.auditor.specs.Played.{line_at}
use Rattle.auditor.proofs.Worlds.{line_is, whole_world}
use Rattle.auditor.proofs.world.world.Goals as goal

pub returns-clause-lines : goal.returns-clause-lines
returns-clause-lines c = λ legal q lt.
    let lists = map (λ own. own.items) c.args.moves.now in
    let whole = sym c.are_whole.ensures ∙ c.if-not-are_whole.false in
    let played = c.in_ok-playout.ensures.lockstep (legal whole) in
    ap (λ (lines : List WorldLine). line_at lines q) c.in_ok-lines.ensures
    ∙ line_is c.in_ok-playout.playout.standings q (let n = c.in_ok-playout.ensures.players in omega (arith, n, lt))
    ∙ whole_world c.args.session.now lists c.in_ok-playout.playout q whole played.0 played.1 lt
