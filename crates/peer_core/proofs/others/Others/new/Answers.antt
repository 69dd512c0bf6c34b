use Rattle.peer_core.proofs.Tables.{others_new}
use Rattle.definitions.specs.World.{players_of}
use Rattle.peer_core.proofs.Unheld.{unheld_blank}
use Rattle.peer_core.proofs.others.Others.new.Goals as goal

pub invariant_of-result : goal.invariant_of-result
invariant_of-result c = unheld_blank (players_of c.args.session.now) c.in_ok-views.views.items c.in_ok-bare.bare.items c.in_ok-views.ensures c.in_ok-bare.ensures

pub returns : goal.returns
returns c = others_new c.args.session.now c.args._me c.in_ok-windows.windows.items c.in_ok-views.views.items c.in_ok-rule.rule c.in_ok-windows.ensures c.in_ok-views.ensures c.in_ok-rule.ensures.rule c.in_ok-rule.ensures.cells
