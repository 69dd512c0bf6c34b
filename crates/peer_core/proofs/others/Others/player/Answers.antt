use Rattle.std.proofs.Common.{subst, sym}
use Rattle.peer_core.specs.Others.{Known, AreOthers}
use Rattle.peer_core.proofs.Tables.{others_player}
use Rattle.peer_core.proofs.others.Others.player.Goals as goal

pub returns : goal.returns
returns c =
    let IsKnown : Known → Type 0 = λ o. AreOthers c.args._session.now c.args._me c.args._entries.now o in
    let all = subst IsKnown (sym c.self.view_is) c.requires.others in
    others_player c.args._session.now c.args._me c.args.player c.from.result c.args._entries.now _ _ c.index-window.result.now c.resolved.result c.next.result c.track.result all c.requires.player c.requires.other c.from.ensures
    c.index-window.ensures c.resolved.ensures c.track.ensures c.next.ensures
