use Rattle.std.proofs.Common.{◌<◌, sym, subst}
use Rattle.definitions.specs.World.{players_of}
use Rattle.dilation.proofs.Reached.{cells_seen, dilated_inside, dilated_seen, kept_here, turns_grown}
use Rattle.dilation.proofs.standing.Dilation.resolved.Goals as goal

pub begin-requires-clause-size : goal.begin-requires-clause-size
begin-requires-clause-size c =
    let inside = c.self.inside in
    let facts = dilated_inside c.args.session.now inside.cells.items inside.kept.items c.args.self.now c.self.view_is c.requires.dilated in
    let at : c.from-at.result < players_of c.args.session.now = subst (λ n. n < players_of c.args.session.now) (sym c.from-at.ensures) c.requires.player in
    (kept_here c.args.session.now inside.cells.items inside.kept.items c.from-at.result c.index_mut-2.result.now facts at c.index_mut-2.ensures.value).followed.size

pub returns-clause-dilated : goal.returns-clause-dilated
returns-clause-dilated c =
    let inside = c.self.inside in
    let facts = dilated_inside c.args.session.now inside.cells.items inside.kept.items c.args.self.now c.self.view_is c.requires.dilated in
    dilated_seen c.args.session.now inside.cells.items inside.kept.items c.from-at.result c.args.player c.args.cell c.begin.new.kept facts c.from-at.ensures c.requires.«open» c.begin.ensures.kept

pub returns-clause-seen : goal.returns-clause-seen
returns-clause-seen c = cells_seen c.self.inside.cells.items c.self.inside.kept.items c.args.self.now c.from-at.result c.args.player c.args.cell c.self.view_is c.from-at.ensures

pub returns-clause-kept : goal.returns-clause-kept
returns-clause-kept c =
    turns_grown c.self.inside.cells.items c.self.inside.kept.items c.args.self.now c.from-at.result c.args.player 0 c.begin.new.kept c.self.view_is c.from-at.ensures c.begin.ensures.turns
