use Rattle.dilation.proofs.Reached.{dilated_inside, kept_set_is}
use Rattle.dilation.proofs.standing.Dilation.reached.Goals as goal

pub returns : goal.returns
returns c =
    let inside = c.self.inside in
    let facts = dilated_inside c.args._session.now inside.cells.items inside.kept.items c.args.self.now c.self.view_is c.requires.dilated in
    kept_set_is c.args._session.now inside.cells.items inside.kept.items c.args.self.now c.from.result c.args.player c.index.result.now facts c.self.view_is c.from.ensures c.requires.player c.index.ensures
