use Rattle.dilation.proofs.Reached.{dilated_grown, dilated_inside, kept_at, turns_grown, turns_read}
use Rattle.dilation.proofs.standing.Dilation.advance.Goals as goal

pub follow-requires-clause-kept : goal.follow-requires-clause-kept
follow-requires-clause-kept g c =
    let inside = c.self.inside in
    let facts = dilated_inside c.args.session.now inside.cells.items inside.kept.items c.args.self.now c.self.view_is c.requires.dilated in
    kept_at c.args.session.now inside.cells.items inside.kept.items c.from-at.result c.args.player c.index-cell.result.now c.index_mut.result.now facts c.from-at.ensures c.requires.player c.index-cell.ensures c.index_mut.ensures.value

pub returns-clause-dilated : goal.returns-clause-dilated
returns-clause-dilated g c =
    let inside = c.self.inside in
    let facts = dilated_inside c.args.session.now inside.cells.items inside.kept.items c.args.self.now c.self.view_is c.requires.dilated in
    dilated_grown c.args.session.now inside.cells.items inside.kept.items c.from-at.result c.args.player c.index-cell.result.now c.follow.new.kept facts c.from-at.ensures c.requires.player c.index-cell.ensures c.follow.ensures.kept

pub returns-clause-kept : goal.returns-clause-kept
returns-clause-kept g c =
    turns_grown c.self.inside.cells.items c.self.inside.kept.items c.args.self.now c.from-at.result c.args.player c.args.missed c.follow.new.kept c.self.view_is c.from-at.ensures c.follow.ensures.turns

pub returns-clause-turns : goal.returns-clause-turns
returns-clause-turns g c =
    let inside = c.self.inside in
    let facts = dilated_inside c.args.session.now inside.cells.items inside.kept.items c.args.self.now c.self.view_is c.requires.dilated in
    turns_read c.args.session.now inside.cells.items inside.kept.items c.from-at.result c.args.player c.args.missed c.follow.new.kept facts c.from-at.ensures c.requires.player c.follow.ensures.turns
