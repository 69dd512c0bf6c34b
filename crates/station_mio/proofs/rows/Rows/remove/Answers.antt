use Rattle.std.proofs.Common.{◌+◌, ◌∙◌, List, ◌++◌, ap, take, drop}
use Rattle.station_mio.specs.Rows.{Stand, stands_of}
use Rattle.station_mio.proofs.Places.{stands_gone}
use Rattle.station_mio.proofs.rows.Rows.remove.Goals as goal

pub returns-clause-others : goal.returns-clause-others
returns-clause-others g c =
    let number = g.S.Numbered.number in
    let place = c.args.place in
    ap (λ rows. stands_of number rows) c.remove.ensures.by_index.2 ∙
    stands_gone number c.self.inside.rows.items place ∙
    ap (λ (x : List Stand). take place x ++ drop (place + 1) x) c.self.view_is
