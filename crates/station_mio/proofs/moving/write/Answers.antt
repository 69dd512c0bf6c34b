use Rattle.std.proofs.Common.{◌∙◌, ◌++◌, List, sym, ap}
use Rattle.station_mio.specs.Rows.{Stand, closings_at, stand_in, without}
use Rattle.station_mio.proofs.Moved.{writes_over, writes_on}
use Rattle.station_mio.proofs.moving.write.Goals as goal

pub returns-then-is_write_over-clause-asked : goal.returns-then-is_write_over-clause-asked
returns-then-is_write_over-clause-asked g c =
    let found = c.in-Some.ensures.found in
    let n = c.args.number in
    let middle = g.H.Host.history c.write_at-write.new.host in
    (writes_over n c.args.rows.now (g.H.Host.history c.args.host.now) middle (g.H.Host.history c.shut.new.host) c.write_at-write.result c.args.bytes.now found.0 found.3
    (c.write_at-write.ensures.asked found.0 found.1)
    (sym c.is_write_over.ensures ∙ c.if-is_write_over.true)
    (c.shut.ensures.asked ∙ ap (λ (x : List Stand). middle ++ closings_at (stand_in n x)) c.write_at-write.ensures.stands)).0

pub returns-then-is_write_over-clause-stands : goal.returns-then-is_write_over-clause-stands
returns-then-is_write_over-clause-stands g c =
    let found = c.in-Some.ensures.found in
    let n = c.args.number in
    let middle = g.H.Host.history c.write_at-write.new.host in
    c.shut.ensures.gone ∙ ap (λ (x : List Stand). without n x) c.write_at-write.ensures.stands ∙
    (writes_over n c.args.rows.now (g.H.Host.history c.args.host.now) middle (g.H.Host.history c.shut.new.host) c.write_at-write.result c.args.bytes.now found.0 found.3
    (c.write_at-write.ensures.asked found.0 found.1)
    (sym c.is_write_over.ensures ∙ c.if-is_write_over.true)
    (c.shut.ensures.asked ∙ ap (λ (x : List Stand). middle ++ closings_at (stand_in n x)) c.write_at-write.ensures.stands)).1

pub returns-else-is_write_over-clause-asked : goal.returns-else-is_write_over-clause-asked
returns-else-is_write_over-clause-asked g c =
    let found = c.in-Some.ensures.found in
    (writes_on c.args.number c.args.rows.now (g.H.Host.history c.args.host.now) (g.H.Host.history c.write_at-write.new.host) c.write_at-write.result c.args.bytes.now found.0 found.3
    (c.write_at-write.ensures.asked found.0 found.1)
    (sym c.is_write_over.ensures ∙ c.if-is_write_over.false)).0
