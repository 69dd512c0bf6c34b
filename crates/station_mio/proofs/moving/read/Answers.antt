use Rattle.std.proofs.Common.{◌∙◌, ◌++◌, List, sym, ap}
use Rattle.station_mio.specs.Rows.{Stand, closings_at, stand_in, without}
use Rattle.station_mio.proofs.Moved.{reads_over, reads_on}
use Rattle.station_mio.proofs.moving.read.Goals as goal

pub returns-then-is_read_over-clause-asked : goal.returns-then-is_read_over-clause-asked
returns-then-is_read_over-clause-asked g c =
    let found = c.in-Some.ensures.found in
    let n = c.args.number in
    let middle = g.H.Host.history c.read_at-read.new.host in
    (reads_over n c.args.rows.now (g.H.Host.history c.args.host.now) middle (g.H.Host.history c.shut.new.host) c.read_at-read.result c.read_at-read.new.buf found.0 found.3
    (c.read_at-read.ensures.asked found.0 found.1)
    (sym c.is_read_over.ensures ∙ c.if-is_read_over.true)
    (c.shut.ensures.asked ∙ ap (λ (x : List Stand). middle ++ closings_at (stand_in n x)) c.read_at-read.ensures.stands)).0

pub returns-then-is_read_over-clause-stands : goal.returns-then-is_read_over-clause-stands
returns-then-is_read_over-clause-stands g c =
    let found = c.in-Some.ensures.found in
    let n = c.args.number in
    let middle = g.H.Host.history c.read_at-read.new.host in
    c.shut.ensures.gone ∙ ap (λ (x : List Stand). without n x) c.read_at-read.ensures.stands ∙
    (reads_over n c.args.rows.now (g.H.Host.history c.args.host.now) middle (g.H.Host.history c.shut.new.host) c.read_at-read.result c.read_at-read.new.buf found.0 found.3
    (c.read_at-read.ensures.asked found.0 found.1)
    (sym c.is_read_over.ensures ∙ c.if-is_read_over.true)
    (c.shut.ensures.asked ∙ ap (λ (x : List Stand). middle ++ closings_at (stand_in n x)) c.read_at-read.ensures.stands)).1

pub returns-else-is_read_over-clause-asked : goal.returns-else-is_read_over-clause-asked
returns-else-is_read_over-clause-asked g c =
    let found = c.in-Some.ensures.found in
    (reads_on c.args.number c.args.rows.now (g.H.Host.history c.args.host.now) (g.H.Host.history c.read_at-read.new.host) c.read_at-read.result c.read_at-read.new.buf found.0 found.3
    (c.read_at-read.ensures.asked found.0 found.1)
    (sym c.is_read_over.ensures ∙ c.if-is_read_over.false)).0
