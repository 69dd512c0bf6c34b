use Rattle.std.proofs.Common.{◌∙◌, refl, arith}
use Rattle.station_mio.proofs.Going.{went_none, went_more, went_all, changed_length}
use Rattle.station_mio.proofs.dialling.go_on_all.Goals as goal

pub loop-place-init : goal.loop-place-init
loop-place-init g c = (went_none c.args.now c.args.rows.now (g.H.Host.history c.args.host.now), refl)

pub loop-place-preserved : goal.loop-place-preserved
loop-place-preserved g c =
    let history = g.H.Host.history in
    let new = c.go_on_at.new in
    let l = c.loop-place in (
      went_more c.args.now l.place c.args.rows.now l.rows new.rows (history c.args.host.now) (history l.host) (history new.host) l.invariant.0 c.go_on_at.ensures,
      changed_length c.args.now l.place l.rows new.rows (history l.host) (history new.host) c.go_on_at.ensures ∙ l.invariant.1,
    )

pub returns : goal.returns
returns g c =
    let history = g.H.Host.history in
    let l = c.loop-place in
    let end = c.loop-place-test.false in
    let len = c.len-place-end.ensures in
    let same = l.invariant.1 in
    went_all c.args.now l.place c.args.rows.now l.rows (history c.args.host.now) (history l.host) l.invariant.0 (omega (arith, end, len, same))
