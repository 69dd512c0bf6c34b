use Rattle.std.proofs.Common.{◌∙◌, List, subst}
use Rattle.station_mio.specs.Rows.{Stand}
use Rattle.station_mio.specs.Ending.{EndsAt}
use Rattle.station_mio.proofs.Growing.{ends_more}
use Rattle.station_mio.proofs.ending.end_all.Goals as goal

pub loop-place-preserved : goal.loop-place-preserved
loop-place-preserved g c =
    let history = g.H.Host.history in
    let l = c.loop-place in
    let at = subst (λ (x : List Stand). EndsAt l.place x (history l.host) (history c.end_at.new.host)) l.invariant.1 c.end_at.ensures.asked in
    (ends_more l.place c.args.rows.now (history c.args.host.now) (history l.host) (history c.end_at.new.host) l.invariant.0 at, c.end_at.ensures.same ∙ l.invariant.1)
