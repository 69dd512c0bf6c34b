use Rattle.std.proofs.Common.{rules, ◌-◌}
use Rattle.std.proofs.lemmas.Option.{slice_get_within}
use Rattle.station_mio.specs.Rows.{stand_of}
use Rattle.station_mio.proofs.Growing.{before_gone, closes_grow, grows_then}
use Rattle.station_mio.proofs.ending.drain_all.Goals as goal

pub loop-place-preserved-then-not-drain_at : goal.loop-place-preserved-then-not-drain_at
loop-place-preserved-then-not-drain_at g c =
    let history = g.H.Host.history in
    let l = c.loop-place in (
      grows_then (history c.args.host.now) (history c.drain_at.new.host) (history c.close.new.host)
          (grows_then (history c.args.host.now) (history l.host) (history c.drain_at.new.host) l.invariant.0 c.drain_at.ensures.asked)
          (closes_grow (stand_of g.H.Stream.Numbered.number c.remove-row.result) (history c.drain_at.new.host) (history c.close.new.host) c.close.ensures),
      before_gone (l.place - 1) c.drain_at.new.rows c.remove-row.new.self (slice_get_within c.drain_at.new.rows (l.place - 1) (stand_of g.H.Stream.Numbered.number c.remove-row.result) c.remove-row.ensures.gone) c.remove-row.ensures.others,
    )

pub loop-place-preserved : goal.loop-place-preserved
loop-place-preserved g c =
    let history = g.H.Host.history in
    let l = c.loop-place in
    (grows_then (history c.args.host.now) (history l.host) (history c.drain_at.new.host) l.invariant.0 c.drain_at.ensures.asked, search rules)
