use Rattle.run_frame.specs.Outside.{outside}
use Rattle.peer_runs.proofs.commands.obey.Goals as goal

-- each command is handed a part of the outside, and leaves the rest as it was
pub returns-in-Drive : goal.returns-in-Drive
returns-in-Drive g c = rw c.in-Drive.is (c.run_drive.ensures (outside (g.I.Source.state c.args.input.now) (g.O.Sink.state c.args.out.now) (g.H.Shelf.state c.args.shelf.now) (g.S.Station.history c.args.station.now) (g.D.Post.history c.args.post.now) (g.R.Rng.stream c.args.chance.now)))

pub returns-in-Upgrade : goal.returns-in-Upgrade
returns-in-Upgrade g c = rw c.in-Upgrade.is (c.run_upgrade.ensures (outside (g.I.Source.state c.args.input.now) (g.O.Sink.state c.args.out.now) (g.H.Shelf.state c.args.shelf.now) (g.S.Station.history c.args.station.now) (g.D.Post.history c.args.post.now) (g.R.Rng.stream c.args.chance.now)))

pub returns-in-Judge : goal.returns-in-Judge
returns-in-Judge g c = rw c.in-Judge.is (c.run_judge.ensures (outside (g.I.Source.state c.args.input.now) (g.O.Sink.state c.args.out.now) (g.H.Shelf.state c.args.shelf.now) (g.S.Station.history c.args.station.now) (g.D.Post.history c.args.post.now) (g.R.Rng.stream c.args.chance.now)))

pub returns-in-Audit : goal.returns-in-Audit
returns-in-Audit g c = rw c.in-Audit.is (c.run_audit.ensures (outside (g.I.Source.state c.args.input.now) (g.O.Sink.state c.args.out.now) (g.H.Shelf.state c.args.shelf.now) (g.S.Station.history c.args.station.now) (g.D.Post.history c.args.post.now) (g.R.Rng.stream c.args.chance.now)))

pub returns-in-Accuse : goal.returns-in-Accuse
returns-in-Accuse g c = rw c.in-Accuse.is (c.run_accuse.ensures (outside (g.I.Source.state c.args.input.now) (g.O.Sink.state c.args.out.now) (g.H.Shelf.state c.args.shelf.now) (g.S.Station.history c.args.station.now) (g.D.Post.history c.args.post.now) (g.R.Rng.stream c.args.chance.now)))

pub returns-in-Schedule : goal.returns-in-Schedule
returns-in-Schedule g c = rw c.in-Schedule.is (c.run_schedule.ensures (outside (g.I.Source.state c.args.input.now) (g.O.Sink.state c.args.out.now) (g.H.Shelf.state c.args.shelf.now) (g.S.Station.history c.args.station.now) (g.D.Post.history c.args.post.now) (g.R.Rng.stream c.args.chance.now)))

pub returns-in-Make : goal.returns-in-Make
returns-in-Make g c = rw c.in-Make.is (c.run_make.ensures (outside (g.I.Source.state c.args.input.now) (g.O.Sink.state c.args.out.now) (g.H.Shelf.state c.args.shelf.now) (g.S.Station.history c.args.station.now) (g.D.Post.history c.args.post.now) (g.R.Rng.stream c.args.chance.now)) (g.H.Shelf.state c.args.shelf.now))

pub returns-in-Peer : goal.returns-in-Peer
returns-in-Peer g c = rw c.in-Peer.is (c.run_peer.ensures (outside (g.I.Source.state c.args.input.now) (g.O.Sink.state c.args.out.now) (g.H.Shelf.state c.args.shelf.now) (g.S.Station.history c.args.station.now) (g.D.Post.history c.args.post.now) (g.R.Rng.stream c.args.chance.now)))

pub returns-in-Post : goal.returns-in-Post
returns-in-Post g c = rw c.in-Post.is (c.run_post.ensures (outside (g.I.Source.state c.args.input.now) (g.O.Sink.state c.args.out.now) (g.H.Shelf.state c.args.shelf.now) (g.S.Station.history c.args.station.now) (g.D.Post.history c.args.post.now) (g.R.Rng.stream c.args.chance.now)))

pub returns-in-Deposit : goal.returns-in-Deposit
returns-in-Deposit g c = rw c.in-Deposit.is (c.run_deposit.ensures (outside (g.I.Source.state c.args.input.now) (g.O.Sink.state c.args.out.now) (g.H.Shelf.state c.args.shelf.now) (g.S.Station.history c.args.station.now) (g.D.Post.history c.args.post.now) (g.R.Rng.stream c.args.chance.now)))

pub returns-in-Root : goal.returns-in-Root
returns-in-Root g c = rw c.in-Root.is (c.run_root.ensures (outside (g.I.Source.state c.args.input.now) (g.O.Sink.state c.args.out.now) (g.H.Shelf.state c.args.shelf.now) (g.S.Station.history c.args.station.now) (g.D.Post.history c.args.post.now) (g.R.Rng.stream c.args.chance.now)))

pub returns-in-Seal : goal.returns-in-Seal
returns-in-Seal g c = rw c.in-Seal.is (c.run_seal.ensures (outside (g.I.Source.state c.args.input.now) (g.O.Sink.state c.args.out.now) (g.H.Shelf.state c.args.shelf.now) (g.S.Station.history c.args.station.now) (g.D.Post.history c.args.post.now) (g.R.Rng.stream c.args.chance.now)))

pub returns-in-SealedJudge : goal.returns-in-SealedJudge
returns-in-SealedJudge g c = rw c.in-SealedJudge.is (c.run_sealed_judge.ensures (outside (g.I.Source.state c.args.input.now) (g.O.Sink.state c.args.out.now) (g.H.Shelf.state c.args.shelf.now) (g.S.Station.history c.args.station.now) (g.D.Post.history c.args.post.now) (g.R.Rng.stream c.args.chance.now)))

pub returns-in-Watch : goal.returns-in-Watch
returns-in-Watch g c = rw c.in-Watch.is (c.run_watch.ensures (outside (g.I.Source.state c.args.input.now) (g.O.Sink.state c.args.out.now) (g.H.Shelf.state c.args.shelf.now) (g.S.Station.history c.args.station.now) (g.D.Post.history c.args.post.now) (g.R.Rng.stream c.args.chance.now)))
