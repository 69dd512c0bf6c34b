use Rattle.frame_index.proofs.Growing.{on_err, on_ok}
use Rattle.frame_index.proofs.Indexed.{refused_stands, taken_stands}
use Rattle.frame_index.proofs.frames.FrameIndex.take.Goals as goal

pub returns-clause-stands : goal.returns-clause-stands
returns-clause-stands c = on_ok c.take_frame.result (λ taken logs h there last w. taken_stands c.args.session.now logs h c.args.frame.now c.args.spot c.args.self.now c.take_frame.new.self there last taken w) c.take_frame.ensures.ok

pub returns-clause-err : goal.returns-clause-err
returns-clause-err c = on_err c.take_frame.result (λ refused game logs w. refused_stands game logs c.args.self.now c.take_frame.new.self refused w) c.take_frame.ensures.err
