use Rattle.ready_loop.proofs.Began.{begun_is_ready}
use Rattle.peer_command.proofs.Played.{listens_not, logs_not, on_from}
use Rattle.peer_command.proofs.playing.play_out.Goals as goal

pub returns-in-KeepFault : goal.returns-in-KeepFault
returns-in-KeepFault g c = logs_not c.faults_are_last.ensures c.beginnings_are_histories.ensures _ _ _ _ _ _ c.requires.new c.in-KeepFault.ensures c.facts.ensures.honest

pub returns-in-PollFault : goal.returns-in-PollFault
returns-in-PollFault g c = listens_not c.faults_are_last.ensures c.beginnings_are_histories.ensures _ _ _ _ _ _ c.requires.new c.in-PollFault.ensures c.facts-in-PollFault.ensures.honest

pub returns-in-Ready : goal.returns-in-Ready
returns-in-Ready g c = on_from c.faults_are_last.ensures c.runs_are_whole.ensures _ _ _ _ _ _ _ _ _ _ _ c.requires.new c.in-Ready.ensures c.from.ensures c.play-ended.ensures c.facts-in-Ready.ensures.honest

pub play-ended-requires : goal.play-ended-requires
play-ended-requires g c = record { ready = begun_is_ready _ _ _ _ c.in-Ready.ensures }
