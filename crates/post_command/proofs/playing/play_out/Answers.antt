use Rattle.std.proofs.Common.{◌≤◌, subst}
use Rattle.definitions.specs.Honest.{IsHonest}
use Rattle.peer_core.specs.Views.{PeerState}
use Rattle.post_command.proofs.Played.{binds_not, granted, logs_not, plays_on}
use Rattle.post_command.proofs.playing.play_out.Goals as goal

abbrev IsAhead : PeerState → Type 0
IsAhead q = 1 ≤ q.game.ahead

abbrev HasHonest : PeerState → Type 0
HasHonest q = IsHonest q.game q.me q.entries

pub returns-in-KeepFault : goal.returns-in-KeepFault
returns-in-KeepFault g c =
    logs_not c.faults_are_last.ensures c.runs_are_whole.ensures.begun _ _ _ _ _ _ (subst IsAhead c.peer.ensures c.facts.ensures.session.ahead.0) c.requires.new
    (subst HasHonest c.peer-in-KeepFault.ensures c.facts-in-KeepFault.ensures.honest) c.in-KeepFault.ensures

pub returns-in-PollFault : goal.returns-in-PollFault
returns-in-PollFault g c =
    binds_not c.faults_are_last.ensures c.runs_are_whole.ensures.begun _ _ _ _ _ _ (subst IsAhead c.peer.ensures c.facts.ensures.session.ahead.0) c.requires.new
    (subst HasHonest c.peer-in-PollFault.ensures c.facts-in-PollFault.ensures.honest) c.in-PollFault.ensures

pub returns-in-Ready : goal.returns-in-Ready
returns-in-Ready g c =
    plays_on c.faults_are_last.ensures c.runs_are_whole.ensures.begun c.runs_are_whole.ensures.played _ _ _ _ _ _ _ _ _ _ (subst IsAhead c.peer.ensures c.facts.ensures.session.ahead.0) c.requires.new
    c.in-Ready.ensures (granted _ _ _ _ _ _ _ _ _ c.from.ensures c.play-ended.ensures) (subst HasHonest c.peer-in-Ready.ensures c.facts-in-Ready.ensures.honest)
