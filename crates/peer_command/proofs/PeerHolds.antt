-- PeerHolds: the law of the command to play over sockets: each status has its cause, and what is good comes to
-- its end.
use Rattle.line_io.specs.Files.{Contents}
use Rattle.line_io.specs.Inputs.{Input}
use Rattle.run_frame.specs.Law.{HasCause}
use Rattle.run_frame.specs.Opening.{Found}
use Rattle.run_frame.specs.Outside.{Outside}
use Rattle.run_frame.specs.declared.statuses.Status.{Status}
use Rattle.run_frame.proofs.Working.{Holds}
use Rattle.match_ends.proofs.Ended.{ended_cause, of_each}
use Rattle.peer_command.specs.PeerLaw.{IsGoodMatch, IsLasting, PlaysOverSockets, peer_law}
use Rattle.seat_files.specs.Seats.{start_for}
use Rattle.seat_files.specs.Words.{Peering}
use Rattle.seat_files.proofs.SeatHolds.{seat_holds}
use Rattle.peer_command.proofs.Completing.{comes}
use Rattle.peer_command.proofs.Survived.{crashes_are_survived}
use Rattle.peer_command.proofs.Given.{nothing_is_given_unsynced}

-- a run that played ended by a status that has its cause: there was something to play by
played : (p : Peering) (contents : Contents) (input : Input) (before after : Outside) (s : Status) → PlaysOverSockets p (start_for p contents) before after s → HasCause (peer_law p) contents input s
played p contents input before after s d =
    let found : Found (start_for p contents) = (d.seating, d.due_is) in
    ended_cause before.output after.output _ _ d.plays.ended _ _ (peer_law p) contents input
    (of_each (HasCause (peer_law p) contents input) found found found found (λ turn fault. found) found d.plays.ended) s d.plays.written

pub peer_holds : (p : Peering) → Holds (peer_law p)
peer_holds p = seat_holds p (λ due before after status. PlaysOverSockets p due before after status) (λ due answered. IsGoodMatch p due answered.station) IsLasting
    (record { crashes = crashes_are_survived; unsynced = nothing_is_given_unsynced })
    (λ due answered good. (good.seating, good.due_is))
    (played p)
    (λ due before after s d good written. comes p due before after s good written d)
