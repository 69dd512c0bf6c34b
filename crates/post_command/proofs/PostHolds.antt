-- PostHolds: the law of the command to play over datagrams: each status has its cause, and what is good comes to
-- its end.
use Rattle.line_io.specs.Files.{Contents}
use Rattle.line_io.specs.Inputs.{Input}
use Rattle.run_frame.specs.Law.{HasCause}
use Rattle.run_frame.specs.Opening.{Found}
use Rattle.run_frame.specs.Outside.{Outside}
use Rattle.run_frame.specs.declared.statuses.Status.{Status}
use Rattle.run_frame.proofs.Working.{Holds}
use Rattle.match_ends.proofs.Ended.{ended_cause, of_each}
use Rattle.post_command.specs.PostLaw.{IsGoodPost, PlaysOverDatagrams, post_law}
use Rattle.seat_files.specs.Seats.{start_for}
use Rattle.seat_files.specs.Words.{Peering}
use Rattle.seat_files.proofs.SeatHolds.{seat_holds}
use Rattle.post_command.proofs.Completing.{comes}

-- a run that played ended by a status that has its cause: there was something to play by
played : (p : Peering) (contents : Contents) (input : Input) (before after : Outside) (s : Status) → PlaysOverDatagrams p (start_for p contents) before after s → HasCause (post_law p) contents input s
played p contents input before after s d =
    let found : Found (start_for p contents) = (d.seating, d.due_is) in
    ended_cause before.output after.output _ _ d.plays.ended _ _ (post_law p) contents input
    (of_each (HasCause (post_law p) contents input) found found found found (λ turn fault. found) found d.plays.ended) s d.plays.written

pub post_holds : (p : Peering) → Holds (post_law p)
post_holds p = seat_holds p (λ due before after status. PlaysOverDatagrams p due before after status) (λ due answered. IsGoodPost p due answered.post) (Unit {0})
    tt
    (λ due answered good. (good.seating, good.due_is))
    (played p)
    (λ due before after s d good written. comes p due before after s good written d)
