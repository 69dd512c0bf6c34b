-- SeatHolds: the law of a command by which a player plays: each status that is told where nothing is played has its cause.
use Rattle.std.proofs.Common.{◌≡◌, ◌⊎◌, inl, inr, refl, ap}
use Rattle.std.specs.Prelude.{Result}
use Rattle.station.specs.Outside.{Rose}
use Rattle.line_io.specs.Files.{Contents}
use Rattle.line_io.specs.Inputs.{Input}
use Rattle.line_io.proofs.Unread.{none_at}
use Rattle.run_frame.specs.Law.{HasCause, Law}
use Rattle.run_frame.specs.Opening.{Found}
use Rattle.run_frame.specs.Outside.{Answered, Outside, answered_by}
use Rattle.run_frame.specs.declared.statuses.Status.{Status}
use Rattle.run_frame.specs.declared.statuses.Status.TheVariants.{Done, GaveUp}
use Rattle.run_frame.proofs.Working.{Holds}
use Rattle.seat_files.specs.SeatLaw.{seat_law}
use Rattle.seat_files.specs.Seats.{Seating, seat_names, start_for}
use Rattle.seat_files.specs.Unplayed.{unplayed_answer}
use Rattle.seat_files.specs.Words.{Peering}
use Rattle.seat_files.proofs.Refused.{refused, unplayed}

module _ (p : Peering) (plays : Result Seating Status → (before after : Outside) → Status → Type 0) (good : Result Seating Status → Answered → Type 0) (meant : Type 0) where
  abbrev law : Law
  law = seat_law p plays good meant

  -- the law holds, where a run that played has its cause, and one that is good comes to its end
  pub seat_holds : meant → ((due : Result Seating Status) (answered : Answered) → good due answered → Found due) →
      ((contents : Contents) (input : Input) (before after : Outside) (s : Status) → plays (start_for p contents) before after s → HasCause law contents input s) →
      ((due : Result Seating Status) (before after : Outside) (s : Status) → plays due before after s → good due (answered_by after) → ¬ Rose before.output.faults after.output.faults → (s ≡ Done) ⊎ (s ≡ GaveUp)) →
      Holds law
  seat_holds behind found caused comes = record {
    caused = λ contents input ends. unplayed law contents input (start_for p contents) (λ s c. c) (refused p contents);
    done = λ contents input answered ends g. inr (ap (λ (r : Result Seating Status). (unplayed_answer r).status) (found (start_for p contents) answered g).1);
    meant = λ contents input. behind;
    unread = λ shelf contents h k. inl (none_at (seat_names p) k);
    unasked = λ shelf. refl;
    unremembered = λ ended. tt;
    cut = λ ended. tt;
    played_cause = caused;
    played_done = λ contents input before after s d g files written. comes (start_for p contents) before after s d g written;
  }
