-- SeatLaw: the law of a command by which a player plays by files, whatever carries its frames.
use Rattle.std.specs.Prelude.{◌≡◌, ◌⊎◌, ℕ, true, false, [], Result}
use Rattle.definitions.specs.Lists.{item_or}
use Rattle.line_io.specs.Files.{AreContents, Contents}
use Rattle.run_frame.specs.Law.{Law}
use Rattle.run_frame.specs.Outside.{Answered, Outside}
use Rattle.run_frame.specs.declared.statuses.Status.{Status}
use Rattle.run_frame.specs.declared.statuses.Status.TheVariants.{Done, GaveUp}
use Rattle.seat_files.specs.Seats.{MayReadRoster, Seating, seat_names, start_for}
use Rattle.seat_files.specs.Unplayed.{seat_cause, unplayed_answer}
use Rattle.seat_files.specs.Words.{Peering}

-- What it does where it plays, what is good, and what is behind it differ; the first two by what the files give to play by.
abbrev pub seat_law : Peering → (plays : Result Seating Status → (before after : Outside) → Status → Type 0) → (good : Result Seating Status → Answered → Type 0) → (meant : Type 0) → Law
seat_law p plays good meant = record {
  names = seat_names p;
  -- a file is read only where those before it have what is asked of them
  due = λ before after calls. (contents : Contents) → AreContents contents calls → (k : ℕ) → (item_or calls k [] ≡ []) ⊎ MayReadRoster p contents k;
  asks = λ before after. after ≡ before;
  answer = λ contents input. unplayed_answer (start_for p contents);
  plays = λ contents before after status. plays (start_for p contents) before after status;
  over = λ contents. Unit {0};
  through = λ status ended. Unit {0};
  memory = true;
  late = false;
  first = true;
  cause = λ contents input status. seat_cause (start_for p contents) status;
  good = λ contents input answered. good (start_for p contents) answered;
  -- all was played, or all polls were made
  ends = λ status. (status ≡ Done) ⊎ (status ≡ GaveUp);
  meant = λ contents input. meant;
}
