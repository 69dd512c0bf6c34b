-- MakeHolds: the law of the command to make a match: it comes to its end, and how.
use Rattle.std.proofs.Common.{ℕ, inl, refl}
use Rattle.run_frame.proofs.Working.{Holds}
use Rattle.make_command.specs.MakeLaw.{make_law}
use Rattle.make_command.proofs.Ending.{ends_fairly}

pub make_holds : (number : ℕ) → Holds (make_law number)
make_holds number = record {
  caused = λ contents input ends. tt;
  done = λ contents input answered ends good. inl refl;
  meant = λ contents input. ends_fairly number;
  unread = λ shelf. refl;
  unasked = λ shelf. refl;
  unremembered = λ ended. tt;
  cut = λ ended. tt;
  played_cause = λ contents input before after s p. absurd p;
  played_done = λ contents input before after s p good written. absurd p;
}
