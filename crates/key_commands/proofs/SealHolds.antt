-- SealHolds: the law of `seal`: each status has its cause, what is good comes to its end, and what is behind the bytes.
use Rattle.std.proofs.Common.{◌≡◌, inl, inr, [], ◌∷◌, refl, ap}
use Rattle.std.specs.Prelude.{Result, Ok, Err}
use Rattle.line_io.specs.Files.{Contents}
use Rattle.line_io.specs.Inputs.{Input}
use Rattle.line_io.proofs.Unread.{none_at}
use Rattle.run_frame.specs.Law.{HasCause}
use Rattle.run_frame.specs.declared.statuses.Status.{Status}
use Rattle.run_frame.specs.declared.statuses.Status.TheVariants.{InputFault, NoMemory, OutputFault}
use Rattle.run_frame.proofs.Working.{Holds}
use Rattle.key_commands.specs.Opened.{Sealed, sealed_for}
use Rattle.key_commands.specs.Seal.{seal_answer}
use Rattle.key_commands.specs.SealLaw.{seal_law}
use Rattle.key_commands.specs.Words.{Sealing}
use Rattle.key_commands.proofs.SealedFrom.{seals_told}

caused_so : (s : Sealing) (contents : Contents) (input : Input) (r : Result Sealed Status) → sealed_for s contents ≡ r → HasCause (seal_law s) contents input (seal_answer r).status
caused_so s contents input (Ok sealed) e = inr ((sealed, e), tt)
caused_so s contents input (Err NoMemory) e = tt
caused_so s contents input (Err InputFault) e = tt
caused_so s contents input (Err OutputFault) e = tt
caused_so s contents input (Err status) e = inl e

pub seal_holds : (s : Sealing) → Holds (seal_law s)
seal_holds s = record {
  caused = λ contents input ends. caused_so s contents input (sealed_for s contents) refl;
  done = λ contents input answered ends good. inl (ap (λ (r : Result Sealed Status). (seal_answer r).status) good.1);
  meant = λ contents input sealed e. seals_told s contents sealed e;
  unread = λ shelf contents h n. inl (none_at (s.keys.session ∷ s.keys.seed ∷ s.log ∷ []) n);
  unasked = λ shelf. refl;
  unremembered = λ ended. tt;
  cut = λ ended. tt;
  played_cause = λ contents input before after t p. absurd p;
  played_done = λ contents input before after t p good written. absurd p;
}
