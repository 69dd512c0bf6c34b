-- SealedHolds: the law of judging by roots: each status has its cause, what is good comes to its end, and what is
-- behind a verdict.
use Rattle.std.proofs.Common.{◌≡◌, inl, inr, ℕ, Bool, true, false, List, [], ◌∷◌, refl, ap, sym, subst, ◌∙◌}
use Rattle.std.specs.Prelude.{Result, Ok, Err, IsTrue, codes, ◌&&◌}
use Rattle.std.proofs.lemmas.Bool.{and_from, and_parts}
use Rattle.line_io.specs.Files.{Contents}
use Rattle.line_io.specs.Inputs.{Input}
use Rattle.line_io.proofs.Unread.{none_at}
use Rattle.sealed_evidence.specs.Judging.{are_sealed}
use Rattle.sealed_evidence.proofs.Transferred.{transferable}
use Rattle.definitions.specs.Exhibits.{shows}
use Rattle.run_frame.specs.Law.{HasCause}
use Rattle.run_frame.specs.declared.statuses.Status.{Status}
use Rattle.run_frame.specs.declared.statuses.Status.TheVariants.{InputFault, NoMemory, OutputFault}
use Rattle.run_frame.proofs.Working.{Holds}
use Rattle.file_commands.specs.Judge.{verdict_answer}
use Rattle.file_commands.specs.JudgeLaws.{SaysYes}
use Rattle.file_commands.specs.SealedCases.{SealedCase, sealed_case_for}
use Rattle.file_commands.specs.SealedJudge.{AreSealed, IsVerdict, SealedCause, TellsSealedVerdict, is_shown_sealed, sealed_answer}
use Rattle.file_commands.specs.SealedJudgeLaw.{sealed_judge_law}
use Rattle.file_commands.specs.SealedWords.{SealedJudging}
use Rattle.file_commands.proofs.SealedFrom.{IsOfTexts, of_texts}
use Rattle.file_commands.proofs.Verdicts.{not_shown, not_yes}

verdict_cause : (j : SealedJudging) (contents : Contents) (input : Input) (c : SealedCase) → sealed_case_for contents ≡ Ok c → (b : Bool) → is_shown_sealed c ≡ b →
    HasCause (sealed_judge_law j) contents input (verdict_answer b).status
verdict_cause j contents input c e true s = inr (c, e, s)
verdict_cause j contents input c e false s = inr (c, e, s)

caused_so : (j : SealedJudging) (contents : Contents) (input : Input) (r : Result SealedCase Status) → sealed_case_for contents ≡ r → HasCause (sealed_judge_law j) contents input (sealed_answer r).status
caused_so j contents input (Ok c) e = verdict_cause j contents input c e (is_shown_sealed c) refl
caused_so j contents input (Err NoMemory) e = tt
caused_so j contents input (Err InputFault) e = tt
caused_so j contents input (Err OutputFault) e = tt
caused_so j contents input (Err status) e = inl e

verdict_tells : (c : SealedCase) → IsOfTexts c → TellsSealedVerdict c (sealed_answer (Ok c)).body
verdict_tells c is = go (is_shown_sealed c) refl
  where
    shown : Bool
    shown = shows c.game c.sealed.exhibit.player c.sealed.exhibit.turn c.sealed.exhibit.kind c.sealed.exhibit.frames

    sealed : Bool
    sealed = are_sealed c.game c.roots c.sealed.exhibit.frames c.sealed.seals

    go : (b : Bool) → is_shown_sealed c ≡ b → TellsSealedVerdict c (verdict_answer b).body
    go true e = record {
      shows = λ said. (and_parts shown sealed e).0;
      sealed = λ said. (and_parts shown sealed e).1;
      told = λ s v. refl;
      transferable = λ said. transferable c.game c.roots c.sealed is.session is.fit e;
    }
    go false e = record {
      shows = λ said. absurd (not_yes said);
      sealed = λ said. absurd (not_yes said);
      told = λ s v. absurd (not_shown _ e (and_from shown sealed s v));
      transferable = λ said. absurd (not_yes said);
    }

pub sealed_holds : (j : SealedJudging) → Holds (sealed_judge_law j)
sealed_holds j = record {
  caused = λ contents input ends. caused_so j contents input (sealed_case_for contents) refl;
  done = λ contents input answered ends good.
      inl (ap (λ (r : Result SealedCase Status). (sealed_answer r).status) good.1 ∙ ap (λ (b : Bool). (verdict_answer b).status) good.2);
  meant = λ contents input c e. subst (λ (r : Result SealedCase Status). TellsSealedVerdict c (sealed_answer r).body) (sym e) (verdict_tells c (of_texts contents c e));
  unread = λ shelf contents h n. inl (none_at (j.session ∷ j.evidence ∷ j.roots ∷ []) n);
  unasked = λ shelf. refl;
  unremembered = λ ended. tt;
  cut = λ ended. tt;
  played_cause = λ contents input before after s p. absurd p;
  played_done = λ contents input before after s p good written. absurd p;
}
