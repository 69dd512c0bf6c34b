-- Several: files are taken one behind the other.
use Rattle.std.proofs.Common.{◌≡◌, ℕ, ◌+◌, ◌<◌, List, [], ◌∷◌, ◌++◌, Option, None, Some, refl, sym, ◌∙◌, ap, subst, append-nil, append_assoc, length-append}
use Rattle.std.specs.Prelude.{option_map}
use Rattle.std.specs.Option.{option_or}
use Rattle.definitions.specs.declared.logs.Entry.{Entry}
use Rattle.definitions.specs.World.{Game}
use Rattle.frame_index.specs.declared.limits.TheConstants.{MOST_LOGS}
use Rattle.auditor.specs.Audits.{StandsFor, owner_in}
use Rattle.log_files.proofs.OneMore.{one_more_log}
use Rattle.sealed_files.specs.SealedFrames.{first_bad, sealed_in}
use Rattle.accuser.specs.declared.accusing.AccuseFault.{AccuseFault}
use Rattle.accuser.specs.declared.accusing.AccuseFault.TheVariants.{BadSeal, Memory}
use Rattle.accuser.specs.declared.taker.Taker.{Taker}
use Rattle.accuser.specs.Accused.{Accuses, IsFirstFault, IsFaultOf, all_sealed, entries_in, first_fault, logs_of, seal_of}
use Rattle.accuser.specs.Opened.{IsFileTaken}
use Rattle.accuser.specs.Taking.{AreTaken, IsFresh, Leaves}
use Rattle.accuser.specs.SealBooks.{Book, seal_in}
use Rattle.accuser.specs.SealedReports.{IsReportOn, SealedReported}
use Rattle.accuser.proofs.Noted.{both_kept, none_kept}

-- no file
pub none_taken : (game : Game) (roots : List (List ℕ)) (t : Taker) (number : ℕ) (files : List (List ℕ)) → files ≡ [] → AreTaken game roots t t number files
none_taken game roots t number files none = subst (AreTaken game roots t t number) (sym none) (record {
  sound = refl;
  stands = λ owners logs long stands. (
    [],
    subst (λ (os : List (Option ℕ)). StandsFor game os (logs ++ []) t.auditor) (sym (append-nil owners))
        (subst (λ (ls : List (List Entry)). StandsFor game owners ls t.auditor) (sym (append-nil logs)) stands),
  );
  kept = none_kept t.seals;
})

module _ (game : Game) (roots : List (List ℕ)) (number : ℕ) (bytes : List ℕ) (rest : List (List ℕ)) where
  pub bad_first : (f : AccuseFault) → IsFaultOf game roots number bytes f → IsFirstFault game roots number (bytes ∷ rest) f
  bad_first (BadSeal file at) (same, e) =
      ap (λ o. option_or (option_map (λ x. (number, x)) o) (first_fault game roots (number + 1) rest)) e ∙ ap (λ (n : ℕ). Some (n, at)) (sym same)
  bad_first Memory w = tt

  pub sound_first : first_bad game roots bytes ≡ None → first_fault game roots number (bytes ∷ rest) ≡ first_fault game roots (number + 1) rest
  sound_first e = ap (λ o. option_or (option_map (λ x. (number, x)) o) (first_fault game roots (number + 1) rest)) e

  pub bad_behind : (f : AccuseFault) → first_bad game roots bytes ≡ None → IsFirstFault game roots (number + 1) rest f → IsFirstFault game roots number (bytes ∷ rest) f
  bad_behind (BadSeal file at) sound w = sound_first sound ∙ w
  bad_behind Memory sound w = tt

  pub more_taken : (a b c : Taker) → number < MOST_LOGS → IsFileTaken game roots a b number bytes → Leaves game a b number → owner_in a.auditor number ≡ None →
      AreTaken game roots b c (number + 1) rest → AreTaken game roots a c number (bytes ∷ rest)
  more_taken a b c few is leaves unowned behind = record {
    sound = sound_first is.sound ∙ behind.sound;
    stands = λ owners logs long stands.
        let es : List Entry = entries_in game roots bytes in
        let none : Option ℕ = None in
        let one = one_more_log game owners logs a.auditor b.auditor number es none few long stands is.taken.taken (leaves.owner ∙ unowned) leaves.others in
        let all = behind.stands (owners ++ none ∷ []) (logs ++ es ∷ []) (length-append logs (es ∷ []) ∙ ap (λ n. n + 1) long) one in (
          none ∷ all.0,
          subst (λ (os : List (Option ℕ)). StandsFor game os (logs ++ logs_of game roots (bytes ∷ rest)) c.auditor) (append_assoc owners (none ∷ []) all.0)
              (subst (λ (ls : List (List Entry)). StandsFor game ((owners ++ none ∷ []) ++ all.0) ls c.auditor) (append_assoc logs (es ∷ []) (logs_of game roots rest)) all.1),
        );
    kept = both_kept a.seals b.seals c.seals (sealed_in game roots bytes) (all_sealed game roots rest) is.taken.kept behind.kept;
  }

-- the report on all files that a fresh taker took
pub accused : (game : Game) (roots files : List (List ℕ)) (t t' : Taker) (r : SealedReported) → IsFresh game t → AreTaken game roots t t' 0 files → IsReportOn t' r → Accuses game roots files r
accused game roots files t t' r fresh taken is =
    let stands = taken.stands [] [] refl fresh.stands in
    record {
      sound = taken.sound;
      found = is.found game stands.0 (logs_of game roots files) stands.1;
      exhibits = record {
        owners = stands.0;
        stands = subst (StandsFor game stands.0 (logs_of game roots files)) (sym is.audit) stands.1;
        seals = λ f. ap (λ (b : Book). seal_in b f) is.seals ∙ taken.kept f ∙ ap (λ (o : Option (List ℕ)). option_or o (seal_of game roots files f)) (fresh.unsealed f);
      };
    }
