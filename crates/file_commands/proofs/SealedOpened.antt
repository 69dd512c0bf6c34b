-- SealedOpened: the files of a sealed case are read one after the other.
use Rattle.std.proofs.Common.{◌≡◌, ℕ, false, List, [], ◌∷◌, Option, refl, ap, sym, subst}
use Rattle.std.specs.Prelude.{Result, Ok, Err}
use Rattle.definitions.specs.World.{Game}
use Rattle.station.specs.Shelves.{ShelfState}
use Rattle.line_io.specs.Files.{Contents, behind_first, content}
use Rattle.sealed_evidence.specs.declared.sealed.SealedExhibit.{SealedExhibit}
use Rattle.run_frame.specs.Frame.{is_input_fault}
use Rattle.run_frame.specs.Opening.{IsDueFor, Opens}
use Rattle.run_frame.specs.Sessions.{IsDue, OpensSession, is_shelf_fault, session_in}
use Rattle.run_frame.specs.declared.statuses.Status.{Status}
use Rattle.run_frame.proofs.Opening.{reads_first, reads_then, refused_on, session_refused}
use Rattle.file_commands.specs.SealedCases.{MayReadEach, MayReadRoots, OpensSealedCase, ReadsAfterSession, SealedCase, after_evidence, after_session, evidence_then, roots_in, sealed_case_for, sealed_in, with_roots}
use Rattle.file_commands.specs.SealedWords.{SealedJudging}

-- whenever
abbrev Whenever : Contents → ℕ → Type 0
Whenever contents n = Unit {0}

-- ---- the exhibit and the roots, after the session

module _ (j : SealedJudging) (game : Game) (a b : ShelfState) where
  pub no_evidence : (status : Status) → Opens a b j.evidence (is_input_fault status) (λ content. IsDueFor (sealed_in game content) (Err status)) → ReadsAfterSession j game a b (Err status)
  no_evidence status o =
      reads_first a b j.evidence (j.roots ∷ []) _ (MayReadRoots game) (λ contents. IsDueFor (evidence_then game contents) (Err status)) _ o
      (λ contents. tt)
      (λ contents h. refused_on (λ x. after_evidence game x (behind_first contents)) (λ s. refl) (sealed_in game (content contents 0)) status h)

  module _ (c : ShelfState) (x : SealedExhibit) (o : Opens a b j.evidence false (λ content. sealed_in game content ≡ Ok x)) where
    roots_read : (roots : Result (List (List ℕ)) Status) (case : Result SealedCase Status) → Opens b c j.roots (is_shelf_fault case) (λ content. IsDueFor (roots_in game content) roots) →
        ((due : Result (List (List ℕ)) Status) → IsDueFor due roots → IsDueFor (with_roots game x due) case) → ReadsAfterSession j game a c case
    roots_read roots case r due =
        reads_then a b j.evidence (j.roots ∷ []) _ (MayReadRoots game) (λ contents. IsDueFor (evidence_then game contents) case) c (is_shelf_fault case)
        Whenever (λ contents. IsDueFor (roots_in game (content contents 0)) roots) o
        (reads_first b c j.roots [] _ Whenever (λ contents. IsDueFor (roots_in game (content contents 0)) roots) _ r (λ contents. tt) (λ contents h. h))
        (λ contents. tt) (λ contents h n w. (x, h))
        (λ contents h d. subst (λ (e : Result SealedExhibit Status). IsDueFor (after_evidence game e (behind_first contents)) case) (sym h) (due _ d))

    pub no_roots : (status : Status) → Opens b c j.roots (is_input_fault status) (λ content. IsDueFor (roots_in game content) (Err status)) → ReadsAfterSession j game a c (Err status)
    no_roots status r = roots_read (Err status) (Err status) r (λ due h. refused_on (with_roots game x) (λ s. refl) due status h)

    pub some_roots : (roots : List (List ℕ)) → Opens b c j.roots false (λ content. IsDueFor (roots_in game content) (Ok roots)) →
        ReadsAfterSession j game a c (Ok (record { game = game; sealed = x; roots = roots }))
    some_roots roots r = roots_read (Ok roots) (Ok (record { game = game; sealed = x; roots = roots })) r (λ due h. ap (with_roots game x) h)

-- ---- the session, and then the rest

module _ (j : SealedJudging) (a b : ShelfState) where
  pub no_session : (status : Status) → OpensSession a b j.session (Err status) → OpensSealedCase j a b (Err status)
  no_session status o =
      reads_first a b j.session (j.evidence ∷ j.roots ∷ []) (λ content. IsDue (session_in content) (Err status)) MayReadEach (λ contents. IsDueFor (sealed_case_for contents) (Err status)) _
      (record { fetched = o.fetched; due = o.due })
      (λ contents. tt)
      (λ contents h. refused_on (λ g. after_session g (behind_first contents)) (λ s. refl) (session_in (content contents 0)) status (session_refused _ status h))

  pub a_session : (c : ShelfState) (game : Game) (case : Result SealedCase Status) → OpensSession a b j.session (Ok game) → ReadsAfterSession j game b c case → OpensSealedCase j a c case
  a_session c game case o rest =
      reads_then a b j.session (j.evidence ∷ j.roots ∷ []) (λ content. session_in content ≡ Ok game) MayReadEach (λ contents. IsDueFor (sealed_case_for contents) case) c (is_shelf_fault case)
      (MayReadRoots game) (λ contents. IsDueFor (evidence_then game contents) case) (record { fetched = o.fetched; due = o.due }) rest
      (λ contents. tt) (λ contents h n w. (game, h, w))
      (λ contents h due. subst (λ (g : Result Game Status). IsDueFor (after_session g (behind_first contents)) case) (sym h) due)
