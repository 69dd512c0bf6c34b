-- Sourced: what a log is deposited by, read from the files.
use Rattle.std.proofs.Common.{◌≡◌, ◌<◌, ℕ, Bool, true, false, List, [], ◌∷◌, Option, refl, ap, sym, ◌∙◌, subst, nat_lt, if◌then◌else◌}
use Rattle.std.specs.Prelude.{Result, Ok, Err}
use Rattle.definitions.specs.World.{Game, players_of}
use Rattle.rosters.specs.declared.logger.Logger.{Logger}
use Rattle.station.specs.Shelves.{ShelfState}
use Rattle.line_io.specs.Files.{Contents, behind_first, content}
use Rattle.run_frame.specs.Frame.{is_input_fault}
use Rattle.run_frame.specs.Opening.{IsDueFor, Opens}
use Rattle.run_frame.specs.Sessions.{IsDue, OpensSession, is_shelf_fault, session_in}
use Rattle.run_frame.specs.declared.statuses.Status.{Status}
use Rattle.run_frame.specs.declared.statuses.Status.TheVariants.{Usage}
use Rattle.run_frame.proofs.Opening.{reads_first, reads_then, refused_on, session_refused}
use Rattle.deposit_command.specs.declared.opening.DepositSource.{DepositSource}
use Rattle.deposit_command.specs.Opened.{IsSourceDue, MayReadRoster, OpensSource, Source, after_player, after_session, logger_in, source_for, with_logger}
use Rattle.deposit_command.specs.Words.{Depositing}

-- whenever
abbrev Whenever : Contents → ℕ → Type 0
Whenever contents k = Unit {0}

-- what is read of a session's file is so of what was opened there
opened : (a b : ShelfState) (name : List ℕ) (r : Result Game Status)
    (P : Option (List ℕ) → Type 0) → OpensSession a b name r →
    ((content : Option (List ℕ)) → IsDue (session_in content) r → P content) →
    Opens a b name (is_shelf_fault r) P
opened a b name r P o so = record {
  fetched = o.fetched;
  due = λ content h. so content (o.due content h);
}

module _ (d : Depositing) (a b : ShelfState) where
  -- what is due by the files
  abbrev Due : Result DepositSource Status → Contents → Type 0
  Due source contents = IsSourceDue d (source_for d contents) source

  pub no_session : (status : Status) → OpensSession a b d.session (Err status) →
      OpensSource d a b (Err status)
  no_session status o =
      reads_first a b d.session (d.roster ∷ []) _ (MayReadRoster d) (Due (Err status)) _
      (opened a b d.session (Err status) _ o
      (λ content h. session_refused (session_in content) status h))
      (λ contents. tt)
      (λ contents h. refused_on (λ g. after_session d.player g (behind_first contents))
      (λ s. refl) _ status h)

  module _ (game : Game) (o : OpensSession a b d.session (Ok game)) where
    session_opened : Opens a b d.session false (λ content. session_in content ≡ Ok game)
    session_opened = opened a b d.session (Ok game) _ o (λ content h. h)

    -- what is due by the files, by whether the player is one of the session
    by_player : (is_one : Bool) → nat_lt d.player (players_of game) ≡ is_one →
        (contents : Contents) → session_in (content contents 0) ≡ Ok game →
        source_for d contents ≡
        after_player (if is_one then Ok game else Err Usage) (behind_first contents)
    by_player is_one e contents h =
        let files : Contents = behind_first contents in
        ap (λ (g : Result Game Status). after_session d.player g files) h
        ∙ ap (λ (t : Bool). after_player (if t then Ok game else Err Usage) files) e

    pub no_player : nat_lt d.player (players_of game) ≡ false → OpensSource d a b (Err Usage)
    no_player out =
        reads_first a b d.session (d.roster ∷ []) _ (MayReadRoster d) (Due (Err Usage)) false
        session_opened (λ contents. tt) (λ contents h. by_player false out contents h)

    module _ (c : ShelfState) (one : nat_lt d.player (players_of game) ≡ true)
        (less : d.player < players_of game) where
      -- what was read of the roster
      abbrev Reads : Result Logger Status → Option (List ℕ) → Type 0
      Reads logger content = IsDueFor (logger_in content) logger

      logger_read : (logger : Result Logger Status) (source : Result DepositSource Status) →
          Opens b c d.roster (is_shelf_fault source) (Reads logger) →
          ((due : Result Logger Status) → IsDueFor due logger →
          IsSourceDue d (with_logger game due) source) →
          OpensSource d a c source
      logger_read logger source x due =
          let P : Contents → Type 0 = λ contents. Reads logger (content contents 0) in
          reads_then a b d.session (d.roster ∷ []) _ (MayReadRoster d) (Due source) c
          (is_shelf_fault source)
          Whenever P session_opened
          (reads_first b c d.roster [] _ Whenever P _ x (λ contents. tt) (λ contents h. h))
          (λ contents. tt) (λ contents h k w. (game, h, less))
          (λ contents h w. subst (λ (r : Result Source Status). IsSourceDue d r source)
          (sym (by_player true one contents h)) (due _ w))

      pub no_logger : (status : Status) →
          Opens b c d.roster (is_input_fault status) (Reads (Err status)) → OpensSource d a c (Err status)
      no_logger status x =
          logger_read (Err status) (Err status) x
          (λ due h. refused_on (with_logger game) (λ s. refl) due status h)

      pub a_logger : (logger : Logger) → Opens b c d.roster false (Reads (Ok logger)) →
          OpensSource d a c (Ok (record { session = game; logger = logger }))
      a_logger logger x =
          logger_read (Ok logger) (Ok (record { session = game; logger = logger })) x
          (λ due h. record { due_is = ap (with_logger game) h; seated = less })
