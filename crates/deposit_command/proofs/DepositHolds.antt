-- DepositHolds: the law of `deposit`: each status has its cause, and what is good comes to its end.
use Rattle.std.proofs.Common.{◌≡◌, ◌⊎◌, inl, inr, ℕ, Bool, true, false, [], nat_lt, if◌then◌else◌, refl, ap, sym, ◌∙◌, subst}
use Rattle.std.specs.Prelude.{Result, Ok, Err}
use Rattle.definitions.specs.World.{Game, players_of}
use Rattle.grid_world.specs.declared.fault.SessionFault.{SessionFault}
use Rattle.grid_world.specs.declared.fault.SessionFault.TheVariants as session
use Rattle.grid_world.specs.Reading.{game_at}
use Rattle.text_fields.specs.declared.fault.TextFault.{TextFault}
use Rattle.text_fields.specs.declared.fault.TextFault.TheVariants as text
use Rattle.rosters.specs.declared.limits.TheConstants.{ROSTER_FRONT}
use Rattle.rosters.specs.declared.logger.Logger.{Logger}
use Rattle.rosters.specs.LoggerText.{logger_at}
use Rattle.station.specs.Outside.{Rose, faults_behind, one_more}
use Rattle.station.specs.Sinks.{SinkState}
use Rattle.line_io.specs.Files.{Contents, behind_first, content}
use Rattle.line_io.specs.Inputs.{Input}
use Rattle.line_io.proofs.Unread.{none_at}
use Rattle.socket_station.specs.Faults.{is_poll_call}
use Rattle.socket_station.specs.Items.{PollCall}
use Rattle.run_frame.specs.FailedCalls.{FailsNone}
use Rattle.run_frame.specs.Faults.{read_by}
use Rattle.run_frame.specs.Frame.{Answer, Ends}
use Rattle.run_frame.specs.Law.{HasCause}
use Rattle.run_frame.specs.Opening.{front_in}
use Rattle.run_frame.specs.Outside.{Outside}
use Rattle.run_frame.specs.Sessions.{ended_by, front_of}
use Rattle.run_frame.specs.declared.statuses.Status.{Status}
use Rattle.run_frame.specs.declared.statuses.Status.TheVariants.{Done, GaveUp, NoMemory, InputFault, OutputFault, Usage, BadSession, BadLine}
use Rattle.run_frame.specs.declared.statuses.TextName.TheVariants.{Roster}
use Rattle.run_frame.proofs.Working.{Holds}
use Rattle.deposit_rules.proofs.Given.{given_is_hello_and_log}
use Rattle.deposit_rules.proofs.Prefixes.{polls_are_licensed}
use Rattle.live_deposit.specs.declared.deposit.Deposited.{Deposited}
use Rattle.live_deposit.specs.declared.deposit.Deposited.TheVariants as D
use Rattle.live_deposit.specs.Sending.{LastPollFailed, is_shelf_fault}
use Rattle.live_deposit.proofs.Asking.{asks_none}
use Rattle.deposit_command.specs.DepositLaw.{deposit_law, undeposited_answer}
use Rattle.deposit_command.specs.Deposits.{DepositsLog, deposit_answer}
use Rattle.deposit_command.specs.Opened.{Source, after_player, after_session, logger_in, source_for, source_names, with_logger}
use Rattle.deposit_command.specs.Words.{Depositing}

-- ---- by what files are refused

-- There is one, or one of these refuses it.
abbrev IsReadOrRefused : {T : Type 0} → Result T Status → Type 0
IsReadOrRefused (Ok x) = Unit {0}
IsReadOrRefused (Err NoMemory) = Unit {0}
IsReadOrRefused (Err Usage) = Unit {0}
IsReadOrRefused (Err (BadSession line what)) = Unit {0}
IsReadOrRefused (Err (BadLine text line)) = Unit {0}
IsReadOrRefused (Err status) = ⊥

of_session : (r : Result Game SessionFault) → IsReadOrRefused (ended_by r)
of_session (Ok game) = tt
of_session (Err session.Memory) = tt
of_session (Err (session.At line what)) = tt

of_logger : (r : Result Logger TextFault) → IsReadOrRefused (read_by Roster r)
of_logger (Ok logger) = tt
of_logger (Err text.Memory) = tt
of_logger (Err (text.At line)) = tt

by_logger : (game : Game) (r : Result Logger Status) → IsReadOrRefused r →
    IsReadOrRefused (with_logger game r)
by_logger game (Ok logger) h = tt
by_logger game (Err status) h = h

by_player : (game : Game) (is_one : Bool) (contents : Contents) →
    IsReadOrRefused (after_player (if is_one then Ok game else Err Usage) contents)
by_player game false contents = tt
by_player game true contents =
    let logger = logger_at (front_in ROSTER_FRONT (content contents 0)) in
    by_logger game (logger_in (content contents 0)) (of_logger logger)

by_session : (player : ℕ) (r : Result Game Status) (contents : Contents) → IsReadOrRefused r →
    IsReadOrRefused (after_session player r contents)
by_session player (Err status) contents h = h
by_session player (Ok game) contents h = by_player game (nat_lt player (players_of game)) contents

refused : (d : Depositing) (contents : Contents) → IsReadOrRefused (source_for d contents)
refused d contents =
    let session = game_at (front_of (content contents 0)) in
    by_session d.player (ended_by session) (behind_first contents) (of_session session)

-- ---- each status has its cause

module _ (d : Depositing) (contents : Contents) (input : Input) where
  abbrev Caused : Status → Type 0
  Caused s = HasCause (deposit_law d) contents input s

  undeposited : (due : Result Source Status) → source_for d contents ≡ due → IsReadOrRefused due →
      Caused (undeposited_answer due).status
  undeposited (Ok source) e h = tt
  undeposited (Err NoMemory) e h = tt
  undeposited (Err Usage) e h = e
  undeposited (Err (BadSession line what)) e h = e
  undeposited (Err (BadLine text line)) e h = e
  undeposited (Err status) e h = absurd h

  of_result : (source : Source) → source_for d contents ≡ Ok source → (result : Deposited) →
      Caused (deposit_answer d.polls result).status
  of_result source e D.Sent = (source, e)
  of_result source e D.GaveUp = (source, e)
  of_result source e D.PollFault = (source, e)
  of_result source e D.ShelfFault = tt

  of_end : (a b : SinkState) (due : Answer) (s : Status) → Caused due.status →
      Ends a b due s → Caused s
  of_end a b due NoMemory h w = tt
  of_end a b due InputFault h w = tt
  of_end a b due OutputFault h w = tt
  of_end a b due s h w = subst Caused (sym w.1) h

  played : (before after : Outside) (s : Status) →
      DepositsLog d (source_for d contents) before after s → Caused s
  played before after s x =
      of_end before.output after.output (deposit_answer d.polls x.result) s
      (of_result x.source x.due_is x.result) x.written

-- ---- what is good comes to its end

-- where the output didn't fail, as is due
ended_so : (a b : SinkState) (due : Answer) (s : Status) → ¬ Rose a.faults b.faults →
    Ends a b due s → s ≡ due.status
ended_so a b due NoMemory none e = absurd e
ended_so a b due OutputFault none e = absurd (none e.rose)
ended_so a b due s none e = e.1

module _ (d : Depositing) (due : Result Source Status) (before after : Outside) (s : Status) where
  module _ (x : DepositsLog d due before after s) where
    told : ¬ Rose before.output.faults after.output.faults → (result : Deposited) →
        x.result ≡ result → s ≡ (deposit_answer d.polls result).status
    told none result e =
        ended_so before.output after.output (deposit_answer d.polls x.result) s none x.written
        ∙ ap (λ (r : Deposited). (deposit_answer d.polls r).status) e

    -- the shelf's fault would be counted
    no_shelf : ¬ Rose before.shelf.faults after.shelf.faults → x.result ≡ D.ShelfFault → ⊥
    no_shelf none e =
        let failed : is_shelf_fault x.result ≡ true = ap is_shelf_fault e in
        none (x.sends.asks.counted ∙ ap (λ (b : Bool). faults_behind b x.read.faults) failed
        ∙ ap one_more x.counted)

    -- and a poll that failed would stand in the history
    no_poll : FailsNone is_poll_call after.station → x.result ≡ D.PollFault → ⊥
    no_poll none e =
        let last : LastPollFailed x.sends.more = x.sends.failed e in
        none last.0 [] PollCall (x.sends.grew.grown ∙ last.1) refl

  comes : DepositsLog d due before after s → FailsNone is_poll_call after.station →
      ¬ Rose before.shelf.faults after.shelf.faults →
      ¬ Rose before.output.faults after.output.faults → (s ≡ Done) ⊎ (s ≡ GaveUp)
  comes x polls files output = go x.result refl
    where
      go : (result : Deposited) → x.result ≡ result → (s ≡ Done) ⊎ (s ≡ GaveUp)
      go D.Sent e = inl (told x output D.Sent e)
      go D.GaveUp e = inr (told x output D.GaveUp e)
      go D.PollFault e = absurd (no_poll x polls e)
      go D.ShelfFault e = absurd (no_shelf x files e)

-- ---- all of it

pub deposit_holds : (d : Depositing) → Holds (deposit_law d)
deposit_holds d = record {
  caused = λ contents input ends.
      undeposited d contents input (source_for d contents) refl (refused d contents);
  done = λ contents input answered ends good.
      inr (ap (λ (r : Result Source Status). (undeposited_answer r).status) good.due_is);
  meant = λ contents input. record {
    given = given_is_hello_and_log;
    licensed = polls_are_licensed;
  };
  unread = λ shelf contents h k. inl (none_at (source_names d) k);
  unasked = λ shelf. (false, asks_none d.log shelf);
  unremembered = λ ended. tt;
  cut = λ ended. tt;
  played_cause = played d;
  played_done = λ contents input before after s x good files output.
      comes d (source_for d contents) before after s x good.polls files output;
}
