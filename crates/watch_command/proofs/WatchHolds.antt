-- WatchHolds: the law of `watch`: each status has its cause, and what is good comes to its end.
use Rattle.std.proofs.Common.{◌≡◌, ◌⊎◌, inl, inr, true, List, [], ◌∷◌, refl, ap, sym, subst}
use Rattle.std.specs.Prelude.{Result, Ok, Err}
use Rattle.definitions.specs.World.{Game, players_of}
use Rattle.definitions.specs.declared.findings.Finding.{Finding}
use Rattle.definitions.specs.Findings.{findings}
use Rattle.grid_world.specs.declared.fault.SessionFault.{SessionFault}
use Rattle.grid_world.specs.declared.fault.SessionFault.TheVariants as session
use Rattle.grid_world.specs.Reading.{game_at}
use Rattle.text_fields.specs.declared.fault.TextFault.{TextFault}
use Rattle.text_fields.specs.declared.fault.TextFault.TheVariants as text
use Rattle.rosters.specs.declared.limits.TheConstants.{ROSTER_FRONT}
use Rattle.rosters.specs.Rosters.{Neighbours}
use Rattle.rosters.specs.WatchText.{watch_roster_at}
use Rattle.station.specs.Outside.{Rose}
use Rattle.station.specs.Sinks.{SinkState}
use Rattle.line_io.specs.Files.{Contents, behind_first, content}
use Rattle.line_io.specs.Inputs.{Input}
use Rattle.line_io.proofs.Unread.{none_at}
use Rattle.socket_station.specs.Faults.{is_poll_call}
use Rattle.log_streams.specs.Streams.{Stream, lists_of}
use Rattle.watch_rules.specs.After.{view_of}
use Rattle.watch_rules.specs.Views.{Setting}
use Rattle.watch_rules.proofs.Given.{given_is_one_want}
use Rattle.watch_rules.proofs.Prefixes.{polls_are_licensed}
use Rattle.live_logger.specs.States.{setting_for}
use Rattle.run_frame.specs.FailedCalls.{FailsNone}
use Rattle.run_frame.specs.Faults.{read_by}
use Rattle.run_frame.specs.Frame.{Answer, Ran}
use Rattle.run_frame.specs.Law.{HasCause}
use Rattle.run_frame.specs.Opening.{front_in}
use Rattle.run_frame.specs.Outside.{Outside}
use Rattle.run_frame.specs.Sessions.{ended_by, front_of}
use Rattle.run_frame.specs.declared.statuses.Status.{Status}
use Rattle.run_frame.specs.declared.statuses.Status.TheVariants.{Done, Caught, GaveUp, NoMemory, InputFault, OutputFault, BadSession, BadLine}
use Rattle.run_frame.specs.declared.statuses.TextName.TheVariants.{Roster}
use Rattle.run_frame.proofs.Working.{Holds}
use Rattle.file_commands.specs.Audit.{status_by}
use Rattle.file_commands.proofs.Told.{different_told}
use Rattle.watch_command.specs.declared.watching.Watched.{Watched}
use Rattle.watch_command.specs.declared.watching.Watched.TheVariants as W
use Rattle.watch_command.specs.Opened.{Source, after_session, links_in, source_for, source_names, with_links}
use Rattle.watch_command.specs.WatchLaw.{unwatched_answer, watch_law}
use Rattle.watch_command.specs.Watches.{StandsWatched, WatchesLogs, spent_status, watch_answer}
use Rattle.watch_command.specs.Words.{Watching}

-- ---- by what files are refused

-- There is one, or one of these refuses it.
abbrev IsReadOrRefused : {T : Type 0} → Result T Status → Type 0
IsReadOrRefused (Ok x) = Unit {0}
IsReadOrRefused (Err NoMemory) = Unit {0}
IsReadOrRefused (Err (BadSession line what)) = Unit {0}
IsReadOrRefused (Err (BadLine text line)) = Unit {0}
IsReadOrRefused (Err status) = ⊥

of_session : (r : Result Game SessionFault) → IsReadOrRefused (ended_by r)
of_session (Ok game) = tt
of_session (Err session.Memory) = tt
of_session (Err (session.At line what)) = tt

of_links : (r : Result Neighbours TextFault) → IsReadOrRefused (read_by Roster r)
of_links (Ok links) = tt
of_links (Err text.Memory) = tt
of_links (Err (text.At line)) = tt

by_links : (game : Game) (r : Result Neighbours Status) → IsReadOrRefused r →
    IsReadOrRefused (with_links game r)
by_links game (Ok links) h = tt
by_links game (Err status) h = h

by_session : (r : Result Game Status) (contents : Contents) → IsReadOrRefused r →
    IsReadOrRefused (after_session r contents)
by_session (Err status) contents h = h
by_session (Ok game) contents h =
    let links = watch_roster_at (players_of game) (front_in ROSTER_FRONT (content contents 0)) in
    by_links game (links_in game (content contents 0)) (of_links links)

refused : (contents : Contents) → IsReadOrRefused (source_for contents)
refused contents =
    let session = game_at (front_of (content contents 0)) in
    by_session (ended_by session) (behind_first contents) (of_session session)

-- ---- each status has its cause

-- how a run ends by its findings
by_findings : (P : Status → Type 0) (fs : List Finding) → P Done → P Caught → P (status_by fs)
by_findings P [] d c = d
by_findings P (f ∷ fs) d c = c

module _ (game : Game) (streams : List Stream) (P : Status → Type 0) (d : P Done) (c : P Caught)
    (g : P GaveUp) where
  -- P of each status with which it may end whose last call did not fail
  agreed_so : P (watch_answer game streams W.Agreed).status
  agreed_so = by_findings P (findings game (lists_of game streams)) d c

  spent_so : P (watch_answer game streams W.Spent).status
  spent_so = by_findings (λ s. P (spent_status s)) (findings game (lists_of game streams)) g c

module _ (w : Watching) (contents : Contents) (input : Input) where
  abbrev Caused : Status → Type 0
  Caused s = HasCause (watch_law w) contents input s

  unwatched : (due : Result Source Status) → source_for contents ≡ due → IsReadOrRefused due →
      Caused (unwatched_answer due).status
  unwatched (Ok source) e h = tt
  unwatched (Err NoMemory) e h = tt
  unwatched (Err (BadSession line what)) e h = e
  unwatched (Err (BadLine text line)) e h = e
  unwatched (Err status) e h = absurd h

  of_result : (source : Source) → source_for contents ≡ Ok source → (streams : List Stream)
      (result : Watched) →
      Caused (watch_answer source.game streams result).status
  of_result source e streams W.Agreed =
      agreed_so source.game streams Caused (source, e) (source, e) (source, e)
  of_result source e streams W.Spent =
      spent_so source.game streams Caused (source, e) (source, e) (source, e)
  of_result source e streams W.PollFault = (source, e)
  of_result source e streams W.NoMemory = tt

  of_ran : (a b : SinkState) (due : Answer) (s : Status) → Caused due.status →
      Ran a b due true ⊥ ⊥ s → Caused s
  of_ran a b due NoMemory h r = tt
  of_ran a b due InputFault h r = tt
  of_ran a b due OutputFault h r = tt
  of_ran a b due s h r = subst Caused (sym r.1) h

  played : (before after : Outside) (s : Status) →
      WatchesLogs w (source_for contents) before after s → Caused s
  played before after s x =
      of_ran before.output after.output _ s (of_result x.source x.due_is _ x.result) x.written

-- ---- what is good comes to its end

abbrev Ends : Status → Type 0
Ends s = (s ≡ Done) ⊎ ((s ≡ Caught) ⊎ ((s ≡ GaveUp) ⊎ (s ≡ NoMemory)))

-- where the output didn't fail, as is due, unless memory was wanting
ended_so : (a b : SinkState) (due : Answer) (s : Status) → ¬ Rose a.faults b.faults →
    Ends due.status → Ran a b due true ⊥ ⊥ s → Ends s
ended_so a b due NoMemory none e r = inr (inr (inr refl))
ended_so a b due InputFault none e (inl r) = absurd r.0
ended_so a b due InputFault none e (inr r) = absurd r.0
ended_so a b due OutputFault none e r = absurd (none r.rose)
ended_so a b due s none e r = subst Ends (sym r.1) e

comes : (w : Watching) (due : Result Source Status) (before after : Outside) (s : Status) →
    WatchesLogs w due before after s → FailsNone is_poll_call after.station →
    ¬ Rose before.output.faults after.output.faults → Ends s
comes w due before after s x calls output =
    ended_so before.output after.output _ s output (go x.result x.stands) x.written
  where
    by : Setting
    by = setting_for x.source.game x.source.roster

    go : (result : Watched) → StandsWatched by w.polls result after.station x.last →
        Ends (watch_answer x.source.game (view_of by after.station).streams result).status
    go W.Agreed h =
        agreed_so x.source.game _ Ends (inl refl) (inr (inl refl)) (inr (inr (inl refl)))
    go W.Spent h =
        spent_so x.source.game _ Ends (inl refl) (inr (inl refl)) (inr (inr (inl refl)))
    go W.PollFault h = let b = h.failed in absurd (calls b.0 [] b.1 b.2 b.3)
    go W.NoMemory h = inr (inr (inr refl))

-- ---- all of it

pub watch_holds : (w : Watching) → Holds (watch_law w)
watch_holds w = record {
  caused = λ contents input ends.
      unwatched w contents input (source_for contents) refl (refused contents);
  done = λ contents input answered ends good.
      inr (ap (λ (r : Result Source Status). (unwatched_answer r).status) good.due_is);
  meant = λ contents input. record {
    given = given_is_one_want;
    licensed = polls_are_licensed;
    faces = different_told;
  };
  unread = λ shelf contents h k. inl (none_at (source_names w) k);
  unasked = λ shelf. refl;
  unremembered = λ ended. tt;
  cut = λ ended. tt;
  played_cause = played w;
  played_done = λ contents input before after s x good files output.
      comes w (source_for contents) before after s x good.calls output;
}
