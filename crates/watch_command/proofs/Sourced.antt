-- Sourced: what a logger goes by, read from the files.
use Rattle.std.proofs.Common.{◌≡◌, ℕ, false, List, [], ◌∷◌, Option, refl, sym, ap, subst}
use Rattle.std.specs.Prelude.{Result, Ok, Err}
use Rattle.definitions.specs.World.{Game}
use Rattle.rosters.specs.Rosters.{Neighbours}
use Rattle.station.specs.Shelves.{ShelfState}
use Rattle.line_io.specs.Files.{Contents, behind_first, content}
use Rattle.live_logger.specs.States.{LinksAll}
use Rattle.run_frame.specs.Frame.{is_input_fault}
use Rattle.run_frame.specs.Opening.{IsDueFor, Opens}
use Rattle.run_frame.specs.Sessions.{IsDue, OpensSession, is_shelf_fault, session_in}
use Rattle.run_frame.specs.declared.statuses.Status.{Status}
use Rattle.run_frame.proofs.Opening.{reads_first, reads_then, refused_on, session_refused}
use Rattle.run_frame.proofs.Working.{readings_fit, some_contents}
use Rattle.watch_command.specs.declared.opening.WatchSource.{WatchSource}
use Rattle.watch_command.specs.Opened.{IsSourceDue, MayReadRoster, OpensSource, Source, after_session, links_in, source_for, source_names, with_links}
use Rattle.watch_command.specs.Words.{Watching}

-- whenever
abbrev Whenever : Contents → ℕ → Type 0
Whenever contents k = Unit {0}

-- what is read of a session's file is so of what was opened there
opened : (a b : ShelfState) (name : List ℕ) (r : Result Game Status)
    (P : Option (List ℕ) → Type 0) → OpensSession a b name r →
    ((content : Option (List ℕ)) → IsDue (session_in content) r → P content) →
    Opens a b name (is_shelf_fault r) P
opened a b name r P o so = record {
  fetched = o.fetched;
  due = λ content h. so content (o.due content h);
}

module _ (w : Watching) (a b : ShelfState) where
  -- what is due by the files
  abbrev Due : Result WatchSource Status → Contents → Type 0
  Due source contents = IsSourceDue (source_for contents) source

  pub no_session : (status : Status) → OpensSession a b w.session (Err status) →
      OpensSource w a b (Err status)
  no_session status o =
      reads_first a b w.session (w.roster ∷ []) _ MayReadRoster (Due (Err status)) _
      (opened a b w.session (Err status) _ o
      (λ content h. session_refused (session_in content) status h))
      (λ contents. tt)
      (λ contents h. refused_on (λ g. after_session g (behind_first contents))
      (λ s. refl) _ status h)

  -- a source has a link to each player of its session
  pub source_links : (s : WatchSource) → OpensSource w a b (Ok s) → LinksAll s.session s.roster
  source_links s o =
      (o.due (some_contents o.calls)
      (readings_fit a.files (source_names w) o.calls o.reads.readings)).links

  module _ (game : Game) (o : OpensSession a b w.session (Ok game)) (c : ShelfState) where
    session_opened : Opens a b w.session false (λ content. session_in content ≡ Ok game)
    session_opened = opened a b w.session (Ok game) _ o (λ content h. h)

    -- what was read of the roster
    abbrev Reads : Result Neighbours Status → Option (List ℕ) → Type 0
    Reads links content = IsDueFor (links_in game content) links

    links_read : (links : Result Neighbours Status) (source : Result WatchSource Status) →
        Opens b c w.roster (is_shelf_fault source) (Reads links) →
        ((due : Result Neighbours Status) → IsDueFor due links →
        IsSourceDue (with_links game due) source) →
        OpensSource w a c source
    links_read links source x due =
        let P : Contents → Type 0 = λ contents. Reads links (content contents 0) in
        reads_then a b w.session (w.roster ∷ []) _ MayReadRoster (Due source) c
        (is_shelf_fault source)
        Whenever P session_opened
        (reads_first b c w.roster [] _ Whenever P _ x (λ contents. tt) (λ contents h. h))
        (λ contents. tt) (λ contents h k w. (game, h))
        (λ contents h w. subst (λ (r : Result Source Status). IsSourceDue r source)
        (sym (ap (λ (g : Result Game Status). after_session g (behind_first contents)) h))
        (due _ w))

    pub no_links : (status : Status) →
        Opens b c w.roster (is_input_fault status) (Reads (Err status)) →
        OpensSource w a c (Err status)
    no_links status x =
        links_read (Err status) (Err status) x
        (λ due h. refused_on (with_links game) (λ s. refl) due status h)

    pub a_source : (links : Neighbours) → LinksAll game links →
        Opens b c w.roster false (Reads (Ok links)) →
        OpensSource w a c (Ok (record { session = game; roster = links }))
    a_source links all x =
        links_read (Ok links) (Ok (record { session = game; roster = links })) x
        (λ due h. record { due_is = ap (with_links game) h; links = all })
