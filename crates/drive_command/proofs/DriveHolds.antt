-- DriveHolds: the law of the command to drive: each status has its cause, what is good comes to its end, and the log behind the text is one of
-- fair play.
use Rattle.std.proofs.Common.{Bool, List, [], ◌∷◌, None, Option, Some, ap, arith, false, inl, refl, subst, sym, true, ℕ, ◌∙◌, ◌≡◌, ◌≤◌}
use Rattle.std.specs.Prelude.{Err, Ok, Result, nat_lt, option_map, if◌then◌else◌}
use Rattle.std.proofs.lemmas.Bool.{lt-ltb, ltb-true}
use Rattle.definitions.specs.World.{Game, players_of}
use Rattle.grid_world.specs.declared.fault.SessionFault.{SessionFault}
use Rattle.grid_world.specs.declared.fault.SessionFault.TheVariants.{At, Memory}
use Rattle.grid_world.specs.Reading.{game_at}
use Rattle.grid_world.proofs.Found.{game_found}
use Rattle.line_io.specs.Files.{Contents, content}
use Rattle.line_io.specs.Inputs.{AtEnd, Input, ending_of}
use Rattle.line_io.proofs.Unread.{none_at}
use Rattle.run_frame.specs.Frame.{Answer}
use Rattle.run_frame.specs.Law.{HasCause}
use Rattle.run_frame.specs.Sessions.{ended_by, front_of, with_player}
use Rattle.run_frame.specs.declared.statuses.Status.{Status}
use Rattle.run_frame.specs.declared.statuses.Status.TheVariants.{InputFault, NoMemory, OutputFault, Usage, BadSession, BadLog}
use Rattle.run_frame.proofs.SessionRead.{fault_said}
use Rattle.run_frame.proofs.Working.{Holds}
use Rattle.session_log.specs.declared.faults.LogFault.{LogFault}
use Rattle.old_log.specs.Old.{dropped_at, old_entries, old_fault}
use Rattle.old_log.specs.Beginnings.{Beginning}
use Rattle.old_log.specs.Begun.{begun, empty_beginning, log_front_of, old_beginning, with_old}
use Rattle.old_log.specs.Files.{log_names}
use Rattle.old_log.proofs.BegunSo.{begun_honest}
use Rattle.drive_command.specs.Begin.{TellsPlay, begun_answer, drive_answer}
use Rattle.drive_command.specs.Causes.{DriveCause}
use Rattle.drive_command.specs.DriveLaw.{IsSeated, IsSet, begins_with, drive_law}
use Rattle.drive_command.specs.Words.{Driving}
use Rattle.drive_command.proofs.Runs.{drive_runs}
use Rattle.drive_command.proofs.Streams.{gives_next}
use Rattle.drive_command.proofs.Commanded.{drive_caused, drive_done, drive_tells_play}

-- the answer where a run begins with this
pub set_answer : (d : Driving) (contents : Contents) (input : Input) (b : Beginning) → IsSet d contents b → drive_answer d.player (begins_with d contents) input ≡ begun_answer d.player b input
set_answer d contents input b s =
    let old = option_map (λ name. content contents 1) d.old in
    ap (λ (r : Result Game SessionFault). drive_answer d.player (with_old d.player (with_player d.player (ended_by r)) old) input) s.seated.read ∙
    ap (λ (c : Bool). drive_answer d.player (with_old d.player (if c then Ok b.game else Err Usage) old) input) (lt-ltb d.player (players_of b.game) s.seated.player_is) ∙
    ap (λ (r : Result Beginning Status). drive_answer d.player r input) s.begins

-- The command to drive: the status that is due for an input that is read to its end has its cause.
module _ (d : Driving) (contents : Contents) (input : Input) (ends : ending_of input ≡ AtEnd) where
  -- a run that begins with this
  begun_so : (b : Beginning) → IsSet d contents b → (s : Status) → DriveCause d.player b input s → HasCause (drive_law d) contents input s
  begun_so b set NoMemory c = tt
  begun_so b set InputFault c = tt
  begun_so b set OutputFault c = tt
  begun_so b set Usage c = absurd c
  begun_so b set (BadSession line what) c = absurd c
  begun_so b set (BadLog log at why) c = absurd c
  begun_so b set s c = record { begins = b; set = set; cause = c }

  begins : (b : Beginning) → IsSet d contents b → HasCause (drive_law d) contents input (begun_answer d.player b input).status
  begins b set = begun_so b set (begun_answer d.player b input).status (drive_caused d.player b input ends)

  -- a log that is named, by the fault for which the player can't go on from it
  named_log : (game : Game) (name : List ℕ) → IsSeated d contents game → d.old ≡ Some name → (fault : Option LogFault) → old_fault game d.player (log_front_of (content contents 1)) ≡ fault →
      HasCause (drive_law d) contents input (drive_answer d.player (old_beginning game (log_front_of (content contents 1)) fault) input).status
  named_log game name seated n None e =
      let bytes = log_front_of (content contents 1) in
      let b : Beginning = record { game = game; first = old_entries game bytes; dropped = dropped_at game bytes } in
      begins b
      (record {
        seated = seated;
        begins = ap (λ (o : Option (List ℕ)). begun d.player game (option_map (λ name. content contents 1) o)) n ∙ ap (old_beginning game bytes) e;
      })
  named_log game name seated n (Some f) e = record { game = game; name = name; seated = seated; named = n; log_is = refl; fault_is = e }

  with_log : (game : Game) (old : Option (List ℕ)) → IsSeated d contents game → d.old ≡ old →
      HasCause (drive_law d) contents input (drive_answer d.player (begun d.player game (option_map (λ name. content contents 1) old)) input).status
  with_log game None seated n = begins (empty_beginning game) (record { seated = seated; begins = ap (λ (o : Option (List ℕ)). begun d.player game (option_map (λ name. content contents 1) o)) n })
  with_log game (Some name) seated n = named_log game name seated n (old_fault game d.player (log_front_of (content contents 1))) refl

  -- a session of which the player may be one
  seated : (game : Game) → game_at (front_of (content contents 0)) ≡ Ok game → (b : Bool) → nat_lt d.player (players_of game) ≡ b →
      HasCause (drive_law d) contents input (drive_answer d.player (with_old d.player (if b then Ok game else Err Usage) (option_map (λ name. content contents 1) d.old)) input).status
  seated game read true e = with_log game d.old (record { read = read; player_is = ltb-true d.player (players_of game) e }) refl
  seated game read false e = record { game = game; read = read; past = grind (arith, e) }

  read : (r : Result Game SessionFault) → game_at (front_of (content contents 0)) ≡ r →
      HasCause (drive_law d) contents input (drive_answer d.player (with_old d.player (with_player d.player (ended_by r)) (option_map (λ name. content contents 1) d.old)) input).status
  read (Ok game) f = seated game f (nat_lt d.player (players_of game)) refl
  read (Err Memory) f = tt
  read (Err (At line what)) f = fault_said (front_of (content contents 0)) (At line what) f

pub drive_holds : (d : Driving) → Holds (drive_law d)
drive_holds d = record {
  caused = λ contents input ends. read d contents input ends (game_at (front_of (content contents 0))) refl;
  done = λ contents input answered ends good.
      inl (ap (λ (a : Answer). a.status) (set_answer d contents input good.0 good.1) ∙ drive_done d.player good.0 input ends good.2);
  meant = λ contents input. record {
    play = λ b set.
        let read = game_found _ b.game set.seated.read in
        let ahead : 1 ≤ b.game.ahead = read.session.ahead.0 in
        subst (λ (a : Answer). TellsPlay d.player b input a.body) (sym (set_answer d contents input b set))
        (drive_tells_play d.player b input ahead (begun_honest b.game d.player _ b set.begins).honest);
    steps = drive_runs;
    streams = gives_next;
  };
  unread = λ shelf session h. inl (none_at (d.session ∷ log_names d.old) 1);
  unasked = λ shelf. refl;
  unremembered = λ ended. tt;
  cut = λ ended. tt;
  played_cause = λ contents input before after s p. absurd p;
  played_done = λ contents input before after s p good written. absurd p;
}
