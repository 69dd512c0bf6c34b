-- Refused: by what files there is nothing to play by, and what is told then.
use Rattle.std.proofs.Common.{◌≡◌, inl, inr, ℕ, Bool, true, false, List, Option, None, Some, nat_lt, if◌then◌else◌, refl, ap, sym, ◌∙◌}
use Rattle.std.specs.Prelude.{Result, Ok, Err, option_map}
use Rattle.definitions.specs.declared.world.Move.{Move}
use Rattle.definitions.specs.World.{Game, players_of}
use Rattle.grid_world.specs.declared.fault.SessionFault.{SessionFault}
use Rattle.grid_world.specs.declared.fault.SessionFault.TheVariants as session
use Rattle.grid_world.specs.Reading.{game_at}
use Rattle.text_fields.specs.declared.fault.TextFault.{TextFault}
use Rattle.text_fields.specs.declared.fault.TextFault.TheVariants as text
use Rattle.rosters.specs.Reading.{roster_at}
use Rattle.rosters.specs.Rosters.{Neighbours}
use Rattle.pilots.specs.Scripts.{script_at}
use Rattle.station.specs.Outside.{Rose, faults_behind}
use Rattle.station.specs.Shelves.{ShelfState}
use Rattle.station.specs.Sinks.{SinkState, after_bytes}
use Rattle.line_io.specs.Files.{Contents, behind_first, content}
use Rattle.line_io.specs.Inputs.{Input}
use Rattle.line_io.proofs.Writing.{bytes_none}
use Rattle.run_frame.specs.Frame.{Ran, is_input_fault}
use Rattle.run_frame.specs.Law.{HasCause, Law}
use Rattle.run_frame.specs.Opening.{IsRefusedBy}
use Rattle.run_frame.specs.Outside.{CountsFaults, Outside}
use Rattle.run_frame.specs.Sessions.{ended_by, front_of, session_in}
use Rattle.run_frame.specs.declared.statuses.Status.{Status}
use Rattle.run_frame.specs.declared.statuses.Status.TheVariants.{BadLine, BadLog, BadSeal, BadSession, InputFault, NoMemory, OutputFault, Usage}
use Rattle.old_log.specs.Beginnings.{Beginning}
use Rattle.old_log.specs.Begun.{begun, log_front_of, old_beginning}
use Rattle.session_log.specs.declared.faults.LogFault.{LogFault}
use Rattle.old_log.specs.Old.{old_fault}
use Rattle.seat_files.specs.Seats.{Seating, moves_by, moves_front_of, moves_in, roster_by, roster_front_of, roster_in, start_by_moves, start_by_player, start_by_roster, start_by_session, start_for, start_of}
use Rattle.seat_files.specs.Unplayed.{seat_cause, unplayed_answer}
use Rattle.seat_files.specs.Words.{Peering}

-- There is one, or one of these refuses it.
abbrev pub IsReadOrRefused : {T : Type 0} → Result T Status → Type 0
IsReadOrRefused (Ok x) = Unit {0}
IsReadOrRefused (Err NoMemory) = Unit {0}
IsReadOrRefused (Err Usage) = Unit {0}
IsReadOrRefused (Err (BadSession line what)) = Unit {0}
IsReadOrRefused (Err (BadLine text line)) = Unit {0}
IsReadOrRefused (Err (BadLog log at why)) = Unit {0}
IsReadOrRefused (Err status) = ⊥

of_session : (r : Result Game SessionFault) → IsReadOrRefused (ended_by r)
of_session (Ok game) = tt
of_session (Err session.Memory) = tt
of_session (Err (session.At line what)) = tt

of_roster : (r : Result Neighbours TextFault) → IsReadOrRefused (roster_by r)
of_roster (Ok r) = tt
of_roster (Err text.Memory) = tt
of_roster (Err (text.At line)) = tt

of_moves : (r : Result (List Move) TextFault) → IsReadOrRefused (moves_by r)
of_moves (Ok moves) = tt
of_moves (Err text.Memory) = tt
of_moves (Err (text.At line)) = tt

of_fault : (game : Game) (bytes : List ℕ) (fault : Option LogFault) → IsReadOrRefused (old_beginning game bytes fault)
of_fault game bytes None = tt
of_fault game bytes (Some f) = tt

of_log : (player : ℕ) (game : Game) (old : Option (Option (List ℕ))) → IsReadOrRefused (begun player game old)
of_log player game None = tt
of_log player game (Some content) = of_fault game (log_front_of content) (old_fault game player (log_front_of content))

module _ (p : Peering) where
  by_log : (r : Neighbours) (moves : List Move) (due : Result Beginning Status) → IsReadOrRefused due → IsReadOrRefused (start_of r moves due)
  by_log r moves (Ok b) h = tt
  by_log r moves (Err status) h = h

  by_moves : (game : Game) (r : Neighbours) (moves : Result (List Move) Status) (log : Option (List ℕ)) → IsReadOrRefused moves → IsReadOrRefused (start_by_moves p game r moves log)
  by_moves game r (Err status) log h = h
  by_moves game r (Ok moves) log h = by_log r moves (begun p.player game (option_map (λ name. log) p.old)) (of_log p.player game (option_map (λ name. log) p.old))

  by_roster : (game : Game) (r : Result Neighbours Status) (contents : Contents) → IsReadOrRefused r → IsReadOrRefused (start_by_roster p game r contents)
  by_roster game (Err status) contents h = h
  by_roster game (Ok r) contents h =
      by_moves game r (moves_in game (content contents 0)) (content (behind_first contents) 0) (of_moves (script_at game.turns (moves_front_of (content contents 0))))

  by_player : (game : Game) (is_one : Bool) (contents : Contents) → IsReadOrRefused (start_by_player p (if is_one then Ok game else Err Usage) contents)
  by_player game false contents = tt
  by_player game true contents =
      by_roster game (roster_in game p.player (content contents 0)) (behind_first contents) (of_roster (roster_at p.player (players_of game) (roster_front_of (content contents 0))))

  by_session : (r : Result Game Status) (contents : Contents) → IsReadOrRefused r → IsReadOrRefused (start_by_session p r contents)
  by_session (Err status) contents h = h
  by_session (Ok game) contents h = by_player game (nat_lt p.player (players_of game)) contents

  -- the files give something to play by, or one of these statuses
  pub refused : (contents : Contents) → IsReadOrRefused (start_for p contents)
  refused contents = by_session (session_in (content contents 0)) (behind_first contents) (of_session (game_at (front_of (content contents 0))))

-- ---- what is told then

-- where a law has these causes, the status has its cause
pub unplayed : (law : Law) (contents : Contents) (input : Input) (due : Result Seating Status) → ((s : Status) → seat_cause due s → law.cause contents input s) → IsReadOrRefused due → HasCause law contents input (unplayed_answer due).status
unplayed law contents input (Ok seating) causes h = tt
unplayed law contents input (Err NoMemory) causes h = tt
unplayed law contents input (Err Usage) causes h = causes Usage refl
unplayed law contents input (Err (BadSession line what)) causes h = causes (BadSession line what) refl
unplayed law contents input (Err (BadLine text line)) causes h = causes (BadLine text line) refl
unplayed law contents input (Err (BadLog log at why)) causes h = causes (BadLog log at why) refl
unplayed law contents input (Err status) causes h = absurd h

-- the run ended so and wrote nothing
pub refused_ran : (a : SinkState) (h h' : ShelfState) (due : Result Seating Status) (source still : Type 0) → still → (s : Status) → h'.faults ≡ faults_behind (is_input_fault s) h.faults → IsRefusedBy due s →
    Ran a a (unplayed_answer due) false source (Rose h.faults h'.faults × still) s
refused_ran a h h' due source still x NoMemory f d = refl
refused_ran a h h' due source still x InputFault f d = inl ((f, x), refl)
refused_ran a h h' due source still x Usage f d = (sym (bytes_none a) ∙ ap (λ r. after_bytes a (unplayed_answer r).body) (sym d), ap (λ r. (unplayed_answer r).status) (sym d))
refused_ran a h h' due source still x (BadSession line what) f d = (sym (bytes_none a) ∙ ap (λ r. after_bytes a (unplayed_answer r).body) (sym d), ap (λ r. (unplayed_answer r).status) (sym d))
refused_ran a h h' due source still x (BadLine text line) f d = (sym (bytes_none a) ∙ ap (λ r. after_bytes a (unplayed_answer r).body) (sym d), ap (λ r. (unplayed_answer r).status) (sym d))
refused_ran a h h' due source still x (BadLog log at why) f d = (sym (bytes_none a) ∙ ap (λ r. after_bytes a (unplayed_answer r).body) (sym d), ap (λ r. (unplayed_answer r).status) (sym d))
refused_ran a h h' due source still x (BadSeal file at) f d = (sym (bytes_none a) ∙ ap (λ r. after_bytes a (unplayed_answer r).body) (sym d), ap (λ r. (unplayed_answer r).status) (sym d))
refused_ran a h h' due source still x s f d = absurd d

-- a fault of the shelf was counted where it is told
pub refused_counts : (before after : Outside) (due : Result Seating Status) (s : Status) → after.input.faults ≡ before.input.faults → after.output.faults ≡ before.output.faults →
    after.shelf.faults ≡ faults_behind (is_input_fault s) before.shelf.faults → IsRefusedBy due s → CountsFaults before after s
refused_counts before after due InputFault i o f d = (inr (i, f), o)
refused_counts before after due OutputFault i o f d = absurd d
refused_counts before after due s i o f d = (record { source = i; files = f }, o)
