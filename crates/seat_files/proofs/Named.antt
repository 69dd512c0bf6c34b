-- Named: where no older log is named, a seat's peer has no entries.
use Rattle.std.proofs.Common.{◌≡◌, ℕ, Bool, true, false, List, [], Option, None, nat_lt, if◌then◌else◌, refl, ap, sym, subst}
use Rattle.std.specs.Prelude.{Result, Ok, Err, option_map}
use Rattle.definitions.specs.declared.world.Move.{Move}
use Rattle.definitions.specs.World.{Game, players_of}
use Rattle.rosters.specs.Rosters.{Neighbours}
use Rattle.line_io.specs.Files.{Contents, behind_first, content}
use Rattle.old_log.specs.Beginnings.{Beginning}
use Rattle.old_log.specs.Begun.{begun}
use Rattle.run_frame.specs.Sessions.{session_in}
use Rattle.run_frame.specs.declared.statuses.Status.{Status}
use Rattle.run_frame.specs.declared.statuses.Status.TheVariants.{Usage}
use Rattle.seat_files.specs.Seats.{Seating, moves_in, roster_in, start_by_moves, start_by_player, start_by_roster, start_by_session, start_for, start_of}
use Rattle.seat_files.specs.Words.{Peering}

-- where there is one, it begins with no entries
abbrev BeginsAnew : Result Beginning Status → Type 0
BeginsAnew (Ok b) = b.first ≡ []
BeginsAnew (Err status) = Unit {0}

abbrev IsAnew : Result Seating Status → Type 0
IsAnew (Ok x) = x.begins.first ≡ []
IsAnew (Err status) = Unit {0}

begun_anew : (player : ℕ) (game : Game) (old : Option (Option (List ℕ))) → old ≡ None → BeginsAnew (begun player game old)
begun_anew player game old e = subst (λ (o : Option (Option (List ℕ))). BeginsAnew (begun player game o)) (sym e) refl

module _ (p : Peering) (none : p.old ≡ None) where
  by_log : (r : Neighbours) (moves : List Move) (due : Result Beginning Status) → BeginsAnew due → IsAnew (start_of r moves due)
  by_log r moves (Ok b) h = h
  by_log r moves (Err status) h = tt

  by_moves : (game : Game) (r : Neighbours) (moves : Result (List Move) Status) (log : Option (List ℕ)) → IsAnew (start_by_moves p game r moves log)
  by_moves game r (Err status) log = tt
  by_moves game r (Ok moves) log =
      by_log r moves (begun p.player game (option_map (λ name. log) p.old))
      (begun_anew p.player game (option_map (λ name. log) p.old) (ap (λ (o : Option (List ℕ)). option_map (λ name. log) o) none))

  by_roster : (game : Game) (r : Result Neighbours Status) (contents : Contents) → IsAnew (start_by_roster p game r contents)
  by_roster game (Err status) contents = tt
  by_roster game (Ok r) contents = by_moves game r (moves_in game (content contents 0)) (content (behind_first contents) 0)

  by_player : (game : Game) (is_one : Bool) (contents : Contents) → IsAnew (start_by_player p (if is_one then Ok game else Err Usage) contents)
  by_player game false contents = tt
  by_player game true contents = by_roster game (roster_in game p.player (content contents 0)) (behind_first contents)

  by_session : (r : Result Game Status) (contents : Contents) → IsAnew (start_by_session p r contents)
  by_session (Err status) contents = tt
  by_session (Ok game) contents = by_player game (nat_lt p.player (players_of game)) contents

  -- what is played by, without entries
  pub starts_anew : (contents : Contents) (x : Seating) → start_for p contents ≡ Ok x → x.begins.first ≡ []
  starts_anew contents x e = subst IsAnew e (by_session (session_in (content contents 0)) (behind_first contents))
