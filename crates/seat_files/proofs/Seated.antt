-- Seated: what a player plays by, read from the files.
use Rattle.std.proofs.Common.{◌≡◌, ◌<◌, inl, inr, ℕ, Bool, true, false, List, [], ◌∷◌, Option, Some, None, refl, ap, sym, ◌∙◌, subst, append-nil, nat_lt, if◌then◌else◌}
use Rattle.std.specs.Prelude.{Result, Ok, Err, option_map}
use Rattle.std.proofs.lemmas.Bool.{ltb-true}
use Rattle.definitions.specs.declared.world.Move.{Move}
use Rattle.definitions.specs.World.{Game, players_of}
use Rattle.rosters.specs.declared.limits.TheConstants.{ROSTER_FRONT}
use Rattle.rosters.specs.Rosters.{LinksOthers, Neighbours}
use Rattle.pilots.specs.declared.limits.TheConstants.{MOVES_FRONT}
use Rattle.station.specs.Pieces.{AllGive}
use Rattle.station.specs.Shelves.{ShelfState}
use Rattle.station.specs.Since.{since, since_is}
use Rattle.line_io.specs.Files.{Contents, content, behind_first}
use Rattle.line_io.specs.Fronts.{Fetched, IsFrontOf}
use Rattle.run_frame.specs.Frame.{is_input_fault}
use Rattle.run_frame.specs.declared.statuses.Status.{Status}
use Rattle.run_frame.specs.declared.statuses.Status.TheVariants.{NoMemory, Usage, BadSession, InputFault, BadLog}
use Rattle.old_log.specs.declared.resuming.Resumed.{Resumed}
use Rattle.session_log.specs.declared.faults.LogFault.{LogFault}
use Rattle.old_log.specs.Old.{old_fault}
use Rattle.old_log.specs.Beginnings.{Beginning}
use Rattle.seat_files.specs.Words.{Peering}
use Rattle.seat_files.specs.declared.seats.Seat.{Seat}
use Rattle.old_log.specs.Files.{BeginsPeer, log_names}
use Rattle.run_frame.specs.Sessions.{OpensSession, IsDue, is_shelf_fault, session_in, with_player}
use Rattle.old_log.specs.Begun.{IsStartFor, begun, log_front_of, old_beginning, with_old}
use Rattle.run_frame.specs.Opening.{IsDueFor, IsRefusedBy, Opens, Reads}
use Rattle.seat_files.specs.Seats.{IsSeatDue, IsSeated, MayReadLog, MayReadMoves, MayReadRoster, OpensSeat, ReadsBehindRoster, ReadsBehindSession, Seating, behind_roster, behind_session, moves_front_of, moves_in, roster_front_of, roster_in, start_by_moves, start_by_player, start_by_roster, start_by_session, start_for, start_of}
use Rattle.run_frame.proofs.Opening.{reads_first, reads_none, reads_then, refused_on, session_refused}

-- the bytes that are read of a file, by its front
pub roster_front_read : (content : Option (List ℕ)) (text : List ℕ) → IsFrontOf ROSTER_FRONT content text → roster_front_of content ≡ text
unfolding roster_front_of
roster_front_read None text h = absurd h
roster_front_read (Some bytes) text h = sym h

pub moves_front_read : (content : Option (List ℕ)) (text : List ℕ) → IsFrontOf MOVES_FRONT content text → moves_front_of content ≡ text
unfolding moves_front_of
moves_front_read None text h = absurd h
moves_front_read (Some bytes) text h = sym h

-- the same of what a log is begun with
start_refused : (player : ℕ) (due : Result Beginning Status) (status : Status) → IsStartFor player due (Err status) → IsRefusedBy due status
start_refused player due NoMemory h = tt
start_refused player due InputFault h = tt
start_refused player due Usage h = h
start_refused player due (BadSession line what) h = h
start_refused player due (BadLog log at why) h = h
start_refused player due status h = absurd h

-- whenever
abbrev Whenever : Contents → ℕ → Type 0
Whenever contents k = Unit {0}

-- the log that is begun with is of the session
old_game : (game : Game) (bytes : List ℕ) (f : Option LogFault) (b : Beginning) → old_beginning game bytes f ≡ Ok b → b.game ≡ game
old_game game bytes None b e = cc
old_game game bytes (Some f) b e = absurd (let never : Err (BadLog 0 f.at f.why) ≡ Ok b = e in cc)

begun_game : (player : ℕ) (game : Game) (old : Option (Option (List ℕ))) (b : Beginning) → begun player game old ≡ Ok b → b.game ≡ game
begun_game player game None b e = cc
begun_game player game (Some content) b e = old_game game (log_front_of content) (old_fault game player (log_front_of content)) b e

-- The player is one of the session.
module _ (b c : ShelfState) (game : Game) (player : ℕ) (in_it : nat_lt player (players_of game) ≡ true) where
  due_on : (old : Option (List ℕ)) (start : Result Resumed Status) (content : Option (List ℕ)) →
      IsStartFor player (with_old player (with_player player (Ok game)) (option_map (λ name. content) old)) start → IsStartFor player (begun player game (option_map (λ name. content) old)) start
  due_on old start content h =
      subst (λ (t : Bool). IsStartFor player (with_old player (if t then Ok game else Err Usage) (option_map (λ name. content) old)) start) in_it h

  -- what is due by the log's file, if one is named
  abbrev LogDue : (old : Option (List ℕ)) → Result Resumed Status → Contents → Type 0
  LogDue old start contents = IsStartFor player (begun player game (option_map (λ name. content contents 0) old)) start

  -- the log was read, if one is named
  pub log_reads : (old : Option (List ℕ)) (start : Result Resumed Status) → BeginsPeer b c game player old start → Reads b c (log_names old) (is_shelf_fault start) Whenever (LogDue old start)
  log_reads old start p = elim p.fetches [
    | inl h ↦ none h.0 h.1
    | inr h ↦ one h.0 h.1 h.3
  ]
    where
      none : c ≡ b → is_shelf_fault start ≡ false → Reads b c (log_names old) (is_shelf_fault start) Whenever (LogDue old start)
      none same calm =
          let nothing : since b.pieces c.pieces ≡ [] = since_is b.pieces c.pieces [] (ap (λ (s : ShelfState). s.pieces) same ∙ sym (append-nil b.pieces)) in
          let still : Reads b b (log_names old) false Whenever (LogDue old start) =
          reads_none b (log_names old) Whenever (LogDue old start) (λ contents. due_on old start (content contents 0) (p.due (content contents 0) (subst (AllGive (content contents 0)) (sym nothing) tt))) in
          let at_c : Reads b c (log_names old) false Whenever (LogDue old start) = subst (λ (s : ShelfState). Reads b s (log_names old) false Whenever (LogDue old start)) (sym same) still in
          subst (λ (f : Bool). Reads b c (log_names old) f Whenever (LogDue old start)) (sym calm) at_c

      one : (name : List ℕ) → old ≡ Some name → Fetched b c name (is_shelf_fault start) → Reads b c (log_names old) (is_shelf_fault start) Whenever (LogDue old start)
      one name named f =
          let o : Opens b c name (is_shelf_fault start) (λ content. IsStartFor player (begun player game (option_map (λ name. content) old)) start) =
          record { fetched = f; due = λ content h. due_on old start content (p.due content h) } in
          let r : Reads b c (name ∷ []) (is_shelf_fault start) Whenever (LogDue old start) =
          reads_first b c name [] _ Whenever (LogDue old start) (is_shelf_fault start) o (λ contents. tt) (λ contents h. h) in
          subst (λ (o : Option (List ℕ)). Reads b c (log_names o) (is_shelf_fault start) Whenever (LogDue old start)) (sym named) r

-- behind the roster: the moves, and then the log
module _ (p : Peering) (game : Game) (r : Neighbours) (a b : ShelfState) where
  -- no moves
  pub no_moves : (status : Status) → Opens a b p.moves (is_input_fault status) (λ content. IsDueFor (moves_in game content) (Err status)) → ReadsBehindRoster p game r a b (Err status)
  no_moves status o =
      reads_first a b p.moves (log_names p.old) _ (MayReadLog game) (λ contents. IsSeatDue p (behind_roster p game r contents) (Err status)) _ o
      (λ contents. tt)
      (λ contents h. refused_on (λ m. start_by_moves p game r m (content (behind_first contents) 0)) (λ s. refl) (moves_in game (content contents 0)) status h)

  module _ (c : ShelfState) (moves : List Move) (in_it : nat_lt p.player (players_of game) ≡ true) (o : Opens a b p.moves false (λ content. moves_in game content ≡ Ok moves)) where
    behind_moves : (start : Result Resumed Status) (seat : Result Seat Status) → is_shelf_fault start ≡ is_shelf_fault seat → BeginsPeer b c game p.player p.old start →
        ((contents : Contents) → moves_in game (content contents 0) ≡ Ok moves → LogDue b c game p.player in_it p.old start (behind_first contents) → IsSeatDue p (behind_roster p game r contents) seat) → ReadsBehindRoster p game r a c seat
    behind_moves start seat same begun due =
        let log : Reads b c (log_names p.old) (is_shelf_fault start) Whenever (LogDue b c game p.player in_it p.old start) = log_reads b c game p.player in_it p.old start begun in
        let log_so : Reads b c (log_names p.old) (is_shelf_fault seat) Whenever (LogDue b c game p.player in_it p.old start) =
        subst (λ (f : Bool). Reads b c (log_names p.old) f Whenever (LogDue b c game p.player in_it p.old start)) same log in
        reads_then a b p.moves (log_names p.old) _ (MayReadLog game) (λ contents. IsSeatDue p (behind_roster p game r contents) seat) c (is_shelf_fault seat) Whenever (LogDue b c game p.player in_it p.old start)
        o log_so (λ contents. tt) (λ contents h k w. (moves, h)) due

    -- no log to go on from
    pub no_log : (status : Status) → BeginsPeer b c game p.player p.old (Err status) → ReadsBehindRoster p game r a c (Err status)
    no_log status begun = behind_moves (Err status) (Err status) refl begun (λ contents e h.
        refused_on (λ m. m) (λ s. refl) (behind_roster p game r contents) status
        (subst (λ (m : Result (List Move) Status). IsRefusedBy (start_by_moves p game r m (content (behind_first contents) 0)) status) (sym e)
        (refused_on (start_of r moves) (λ s. refl) _ status (start_refused p.player _ status h))))

    -- all is there
    pub a_seat : (s : Seat) (resumed : Resumed) → s ≡ record { peer = resumed.peer; dropped = resumed.dropped; roster = r; pilot = moves } → LinksOthers p.player (players_of game) r →
        BeginsPeer b c game p.player p.old (Ok resumed) → ReadsBehindRoster p game r a c (Ok s)
    a_seat s resumed is links begun = behind_moves (Ok resumed) (Ok s) refl begun (λ contents e h.
        let of_game : resumed.peer.game ≡ game = begun_game p.player game _ _ h.due_is in
        subst (λ (x : Seat). IsSeated p (behind_roster p game r contents) x) (sym is)
        (record {
          due_is = ap (λ m. start_by_moves p game r m (content (behind_first contents) 0)) e ∙ ap (start_of r moves) h.due_is;
          player_is = h.player_is;
          seated = rw of_game (rw h.player_is (ltb-true p.player (players_of game) in_it));
          links = rw of_game (rw h.player_is links);
          honest = rw h.player_is h.honest;
        }))

-- behind the session: the roster, and then the rest
module _ (p : Peering) (game : Game) (a b : ShelfState) where
  -- the player is none of the session
  pub no_player : nat_lt p.player (players_of game) ≡ false → ReadsBehindSession p game a a (Err Usage)
  no_player out =
      reads_none a (p.roster ∷ p.moves ∷ log_names p.old) (MayReadMoves p game) (λ contents. IsSeatDue p (behind_session p game contents) (Err Usage))
      (λ contents. ap (λ (t : Bool). start_by_player p (if t then Ok game else Err Usage) contents) out)

  module _ (in_it : nat_lt p.player (players_of game) ≡ true) (less : p.player < players_of game) where
    seated_so : (contents : Contents) → start_by_roster p game (roster_in game p.player (content contents 0)) (behind_first contents) ≡ behind_session p game contents
    seated_so contents = sym (ap (λ (t : Bool). start_by_player p (if t then Ok game else Err Usage) contents) in_it)

    pub no_roster : (status : Status) → Opens a b p.roster (is_input_fault status) (λ content. IsDueFor (roster_in game p.player content) (Err status)) → ReadsBehindSession p game a b (Err status)
    no_roster status o =
        reads_first a b p.roster (p.moves ∷ log_names p.old) _ (MayReadMoves p game) (λ contents. IsSeatDue p (behind_session p game contents) (Err status)) _ o
        (λ contents. less)
        (λ contents h. subst (λ (d : Result Seating Status). IsRefusedBy d status) (seated_so contents)
        (refused_on (λ r. start_by_roster p game r (behind_first contents)) (λ s. refl) (roster_in game p.player (content contents 0)) status h))

    pub a_roster : (c : ShelfState) (r : Neighbours) (seat : Result Seat Status) → Opens a b p.roster false (λ content. roster_in game p.player content ≡ Ok r) → ReadsBehindRoster p game r b c seat → ReadsBehindSession p game a c seat
    a_roster c r seat o rest =
        reads_then a b p.roster (p.moves ∷ log_names p.old) _ (MayReadMoves p game) (λ contents. IsSeatDue p (behind_session p game contents) seat) c (is_shelf_fault seat)
        (MayReadLog game) (λ contents. IsSeatDue p (behind_roster p game r contents) seat) o rest
        (λ contents. less) (λ contents h k w. ((r, h), w))
        (λ contents h due. subst (λ (d : Result Seating Status). IsSeatDue p d seat) (ap (λ x. start_by_roster p game x (behind_first contents)) (sym h) ∙ seated_so contents) due)

-- the session, and then the rest
module _ (p : Peering) (a b : ShelfState) where
  pub no_session : (status : Status) → OpensSession a b p.session (Err status) → OpensSeat p a b (Err status)
  no_session status o =
      reads_first a b p.session (p.roster ∷ p.moves ∷ log_names p.old) (λ content. IsDue (session_in content) (Err status)) (MayReadRoster p) (λ contents. IsSeatDue p (start_for p contents) (Err status)) _
      (record { fetched = o.fetched; due = o.due })
      (λ contents. tt)
      (λ contents h. refused_on (λ g. start_by_session p g (behind_first contents)) (λ s. refl) (session_in (content contents 0)) status (session_refused _ status h))

  pub a_session : (c : ShelfState) (game : Game) (seat : Result Seat Status) → OpensSession a b p.session (Ok game) → ReadsBehindSession p game b c seat → OpensSeat p a c seat
  a_session c game seat o rest =
      reads_then a b p.session (p.roster ∷ p.moves ∷ log_names p.old) (λ content. session_in content ≡ Ok game) (MayReadRoster p) (λ contents. IsSeatDue p (start_for p contents) seat) c (is_shelf_fault seat)
      (MayReadMoves p game) (λ contents. IsSeatDue p (behind_session p game contents) seat) (record { fetched = o.fetched; due = o.due }) rest
      (λ contents. tt) (λ contents h k w. (game, h, w))
      (λ contents h due. subst (λ (d : Result Game Status). IsSeatDue p (start_by_session p d (behind_first contents)) seat) (sym h) due)
