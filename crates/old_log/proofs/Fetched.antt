-- Fetched: what was read of the files, the session's first and then the log's.
use Rattle.std.proofs.Common.{◌≡◌, ◌⊎◌, ◌<◌, Bool, inl, inr, List, [], ◌∷◌, ◌++◌, ℕ, Option, Some, None, refl, ap, sym, ◌∙◌, subst, append_assoc, append-nil}
use Rattle.std.specs.Prelude.{Result, Ok, Err, option_map}
use Rattle.station.specs.Outside.{faults_behind}
use Rattle.station.specs.Pieces.{AllGive, Piece}
use Rattle.station.specs.Shelves.{ShelfState}
use Rattle.station.specs.Since.{since, Grows, since_is, grows_by}
use Rattle.definitions.specs.Lists.{item_or}
use Rattle.definitions.specs.World.{Game, players_of}
use Rattle.definitions.specs.declared.limits.TheConstants.{LOG_FRONT}
use Rattle.grid_world.specs.Reading.{game_at}
use Rattle.line_io.specs.Files.{AreContents, AreReadings, Calls, Contents, content, in_turn}
use Rattle.line_io.specs.Fronts.{AllShown, IsFrontOf, IsReading}
use Rattle.run_frame.specs.Sessions.{IsDue, OpensSession, front_of, is_shelf_fault, with_player}
use Rattle.run_frame.specs.declared.statuses.Status.{Status}
use Rattle.run_frame.specs.declared.statuses.Status.TheVariants.{NoMemory, InputFault, BadSession}
use Rattle.run_frame.proofs.SessionRead.{game_due}
use Rattle.old_log.specs.declared.resuming.Resumed.{Resumed}
use Rattle.old_log.specs.Begun.{IsStartFor, log_front_of, with_old}
use Rattle.old_log.specs.Files.{BeginsPeer, FetchesLog, HasPlayer, OpensPeer, log_names}

-- the bytes that are read of a log's file, by its front
pub log_front_read : (content : Option (List ℕ)) (text : List ℕ) → IsFrontOf LOG_FRONT content text → log_front_of content ≡ text
unfolding log_front_of
log_front_read None text h = absurd h
log_front_read (Some bytes) text h = sym h

-- no session is due
none_due : (player : ℕ) (due : Result Game Status) (old : Option (Option (List ℕ))) (status : Status) → IsDue due (Err status) → IsStartFor player (with_old player (with_player player due) old) (Err status)
none_due player due old NoMemory h = tt
none_due player due old InputFault h = tt
none_due player due old (BadSession line what) h = ap (λ d. with_old player (with_player player d) old) h
none_due player due old status h = absurd h

-- the calls for a log's file, if one is named
abbrev log_calls : (old : Option (List ℕ)) → List Piece → Calls
log_calls None pieces = []
log_calls (Some name) pieces = pieces ∷ []

-- The log's file was read by these calls, if one is named, and where the shelf shows its files, what it gives was answered.
abbrev IsLogReading : (files : Option (List ℕ → Option (List ℕ))) → (old : Option (List ℕ)) → List Piece → Type 0
IsLogReading files None pieces = pieces ≡ []
IsLogReading files (Some name) pieces = IsReading name 0 pieces × AllShown files name pieces

-- no call for a log was made
none_reading : (files : Option (List ℕ → Option (List ℕ))) (old : Option (List ℕ)) → IsLogReading files old []
none_reading files None = refl
none_reading None (Some name) = (tt, tt)
none_reading (Some f) (Some name) = (tt, tt)

log_readings : (files : Option (List ℕ → Option (List ℕ))) (old : Option (List ℕ)) (pieces : List Piece) → IsLogReading files old pieces → AreReadings files (log_names old) (log_calls old pieces)
log_readings files None pieces r = refl
log_readings files (Some name) pieces r = (r.0, r.1, refl)

log_in_turn : (files : Option (List ℕ → Option (List ℕ))) (old : Option (List ℕ)) (pieces : List Piece) → IsLogReading files old pieces → pieces ≡ in_turn (log_calls old pieces)
log_in_turn files None pieces r = r
log_in_turn files (Some name) pieces r = sym (append-nil pieces)

-- what the log's file may hold gives what its calls were answered
log_given : (files : Option (List ℕ → Option (List ℕ))) (old : Option (List ℕ)) (pieces : List Piece) (contents : Contents) (first : List Piece) → IsLogReading files old pieces →
    AreContents contents (first ∷ log_calls old pieces) → AllGive (content contents 1) pieces
log_given files None pieces contents first r h = subst (AllGive (content contents 1)) (sym r) tt
log_given files (Some name) pieces contents first r h = h 1

-- none of a log's calls is left out
log_first : (files : Option (List ℕ → Option (List ℕ))) (old : Option (List ℕ)) (pieces first : List Piece) → IsLogReading files old pieces → pieces ≡ [] → item_or (first ∷ log_calls old pieces) 1 [] ≡ []
log_first files None pieces first r e = refl
log_first files (Some name) pieces first r e = e

-- What is known behind the reading of a log.
record LogRead (b c : ShelfState) (game : Game) (player : ℕ) (old : Option (List ℕ)) (start : Result Resumed Status) : Type 0 where
  pub same : c.files ≡ b.files
  pub grows : Grows b.pieces c.pieces
  pub reading : IsLogReading b.files old (since b.pieces c.pieces)
  pub due : (since b.pieces c.pieces ≡ []) ⊎ (player < players_of game)
  pub counted : c.faults ≡ faults_behind (is_shelf_fault start) b.faults

log_read : (b c : ShelfState) (game : Game) (player : ℕ) (old : Option (List ℕ)) (start : Result Resumed Status) → FetchesLog b c game player old start → LogRead b c game player old start
log_read b c game player old start (inl h) =
    let pieces : c.pieces ≡ b.pieces ++ [] = ap (λ (s : ShelfState). s.pieces) h.0 ∙ sym (append-nil b.pieces) in
    let none : since b.pieces c.pieces ≡ [] = since_is b.pieces c.pieces [] pieces in
    record {
      same = ap (λ (s : ShelfState). s.files) h.0;
      grows = grows_by b.pieces c.pieces [] pieces;
      reading = subst (IsLogReading b.files old) (sym none) (none_reading b.files old);
      due = inl none;
      counted = ap (λ (s : ShelfState). s.faults) h.0 ∙ ap (λ (f : Bool). faults_behind f b.faults) (sym h.1);
    }
log_read b c game player old start (inr h) =
    let f = h.3 in
    record {
      same = f.same;
      grows = f.grows;
      reading = subst (λ (o : Option (List ℕ)). IsLogReading b.files o (since b.pieces c.pieces)) (sym h.1) (f.reading, f.shown);
      due = inr h.2;
      counted = f.counted;
    }

-- a session was read, and its player begun with
pub opened : (a b c : ShelfState) (session : List ℕ) (player : ℕ) (old : Option (List ℕ)) (game : Game) (start : Result Resumed Status) →
    OpensSession a b session (Ok game) → BeginsPeer b c game player old start → OpensPeer a c session player old start
opened a b c session player old game start o p =
    let l = log_read b c game player old start p.fetches in
    let first : List Piece = since a.pieces b.pieces in
    let log : List Piece = since b.pieces c.pieces in
    let reading : IsLogReading a.files old log = subst (λ (f : Option (List ℕ → Option (List ℕ))). IsLogReading f old log) o.fetched.same l.reading in
    record {
      calls = first ∷ log_calls old log;
      reads = record {
        same = l.same ∙ o.fetched.same;
        answered = l.grows ∙ ap (λ (x : List Piece). x ++ log) o.fetched.grows ∙ append_assoc a.pieces first log ∙ ap (λ (x : List Piece). a.pieces ++ (first ++ x)) (log_in_turn a.files old log reading);
        readings = (o.fetched.reading, o.fetched.shown, log_readings a.files old log reading);
      };
      log_due = λ content h. go l.due (log_first a.files old log first reading) (game_due _ game (o.due content h));
      counted = l.counted ∙ ap (faults_behind (is_shelf_fault start)) o.fetched.counted;
      due = λ contents h.
          subst (λ (r : Result Game Status). IsStartFor player (with_old player (with_player player r) (option_map (λ name. content contents 1) old)) start) (sym (o.due (content contents 0) (h 0)))
          (p.due (content contents 1) (log_given a.files old log contents first reading h));
    }
  where
    go : {content : Option (List ℕ)} {pieces last : List Piece} → (pieces ≡ []) ⊎ (player < players_of game) → (pieces ≡ [] → last ≡ []) → game_at (front_of content) ≡ Ok game → (last ≡ []) ⊎ HasPlayer player content
    go (inl none) last read = inl (last none)
    go (inr in_it) last read = inr (record { game = game; read = read; player_is = in_it })

-- no session was read
pub unopened : (a b : ShelfState) (session : List ℕ) (player : ℕ) (old : Option (List ℕ)) (status : Status) → OpensSession a b session (Err status) → OpensPeer a b session player old (Err status)
unopened a b session player old status o =
    let first : List Piece = since a.pieces b.pieces in
    record {
      calls = first ∷ log_calls old [];
      reads = record {
        same = o.fetched.same;
        answered = o.fetched.grows ∙ ap (λ (x : List Piece). a.pieces ++ x) (sym (append-nil first)) ∙ ap (λ (x : List Piece). a.pieces ++ (first ++ x)) (log_in_turn a.files old [] (none_reading a.files old));
        readings = (o.fetched.reading, o.fetched.shown, log_readings a.files old [] (none_reading a.files old));
      };
      log_due = λ content h. inl (log_first a.files old [] first (none_reading a.files old) refl);
      counted = o.fetched.counted;
      due = λ contents h. none_due player _ _ status (o.due (content contents 0) (h 0));
    }
