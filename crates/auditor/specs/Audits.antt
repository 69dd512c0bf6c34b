-- Audits: for which logs an auditor stands.
use Rattle.std.specs.Prelude.{◌≡◌, ℕ, zero, suc, ◌+◌, ◌-◌, Bool, true, List, [], ◌∷◌, ◌++◌, Option, None, Some, Result, Ok, Err, length, map, replicate, slice_get, slice_index, ◌==◌}
use Rattle.std.specs.declared.alloc.AllocError.{AllocError}
use Rattle.definitions.specs.declared.logs.Entry.{Entry}
use Rattle.definitions.specs.declared.logs.Entry.TheVariants.{Chose, Made, Got}
use Rattle.definitions.specs.World.{Game}
use Rattle.definitions.specs.Logs.{player_of}
use Rattle.definitions.specs.Lists.{item_or}
use Rattle.frame_index.specs.declared.limits.TheConstants.{MOST_LOGS}
use Rattle.frame_index.specs.Appended.{with_entry}
use Rattle.frame_index.specs.Frames.{IndexState, IsIndex}

-- an auditor as contracts see it: its session, what is kept of the frames that logs got and of those that their owners made, and of
-- each log, by its number, how many entries were taken, and whose log it is
pub record AuditState : Type 0 where
  pub session : Game
  pub index : IndexState
  pub made : IndexState
  pub counts : List ℕ
  pub owners : List (Option ℕ)

-- how many entries of the log were taken
abbrev pub count_in : AuditState → ℕ → ℕ
count_in a log = slice_index a.counts log

-- whose log it is, if that was given
abbrev pub owner_in : AuditState → ℕ → Option ℕ
owner_in a log = item_or a.owners log None

-- a frame that was got is of the player from whom it came
abbrev pub is_of_its_sender : Entry → Bool
is_of_its_sender (Chose t m n) = true
is_of_its_sender (Made f) = true
is_of_its_sender (Got q f) = player_of f == q

-- the entry with the frame that its owner made as one that was got of the owner, and one that was got as no frame of this kind
abbrev pub crossed : Entry → Entry
crossed (Chose t m n) = Chose t m n
crossed (Made f) = Got (player_of f) f
crossed (Got q f) = Made f

-- the same of all entries
abbrev pub crossed_logs : List (List Entry) → List (List Entry)
crossed_logs logs = map (map crossed) logs

-- the logs, and as many empty ones behind them
abbrev pub padded : List (List Entry) → ℕ → List (List Entry)
padded logs k = logs ++ replicate k []

-- the auditor is of this session, and what it keeps stands for these logs
pub record IsAuditOf (game : Game) (logs : List (List Entry)) (a : AuditState) : Type 0 where
  pub session : a.session ≡ game
  pub many : length logs ≡ MOST_LOGS
  pub index : IsIndex game logs a.index
  pub made : IsIndex game (crossed_logs logs) a.made
  pub counted : (i : ℕ) (h : List Entry) → slice_get logs i ≡ Some h → count_in a i ≡ length h

-- the auditor is of this session, and stands for these logs, each of this owner if one is known, and for no others
pub record StandsFor (game : Game) (owners : List (Option ℕ)) (logs : List (List Entry)) (a : AuditState) : Type 0 where
  pub audit : IsAuditOf game (padded logs (MOST_LOGS - length logs)) a
  pub owners_are : (i : ℕ) → owner_in a i ≡ item_or owners i None
  pub each : length owners ≡ length logs

-- the items with this one at the place; an item that isn't there counts as the default
abbrev pub put_at : {A : Type 0} → A → List A → ℕ → A → List A
put_at d [] zero x = x ∷ []
put_at d [] (suc i) x = d ∷ put_at d [] i x
put_at d (y ∷ ys) zero x = x ∷ ys
put_at d (y ∷ ys) (suc i) x = y ∷ put_at d ys i x

-- how many entries were taken of each log, after one of this log was to be taken: one more, unless memory was wanting
abbrev pub counts_after : Result (Unit {0}) AllocError → List ℕ → (log : ℕ) → List ℕ
counts_after (Ok taken) counts log = put_at 0 counts log (slice_index counts log + 1)
counts_after (Err wanting) counts log = counts

-- whose logs they are, with this one's owner
abbrev pub owners_with : List (Option ℕ) → (log : ℕ) → Option ℕ → List (Option ℕ)
owners_with owners log owner = put_at None owners log owner

-- and the logs then
abbrev pub logs_after : Result (Unit {0}) AllocError → List (List Entry) → (log : ℕ) → Entry → List (List Entry)
logs_after (Ok taken) logs log e = with_entry logs log e
logs_after (Err wanting) logs log e = logs
