-- Feeds: a file of sealed frames comes in pieces, and its frames are taken as they come.
use Rattle.std.specs.Prelude.{◌≡◌, ◌≤◌, ℕ, ◌+◌, List, ◌++◌, Option, None, Some, Result, Ok, Err, false, length}
use Rattle.definitions.specs.declared.limits.TheConstants.{LONGEST_LOG}
use Rattle.definitions.specs.World.{Game}
use Rattle.auditor.specs.Audits.{count_in}
use Rattle.sealed_files.specs.SealedFrames.{is_whole}
use Rattle.accuser.specs.declared.taker.Taker.{Taker}
use Rattle.accuser.specs.declared.taker.FrontFault.{FrontFault}
use Rattle.accuser.specs.Taking.{IsBytesFault, IsStuck, TakesBytes, TakesFront}

-- a feed as contracts see it: the bytes that wait for more, how many came before them, and the byte
-- of the file at which no sealed frame stands, once one was found
pub record Feeding : Type 0 where
  pub pending : List ℕ
  pub at : ℕ
  pub bad : Option ℕ

-- all sealed frames before the bytes that wait were taken, and these are fewer than the next has
pub record IsUnderway (game : Game) (roots : List (List ℕ)) (t t' : Taker) (file : ℕ) (bytes : List ℕ) (f : Feeding) : Type 0 where
  pub front : TakesFront game roots t t' file bytes f.pending
  pub place : f.at + length f.pending ≡ length bytes
  pub few : is_whole game f.pending ≡ false

-- at this byte no sealed frame stands, whatever follows
pub record IsBadFrom (game : Game) (roots : List (List ℕ)) (bytes : List ℕ) (at : ℕ) : Type 0 where
  pub rest : List ℕ
  pub stuck : IsStuck game roots false bytes rest
  pub place : at + length rest ≡ length bytes

-- how far a file is of which these bytes came
abbrev pub so_far : Game → List (List ℕ) → (t t' : Taker) → (file : ℕ) → List ℕ → Feeding → Option ℕ → Type 0
so_far game roots t t' file bytes f None = IsUnderway game roots t t' file bytes f
so_far game roots t t' file bytes f (Some at) = IsBadFrom game roots bytes at

abbrev pub IsFed : Game → List (List ℕ) → (t t' : Taker) → (file : ℕ) → List ℕ → Feeding → Type 0
IsFed game roots t t' file bytes f = so_far game roots t t' file bytes f f.bad

-- what is answered where these bytes are all of the file
abbrev pub IsFinished : Game → List (List ℕ) → (t t' : Taker) → (file : ℕ) → List ℕ → Result (Unit {0}) FrontFault → Type 0
IsFinished game roots t t' file bytes (Ok whole) = TakesBytes game roots t t' file bytes
IsFinished game roots t t' file bytes (Err fault) = IsBytesFault game roots bytes fault

-- so many bytes more are not too many for the file
pub record IsFewFor (t : Taker) (file : ℕ) (f : Feeding) (more : ℕ) : Type 0 where
  pub counted : count_in t.auditor file + (length f.pending + more) ≤ LONGEST_LOG
  pub place : f.at + (length f.pending + more) ≤ LONGEST_LOG

-- the same, as long as nothing is wrong
abbrev pub HasRoomFor : (t : Taker) → (file : ℕ) → Feeding → (more : ℕ) → Type 0
HasRoomFor t file f more = f.bad ≡ None → IsFewFor t file f more

-- wherever the feed is in a file, it is so far then as the file goes on by these bytes
abbrev pub FeedsOn : Game → List (List ℕ) → (t t' : Taker) → (file : ℕ) → (f f' : Feeding) → (bytes : List ℕ) → Type 0
FeedsOn game roots t t' file f f' bytes = (s : Taker) (all : List ℕ) → IsFed game roots s t file all f → IsFed game roots s t' file (all ++ bytes) f'

-- wherever the feed is in a file, this is answered of that file if no more of it comes
abbrev pub Finishes : Game → List (List ℕ) → (t t' : Taker) → (file : ℕ) → Feeding → Result (Unit {0}) FrontFault → Type 0
Finishes game roots t t' file f r = (s : Taker) (all : List ℕ) → IsFed game roots s t file all f → IsFinished game roots s t' file all r

-- so many bytes of the file came, of which nothing had been taken
pub record IsAt (game : Game) (roots : List (List ℕ)) (t : Taker) (file : ℕ) (f : Feeding) (at : ℕ) : Type 0 where
  pub start : Taker
  pub bytes : List ℕ
  pub fed : IsFed game roots start t file bytes f
  pub long : length bytes ≡ at
  pub untaken : count_in start.auditor file ≡ 0
