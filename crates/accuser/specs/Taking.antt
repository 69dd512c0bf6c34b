-- Taking: sealed frames of files are taken, by an auditor and a book of seals.
use Rattle.std.specs.Prelude.{◌≡◌, ◌≤◌, ℕ, ◌+◌, Bool, true, false, not, List, [], ◌∷◌, ◌++◌, Option, None, Some, drop, length, map, is_some}
use Rattle.definitions.specs.declared.frames.TurnFrame.{TurnFrame}
use Rattle.definitions.specs.declared.logs.Entry.{Entry}
use Rattle.definitions.specs.Lists.{is_empty}
use Rattle.definitions.specs.World.{Game}
use Rattle.seal_keys.specs.Seals.{seal_len}
use Rattle.auditor.specs.Audits.{StandsFor, count_in, owner_in}
use Rattle.auditor.specs.Taking.{LeavesOthers, Takes}
use Rattle.log_files.specs.Taken.{IsUntaken}
use Rattle.sealed_files.specs.SealedFrames.{SealedFrame, bad_from, frame_len, is_whole, seal_ahead, sealed_ahead, sealed_in}
use Rattle.sealed_files.specs.Beginnings.{Begins}
use Rattle.accuser.specs.declared.taker.Taker.{Taker}
use Rattle.accuser.specs.declared.taker.Next.{Next}
use Rattle.accuser.specs.declared.taker.Next.TheVariants as next
use Rattle.accuser.specs.declared.taker.FrontFault.{FrontFault}
use Rattle.accuser.specs.declared.taker.FrontFault.TheVariants.{Stuck, Memory}
use Rattle.accuser.specs.SealBooks.{KeepsSeals, seal_in}
use Rattle.accuser.specs.Accused.{as_entry, all_sealed, first_fault, logs_of}

-- auditor, book and room are of this session
pub record IsOf (game : Game) (t : Taker) : Type 0 where
  pub session : t.auditor.session ≡ game
  pub book : t.seals.game ≡ game
  pub room : length t.seal ≡ seal_len game

-- nothing was taken yet
pub record IsFresh (game : Game) (t : Taker) : Type 0 where
  pub of_session : IsOf game t
  pub stands : StandsFor game [] [] t.auditor
  pub untaken : (i : ℕ) → IsUntaken t.auditor i
  pub unsealed : (f : TurnFrame) → seal_in t.seals f ≡ None

-- only what belongs to this file was touched
pub record Leaves (game : Game) (t t' : Taker) (file : ℕ) : Type 0 where
  pub of_session : IsOf game t'
  pub others : LeavesOthers t.auditor t'.auditor file
  pub owner : owner_in t'.auditor file ≡ owner_in t.auditor file

-- these sealed frames were taken as the next of this file
pub record TakesSealed (t t' : Taker) (file : ℕ) (ss : List SealedFrame) : Type 0 where
  pub taken : Takes t.auditor t'.auditor file (map as_entry ss)
  pub kept : KeepsSeals t.seals t'.seals ss
  pub counted : count_in t'.auditor file ≡ count_in t.auditor file + length ss

-- Whether a sealed frame is looked for at the front of bytes. If they are the last of a file, it is
-- where there are any; else where there are as many as it would have.
abbrev pub is_asked : Game → (last : Bool) → List ℕ → Bool
is_asked game true bytes = not (is_empty bytes)
is_asked game false bytes = is_whole game bytes

-- This became of the sealed frame at the front of the bytes: it was taken; none is looked for; none
-- stands there though one is looked for; or memory was wanting.
abbrev pub IsNext : Game → List (List ℕ) → (t t' : Taker) → (file : ℕ) → (last : Bool) → List ℕ → Next → Type 0
IsNext game roots t t' file last bytes (next.Took count) =
    (f : TurnFrame) × (sealed_ahead game roots bytes ≡ Some f) × (count ≡ frame_len bytes + seal_len game) × TakesSealed t t' file (record { frame = f; seal = seal_ahead game bytes } ∷ [])
IsNext game roots t t' file last bytes next.Over = (is_asked game last bytes ≡ false) × (t' ≡ t)
IsNext game roots t t' file last bytes next.Stuck = (is_asked game last bytes ≡ true) × (is_some (sealed_ahead game roots bytes) ≡ false)
IsNext game roots t t' file last bytes next.Memory = Unit {0}

-- the sealed frames before this rest of the bytes were taken
pub record TakesFront (game : Game) (roots : List (List ℕ)) (t t' : Taker) (file : ℕ) (bytes rest : List ℕ) : Type 0 where
  pub frames : List SealedFrame
  pub begins : Begins game roots bytes frames rest
  pub taken : TakesSealed t t' file frames

-- as many bytes as this were taken, and no sealed frame is looked for in the rest
pub record IsTakenTo (game : Game) (roots : List (List ℕ)) (t t' : Taker) (file : ℕ) (last : Bool) (bytes : List ℕ) (count : ℕ) : Type 0 where
  pub within : count ≤ length bytes
  pub front : TakesFront game roots t t' file bytes (drop count bytes)
  pub over : is_asked game last (drop count bytes) ≡ false

-- sealed frames come first, and where this rest begins one is looked for, and none stands there
pub record IsStuck (game : Game) (roots : List (List ℕ)) (last : Bool) (bytes rest : List ℕ) : Type 0 where
  pub frames : List SealedFrame
  pub begins : Begins game roots bytes frames rest
  pub asked : is_asked game last rest ≡ true
  pub none : is_some (sealed_ahead game roots rest) ≡ false

-- why the bytes weren't taken; want of memory has its cause outside
abbrev pub IsFrontFault : Game → List (List ℕ) → (last : Bool) → List ℕ → FrontFault → Type 0
IsFrontFault game roots last bytes (Stuck at) = (at ≤ length bytes) × IsStuck game roots last bytes (drop at bytes)
IsFrontFault game roots last bytes Memory = Unit {0}

-- the first byte of a short file at which no sealed frame stands, if there is one
abbrev pub bad_in : Game → List (List ℕ) → List ℕ → Option ℕ
bad_in game roots bytes = bad_from game roots (length bytes) 0 bytes

-- the bytes are sealed frames throughout, and these were taken
pub record TakesBytes (game : Game) (roots : List (List ℕ)) (t t' : Taker) (file : ℕ) (bytes : List ℕ) : Type 0 where
  pub sound : bad_in game roots bytes ≡ None
  pub taken : TakesSealed t t' file (sealed_in game roots bytes)

-- why not: this is the first byte at which no sealed frame stands
abbrev pub IsBytesFault : Game → List (List ℕ) → List ℕ → FrontFault → Type 0
IsBytesFault game roots bytes (Stuck at) = bad_in game roots bytes ≡ Some at
IsBytesFault game roots bytes Memory = Unit {0}

-- No file has a fault, and an auditor that stood for as many logs as the number says stands for them
-- with the files' frames behind them. The files' seals were kept.
pub record AreTaken (game : Game) (roots : List (List ℕ)) (t t' : Taker) (number : ℕ) (files : List (List ℕ)) : Type 0 where
  pub sound : first_fault game roots number files ≡ None
  pub stands : (owners : List (Option ℕ)) (logs : List (List Entry)) → length logs ≡ number → StandsFor game owners logs t.auditor →
      (more : List (Option ℕ)) × StandsFor game (owners ++ more) (logs ++ logs_of game roots files) t'.auditor
  pub kept : KeepsSeals t.seals t'.seals (all_sealed game roots files)
