-- Law: all that is promised of one command, by what its files hold and by its input. Each command has a page
-- with its law, in its own crate.
use Rattle.std.specs.Prelude.{◌≡◌, ℕ, Bool, false, true, List}
use Rattle.station.specs.Shelves.{ShelfState}
use Rattle.line_io.specs.Files.{Calls, Contents, ReadsFiles}
use Rattle.line_io.specs.Inputs.{Input}
use Rattle.run_frame.specs.Frame.{Answer}
use Rattle.run_frame.specs.Outside.{Answered, Outside}
use Rattle.run_frame.specs.declared.statuses.Status.{Status}
use Rattle.run_frame.specs.declared.statuses.Status.TheVariants.{Done, NoMemory, InputFault, OutputFault}

pub record Law : Type 1 where
  -- the files that it names, in the order of its words
  pub names : List (List ℕ)
  -- of these nothing is read, as long as others don't ask for it
  pub due : (before after : ShelfState) → Calls → Type 0
  -- what it asks of the shelf after those files, and at which places: nothing, but for a command that
  -- gives a file on piece by piece
  pub asks : (before after : ShelfState) → Type 0
  -- what it writes and how it ends, where it makes no call of the station and none of the post
  pub answer : Contents → Input → Answer
  -- what it does and how it ends, where it makes calls of one of the two, before the line of its status
  pub plays : Contents → (before after : Outside) → Status → Type 0
  -- nothing is due by its input
  pub over : Contents → Type 0
  -- where it came to its end, its input was read to its end
  pub through : Status → (ended : Bool) → Type 0
  -- whether it takes memory at all, so that it may be wanting
  pub memory : Bool
  -- whether it takes memory after its first byte too, so that a front of its text may stand before the line
  -- for want of memory
  pub late : Bool
  -- whether it takes its memory before it reads its input, so that the input is left alone where memory is
  -- wanting
  pub first : Bool
  -- why it may end so; want of memory and faults have their causes outside
  pub cause : Contents → Input → Status → Type 0
  -- words, files, input and what the calls of the station and the post answered are such that it comes
  -- to its end
  pub good : Contents → Input → Answered → Type 0
  -- how it ends then
  pub ends : Status → Type 0
  -- what is behind its answer
  pub meant : Contents → Input → Type 0

-- The law of a command that reads its input and makes no call of the station or the post.
abbrev pub law_without_sockets : (names : List (List ℕ)) → (due : (before after : ShelfState) → Calls → Type 0) → (answer : Contents → Input → Answer) →
    (over : Contents → Type 0) → (through : Status → (ended : Bool) → Type 0) → (first : Bool) → (cause : Contents → Input → Status → Type 0) →
    (good : Contents → Input → Type 0) → (meant : Contents → Input → Type 0) → Law
law_without_sockets names due answer over through first cause good meant = record {
  names = names;
  due = due;
  asks = λ before after. after ≡ before;
  answer = answer;
  plays = λ contents before after status. ⊥;
  over = over;
  through = through;
  memory = true;
  late = false;
  first = first;
  cause = cause;
  good = λ contents input answered. good contents input;
  ends = λ status. status ≡ Done;
  meant = meant;
}

-- The law of a command that reads no input and makes no call of the station or the post, and takes all its
-- memory before its first byte.
abbrev pub law_without_input : (names : List (List ℕ)) → (due : (before after : ShelfState) → Calls → Type 0) → (answer : Contents → Answer) →
    (cause : Contents → Status → Type 0) → (good : Contents → Type 0) → (meant : Contents → Type 0) → Law
law_without_input names due answer cause good meant =
    law_without_sockets names due (λ contents input. answer contents) (λ contents. Unit {0}) (λ status ended. Unit {0}) true
    (λ contents input status. cause contents status) (λ contents input. good contents) (λ contents input. meant contents)

-- What a command reads of its files.
pub record ReadsFor (law : Law) (before after : ShelfState) (calls : Calls) : Type 0 where
  pub reads : ReadsFiles law.names before after calls
  pub due : law.due before after calls

-- why a run may end so
abbrev pub HasCause : Law → Contents → Input → Status → Type 0
HasCause law contents input NoMemory = Unit {0}
HasCause law contents input InputFault = Unit {0}
HasCause law contents input OutputFault = Unit {0}
HasCause law contents input status = law.cause contents input status
