-- Shelved: files of sealed frames are taken from a shelf one behind the other.
use Rattle.std.proofs.Common.{◌≡◌, ◌⊎◌, inl, inr, ℕ, zero, suc, ◌+◌, ◌<◌, ◌≤◌, arith, Bool, false, List, [], ◌∷◌, ◌++◌, Option, None, Some, length, refl, sym, ◌∙◌, ap, subst, append_assoc, append-nil}
use Rattle.std.specs.Prelude.{Result, Ok, Err, option_map}
use Rattle.std.specs.Option.{option_or}
use Rattle.definitions.specs.declared.limits.TheConstants.{LOG_FRONT}
use Rattle.definitions.specs.Lists.{EachIs, item_or}
use Rattle.definitions.specs.World.{Game}
use Rattle.station.specs.Outside.{faults_behind}
use Rattle.station.specs.Pieces.{Piece}
use Rattle.station.specs.Shelves.{ShelfState}
use Rattle.station.specs.Since.{since}
use Rattle.line_io.specs.Files.{AreContents, AreReadings, Contents, behind_first, in_turn}
use Rattle.line_io.specs.Fronts.{bytes_read}
use Rattle.line_io.proofs.Unread.{behind_are, none_at, none_in_turn, none_read, none_readings}
use Rattle.frame_index.specs.declared.limits.TheConstants.{MOST_LOGS}
use Rattle.auditor.specs.Audits.{owner_in}
use Rattle.log_files.specs.Several.{first_bytes}
use Rattle.log_files.specs.Taken.{IsThere}
use Rattle.sealed_files.specs.SealedFrames.{first_bad}
use Rattle.accuser.specs.declared.taker.Taker.{Taker}
use Rattle.accuser.specs.declared.pieces.FileFault.{FileFault}
use Rattle.accuser.specs.declared.pieces.FileFault.TheVariants as stop
use Rattle.accuser.specs.declared.opened.FilesFault.{FilesFault}
use Rattle.accuser.specs.declared.opened.FilesFault.TheVariants.{BadSeal, Failed, Memory}
use Rattle.accuser.specs.Accused.{first_fault}
use Rattle.accuser.specs.Taking.{IsFresh, Leaves}
use Rattle.accuser.specs.Opened.{AreAnswered, IsAccusation, IsAnswer, IsFileTaken, ReadsSealed, TakesFile, bytes_of, is_failed, is_shelf_failed, stopped_by}
use Rattle.accuser.specs.SealedReports.{IsReportOn, SealedReported}
use Rattle.accuser.proofs.Several.{accused, more_taken, sound_first}

-- where the file is there, its bytes are the first
there_first : (files : Contents) (P : List ℕ → Type 0) → IsThere (item_or files 0 None) P → P (first_bytes files)
there_first [] P h = absurd h
there_first (None ∷ files) P h = absurd h
there_first (Some bytes ∷ files) P h = h

-- of a file that isn't read no byte is
none_long : (names : List (List ℕ)) → EachIs (λ pieces. length (bytes_read pieces) ≤ LOG_FRONT) (none_read names)
none_long [] = tt
none_long (name ∷ names) = (omega arith, none_long names)

-- nothing is read
pub nothing_read : (game : Game) (roots : List (List ℕ)) (s : ShelfState) (names : List (List ℕ)) (number : ℕ) (P : List (List ℕ) → Type 0) → ((files : Contents) → P (bytes_of files (length names))) →
    ReadsSealed game roots s s names number false P
nothing_read game roots s names number P so = record {
  calls = none_read names;
  reads = record {
    same = refl;
    answered = sym (append-nil s.pieces) ∙ ap (λ (x : List Piece). s.pieces ++ x) (sym (none_in_turn names));
    readings = none_readings s.files names;
  };
  short = none_long names;
  counted = refl;
  due = λ files h i. inl (none_at names i);
  answer = λ files h. so files;
}

-- the first file wasn't taken whole: nothing is read behind it
module _ (game : Game) (roots : List (List ℕ)) (b c : ShelfState) (name : List ℕ) (names : List (List ℕ)) (t t' : Taker) (number : ℕ) where
  pub stopped : (x : FileFault) → TakesFile game roots b c name t t' number (Err x) →
      ReadsSealed game roots b c (name ∷ names) number (is_shelf_failed {T = Unit {0}} (Err (stopped_by number x))) (λ files. AreAnswered game roots t t' number files (Err (stopped_by number x)))
  stopped x w =
      let first : List Piece = since b.pieces c.pieces in
      record {
        calls = first ∷ none_read names;
        reads = record {
          same = w.fetched.same;
          answered = w.fetched.grows ∙ ap (λ (x : List Piece). b.pieces ++ x) (sym (append-nil first) ∙ ap (λ (x : List Piece). first ++ x) (sym (none_in_turn names)));
          readings = (w.fetched.reading, w.fetched.shown, none_readings b.files names);
        };
        short = (w.short, none_long names);
        counted = w.fetched.counted ∙ ap (λ f. faults_behind f b.faults) (failed_so x);
        due = λ files h i. due files i;
        answer = λ files h. answer x files (w.answer (item_or files 0 None) (h 0));
      }
    where
      failed_so : (x : FileFault) → is_failed (Err x) ≡ is_shelf_failed {T = Unit {0}} (Err (stopped_by number x))
      failed_so (stop.Bad at) = refl
      failed_so stop.Failed = refl
      failed_so stop.Memory = refl

      due : (files : Contents) (i : ℕ) → (item_or (since b.pieces c.pieces ∷ none_read names) i [] ≡ []) ⊎ (first_fault game roots number (bytes_of files i) ≡ None)
      due files zero = inr refl
      due files (suc i) = inl (none_at names i)

      answer : (x : FileFault) (files : Contents) → IsAnswer game roots t t' number (item_or files 0 None) (Err x) → AreAnswered game roots t t' number (bytes_of files (length (name ∷ names))) (Err (stopped_by number x))
      answer (stop.Bad at) files is =
          ap (λ o. option_or (option_map (λ y. (number, y)) o) (first_fault game roots (number + 1) (bytes_of (behind_first files) (length names))))
          (there_first files (λ bytes. first_bad game roots bytes ≡ Some at) is)
      answer stop.Failed files is = tt
      answer stop.Memory files is = tt

-- the first file was taken, and then the others
module _ (game : Game) (roots : List (List ℕ)) (b c d : ShelfState) (name : List ℕ) (names : List (List ℕ)) (t t' t'' : Taker) (number : ℕ) (few : number < MOST_LOGS) (unowned : owner_in t.auditor number ≡ None) where
  answers : (files : Contents) (r : Result (Unit {0}) FilesFault) → IsFileTaken game roots t t' number (first_bytes files) → Leaves game t t' number →
      AreAnswered game roots t' t'' (number + 1) (bytes_of (behind_first files) (length names)) r → AreAnswered game roots t t'' number (bytes_of files (length (name ∷ names))) r
  answers files (Ok all) is leaves rest = more_taken game roots number (first_bytes files) (bytes_of (behind_first files) (length names)) t t' t'' few is leaves unowned rest
  answers files (Err (BadSeal place at)) is leaves rest = sound_first game roots number (first_bytes files) (bytes_of (behind_first files) (length names)) is.sound ∙ rest
  answers files (Err Failed) is leaves rest = tt
  answers files (Err Memory) is leaves rest = tt

  pub goes_on : (r : Result (Unit {0}) FilesFault) → TakesFile game roots b c name t t' number (Ok tt) →
      ReadsSealed game roots c d names (number + 1) (is_shelf_failed r) (λ files. AreAnswered game roots t' t'' (number + 1) files r) →
      ReadsSealed game roots b d (name ∷ names) number (is_shelf_failed r) (λ files. AreAnswered game roots t t'' number files r)
  goes_on r w u =
      let first : List Piece = since b.pieces c.pieces in
      record {
        calls = first ∷ u.calls;
        reads = record {
          same = u.reads.same ∙ w.fetched.same;
          answered = u.reads.answered ∙ ap (λ (x : List Piece). x ++ in_turn u.calls) w.fetched.grows ∙ append_assoc b.pieces first (in_turn u.calls);
          readings = (w.fetched.reading, w.fetched.shown, subst (λ (f : Option (List ℕ → Option (List ℕ))). AreReadings f names u.calls) w.fetched.same u.reads.readings);
        };
        short = (w.short, u.short);
        counted = u.counted ∙ ap (faults_behind (is_shelf_failed r)) w.fetched.counted;
        due = λ files h i. due files h i;
        answer = λ files h.
            let is = there_first files (IsFileTaken game roots t t' number) (w.answer (item_or files 0 None) (h 0)) in
            answers files r is w.leaves (u.answer (behind_first files) (behind_are files first u.calls h));
      }
    where
      due : (files : Contents) → AreContents files (since b.pieces c.pieces ∷ u.calls) → (i : ℕ) → (item_or (since b.pieces c.pieces ∷ u.calls) i [] ≡ []) ⊎ (first_fault game roots number (bytes_of files i) ≡ None)
      due files h zero = inr refl
      due files h (suc i) = elim (u.due (behind_first files) (behind_are files (since b.pieces c.pieces) u.calls h) i) [
        | inl e ↦ inl e
        | inr e ↦
            let is = there_first files (IsFileTaken game roots t t' number) (w.answer (item_or files 0 None) (h 0)) in
            inr (sound_first game roots number (first_bytes files) (bytes_of (behind_first files) i) is.sound ∙ e)
      ]

-- what is answered by the taker's files is answered of the whole
pub read_so : (game : Game) (roots : List (List ℕ)) (b c : ShelfState) (names : List (List ℕ)) (number : ℕ) (failed failed' : Bool) (P Q : List (List ℕ) → Type 0) → failed ≡ failed' → ((files : List (List ℕ)) → P files → Q files) →
    ReadsSealed game roots b c names number failed P → ReadsSealed game roots b c names number failed' Q
read_so game roots b c names number failed failed' P Q same so w = record {
  calls = w.calls;
  reads = w.reads;
  short = w.short;
  counted = w.counted ∙ ap (λ (f : Bool). faults_behind f b.faults) same;
  due = w.due;
  answer = λ files h. so (bytes_of files (length names)) (w.answer files h);
}

-- ---- the accusation by files of these names

same_failure : (x : FilesFault) → is_shelf_failed {T = Unit {0}} (Err x) ≡ is_shelf_failed {T = SealedReported} (Err x)
same_failure (BadSeal place at) = refl
same_failure Failed = refl
same_failure Memory = refl

-- the answer to them is this
abbrev pub Answers : Game → List (List ℕ) → (b c : ShelfState) → List (List ℕ) → Result SealedReported FilesFault → Type 0
Answers game roots b c names r = ReadsSealed game roots b c names 0 (is_shelf_failed r) (λ files. IsAccusation game roots files r)

-- what was taken of them
abbrev pub Took : Game → List (List ℕ) → (b c : ShelfState) → List (List ℕ) → (t t' : Taker) → Result (Unit {0}) FilesFault → Type 0
Took game roots b c names t t' r = ReadsSealed game roots b c names 0 (is_shelf_failed r) (λ files. AreAnswered game roots t t' 0 files r)

pub files_refused : (game : Game) (roots : List (List ℕ)) (b c : ShelfState) (names : List (List ℕ)) (t t' : Taker) (r : Result (Unit {0}) FilesFault) (x : FilesFault) → r ≡ Err x →
    Took game roots b c names t t' r → Answers game roots b c names (Err x)
files_refused game roots b c names t t' r x same w =
    read_so game roots b c names 0 (is_shelf_failed {T = Unit {0}} (Err x)) (is_shelf_failed {T = SealedReported} (Err x)) (λ files. AreAnswered game roots t t' 0 files (Err x)) (λ files. IsAccusation game roots files (Err x))
    (same_failure x) (λ files is. is) (subst (Took game roots b c names t t') same w)

pub files_accuse : (game : Game) (roots : List (List ℕ)) (b c : ShelfState) (names : List (List ℕ)) (t t' : Taker) (r : Result (Unit {0}) FilesFault) (u : Unit {0}) (report : SealedReported) → r ≡ Ok u → IsFresh game t →
    Took game roots b c names t t' r → IsReportOn t' report → Answers game roots b c names (Ok report)
files_accuse game roots b c names t t' r u report same fresh w is =
    read_so game roots b c names 0 (is_shelf_failed {T = Unit {0}} (Ok u)) false (λ files. AreAnswered game roots t t' 0 files (Ok u)) (λ files. IsAccusation game roots files (Ok report))
    refl (λ files taken. accused game roots files t t' report fresh taken is) (subst (Took game roots b c names t t') same w)

-- memory was wanting after they were read
pub files_lacking : (game : Game) (roots : List (List ℕ)) (b c : ShelfState) (names : List (List ℕ)) (t t' : Taker) (r : Result (Unit {0}) FilesFault) (u : Unit {0}) → r ≡ Ok u →
    Took game roots b c names t t' r → Answers game roots b c names (Err Memory)
files_lacking game roots b c names t t' r u same w =
    read_so game roots b c names 0 (is_shelf_failed {T = Unit {0}} (Ok u)) false (λ files. AreAnswered game roots t t' 0 files (Ok u)) (λ files. IsAccusation game roots files (Err Memory))
    refl (λ files taken. tt) (subst (Took game roots b c names t t') same w)
