-- Opening: files that are read one behind the other.
use Rattle.std.proofs.Common.{◌≡◌, ◌⊎◌, inl, inr, ℕ, zero, suc, Bool, false, List, [], ◌∷◌, ◌++◌, Option, None, Some, refl, ap, sym, ◌∙◌, subst, append_assoc, append-nil}
use Rattle.std.specs.Prelude.{Result, Err}
use Rattle.definitions.specs.Lists.{item_or}
use Rattle.definitions.specs.World.{Game}
use Rattle.station.specs.Outside.{faults_behind}
use Rattle.station.specs.Pieces.{Piece}
use Rattle.station.specs.Shelves.{ShelfState}
use Rattle.station.specs.Since.{since}
use Rattle.line_io.specs.Files.{AreContents, AreReadings, Contents, behind_first, content, in_turn}
use Rattle.line_io.proofs.Unread.{behind_are, none_at, none_in_turn, none_read, none_readings}
use Rattle.line_io.specs.Fronts.{IsFrontOf}
use Rattle.run_frame.specs.declared.statuses.Status.{Status}
use Rattle.run_frame.specs.declared.statuses.Status.TheVariants.{BadLine, BadLog, BadSeal, BadSession, InputFault, NoMemory, Usage}
use Rattle.run_frame.specs.Sessions.{IsDue}
use Rattle.run_frame.specs.Opening.{IsRefusedBy, Opens, Reads, front_in}

-- the bytes that were read of a file's front
pub front_read : (most : ℕ) (content : Option (List ℕ)) (text : List ℕ) → IsFrontOf most content text → front_in most content ≡ text
unfolding front_in
front_read most None text h = absurd h
front_read most (Some bytes) text h = sym h

-- where something is refused, what stands on it is refused so
pub refused_on : {T U : Type 0} (f : Result T Status → Result U Status) → ((status : Status) → f (Err status) ≡ Err status) → (due : Result T Status) (status : Status) → IsRefusedBy due status → IsRefusedBy (f due) status
refused_on f keeps due NoMemory h = tt
refused_on f keeps due InputFault h = tt
refused_on f keeps due Usage h = ap f h ∙ keeps Usage
refused_on f keeps due (BadSession line what) h = ap f h ∙ keeps (BadSession line what)
refused_on f keeps due (BadLine text line) h = ap f h ∙ keeps (BadLine text line)
refused_on f keeps due (BadLog log at why) h = ap f h ∙ keeps (BadLog log at why)
refused_on f keeps due (BadSeal file at) h = ap f h ∙ keeps (BadSeal file at)
refused_on f keeps due status h = absurd h

-- where no session is read, none is due
pub session_refused : (due : Result Game Status) (status : Status) → IsDue due (Err status) → IsRefusedBy due status
session_refused due NoMemory h = tt
session_refused due InputFault h = tt
session_refused due (BadSession line what) h = h
session_refused due status h = absurd h

-- nothing was read
pub reads_none : (a : ShelfState) (names : List (List ℕ)) (R : Contents → ℕ → Type 0) (P : Contents → Type 0) → ((contents : Contents) → P contents) → Reads a a names false R P
reads_none a names R P due = record {
  calls = none_read names;
  reads = record {
    same = refl;
    answered = sym (append-nil a.pieces) ∙ ap (λ (x : List Piece). a.pieces ++ x) (sym (none_in_turn names));
    readings = none_readings a.files names;
  };
  counted = refl;
  ready = λ contents h k. inl (none_at names k);
  due = λ contents h. due contents;
}

module _ (a b : ShelfState) (name : List ℕ) (names : List (List ℕ)) (P : Option (List ℕ) → Type 0) (R : Contents → ℕ → Type 0) (Q : Contents → Type 0) where
  -- the first file was read, and none behind it
  pub reads_first : (failed : Bool) → Opens a b name failed P → ((contents : Contents) → R contents 0) → ((contents : Contents) → P (content contents 0) → Q contents) → Reads a b (name ∷ names) failed R Q
  reads_first failed o ready due =
      let first : List Piece = since a.pieces b.pieces in
      record {
        calls = first ∷ none_read names;
        reads = record {
          same = o.fetched.same;
          answered = o.fetched.grows ∙ ap (λ (x : List Piece). a.pieces ++ x) (sym (append-nil first) ∙ ap (λ (x : List Piece). first ++ x) (sym (none_in_turn names)));
          readings = (o.fetched.reading, o.fetched.shown, none_readings a.files names);
        };
        counted = o.fetched.counted;
        ready = λ contents h k. turn contents k;
        due = λ contents h. due contents (o.due (content contents 0) (h 0));
      }
    where
      turn : (contents : Contents) → (k : ℕ) → (item_or (since a.pieces b.pieces ∷ none_read names) k [] ≡ []) ⊎ R contents k
      turn contents zero = inr (ready contents)
      turn contents (suc k) = inl (none_at names k)

  -- the first file was read, and then the others
  pub reads_then : (c : ShelfState) (failed : Bool) (R' : Contents → ℕ → Type 0) (Q' : Contents → Type 0) → Opens a b name false P → Reads b c names failed R' Q' →
      ((contents : Contents) → R contents 0) → ((contents : Contents) → P (content contents 0) → (k : ℕ) → R' (behind_first contents) k → R contents (suc k)) →
      ((contents : Contents) → P (content contents 0) → Q' (behind_first contents) → Q contents) → Reads a c (name ∷ names) failed R Q
  reads_then c failed R' Q' o r ready more due =
      let first : List Piece = since a.pieces b.pieces in
      record {
        calls = first ∷ r.calls;
        reads = record {
          same = r.reads.same ∙ o.fetched.same;
          answered = r.reads.answered ∙ ap (λ (x : List Piece). x ++ in_turn r.calls) o.fetched.grows ∙ append_assoc a.pieces first (in_turn r.calls);
          readings = (o.fetched.reading, o.fetched.shown, subst (λ (f : Option (List ℕ → Option (List ℕ))). AreReadings f names r.calls) o.fetched.same r.reads.readings);
        };
        counted = r.counted ∙ ap (faults_behind failed) o.fetched.counted;
        ready = λ contents h k. turn contents h k;
        due = λ contents h. due contents (o.due (content contents 0) (h 0)) (r.due (behind_first contents) (behind_are contents first r.calls h));
      }
    where
      turn : (contents : Contents) → AreContents contents (since a.pieces b.pieces ∷ r.calls) → (k : ℕ) → (item_or (since a.pieces b.pieces ∷ r.calls) k [] ≡ []) ⊎ R contents k
      turn contents h zero = inr (ready contents)
      turn contents h (suc k) = elim (r.ready (behind_first contents) (behind_are contents (since a.pieces b.pieces) r.calls h) k) [
        | inl e ↦ inl e
        | inr e ↦ inr (more contents (o.due (content contents 0) (h 0)) k e)
      ]
