-- CaseOpened: a session and an exhibit are read from their files, or not.
use Rattle.std.proofs.Common.{◌≡◌, inl, inr, List, [], ◌∷◌, ◌++◌, append-nil, append_assoc, ℕ, Option, None, Some, refl, ap, sym, ◌∙◌, subst}
use Rattle.std.specs.Prelude.{Result, Ok, Err}
use Rattle.definitions.specs.World.{Game}
use Rattle.station.specs.Outside.{faults_behind}
use Rattle.station.specs.Pieces.{Piece}
use Rattle.station.specs.Shelves.{ShelfState}
use Rattle.station.specs.Since.{since}
use Rattle.line_io.specs.Fronts.{AllShown}
use Rattle.run_frame.specs.declared.statuses.Status.{Status}
use Rattle.run_frame.specs.declared.statuses.Status.TheVariants.{BadLine, BadSession, InputFault, NoMemory}
use Rattle.run_frame.specs.declared.statuses.TextName.TheVariants.{Evidence}
use Rattle.evidence.specs.declared.exhibit.Exhibit.{Exhibit}
use Rattle.file_commands.specs.Exhibits.{IsCaseDue, IsExhibitDue, exhibit_in, with_exhibit}
use Rattle.line_io.specs.Files.{content}
use Rattle.run_frame.specs.Sessions.{OpensSession, IsDue, is_shelf_fault}
use Rattle.file_commands.specs.CaseFiles.{OpensCase, OpensExhibit}
use Rattle.run_frame.proofs.SessionRead.{game_due}

-- no session is due
none_due : (due : Result Game Status) (exhibit : Result Exhibit Status) (status : Status) → IsDue due (Err status) → IsCaseDue (with_exhibit due exhibit) (Err status)
none_due due exhibit NoMemory h = tt
none_due due exhibit InputFault h = tt
none_due due exhibit (BadSession line what) h = ap (λ d. with_exhibit d exhibit) h
none_due due exhibit status h = absurd h

-- no exhibit is due
no_exhibit_due : (game : Game) (due : Result Exhibit Status) (status : Status) → IsExhibitDue due (Err status) → IsCaseDue (with_exhibit (Ok game) due) (Err status)
no_exhibit_due game due NoMemory h = tt
no_exhibit_due game due InputFault h = tt
no_exhibit_due game due (BadLine Evidence line) h = ap (with_exhibit (Ok game)) h
no_exhibit_due game due status h = absurd h

-- a session was read, and then an exhibit or none
pub case_opened : (a b c : ShelfState) (session evidence : List ℕ) (game : Game) (exhibit : Result Exhibit Status) (case : Result (Game × Exhibit) Status) →
    OpensSession a b session (Ok game) → OpensExhibit b c evidence exhibit → is_shelf_fault case ≡ is_shelf_fault exhibit →
    ((due : Result Exhibit Status) → IsExhibitDue due exhibit → IsCaseDue (with_exhibit (Ok game) due) case) → OpensCase a c session evidence case
case_opened a b c session evidence game exhibit case o x same due =
    let first : List Piece = since a.pieces b.pieces in
    let second : List Piece = since b.pieces c.pieces in
    record {
      calls = first ∷ second ∷ [];
      reads = record {
        same = x.fetched.same ∙ o.fetched.same;
        answered = x.fetched.grows ∙ ap (λ (y : List Piece). y ++ second) o.fetched.grows ∙ append_assoc a.pieces first second ∙ ap (λ (y : List Piece). a.pieces ++ (first ++ y)) (sym (append-nil second));
        readings = (o.fetched.reading, o.fetched.shown, (x.fetched.reading, subst (λ (f : Option (List ℕ → Option (List ℕ))). AllShown f evidence second) o.fetched.same x.fetched.shown, refl));
      };
      second_due = λ content h. inr (record { game = game; read = game_due _ game (o.due content h) });
      counted = x.fetched.counted ∙ ap (faults_behind (is_shelf_fault exhibit)) o.fetched.counted ∙ ap (λ f. faults_behind f a.faults) (sym same);
      due = λ contents h. subst (λ (r : Result Game Status). IsCaseDue (with_exhibit r (exhibit_in (content contents 1))) case) (sym (o.due _ (h 0))) (due _ (x.due _ (h 1)));
    }

pub no_exhibit : (a b c : ShelfState) (session evidence : List ℕ) (game : Game) (status : Status) → OpensSession a b session (Ok game) → OpensExhibit b c evidence (Err status) → OpensCase a c session evidence (Err status)
no_exhibit a b c session evidence game status o x = case_opened a b c session evidence game (Err status) (Err status) o x refl (λ due h. no_exhibit_due game due status h)

pub an_exhibit : (a b c : ShelfState) (session evidence : List ℕ) (game : Game) (exhibit : Exhibit) → OpensSession a b session (Ok game) → OpensExhibit b c evidence (Ok exhibit) → OpensCase a c session evidence (Ok (game, exhibit))
an_exhibit a b c session evidence game exhibit o x = case_opened a b c session evidence game (Ok exhibit) (Ok (game, exhibit)) o x refl (λ due h. ap (with_exhibit (Ok game)) h)

-- no session was read
pub no_session : (a b : ShelfState) (session evidence : List ℕ) (status : Status) → OpensSession a b session (Err status) → OpensCase a b session evidence (Err status)
no_session a b session evidence status o =
    let first : List Piece = since a.pieces b.pieces in
    record {
      calls = first ∷ [] ∷ [];
      reads = record {
        same = o.fetched.same;
        answered = o.fetched.grows ∙ ap (λ (x : List Piece). a.pieces ++ x) (sym (append-nil first));
        readings = (o.fetched.reading, o.fetched.shown, (tt, none_shown a.files, refl));
      };
      second_due = λ content h. inl refl;
      counted = o.fetched.counted;
      due = λ contents h. none_due _ _ status (o.due _ (h 0));
    }
  where
    none_shown : (files : Option (List ℕ → Option (List ℕ))) → AllShown files evidence []
    none_shown None = tt
    none_shown (Some f) = tt
