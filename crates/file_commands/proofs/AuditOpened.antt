-- AuditOpened: the logs of a session are taken from their files, or not.
use Rattle.std.proofs.Common.{◌≡◌, ◌⊎◌, inl, inr, ℕ, suc, List, [], ◌∷◌, ◌++◌, Option, length, refl, ap, sym, ◌∙◌, subst, append_assoc, append-nil}
use Rattle.std.specs.Prelude.{Result, Ok, Err}
use Rattle.session_log.specs.declared.faults.LogFault.{LogFault}
use Rattle.definitions.specs.Lists.{item_or}
use Rattle.definitions.specs.World.{Game}
use Rattle.station.specs.Outside.{faults_behind}
use Rattle.station.specs.Pieces.{Piece}
use Rattle.station.specs.Shelves.{ShelfState}
use Rattle.station.specs.Since.{since}
use Rattle.line_io.specs.Files.{AreContents, AreReadings, Contents, in_turn, content, behind_first}
use Rattle.auditor.specs.Audits.{AuditState, StandsFor}
use Rattle.log_files.specs.Several.{TakesFiles}
use Rattle.log_files.specs.declared.several.LogsTaken.TheVariants as became
use Rattle.line_io.proofs.Unread.{behind_are, none_at, none_in_turn, none_read, none_readings}
use Rattle.run_frame.specs.declared.statuses.Status.{Status}
use Rattle.run_frame.specs.declared.statuses.Status.TheVariants.{BadLog, BadSession, InputFault, NoMemory}
use Rattle.file_commands.specs.declared.audits.Audited.{Audited}
use Rattle.file_commands.specs.Audits.{IsAuditDue, IsSoundBefore, IsTakenFor, OpensAudit, TakesAll}
use Rattle.run_frame.specs.Sessions.{OpensSession, IsDue, is_shelf_fault}
use Rattle.run_frame.proofs.SessionRead.{game_due}

-- The logs were taken from their files, or not.
module _ (game : Game) (b c : ShelfState) (names : List (List ℕ)) (a a' : AuditState) where
  pub whole_all : StandsFor game [] [] a → TakesFiles game b c names a a' 0 became.Whole → TakesAll game b c names (Ok a')
  whole_all stands t = record {
    calls = t.calls;
    reads = t.reads;
    counted = t.counted;
    due = t.due;
    answer = λ files h. let w = t.answer files h in (w.0, w.1 [] [] refl stands);
  }

  pub bad_all : (log : ℕ) (fault : LogFault) → TakesFiles game b c names a a' 0 (became.Bad log fault) → TakesAll game b c names (Err (BadLog log fault.at fault.why))
  bad_all log fault t = record { calls = t.calls; reads = t.reads; counted = t.counted; due = t.due; answer = t.answer }

  pub failed_all : TakesFiles game b c names a a' 0 became.Failed → TakesAll game b c names (Err InputFault)
  failed_all t = record { calls = t.calls; reads = t.reads; counted = t.counted; due = t.due; answer = t.answer }

  pub memory_all : TakesFiles game b c names a a' 0 became.Memory → TakesAll game b c names (Err NoMemory)
  memory_all t = record { calls = t.calls; reads = t.reads; counted = t.counted; due = t.due; answer = t.answer }

-- memory was wanting before the first log
pub none_all : (game : Game) (s : ShelfState) (names : List (List ℕ)) → TakesAll game s s names (Err NoMemory)
none_all game s names = record {
  calls = none_read names;
  reads = record {
    same = refl;
    answered = sym (append-nil s.pieces) ∙ ap (λ (x : List Piece). s.pieces ++ x) (sym (none_in_turn names));
    readings = none_readings s.files names;
  };
  counted = refl;
  due = λ files h i. inl (none_at names i);
  answer = λ files h. tt;
}

-- a session was read, and then the logs were taken or not
module _ (a b c : ShelfState) (session : List ℕ) (names : List (List ℕ)) where
  audit_opened : (game : Game) (taken : Result AuditState Status) (audit : Result Audited Status) → OpensSession a b session (Ok game) → TakesAll game b c names taken →
      is_shelf_fault audit ≡ is_shelf_fault taken → ((files : Contents) → IsTakenFor game files (length names) taken → IsAuditDue (Ok game) files (length names) audit) →
      OpensAudit a c session names audit
  audit_opened game taken audit o t same due =
      let first : List Piece = since a.pieces b.pieces in
      record {
        calls = first ∷ t.calls;
        reads = record {
          same = t.reads.same ∙ o.fetched.same;
          answered = t.reads.answered ∙ ap (λ (x : List Piece). x ++ in_turn t.calls) o.fetched.grows ∙ append_assoc a.pieces first (in_turn t.calls);
          readings = (o.fetched.reading, o.fetched.shown, subst (λ (f : Option (List ℕ → Option (List ℕ))). AreReadings f names t.calls) o.fetched.same t.reads.readings);
        };
        logs_due = λ contents h many. logs_due contents h many;
        counted = t.counted ∙ ap (faults_behind (is_shelf_fault taken)) o.fetched.counted ∙ ap (λ f. faults_behind f a.faults) (sym same);
        due = λ contents h.
            subst (λ (r : Result Game Status). IsAuditDue r (behind_first contents) (length names) audit) (sym (o.due (content contents 0) (h 0)))
            (due (behind_first contents) (t.answer (behind_first contents) (behind_are contents first t.calls h)));
      }
    where
      logs_due : (contents : Contents) → AreContents contents (since a.pieces b.pieces ∷ t.calls) → (many : ℕ) → (item_or (since a.pieces b.pieces ∷ t.calls) (suc many) [] ≡ []) ⊎ IsSoundBefore contents many
      logs_due contents h many = elim (t.due (behind_first contents) (behind_are contents (since a.pieces b.pieces) t.calls h) many) [
        | inl e ↦ inl e
        | inr e ↦ inr (record { game = game; read = game_due _ game (o.due (content contents 0) (h 0)); sound = e })
      ]

  pub an_audit : (audited : Audited) → OpensSession a b session (Ok audited.session) → TakesAll audited.session b c names (Ok audited.auditor) → OpensAudit a c session names (Ok audited)
  an_audit audited o t = audit_opened audited.session (Ok audited.auditor) (Ok audited) o t refl (λ files is. record { read = refl; sound = is.0; stands = is.1 })

  refused_due : (game : Game) (files : Contents) (many : ℕ) (status : Status) → IsTakenFor game files many (Err status) → IsAuditDue (Ok game) files many (Err status)
  refused_due game files many NoMemory is = tt
  refused_due game files many InputFault is = tt
  refused_due game files many (BadLog log at why) is = (game, refl, is)
  refused_due game files many status is = absurd is

  pub no_audit : (game : Game) (status : Status) → OpensSession a b session (Ok game) → TakesAll game b c names (Err status) → OpensAudit a c session names (Err status)
  no_audit game status o t = audit_opened game (Err status) (Err status) o t refl (λ files is. refused_due game files (length names) status is)

-- no session was read
unread_due : (due : Result Game Status) (files : Contents) (many : ℕ) (status : Status) → IsDue due (Err status) → IsAuditDue due files many (Err status)
unread_due due files many NoMemory d = tt
unread_due due files many InputFault d = tt
unread_due due files many (BadSession line what) d = d
unread_due due files many status d = absurd d

pub no_audited : (a b : ShelfState) (session : List ℕ) (names : List (List ℕ)) (status : Status) → OpensSession a b session (Err status) → OpensAudit a b session names (Err status)
no_audited a b session names status o =
    let first : List Piece = since a.pieces b.pieces in
    record {
      calls = first ∷ none_read names;
      reads = record {
        same = o.fetched.same;
        answered = o.fetched.grows ∙ ap (λ (x : List Piece). a.pieces ++ x) (sym (append-nil first) ∙ ap (λ (x : List Piece). first ++ x) (sym (none_in_turn names)));
        readings = (o.fetched.reading, o.fetched.shown, none_readings a.files names);
      };
      logs_due = λ contents h many. inl (none_at names many);
      counted = o.fetched.counted;
      due = λ contents h. unread_due _ (behind_first contents) (length names) status (o.due (content contents 0) (h 0));
    }
