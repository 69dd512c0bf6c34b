-- Ended: how reading a log's file ends, and what that says of its content.
use Rattle.std.proofs.Common.{◌≡◌, ℕ, ◌+◌, ◌<◌, ◌≤◌, Bool, true, false, List, [], ◌∷◌, ◌++◌, Option, Some, None, length, take, drop, refl, sym, ◌∙◌, ap, subst, append_assoc, append-nil, length-append, arith}
use Rattle.std.specs.Prelude.{Ok, Err, nat_lt, if◌then◌else◌}
use Rattle.std.proofs.lemmas.Bool.{le-ltb, lt-ltb}
use Rattle.std.proofs.lemmas.List.{take-append-drop, drop_all}
use Rattle.definitions.specs.declared.limits.TheConstants.{LOG_FRONT, LONGEST_LOG}
use Rattle.definitions.specs.declared.logs.Entry.{Entry}
use Rattle.definitions.specs.declared.logs.LogWhy.TheVariants as why
use Rattle.definitions.specs.World.{Game}
use Rattle.station.specs.Pieces.{Piece, GivesAt, AllGive}
use Rattle.station.specs.Shelves.{ShelfState}
use Rattle.station.specs.Since.{since}
use Rattle.line_io.specs.Fronts.{Fetched, bytes_read}
use Rattle.line_io.proofs.Pieces.{Fronted, fetched_failed, fetched_some}
use Rattle.session_log.specs.declared.faults.LogFault.{LogFault}
use Rattle.session_log.specs.Fed.{Fed, IsFeedOf}
use Rattle.session_log.specs.Feeding.{LogFeeding, finished, given_of}
use Rattle.session_log.specs.Laws as L
use Rattle.session_log.specs.Reading.{Ending, fault_at, read_log}
use Rattle.log_streams.specs.Streams.{entries_in}
use Rattle.auditor.specs.Audits.{AuditState, owner_in}
use Rattle.auditor.specs.Taking.{LeavesOthers, Takes, TakesSome}
use Rattle.auditor.proofs.Fed.{takes_more}
use Rattle.log_files.specs.declared.faults.FileFault.{FileFault}
use Rattle.log_files.specs.declared.faults.FileFault.TheVariants.{Bad, Failed, Memory}
use Rattle.log_files.specs.declared.taking.LogTaken.{LogTaken}
use Rattle.log_files.specs.declared.taking.LogTaken.TheVariants as became
use Rattle.log_files.specs.Logs.{fault_of, fault_said, log_fault, taken_by, taken_of}
use Rattle.log_files.specs.Pieces.{TakesPiece}
use Rattle.log_files.specs.Taken.{IsAnswer, IsTakenInPart, TakesLog, file_entries, is_failed}
use Rattle.log_files.proofs.Calls.{calls_entries, calls_read, entries_front, entries_none, given_by_calls}
use Rattle.log_files.proofs.Reached.{Reached, call_at, calls_now, front_now, given_at, long_now, others_on}

-- a content that begins with a text goes on behind it
goes_on : (text content : List ℕ) → text ≡ take (length text) content → content ≡ text ++ drop (length text) content
goes_on text content front = sym (take-append-drop (length text) content) ∙ ap (λ (x : List ℕ). x ++ drop (length text) content) (sym front)

-- and not where it is no longer
ends_there : (text content : List ℕ) → text ≡ take (length text) content → length content ≤ length text → content ≡ text
ends_there text content front short = goes_on text content front ∙ ap (λ (x : List ℕ). text ++ x) (drop_all (length text) content short) ∙ append-nil text

-- what was taken of the calls' entries is a front of the content's
pub in_part : (game : Game) (calls : List Piece) (a a' : AuditState) (log : ℕ) (content : Option (List ℕ)) (front behind : List Entry) → Fronted content (bytes_read calls) →
    (given_by_calls game calls).entries ≡ front ++ behind → Takes a a' log front → IsTakenInPart a a' log (file_entries game content)
in_part game calls a a' log None front behind fronted parts takes = record {
  front = front;
  behind = behind;
  parts = sym (entries_none game (bytes_read calls) fronted) ∙ sym (calls_read game calls).entries ∙ parts;
  taken = takes;
}
in_part game calls a a' log (Some bytes) front behind fronted parts takes =
    let text : List ℕ = bytes_read calls in
    let rest : List ℕ = drop (length text) bytes in
    let more : List Entry = (given_of game (given_by_calls game calls).feeding rest).entries in
    record {
      front = front;
      behind = behind ++ more;
      parts =
          ap (λ (x : List ℕ). entries_in game x) (goes_on text bytes fronted) ∙ entries_front game calls rest ∙ ap (λ (es : List Entry). es ++ more) parts
          ∙ append_assoc front behind more;
      taken = takes;
    }

-- a log that isn't too long has the fault that its reader says
pub fault_short : (game : Game) (bytes : List ℕ) (end : Ending) → length bytes ≤ LONGEST_LOG → (read_log game bytes).reader.said ≡ Some end → log_fault game bytes ≡ fault_of end
fault_short game bytes end short said = rw (le-ltb LONGEST_LOG (length bytes) short) (ap fault_said said)

pub fault_long : (game : Game) (bytes : List ℕ) → LONGEST_LOG < length bytes → log_fault game bytes ≡ Some (fault_at LONGEST_LOG why.TooLong)
fault_long game bytes long = rw (lt-ltb LONGEST_LOG (length bytes) long) refl

not_failed : (fault : Option LogFault) → is_failed (taken_by fault) ≡ false
not_failed None = refl
not_failed (Some x) = refl

-- the answer where all entries were taken
answered : (game : Game) (a a' : AuditState) (log : ℕ) (bytes : List ℕ) (fault : Option LogFault) → log_fault game bytes ≡ fault → Takes a a' log (entries_in game bytes) →
    owner_in a' log ≡ L.owner_in game bytes → IsAnswer game a a' log (Some bytes) (taken_by fault)
answered game a a' log bytes None is takes owner = record { sound = is; taken = takes; owner = owner }
answered game a a' log bytes (Some x) is takes owner = (is, record { front = entries_in game bytes; behind = []; parts = sym (append-nil (entries_in game bytes)); taken = takes })

-- the file ended
module _ (game : Game) (s b c : ShelfState) (name : List ℕ) (a a' : AuditState) (log : ℕ) (r : Fed) (at : ℕ) (w : Reached game s b name a a' log r at) where
  whole_answer : (content : Option (List ℕ)) → Fronted content (bytes_read w.calls) → GivesAt content at (Some []) → (end : Ending) → end ≡ finished (given_by_calls game w.calls).feeding →
      IsAnswer game a a' log content (taken_by (fault_of end))
  whole_answer None fronted gives end is = absurd gives
  whole_answer (Some bytes) fronted gives end is =
      let text : List ℕ = bytes_read w.calls in
      let read = calls_read game w.calls in
      let long : length text ≡ at = w.long in
      let few : at ≤ LONGEST_LOG = w.few in
      let no_more : length bytes ≤ at = gives.1 refl in
      let same : bytes ≡ text = ends_there text bytes fronted (omega (arith, long, no_more)) in
      let said : (read_log game bytes).reader.said ≡ Some end = ap (λ (x : List ℕ). (read_log game x).reader.said) same ∙ read.last ∙ ap (λ (n : Ending). Some n) (sym is) in
      answered game a a' log bytes (fault_of end) (fault_short game bytes end (omega (arith, no_more, few)) said)
      (subst (λ (es : List Entry). Takes a a' log es) (read.entries ∙ ap (λ (x : List ℕ). entries_in game x) (sym same)) w.taken)
      (w.owner ∙ w.feed.owner ∙ read.owner ∙ ap (λ (x : List ℕ). L.owner_in game x) (sym same))

  pub ended : (a'' : AuditState) (r' : Fed) → TakesPiece b c name a' a'' log r r' at (Ok None) → (end : Ending) → ((f : LogFeeding) → IsFeedOf r' f → end ≡ finished f) →
      TakesLog game s c name a a'' log (taken_by (fault_of end))
  ended a'' r' t end finish = subst (λ (x : AuditState). TakesLog game s c name a x log (taken_by (fault_of end))) (sym t.1) (record {
    fetched = subst (Fetched s c name) (sym (not_failed (fault_of end))) (fetched_some s b c name at [] w.fetching t.0);
    short =
        let long = ap (λ (ps : List Piece). length (bytes_read ps)) (calls_now game s b c name a a' log r at (Some []) w t.0) ∙ long_now game s b name a a' log r at (Some []) w in
        let few = w.few in
        omega (arith, long, few);
    long = λ over.
        let long = ap (λ (ps : List Piece). length (bytes_read ps)) (calls_now game s b c name a a' log r at (Some []) w t.0) ∙ long_now game s b name a a' log r at (Some []) w in
        let few = w.few in
        absurd (omega (arith, long, few, over));
    answer = λ content h.
        let there = given_at game s b c name a a' log r at (Some []) w t.0 content h in
        whole_answer content there.0 there.1 end (finish (given_by_calls game w.calls).feeding (subst (λ (x : Fed). IsFeedOf x (given_by_calls game w.calls).feeding) (sym t.2) w.feed));
    session = w.same;
    others = w.others;
  })

  -- all that the calls before gave was taken
  so_far : (content : Option (List ℕ)) → Fronted content (bytes_read w.calls) → IsTakenInPart a a' log (file_entries game content)
  so_far content fronted = in_part game w.calls a a' log content (given_by_calls game w.calls).entries [] fronted (sym (append-nil (given_by_calls game w.calls).entries)) w.taken

  -- the shelf failed
  failed : (a'' : AuditState) (r' : Fed) → TakesPiece b c name a' a'' log r r' at (Err Failed) → TakesLog game s c name a a'' log became.Failed
  failed a'' r' t = subst (λ (x : AuditState). TakesLog game s c name a x log became.Failed) (sym t.1) (record {
    fetched = fetched_failed s b c name at w.fetching t.0;
    short =
        let long = ap (λ (ps : List Piece). length (bytes_read ps)) (calls_now game s b c name a a' log r at None w t.0) ∙ long_now game s b name a a' log r at None w in
        let few = w.few in
        omega (arith, long, few);
    long = λ over.
        let long = ap (λ (ps : List Piece). length (bytes_read ps)) (calls_now game s b c name a a' log r at None w t.0) ∙ long_now game s b name a a' log r at None w in
        let few = w.few in
        absurd (omega (arith, long, few, over));
    answer = λ content h. so_far content (given_at game s b c name a a' log r at None w t.0 content h).0;
    session = w.same;
    others = w.others;
  })

  -- the file is too long
  long_answer : (content : Option (List ℕ)) (bytes : List ℕ) → GivesAt content at (Some bytes) → Fronted content (bytes_read w.calls) → Fronted content (bytes_read (w.calls ++ call_at name at (Some bytes) ∷ [])) →
      LONGEST_LOG < at + length bytes → IsAnswer game a a' log content (became.Bad LONGEST_LOG why.TooLong)
  long_answer None bytes gives fronted more long = absurd gives
  long_answer (Some all) bytes gives fronted more long =
      let text : List ℕ = bytes_read (w.calls ++ call_at name at (Some bytes) ∷ []) in
      let is = ap (λ (x : List ℕ). length x) (goes_on text all more) ∙ length-append text (drop (length text) all) in
      let now = long_now game s b name a a' log r at (Some bytes) w in
      (fault_long game all (omega (arith, is, now, long)), so_far (Some all) fronted)

  -- the answer is that of this fault
  bad_so : (x : AuditState) (fault : LogFault) → fault ≡ fault_at LONGEST_LOG why.TooLong → TakesLog game s c name a x log (became.Bad LONGEST_LOG why.TooLong) → TakesLog game s c name a x log (became.Bad fault.at fault.why)
  bad_so x fault is t = subst (λ (f : LogFault). TakesLog game s c name a x log (became.Bad f.at f.why)) (sym is) t

  too_long : (a'' : AuditState) (r' : Fed) (fault : LogFault) → TakesPiece b c name a' a'' log r r' at (Err (Bad fault)) → TakesLog game s c name a a'' log (became.Bad fault.at fault.why)
  too_long a'' r' fault t = bad_so a'' fault t.5 (subst (λ (x : AuditState). TakesLog game s c name a x log (became.Bad LONGEST_LOG why.TooLong)) (sym t.4) (record {
    fetched = fetched_some s b c name at t.0 w.fetching t.1;
    short =
        let long = ap (λ (ps : List Piece). length (bytes_read ps)) (calls_now game s b c name a a' log r at (Some t.0) w t.1) ∙ long_now game s b name a a' log r at (Some t.0) w in
        let within = t.3 in
        omega (arith, long, within);
    long = λ over. refl;
    answer = λ content h.
        let there = given_at game s b c name a a' log r at (Some t.0) w t.1 content h in
        long_answer content t.0 there.1 there.0 (front_now game s b c name a a' log r at t.0 w t.1 content h) t.2;
    session = w.same;
    others = w.others;
  }))

  -- memory was wanting
  wanting : (a'' : AuditState) (r' : Fed) → TakesPiece b c name a' a'' log r r' at (Err Memory) → a''.session ≡ a'.session → LeavesOthers a' a'' log →
      TakesLog game s c name a a'' log became.Memory
  wanting a'' r' t same others =
      let bytes : List ℕ = t.0 in
      let p : Piece = call_at name at (Some bytes) in
      let f : LogFeeding = (given_by_calls game w.calls).feeding in
      let es : List Entry = (given_by_calls game w.calls).entries in
      let some : TakesSome game a' a'' log bytes f = subst (λ (g : Game). TakesSome g a' a'' log bytes f) w.session (t.3 f w.feed) in
      record {
        fetched = fetched_some s b c name at bytes w.fetching t.1;
        short =
            let long = ap (λ (ps : List Piece). length (bytes_read ps)) (calls_now game s b c name a a' log r at (Some bytes) w t.1) ∙ long_now game s b name a a' log r at (Some bytes) w in
            let within = t.2 in
            omega (arith, long, within);
        long = λ over.
            let long = ap (λ (ps : List Piece). length (bytes_read ps)) (calls_now game s b c name a a' log r at (Some bytes) w t.1) ∙ long_now game s b name a a' log r at (Some bytes) w in
            let within = t.2 in
            absurd (omega (arith, long, within, over));
        answer = λ content h.
            in_part game (w.calls ++ p ∷ []) a a'' log content (es ++ some.front) some.behind (front_now game s b c name a a' log r at bytes w t.1 content h)
            (calls_entries game w.calls p ∙ ap (λ (x : List Entry). es ++ x) some.parts ∙ sym (append_assoc es some.front some.behind))
            (takes_more a a' a'' log es some.front w.taken some.taken);
        session = same ∙ w.same;
        others = others_on a a' a'' log w.others others;
      }

  -- reading stopped there, for whatever cause
  pub stopped_at : (a'' : AuditState) (r' : Fed) (x : FileFault) → TakesPiece b c name a' a'' log r r' at (Err x) → a''.session ≡ a'.session → LeavesOthers a' a'' log →
      TakesLog game s c name a a'' log (taken_of (Err x))
  stopped_at a'' r' (Bad fault) t same others = too_long a'' r' fault t
  stopped_at a'' r' Failed t same others = failed a'' r' t
  stopped_at a'' r' Memory t same others = wanting a'' r' t same others

-- the answer, where the end is told or not
pub ended_ok : (end : Ending) (u : Unit {0}) → end ≡ Ok u → taken_by (fault_of end) ≡ became.Whole
ended_ok (Ok whole) u e = refl
ended_ok (Err fault) u e = cc

pub ended_err : (end : Ending) (fault : LogFault) → end ≡ Err fault → taken_by (fault_of end) ≡ taken_of (Err (Bad fault))
ended_err end fault e = ap (λ (x : Ending). taken_by (fault_of x)) e
