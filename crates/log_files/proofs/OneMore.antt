-- OneMore: logs are taken one behind the other.
use Rattle.std.proofs.Common.{◌≡◌, ◌⊎◌, inl, inr, ℕ, zero, suc, ◌+◌, ◌-◌, ◌<◌, ◌≤◌, Bool, true, false, List, [], ◌∷◌, ◌++◌, Option, None, Some, length, map, drop, take, refl, sym, ◌∙◌, ap, subst, append_assoc, append-nil, length-append, arith}
use Rattle.std.specs.Prelude.{Err, option_map, slice_index_or}
use Rattle.std.proofs.lemmas.List.{take_all}
use Rattle.std.proofs.Math.ListN.{get_or-map}
use Rattle.std.specs.Option.{option_or}
use Rattle.std.proofs.lemmas.Bool.{cases_lt}
use Rattle.definitions.specs.declared.logs.Entry.{Entry}
use Rattle.session_log.specs.declared.faults.LogFault.{LogFault}
use Rattle.definitions.specs.Lists.{item_or}
use Rattle.definitions.specs.World.{Game}
use Rattle.definitions.proofs.Items.{item_is}
use Rattle.station.specs.Outside.{faults_behind}
use Rattle.station.specs.Pieces.{AllGive, Piece}
use Rattle.station.specs.Shelves.{ShelfState}
use Rattle.station.specs.Since.{since}
use Rattle.line_io.specs.Files.{AreContents, AreReadings, Calls, Contents, ReadsFiles, behind_first, in_turn}
use Rattle.line_io.proofs.Unread.{behind_are, none_at, none_in_turn, none_read, none_readings}
use Rattle.frame_index.specs.declared.limits.TheConstants.{MOST_LOGS}
use Rattle.session_log.specs.Laws as L
use Rattle.log_streams.specs.Streams.{entries_in}
use Rattle.auditor.specs.Audits.{AuditState, IsAuditOf, StandsFor, owner_in, padded}
use Rattle.auditor.specs.Taking.{LeavesOthers, Takes, with_entries}
use Rattle.auditor.proofs.Behind.{item_last, item_more, next_log}
use Rattle.log_files.specs.declared.faults.FileFault.{FileFault}
use Rattle.log_files.specs.declared.faults.FileFault.TheVariants as file
use Rattle.log_files.specs.Logs.{log_fault, taken_of}
use Rattle.log_files.specs.Taken.{IsAnswer, IsTaken, IsThere, TakesLog, is_failed}
use Rattle.log_files.specs.Several.{AreAnswered, FaultyLog, TakesFiles, TakesLogs, first_bytes, first_fault, is_shelf_failed, logs_in, of_log, owners_in, stopped_by}
use Rattle.log_files.specs.declared.taking.LogTaken.{LogTaken}
use Rattle.log_files.specs.declared.taking.LogTaken.TheVariants as became
use Rattle.log_files.specs.declared.several.LogsTaken.{LogsTaken}
use Rattle.log_files.specs.declared.several.LogsTaken.TheVariants.{Whole, Bad, Failed, Memory}

-- the auditor stands for one log more
pub one_more_log : (game : Game) (owners : List (Option ℕ)) (logs : List (List Entry)) (a a' : AuditState) (number : ℕ) (es : List Entry) (o : Option ℕ) → number < MOST_LOGS → length logs ≡ number →
    StandsFor game owners logs a → Takes a a' number es → owner_in a' number ≡ o → LeavesOthers a a' number → StandsFor game (owners ++ o ∷ []) (logs ++ es ∷ []) a'
one_more_log game owners logs a a' number es o few long stands takes owner others =
    let at : length owners ≡ number = stands.each ∙ long in
    record {
      audit =
          let taken : IsAuditOf game (with_entries (padded logs (MOST_LOGS - length logs)) number es) a' = takes game (padded logs (MOST_LOGS - length logs)) stands.audit in
          subst (λ (ls : List (List Entry)). IsAuditOf game ls a')
          (ap (λ n. with_entries (padded logs (MOST_LOGS - length logs)) n es) (sym long) ∙ next_log logs es (omega (arith, few, long))) taken;
      owners_are = λ i. own at i (cases_lt i number);
      each = length-append owners (o ∷ []) ∙ ap (λ n. n + 1) stands.each ∙ sym (length-append logs (es ∷ []));
    }
  where
    other : length owners ≡ number → (i : ℕ) → (i ≡ number → ⊥) → owner_in a' i ≡ item_or (owners ++ o ∷ []) i None
    other at i not = (others i not).1 ∙ stands.owners_are i ∙ sym (item_more owners o i (λ e. not (e ∙ at)))

    past : length owners ≡ number → (i : ℕ) → (number < i) ⊎ (i ≤ number) → number ≤ i → owner_in a' i ≡ item_or (owners ++ o ∷ []) i None
    past at i (inl above) le = other at i (λ e. absurd (omega (arith, above, e)))
    past at i (inr below) le =
        let same : i ≡ number = omega (arith, below, le) in
        ap (owner_in a') same ∙ owner ∙ sym (item_last owners o) ∙ ap (λ n. item_or (owners ++ o ∷ []) n None) (at ∙ sym same)

    own : length owners ≡ number → (i : ℕ) → (i < number) ⊎ (number ≤ i) → owner_in a' i ≡ item_or (owners ++ o ∷ []) i None
    own at i (inl below) = other at i (λ e. absurd (omega (arith, below, e)))
    own at i (inr le) = past at i (cases_lt number i) le

-- where the file is there, its bytes are the first
there_first : (files : Contents) (P : List ℕ → Type 0) → IsThere (item_or files 0 None) P → P (first_bytes files)
there_first [] P h = absurd h
there_first (None ∷ files) P h = absurd h
there_first (Some bytes ∷ files) P h = h

-- no names
pub none_taken : (game : Game) (s : ShelfState) (a : AuditState) (number : ℕ) → TakesFiles game s s [] a a number Whole
none_taken game s a number = record {
  calls = [];
  reads = record { same = refl; answered = sym (append-nil s.pieces); readings = refl };
  counted = refl;
  due = λ files h i. inl refl;
  answer = λ files h. (
    refl,
    λ owners logs long stands. subst (λ (os : List (Option ℕ)). StandsFor game os (logs ++ []) a) (sym (append-nil owners))
        (subst (λ (ls : List (List Entry)). StandsFor game owners ls a) (sym (append-nil logs)) stands),
  );
}

-- the first log is none, or wasn't read to its end: nothing is read behind it
module _ (game : Game) (b c : ShelfState) (name : List ℕ) (names : List (List ℕ)) (a a' : AuditState) (number : ℕ) where
  stopped : (one : LogTaken) (all : LogsTaken) → is_failed one ≡ is_shelf_failed all → TakesLog game b c name a a' number one →
      ((files : Contents) → IsAnswer game a a' number (item_or files 0 None) one → AreAnswered game a a' files number (length (name ∷ names)) all) → TakesFiles game b c (name ∷ names) a a' number all
  stopped one all same t answer =
      let first : List Piece = since b.pieces c.pieces in
      record {
        calls = first ∷ none_read names;
        reads = record {
          same = t.fetched.same;
          answered = t.fetched.grows ∙ ap (λ (x : List Piece). b.pieces ++ x) (sym (append-nil first) ∙ ap (λ (x : List Piece). first ++ x) (sym (none_in_turn names)));
          readings = (t.fetched.reading, t.fetched.shown, none_readings b.files names);
        };
        counted = t.fetched.counted ∙ ap (λ f. faults_behind f b.faults) same;
        due = λ files h i. due files i;
        answer = λ files h. answer files (t.answer (item_or files 0 None) (h 0));
      }
    where
      due : (files : Contents) (i : ℕ) → (item_or (since b.pieces c.pieces ∷ none_read names) i [] ≡ []) ⊎ (first_fault game files number i ≡ None)
      due files zero = inr refl
      due files (suc i) = inl (none_at names i)

  bad_taken : (fault : LogFault) → TakesLog game b c name a a' number (became.Bad fault.at fault.why) → TakesFiles game b c (name ∷ names) a a' number (Bad number fault)
  bad_taken fault t = stopped (became.Bad fault.at fault.why) (Bad number fault) refl t (λ files is.
      ap (λ f. option_or (option_map (of_log number) f) (first_fault game (behind_first files) (number + 1) (length names)))
      (there_first files (λ bytes. log_fault game bytes ≡ Some fault) is.0))

  failed_taken : TakesLog game b c name a a' number became.Failed → TakesFiles game b c (name ∷ names) a a' number Failed
  failed_taken t = stopped became.Failed Failed refl t (λ files is. tt)

  memory_taken : TakesLog game b c name a a' number became.Memory → TakesFiles game b c (name ∷ names) a a' number Memory
  memory_taken t = stopped became.Memory Memory refl t (λ files is. tt)

  pub stopped_taken : (x : FileFault) → TakesLog game b c name a a' number (taken_of (Err x)) → TakesFiles game b c (name ∷ names) a a' number (stopped_by number x)
  stopped_taken (file.Bad fault) t = bad_taken fault t
  stopped_taken file.Failed t = failed_taken t
  stopped_taken file.Memory t = memory_taken t

-- the first log was taken, and then the others
module _ (game : Game) (b c d : ShelfState) (name : List ℕ) (names : List (List ℕ)) (a a' a'' : AuditState) (number : ℕ) (few : number < MOST_LOGS) where
  sound_first : (files : Contents) (f : Option LogFault) (rest : Option FaultyLog) → f ≡ None → option_or (option_map (of_log number) f) rest ≡ rest
  sound_first files f rest e = ap (λ g. option_or (option_map (of_log number) g) rest) e

  answers : (files : Contents) (all : LogsTaken) → IsTaken game a a' number (first_bytes files) → LeavesOthers a a' number → AreAnswered game a' a'' (behind_first files) (number + 1) (length names) all →
      AreAnswered game a a'' files number (length (name ∷ names)) all
  answers files Whole is others rest = (
    sound_first files (log_fault game (first_bytes files)) (first_fault game (behind_first files) (number + 1) (length names)) is.sound ∙ rest.0,
    λ owners logs long stands.
        let es : List Entry = entries_in game (first_bytes files) in
        let o : Option ℕ = L.owner_in game (first_bytes files) in
        let one = one_more_log game owners logs a a' number es o few long stands is.taken is.owner others in
        let all = rest.1 (owners ++ o ∷ []) (logs ++ es ∷ []) (length-append logs (es ∷ []) ∙ ap (λ n. n + 1) long) one in
        subst (λ (os : List (Option ℕ)). StandsFor game os (logs ++ logs_in game files (length (name ∷ names))) a'') (append_assoc owners (o ∷ []) (owners_in game (behind_first files) (length names)))
        (subst (λ (ls : List (List Entry)). StandsFor game ((owners ++ o ∷ []) ++ owners_in game (behind_first files) (length names)) ls a'') (append_assoc logs (es ∷ []) (logs_in game (behind_first files) (length names))) all),
  )
  answers files (Bad log fault) is others rest = sound_first files (log_fault game (first_bytes files)) (first_fault game (behind_first files) (number + 1) (length names)) is.sound ∙ rest
  answers files Failed is others rest = tt
  answers files Memory is others rest = tt

  pub more_taken : (all : LogsTaken) → TakesLog game b c name a a' number became.Whole → TakesFiles game c d names a' a'' (number + 1) all → TakesFiles game b d (name ∷ names) a a'' number all
  more_taken all t u =
      let first : List Piece = since b.pieces c.pieces in
      record {
        calls = first ∷ u.calls;
        reads = record {
          same = u.reads.same ∙ t.fetched.same;
          answered = u.reads.answered ∙ ap (λ (x : List Piece). x ++ in_turn u.calls) t.fetched.grows ∙ append_assoc b.pieces first (in_turn u.calls);
          readings = (t.fetched.reading, t.fetched.shown, subst (λ (f : Option (List ℕ → Option (List ℕ))). AreReadings f names u.calls) t.fetched.same u.reads.readings);
        };
        counted = u.counted ∙ ap (faults_behind (is_shelf_failed all)) t.fetched.counted;
        due = λ files h i. due files h i;
        answer = λ files h.
            let is = there_first files (IsTaken game a a' number) (t.answer (item_or files 0 None) (h 0)) in
            answers files all is t.others (u.answer (behind_first files) (behind_are files first u.calls h));
      }
    where
      due : (files : Contents) → AreContents files (since b.pieces c.pieces ∷ u.calls) → (i : ℕ) → (item_or (since b.pieces c.pieces ∷ u.calls) i [] ≡ []) ⊎ (first_fault game files number i ≡ None)
      due files h zero = inr refl
      due files h (suc i) = elim (u.due (behind_first files) (behind_are files (since b.pieces c.pieces) u.calls h) i) [
        | inl e ↦ inl e
        | inr e ↦
            let is = there_first files (IsTaken game a a' number) (t.answer (item_or files 0 None) (h 0)) in
            inr (sound_first files (log_fault game (first_bytes files)) (first_fault game (behind_first files) (number + 1) i) is.sound ∙ e)
      ]

-- the names are the first and those behind it
pub names_are : {X : Type 0} (f : X → List ℕ) (xs : List X) (x : X) (name : List ℕ) → 1 ≤ length xs → x ≡ slice_index_or xs 0 x → name ≡ f x → map f xs ≡ name ∷ map f (take (length xs - 1) (drop 1 xs))
names_are f [] x name some is e = absurd (omega (arith, some))
names_are f (y ∷ ys) x name some is e =
    let many : length (y ∷ ys) - 1 ≡ length ys = omega arith in
    ap (λ n. n ∷ map f ys) (ap f (sym is) ∙ sym e) ∙ ap (λ zs. name ∷ map f zs) (sym (take_all (length ys) ys (omega arith)) ∙ ap (λ k. take k ys) (sym many))

pub no_names : {X : Type 0} (f : X → List ℕ) (xs : List X) → length xs < 1 → map f xs ≡ []
no_names f [] none = refl
no_names f (x ∷ xs) none = absurd (omega (arith, none))
