-- Texts: whole logs are taken one behind the other.
use Rattle.std.proofs.Common.{◌≡◌, ℕ, suc, zero, ◌+◌, ◌-◌, ◌<◌, ◌≤◌, List, [], ◌∷◌, ◌++◌, Option, None, Some, length, drop, take, refl, sym, ◌∙◌, ap, subst, append-nil, append_assoc, length-append, arith, inl, inr}
use Rattle.std.specs.Prelude.{IfErr, OnOk, Result, option_map, slice_get, slice_index_or}
use Rattle.std.specs.Option.{option_or}
use Rattle.std.proofs.lemmas.List.{take_all}
use Rattle.definitions.specs.declared.limits.TheConstants.{LONGEST_LOG}
use Rattle.definitions.specs.declared.logs.Entry.{Entry}
use Rattle.definitions.specs.declared.findings.Finding.{Finding}
use Rattle.definitions.specs.Entries.{AreWellFormed}
use Rattle.definitions.specs.Findings.{findings}
use Rattle.definitions.specs.Lists.{EachIs, item_or}
use Rattle.definitions.specs.World.{Game}
use Rattle.definition_laws.specs.Members.{Has}
use Rattle.frame_index.specs.declared.limits.TheConstants.{MOST_LOGS}
use Rattle.session_log.specs.declared.faults.LogFault.{LogFault}
use Rattle.session_log.specs.Fed.{Fed, IsFeedOf}
use Rattle.session_log.specs.Feeding.{LogFeeding, feed_at_start, finished, given_of}
use Rattle.session_log.specs.Laws as L
use Rattle.session_log.specs.Reading.{Ending, fault_at, read_log}
use Rattle.session_log.proofs.Pieces.{log_pieces_same}
use Rattle.session_log.proofs.ReadSo.{read_is_log, read_well_formed}
use Rattle.log_streams.specs.Streams.{entries_in}
use Rattle.evidence.specs.Laws.{IsLogOf}
use Rattle.auditor.specs.Agreed.{AreOwned}
use Rattle.auditor.specs.Audits.{AuditState, StandsFor, owner_in}
use Rattle.auditor.specs.Reports.{IsReportOf, Reported, found_in}
use Rattle.auditor.specs.Taking.{LeavesOthers, Takes, TakesAll}
use Rattle.log_files.specs.Logs.{fault_of, log_fault}
use Rattle.log_files.specs.Several.{FaultyLog, of_log}
use Rattle.log_files.specs.Taken.{IsTaken, IsUntaken}
use Rattle.log_files.proofs.Ended.{fault_short}
use Rattle.log_files.proofs.OneMore.{one_more_log}
use Rattle.log_files.specs.declared.audits.AuditFault.{AuditFault}
use Rattle.log_files.specs.declared.audits.AuditFault.TheVariants.{BadLog, Memory}
use Rattle.log_files.specs.Audited.{AreTaken, Audits, IsFaultOf, IsFirstFault, ended_by, first_fault, logs_of, owners_of}

-- a text that is fed as one piece is read as it is whole
whole_read : (game : Game) (bytes : List ℕ) → L.IsReadOf game bytes (given_of game (feed_at_start game.id) bytes)
whole_read game bytes =
    let all = log_pieces_same game (bytes ∷ []) in
    let text : bytes ++ [] ≡ bytes = append-nil bytes in
    record {
      entries = sym (append-nil (given_of game (feed_at_start game.id) bytes).entries) ∙ all.entries ∙ ap (λ (x : List ℕ). (read_log game x).entries) text;
      last = ap (λ (x : List ℕ). (read_log game x).reader.said) (sym text) ∙ all.last;
      owner = all.owner ∙ ap (λ (x : List ℕ). L.owner_in game x) text;
    }

-- a text was taken, and its feed ended so
pub record IsFed (game : Game) (a a' : AuditState) (log : ℕ) (bytes : List ℕ) (end : Ending) : Type 0 where
  pub fault : log_fault game bytes ≡ fault_of end
  pub taken : Takes a a' log (entries_in game bytes)
  pub owner : owner_in a' log ≡ L.owner_in game bytes

pub text_fed : (game : Game) (a a' : AuditState) (log : ℕ) (r r' : Fed) (bytes : List ℕ) (end : Ending) → a.session ≡ game → length bytes ≤ LONGEST_LOG → IsFeedOf r (feed_at_start game.id) →
    ((f : LogFeeding) → IsFeedOf r f → TakesAll a.session a a' log r r' bytes f) → owner_in a' log ≡ r'.owner → ((f : LogFeeding) → IsFeedOf r' f → end ≡ finished f) → IsFed game a a' log bytes end
text_fed game a a' log r r' bytes end same short start all owner finish =
    let read = whole_read game bytes in
    let taken : TakesAll game a a' log r r' bytes (feed_at_start game.id) = subst (λ (g : Game). TakesAll g a a' log r r' bytes (feed_at_start game.id)) same (all (feed_at_start game.id) start) in
    record {
      fault = fault_short game bytes end short (read.last ∙ ap (λ (n : Ending). Some n) (sym (finish (given_of game (feed_at_start game.id) bytes).feeding taken.feed)));
      taken = subst (Takes a a' log) read.entries taken.taken;
      owner = owner ∙ taken.feed.owner ∙ read.owner;
    }

pub sound_if : (game : Game) (a a' : AuditState) (log : ℕ) (bytes : List ℕ) (end : Ending) (r : Result (Unit {0}) AuditFault) → r ≡ ended_by log (fault_of end) → IsFed game a a' log bytes end →
    OnOk r (IsTaken game a a' log bytes)
sound_if game a a' log bytes end r is fed = subst (λ (x : Result (Unit {0}) AuditFault). OnOk x (IsTaken game a a' log bytes)) (sym is) (go (fault_of end) fed.fault)
  where
    go : (f : Option LogFault) → log_fault game bytes ≡ f → OnOk (ended_by log f) (IsTaken game a a' log bytes)
    go None e = record { sound = e; taken = fed.taken; owner = fed.owner }
    go (Some x) e = tt

pub fault_if : (game : Game) (a a' : AuditState) (log : ℕ) (bytes : List ℕ) (end : Ending) (r : Result (Unit {0}) AuditFault) → r ≡ ended_by log (fault_of end) → IsFed game a a' log bytes end →
    IfErr r (IsFaultOf game log bytes)
fault_if game a a' log bytes end r is fed = subst (λ (x : Result (Unit {0}) AuditFault). IfErr x (IsFaultOf game log bytes)) (sym is) (go (fault_of end) fed.fault)
  where
    go : (f : Option LogFault) → log_fault game bytes ≡ f → IfErr (ended_by log f) (IsFaultOf game log bytes)
    go None e = tt
    go (Some x) e = (refl, e)

-- the first of several
pub none_taken : (game : Game) (a : AuditState) (number : ℕ) (texts : List (List ℕ)) → texts ≡ [] → AreTaken game a a number texts
none_taken game a number texts none = subst (AreTaken game a a number) (sym none) (record {
  sound = refl;
  stands = λ owners logs long stands. subst (λ (os : List (Option ℕ)). StandsFor game os (logs ++ []) a) (sym (append-nil owners))
      (subst (λ (ls : List (List Entry)). StandsFor game owners ls a) (sym (append-nil logs)) stands);
})

module _ (game : Game) (number : ℕ) (bytes : List ℕ) (rest : List (List ℕ)) where
  pub bad_first : (f : AuditFault) → IsFaultOf game number bytes f → IsFirstFault game number (bytes ∷ rest) f
  bad_first (BadLog log at why) (same, e) =
      let of : ℕ → FaultyLog = λ n. of_log n (fault_at at why) in
      ap (λ o. option_or (option_map (of_log number) o) (first_fault game (number + 1) rest)) e ∙ ap (λ (n : ℕ). Some (of n)) (sym same)
  bad_first Memory w = tt

  sound_first : log_fault game bytes ≡ None → first_fault game number (bytes ∷ rest) ≡ first_fault game (number + 1) rest
  sound_first e = ap (λ o. option_or (option_map (of_log number) o) (first_fault game (number + 1) rest)) e

  pub bad_behind : (f : AuditFault) → log_fault game bytes ≡ None → IsFirstFault game (number + 1) rest f → IsFirstFault game number (bytes ∷ rest) f
  bad_behind (BadLog log at why) sound w = sound_first sound ∙ w
  bad_behind Memory sound w = tt

  pub more_taken : (a a' a'' : AuditState) → number < MOST_LOGS → IsTaken game a a' number bytes → LeavesOthers a a' number → AreTaken game a' a'' (number + 1) rest → AreTaken game a a'' number (bytes ∷ rest)
  more_taken a a' a'' few is others behind = record {
    sound = sound_first is.sound ∙ behind.sound;
    stands = λ owners logs long stands.
        let es : List Entry = entries_in game bytes in
        let o : Option ℕ = L.owner_in game bytes in
        let one = one_more_log game owners logs a a' number es o few long stands is.taken is.owner others in
        let all = behind.stands (owners ++ o ∷ []) (logs ++ es ∷ []) (length-append logs (es ∷ []) ∙ ap (λ n. n + 1) long) one in
        subst (λ (os : List (Option ℕ)). StandsFor game os (logs ++ logs_of game (bytes ∷ rest)) a'') (append_assoc owners (o ∷ []) (owners_of game rest))
        (subst (λ (ls : List (List Entry)). StandsFor game ((owners ++ o ∷ []) ++ owners_of game rest) ls a'') (append_assoc logs (es ∷ []) (logs_of game rest)) all);
  }

-- nothing was taken of the logs behind
pub untaken_behind : (a a' : AuditState) (number : ℕ) → LeavesOthers a a' number → ((i : ℕ) → number ≤ i → IsUntaken a i) → (i : ℕ) → number + 1 ≤ i → IsUntaken a' i
untaken_behind a a' number others none i le =
    let other = others i (λ e. omega (arith, le, e)) in
    let was = none i (omega (arith, le)) in
    record { none = other.0 ∙ was.none; unowned = other.1 ∙ was.unowned }

-- the texts are the first and those behind it
pub texts_are : (xs : List (List ℕ)) (x : List ℕ) → 1 ≤ length xs → x ≡ slice_index_or xs 0 x → xs ≡ x ∷ take (length xs - 1) (drop 1 xs)
texts_are [] x some is = absurd (omega (arith, some))
texts_are (y ∷ ys) x some is =
    let many : length (y ∷ ys) - 1 ≡ length ys = omega arith in
    ap (λ z. z ∷ ys) (sym is) ∙ ap (λ zs. x ∷ zs) (sym (take_all (length ys) ys (omega arith)) ∙ ap (λ k. take k ys) (sym many))

pub no_texts : (xs : List (List ℕ)) → length xs < 1 → xs ≡ []
no_texts [] none = refl
no_texts (x ∷ xs) none = absurd (omega (arith, none))

-- each log that is read of a text is its owner's
owned : (game : Game) (texts : List (List ℕ)) → AreOwned game (owners_of game texts) (logs_of game texts)
owned game [] = λ i o h at own. absurd (let never : None ≡ Some o = own in cc)
owned game (bytes ∷ texts) = λ i o h at own. go (owned game texts) i o h at own
  where
    go : AreOwned game (owners_of game texts) (logs_of game texts) → (i o : ℕ) (h : List Entry) → slice_get (logs_of game (bytes ∷ texts)) i ≡ Some h → item_or (owners_of game (bytes ∷ texts)) i None ≡ Some o → AreWellFormed game o h
    go behind zero o h at own = let same : entries_in game bytes ≡ h = (let s : Some (entries_in game bytes) ≡ Some h = at in cc) in subst (AreWellFormed game o) same (read_well_formed game bytes o own)
    go behind (suc i) o h at own = behind i o h at own

pub texts_are_logs : (game : Game) (texts : List (List ℕ)) → EachIs (IsLogOf game) (logs_of game texts)
texts_are_logs game [] = tt
texts_are_logs game (bytes ∷ texts) = (read_is_log game bytes, texts_are_logs game texts)

pub audited : (game : Game) (texts : List (List ℕ)) (r : Reported) → first_fault game 0 texts ≡ None → IsReportOf game (owners_of game texts) (logs_of game texts) r → Audits game texts r
audited game texts r sound is = record { sound = sound; found = is.found; agreed = is.agreed (owned game texts); world = is.world (owned game texts); beyond = is.beyond }

-- an item at a place stands in the list
item_Has : (fs : List Finding) (i : ℕ) (f : Finding) → i < length fs → f ≡ slice_index_or fs i f → Has fs f
item_Has [] i f within is = absurd (omega (arith, within))
item_Has (g ∷ fs) zero f within is = inl (sym is)
item_Has (g ∷ fs) (suc i) f within is = inr (item_Has fs i f (omega (arith, within)) is)

-- a finding at a place of the report on these texts is one of their logs
pub reported : (game : Game) (texts : List (List ℕ)) (r : Reported) (i : ℕ) (f : Finding) → Audits game texts r → i < length (found_in r) → f ≡ slice_index_or (found_in r) i f →
    Has (findings game (logs_of game texts)) f
reported game texts r i f is within at = subst (λ (fs : List Finding). Has fs f) is.found (item_Has (found_in r) i f within at)
