-- Feeds: what becomes of a log that comes in pieces, by what is kept of the entry begun.
use Rattle.std.proofs.Common.{◌≡◌, ◌≤◌, ◌<◌, inl, inr, ℕ, ◌+◌, ◌-◌, min, Bool, true, false, List, [], ◌∷◌, ◌++◌, length, take, drop, refl, sym, ◌∙◌, ap, arith, subst, zero-add, length-append, append_assoc, get_or}
use Rattle.std.specs.Prelude.{Option, Some, None, Ok, Err, nat_lt, ◌==◌, if◌then◌else◌}
use Rattle.std.proofs.lemmas.Bool.{cases_lt, eq-eqb, eqb-true, false≢true, le-ltb, lt-ltb}
use Rattle.std.proofs.lemmas.List.{take_all, take_rest, take-append-drop, length-take-le}
use Rattle.session_log.specs.declared.faults.LogFault.{LogFault}
use Rattle.definitions.specs.declared.logs.LogWhy.{LogWhy}
use Rattle.definitions.specs.declared.logs.LogWhy.TheVariants.{TooLong, BadChain, BadEntry, NotReplayed}
use Rattle.definitions.specs.declared.logs.LogWhy.TheVariants as cause
use Rattle.definitions.specs.World.{Game, players_of}
use Rattle.session_log.specs.declared.finding.Found.{Found}
use Rattle.session_log.specs.declared.finding.Found.TheVariants.{Torn, Bad, Whole}
use Rattle.session_log.specs.declared.part.Part.{Part}
use Rattle.session_log.specs.Entries.{told_len}
use Rattle.session_log.specs.Finding.{digest_at, is_torn, entry_at}
use Rattle.session_log.specs.Parts.{HoldsPart, lacked}
use Rattle.session_log.specs.Feeding.{FeedAnswer, LogFeeding, FeedStep, more_step, fault_step, step_by_found, entry_fed, feed_of, first_fed, one_more}
use Rattle.session_log.specs.Reading.{Answer, fault_at}
use Rattle.session_log.specs.Fed.{Fed, IsFedSo, IsFeedFault, IsFeedOf, IsFeedWhy, IsStepOf, IsToldSo, after_found, what_by, what_found, what_of}
use Rattle.session_log.proofs.Texts.{told_more}
use Rattle.session_log.proofs.Found.{digest_more, found_count, found_more, found_torn, torn_found}
use Rattle.session_log.proofs.Parts.{part_full, part_torn}

-- what a part takes
abbrev pub Takes : (p q : Part) (bytes : List ℕ) (count : ℕ) → Type 0
Takes p q bytes count = (chain held : List ℕ) → HoldsPart p chain held → (count ≡ min (lacked held bytes) (length bytes)) × HoldsPart q chain (held ++ take count bytes)

joined : (held bytes : List ℕ) (count : ℕ) → held ++ bytes ≡ (held ++ take count bytes) ++ drop count bytes
joined held bytes count = ap (λ xs. held ++ xs) (sym (take-append-drop count bytes)) ∙ sym (append_assoc held (take count bytes) (drop count bytes))

-- where less than an entry came, all bytes were taken, and end none
all_taken : (held bytes : List ℕ) (count : ℕ) → count ≡ min (lacked held bytes) (length bytes) → length (held ++ take count bytes) < told_len (held ++ take count bytes) + 35 → count ≡ length bytes
all_taken held bytes count is torn = elim (cases_lt count (length bytes)) [
  | inl lt ↦
      let front : List ℕ = held ++ take count bytes in
      let long = length-append held (take count bytes) in
      let some = length-take-le count bytes (omega arith) in
      let told : told_len (held ++ bytes) ≡ told_len front = ap told_len (joined held bytes count) ∙ told_more front (drop count bytes) (omega arith) in
      absurd (omega arith)
  | inr ge ↦ omega arith
]

no_fault : (x : LogFault) → Some x ≡ None → ⊥
no_fault x h = cc

no_owner : (me : ℕ) → Some me ≡ None → ⊥
no_owner me h = cc

pub entry_going : (game : Game) (me : ℕ) (f : LogFeeding) (r : Fed) (q : Part) (bytes : List ℕ) (count : ℕ) → IsFeedOf r f → f.fault ≡ None → f.owner ≡ Some me → Takes r.part q bytes count → q.digest_len < 32 →
    IsStepOf (record { owner = r.owner; used = r.used + count; at = r.at; part = q; fault = r.fault }) (record { used = count; what = Ok None }) (entry_fed game me f bytes)
entry_going game me f r q bytes count is good mine takes few =
    let taken = takes f.chain f.held (is.part good) in
    let torn = part_torn q f.chain (f.held ++ take count bytes) taken.1 few in
    let all : count ≡ length bytes = all_taken f.held bytes count taken.0 torn in
    let same : take count bytes ≡ bytes = take_all count bytes (omega arith) in
    let held : HoldsPart q f.chain (f.held ++ bytes) = subst (λ (xs : List ℕ). HoldsPart q f.chain (f.held ++ xs)) same taken.1 in
    let none : entry_at game me f.chain (f.held ++ bytes) ≡ Torn = found_torn game me f.chain (f.held ++ bytes) (lt-ltb _ _ (part_torn q f.chain (f.held ++ bytes) held few)) in
    let next : IsStepOf (record { owner = r.owner; used = r.used + count; at = r.at; part = q; fault = r.fault }) (record { used = count; what = Ok None }) (more_step f bytes)
    = record {
      feed = record {
        owner = is.owner;
        at = is.at;
        fault = is.fault;
        begun = λ h. absurd (no_owner me (sym mine ∙ h));
        used = λ g. let u = is.used good in let long = length-append f.held bytes in omega arith;
        part = λ g. held;
      };
      answer = ap (λ (n : ℕ). record { used = n; what = Ok None }) all;
    } in
    subst (λ (x : Found). IsStepOf (record { owner = r.owner; used = r.used + count; at = r.at; part = q; fault = r.fault }) (record { used = count; what = Ok None }) (step_by_found f bytes (told_len (f.held ++ bytes) + 35) x)) (sym none) next

-- the last byte of an entry came
record HasEnded (game : Game) (me : ℕ) (f : LogFeeding) (next : Part) (bytes : List ℕ) (count : ℕ) (x : Found) : Type 0 where
  found : entry_at game me f.chain (f.held ++ bytes) ≡ x
  size : length f.held + count ≡ told_len (f.held ++ bytes) + 35
  next_part : HoldsPart next (digest_at (f.held ++ bytes)) []
  whole : x ≡ Torn → ⊥

has_ended : (game : Game) (me : ℕ) (f : LogFeeding) (p q next : Part) (bytes : List ℕ) (count : ℕ) (x : Found) → HoldsPart p f.chain f.held → Takes p q bytes count → q.digest_len ≡ 32 → q.fresh ≡ false →
    ((chain held : List ℕ) → HoldsPart q chain held → x ≡ entry_at game me chain held) → ((chain held : List ℕ) → HoldsPart q chain held → HoldsPart next (digest_at held) []) →
    HasEnded game me f next bytes count x
has_ended game me f p q next bytes count x part takes full begun found nexts =
    let taken = takes f.chain f.held part in
    let front : List ℕ = f.held ++ take count bytes in
    let size : length front ≡ told_len front + 35 = part_full q f.chain front (taken.1.begun begun) full in
    let split : f.held ++ bytes ≡ front ++ drop count bytes = joined f.held bytes count in
    let told : told_len (f.held ++ bytes) ≡ told_len front = ap told_len split ∙ told_more front (drop count bytes) (omega arith) in
    let whole : is_torn front ≡ false = le-ltb (length front) (told_len front + 35) (omega arith) in
    let long = length-append f.held (take count bytes) in
    let some = length-take-le count bytes (let n = taken.0 in omega arith) in
    let here : entry_at game me f.chain (f.held ++ bytes) ≡ x = ap (entry_at game me f.chain) split ∙ found_more game me f.chain front (drop count bytes) whole ∙ sym (found f.chain front taken.1) in
    record {
      found = here;
      size = omega arith;
      next_part = subst (λ (xs : List ℕ). HoldsPart next xs []) (sym (ap digest_at split ∙ digest_more front (drop count bytes) whole)) (nexts f.chain front taken.1);
      whole = λ t. false≢true (sym whole ∙ torn_found game me f.chain front (sym (found f.chain front taken.1) ∙ t));
    }

-- how far the log came
abbrev pub came : Fed → Part → ℕ → Fed
came r next count = record { owner = r.owner; used = r.used + count; at = r.at; part = next; fault = r.fault }

ended_so : (game : Game) (me : ℕ) (f : LogFeeding) (r : Fed) (next : Part) (bytes : List ℕ) (count : ℕ) (x : Found) → IsFeedOf r f → f.fault ≡ None → HasEnded game me f next bytes count x →
    IsStepOf (after_found (came r next count) x) (record { used = count; what = what_found r.at x }) (step_by_found f bytes (told_len (f.held ++ bytes) + 35) x)
ended_so game me f r next bytes count Torn is good ended = absurd (ended.whole refl)
ended_so game me f r next bytes count (Bad why) is good ended =
    let size = ended.size in
    let used : count ≡ told_len (f.held ++ bytes) + 35 - length f.held = omega arith in
    record {
      feed = record {
        owner = is.owner;
        at = is.at;
        fault = ap (λ (n : ℕ). Some (fault_at n why)) is.at;
        begun = λ h. refl;
        used = λ h. absurd (no_fault _ h);
        part = λ h. absurd (no_fault _ h);
      };
      answer = ap (λ (n : ℕ). record { used = n; what = Err (fault_at r.at why) }) used ∙ ap (λ (n : ℕ). record { used = told_len (f.held ++ bytes) + 35 - length f.held; what = Err (fault_at n why) }) is.at;
    }
ended_so game me f r next bytes count (Whole e n digest) is good ended =
    let size = ended.size in
    let u = is.used good in
    let c = found_count game me f.chain (f.held ++ bytes) e n digest ended.found in
    let all = c.0 in
    let used : count ≡ n - length f.held = omega arith in
    record {
      feed = record {
        owner = is.owner;
        at = omega arith;
        fault = is.fault ∙ good;
        begun = λ h. refl;
        used = λ h. omega arith;
        part = λ h. subst (λ (xs : List ℕ). HoldsPart next xs []) (sym c.1) ended.next_part;
      };
      answer = ap (λ (k : ℕ). record { used = k; what = Ok (Some e) }) used;
    }

pub entry_ended : (game : Game) (me : ℕ) (f : LogFeeding) (r : Fed) (q next : Part) (bytes : List ℕ) (count : ℕ) (x : Found) → IsFeedOf r f → f.fault ≡ None → Takes r.part q bytes count → q.digest_len ≡ 32 → q.fresh ≡ false →
    ((chain held : List ℕ) → HoldsPart q chain held → x ≡ entry_at game me chain held) → ((chain held : List ℕ) → HoldsPart q chain held → HoldsPart next (digest_at held) []) →
    IsStepOf (after_found (came r next count) x) (record { used = count; what = what_found r.at x }) (entry_fed game me f bytes)
entry_ended game me f r q next bytes count x is good takes full begun found nexts =
    let ended = has_ended game me f r.part q next bytes count x (is.part good) takes full begun found nexts in
    subst (λ (y : Found). IsStepOf (after_found (came r next count) x) (record { used = count; what = what_found r.at x }) (step_by_found f bytes (told_len (f.held ++ bytes) + 35) y)) (sym ended.found)
    (ended_so game me f r next bytes count x is good ended)

-- the owner's byte is a player's, and the rest are its entries
pub first_entered : (game : Game) (me : ℕ) (rest : List ℕ) (f : LogFeeding) (r : Fed) (fed : FeedAnswer) → me < players_of game → IsStepOf r fed (entry_fed game me (feed_of f me) rest) →
    IsStepOf r (record { used = fed.used + 1; what = fed.what }) (first_fed game f (me ∷ rest))
first_entered game me rest f r fed lt step =
    let t : nat_lt me (players_of game) ≡ true = lt-ltb me (players_of game) lt in
    let s : FeedStep = entry_fed game me (feed_of f me) rest in
    let answer : record { used = fed.used + 1; what = fed.what } ≡ record { used = s.fed.used + 1; what = s.fed.what } = ap (λ (x : FeedAnswer). record { used = x.used + 1; what = x.what }) step.answer in
    let more : IsStepOf r (record { used = fed.used + 1; what = fed.what }) (one_more s) = record { feed = step.feed; answer = answer } in
    subst (λ (b : Bool). IsStepOf r (record { used = fed.used + 1; what = fed.what }) (if b then one_more s else fault_step f 1 (fault_at 0 BadEntry))) (sym t) more

-- whether a digest has all its bytes, as it was tested
pub not_full : (n : ℕ) (b : Bool) → b ≡ (n == 32) → b ≡ false → n ≤ 32 → n < 32
not_full n b is differs le = elim (cases_lt n 32) [
  | inl lt ↦ lt
  | inr ge ↦ absurd (false≢true (sym differs ∙ is ∙ eq-eqb n 32 (omega arith)))
]

pub full : (n : ℕ) (b : Bool) → b ≡ (n == 32) → b ≡ true → n ≡ 32
full n b is agrees = eqb-true n 32 (sym is ∙ agrees)

-- the same step of what is equal
pub step_same : (r q : Fed) (fed other : FeedAnswer) (s : FeedStep) → q ≡ r → other ≡ fed → IsStepOf r fed s → IsStepOf q other s
step_same r q fed other s is same step =
    subst (λ (x : Fed). IsStepOf x other s) (sym is) (subst (λ (x : FeedAnswer). IsStepOf r x s) (sym same) step)

-- the same of bytes as they were read
pub first_read : (game : Game) (bytes : List ℕ) (f : LogFeeding) (r : Fed) (fed : FeedAnswer) → 0 < length bytes → get_or bytes 0 0 < players_of game →
    IsStepOf r fed (entry_fed game (get_or bytes 0 0) (feed_of f (get_or bytes 0 0)) (take (length bytes - 1) (drop 1 bytes))) → IsStepOf r (record { used = fed.used + 1; what = fed.what }) (first_fed game f bytes)
first_read game [] f r fed some lt step = absurd (omega arith)
first_read game (me ∷ rest) f r fed some lt step =
    let same : take (length (me ∷ rest) - 1) (drop 1 (me ∷ rest)) ≡ rest = take_rest (me ∷ rest) 1 in
    first_entered game me rest f r fed lt (subst (λ (xs : List ℕ). IsStepOf r fed (entry_fed game me (feed_of f me) xs)) same step)

-- a whole entry came at once
pub whole_ended : (game : Game) (me : ℕ) (f : LogFeeding) (r : Fed) (next : Part) (bytes : List ℕ) (count : ℕ) (x : Found) → count ≡ told_len bytes + 35 → IsFeedOf r f → f.fault ≡ None → r.part.fresh ≡ true → is_torn bytes ≡ false →
    ((chain : List ℕ) → HoldsPart r.part chain [] → x ≡ entry_at game me chain bytes) → ((chain : List ℕ) → HoldsPart r.part chain [] → HoldsPart next (digest_at bytes) []) →
    IsStepOf (after_found (came r next count) x) (record { used = count; what = what_found r.at x }) (entry_fed game me f bytes)
whole_ended game me f r next bytes count x counted is good fresh whole found nexts =
    let none : f.held ≡ [] = ((is.part good).fresh fresh).none in
    let part : HoldsPart r.part f.chain [] = subst (HoldsPart r.part f.chain) none (is.part good) in
    let here : entry_at game me f.chain (f.held ++ bytes) ≡ x = ap (λ (xs : List ℕ). entry_at game me f.chain (xs ++ bytes)) none ∙ sym (found f.chain part) in
    let size : length f.held + count ≡ told_len (f.held ++ bytes) + 35 =
    subst (λ (xs : List ℕ). length xs + count ≡ told_len (xs ++ bytes) + 35) (sym none) (zero-add count ∙ counted) in
    let ended : HasEnded game me f next bytes count x = record {
      found = here;
      size = size;
      next_part = subst (λ (xs : List ℕ). HoldsPart next (digest_at (xs ++ bytes)) []) (sym none) (nexts f.chain part);
      whole = λ t. false≢true (sym whole ∙ torn_found game me f.chain bytes (sym (found f.chain part) ∙ t));
    } in
    subst (λ (y : Found). IsStepOf (after_found (came r next count) x) (record { used = count; what = what_found r.at x }) (step_by_found f bytes (told_len (f.held ++ bytes) + 35) y)) (sym here)
    (ended_so game me f r next bytes count x is good ended)

-- ---- what is told of it

by_why : (at used : ℕ) (why : LogWhy) (r : Fed) → r.fault ≡ Some (fault_at at why) → IsFeedWhy why → IsToldSo (what_by why at) used r
by_why at used TooLong r e is = absurd is
by_why at used cause.Torn r e is = absurd is
by_why at used BadChain r e is = e
by_why at used BadEntry r e is = e
by_why at used NotReplayed r e is = absurd is

-- where a fault is kept as it was answered, and is one of the two that a feed meets, it is told so
pub told_so : (a : Answer) (used : ℕ) (r : Fed) (o : Option LogFault) → o ≡ r.fault → IsFeedFault o → IsFedSo a used r → IsToldSo (what_of a) used r
told_so (Ok None) used r o is why so = so
told_so (Ok (Some e)) used r o is why so = so
told_so (Err fault) used r o is why so = by_why fault.at used fault.why r so (subst IsFeedFault (is ∙ so) why)
