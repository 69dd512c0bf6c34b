-- Taken: an auditor takes the logs of a match's players one behind the other.
use Rattle.std.proofs.Common.{◌≡◌, ◌⊎◌, inl, inr, ℕ, zero, suc, ◌+◌, ◌-◌, ◌<◌, ◌≤◌, true, false, List, [], ◌∷◌, ◌++◌, Option, None, Some, length, slice_get, get_or, take, map, refl, sym, ◌∙◌, ap, subst, length-append, arith}
use Rattle.std.specs.Prelude.{IfOk, OnOk, Result, is_some, not, replicate, unwrap_or, if◌then◌else◌}
use Rattle.std.specs.declared.alloc.AllocError.{AllocError}
use Rattle.std.specs.List.{range_with_len}
use Rattle.std.proofs.lemmas.Bool.{cases_lt}
use Rattle.std.proofs.lemmas.List.FromFn.{length-map-range_with_len, map-range_with_len_more}
use Rattle.std.proofs.lemmas.List.{get_or_past}
use Rattle.plain_lemmas.proofs.Each.{each_kept}
use Rattle.definitions.specs.declared.logs.Entry.{Entry}
use Rattle.definitions.specs.declared.logs.Entry.TheVariants.{Chose}
use Rattle.definitions.specs.Entries.{AreWellFormed, is_well_formed}
use Rattle.definitions.specs.Lists.{EachIs, item_or}
use Rattle.definitions.specs.Steps.{Logs, has_log, log_of}
use Rattle.definitions.specs.World.{Game, players_of}
use Rattle.definitions.specs.declared.limits.TheConstants.{LONGEST_LOG}
use Rattle.definitions.proofs.Items.{item_is}
use Rattle.definition_laws.specs.Stepping.{AreHonest}
use Rattle.definition_laws.proofs.Listing.{take_more}
use Rattle.definition_laws.proofs.Room.{logs_fit, room_small}
use Rattle.definition_laws.proofs.WellFormed.{honest_well_formed}
use Rattle.grid_world.specs.Sessions.{IsSession}
use Rattle.frame_index.specs.declared.limits.TheConstants.{MOST_LOGS}
use Rattle.frame_index.specs.Appended.{with_entry}
use Rattle.frame_index.proofs.Growing.{on_ok}
use Rattle.auditor.specs.Audits.{AuditState, IsAuditOf, StandsFor, count_in, is_of_its_sender, owner_in, padded}
use Rattle.auditor.specs.Taking.{Takes, with_entries}
use Rattle.auditor.specs.Agreed.{AreOwned}
use Rattle.auditor.specs.Reports.{IsReportOf, Reported}
use Rattle.auditor.proofs.Fed.{takes_more, well_sent}
use Rattle.auditor.proofs.Behind.{item_last, item_more, next_log}
use Rattle.auditor.proofs.Padded.{if_ok}
use Rattle.make_command.specs.Audits.{HasTaken, HasTakenOf, IsReportOn, entries_by, logs_of, owner_by, owners_of}

-- an auditor that stood for these logs stands for one more, of which it took these entries
one_more_log : (game : Game) (owners : List (Option ℕ)) (logs : List (List Entry)) (a a' : AuditState) (number : ℕ) (es : List Entry) (o : Option ℕ) → number < MOST_LOGS → length logs ≡ number →
    StandsFor game owners logs a → Takes a a' number es → owner_in a' number ≡ o → ((i : ℕ) → (i ≡ number → ⊥) → owner_in a' i ≡ owner_in a i) → StandsFor game (owners ++ o ∷ []) (logs ++ es ∷ []) a'
one_more_log game owners logs a a' number es o few long stands takes owner others =
    let at : length owners ≡ number = stands.each ∙ long in
    record {
      audit =
          let taken : IsAuditOf game (with_entries (padded logs (MOST_LOGS - length logs)) number es) a' = takes game (padded logs (MOST_LOGS - length logs)) stands.audit in
          subst (λ (ls : List (List Entry)). IsAuditOf game ls a')
          (ap (λ n. with_entries (padded logs (MOST_LOGS - length logs)) n es) (sym long) ∙ next_log logs es (omega (arith, few, long))) taken;
      owners_are = λ i. own at i (cases_lt i number);
      each = length-append owners (o ∷ []) ∙ ap (λ n. n + 1) stands.each ∙ sym (length-append logs (es ∷ []));
    }
  where
    other : length owners ≡ number → (i : ℕ) → (i ≡ number → ⊥) → owner_in a' i ≡ item_or (owners ++ o ∷ []) i None
    other at i not = others i not ∙ stands.owners_are i ∙ sym (item_more owners o i (λ e. not (e ∙ at)))

    past : length owners ≡ number → (i : ℕ) → (number < i) ⊎ (i ≤ number) → number ≤ i → owner_in a' i ≡ item_or (owners ++ o ∷ []) i None
    past at i (inl above) le = other at i (λ e. absurd (omega (arith, above, e)))
    past at i (inr below) le =
        let same : i ≡ number = omega (arith, below, le) in
        ap (owner_in a') same ∙ owner ∙ sym (item_last owners o) ∙ ap (λ n. item_or (owners ++ o ∷ []) n None) (at ∙ sym same)

    own : length owners ≡ number → (i : ℕ) → (i < number) ⊎ (number ≤ i) → owner_in a' i ≡ item_or (owners ++ o ∷ []) i None
    own at i (inl below) = other at i (λ e. absurd (omega (arith, below, e)))
    own at i (inr le) = past at i (cases_lt number i) le

-- past the logs there are no owners
owner_past : (owners : List (Option ℕ)) (i : ℕ) → length owners ≤ i → item_or owners i None ≡ None
owner_past owners i le = sym (item_is owners i None) ∙ get_or_past owners i None le

pub all_sent : (game : Game) (me : ℕ) (h : List Entry) → AreWellFormed game me h → EachIs (λ e. is_of_its_sender e ≡ true) h
all_sent game me h w = each_kept (λ e. is_well_formed game me e ≡ true) (λ e. is_of_its_sender e ≡ true) h (well_sent game me) w

-- ---- the players one behind the other
module _ (game : Game) (logs : Logs) (p : ℕ) (below : p < MOST_LOGS) where
  long : length (logs_of logs p) ≡ p
  long = length-map-range_with_len (entries_by logs) 0 p

  many : length (owners_of logs p) ≡ p
  many = length-map-range_with_len (owner_by logs) 0 p

  with_one : (a a' : AuditState) (o : Option ℕ) (es : List Entry) → owner_by logs p ≡ o → entries_by logs p ≡ es → a'.session ≡ a.session → HasTaken game logs p a → Takes a a' p es → owner_in a' p ≡ o →
      ((i : ℕ) → (i ≡ p → ⊥) → (count_in a' i ≡ count_in a i) × (owner_in a' i ≡ owner_in a i)) → HasTaken game logs (p + 1) a'
  with_one a a' o es oe ee same t takes owner others = record {
    session = same ∙ t.session;
    stands =
        subst (λ (os : List (Option ℕ)). StandsFor game os (logs_of logs (p + 1)) a') (ap (λ x. owners_of logs p ++ x ∷ []) (sym oe) ∙ sym (map-range_with_len_more (owner_by logs) 0 p p (omega arith)))
        (subst (λ (ls : List (List Entry)). StandsFor game (owners_of logs p ++ o ∷ []) ls a') (ap (λ x. logs_of logs p ++ x ∷ []) (sym ee) ∙ sym (map-range_with_len_more (entries_by logs) 0 p p (omega arith)))
        (one_more_log game (owners_of logs p) (logs_of logs p) a a' p es o below long t.stands takes owner (λ i not. (others i not).1)));
    none = λ i le. (others i (λ e. absurd (omega (arith, le, e)))).0 ∙ t.none i (omega (arith, le));
  }

  -- a hostile player has no log
  pub hostile_taken : (a : AuditState) → has_log logs p ≡ false → HasTaken game logs p a → HasTaken game logs (p + 1) a
  hostile_taken a h t =
      let no_owner : owner_by logs p ≡ None = rw h refl in
      with_one a a None [] no_owner (empty (log_of logs p) h) refl t (λ g ls w. w) (t.stands.owners_are p ∙ owner_past (owners_of logs p) p (omega (arith, many))) (λ i not. (refl, refl))
    where
      empty : (o : Option (List Entry)) → is_some o ≡ false → unwrap_or o [] ≡ []
      empty None e = refl
      empty (Some h) e = absurd (let never : true ≡ false = e in cc)

  -- an honest one has
  pub honest_taken : (a a' : AuditState) (h : List Entry) → log_of logs p ≡ Some h → a'.session ≡ a.session → HasTaken game logs p a → Takes a a' p h → owner_in a' p ≡ Some p →
      ((i : ℕ) → (i ≡ p → ⊥) → (count_in a' i ≡ count_in a i) × (owner_in a' i ≡ owner_in a i)) → HasTaken game logs (p + 1) a'
  honest_taken a a' h at same t takes owner others =
      let mine : owner_by logs p ≡ Some p = ap (λ (o : Option (List Entry)). if is_some o then Some p else None) at in
      let its : entries_by logs p ≡ h = ap (λ (o : Option (List Entry)). unwrap_or o []) at in
      with_one a a' (Some p) h mine its same t takes owner others

-- ---- the entries of a log one behind the other

pub taken_none : (a : AuditState) (log : ℕ) → HasTakenOf a a log []
taken_none a log = record { taken = λ game logs w. w; session = refl; count = omega arith; owner = refl; others = λ i not. (refl, refl) }

-- what stands past the end of a log
abbrev pub no_entry : Entry
no_entry = Chose 0 (record { to = record { x = 0; y = 0 }; strike = None }) (record { bytes = [] })

read_at : (es : List Entry) (i : ℕ) → i < length es → slice_get es i ≡ Some (get_or es i no_entry)
read_at [] i lt = absurd (omega (arith, lt))
read_at (e ∷ es) zero lt = refl
read_at (e ∷ es) (suc i) lt = read_at es i (omega (arith, lt))

-- one entry more
pub taken_more : (a b c : AuditState) (log i : ℕ) (es : List Entry) → i < length es → HasTakenOf a b log (take i es) →
    ((game : Game) (logs : List (List Entry)) → IsAuditOf game logs b → IsAuditOf game (with_entry logs log (get_or es i no_entry)) c) → c.session ≡ b.session → count_in c log ≡ count_in b log + 1 →
    ((k : ℕ) → (k ≡ log → ⊥) → count_in c k ≡ count_in b k) → ((k : ℕ) → owner_in c k ≡ owner_in b k) → HasTakenOf a c log (take (i + 1) es)
taken_more a b c log i es lt t stands session counted others owners =
    let e : Entry = get_or es i no_entry in
    let more : take (i + 1) es ≡ take i es ++ e ∷ [] = take_more i es e (read_at es i lt) in
    let long : length (take (i + 1) es) ≡ length (take i es) + 1 = ap length more ∙ length-append (take i es) (e ∷ []) in
    let count = t.count in
    record {
      taken = subst (Takes a c log) (sym more) (takes_more a b c log (take i es) (e ∷ []) t.taken stands);
      session = session ∙ t.session;
      count = omega (arith, counted, count, long);
      owner = owners log ∙ t.owner;
      others = λ k not. (others k not ∙ (t.others k not).0, owners k ∙ (t.others k not).1);
    }

-- ---- the log of a player, and the report

-- an honest log is short
pub log_short : (game session : Game) (logs : Logs) (p : ℕ) (h : List Entry) (a b : AuditState) (k : ℕ) → IsSession session → session ≡ game → AreHonest game logs → p < players_of game → log_of logs p ≡ Some h → k ≡ p →
    HasTaken game logs p a → ((i : ℕ) → count_in b i ≡ count_in a i) → count_in b k + length h ≤ LONGEST_LOG
log_short game session logs p h a b k is same honest lt at kp t counts =
    let w : IsSession game = subst IsSession same is in
    let fits = logs_fit game p h w.ahead.0 lt (honest p h at) in
    let small = room_small game w.turns.1 w.turns_of_all in
    let none : count_in b k ≡ 0 = counts k ∙ t.none k (omega (arith, kp)) in
    omega (arith, fits, small, none)

-- and of its senders
pub log_sent : (game session : Game) (logs : Logs) (p : ℕ) (h : List Entry) → IsSession session → session ≡ game → AreHonest game logs → log_of logs p ≡ Some h → EachIs (λ e. is_of_its_sender e ≡ true) h
log_sent game session logs p h is same honest at =
    let w : IsSession game = subst IsSession same is in
    all_sent game p h (honest_well_formed game p h w.ahead.0 (honest p h at))

-- a player's log was taken, whose owner was told
pub log_taken : (game session : Game) (logs : Logs) (p : ℕ) (h : List Entry) (a b c : AuditState) (j k : ℕ) (r : Result (Unit {0}) AllocError) → IsSession session → session ≡ game → p < players_of game → log_of logs p ≡ Some h → j ≡ p → k ≡ p →
    HasTaken game logs p a → ((g : Game) (ls : List (List Entry)) → IsAuditOf g ls a → IsAuditOf g ls b) → b.session ≡ a.session → ((i : ℕ) → count_in b i ≡ count_in a i) → owner_in b j ≡ Some p →
    ((i : ℕ) → (i ≡ j → ⊥) → owner_in b i ≡ owner_in a i) → OnOk r (HasTakenOf b c k h) → OnOk r (HasTaken game logs (p + 1) c)
log_taken game session logs p h a b c j k r is same lt at jp kp t stands session_is counts owner others took =
    let w : IsSession game = subst IsSession same is in
    let below : p < MOST_LOGS = (let many = w.players.1 in omega (arith, lt, many)) in
    on_ok r (λ (o : HasTakenOf b c k h).
    let n : HasTakenOf b c p h = subst (λ (i : ℕ). HasTakenOf b c i h) kp o in
    honest_taken game logs p below a c h at (n.session ∙ session_is) t (λ g ls x. n.taken g ls (stands g ls x)) (n.owner ∙ subst (λ (i : ℕ). owner_in b i ≡ Some p) jp owner)
    (λ i not. ((n.others i not).0 ∙ counts i, (n.others i not).1 ∙ others i (λ e. not (e ∙ jp))))) took

pub nothing_taken : (game : Game) (logs : Logs) (a : AuditState) → IsAuditOf game (replicate MOST_LOGS []) a → ((i : ℕ) → count_in a i ≡ 0) → ((i : ℕ) → owner_in a i ≡ None) → HasTaken game logs 0 a
nothing_taken game logs a is counts owners = record {
  session = is.session;
  stands = record { audit = is; owners_are = λ i. owners i; each = refl };
  none = λ i le. counts i;
}

-- what is reported of all players' logs
pub all_owned : (game : Game) (logs : Logs) → 1 ≤ game.ahead → AreHonest game logs → AreOwned game (owners_of logs (players_of game)) (logs_of logs (players_of game))
all_owned game logs ahead honest i o h at owner = go (log_of logs i) refl (item_at (entries_by logs) 0 (players_of game) i h at) (owned (owner_by logs) 0 (players_of game) i o owner)
  where
    item_at : (f : ℕ → List Entry) (a n i : ℕ) (h : List Entry) → slice_get (map f (range_with_len a n)) i ≡ Some h → f (a + i) ≡ h
    item_at f a zero i h e = absurd (let never : None ≡ Some h = e in cc)
    item_at f a (suc n) zero h e =
        let same : a + 0 ≡ a = omega arith in
        let some : Some (f a) ≡ Some h = e in
        let its : f a ≡ h = cc in
        ap f same ∙ its
    item_at f a (suc n) (suc i) h e = let same : a + suc i ≡ a + 1 + i = omega arith in ap f same ∙ item_at f (a + 1) n i h e

    owned : (f : ℕ → Option ℕ) (a n i o : ℕ) → item_or (map f (range_with_len a n)) i None ≡ Some o → f (a + i) ≡ Some o
    owned f a zero i o e = absurd (let never : None ≡ Some o = e in cc)
    owned f a (suc n) zero o e = let same : a + 0 ≡ a = omega arith in ap f same ∙ e
    owned f a (suc n) (suc i) o e = let same : a + suc i ≡ a + 1 + i = omega arith in ap f same ∙ owned f (a + 1) n i o e

    go : (l : Option (List Entry)) → log_of logs i ≡ l → entries_by logs (0 + i) ≡ h → owner_by logs (0 + i) ≡ Some o → AreWellFormed game o h
    go None e its mine =
        let same : i ≡ 0 + i = omega arith in
        let mine_too : owner_by logs i ≡ Some o = ap (owner_by logs) same ∙ mine in
        let nobody : owner_by logs i ≡ None = ap (λ (l : Option (List Entry)). if is_some l then Some i else None) e in
        let never : None ≡ Some o = sym nobody ∙ mine_too in
        absurd cc
    go (Some g) e its mine =
        let same : i ≡ 0 + i = omega arith in
        let mine_too : owner_by logs i ≡ Some o = ap (owner_by logs) same ∙ mine in
        let itself : owner_by logs i ≡ Some i = ap (λ (l : Option (List Entry)). if is_some l then Some i else None) e in
        let both : Some i ≡ Some o = sym itself ∙ mine_too in
        let who : i ≡ o = cc in
        let log : g ≡ h = sym (entries_is i g e) ∙ ap (entries_by logs) same ∙ its in
        subst (λ (q : ℕ). AreWellFormed game q h) who (subst (λ (l : List Entry). AreWellFormed game i l) log (honest_well_formed game i g ahead (honest i g e)))
      where
        entries_is : (i : ℕ) (g : List Entry) → log_of logs i ≡ Some g → entries_by logs i ≡ g
        entries_is i g e = ap (λ (l : Option (List Entry)). unwrap_or l []) e

pub all_reported : (game session : Game) (logs : Logs) (n : ℕ) (a : AuditState) (r : Result Reported AllocError) → IsSession session → session ≡ game → AreHonest game logs → players_of game ≤ n → n ≤ players_of game → HasTaken game logs n a →
    IfOk r (λ r. (g : Game) (owners : List (Option ℕ)) (ls : List (List Entry)) → StandsFor g owners ls a → IsReportOf g owners ls r) → IfOk r (IsReportOn game logs)
all_reported game session logs n a r is same honest most least t told =
    let w : IsSession game = subst IsSession same is in
    let all : HasTaken game logs (players_of game) a = subst (λ (k : ℕ). HasTaken game logs k a) (omega (arith, most, least)) t in
    if_ok r (λ x tells.
    let of : IsReportOf game (owners_of logs (players_of game)) (logs_of logs (players_of game)) x = tells game (owners_of logs (players_of game)) (logs_of logs (players_of game)) all.stands in
    record { found = of.found; world_is = of.world (all_owned game logs w.ahead.0 honest) }) told
