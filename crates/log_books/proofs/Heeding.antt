-- Heeding: what the auditor takes of a player's log is heeded by the agreed turns.
use Rattle.std.proofs.Common.{◌≡◌, ℕ, zero, suc, ◌-◌, ◌<◌, List, [], ◌∷◌, ◌++◌, drop, length, refl, sym, ap, subst, ◌∙◌, append-nil, append_assoc, map, slice_set}
use Rattle.std.specs.Prelude.{Option, Some, None, replicate, slice_get}
use Rattle.std.proofs.lemmas.List.{length-set, set-set}
use Rattle.std.proofs.lemmas.Option.{slice_get_within}
use Rattle.definitions.specs.declared.logs.Entry.{Entry}
use Rattle.definitions.specs.Entries.{AreWellFormed, is_well_formed}
use Rattle.definitions.specs.Lists.{EachIs}
use Rattle.definitions.specs.World.{Game}
use Rattle.frame_index.specs.declared.limits.TheConstants.{MOST_LOGS}
use Rattle.frame_index.specs.Frames.{IndexState}
use Rattle.session_log.specs.Fed.{Fed, IsFeedOf}
use Rattle.session_log.specs.Feeding.{LogFeeding, LogGiven, given_of}
use Rattle.agreed_turns.specs.Heads.{Hold}
use Rattle.agreed_turns.specs.States.{AgreedState, IsOf}
use Rattle.auditor.specs.Audits.{AuditState, IsAuditOf, crossed, crossed_logs, padded}
use Rattle.auditor.specs.Taking.{Takes, given_behind}
use Rattle.auditor.proofs.Crossed.{crossed_there}
use Rattle.auditor.proofs.Fed.{behind_more, takes_more}
use Rattle.auditor.proofs.Owned.{made_crossed}
use Rattle.log_books.specs.Heeding.{Comes, ComesAll, ComesOn}
use Rattle.log_books.proofs.Lists.{get_front, set_here, set_same}
use Rattle.log_books.proofs.Standing.{entries_at}

each_front : {X : Type 0} (P : X → Type 0) (xs ys : List X) → EachIs P (xs ++ ys) → EachIs P xs
each_front P [] ys w = tt
each_front P (x ∷ xs) ys w = (w.0, each_front P xs ys w.1)

module _ (game : Game) (q : ℕ) where
  well_front : (xs ys : List Entry) → AreWellFormed game q (xs ++ ys) → AreWellFormed game q xs
  well_front xs ys w = each_front _ xs ys w

  -- the lists with these entries at the end of the player's are those for which the auditor stands then
  audit_then : (a b : AuditState) (es : List Entry) (lists : List (List Entry)) (own : List Entry) → Takes a b q es → IsAuditOf game (padded lists (MOST_LOGS - length lists)) a → slice_get lists q ≡ Some own →
      IsAuditOf game (padded (slice_set lists q (own ++ es)) (MOST_LOGS - length lists)) b
  audit_then a b es lists own taken audit there =
      subst (λ (ls : List (List Entry)). IsAuditOf game ls b) (entries_at es lists (replicate (MOST_LOGS - length lists) []) q own there) (taken game (padded lists (MOST_LOGS - length lists)) audit)

  hold : (b : AuditState) (es : List Entry) (lists : List (List Entry)) (own : List Entry) → IsAuditOf game (padded (slice_set lists q (own ++ es)) (MOST_LOGS - length lists)) b → slice_get lists q ≡ Some own →
      AreWellFormed game q (own ++ es) → Hold game b.index b.made q (own ++ es)
  hold b es lists own audit there well =
      let now : List (List Entry) = padded (slice_set lists q (own ++ es)) (MOST_LOGS - length lists) in
      let at : slice_get now q ≡ Some (own ++ es) = get_front (slice_set lists q (own ++ es)) (replicate (MOST_LOGS - length lists) []) q (own ++ es) (set_here lists q (own ++ es) (slice_get_within lists q own there)) in
      record {
        of_others = λ p ne. record { logs = now; log = own ++ es; stands = audit.index; there = at; frames = refl };
        of_own = record { logs = crossed_logs now; log = map crossed (own ++ es); stands = audit.made; there = crossed_there now q (own ++ es) at; frames = made_crossed game q (own ++ es) well };
      }

  -- entries that were taken and then heeded
  pub comes_one : (a b : AuditState) (g h : AgreedState) (es : List Entry) → Takes a b q es →
      ((lists : List (List Entry)) (own : List Entry) → slice_get lists q ≡ Some own → IsOf game lists g → Hold game b.index b.made q (own ++ es) → IsOf game (slice_set lists q (own ++ es)) h) → Comes game a b g h q es
  comes_one a b g h es taken heed = record {
    taken = taken;
    heeded = λ lists own audit there well of. heed lists own there of (hold b es lists own (audit_then a b es lists own taken audit there) there well);
  }

  -- none
  pub comes_none : (a : AuditState) (g : AgreedState) → Comes game a a g g q []
  comes_none a g = record {
    taken = λ other logs w. w;
    heeded = λ lists own audit there well of. subst (λ (ls : List (List Entry)). IsOf game ls g) (sym (ap (slice_set lists q) (append-nil own) ∙ set_same lists q own there)) of;
  }

  -- and then more of them
  pub comes_more : (a b c : AuditState) (g h k : AgreedState) (es more : List Entry) → Comes game a b g h q es → Comes game b c h k q more → Comes game a c g k q (es ++ more)
  comes_more a b c g h k es more first second = record {
    taken = takes_more a b c q es more first.taken second.taken;
    heeded = λ lists own audit there well of.
        let all : AreWellFormed game q ((own ++ es) ++ more) = subst (AreWellFormed game q) (sym (append_assoc own es more)) well in
        let now : List (List Entry) = slice_set lists q (own ++ es) in
        let one : IsOf game now h = first.heeded lists own audit there (well_front (own ++ es) more all) of in
        let then : IsAuditOf game (padded now (MOST_LOGS - length now)) b =
        subst (λ (n : ℕ). IsAuditOf game (padded now (MOST_LOGS - n)) b) (sym (length-set lists q (own ++ es))) (audit_then a b es lists own first.taken audit there) in
        let two : IsOf game (slice_set now q ((own ++ es) ++ more)) k = second.heeded now (own ++ es) then (set_here lists q (own ++ es) (slice_get_within lists q own there)) all one in
        subst (λ (ls : List (List Entry)). IsOf game ls k) (set-set lists q (own ++ es) ((own ++ es) ++ more) ∙ ap (slice_set lists q) (append_assoc own es more)) two;
  }

  -- so far these entries came, and what is left gives the rest
  abbrev pub IsSoFar : (a now : AuditState) → (g then : AgreedState) → Fed → (f : LogFeeding) → (bytes rest : List ℕ) → Type 0
  IsSoFar a now g then r f bytes rest = (left : LogFeeding) × (es : List Entry) × IsFeedOf r left × (given_of game f bytes ≡ given_behind es (given_of game left rest)) × Comes game a now g then q es

  pub so_on : (a now next : AuditState) (g h k : AgreedState) (r r' : Fed) (f : LogFeeding) (bytes piece : List ℕ) (at to : ℕ) → ComesOn game now next h k q r r' piece at (Some to) →
      IsSoFar a now g h r f bytes (drop at piece) → IsSoFar a next g k r' f bytes (drop to piece)
  so_on a now next g h k r r' f bytes piece at to comes so =
      let n = comes so.0 so.2 in (
        n.1,
        so.1 ++ n.0,
        n.2,
        so.3 ∙ behind_more so.1 n.0 (given_of game n.1 (drop to piece)) (given_of game so.0 (drop at piece)) n.3,
        comes_more a now next g h k so.1 n.0 so.4 n.4,
      )

  pub so_all : (a now next : AuditState) (g h k : AgreedState) (r r' r'' : Fed) (f : LogFeeding) (bytes rest : List ℕ) → IsSoFar a now g h r' f bytes rest → ((left : LogFeeding) → IsFeedOf r' left → ComesAll game now next h k q r' r'' rest left) →
      ComesAll game a next g k q r r'' bytes f
  so_all a now next g h k r r' r'' f bytes rest so comes =
      let all = comes so.0 so.2 in record {
        feed = subst (λ (x : LogFeeding). IsFeedOf r'' x) (sym (ap (λ (x : LogGiven). x.feeding) so.3)) all.feed;
        came = subst (λ (xs : List Entry). Comes game a next g k q xs) (sym (ap (λ (x : LogGiven). x.entries) so.3)) (comes_more a now next g h k so.1 (given_of game so.0 rest).entries so.4 all.came);
      }

-- what the agreed turns heed of a batch, by other names of the session and of the indices
pub heed_as : (game other : Game) (b : AuditState) (got_index made_index : IndexState) (g h : AgreedState) (q : ℕ) (es : List Entry) → other ≡ game → got_index ≡ b.index → made_index ≡ b.made →
    ((lists : List (List Entry)) (own : List Entry) → slice_get lists q ≡ Some own → IsOf other lists g → Hold other got_index made_index q (own ++ es) → IsOf other (slice_set lists q (own ++ es)) h) →
    (lists : List (List Entry)) (own : List Entry) → slice_get lists q ≡ Some own → IsOf game lists g → Hold game b.index b.made q (own ++ es) → IsOf game (slice_set lists q (own ++ es)) h
heed_as game other b got_index made_index g h q es session got made heed =
    subst (λ (x : Game). (lists : List (List Entry)) (own : List Entry) → slice_get lists q ≡ Some own → IsOf x lists g → Hold x b.index b.made q (own ++ es) → IsOf x (slice_set lists q (own ++ es)) h) session
    (λ lists own there of holds. heed lists own there of
    (subst (λ (m : IndexState). Hold other got_index m q (own ++ es)) (sym made) (subst (λ (m : IndexState). Hold other m b.made q (own ++ es)) (sym got) holds)))
