-- Served: the log is given piece by piece, and a socket served.
use Rattle.std.proofs.Common.{◌≡◌, ℕ, ◌+◌, ◌-◌, ◌^◌, ◌<◌, ◌≤◌, Bool, true, false, Option, Some, None, refl, sym, ap, subst, ◌∙◌, List, [], ◌∷◌, ◌++◌, arith, length}
use Rattle.std.specs.Prelude.{◌&&◌, ◌||◌, not, if◌then◌else◌}
use Rattle.std.proofs.lemmas.Bool.{and_from, false≢true}
use Rattle.definitions.specs.Lists.{is_empty}
use Rattle.definitions.specs.declared.limits.TheConstants.{LONGEST_LOG}
use Rattle.station.specs.Pieces.{GivesAt}
use Rattle.station.specs.Shelves.{ShelfState}
use Rattle.line_io.specs.Fronts.{IsCall}
use Rattle.socket_station.specs.declared.answers.SocketWrite.{SocketWrite}
use Rattle.socket_station.specs.declared.answers.SocketWrite.TheVariants as W
use Rattle.socket_station.specs.Items.{Item, write_item}
use Rattle.socket_station.specs.Withins.{GivesWithin}
use Rattle.deposit_rules.specs.declared.line.DepositLine.{DepositLine}
use Rattle.deposit_rules.specs.Lines.{asks_shut, blocked, gave}
use Rattle.deposit_rules.specs.Views.{View}
use Rattle.deposit_rules.specs.After as A
use Rattle.deposit_rules.specs.Rules as L
use Rattle.live_deposit.specs.declared.settling.Settled.{Settled}
use Rattle.live_deposit.specs.declared.settling.Settled.TheVariants as S
use Rattle.live_deposit.specs.Told.{IsTold, Stands}
use Rattle.live_deposit.specs.Going.{GoesBy}
use Rattle.live_deposit.specs.Logs.{Asks, log_of}
use Rattle.live_deposit.specs.Reading.{Clears, IsRead, Moves}
use Rattle.live_deposit.specs.Writing.{GreetsOut, log_left, owes_hello, takes_bytes, wrote_by}
use Rattle.live_deposit.specs.Sending.{is_shelf_failed}
use Rattle.live_deposit.specs.Serving.{GoesFor, IsGreeted, Serves, StandsServed, GivesPiece}
use Rattle.live_deposit.proofs.Going.{grew_one, grew_still, grew_then, told_on}
use Rattle.live_deposit.proofs.Asking.{asks_call, asks_none, asks_then, for_all, for_both, for_call, for_later, is_none}
use Rattle.live_deposit.proofs.Logs.{IsFirst, ended_end, longest_end, piece_is, piece_open}
use Rattle.live_deposit.proofs.Heard.{moves_then}
use Rattle.live_deposit.proofs.Written.{and_false, gave_log, wrote_after, wrote_may, wrote_opens, wrote_polls, wrote_read, wrote_stands}

-- ---- calls that ask for the log, one after the other

pub for_goes : (count : ℕ) (name : List ℕ) (a b : List Item) (s : ShelfState) (v w : View) → GoesBy count a b v w → GoesFor count name false a b s s v w
for_goes count name a b s v w g = record {
  more = g.more;
  grew = g.grew;
  asks = asks_none name s;
  told = for_all s s (λ (log : List ℕ). IsTold log a v → IsTold log b w) g.told;
}

pub for_then : (m n k : ℕ) (name : List ℕ) (failed : Bool) (a b c : List Item) (s t u : ShelfState) (v w x : View) → m + n ≡ k → GoesFor m name false a b s t v w → GoesFor n name failed b c t u w x → GoesFor k name failed a c s u v x
for_then m n k name failed a b c s t u v w x sum g h = record {
  more = g.more ++ h.more;
  grew = grew_then m n k a b c g.more h.more v w x sum g.grew h.grew;
  asks = asks_then name failed s t u g.asks h.asks;
  told = for_both s t u (λ (log : List ℕ). IsTold log a v → IsTold log b w) (λ (log : List ℕ). IsTold log b w → IsTold log c x) (λ (log : List ℕ). IsTold log a v → IsTold log c x) g.asks.grows h.asks.grows (λ log f k told. k (f told)) g.told h.told;
}

-- ---- a piece

pub some_none : {X : Type 0} {P : Type 0} (x : X) → Some x ≡ None → P
some_none x e = absurd (let h : Some x ≡ None = e in cc)

pub still_for : (name : List ℕ) (items : List Item) (s : ShelfState) (v : View) → Stands items v → GoesFor 0 name false items items s s v v
still_for name items s v stands = record { more = []; grew = grew_still items v stands; asks = asks_none name s; told = for_all s s (λ (log : List ℕ). IsTold log items v → IsTold log items v) (λ log told. told) }

pub piece_longest : (name : List ℕ) (items : List Item) (s : ShelfState) (v : View) (at : ℕ) → v.line.cursor ≡ Some at → Stands items v → IsGreeted v → LONGEST_LOG ≤ at → GivesPiece name (Some S.Sent) items items s s v v
piece_longest name items s v at here stands greeted long = record {
  goes = still_for name items s v stands;
  greeted = greeted;
  dialled = refl;
  stands = λ content all. ap (L.is_at_end (log_of content)) here ∙ longest_end content at long;
  less = some_none S.Sent;
}

-- a call after which nothing is written
piece_call : (name : List ℕ) (items : List Item) (s t : ShelfState) (v : View) (at : ℕ) (gave : Option (List ℕ)) (r : Settled) → IsCall s t name at gave → is_none gave ≡ is_shelf_failed r → Stands items v → IsGreeted v →
    ((content : List ℕ) → GivesAt (Some content) at gave → StandsServed (log_of content) r v) → GivesPiece name (Some r) items items s t v v
piece_call name items s t v at gave r call fault stands greeted why = record {
  goes = record {
    more = [];
    grew = grew_still items v stands;
    asks = subst (λ (b : Bool). Asks name b s t) fault (asks_call name at gave s t call);
    told = for_all s t (λ (log : List ℕ). IsTold log items v → IsTold log items v) (λ log told. told);
  };
  greeted = greeted;
  dialled = refl;
  stands = for_call s t name at gave (λ (log : List ℕ). StandsServed log r v) call why;
  less = some_none r;
}

-- nothing is to be written where all was read, and nothing due or taken
idle_bools : (o a q b e : Bool) → (o ≡ true → (a ≡ false) × (q ≡ true)) → ((o && not b) ≡ true → e ≡ true) → (not o || (not a && q && (b || e))) ≡ true
idle_bools false a q b e read none = refl
idle_bools true a q true e read none = and_from (not a && q) true (and_from (not a) q (ap not (read refl).0) (read refl).1) refl
idle_bools true a q false e read none = and_from (not a && q) e (and_from (not a) q (ap not (read refl).0) (read refl).1) (none refl)

pub idle_so : (log : List ℕ) (l : DepositLine) → IsRead l → (takes_bytes l ≡ true → is_empty (L.due log l) ≡ true) → L.is_idle log l ≡ true
idle_so log l read none = idle_bools l.is_open (asks_shut l) l.is_quiet l.is_blocked (is_empty (L.due log l)) read none

-- where bytes may be written and no HELLO is to be, none of it is left
hello_none : (l : DepositLine) → owes_hello l ≡ false → takes_bytes l ≡ true → is_empty l.unsent ≡ true
hello_none l owes takes = go (is_empty l.unsent) refl
  where
    go : (b : Bool) → is_empty l.unsent ≡ b → is_empty l.unsent ≡ true
    go true e = e
    go false e = absurd (false≢true (sym owes ∙ and_from (takes_bytes l) (not (is_empty l.unsent)) takes (ap not e)))

due_log : (log : List ℕ) (l : DepositLine) → is_empty l.unsent ≡ true → L.due log l ≡ L.from log l.cursor
due_log log l e = ap (λ (b : Bool). if b then L.from log l.cursor else l.unsent) e

pub piece_ended : (name : List ℕ) (items : List Item) (s t : ShelfState) (v : View) (at : ℕ) → IsCall s t name at (Some []) → v.line.cursor ≡ Some at → Stands items v → IsGreeted v → GivesPiece name (Some S.Sent) items items s t v v
piece_ended name items s t v at call here stands greeted =
    piece_call name items s t v at (Some []) S.Sent call refl stands greeted (λ content gives. ap (L.is_at_end (log_of content)) here ∙ ended_end content at gives)

pub piece_failed : (name : List ℕ) (items : List Item) (s t : ShelfState) (v : View) (at : ℕ) → IsCall s t name at None → Stands items v → IsGreeted v → GivesPiece name (Some S.ShelfFault) items items s t v v
piece_failed name items s t v at call stands greeted = piece_call name items s t v at None S.ShelfFault call refl stands greeted (λ content gives. tt)

pub piece_idle : (name : List ℕ) (items : List Item) (s t : ShelfState) (v : View) (at : ℕ) (bytes : List ℕ) → IsCall s t name at (Some bytes) → 0 < length bytes → at + length bytes ≤ LONGEST_LOG → v.line.cursor ≡ Some at → Stands items v → IsGreeted v →
    takes_bytes v.line ≡ false → GivesPiece name (Some S.Idle) items items s t v v
piece_idle name items s t v at bytes call some few here stands greeted not_taken = piece_call name items s t v at (Some bytes) S.Idle call refl stands greeted (λ content gives. (
  idle_so (log_of content) v.line greeted.read (λ e. absurd (false≢true (sym not_taken ∙ e))),
  ap (L.is_at_end (log_of content)) here ∙ piece_open (log_of content) bytes at (piece_is content bytes at gives few some),
))

-- a piece was written of

wrote_unsent : (l : DepositLine) (r : SocketWrite) (at : ℕ) → is_empty l.unsent ≡ true → l.cursor ≡ Some at → is_empty (wrote_by r l).unsent ≡ true
wrote_unsent l (W.Gave n) at e here = ap (λ (x : DepositLine). is_empty x.unsent) (gave_log n at l e here) ∙ e
wrote_unsent l W.NotYet at e here = e
wrote_unsent l W.Failed at e here = e

owes_none : (l : DepositLine) → is_empty l.unsent ≡ true → owes_hello l ≡ false
owes_none l e = ap (λ (b : Bool). takes_bytes l && not b) e ∙ and_false (takes_bytes l)

log_most : (l : DepositLine) (at : ℕ) → log_left l (Some at) ≤ 2 ^ 32 - at
log_most l at = go (takes_bytes l)
  where
    go : (b : Bool) → (if b then 2 ^ 32 - at else 0) ≤ 2 ^ 32 - at
    go true = omega arith
    go false = omega arith

log_less : (l : DepositLine) (r : SocketWrite) (at : ℕ) (bytes : List ℕ) → at + length bytes ≤ LONGEST_LOG → is_empty l.unsent ≡ true → l.cursor ≡ Some at → takes_bytes l ≡ true → GivesWithin r bytes → log_left (wrote_by r l) (wrote_by r l).cursor < log_left l l.cursor
log_less l r at bytes few e here takes within = go r within
  where
    was : log_left l l.cursor ≡ 2 ^ 32 - at
    was = ap (log_left l) here ∙ ap (λ (b : Bool). if b then 2 ^ 32 - at else 0) takes

    go : (x : SocketWrite) → GivesWithin x bytes → log_left (wrote_by x l) (wrote_by x l).cursor < log_left l l.cursor
    go (W.Gave n) t =
        let m : DepositLine = gave n l in
        let now : m.cursor ≡ Some (at + n) = ap (λ (x : DepositLine). x.cursor) (gave_log n at l e here) in
        let is = ap (log_left m) now in
        let most = log_most m (at + n) in
        let a = t.0 in
        let b = t.1 in
        omega (arith, is, most, was, a, b, few)
    go W.NotYet t =
        let is = ap (log_left (blocked l)) here in
        let none : log_left (blocked l) (Some at) ≡ 0 = ap (λ (b : Bool). if b then 2 ^ 32 - at else 0) (and_false l.is_open) in
        omega (arith, is, none, was, few)
    go W.Failed t =
        let is = ap (λ (o : Option ℕ). log_left (wrote_by W.Failed l) o) here in
        omega (arith, is, was, few)

pub piece_on : (name : List ℕ) (before after : List Item) (s t : ShelfState) (v : View) (at : ℕ) (bytes : List ℕ) (r : SocketWrite) → IsCall s t name at (Some bytes) → 0 < length bytes → at + length bytes ≤ LONGEST_LOG → v.line.cursor ≡ Some at → Stands before v → IsGreeted v →
    takes_bytes v.line ≡ true → GivesWithin r bytes → after ≡ before ++ write_item v.line.socket r bytes ∷ [] → GivesPiece name None before after s t v (A.with_line (wrote_by r v.line) v)
piece_on name before after s t v at bytes r call some few here stands greeted takes within on =
    let l : DepositLine = v.line in
    let w : View = A.with_line (wrote_by r l) v in
    let none : is_empty l.unsent ≡ true = hello_none l greeted.hello takes in
    let is : A.after v (write_item l.socket r bytes) ≡ w = wrote_after v r bytes within in
    let stand : Stands after w = wrote_stands before after v r bytes stands on in
    let may : (content : List ℕ) → GivesAt (Some content) at (Some bytes) → L.is_allowed (log_of content) v (write_item l.socket r bytes) ≡ true
    = λ content gives. wrote_may (log_of content) v r bytes greeted.giving takes greeted.read (subst (IsFirst bytes) (sym (due_log (log_of content) l none ∙ ap (L.from (log_of content)) here)) (piece_is content bytes at gives few some)) within in
    record {
      goes = record {
        more = write_item l.socket r bytes ∷ [];
        grew = grew_one 0 before after (write_item l.socket r bytes) v w (wrote_polls l.socket r bytes) on refl stand;
        asks = asks_call name at (Some bytes) s t call;
        told = for_call s t name at (Some bytes) (λ (log : List ℕ). IsTold log before v → IsTold log after w) call
            (λ content gives told. told_on (log_of content) before after v w (write_item l.socket r bytes) told (wrote_opens before l.socket r bytes) (may content gives) on (sym is) refl);
      };
      greeted = record { giving = greeted.giving; read = wrote_read l r greeted.read; hello = owes_none (wrote_by r l) (wrote_unsent l r at none here) };
      dialled = refl;
      stands = for_all s t (λ (log : List ℕ). Unit {0}) (λ log. tt);
      less = λ e. log_less l r at bytes few none here takes within;
    }

-- ---- piece by piece

pub record GivingOut (name : List ℕ) (before now : List Item) (s t : ShelfState) (v w : View) : Type 0 where
  pub goes : GoesFor 0 name false before now s t v w
  pub stands : Stands now w
  pub greeted : IsGreeted w
  pub dialled : w.is_dialled ≡ v.is_dialled

pub give_first : (name : List ℕ) (items : List Item) (s : ShelfState) (v : View) → Stands items v → IsGreeted v → GivingOut name items items s s v v
give_first name items s v stands greeted = record { goes = still_for name items s v stands; stands = stands; greeted = greeted; dialled = refl }

pub give_on : (name : List ℕ) (a b c : List Item) (s t u : ShelfState) (v w x : View) → GivingOut name a b s t v w → GivesPiece name None b c t u w x → GivingOut name a c s u v x
give_on name a b c s t u v w x g h = record { goes = for_then 0 0 0 name false a b c s t u v w x refl g.goes h.goes; stands = h.goes.grew.stands; greeted = h.greeted; dialled = h.dialled ∙ g.dialled }

pub give_ends : (name : List ℕ) (a b c : List Item) (s t u : ShelfState) (v w x : View) (r : Settled) → GivingOut name a b s t v w → GivesPiece name (Some r) b c t u w x → Serves name r a c s u v x
give_ends name a b c s t u v w x r g h = record {
  goes = for_then 0 0 0 name (is_shelf_failed r) a b c s t u v w x refl g.goes h.goes;
  giving = h.greeted.giving;
  dialled = h.dialled ∙ g.dialled;
  stands = for_later s t u (λ (log : List ℕ). StandsServed log r x) g.goes.asks.grows h.goes.asks.grows h.stands;
}

-- no WANT came
pub give_unasked : (name : List ℕ) (a b : List Item) (s t : ShelfState) (v w : View) → GivingOut name a b s t v w → w.line.cursor ≡ None → Serves name S.Idle a b s t v w
give_unasked name a b s t v w g none = record {
  goes = g.goes;
  giving = g.greeted.giving;
  dialled = g.dialled;
  stands = for_all s t (λ (log : List ℕ). StandsServed log S.Idle w) (λ log. (
    idle_so log w.line g.greeted.read (λ e. ap (λ (bytes : List ℕ). is_empty bytes) (due_log log w.line (hello_none w.line g.greeted.hello e) ∙ ap (L.from log) none)),
    ap (L.is_at_end log) none,
  ));
}

-- ---- a whole socket

pub serves_all : (name : List ℕ) (a b c d : List Item) (s t : ShelfState) (u v w x : View) (r : Settled) → Clears a b u v → GreetsOut b c v w → Serves name r c d s t w x → Serves name r a d s t u x
serves_all name a b c d s t u v w x r p q g =
    let m : Moves a c u w = moves_then a b c u v w p.moves q.moves in
    record {
      goes = for_then 0 0 0 name (is_shelf_failed r) a c d s s t u w x refl (for_goes 0 name a c s u w m.goes) g.goes;
      giving = g.giving;
      dialled = g.dialled ∙ m.dialled;
      stands = g.stands;
    }

-- ---- as the depositor's parts show it

greeted_in : (i w : View) → i ≡ w → IsGreeted w → IsGreeted i
greeted_in i w e g = subst IsGreeted (sym e) g

stands_in : (items : List Item) (i w : View) → i ≡ w → Stands items w → Stands items i
stands_in items i w e g = subst (Stands items) (sym e) g

module _ (name : List ℕ) (before : List Item) (s t : ShelfState) (i w : View) (at : ℕ) (e : i ≡ w) (here : w.line.cursor ≡ Some at) (stands : Stands before w) (greeted : IsGreeted w) where
  here_in : i.line.cursor ≡ Some at
  here_in = ap (λ (x : View). x.line.cursor) e ∙ here

  to_parts : (r : Option Settled) (after : List Item) (m : View) → GivesPiece name r before after s t i m → GivesPiece name r before after s t w m
  to_parts r after m h = subst (λ (x : View). GivesPiece name r before after s t x m) e h

  pub ended_in : IsCall s t name at (Some []) → GivesPiece name (Some S.Sent) before before s t w i
  ended_in call = to_parts (Some S.Sent) before i (piece_ended name before s t i at call here_in (stands_in before i w e stands) (greeted_in i w e greeted))

  pub failed_in : IsCall s t name at None → GivesPiece name (Some S.ShelfFault) before before s t w i
  failed_in call = to_parts (Some S.ShelfFault) before i (piece_failed name before s t i at call (stands_in before i w e stands) (greeted_in i w e greeted))

  pub idle_in : (bytes : List ℕ) → IsCall s t name at (Some bytes) → 0 < length bytes → at + length bytes ≤ LONGEST_LOG → takes_bytes i.line ≡ false → GivesPiece name (Some S.Idle) before before s t w i
  idle_in bytes call some few off = to_parts (Some S.Idle) before i (piece_idle name before s t i at bytes call some few here_in (stands_in before i w e stands) (greeted_in i w e greeted) off)

  pub on_in : (after : List Item) (bytes : List ℕ) (r : SocketWrite) (l : DepositLine) → IsCall s t name at (Some bytes) → 0 < length bytes → at + length bytes ≤ LONGEST_LOG → takes_bytes i.line ≡ true → GivesWithin r bytes →
      after ≡ before ++ write_item i.line.socket r bytes ∷ [] → l ≡ wrote_by r i.line → GivesPiece name None before after s t w (A.with_line l i)
  on_in after bytes r l call some few takes within on made =
      to_parts None after (A.with_line l i) (subst (λ (k : DepositLine). GivesPiece name None before after s t i (A.with_line k i)) (sym made)
      (piece_on name before after s t i at bytes r call some few here_in (stands_in before i w e stands) (greeted_in i w e greeted) takes within on))
