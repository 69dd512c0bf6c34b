-- Polled: a poll, a round, and a whole deposit.
use Rattle.std.proofs.Common.{◌≡◌, ℕ, ◌+◌, ◌<◌, Bool, true, false, Some, None, refl, sym, ap, subst, ◌∙◌, List, [], ◌∷◌, ◌++◌, append_assoc, arith}
use Rattle.std.specs.Prelude.{◌==◌, if◌then◌else◌}
use Rattle.std.specs.List.{fold}
use Rattle.std.proofs.lemmas.Bool.{and_parts, false≢true}
use Rattle.station.specs.Shelves.{ShelfState}
use Rattle.socket_station.specs.declared.answers.Ready.{Ready}
use Rattle.socket_station.specs.declared.answers.Ready.TheVariants.{Opened, Socket as Seems}
use Rattle.socket_station.specs.declared.answers.Standing.{Standing}
use Rattle.socket_station.specs.declared.answers.Standing.TheVariants.{Open}
use Rattle.socket_station.specs.Items.{Item, Failed, PollCall, Polled}
use Rattle.socket_station.specs.Standings.{OpensNew, opens, standing_in}
use Rattle.socket_station.proofs.Histories.{standing-more}
use Rattle.deposit_rules.specs.declared.phases.DepositPhase.TheVariants.{PollFault}
use Rattle.deposit_rules.specs.declared.line.DepositLine.{DepositLine}
use Rattle.deposit_rules.specs.Lines.{woken}
use Rattle.deposit_rules.specs.Views.{View}
use Rattle.deposit_rules.specs.After as A
use Rattle.deposit_rules.specs.Rules as L
use Rattle.live_deposit.specs.declared.deposit.Deposited.{Deposited}
use Rattle.live_deposit.specs.declared.deposit.Deposited.TheVariants as D
use Rattle.live_deposit.specs.declared.settling.Settled.TheVariants as S
use Rattle.live_deposit.specs.Told.{IsReady, IsTold, Stands}
use Rattle.live_deposit.specs.Logs.{log_of}
use Rattle.live_deposit.specs.Polling.{Polls, Rounds, woken_at}
use Rattle.live_deposit.specs.Sending.{LastPollFailed, Sends, Settles, StandsDeposited, is_shelf_fault}
use Rattle.live_deposit.specs.Serving.{GoesFor}
use Rattle.live_deposit.proofs.Going.{grew_one, grew_then, told_on}
use Rattle.live_deposit.proofs.Asking.{asks_then, for_both, for_later}
use Rattle.live_deposit.proofs.Heard.{ready_in}
use Rattle.live_deposit.proofs.Served.{for_then, some_none, still_for}
use Rattle.live_deposit.proofs.Written.{not_false}

-- ---- what a poll lists

listed_is : (v : View) (r : Ready) → A.listed v r ≡ A.with_line (woken_at v.line r) v
listed_is v (Opened s) = refl
listed_is v (Seems s) = go (v.line.socket == s)
  where
    go : (b : Bool) → (if b then A.with_line (woken v.line) v else v) ≡ A.with_line (if b then woken v.line else v.line) v
    go true = refl
    go false = refl

listed_all : (v : View) (list : List Ready) → fold A.listed v list ≡ A.with_line (fold woken_at v.line list) v
listed_all v [] = refl
listed_all v (r ∷ list) = ap (λ (x : View). fold A.listed x list) (listed_is v r) ∙ listed_all (A.with_line (woken_at v.line r) v) list

-- whose socket it is, whether it is open, and what was read of it
record Wakes (w m : DepositLine) : Type 0 where
  sock : m.socket ≡ w.socket
  opened : m.is_open ≡ w.is_open
  place : m.reader.place ≡ w.reader.place
  taken : m.taken ≡ w.taken

wakes_one : (w : DepositLine) (r : Ready) → Wakes w (woken_at w r)
wakes_one w (Opened s) = record { sock = refl; opened = refl; place = refl; taken = refl }
wakes_one w (Seems s) = go (w.socket == s)
  where
    go : (b : Bool) → Wakes w (if b then woken w else w)
    go true = record { sock = refl; opened = refl; place = refl; taken = refl }
    go false = record { sock = refl; opened = refl; place = refl; taken = refl }

wakes_all : (w : DepositLine) (list : List Ready) → Wakes w (fold woken_at w list)
wakes_all w [] = record { sock = refl; opened = refl; place = refl; taken = refl }
wakes_all w (r ∷ list) =
    let a = wakes_one w r in
    let b = wakes_all (woken_at w r) list in
    record { sock = b.sock ∙ a.sock; opened = b.opened ∙ a.opened; place = b.place ∙ a.place; taken = b.taken ∙ a.taken }

open_either : (b : Bool) (s : Standing) → s ≡ Open → (if b then Open else s) ≡ Open
open_either true s e = refl
open_either false s e = e

poll_stands : (before after : List Item) (v w : View) (list : List Ready) → Stands before v → after ≡ before ++ Polled list ∷ [] → Wakes v.line w.line → Stands after w
poll_stands before after v w list stands on k = record {
  opened = λ o.
      ap (standing_in after) k.sock ∙ ap (λ (xs : List Item). standing_in xs v.line.socket) on ∙ standing-more before (Polled list) v.line.socket
      ∙ open_either (opens list v.line.socket) (standing_in before v.line.socket) (stands.opened (sym k.opened ∙ o));
  place = (let p = k.place in let t = k.taken in let h = stands.place in omega (arith, p, t, h));
}

-- ---- a poll

poll_done : (before after : List Item) (v : View) (list : List Ready) → IsReady before v → OpensNew before (Polled list) → after ≡ before ++ Polled list ∷ [] → Polls true before after v (record v { line = fold woken_at v.line list; is_dialled = false })
poll_done before after v list ready new on =
    let w : View = record v { line = fold woken_at v.line list; is_dialled = false } in
    let is : A.after v (Polled list) ≡ w = listed_all (A.rested v) list in
    record {
      more = Polled list ∷ [];
      grew = grew_one 1 before after (Polled list) v w refl on refl (poll_stands before after v w list ready.stands on (wakes_all v.line list));
      told = λ log may told. told_on log before after v w (Polled list) told new may on (sym is) refl;
      giving = λ e. ready.giving;
      fault = λ e. absurd (false≢true (sym e));
    }

poll_failed : (before after : List Item) (v : View) → IsReady before v → after ≡ before ++ Failed PollCall ∷ [] → Polls false before after v (record v { phase = PollFault })
poll_failed before after v ready on =
    let w : View = record v { phase = PollFault } in
    record {
      more = Failed PollCall ∷ [];
      grew = grew_one 0 before after (Failed PollCall) v w refl on refl (record {
        opened = λ o. ap (λ (xs : List Item). standing_in xs v.line.socket) on ∙ standing-more before (Failed PollCall) v.line.socket ∙ ready.stands.opened o;
        place = ready.stands.place;
      });
      told = λ log may told. told_on log before after v w (Failed PollCall) told tt may on refl refl;
      giving = λ e. absurd (false≢true e);
      fault = λ e. record { fault = refl; line = refl; last = refl };
    }

pub done_in : (before after : List Item) (i w : View) (list seen : List Ready) (l : DepositLine) → i ≡ w → IsReady before w → OpensNew before (Polled list) → after ≡ before ++ Polled list ∷ [] → seen ≡ list → l ≡ fold woken_at i.line seen →
    Polls true before after w (record i { line = l; is_dialled = false })
done_in before after i w list seen l e ready new on all made =
    let same : l ≡ fold woken_at i.line list = made ∙ ap (λ (rs : List Ready). fold woken_at i.line rs) all in
    subst (λ (x : View). Polls true before after x (record i { line = l; is_dialled = false })) e
    (subst (λ (k : DepositLine). Polls true before after i (record i { line = k; is_dialled = false })) (sym same) (poll_done before after i list (ready_in before i w e ready) new on))

pub failed_in : (before after : List Item) (i w : View) → i ≡ w → IsReady before w → after ≡ before ++ Failed PollCall ∷ [] → Polls false before after w (record i { phase = PollFault })
failed_in before after i w e ready on = subst (λ (x : View). Polls false before after x (record i { phase = PollFault })) e (poll_failed before after i (ready_in before i w e ready) on)

-- ---- a round

pub round_sent : (name : List ℕ) (left : ℕ) (a b : List Item) (s t : ShelfState) (v w : View) → Settles name S.Sent a b s t v w → Rounds name left (Some D.Sent) a b s t v w
round_sent name left a b s t v w g = record {
  goes = record { more = g.more; grew = g.grew; asks = g.asks; told = g.told };
  on = some_none D.Sent;
  stands = λ content all. (g.stands content all, g.giving);
  failed = λ e. absurd (let never : Some D.Sent ≡ Some D.PollFault = e in cc);
}

pub round_gave_up : (name : List ℕ) (left : ℕ) (a b : List Item) (s t : ShelfState) (v w : View) → Settles name S.Idle a b s t v w → left ≡ 0 → Rounds name left (Some D.GaveUp) a b s t v w
round_gave_up name left a b s t v w g none = record {
  goes = record { more = g.more; grew = g.grew; asks = g.asks; told = g.told };
  on = some_none D.GaveUp;
  stands = λ content all. (sym none, g.stands content all);
  failed = λ e. absurd (let never : Some D.GaveUp ≡ Some D.PollFault = e in cc);
}

pub round_on : (name : List ℕ) (left : ℕ) (a b c : List Item) (s t : ShelfState) (v w x : View) → Settles name S.Idle a b s t v w → Polls true b c w x → 0 < left → Rounds name left None a c s t v x
round_on name left a b c s t v w x g p some = record {
  goes = record {
    more = g.more ++ p.more;
    grew = grew_then 0 1 1 a b c g.more p.more v w x refl g.grew p.grew;
    asks = g.asks;
    told = λ content all told. p.told (log_of content) (g.stands content all) (g.told content all told);
  };
  on = λ e. (p.giving refl, some);
  stands = λ content all. tt;
  failed = λ e. absurd (some_none D.PollFault (sym e));
}

unsent : (log : List ℕ) (v w : View) → L.is_licensed log v ≡ true → w.line ≡ v.line → L.is_sent log w ≡ false
unsent log v w may e = ap (λ (l : DepositLine). L.is_at_end log l.cursor) e ∙ not_false (L.is_sent log v) (and_parts _ _ may).1

pub round_fault : (name : List ℕ) (left : ℕ) (a b c : List Item) (s t : ShelfState) (v w x : View) → Settles name S.Idle a b s t v w → Polls false b c w x → Rounds name left (Some D.PollFault) a c s t v x
round_fault name left a b c s t v w x g p = record {
  goes = record {
    more = g.more ++ p.more;
    grew = grew_then 0 0 0 a b c g.more p.more v w x refl g.grew p.grew;
    asks = g.asks;
    told = λ content all told. p.told (log_of content) (g.stands content all) (g.told content all told);
  };
  on = some_none D.PollFault;
  stands = λ content all. let f = p.fault refl in (f.fault, unsent (log_of content) w x (g.stands content all) f.line, (g.more, ap (λ (y : List Item). g.more ++ y) f.last));
  failed = λ e. (g.more, ap (λ (y : List Item). g.more ++ y) (p.fault refl).last);
}

-- ---- round after round

-- so many polls are left
pub record SendingOut (name : List ℕ) (polls left : ℕ) (before now : List Item) (s t : ShelfState) (v w : View) : Type 0 where
  pub made : ℕ
  pub count : made + left ≡ polls
  pub goes : GoesFor made name false before now s t v w
  pub ready : IsReady now w

pub send_first : (name : List ℕ) (polls : ℕ) (items : List Item) (s : ShelfState) (v : View) → IsReady items v → SendingOut name polls polls items items s s v v
send_first name polls items s v ready = record { made = 0; count = omega arith; goes = still_for name items s v ready.stands; ready = ready }

pub send_on : (name : List ℕ) (polls left next : ℕ) (a b c : List Item) (s t u : ShelfState) (v w x : View) → SendingOut name polls left a b s t v w → Rounds name left None b c t u w x → next + 1 ≡ left → SendingOut name polls next a c s u v x
send_on name polls left next a b c s t u v w x g r less = record {
  made = g.made + 1;
  count = (let n = g.count in omega (arith, n, less));
  goes = for_then g.made 1 (g.made + 1) name false a b c s t u v w x refl g.goes r.goes;
  ready = record { giving = (r.on refl).0; stands = r.goes.grew.stands };
}

-- what came last comes last after more items too
last_on : (m n : List Item) → LastPollFailed n → LastPollFailed (m ++ n)
last_on m n l = (m ++ l.0, ap (λ (y : List Item). m ++ y) l.1 ∙ sym (append_assoc m l.0 (Failed PollCall ∷ [])))

sent_so : (log : List ℕ) (polls left made : ℕ) (r : Deposited) (m n : List Item) (w : View) → made + left ≡ polls → StandsDeposited log left 0 r n w → StandsDeposited log polls made r (m ++ n) w
sent_so log polls left made D.Sent m n w count s = s
sent_so log polls left made D.GaveUp m n w count s = (let none = s.0 in omega (arith, none, count), s.1)
sent_so log polls left made D.PollFault m n w count s = (s.0, s.1, last_on m n s.2)
sent_so log polls left made D.ShelfFault m n w count s = s

pub send_ends : (name : List ℕ) (polls left : ℕ) (a b c : List Item) (s t u : ShelfState) (v w x : View) (r : Deposited) → SendingOut name polls left a b s t v w → Rounds name left (Some r) b c t u w x → Sends name polls r a c s u v x
send_ends name polls left a b c s t u v w x r g h = record {
  made = g.made;
  more = g.goes.more ++ h.goes.more;
  grew = grew_then g.made 0 g.made a b c g.goes.more h.goes.more v w x (omega arith) g.goes.grew h.goes.grew;
  few = (let n = g.count in omega (arith, n));
  asks = asks_then name (is_shelf_fault r) s t u g.goes.asks h.goes.asks;
  told = for_both s t u (λ (log : List ℕ). IsTold log a v → IsTold log b w) (λ (log : List ℕ). IsTold log b w → IsTold log c x) (λ (log : List ℕ). IsTold log a v → IsTold log c x) g.goes.asks.grows h.goes.asks.grows (λ log f k told. k (f told)) g.goes.told h.goes.told;
  stands = for_later s t u (λ (log : List ℕ). StandsDeposited log polls g.made r (g.goes.more ++ h.goes.more) x) g.goes.asks.grows h.goes.asks.grows
      (λ content given. sent_so (log_of content) polls left g.made r g.goes.more h.goes.more x g.count (h.stands content given));
  failed = λ e. last_on g.goes.more h.goes.more (h.failed (ap (λ (x : Deposited). Some x) e));
}
