-- Written: writes of the HELLO and of the log.
use Rattle.std.proofs.Common.{◌≡◌, ℕ, ◌+◌, ◌<◌, ◌≤◌, Bool, true, false, Option, Some, refl, sym, ap, subst, ◌∙◌, List, [], ◌∷◌, ◌++◌, arith, length, take, drop, length-drop}
use Rattle.std.specs.Prelude.{◌&&◌, not, option_map, if◌then◌else◌}
use Rattle.std.proofs.lemmas.Bool.{and_from, and_parts, eq-eqb, false≢true}
use Rattle.std.proofs.lemmas.List.{length-take-le}
use Rattle.definitions.specs.Lists.{is_empty}
use Rattle.socket_station.specs.declared.answers.SocketWrite.{SocketWrite}
use Rattle.socket_station.specs.declared.answers.SocketWrite.TheVariants as W
use Rattle.socket_station.specs.declared.answers.Standing.TheVariants.{Open}
use Rattle.socket_station.specs.Items.{Item, write_item}
use Rattle.socket_station.specs.Standings.{OpensNew, standing_in}
use Rattle.socket_station.specs.Withins.{GivesWithin}
use Rattle.socket_station.proofs.Histories.{standing-more}
use Rattle.deposit_rules.specs.declared.phases.DepositPhase.TheVariants.{Giving}
use Rattle.deposit_rules.specs.declared.line.DepositLine.{DepositLine}
use Rattle.deposit_rules.specs.Lines.{asks_shut, blocked, closed, gave}
use Rattle.deposit_rules.specs.Views.{View}
use Rattle.deposit_rules.specs.After as A
use Rattle.deposit_rules.specs.Rules as L
use Rattle.live_deposit.specs.Told.{IsReady, Stands}
use Rattle.live_deposit.specs.Going.{poll_count}
use Rattle.live_deposit.specs.Reading.{IsRead, Moves}
use Rattle.live_deposit.specs.Writing.{Greets, MayGreet, hello_left, owes_hello, takes_bytes, wrote_by}
use Rattle.live_deposit.proofs.Logs.{IsFirst, first_all, first_some, front_of}
use Rattle.live_deposit.proofs.Heard.{moves_one, moves_still, moves_then, on_here, ready_after}

-- ---- what a write leaves of a line

-- all but what is due, and whether the last write was refused
record Keeps (w m : DepositLine) : Type 0 where
  sock : m.socket ≡ w.socket
  opened : m.is_open ≡ w.is_open
  quiet : m.is_quiet ≡ w.is_quiet
  asks : asks_shut m ≡ asks_shut w
  place : m.reader.place ≡ w.reader.place
  taken : m.taken ≡ w.taken

gave_keeps : (count : ℕ) (w : DepositLine) → Keeps w (gave count w)
gave_keeps count w = go (is_empty w.unsent)
  where
    go : (b : Bool) → Keeps w (if b then record w { cursor = option_map (λ at. at + count) w.cursor } else record w { unsent = drop count w.unsent })
    go true = record { sock = refl; opened = refl; quiet = refl; asks = refl; place = refl; taken = refl }
    go false = record { sock = refl; opened = refl; quiet = refl; asks = refl; place = refl; taken = refl }

-- while bytes of the HELLO are left
gave_hello : (count : ℕ) (w : DepositLine) → is_empty w.unsent ≡ false → gave count w ≡ record w { unsent = drop count w.unsent }
gave_hello count w e = ap (λ (b : Bool). if b then record w { cursor = option_map (λ at. at + count) w.cursor } else record w { unsent = drop count w.unsent }) e

-- and after that
pub gave_log : (count at : ℕ) (w : DepositLine) → is_empty w.unsent ≡ true → w.cursor ≡ Some at → gave count w ≡ record w { cursor = Some (at + count) }
gave_log count at w e p =
    ap (λ (b : Bool). if b then record w { cursor = option_map (λ n. n + count) w.cursor } else record w { unsent = drop count w.unsent }) e ∙ ap (λ (o : Option ℕ). record w { cursor = option_map (λ n. n + count) o }) p

pub wrote_after : (v : View) (r : SocketWrite) (bytes : List ℕ) → GivesWithin r bytes → A.after v (write_item v.line.socket r bytes) ≡ A.with_line (wrote_by r v.line) v
wrote_after v (W.Gave n) bytes within = on_here v (gave (length (take n bytes))) ∙ ap (λ (k : ℕ). A.with_line (gave k v.line) v) (length-take-le n bytes within.1)
wrote_after v W.NotYet bytes within = on_here v blocked
wrote_after v W.Failed bytes within = on_here v closed

pub wrote_opens : (items : List Item) (s : ℕ) (r : SocketWrite) (bytes : List ℕ) → OpensNew items (write_item s r bytes)
wrote_opens items s (W.Gave n) bytes = tt
wrote_opens items s W.NotYet bytes = tt
wrote_opens items s W.Failed bytes = tt

pub wrote_polls : (s : ℕ) (r : SocketWrite) (bytes : List ℕ) → poll_count (write_item s r bytes) ≡ 0
wrote_polls s (W.Gave n) bytes = refl
wrote_polls s W.NotYet bytes = refl
wrote_polls s W.Failed bytes = refl

wrote_open : (before after : List Item) (l : DepositLine) (r : SocketWrite) (bytes : List ℕ) → (l.is_open ≡ true → standing_in before l.socket ≡ Open) → after ≡ before ++ write_item l.socket r bytes ∷ [] → (wrote_by r l).is_open ≡ true → standing_in after (wrote_by r l).socket ≡ Open
wrote_open before after l (W.Gave n) bytes stands on o =
    let k = gave_keeps n l in
    ap (standing_in after) k.sock ∙ ap (λ (xs : List Item). standing_in xs l.socket) on ∙ standing-more before (write_item l.socket (W.Gave n) bytes) l.socket ∙ stands (sym k.opened ∙ o)
wrote_open before after l W.NotYet bytes stands on o = ap (λ (xs : List Item). standing_in xs l.socket) on ∙ standing-more before (write_item l.socket W.NotYet bytes) l.socket ∙ stands o
wrote_open before after l W.Failed bytes stands on o = absurd (false≢true o)

wrote_place : (l : DepositLine) (r : SocketWrite) → l.reader.place ≤ l.taken → (wrote_by r l).reader.place ≤ (wrote_by r l).taken
wrote_place l (W.Gave n) h = let k = gave_keeps n l in let p = k.place in let t = k.taken in omega (arith, p, t, h)
wrote_place l W.NotYet h = h
wrote_place l W.Failed h = h

pub wrote_read : (l : DepositLine) (r : SocketWrite) → IsRead l → IsRead (wrote_by r l)
wrote_read l (W.Gave n) read o = let k = gave_keeps n l in let was = read (sym k.opened ∙ o) in (k.asks ∙ was.0, k.quiet ∙ was.1)
wrote_read l W.NotYet read o = read o
wrote_read l W.Failed read o = absurd (false≢true o)

pub wrote_stands : (before after : List Item) (v : View) (r : SocketWrite) (bytes : List ℕ) → Stands before v → after ≡ before ++ write_item v.line.socket r bytes ∷ [] → Stands after (A.with_line (wrote_by r v.line) v)
wrote_stands before after v r bytes stands on = record { opened = wrote_open before after v.line r bytes stands.opened on; place = wrote_place v.line r stands.place }

-- ---- which writes are allowed

pub wrote_may : (log : List ℕ) (v : View) (r : SocketWrite) (bytes : List ℕ) → v.phase ≡ Giving → takes_bytes v.line ≡ true → IsRead v.line → IsFirst bytes (L.due log v.line) → GivesWithin r bytes → L.is_allowed log v (write_item v.line.socket r bytes) ≡ true
wrote_may log v r bytes giving takes read first within = go r within
  where
    opened : v.line.is_open ≡ true
    opened = (and_parts v.line.is_open (not v.line.is_blocked) takes).0

    wants : L.wants_write log v.line ≡ true
    wants = and_from (v.line.is_open && not (asks_shut v.line) && not v.line.is_blocked) (not (is_empty (L.due log v.line))) (and_from (v.line.is_open && not (asks_shut v.line)) (not v.line.is_blocked) (and_from v.line.is_open (not (asks_shut v.line)) opened (ap not (read opened).0)) (and_parts v.line.is_open (not v.line.is_blocked) takes).1) (ap not (first_some bytes (L.due log v.line) first))

    may : L.may_write log v v.line.socket ≡ true
    may = and_from _ _ (and_from _ _ (and_from _ _ (ap L.is_giving giving) opened) (eq-eqb v.line.socket v.line.socket refl)) wants

    go : (x : SocketWrite) → GivesWithin x bytes → L.is_allowed log v (write_item v.line.socket x bytes) ≡ true
    go (W.Gave n) t = and_from _ _ may (front_of bytes (L.due log v.line) n first t.0 t.1)
    go W.NotYet t = may
    go W.Failed t = may

-- ---- the HELLO

pub and_false : (a : Bool) → (a && false) ≡ false
and_false true = refl
and_false false = refl

pub not_false : (b : Bool) → not b ≡ true → b ≡ false
not_false true e = absurd (false≢true e)
not_false false e = refl

hello_some : (l : DepositLine) → owes_hello l ≡ true → is_empty l.unsent ≡ false
hello_some l owes = not_false (is_empty l.unsent) (and_parts _ _ owes).1

due_hello : (log : List ℕ) (l : DepositLine) → is_empty l.unsent ≡ false → L.due log l ≡ l.unsent
due_hello log l e = ap (λ (b : Bool). if b then L.from log l.cursor else l.unsent) e

hello_most : (l : DepositLine) → hello_left l ≤ length l.unsent
hello_most l = go (owes_hello l)
  where
    go : (b : Bool) → (if b then length l.unsent else 0) ≤ length l.unsent
    go true = omega arith
    go false = omega arith

hello_less : (l : DepositLine) (r : SocketWrite) → owes_hello l ≡ true → GivesWithin r l.unsent → hello_left (wrote_by r l) < hello_left l
hello_less l r owes within = go r within
  where
    was : hello_left l ≡ length l.unsent
    was = ap (λ (b : Bool). if b then length l.unsent else 0) owes

    some : 0 < length l.unsent
    some = (first_all l.unsent (hello_some l owes)).some

    go : (x : SocketWrite) → GivesWithin x l.unsent → hello_left (wrote_by x l) < hello_left l
    go (W.Gave n) t =
        let m : DepositLine = gave n l in
        let most = hello_most m in
        let left : length m.unsent ≡ length (drop n l.unsent) = ap (λ (x : DepositLine). length x.unsent) (gave_hello n l (hello_some l owes)) in
        let d = length-drop n l.unsent in
        let a = t.0 in
        let b = t.1 in
        omega (arith, most, left, d, a, b, was, some)
    go W.NotYet t =
        let none : hello_left (blocked l) ≡ 0 = ap (λ (b : Bool). if (b && not (is_empty l.unsent)) then length l.unsent else 0) (and_false l.is_open) in
        omega (arith, none, was, some)
    go W.Failed t = omega (arith, was, some)

pub greet_one : (before after : List Item) (v : View) (r : SocketWrite) → IsReady before v → IsRead v.line → owes_hello v.line ≡ true → GivesWithin r v.line.unsent → after ≡ before ++ write_item v.line.socket r v.line.unsent ∷ [] →
    Greets before after v (A.with_line (wrote_by r v.line) v)
greet_one before after v r ready read owes within on = record {
  moves = moves_one before after (write_item v.line.socket r v.line.unsent) v (wrote_by r v.line) ready.giving (wrote_opens before v.line.socket r v.line.unsent)
      (λ log. wrote_may log v r v.line.unsent ready.giving (and_parts _ _ owes).0 read (subst (IsFirst v.line.unsent) (sym (due_hello log v.line (hello_some v.line owes))) (first_all v.line.unsent (hello_some v.line owes))) within)
      (wrote_polls v.line.socket r v.line.unsent) on (wrote_after v r v.line.unsent within) (wrote_stands before after v r v.line.unsent ready.stands on);
  read = wrote_read v.line r read;
  less = hello_less v.line r owes within;
}

pub record GreetingOut (before now : List Item) (v w : View) : Type 0 where
  pub moves : Moves before now v w
  pub ready : IsReady now w
  pub read : IsRead w.line

pub greet_first : (items : List Item) (v : View) → IsReady items v → IsRead v.line → GreetingOut items items v v
greet_first items v ready read = record { moves = moves_still items v ready; ready = ready; read = read }

pub greet_on : (a b c : List Item) (u v w : View) → GreetingOut a b u v → Greets b c v w → GreetingOut a c u w
greet_on a b c u v w g r = record { moves = moves_then a b c u v w g.moves r.moves; ready = ready_after b c v w r.moves; read = r.read }

-- ---- as the depositor's parts show it

pub hello_put : (i w : View) (r : SocketWrite) (bytes : List ℕ) → i ≡ w → owes_hello w.line ≡ true → bytes ≡ i.line.unsent → GivesWithin r bytes → MayGreet r i.line
hello_put i w r bytes e owes is within = go r within
  where
    go : (x : SocketWrite) → GivesWithin x bytes → MayGreet x i.line
    go (W.Gave n) t = (hello_some i.line (ap (λ (x : View). owes_hello x.line) e ∙ owes), subst (λ (b : List ℕ). n ≤ length b) is t.1)
    go W.NotYet t = tt
    go W.Failed t = tt

pub greet_in : (before after : List Item) (i w : View) (r : SocketWrite) (bytes : List ℕ) (l : DepositLine) → i ≡ w → IsReady before w → IsRead w.line → owes_hello w.line ≡ true → bytes ≡ i.line.unsent → GivesWithin r bytes →
    after ≡ before ++ write_item i.line.socket r bytes ∷ [] → l ≡ wrote_by r i.line → Greets before after w (A.with_line l i)
greet_in before after i w r bytes l e ready read owes is within on made =
    let on' = on ∙ ap (λ (b : List ℕ). before ++ write_item i.line.socket r b ∷ []) is in
    let one = greet_one before after i r (subst (IsReady before) (sym e) ready) (subst (λ (x : View). IsRead x.line) (sym e) read) (ap (λ (x : View). owes_hello x.line) e ∙ owes) (subst (GivesWithin r) is within) on' in
    subst (λ (x : View). Greets before after x (A.with_line l i)) e (subst (λ (k : DepositLine). Greets before after i (A.with_line k i)) (sym made) one)
