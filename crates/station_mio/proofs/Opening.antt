-- Opening: the sockets that a poll lists as new have the next numbers.
use Rattle.std.proofs.Common.{◌≡◌, inl, inr, ◌+◌, ◌==◌, ℕ, Bool, true, false, List, [], ◌∷◌, ◌++◌, None, map, length, sym, ap, ◌∙◌, subst, arith}
use Rattle.std.proofs.lemmas.List.{append-nil, append_assoc}
use Rattle.std.specs.Prelude.{is_some, nat_lt, if◌then◌else◌}
use Rattle.socket_station.specs.declared.answers.Ready.{Ready}
use Rattle.socket_station.specs.declared.answers.Ready.TheVariants.{Opened, Socket as Seems}
use Rattle.socket_station.specs.declared.ready_list.TheConstants.{MOST_READY}
use Rattle.machine_host.specs.declared.hosts.TheConstants.{LISTENER}
use Rattle.station_mio.specs.declared.backlog.Backlog.{Backlog}
use Rattle.station_mio.specs.declared.backlog.Backlog.TheVariants as B
use Rattle.station_mio.specs.Numbers.{OpensBetween}
use Rattle.station_mio.specs.Rows.{Stand, Due, Dialled, Up, Lost, stand_in}
use Rattle.station_mio.specs.Listing.{Seen, listed, listed_all_lost, listed_lost, ready_on, report, report_all, seen_of}
use Rattle.station_mio.specs.Nets.{Net, AcceptsAll, AcceptsOne, AcceptsWaiting, Come, Lists, StopsAt}
use Rattle.station_mio.proofs.Listed.{seems-listed, opened-listed}

one_listed : (list : List Ready) (n first last : ℕ) → OpensBetween first last list → OpensBetween first last (listed list n)
one_listed list n first last h = by-test (nat_lt (length list) MOST_READY)
  where
    by-test : (b : Bool) → OpensBetween first last (if b then list ++ Seems n ∷ [] else list)
    by-test true = seems-listed list n first last h
    by-test false = h

report_opens : (seen : Seen) (token first last : ℕ) → OpensBetween first last seen.list → OpensBetween first last (report seen token).list
report_opens seen token first last h = by-token (token == LISTENER)
  where
    by-stand : (b : Bool) → OpensBetween first last (if b then listed seen.list token else seen.list)
    by-stand true = one_listed seen.list token first last h
    by-stand false = h

    by-number : (b : Bool) → OpensBetween first last (if b then ready_on seen token else seen).list
    by-number true = by-stand (is_some (stand_in token seen.stands))
    by-number false = h

    by-token : (b : Bool) → OpensBetween first last (if b then record { stands = seen.stands; backlog = B.Waiting; list = seen.list } else (if nat_lt token 4294967296 then ready_on seen token else seen)).list
    by-token true = h
    by-token false = by-number (nat_lt token 4294967296)

reports_open : (tokens : List ℕ) (seen : Seen) (first last : ℕ) → OpensBetween first last seen.list → OpensBetween first last (report_all seen tokens).list
reports_open [] seen first last h = h
reports_open (token ∷ tokens) seen first last h = reports_open tokens (report seen token) first last (report_opens seen token first last h)

lost_opens : (stand : Stand) (list : List Ready) (first last : ℕ) → OpensBetween first last list → OpensBetween first last (listed_lost list stand)
lost_opens (Due n addr time) list first last h = h
lost_opens (Dialled n time) list first last h = h
lost_opens (Up n) list first last h = h
lost_opens (Lost n) list first last h = one_listed list n first last h

lost_open : (stands : List Stand) (list : List Ready) (first last : ℕ) → OpensBetween first last list → OpensBetween first last (listed_all_lost list stands)
lost_open [] list first last h = h
lost_open (s ∷ stands) list first last h = lost_open stands (listed_lost list s) first last (lost_opens s list first last h)

-- those that come have the next numbers
come_open : (news : List ℕ) (list : List Ready) (a b : Net) (first : ℕ) → Come news a b → OpensBetween first a.next list → OpensBetween first b.next (list ++ map Opened news)
come_open [] list a b first w h =
    subst (λ (x : List Ready). OpensBetween first b.next x) (sym (append-nil list)) (subst (λ (n : Net). OpensBetween first n.next list) (sym w) h)
come_open (s ∷ news) list a b first w h =
    let m = w.0 in
    let one = w.1 in
    let new = subst (λ (n : ℕ). OpensBetween first (a.next + 1) (list ++ Opened n ∷ [])) (sym one.0) (opened-listed list first a.next h) in
    let next : m.next ≡ a.next + 1 = ap (λ (n : Net). n.next) one.4 in
    let more = come_open news (list ++ Opened s ∷ []) m b first w.2 (subst (λ (n : ℕ). OpensBetween first n (list ++ Opened s ∷ [])) (sym next) new) in
    subst (λ (x : List Ready). OpensBetween first b.next x) (append_assoc list (Opened s ∷ []) (map Opened news)) more

none_next : (a b : Net) → AcceptsOne None a b → b.next ≡ a.next
none_next a b (inl x) = ap (λ (n : Net). n.next) x.1
none_next a b (inr (inl x)) = ap (λ (n : Net). n.next) x.1
none_next a b (inr (inr (inl x))) = ap (λ (n : Net). n.next) x.1
none_next a b (inr (inr (inr x))) = ap (λ (n : Net). n.next) x.1

stops_next : (list : List Ready) (a b : Net) → StopsAt list a b → b.next ≡ a.next
stops_next list a b (inl (full, x)) = ap (λ (n : Net). n.next) x
stops_next list a b (inr x) = none_next a b x

waiting_open : (list out : List Ready) (a b : Net) (first : ℕ) → AcceptsWaiting list out a b → OpensBetween first a.next list → OpensBetween first b.next out
waiting_open list out a b first w h =
    let r = come_open w.news list a w.middle first w.come h in
    let s = subst (λ (x : List Ready). OpensBetween first w.middle.next x) (sym w.listed) r in
    subst (λ (n : ℕ). OpensBetween first n out) (sym (stops_next out w.middle b w.stops)) s

accepts_open : (backlog : Backlog) (list out : List Ready) (a b : Net) (first : ℕ) → AcceptsAll backlog list out a b → OpensBetween first a.next list → OpensBetween first b.next out
accepts_open B.Empty list out a b first w h = subst (λ (x : List Ready). OpensBetween first b.next x) (sym w.0) (subst (λ (n : Net). OpensBetween first n.next list) (sym w.1) h)
accepts_open B.Waiting list out a b first w h = waiting_open list out a b first w h
accepts_open B.Refused list out a b first w h = waiting_open list out a b first w h

pub lists_open : (tokens : List ℕ) (list : List Ready) (a b : Net) → Lists tokens list a b → OpensBetween a.next b.next list
lists_open tokens list a b w =
    let seen : w.ready ≡ (report_all (seen_of a.stands a.backlog []) tokens).list = ap (λ (x : Seen). x.list) w.reported in
    let next : w.gone.next ≡ a.next = ap (λ (n : Net). n.next) w.goes.same ∙ ap (λ (n : Net). n.next) w.same in
    let first : OpensBetween a.next a.next w.ready = subst (λ (x : List Ready). OpensBetween a.next a.next x) (sym seen) (reports_open tokens (seen_of a.stands a.backlog []) a.next a.next (omega arith)) in
    let lost = lost_open w.gone.stands w.ready a.next a.next first in
    accepts_open w.gone.backlog (listed_all_lost w.ready w.gone.stands) list w.gone b a.next w.accepts
    (subst (λ (n : ℕ). OpensBetween a.next n (listed_all_lost w.ready w.gone.stands)) (sym next) lost)
