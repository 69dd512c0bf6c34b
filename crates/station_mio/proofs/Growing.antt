-- Growing: the calls of a machine are a front of those after further ones.
use Rattle.std.proofs.Common.{◌≡◌, inl, inr, ◌<◌, ◌≤◌, ◌+◌, ℕ, arith, drop, length, true, false, List, [], ◌∷◌, ◌++◌, take, refl, sym, ap, ◌∙◌, subst}
use Rattle.std.specs.Prelude.{Result, Ok, Err}
use Rattle.std.proofs.lemmas.List.{append_assoc, append-nil, length-append, length-take-le, take_more}
use Rattle.std.proofs.lemmas.Option.{slice_get_within, get_or_from_slice_get}
use Rattle.socket_station.specs.declared.answers.SocketRead.{SocketRead}
use Rattle.machine_host.specs.declared.faults.HostFault.{HostFault}
use Rattle.machine_host.specs.Asks.{Ask}
use Rattle.station_mio.specs.Rows.{Stand, Due, Dialled, Up, Lost, closings_of}
use Rattle.station_mio.specs.Asking.{ReadsStand, Selects}
use Rattle.station_mio.specs.Nets.{Net, WaitsFor, Waits}
use Rattle.station_mio.specs.Ending.{AreLingers, Ends, EndsAll, EndsAt, Finishes, Lingers}

pub grows_same : (before after : List Ask) → after ≡ before → Lingers before after
grows_same before after e = ([], e ∙ sym (append-nil before), tt)

lingers_both : (xs ys : List Ask) → AreLingers xs → AreLingers ys → AreLingers (xs ++ ys)
lingers_both [] ys a b = b
lingers_both (x ∷ xs) ys a b = (a.0, lingers_both xs ys a.1 b)

pub grows_then : (before middle after : List Ask) → Lingers before middle → Lingers middle after → Lingers before after
grows_then before middle after a b =
    (a.0 ++ b.0, b.1 ∙ ap (λ (x : List Ask). x ++ b.0) a.1 ∙ append_assoc before a.0 b.0, lingers_both a.0 b.0 a.2 b.2)

pub read_grows : (s : Stand) (before after : List Ask) (read : SocketRead) (buf : List ℕ) → ReadsStand s before after read buf → Lingers before after
read_grows (Due n addr time) before after read buf w = grows_same before after w.0
read_grows (Dialled n time) before after read buf w = (_, w.1, (tt, tt))
read_grows (Up n) before after read buf w = (_, w.1, (tt, tt))
read_grows (Lost n) before after read buf w = grows_same before after w.0

pub closes_grow : (s : Stand) (before after : List Ask) → after ≡ before ++ closings_of s → Lingers before after
closes_grow (Due n addr time) before after e = ([], e, tt)
closes_grow (Dialled n time) before after e = (_, e, (tt, tt))
closes_grow (Up n) before after e = (_, e, (tt, tt))
closes_grow (Lost n) before after e = ([], e, tt)

selects_grows : (had has : _) (before after : List Ask) → Selects had has before after → Lingers before after
selects_grows true has before after w = grows_same before after w.0
selects_grows false true before after w = (_, w, (tt, tt))
selects_grows false false before after w = (_, w.1, (tt, tt))

waited_grows : (r : Result (List ℕ) HostFault) (a b : Net) → Waits r a b → Lingers a.asks b.asks
waited_grows r a b w =
    grows_then a.asks w.ticked b.asks
    (grows_then a.asks w.picked w.ticked (selects_grows a.selects true a.asks w.picked w.selects) (_, w.ticks.asked, (tt, tt)))
    (_, ap (λ (n : Net). n.asks) w.same, (tt, tt))

pub waits_grow : (r : Result (Unit {0}) HostFault) (tokens : List ℕ) (a b : Net) → WaitsFor r tokens a b → Lingers a.asks b.asks
waits_grow (Ok u) tokens a b w = waited_grows (Ok tokens) a b w
waits_grow (Err f) tokens a b (inl w) = selects_grows a.selects false a.asks b.asks w.selects
waits_grow (Err f) tokens a b (inr w) = waited_grows (Err w.0) a b w.1

-- the write sides are ended one after the other
ends_then : (stands : List Stand) (s : Stand) (before middle after : List Ask) → EndsAll stands before middle → Ends s middle after → EndsAll (stands ++ s ∷ []) before after
ends_then [] s before middle after w e = (after, subst (λ (x : List Ask). Ends s x after) w e, refl)
ends_then (r ∷ stands) s before middle after w e = (w.0, w.1, ends_then stands s w.0 middle after w.2 e)

pub ends_more : (place : ℕ) (stands : List Stand) (before middle after : List Ask) → EndsAll (take place stands) before middle → EndsAt place stands middle after → EndsAll (take (place + 1) stands) before after
ends_more place stands before middle after w e =
    let s = e.0 in
    let lt = slice_get_within stands place s e.1 in
    let is = get_or_from_slice_get stands place s s e.1 in
    subst (λ (x : List Stand). EndsAll x before after) (sym (take_more stands place s lt ∙ ap (λ (x : Stand). take place stands ++ x ∷ []) is)) (ends_then (take place stands) s before middle after w e.2)

pub finishes_more : (stands : List Stand) (before middle after : List Ask) → Finishes stands before middle → Lingers middle after → Finishes stands before after
finishes_more stands before middle after w more = (w.0, w.1, grows_then w.0 middle after w.2 more)

-- the rows before one that is gone are there
pub before_gone : (place : ℕ) (stands new : List Stand) → place < length stands → new ≡ take place stands ++ drop (place + 1) stands → place ≤ length new
before_gone place stands new lt e =
    let le : place ≤ length stands = omega (arith, lt) in
    let len = ap (λ (x : List Stand). length x) e ∙ length-append (take place stands) (drop (place + 1) stands) in
    let front = length-take-le place stands le in
    omega (arith, len, front)
