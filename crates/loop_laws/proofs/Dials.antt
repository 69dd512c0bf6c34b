-- Dials: a player that was dialled is not dialled again before a poll.
use Rattle.std.proofs.Common.{◌≡◌, ◌⊎◌, inl, inr, ℕ, ◌<◌, Bool, true, false, refl, sym, ap, subst, ◌∙◌, List, [], ◌∷◌, ◌++◌, append_assoc, length, ltb-true}
use Rattle.std.specs.Prelude.{Option, Some, None, ◌==◌, not, find, if◌then◌else◌}
use Rattle.std.specs.List.{fold}
use Rattle.std.proofs.lemmas.Bool.{and_parts, eq-eqb, false≢true}
use Rattle.std.proofs.lemmas.List.Sums.{fold-append}
use Rattle.definitions.specs.declared.frames.TurnFrame.{TurnFrame}
use Rattle.definitions.specs.declared.logs.Entry.{Entry}
use Rattle.definitions.specs.Lists.{EachIs, is_empty}
use Rattle.definitions.specs.Logs.{player_of}
use Rattle.definition_laws.specs.Members.{Has}
use Rattle.wire_frames.specs.declared.frames.Frame.{Frame}
use Rattle.wire_frames.specs.declared.frames.Frame.TheVariants.{Hello, Turn, Want}
use Rattle.wire_frames.specs.Streams.{Given, given_of}
use Rattle.rosters.specs.declared.roster.Link.{Link}
use Rattle.socket_station.specs.declared.answers.Addr.{Addr}
use Rattle.socket_station.specs.Items.{Item, ListenCall, LogCall, DialCall, PollCall, ReadCall, WriteCall, KeepCall, SyncCall, Listening, LogBegun, Dialled, Polled, Took, Gave, ReadNotYet, WriteNotYet, Ended, Failed, Shut, Kept, Synced}
use Rattle.socket_lines.specs.declared.giving.Due.{Due}
use Rattle.socket_lines.specs.declared.giving.Due.TheVariants as U
use Rattle.socket_lines.specs.declared.line.Line.{Line}
use Rattle.socket_lines.specs.declared.seat.Seat.{Seat}
use Rattle.socket_lines.specs.Asks.{is_asked}
use Rattle.socket_lines.specs.Seats as S
use Rattle.socket_lines.specs.Seats.{asks, dials, is_asked_for, may_want, obeys, reaches, spends}
use Rattle.socket_lines.specs.Lines as N
use Rattle.socket_lines.specs.Lines.{doomed, moved_to}
use Rattle.socket_lines.specs.Giving.{Desk, Speaker, begun, due_on, ended_with, left_with, marked}
use Rattle.loop_rules.specs.Settings.{Setting, speaker_of}
use Rattle.loop_rules.specs.Tables.{Table, line_of, seat_of, seat_by, at_line, at_seat, in_seats, desk_with}
use Rattle.loop_rules.specs.Views.{View, start, safe_frames}
use Rattle.loop_rules.specs.Hearing.{Hearer, names, named, heard_first, obeyed, arrived, heard_named, heard_by, heard_on, heard, heard_all, counted, read_at, read_on, took_on, took_with}
use Rattle.loop_rules.specs.Handling.{hearer_of, sorted}
use Rattle.loop_rules.specs.Keeping.{with_entry, kept_entry}
use Rattle.peer_rules.specs.Entries.{entry_in}
use Rattle.loop_rules.specs.After.{after, gave_by, gave_on, gave_with, own_at, view_of, with_table}
use Rattle.loop_rules.specs.Rules.{is_allowed, may_dial_at}
use Rattle.loop_rules.specs.Histories.{IsHistory}
use Rattle.loop_rules.proofs.Alike.{keeps_gave}
use Rattle.loop_rules.proofs.Prefixes.{before, items_are_allowed}
use Rattle.loop_laws.specs.Listing.{SomeIs}
use Rattle.loop_laws.specs.Dialling.{IsDialFor, IsPoll, IsToBeDialled}
use Rattle.loop_laws.specs.Laws.{DialsAreWanted, DialsHavePolls}
use Rattle.loop_laws.proofs.Given.{knows_in}
use Rattle.loop_laws.proofs.Handled.{fewer_new}
use Rattle.loop_laws.proofs.Hearing.{seat_is}
use Rattle.loop_laws.proofs.Steps.{sorted_table}

-- ---- a dial is wanted

wanted_dial : (s : Setting) (v : View) (q : ℕ) (addr : Addr) (o : Option Seat) → v.setting ≡ s → EachIs (λ (c : Seat). Has s.roster.links c.link) v.table.seats → seat_of v.table q ≡ o → may_dial_at v addr o ≡ true → IsToBeDialled s q addr
wanted_dial s v q addr None is links e h = absurd (false≢true h)
wanted_dial s v q addr (Some c) is links e h =
    let found = seat_is (λ link. Has s.roster.links link) q v.table.seats c links e in
    let p = and_parts _ _ h in
    let above : v.setting.me < c.link.player = ltb-true v.setting.me c.link.player (and_parts _ _ (and_parts _ _ (and_parts _ _ (and_parts _ _ p.0).1).0).0).0 in
    (c.link, found.0, found.1, subst (λ (z : Setting). z.me < q) is (subst (λ (x : ℕ). v.setting.me < x) found.1 above), p.1)

pub dials_are_wanted : DialsAreWanted
dials_are_wanted s front more n q addr new h =
    let v = view_of s front in
    let item = Dialled n q addr in
    let k = knows_in s n front (fewer_new front (item ∷ more) new) (before (start s) front (item ∷ more) h) in
    wanted_dial s v q addr (seat_of v.table q) k.at.setting k.at.links refl (items_are_allowed s front more item h)

-- ---- the player's seat says that it was dialled

abbrev IsDialled : (q : ℕ) → Seat → Type 0
IsDialled q c = c.link.player ≡ q → c.is_dialled ≡ true

abbrev AllDialled : (q : ℕ) → List Seat → Type 0
AllDialled q seats = EachIs (IsDialled q) seats

-- the player, and whether it was dialled, stay
abbrev Keeps : (c d : Seat) → Type 0
Keeps c d = (d.link ≡ c.link) × (d.is_dialled ≡ c.is_dialled)

dialled_same : (q : ℕ) (c d : Seat) → Keeps c d → IsDialled q c → IsDialled q d
dialled_same q c d k x = λ e. k.1 ∙ x (ap (λ (l : Link). l.player) (sym k.0) ∙ e)

all_at : (q p : ℕ) (change : Seat → Seat) (cs : List Seat) → ((c : Seat) → Keeps c (change c)) → AllDialled q cs → AllDialled q (in_seats p change cs)
all_at q p change [] k each = tt
all_at q p change (c ∷ cs) k each = (go (c.link.player == p), all_at q p change cs k each.1)
  where
    go : (b : Bool) → IsDialled q (if b then change c else c)
    go true = dialled_same q c (change c) (k c) each.0
    go false = each.0

-- a dial marks the seat
all_dialled : (q : ℕ) (cs : List Seat) → AllDialled q (in_seats q dials cs)
all_dialled q [] = tt
all_dialled q (c ∷ cs) = (go (c.link.player == q) refl, all_dialled q cs)
  where
    go : (b : Bool) → (c.link.player == q) ≡ b → IsDialled q (if b then dials c else c)
    go true e = λ x. refl
    go false e = λ x. absurd (false≢true (sym e ∙ eq-eqb c.link.player q x))

all_dials : (q p : ℕ) (cs : List Seat) → AllDialled q cs → AllDialled q (in_seats p dials cs)
all_dials q p [] each = tt
all_dials q p (c ∷ cs) each = (go (c.link.player == p), all_dials q p cs each.1)
  where
    go : (b : Bool) → IsDialled q (if b then dials c else c)
    go true = λ x. refl
    go false = each.0

found_dialled : (q p : ℕ) (cs : List Seat) (c : Seat) → AllDialled q cs → find (λ x. x.link.player == p) cs ≡ Some c → IsDialled q c
found_dialled q p [] c each e = absurd (cc)
found_dialled q p (d ∷ cs) c each e = go (d.link.player == p) e (found_dialled q p cs c each.1)
  where
    go : (b : Bool) → (if b then Some d else find (λ x. x.link.player == p) cs) ≡ Some c → (find (λ x. x.link.player == p) cs ≡ Some c → IsDialled q c) → IsDialled q c
    go true f more = let same : d ≡ c = cc in subst (IsDialled q) same each.0
    go false f more = more f

-- ---- frames that come

asks_keeps : (place : ℕ) (c : Seat) → Keeps c (asks place c)
asks_keeps place c = go (is_asked c.asks place)
  where
    go : (b : Bool) → Keeps c (if b then c else is_asked_for place c)
    go true = (refl, refl)
    go false = (refl, refl)

module _ (q : ℕ) (h : Hearer) (m : ℕ) where
  abbrev So : Table → Type 0
  So t = AllDialled q t.seats

  so_if : (b : Bool) (t u : Table) → So t → So u → So (if b then t else u)
  so_if true t u x y = x
  so_if false t u x y = y

  so_obeyed : (t : Table) (p place : ℕ) (o : Option Seat) → So t → So (obeyed t m p place o)
  so_obeyed t p place None k = k
  so_obeyed t p place (Some c) k = so_if (may_want c) (at_seat p obeys (at_line m (moved_to place) t)) t (all_at q p obeys t.seats (λ d. (refl, refl)) k) k

  so_first : (t : Table) (l : Line) (f : Frame) → So t → So (heard_first h t m l f)
  so_first t l (Hello id p pass from) k =
      so_if (names h t l id p pass) (named h t m l p from) (at_line m doomed t) (all_at q p (S.names l.taken from) t.seats (λ c. (refl, refl)) k) k
  so_first t l (Turn f) k = k
  so_first t l (Want place) k = k

  so_named : (t : Table) (p : ℕ) (f : Frame) → So t → So (heard_named t m p f)
  so_named t p (Hello id r pass from) k = k
  so_named t p (Turn f) k = so_if (player_of f == p) (arrived t p f) (at_line m doomed t) k k
  so_named t p (Want place) k = all_at q p (reaches place) (obeyed t m p place (seat_of t p)).seats (λ c. (refl, refl)) (so_obeyed t p place (seat_of t p) k)

  so_by : (t : Table) (l : Line) (o : Option ℕ) (f : Frame) → So t → So (heard_by h t m l o f)
  so_by t l None f k = so_first t l f k
  so_by t l (Some p) f k = so_named t p f k

  so_on : (t : Table) (f : Frame) (o : Option Line) → So t → So (heard_on h t m f o)
  so_on t f None k = k
  so_on t f (Some l) k = so_if l.is_wrong t (heard_by h t m l l.name f) k (so_by t l l.name f k)

  so_each : (t : Table) (fs : List Frame) → So t → So (fold (heard h m) t fs)
  so_each t [] k = k
  so_each t (f ∷ fs) k = so_each (heard h m t f) fs (so_on t f (line_of t m) k)

  so_all : (g : Given) (t : Table) → So t → So (heard_all h m g t)
  so_all g t k =
      let u = fold (heard h m) t g.frames in
      let w = so_each t g.frames k in
      so_if g.reader.bad (at_line m doomed u) u w w

counted_so : (q : ℕ) (o : Option ℕ) (count : ℕ) (t : Table) → AllDialled q t.seats → AllDialled q (counted o count t).seats
counted_so q None count t k = k
counted_so q (Some p) count t k = all_at q p (spends count) t.seats (λ c. (refl, refl)) k

took_so : (q : ℕ) (v : View) (m : ℕ) (bytes : List ℕ) (o : Option Line) → AllDialled q v.table.seats → AllDialled q (took_with (hearer_of v) v.table m bytes o).seats
took_so q v m bytes None k = k
took_so q v m bytes (Some l) k =
    let g = given_of l.reader bytes in
    so_all q (hearer_of v) m g (read_at m (length bytes) g l v.table) (counted_so q l.name (length bytes) (at_line m (read_on (length bytes) g) v.table) k)

sorted_so : (q : ℕ) (v : View) → AllDialled q v.table.seats → AllDialled q (sorted v.table.waiting v).table.seats
sorted_so q v k = sorted_table (λ t. AllDialled q t.seats) (λ t waiting x. x) (λ t p place x. all_at q p (asks place) t.seats (asks_keeps place) x) v.table.waiting v k

-- ---- bytes that are given

marked_dialled : (due : Due) (d : Desk) → (marked due d).seat.is_dialled ≡ d.seat.is_dialled
marked_dialled U.Nothing d = refl
marked_dialled (U.Hello next) d = refl
marked_dialled (U.Want place) d = refl
marked_dialled (U.Own f) d = refl

ended_dialled : (o : Option ℕ) (d : Desk) → (ended_with o d).seat.is_dialled ≡ d.seat.is_dialled
ended_dialled None d = refl
ended_dialled (Some place) d = refl

left_dialled : (left : List ℕ) (d : Desk) → (left_with left d).seat.is_dialled ≡ d.seat.is_dialled
left_dialled left d = go (is_empty left)
  where
    e : Desk
    e = record d { line = record d.line { unsent = left } }

    go : (b : Bool) → (if b then ended_with d.line.sending e else e).seat.is_dialled ≡ d.seat.is_dialled
    go true = ended_dialled d.line.sending e
    go false = refl

begun_dialled : (own : Option TurnFrame) (d : Desk) → (begun own d).seat.is_dialled ≡ d.seat.is_dialled
begun_dialled own d = go (is_empty d.line.unsent)
  where
    go : (b : Bool) → (if b then marked (due_on own d) d else d).seat.is_dialled ≡ d.seat.is_dialled
    go true = marked_dialled (due_on own d) d
    go false = refl

put_dialled : (q p : ℕ) (c : Seat) (cs : List Seat) → IsDialled q c → AllDialled q cs → AllDialled q (in_seats p (λ _. c) cs)
put_dialled q p c [] x each = tt
put_dialled q p c (d ∷ cs) x each = (go (d.link.player == p), put_dialled q p c cs x each.1)
  where
    go : (b : Bool) → IsDialled q (if b then c else d)
    go true = x
    go false = each.0

beside_dialled : (q : ℕ) (t : Table) (o : Option ℕ) (c : Seat) → AllDialled q t.seats → seat_by t o ≡ Some c → IsDialled q c
beside_dialled q t None c k e = absurd (let x : None ≡ Some c = e in cc)
beside_dialled q t (Some p) c k e = found_dialled q p t.seats c k e

desk_so : (q : ℕ) (who : Speaker) (own : Option TurnFrame) (count : ℕ) (t : Table) (l : Line) (o : Option Seat) → seat_by t (N.player_of l) ≡ o → AllDialled q t.seats → AllDialled q (gave_with who own count t (desk_with l o)).seats
desk_so q who own count t l None e k = k
desk_so q who own count t l (Some c) e k =
    let d : Desk = record { line = l; seat = c } in
    let to : Seat = (gave_on who own count d).seat in
    let same : Keeps c to = ((keeps_gave who own count d).5, left_dialled _ (begun own d) ∙ begun_dialled own d) in
    put_dialled q to.link.player to t.seats (dialled_same q c to same (beside_dialled q t (N.player_of l) c k e)) k

gave_so : (q : ℕ) (who : Speaker) (safe : List TurnFrame) (count : ℕ) (t : Table) (o : Option Line) → AllDialled q t.seats → AllDialled q (gave_by who safe count t o).seats
gave_so q who safe count t None k = k
gave_so q who safe count t (Some l) k = desk_so q who (own_at safe l) count t l (seat_by t (N.player_of l)) refl k

kept_so : (q : ℕ) (v : View) (o : Option Entry) → AllDialled q v.table.seats → AllDialled q (kept_entry v o).table.seats
kept_so q v None k = k
kept_so q v (Some e) k = sorted_so q (with_entry e v) k

-- ---- the items between two dials

dialled_or_polled : (q : ℕ) (v : View) (item : Item) → AllDialled q v.table.seats → IsPoll item ⊎ AllDialled q (after v item).table.seats
dialled_or_polled q v (Polled list) k = inl tt
dialled_or_polled q v (Took m bytes) k = inr (sorted_so q (with_table (took_on (hearer_of v) m bytes v.table) v) (took_so q v m bytes (line_of v.table m) k))
dialled_or_polled q v (Gave m bytes) k = inr (gave_so q (speaker_of v.setting) (safe_frames v) (length bytes) v.table (line_of v.table m) k)
dialled_or_polled q v (Dialled m p addr) k = inr (all_dials q p v.table.seats k)
dialled_or_polled q v (Kept bytes) k = inr (kept_so q v (entry_in v.writer bytes) k)
dialled_or_polled q v (LogBegun name) k = inr k
dialled_or_polled q v (Listening addr) k = inr k
dialled_or_polled q v (ReadNotYet m) k = inr k
dialled_or_polled q v (WriteNotYet m) k = inr k
dialled_or_polled q v (Ended m) k = inr k
dialled_or_polled q v (Shut m) k = inr k
dialled_or_polled q v Synced k = inr k
dialled_or_polled q v (Failed (ListenCall addr)) k = inr k
dialled_or_polled q v (Failed (LogCall name)) k = inr k
dialled_or_polled q v (Failed (DialCall p addr)) k = inr (all_dials q p v.table.seats k)
dialled_or_polled q v (Failed PollCall) k = inr k
dialled_or_polled q v (Failed (ReadCall m)) k = inr k
dialled_or_polled q v (Failed (WriteCall m)) k = inr k
dialled_or_polled q v (Failed (KeepCall bytes)) k = inr k
dialled_or_polled q v (Failed SyncCall) k = inr k

-- such a player isn't dialled
undialled : (q : ℕ) (v : View) (addr : Addr) (o : Option Seat) → AllDialled q v.table.seats → seat_of v.table q ≡ o → may_dial_at v addr o ≡ true → ⊥
undialled q v addr None k e h = false≢true h
undialled q v addr (Some c) k e h =
    let wants = (and_parts _ _ (and_parts _ _ h).0).1 in
    let free : not c.is_dialled ≡ true = (and_parts _ _ (and_parts _ _ wants).0).1 in
    let player = (seat_is (λ x. Unit {0}) q v.table.seats c (any_seat v.table.seats) e).1 in
    false≢true (sym (ap not (found_dialled q q v.table.seats c k e player)) ∙ free)
  where
    any_seat : (cs : List Seat) → EachIs (λ (c : Seat). Unit {0}) cs
    any_seat [] = tt
    any_seat (c ∷ cs) = (tt, any_seat cs)

no_dial : (q : ℕ) (v : View) (item : Item) → IsDialFor q item → is_allowed v item ≡ true → AllDialled q v.table.seats → ⊥
no_dial q v (Dialled m p addr) r h k = undialled q v addr (seat_of v.table q) k refl (subst (λ (x : ℕ). may_dial_at v addr (seat_of v.table x) ≡ true) r h)
no_dial q v (Failed (DialCall p addr)) r h k = undialled q v addr (seat_of v.table q) k refl (subst (λ (x : ℕ). may_dial_at v addr (seat_of v.table x) ≡ true) r h)
no_dial q v (Polled list) r h k = r
no_dial q v (Took m bytes) r h k = r
no_dial q v (Gave m bytes) r h k = r
no_dial q v (Kept bytes) r h k = r
no_dial q v (LogBegun name) r h k = r
no_dial q v (Listening addr) r h k = r
no_dial q v (ReadNotYet m) r h k = r
no_dial q v (WriteNotYet m) r h k = r
no_dial q v (Ended m) r h k = r
no_dial q v (Shut m) r h k = r
no_dial q v Synced r h k = r
no_dial q v (Failed (ListenCall addr)) r h k = r
no_dial q v (Failed (LogCall name)) r h k = r
no_dial q v (Failed PollCall) r h k = r
no_dial q v (Failed (ReadCall m)) r h k = r
no_dial q v (Failed (WriteCall m)) r h k = r
no_dial q v (Failed (KeepCall bytes)) r h k = r
no_dial q v (Failed SyncCall) r h k = r

dial_marks : (q : ℕ) (v : View) (item : Item) → IsDialFor q item → AllDialled q (after v item).table.seats
dial_marks q v (Dialled m p addr) r = subst (λ (x : ℕ). AllDialled q (in_seats x dials v.table.seats)) (sym r) (all_dialled q v.table.seats)
dial_marks q v (Failed (DialCall p addr)) r = subst (λ (x : ℕ). AllDialled q (in_seats x dials v.table.seats)) (sym r) (all_dialled q v.table.seats)
dial_marks q v (Polled list) r = absurd r
dial_marks q v (Took m bytes) r = absurd r
dial_marks q v (Gave m bytes) r = absurd r
dial_marks q v (Kept bytes) r = absurd r
dial_marks q v (LogBegun name) r = absurd r
dial_marks q v (Listening addr) r = absurd r
dial_marks q v (ReadNotYet m) r = absurd r
dial_marks q v (WriteNotYet m) r = absurd r
dial_marks q v (Ended m) r = absurd r
dial_marks q v (Shut m) r = absurd r
dial_marks q v Synced r = absurd r
dial_marks q v (Failed (ListenCall addr)) r = absurd r
dial_marks q v (Failed (LogCall name)) r = absurd r
dial_marks q v (Failed PollCall) r = absurd r
dial_marks q v (Failed (ReadCall m)) r = absurd r
dial_marks q v (Failed (WriteCall m)) r = absurd r
dial_marks q v (Failed (KeepCall bytes)) r = absurd r
dial_marks q v (Failed SyncCall) r = absurd r

behind_one : (s : Setting) (front : List Item) (item : Item) → view_of s (front ++ item ∷ []) ≡ after (view_of s front) item
behind_one s front item = fold-append after (start s) front (item ∷ [])

polled_more : (q : ℕ) (item : Item) (v : View) (between : List Item) → IsPoll item ⊎ AllDialled q v.table.seats → (AllDialled q v.table.seats → SomeIs IsPoll between) → SomeIs IsPoll (item ∷ between)
polled_more q item v between (inl x) more = (item, inl refl, x)
polled_more q item v between (inr x) more = let y = more x in (y.0, inr y.1, y.2)

polled_between : (s : Setting) (q : ℕ) (front between more : List Item) (next : Item) → IsHistory s (front ++ (between ++ next ∷ more)) → IsDialFor q next → AllDialled q (view_of s front).table.seats → SomeIs IsPoll between
polled_between s q front [] more next h r k = absurd (no_dial q (view_of s front) next r (items_are_allowed s front more next h) k)
polled_between s q front (item ∷ between) more next h r k =
    let w = view_of s (front ++ item ∷ []) in
    let one : IsPoll item ⊎ AllDialled q w.table.seats =
    subst (λ (x : View). IsPoll item ⊎ AllDialled q x.table.seats) (sym (behind_one s front item)) (dialled_or_polled q (view_of s front) item k) in
    polled_more q item w between one
    (λ x. polled_between s q (front ++ item ∷ []) between more next (subst (IsHistory s) (sym (append_assoc front (item ∷ []) (between ++ next ∷ more))) h) r x)

pub dials_have_polls : DialsHavePolls
dials_have_polls s front between more q item next h d r =
    polled_between s q (front ++ item ∷ []) between more next (subst (IsHistory s) (sym (append_assoc front (item ∷ []) (between ++ next ∷ more))) h) r
    (subst (λ (w : View). AllDialled q w.table.seats) (sym (behind_one s front item)) (dial_marks q (view_of s front) item d))
