-- Redialled: where a player is dialled, no socket that was dialled for it is open.
use Rattle.std.proofs.Common.{◌≡◌, ◌⊎◌, inl, inr, ℕ, Bool, true, false, refl, sym, ap, subst, ◌∙◌, List, [], ◌∷◌, ◌++◌, append_assoc, length}
use Rattle.std.specs.Prelude.{Option, Some, None, ◌==◌, ◌||◌, ◌&&◌, not, filter, map, if◌then◌else◌}
use Rattle.std.specs.List.{fold, list_any}
use Rattle.std.proofs.lemmas.Bool.{and_parts, eqb-true, eq-eqb, false≢true}
use Rattle.std.proofs.lemmas.List.Sums.{fold-append}
use Rattle.definitions.specs.declared.frames.TurnFrame.{TurnFrame}
use Rattle.definitions.specs.declared.logs.Entry.{Entry}
use Rattle.definitions.specs.Lists.{EachIs}
use Rattle.wire_frames.specs.Streams.{Given, given_of}
use Rattle.socket_station.specs.declared.answers.Addr.{Addr}
use Rattle.socket_station.specs.declared.answers.Ready.{Ready}
use Rattle.socket_station.specs.declared.answers.Ready.TheVariants.{Opened, Socket as Seems}
use Rattle.socket_station.specs.Items.{Item, ListenCall, LogCall, DialCall, PollCall, ReadCall, WriteCall, KeepCall, SyncCall, Listening, LogBegun, Dialled, Polled, Took, Gave, ReadNotYet, WriteNotYet, Ended, Failed, Shut, Kept, Synced}
use Rattle.socket_lines.specs.declared.line.Line.{Line}
use Rattle.socket_lines.specs.declared.seat.Seat.{Seat}
use Rattle.socket_lines.specs.Lines.{blocked, closed, dialled_line, is_player, moved_to, quieted, serves, woken, player_of}
use Rattle.socket_lines.specs.Giving.{Desk, Speaker}
use Rattle.loop_rules.specs.Settings.{Setting, speaker_of}
use Rattle.loop_rules.specs.Tables.{Table, line_of, at_line, desk_with, in_lines, is_served, seat_by, seat_of}
use Rattle.loop_rules.specs.Views.{View, start, safe_frames}
use Rattle.loop_rules.specs.Hearing.{counted, counted_on, read_on, took_on, took_with}
use Rattle.loop_rules.specs.Handling.{hearer_of, sorted}
use Rattle.loop_rules.specs.Keeping.{with_entry, kept_entry}
use Rattle.peer_rules.specs.Entries.{entry_in}
use Rattle.loop_rules.specs.After.{after, gave_by, gave_on, gave_with, listed, own_at, rested, view_of, with_table}
use Rattle.loop_rules.specs.Rules.{is_allowed, may_dial_at}
use Rattle.loop_rules.specs.Histories.{IsHistory}
use Rattle.loop_rules.specs.Told.{Differ, IsNotIn}
use Rattle.loop_rules.proofs.Told.{not_in_fresh}
use Rattle.loop_rules.proofs.Prefixes.{before, items_are_allowed}
use Rattle.loop_rules.proofs.Alike.{Alike, alike_gave, alike_took, keeps_gave}
use Rattle.loop_laws.specs.Sockets.{SocketsAreNew}
use Rattle.loop_laws.specs.Listing.{SomeIs}
use Rattle.loop_laws.specs.Paying.{Closes}
use Rattle.loop_laws.specs.Dialling.{IsDialFor}
use Rattle.loop_laws.specs.Laws.{DialsFindNone}
use Rattle.loop_laws.proofs.Finds.{line_in, line_is, line_mapped, on_line, at_socket, keeps_at, IfLine, KeepsSocket, if_either, if_own}
use Rattle.loop_laws.proofs.Hearing.{any_stays, seat_is}
use Rattle.loop_laws.proofs.Giving.{other_gave}
use Rattle.loop_laws.proofs.Steps.{counted_lines, flip, read_keeps, sorted_table}
use Rattle.loop_laws.proofs.Given.{knows_in}
use Rattle.loop_laws.proofs.Handled.{fewer_new}

-- a line is found
abbrev IsThere : Option Line → Type 0
IsThere None = ⊥
IsThere (Some l) = Unit {0}

there_alike : (n : ℕ) (ls ms : List Line) → Alike ls ms → IsThere (line_in n ls) → IsThere (line_in n ms)
there_alike n [] [] a w = w
there_alike n [] (m ∷ ms) a w = absurd a
there_alike n (l ∷ ls) [] a w = absurd a
there_alike n (l ∷ ls) (m ∷ ms) a w =
    subst (λ (k : ℕ). IsThere (if k == n then Some m else line_in n ms)) (sym a.0.socket) (go (l.socket == n) w (there_alike n ls ms a.1))
  where
    go : (b : Bool) → IsThere (if b then Some l else line_in n ls) → (IsThere (line_in n ls) → IsThere (line_in n ms)) → IsThere (if b then Some m else line_in n ms)
    go true x more = tt
    go false x more = more x

module _ (n q : ℕ) where
  -- the line is open, and was dialled for the player
  abbrev IsFor : Line → Type 0
  IsFor l = (l.is_open ≡ true) × (l.dialled ≡ Some q)

  abbrev IsFound : Option Line → Type 0
  IsFound None = ⊥
  IsFound (Some l) = IsFor l

  abbrev So : Table → Type 0
  So t = IsFound (line_in n t.lines)

  both : (o : Option Line) → IsThere o → IfLine IsFor o → IsFound o
  both None t p = t
  both (Some l) t p = p

  there : (o : Option Line) → IsFound o → IsThere o
  there None p = p
  there (Some l) p = tt

  if_so : (o : Option Line) → IsFound o → IfLine IsFor o
  if_so None p = absurd p
  if_so (Some l) p = p

  -- ---- changes of lines

  found_more : (x : Line) (ls : List Line) → IsFound (line_in n ls) → IsFound (line_in n (ls ++ x ∷ []))
  found_more x [] p = absurd p
  found_more x (l ∷ ls) p = go (l.socket == n) p (found_more x ls)
    where
      go : (b : Bool) → IsFound (if b then Some l else line_in n ls) → (IsFound (line_in n ls) → IsFound (line_in n (ls ++ x ∷ []))) → IsFound (if b then Some l else line_in n (ls ++ x ∷ []))
      go true y more = y
      go false y more = more y

  found_mapped : (g : Line → Line) (ls : List Line) → KeepsSocket g → ((l : Line) → line_in n ls ≡ Some l → IsFor l → IsFor (g l)) → IsFound (line_in n ls) → IsFound (line_in n (map g ls))
  found_mapped g ls k f p = subst IsFound (sym (line_mapped n g k ls)) (go (line_in n ls) refl p)
    where
      go : (o : Option Line) → line_in n ls ≡ o → IsFound o → IsFound (on_line g o)
      go None e x = x
      go (Some l) e x = f l e x

  found_at : (m : ℕ) (change : Line → Line) (ls : List Line) → ((l : Line) → (change l).socket ≡ l.socket) → ((l : Line) → IsFor l → IsFor (change l)) → IsFound (line_in n ls) → IsFound (line_in n (in_lines m change ls))
  found_at m change ls k f p = found_mapped (at_socket m change) ls (keeps_at m change (λ l e. k l)) (λ l e x. go l (l.socket == m) x) p
    where
      go : (l : Line) (b : Bool) → IsFor l → IsFor (if b then change l else l)
      go l true x = f l x
      go l false x = x

  -- another line is changed
  found_other : (m : ℕ) (change : Line → Line) (ls : List Line) → (n == m) ≡ false → ((l : Line) → (change l).socket ≡ l.socket) → IsFound (line_in n ls) → IsFound (line_in n (in_lines m change ls))
  found_other m change ls other k p =
      found_mapped (at_socket m change) ls (keeps_at m change (λ l e. k l))
      (λ l e x.
      let not_it : (l.socket == m) ≡ false = ap (λ (y : ℕ). y == m) (line_is n ls l e) ∙ other in
      subst IsFor (sym (ap (λ (b : Bool). if b then change l else l) not_it)) x) p

  -- the closed lines go
  found_open : (ls : List Line) → IsFound (line_in n ls) → IsFound (line_in n (filter (λ l. l.is_open) ls))
  found_open [] p = p
  found_open (l ∷ ls) p = go (l.socket == n) refl p (found_open ls)
    where
      rest : List Line
      rest = filter (λ x. x.is_open) ls

      stays : (b : Bool) → (l.socket == n) ≡ true → l.is_open ≡ b → IsFor l → IsFound (line_in n (if b then l ∷ rest else rest))
      stays true e i x = subst (λ (c : Bool). IsFound (if c then Some l else line_in n rest)) (sym e) x
      stays false e i x = absurd (false≢true (sym i ∙ x.0))

      passes : (b : Bool) → (l.socket == n) ≡ false → IsFound (line_in n rest) → IsFound (line_in n (if b then l ∷ rest else rest))
      passes true e x = subst (λ (c : Bool). IsFound (if c then Some l else line_in n rest)) (sym e) x
      passes false e x = x

      go : (b : Bool) → (l.socket == n) ≡ b → IsFound (if b then Some l else line_in n ls) → (IsFound (line_in n ls) → IsFound (line_in n rest)) → IsFound (line_in n (if l.is_open then l ∷ rest else rest))
      go true e y more = stays l.is_open e refl y
      go false e y more = passes l.is_open e (more y)

  found_listed : (t : Table) (list : List Ready) → So t → So (fold listed t list)
  found_listed t [] p = p
  found_listed t (Opened m ∷ list) p = found_listed (listed t (Opened m)) list (found_more _ t.lines p)
  found_listed t (Seems m ∷ list) p = found_listed (listed t (Seems m)) list (found_at m woken t.lines (λ l. refl) (λ l x. x) p)

  -- ---- bytes

  moved_for : (place : ℕ) (l : Line) → IsFor l → IsFor (moved_to place l)
  moved_for place l x = go l.sending
    where
      go : (o : Option ℕ) → IsFor (moved_to place (record l { sending = o }))
      go None = x
      go (Some p) = x

  read_for : (count : ℕ) (g : Given) (l : Line) → IsFor l → IsFor (read_on count g l)
  read_for count g l x = go l.name
    where
      go : (o : Option ℕ) → IsFor (record (counted_on o count l) { reader = g.reader })
      go None = x
      go (Some p) = x

  if_took : (v : View) (m : ℕ) (bytes : List ℕ) (o : Option Line) → IfLine IsFor (line_in n v.table.lines) → IfLine IsFor (line_in n (took_with (hearer_of v) v.table m bytes o).lines)
  if_took v m bytes None p = p
  if_took v m bytes (Some l) p =
      let g = given_of l.reader bytes in
      let t = at_line m (read_on (length bytes) g) v.table in
      any_stays IsFor (hearer_of v) n m (λ x e. e) moved_for (λ r from next x e. e) g (counted l.name (length bytes) t)
      (counted_lines IsFor n l.name (length bytes) t (if_either IsFor n m (read_on (length bytes) g) v.table.lines (read_keeps (length bytes) g) (read_for (length bytes) g) p))

  found_took : (v : View) (m : ℕ) (bytes : List ℕ) → So v.table → So (took_on (hearer_of v) m bytes v.table)
  found_took v m bytes p =
      let o = line_of v.table m in
      let t = took_with (hearer_of v) v.table m bytes o in
      both (line_in n t.lines) (there_alike n v.table.lines t.lines (alike_took (hearer_of v) v.table m bytes o) (there (line_in n v.table.lines) p)) (if_took v m bytes o (if_so (line_in n v.table.lines) p))

  found_sorted : (v : View) → So v.table → So (sorted v.table.waiting v).table
  found_sorted v p = sorted_table So (λ t waiting x. x) (λ t r place x. x) v.table.waiting v p

  found_kept : (v : View) (o : Option Entry) → So v.table → So (kept_entry v o).table
  found_kept v None p = p
  found_kept v (Some e) p = found_sorted (with_entry e v) p

  desk_for : (k : Speaker) (own : Option TurnFrame) (count : ℕ) (t : Table) (l : Line) (o : Option Seat) → line_in n t.lines ≡ Some l → IsFor l → IfLine IsFor (line_in n (gave_with k own count t (desk_with l o)).lines)
  desk_for k own count t l None e x = subst (IfLine IsFor) (sym e) x
  desk_for k own count t l (Some c) e x =
      let d : Desk = record { line = l; seat = c } in
      let to : Line = (gave_on k own count d).line in
      let w = keeps_gave k own count d in
      let same : to.socket ≡ n = w.0 ∙ line_is n t.lines l e in
      subst (λ (m : ℕ). IfLine IsFor (line_in n (in_lines m (λ _. to) t.lines))) (sym same)
      (if_own (λ y. y ≡ l) IsFor n (λ _. to) t.lines (λ y z. same ∙ sym z) (λ y z r. (w.1 ∙ x.0, w.2 ∙ x.1)) (subst (IfLine (λ y. y ≡ l)) (sym e) refl))

  own_for : (v : View) (bytes : List ℕ) → IfLine IsFor (line_in n v.table.lines) → IfLine IsFor (line_in n (after v (Gave n bytes)).table.lines)
  own_for v bytes p = go (line_of v.table n) refl
    where
      go : (o : Option Line) → line_in n v.table.lines ≡ o → IfLine IsFor (line_in n (gave_by (speaker_of v.setting) (safe_frames v) (length bytes) v.table o).lines)
      go None e = p
      go (Some l) e =
          desk_for (speaker_of v.setting) (own_at (safe_frames v) l) (length bytes) v.table l (seat_by v.table (player_of l)) e (subst (IfLine IsFor) e p)

  if_gave : (v : View) (m : ℕ) (bytes : List ℕ) → IfLine IsFor (line_in n v.table.lines) → IfLine IsFor (line_in n (after v (Gave m bytes)).table.lines)
  if_gave v m bytes p = go (m == n) refl
    where
      go : (b : Bool) → (m == n) ≡ b → IfLine IsFor (line_in n (after v (Gave m bytes)).table.lines)
      go true e = subst (λ (x : ℕ). IfLine IsFor (line_in n (after v (Gave x bytes)).table.lines)) (sym (eqb-true m n e)) (own_for v bytes p)
      go false e = other_gave v.setting IsFor n m (safe_frames v) (length bytes) v.table (line_of v.table m) (flip m n e) refl p

  found_gave : (v : View) (m : ℕ) (bytes : List ℕ) → Differ v.table.lines → So v.table → So (after v (Gave m bytes)).table
  found_gave v m bytes d p =
      let t = (after v (Gave m bytes)).table in
      both (line_in n t.lines)
      (there_alike n v.table.lines t.lines (alike_gave (speaker_of v.setting) (safe_frames v) (length bytes) v.table m (line_of v.table m) d refl) (there (line_in n v.table.lines) p))
      (if_gave v m bytes (if_so (line_in n v.table.lines) p))

  -- ---- after each item

  found_closed : (v : View) (m : ℕ) → So v.table → (m ≡ n) ⊎ So (at_line m closed v.table)
  found_closed v m p = go (m == n) refl
    where
      go : (b : Bool) → (m == n) ≡ b → (m ≡ n) ⊎ So (at_line m closed v.table)
      go true e = inl (eqb-true m n e)
      go false e = inr (found_other m closed v.table.lines (flip m n e) (λ l. refl) p)

  closed_or_found : (v : View) (item : Item) → Differ v.table.lines → So v.table → Closes n item ⊎ So (after v item).table
  closed_or_found v (LogBegun name) d p = inr p
  closed_or_found v (Listening addr) d p = inr p
  closed_or_found v (Dialled m r addr) d p = inr (found_more _ v.table.lines p)
  closed_or_found v (Polled list) d p = inr (found_listed (rested v.table) list (found_open v.table.lines p))
  closed_or_found v (Took m bytes) d p = inr (found_sorted (with_table (took_on (hearer_of v) m bytes v.table) v) (found_took v m bytes p))
  closed_or_found v (Gave m bytes) d p = inr (found_gave v m bytes d p)
  closed_or_found v (ReadNotYet m) d p = inr (found_at m quieted v.table.lines (λ l. refl) (λ l x. x) p)
  closed_or_found v (WriteNotYet m) d p = inr (found_at m blocked v.table.lines (λ l. refl) (λ l x. x) p)
  closed_or_found v (Ended m) d p = found_closed v m p
  closed_or_found v (Shut m) d p = found_closed v m p
  closed_or_found v (Kept bytes) d p = inr (found_kept v (entry_in v.writer bytes) p)
  closed_or_found v Synced d p = inr p
  closed_or_found v (Failed (ListenCall addr)) d p = inr p
  closed_or_found v (Failed (LogCall name)) d p = inr p
  closed_or_found v (Failed (DialCall r addr)) d p = inr p
  closed_or_found v (Failed PollCall) d p = inr p
  closed_or_found v (Failed (ReadCall m)) d p = found_closed v m p
  closed_or_found v (Failed (WriteCall m)) d p = found_closed v m p
  closed_or_found v (Failed (KeepCall bytes)) d p = inr p
  closed_or_found v (Failed SyncCall) d p = inr p

  -- ---- a dial

  serves_for : (l : Line) → IsFor l → serves q l ≡ true
  serves_for l x =
      ap (λ (b : Bool). b && (is_player l.dialled q || is_player l.name q)) x.0 ∙ ap (λ (o : Option ℕ). is_player o q || is_player l.name q) x.1
      ∙ ap (λ (b : Bool). b || is_player l.name q) (eq-eqb q q refl)

  found_served : (ls : List Line) → IsFound (line_in n ls) → list_any (serves q) ls ≡ true
  found_served [] p = absurd p
  found_served (l ∷ ls) p = go (l.socket == n) p (found_served ls)
    where
      any : (b : Bool) → list_any (serves q) ls ≡ true → (b || list_any (serves q) ls) ≡ true
      any true e = refl
      any false e = e

      go : (b : Bool) → IsFound (if b then Some l else line_in n ls) → (IsFound (line_in n ls) → list_any (serves q) ls ≡ true) → list_any (serves q) (l ∷ ls) ≡ true
      go true x more = ap (λ (b : Bool). b || list_any (serves q) ls) (serves_for l x)
      go false x more = any (serves q l) (more x)

  undialled : (v : View) (addr : Addr) (o : Option Seat) → So v.table → seat_of v.table q ≡ o → may_dial_at v addr o ≡ true → ⊥
  undialled v addr None p e h = false≢true h
  undialled v addr (Some c) p e h =
      let wants = (and_parts _ _ (and_parts _ _ h).0).1 in
      let free : not (is_served v.table c.link.player) ≡ true = (and_parts _ _ (and_parts _ _ (and_parts _ _ wants).0).0).1 in
      let player = (seat_is (λ x. Unit {0}) q v.table.seats c (any_seat v.table.seats) e).1 in
      false≢true (sym (ap not (ap (is_served v.table) player ∙ found_served v.table.lines p)) ∙ free)
    where
      any_seat : (cs : List Seat) → EachIs (λ (c : Seat). Unit {0}) cs
      any_seat [] = tt
      any_seat (c ∷ cs) = (tt, any_seat cs)

  no_dial : (v : View) (item : Item) → IsDialFor q item → is_allowed v item ≡ true → So v.table → ⊥
  no_dial v (Dialled m p addr) r h k = undialled v addr (seat_of v.table q) k refl (subst (λ (x : ℕ). may_dial_at v addr (seat_of v.table x) ≡ true) r h)
  no_dial v (Failed (DialCall p addr)) r h k = undialled v addr (seat_of v.table q) k refl (subst (λ (x : ℕ). may_dial_at v addr (seat_of v.table x) ≡ true) r h)
  no_dial v (Polled list) r h k = r
  no_dial v (Took m bytes) r h k = r
  no_dial v (Gave m bytes) r h k = r
  no_dial v (Kept bytes) r h k = r
  no_dial v (LogBegun name) r h k = r
  no_dial v (Listening addr) r h k = r
  no_dial v (ReadNotYet m) r h k = r
  no_dial v (WriteNotYet m) r h k = r
  no_dial v (Ended m) r h k = r
  no_dial v (Shut m) r h k = r
  no_dial v Synced r h k = r
  no_dial v (Failed (ListenCall addr)) r h k = r
  no_dial v (Failed (LogCall name)) r h k = r
  no_dial v (Failed PollCall) r h k = r
  no_dial v (Failed (ReadCall m)) r h k = r
  no_dial v (Failed (WriteCall m)) r h k = r
  no_dial v (Failed (KeepCall bytes)) r h k = r
  no_dial v (Failed SyncCall) r h k = r

  -- the new line is found, where none of its socket was before
  found_last : (x : Line) (ls : List Line) → IsNotIn n ls → x.socket ≡ n → IsFor x → IsFound (line_in n (ls ++ x ∷ []))
  found_last x [] none e p = subst (λ (b : Bool). IsFound (if b then Some x else None)) (sym (eq-eqb x.socket n e)) p
  found_last x (l ∷ ls) none e p = go (l.socket == n) refl (found_last x ls none.1 e p)
    where
      go : (b : Bool) → (l.socket == n) ≡ b → IsFound (line_in n (ls ++ x ∷ [])) → IsFound (if b then Some l else line_in n (ls ++ x ∷ []))
      go true w y = absurd (none.0 (eqb-true l.socket n w))
      go false w y = y

  -- ---- between two dials

  closed_more : (item : Item) (v : View) (between : List Item) → Closes n item ⊎ So v.table → (So v.table → SomeIs (Closes n) between) → SomeIs (Closes n) (item ∷ between)
  closed_more item v between (inl x) more = (item, inl refl, x)
  closed_more item v between (inr x) more = let y = more x in (y.0, inr y.1, y.2)

  closed_between : (s : Setting) (front between more : List Item) (next : Item) → SocketsAreNew (front ++ (between ++ next ∷ more)) → IsHistory s (front ++ (between ++ next ∷ more)) → IsDialFor q next →
      So (view_of s front).table → SomeIs (Closes n) between
  closed_between s front [] more next new h r k = absurd (no_dial (view_of s front) next r (items_are_allowed s front more next h) k)
  closed_between s front (item ∷ between) more next new h r k =
      let v = view_of s front in
      let w = view_of s (front ++ item ∷ []) in
      let told = (knows_in s n front (fewer_new front (item ∷ (between ++ next ∷ more)) new) (before (start s) front (item ∷ (between ++ next ∷ more)) h)).told in
      let same = append_assoc front (item ∷ []) (between ++ next ∷ more) in
      let one : Closes n item ⊎ So w.table = subst (λ (x : View). Closes n item ⊎ So x.table) (sym (fold-append after (start s) front (item ∷ []))) (closed_or_found v item told.differ k) in
      closed_more item w between one (λ x. closed_between s (front ++ item ∷ []) between more next (subst SocketsAreNew (sym same) new) (subst (IsHistory s) (sym same) h) r x)

pub dials_find_none : DialsFindNone
dials_find_none s front between more n q addr next new h r =
    let v = view_of s front in
    let item = Dialled n q addr in
    let tail = between ++ next ∷ more in
    let told = (knows_in s n front (fewer_new front (item ∷ tail) new) (before (start s) front (item ∷ tail) h)).told in
    let none = not_in_fresh front n v.table.lines (new front tail item refl) told.stand in
    let same = append_assoc front (item ∷ []) tail in
    let found : So n q (after v item).table = found_last n q (dialled_line n q ((hearer_of v).next q)) v.table.lines none refl (refl, refl) in
    closed_between n q s (front ++ item ∷ []) between more next (subst SocketsAreNew (sym same) new) (subst (IsHistory s) (sym same) h) r
    (subst (λ (w : View). So n q w.table) (sym (fold-append after (start s) front (item ∷ []))) found)
