-- Told: what a station tells goes on by each item that may come next.
use Rattle.std.proofs.Common.{◌≡◌, ℕ, Bool, true, false, refl, sym, ap, subst, ◌∙◌, List, [], ◌∷◌, ◌++◌}
use Rattle.std.specs.Prelude.{Option, Some, None, ◌==◌, ◌||◌, not, nat_lt, filter, length, if◌then◌else◌}
use Rattle.std.specs.List.{fold}
use Rattle.std.proofs.lemmas.Bool.{eqb-true, eq-eqb, false≢true, or_parts}
use Rattle.plain_lemmas.proofs.Each.{each_push}
use Rattle.definitions.specs.Lists.{EachIs}
use Rattle.socket_station.specs.declared.answers.Ready.{Ready}
use Rattle.socket_station.specs.declared.answers.Ready.TheVariants.{Opened, Socket as Seems}
use Rattle.socket_station.specs.declared.answers.Standing.{Standing}
use Rattle.socket_station.specs.declared.answers.Standing.TheVariants.{Fresh, Open, Closed}
use Rattle.socket_station.specs.Items.{Item, ListenCall, LogCall, DialCall, PollCall, ReadCall, WriteCall, KeepCall, SyncCall, Listening, LogBegun, Dialled, Polled, Took, Gave, ReadNotYet, WriteNotYet, Ended, Failed, Shut, Kept, Synced}
use Rattle.socket_station.proofs.Histories.{standing-more}
use Rattle.socket_station.specs.Standings.{opens, standing_after, standing_in, AreNew, OpensNew}
use Rattle.socket_lines.specs.declared.limits.TheConstants.{MOST_ACCEPTED}
use Rattle.socket_lines.specs.declared.line.Line.{Line}
use Rattle.socket_lines.specs.Lines.{accepted_line, dialled_line, closed, quieted, blocked, woken}
use Rattle.definitions.specs.declared.logs.Entry.{Entry}
use Rattle.definitions.specs.Findings.{is_clean}
use Rattle.definitions.specs.Answers.{is_far}
use Rattle.socket_station.specs.declared.answers.Addr.{Addr}
use Rattle.socket_lines.specs.Seats.{asks}
use Rattle.peer_rules.specs.declared.arrivals.Arrival.{Arrival}
use Rattle.loop_rules.specs.Settings.{Setting, speaker_of}
use Rattle.loop_rules.specs.Tables.{Table, line_of, in_lines, at_seat}
use Rattle.loop_rules.specs.Views.{View, start, safe_frames}
use Rattle.loop_rules.specs.Hearing.{took_on}
use Rattle.loop_rules.specs.Handling.{with_waiting, hearer_of, next_of, passed, is_new_to, sorted}
use Rattle.loop_rules.specs.Keeping.{with_entry, kept_entry}
use Rattle.peer_rules.specs.Entries.{entry_in}
use Rattle.loop_rules.specs.After.{after, with_table, listed, rested, view_of}
use Rattle.loop_rules.specs.Rules.{is_allowed}
use Rattle.loop_rules.specs.Told.{LineStands, IsNotIn, Differ, IsTold}
use Rattle.loop_rules.specs.Laws.{ToldGoesOn}
use Rattle.loop_rules.specs.Histories.{are_allowed}
use Rattle.loop_rules.proofs.Prefixes.{added}
use Rattle.loop_rules.proofs.Kept.{keeps_took, keeps_sorted}
use Rattle.loop_rules.proofs.Alike.{Same, Alike, alike, alike_at, each_alike, differ_alike, alike_took, alike_gave, closed_same, quieted_same, blocked_same, woken_same}

fold_last : {X Y : Type 0} (f : Y → X → Y) (y : Y) (xs : List X) (x : X) → fold f y (xs ++ x ∷ []) ≡ f (fold f y xs) x
fold_last f y [] x = refl
fold_last f y (z ∷ xs) x = fold_last f (f y z) xs x

eqb-sym : (m n : ℕ) → (m == n) ≡ (n == m)
eqb-sym m n = go (m == n) (n == m) refl refl
  where
    go : (a b : Bool) → (m == n) ≡ a → (n == m) ≡ b → a ≡ b
    go true true p q = refl
    go false false p q = refl
    go true false p q = sym (eq-eqb n m (sym (eqb-true m n p))) ∙ q
    go false true p q = sym p ∙ eq-eqb m n (sym (eqb-true n m q))

passed_lines : (v : View) (a : Arrival) → (passed v a).table.lines ≡ v.table.lines
passed_lines v a = go (is_far v.setting.game v.setting.me v.kept a.player a.frame)
  where
    go : (b : Bool) → (if b then record v { table = at_seat a.player (asks (next_of v a.player)) v.table } else v).table.lines ≡ v.table.lines
    go true = refl
    go false = refl

-- ---- lines that stand as they stood

-- the item changes no standing
abbrev pub IsStill : Item → Type 0
IsStill item = (n : ℕ) (old : Standing) → standing_after n old item ≡ old

stands_still : (items : List Item) (item : Item) (l m : Line) → IsStill item → Same l m → LineStands items l → LineStands (items ++ item ∷ []) m
stands_still items item l m still k st =
    let eq : standing_in (items ++ item ∷ []) m.socket ≡ standing_in items l.socket =
    standing-more items item m.socket ∙ still m.socket (standing_in items m.socket) ∙ ap (standing_in items) k.socket in
    record { used = λ e. st.used (sym eq ∙ e); opened = λ e. eq ∙ st.opened (k.opened e) }

pub each_still : (items : List Item) (item : Item) (ls ms : List Line) → IsStill item → Alike ls ms → EachIs (LineStands items) ls → EachIs (LineStands (items ++ item ∷ [])) ms
each_still items item [] [] still a e = tt
each_still items item [] (m ∷ ms) still a e = absurd a
each_still items item (l ∷ ls) [] still a e = absurd a
each_still items item (l ∷ ls) (m ∷ ms) still a e = (stands_still items item l m still a.0 e.0, each_still items item ls ms still a.1 e.1)

-- ---- a socket that closes

-- the item closes this socket
abbrev pub Closes : ℕ → Item → Type 0
Closes s item = (n : ℕ) (old : Standing) → standing_after n old item ≡ (if s == n then Closed else old)

stands_closed : (items : List Item) (item : Item) (s : ℕ) (l : Line) → Closes s item → LineStands items l → LineStands (items ++ item ∷ []) (if l.socket == s then closed l else l)
stands_closed items item s l c st = go (l.socket == s) refl
  where
    after_it : standing_in (items ++ item ∷ []) l.socket ≡ (if s == l.socket then Closed else standing_in items l.socket)
    after_it = standing-more items item l.socket ∙ c l.socket (standing_in items l.socket)

    not_fresh : (b : Bool) → (if b then Closed else standing_in items l.socket) ≡ Fresh → ⊥
    not_fresh true e = cc
    not_fresh false e = st.used e

    used : standing_in (items ++ item ∷ []) l.socket ≡ Fresh → ⊥
    used e = not_fresh (s == l.socket) (sym after_it ∙ e)

    go : (b : Bool) → (l.socket == s) ≡ b → LineStands (items ++ item ∷ []) (if b then closed l else l)
    go true e = record { used = used; opened = λ o. absurd (false≢true o) }
    go false e = record { used = used; opened = λ o. after_it ∙ ap (λ (b : Bool). if b then Closed else standing_in items l.socket) (eqb-sym s l.socket ∙ e) ∙ st.opened o }

each_closed : (items : List Item) (item : Item) (s : ℕ) (ls : List Line) → Closes s item → EachIs (LineStands items) ls → EachIs (LineStands (items ++ item ∷ [])) (in_lines s closed ls)
each_closed items item s [] c e = tt
each_closed items item s (l ∷ ls) c e = (stands_closed items item s l c e.0, each_closed items item s ls c e.1)

-- ---- sockets that open

stands_if_fresh : (items : List Item) (item : Item) (l : Line) → standing_in (items ++ item ∷ []) l.socket ≡ standing_in items l.socket → LineStands items l → LineStands (items ++ item ∷ []) l
stands_if_fresh items item l eq st = record { used = λ e. st.used (sym eq ∙ e); opened = λ e. eq ∙ st.opened e }

-- a dial opens one
other_socket : (items : List Item) (s : ℕ) (l : Line) → standing_in items s ≡ Fresh → LineStands items l → (s == l.socket) ≡ false
other_socket items s l f st = go (s == l.socket) refl
  where
    go : (b : Bool) → (s == l.socket) ≡ b → b ≡ false
    go true e = absurd (st.used (ap (standing_in items) (sym (eqb-true s l.socket e)) ∙ f))
    go false e = refl

each_dialled : (items : List Item) (s q next : ℕ) (item : Item) (ls : List Line) → ((n : ℕ) (old : Standing) → standing_after n old item ≡ (if s == n then Open else old)) →
    standing_in items s ≡ Fresh → EachIs (LineStands items) ls → EachIs (LineStands (items ++ item ∷ [])) (ls ++ dialled_line s q next ∷ [])
each_dialled items s q next item [] c f e =
    let eq : standing_in (items ++ item ∷ []) s ≡ Open = standing-more items item s ∙ c s (standing_in items s) ∙ ap (λ (b : Bool). if b then Open else standing_in items s) (eq-eqb s s refl) in
    (record { used = λ x. (let y : Open ≡ Fresh = sym eq ∙ x in cc); opened = λ o. eq }, tt)
each_dialled items s q next item (l ∷ ls) c f e =
    let eq = standing-more items item l.socket ∙ c l.socket (standing_in items l.socket) ∙ ap (λ (b : Bool). if b then Open else standing_in items l.socket) (other_socket items s l f e.0) in
    (stands_if_fresh items item l eq e.0, each_dialled items s q next item ls c f e.1)

pub not_in_fresh : (items : List Item) (s : ℕ) (ls : List Line) → standing_in items s ≡ Fresh → EachIs (LineStands items) ls → IsNotIn s ls
not_in_fresh items s [] f e = tt
not_in_fresh items s (l ∷ ls) f e = (λ q. e.0.used (ap (standing_in items) q ∙ f), not_in_fresh items s ls f e.1)

pub differ_last : (ls : List Line) (m : Line) → IsNotIn m.socket ls → Differ ls → Differ (ls ++ m ∷ [])
differ_last [] m n d = (tt, tt)
differ_last (l ∷ ls) m n d = (each_push (λ x. x.socket ≡ l.socket → ⊥) ls m d.0 (λ e. n.0 (sym e)), differ_last ls m n.1 d.1)

-- ---- polls

pub kept_open : (P : Line → Type 0) (ls : List Line) → EachIs P ls → EachIs P (filter (λ l. l.is_open) ls)
kept_open P [] e = tt
kept_open P (l ∷ ls) e = go l.is_open (kept_open P ls e.1)
  where
    go : (b : Bool) → EachIs P (filter (λ m. m.is_open) ls) → EachIs P (if b then l ∷ filter (λ m. m.is_open) ls else filter (λ m. m.is_open) ls)
    go true r = (e.0, r)
    go false r = r

pub differ_open : (ls : List Line) → Differ ls → Differ (filter (λ l. l.is_open) ls)
differ_open [] d = tt
differ_open (l ∷ ls) d = go l.is_open (differ_open ls d.1)
  where
    go : (b : Bool) → Differ (filter (λ m. m.is_open) ls) → Differ (if b then l ∷ filter (λ m. m.is_open) ls else filter (λ m. m.is_open) ls)
    go true r = (kept_open (λ m. m.socket ≡ l.socket → ⊥) ls d.0, r)
    go false r = r

-- what is so of a line behind these items and the sockets of a list
abbrev pub StandsBehind : (standing : ℕ → Standing) → Line → Type 0
StandsBehind standing l = (standing l.socket ≡ Fresh → ⊥) × (l.is_open ≡ true → standing l.socket ≡ Open)

abbrev pub opened_by : List Ready → (ℕ → Standing) → ℕ → Standing
opened_by list standing n = if opens list n then Open else standing n

-- one more socket is open
abbrev pub with_open : (s : ℕ) → (ℕ → Standing) → ℕ → Standing
with_open s standing n = if s == n then Open else standing n

each_same : (f g : ℕ → Standing) → ((n : ℕ) → f n ≡ g n) → (ls : List Line) → EachIs (StandsBehind f) ls → EachIs (StandsBehind g) ls
each_same f g k [] e = tt
each_same f g k (l ∷ ls) e = ((λ q. e.0.0 (k l.socket ∙ q), λ o. sym (k l.socket) ∙ e.0.1 o), each_same f g k ls e.1)

opened_then : (s : ℕ) (list : List Ready) (standing : ℕ → Standing) (n : ℕ) → opened_by list (with_open s standing) n ≡ opened_by (Opened s ∷ list) standing n
opened_then s list standing n = go (s == n) (opens list n)
  where
    go : (a b : Bool) → (if b then Open else (if a then Open else standing n)) ≡ (if a || b then Open else standing n)
    go true true = refl
    go true false = refl
    go false true = refl
    go false false = refl

new_behind : (standing : ℕ → Standing) (s : ℕ) (list : List Ready) → opens list s ≡ false → AreNew standing list → AreNew (with_open s standing) list
new_behind standing s [] o e = tt
new_behind standing s (Opened n ∷ list) o e =
    let p = or_parts (n == s) (opens list s) o in
    (ap (λ (b : Bool). if b then Open else standing n) (eqb-sym s n ∙ p.0) ∙ e.0, e.1, new_behind standing s list p.1 e.2)
new_behind standing s (Seems n ∷ list) o e = new_behind standing s list o e

-- a line that was used is not the one that opens
each_with_open : (standing : ℕ → Standing) (s : ℕ) (wrong : Bool) (ls : List Line) → standing s ≡ Fresh → EachIs (StandsBehind standing) ls →
    EachIs (StandsBehind (with_open s standing)) (ls ++ accepted_line s wrong ∷ [])
each_with_open standing s wrong [] f e =
    let eq : with_open s standing s ≡ Open = ap (λ (b : Bool). if b then Open else standing s) (eq-eqb s s refl) in
    ((λ x. (let y : Open ≡ Fresh = sym eq ∙ x in cc), λ o. eq), tt)
each_with_open standing s wrong (l ∷ ls) f e = (go (s == l.socket) refl, each_with_open standing s wrong ls f e.1)
  where
    go : (b : Bool) → (s == l.socket) ≡ b → StandsBehind (with_open s standing) l
    go true q = absurd (e.0.0 (ap standing (sym (eqb-true s l.socket q)) ∙ f))
    go false q =
        let eq : with_open s standing l.socket ≡ standing l.socket = ap (λ (b : Bool). if b then Open else standing l.socket) q in
        (λ x. e.0.0 (sym eq ∙ x), λ o. eq ∙ e.0.1 o)

new_to : (standing : ℕ → Standing) (s : ℕ) (ls : List Line) → standing s ≡ Fresh → EachIs (StandsBehind standing) ls → IsNotIn s ls
new_to standing s [] f e = tt
new_to standing s (l ∷ ls) f e = (λ q. e.0.0 (ap standing q ∙ f), new_to standing s ls f e.1)

stands_same : (standing : ℕ → Standing) (l m : Line) → Same l m → StandsBehind standing l → StandsBehind standing m
stands_same standing l m k e = (λ q. e.0 (ap standing (sym k.socket) ∙ q), λ o. ap standing k.socket ∙ e.1 (k.opened o))

-- the sockets that a list opens are new to the lines and to one another
each_listed : (standing : ℕ → Standing) (list : List Ready) (t : Table) → AreNew standing list → EachIs (StandsBehind standing) t.lines → Differ t.lines →
    EachIs (StandsBehind (opened_by list standing)) (fold listed t list).lines × Differ (fold listed t list).lines
each_listed standing [] t new e d = (e, d)
each_listed standing (Opened s ∷ list) t new e d =
    let wrong = not (nat_lt t.accepted MOST_ACCEPTED) in
    let u = listed t (Opened s) in
    let r = each_listed (with_open s standing) list u (new_behind standing s list new.1 new.2) (each_with_open standing s wrong t.lines new.0 e)
    (differ_last t.lines (accepted_line s wrong) (new_to standing s t.lines new.0 e) d) in
    (each_same (opened_by list (with_open s standing)) (opened_by (Opened s ∷ list) standing) (opened_then s list standing) (fold listed u list).lines r.0, r.1)
each_listed standing (Seems s ∷ list) t new e d =
    let u = listed t (Seems s) in
    let a = alike_at s woken woken_same t.lines in
    each_listed standing list u new (each_alike (StandsBehind standing) (stands_same standing) t.lines u.lines a e) (differ_alike t.lines u.lines a d)

each_behind : (items : List Item) (ls : List Line) → EachIs (LineStands items) ls → EachIs (StandsBehind (standing_in items)) ls
each_behind items [] e = tt
each_behind items (l ∷ ls) e = ((e.0.used, e.0.opened), each_behind items ls e.1)

each_in : (items : List Item) (list : List Ready) (ls : List Line) → EachIs (StandsBehind (opened_by list (standing_in items))) ls → EachIs (LineStands (items ++ Polled list ∷ [])) ls
each_in items list [] e = tt
each_in items list (l ∷ ls) e =
    let eq = standing-more items (Polled list) l.socket in
    (record { used = λ q. e.0.0 (sym eq ∙ q); opened = λ o. eq ∙ e.0.1 o }, each_in items list ls e.1)

setting_kept : (v : View) (o : Option Entry) → (kept_entry v o).setting ≡ v.setting
setting_kept v None = refl
setting_kept v (Some e) = (keeps_sorted (with_entry e v).table.waiting (with_entry e v)).setting

pub setting_after : (v : View) (item : Item) → (after v item).setting ≡ v.setting
setting_after v (LogBegun name) = refl
setting_after v (Listening addr) = refl
setting_after v (Dialled s q addr) = refl
setting_after v (Polled list) = refl
setting_after v (Took s bytes) = (keeps_took v s bytes).setting
setting_after v (Gave s bytes) = refl
setting_after v (ReadNotYet s) = refl
setting_after v (WriteNotYet s) = refl
setting_after v (Ended s) = refl
setting_after v (Shut s) = refl
setting_after v (Kept bytes) = setting_kept v (entry_in v.writer bytes)
setting_after v Synced = refl
setting_after v (Failed (ListenCall addr)) = refl
setting_after v (Failed (LogCall name)) = refl
setting_after v (Failed (DialCall q addr)) = refl
setting_after v (Failed PollCall) = refl
setting_after v (Failed (ReadCall s)) = refl
setting_after v (Failed (WriteCall s)) = refl
setting_after v (Failed (KeepCall bytes)) = refl
setting_after v (Failed SyncCall) = refl

-- ---- the lines after an item

sorted_lines : (arrivals : List Arrival) (v : View) → (sorted arrivals v).table.lines ≡ v.table.lines
sorted_lines [] v = refl
sorted_lines (a ∷ more) v = clean (not (is_clean v.setting.game v.kept)) (sorted_lines more (passed v a) ∙ passed_lines v a)
  where
    new : (b : Bool) → (sorted more (passed v a)).table.lines ≡ v.table.lines → (if b then with_waiting (a ∷ more) v else sorted more (passed v a)).table.lines ≡ v.table.lines
    new true e = refl
    new false e = e

    clean : (b : Bool) → (sorted more (passed v a)).table.lines ≡ v.table.lines →
        (if b then with_waiting [] v else (if is_new_to v a then with_waiting (a ∷ more) v else sorted more (passed v a))).table.lines ≡ v.table.lines
    clean true e = refl
    clean false e = new (is_new_to v a) e

kept_lines : (v : View) (o : Option Entry) → (kept_entry v o).table.lines ≡ v.table.lines
kept_lines v None = refl
kept_lines v (Some e) = sorted_lines (with_entry e v).table.waiting (with_entry e v)

-- the lines after an item stand, and their sockets differ
abbrev pub StandsAfter : List Item → View → Item → Type 0
StandsAfter items v item = EachIs (LineStands (items ++ item ∷ [])) (after v item).table.lines × Differ (after v item).table.lines

still : (items : List Item) (v : View) (item : Item) → IsTold items v → IsStill item → Alike v.table.lines (after v item).table.lines → StandsAfter items v item
still items v item t k a = (each_still items item v.table.lines (after v item).table.lines k a t.stand, differ_alike v.table.lines (after v item).table.lines a t.differ)

closing : (items : List Item) (v : View) (item : Item) (s : ℕ) → IsTold items v → Closes s item → (after v item).table.lines ≡ in_lines s closed v.table.lines → StandsAfter items v item
closing items v item s t c e = (
  subst (λ (ls : List Line). EachIs (LineStands (items ++ item ∷ [])) ls) (sym e) (each_closed items item s v.table.lines c t.stand),
  subst Differ (sym e) (differ_alike v.table.lines (in_lines s closed v.table.lines) (alike_at s closed closed_same v.table.lines) t.differ),
)

took_alike : (v : View) (s : ℕ) (bytes : List ℕ) → Alike v.table.lines (after v (Took s bytes)).table.lines
took_alike v s bytes =
    let w = with_table (took_on (hearer_of v) s bytes v.table) v in
    subst (Alike v.table.lines) (sym (sorted_lines w.table.waiting w)) (alike_took (hearer_of v) v.table s bytes (line_of v.table s))

kept_alike : (v : View) (bytes : List ℕ) → Alike v.table.lines (after v (Kept bytes)).table.lines
kept_alike v bytes = subst (Alike v.table.lines) (sym (kept_lines v (entry_in v.writer bytes))) (alike v.table.lines)

dialled : (items : List Item) (v : View) (s q : ℕ) (addr : Addr) → IsTold items v → standing_in items s ≡ Fresh → StandsAfter items v (Dialled s q addr)
dialled items v s q addr t f =
    let next = (hearer_of v).next q in (
      each_dialled items s q next (Dialled s q addr) v.table.lines (λ n old. refl) f t.stand,
      differ_last v.table.lines (dialled_line s q next) (not_in_fresh items s v.table.lines f t.stand) t.differ,
    )

polled : (items : List Item) (v : View) (list : List Ready) → IsTold items v → AreNew (standing_in items) list → StandsAfter items v (Polled list)
polled items v list t new =
    let u = rested v.table in
    let r = each_listed (standing_in items) list u new (each_behind items u.lines (kept_open (LineStands items) v.table.lines t.stand)) (differ_open v.table.lines t.differ) in
    (each_in items list (after v (Polled list)).table.lines r.0, r.1)

stands_after : (items : List Item) (v : View) (item : Item) → IsTold items v → OpensNew items item → StandsAfter items v item
stands_after items v (LogBegun name) t o = still items v (LogBegun name) t (λ n old. refl) (alike v.table.lines)
stands_after items v (Listening addr) t o = still items v (Listening addr) t (λ n old. refl) (alike v.table.lines)
stands_after items v (Dialled s q addr) t o = dialled items v s q addr t o
stands_after items v (Polled list) t o = polled items v list t o
stands_after items v (Took s bytes) t o = still items v (Took s bytes) t (λ n old. refl) (took_alike v s bytes)
stands_after items v (Gave s bytes) t o =
    still items v (Gave s bytes) t (λ n old. refl) (alike_gave (speaker_of v.setting) (safe_frames v) (length bytes) v.table s (line_of v.table s) t.differ refl)
stands_after items v (ReadNotYet s) t o = still items v (ReadNotYet s) t (λ n old. refl) (alike_at s quieted quieted_same v.table.lines)
stands_after items v (WriteNotYet s) t o = still items v (WriteNotYet s) t (λ n old. refl) (alike_at s blocked blocked_same v.table.lines)
stands_after items v (Ended s) t o = closing items v (Ended s) s t (λ n old. refl) refl
stands_after items v (Shut s) t o = closing items v (Shut s) s t (λ n old. refl) refl
stands_after items v (Kept bytes) t o = still items v (Kept bytes) t (λ n old. refl) (kept_alike v bytes)
stands_after items v Synced t o = still items v Synced t (λ n old. refl) (alike v.table.lines)
stands_after items v (Failed (ListenCall addr)) t o = still items v (Failed (ListenCall addr)) t (λ n old. refl) (alike v.table.lines)
stands_after items v (Failed (LogCall name)) t o = still items v (Failed (LogCall name)) t (λ n old. refl) (alike v.table.lines)
stands_after items v (Failed (DialCall q addr)) t o = still items v (Failed (DialCall q addr)) t (λ n old. refl) (alike v.table.lines)
stands_after items v (Failed PollCall) t o = still items v (Failed PollCall) t (λ n old. refl) (alike v.table.lines)
stands_after items v (Failed (ReadCall s)) t o = closing items v (Failed (ReadCall s)) s t (λ n old. refl) refl
stands_after items v (Failed (WriteCall s)) t o = closing items v (Failed (WriteCall s)) s t (λ n old. refl) refl
stands_after items v (Failed (KeepCall bytes)) t o = still items v (Failed (KeepCall bytes)) t (λ n old. refl) (alike v.table.lines)
stands_after items v (Failed SyncCall) t o = still items v (Failed SyncCall) t (λ n old. refl) (alike v.table.lines)

pub told_goes_on : ToldGoesOn
told_goes_on items v item t opens may =
    let s = v.setting in
    let st = stands_after items v item t opens in
    let allowed : are_allowed (start s) (items ++ item ∷ []) ≡ true =
    added (start s) items item t.allowed (ap (λ (w : View). is_allowed w item) t.shown ∙ may) in
    let shown : view_of s (items ++ item ∷ []) ≡ after v item = fold_last after (start s) items item ∙ ap (λ (w : View). after w item) t.shown in
    let same = setting_after v item in
    record {
      allowed = subst (λ (r : Setting). are_allowed (start r) (items ++ item ∷ []) ≡ true) (sym same) allowed;
      shown = subst (λ (r : Setting). view_of r (items ++ item ∷ []) ≡ after v item) (sym same) shown;
      stand = st.0;
      differ = st.1;
    }
