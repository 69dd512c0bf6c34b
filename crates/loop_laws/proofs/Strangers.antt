-- Strangers: no more bytes are taken on a socket before its HELLO than that has.
use Rattle.std.proofs.Common.{◌≡◌, ℕ, ◌+◌, ◌-◌, ◌≤◌, Bool, true, false, refl, sym, ap, subst, ◌∙◌, List, [], ◌∷◌, ◌++◌, append_assoc, append-nil, length, length-append, arith, leb-true}
use Rattle.std.specs.Prelude.{Option, Some, None, ◌==◌, ◌||◌, nat_le, nat_lt, if◌then◌else◌}
use Rattle.std.specs.List.{fold}
use Rattle.std.proofs.lemmas.Bool.{and_parts, eqb-true, false≢true}
use Rattle.std.proofs.lemmas.List.Sums.{fold-append}
use Rattle.definitions.specs.declared.frames.TurnFrame.{TurnFrame}
use Rattle.definitions.specs.declared.logs.Entry.{Entry}
use Rattle.definitions.specs.Lists.{EachIs, is_empty}
use Rattle.wire_frames.specs.declared.frames.Frame.{Frame}
use Rattle.wire_frames.specs.declared.frames.Frame.TheVariants.{Hello}
use Rattle.wire_frames.specs.Streams.{Given, given_of, given_over}
use Rattle.socket_station.specs.declared.answers.Ready.{Ready}
use Rattle.socket_station.specs.declared.answers.Ready.TheVariants.{Opened, Socket as Seems}
use Rattle.socket_station.specs.declared.answers.Standing.TheVariants.{Fresh}
use Rattle.socket_station.specs.Items.{Item, ListenCall, LogCall, DialCall, PollCall, ReadCall, WriteCall, KeepCall, SyncCall, Listening, LogBegun, Dialled, Polled, Took, Gave, ReadNotYet, WriteNotYet, Ended, Failed, Shut, Kept, Synced}
use Rattle.socket_station.specs.Moved.{taken_in, took_at}
use Rattle.socket_station.specs.Standings.{opens, standing_in}
use Rattle.socket_station.specs.Laws.{is_opening}
use Rattle.socket_station.proofs.Histories.{standing-more, taken-more}
use Rattle.socket_lines.specs.declared.giving.Due.{Due}
use Rattle.socket_lines.specs.declared.giving.Due.TheVariants as U
use Rattle.socket_lines.specs.declared.limits.TheConstants.{HELLO_BYTES}
use Rattle.socket_lines.specs.declared.line.Line.{Line}
use Rattle.socket_lines.specs.declared.seat.Seat.{Seat}
use Rattle.socket_lines.specs.Lines.{blocked, closed, moved_to, named_line, quieted, woken, player_of}
use Rattle.socket_lines.specs.Giving.{Desk, Speaker, begun, due_on, ended_with, left_with, marked}
use Rattle.loop_rules.specs.Settings.{Setting, speaker_of}
use Rattle.loop_rules.specs.Tables.{Table, line_of, at_line, desk_with, in_lines, room_on, room_by, seat_by}
use Rattle.loop_rules.specs.Views.{View, start, safe_frames}
use Rattle.loop_rules.specs.Hearing.{counted, counted_on, read_on, took_on, took_with}
use Rattle.loop_rules.specs.Handling.{hearer_of}
use Rattle.loop_rules.specs.Keeping.{with_entry, kept_entry}
use Rattle.peer_rules.specs.Entries.{entry_in}
use Rattle.loop_rules.specs.After.{after, gave_by, gave_on, gave_with, listed, own_at, rested, view_of, with_table}
use Rattle.loop_rules.specs.Rules.{is_allowed, is_within}
use Rattle.loop_rules.specs.Histories.{IsHistory}
use Rattle.loop_rules.specs.Told.{Differ, LineStands}
use Rattle.loop_rules.proofs.Alike.{keeps_gave}
use Rattle.loop_rules.proofs.Prefixes.{before, items_are_allowed}
use Rattle.loop_laws.specs.Sockets.{SocketsAreNew, came_on}
use Rattle.loop_laws.specs.Laws.{StrangersAreShort}
use Rattle.loop_laws.proofs.Bytes.{adds, facts_came, facts_in, piece_at}
use Rattle.loop_laws.proofs.Finds.{line_in, line_is, IfLine, if_either, if_more, if_open, if_other, if_own}
use Rattle.loop_laws.proofs.Hearing.{any_stays, other_stays}
use Rattle.loop_laws.proofs.Giving.{other_gave}
use Rattle.loop_laws.proofs.Speakers.{Facts, NameSo, Told}
use Rattle.loop_laws.proofs.Steps.{counted_lines, facts_after, flip, line_sorted, read_keeps}
use Rattle.loop_laws.proofs.Given.{Knows, fresh_before, knows_in, opening_fresh, reads_line, used_line}
use Rattle.loop_laws.proofs.Handled.{fewer_new}

-- a line without a name counts so many bytes
abbrev pub Counts : ℕ → Line → Type 0
Counts k l = l.name ≡ None → l.taken ≡ k

moved_counts : (k place : ℕ) (l : Line) → Counts k l → Counts k (moved_to place l)
moved_counts k place l c = go l.sending
  where
    go : (o : Option ℕ) → Counts k (moved_to place (record l { sending = o }))
    go None = c
    go (Some p) = c

named_counts : (k q from next : ℕ) (l : Line) → Counts k (named_line q from next l)
named_counts k q from next l e = absurd (let x : Some q ≡ None = e in cc)

read_counts : (k count : ℕ) (g : Given) (l : Line) → Counts k l → Counts (k + count) (read_on count g l)
read_counts k count g l c = go l.name refl
  where
    go : (o : Option ℕ) → l.name ≡ o → Counts (k + count) (record (counted_on o count l) { reader = g.reader })
    go None e x = ap (λ (n : ℕ). n + count) (c e)
    go (Some q) e x = absurd (let y : Some q ≡ None = sym e ∙ x in cc)

-- ---- bytes that are given leave the count

marked_taken : (due : Due) (d : Desk) → (marked due d).line.taken ≡ d.line.taken
marked_taken U.Nothing d = refl
marked_taken (U.Hello next) d = refl
marked_taken (U.Want place) d = refl
marked_taken (U.Own f) d = refl

ended_taken : (o : Option ℕ) (d : Desk) → (ended_with o d).line.taken ≡ d.line.taken
ended_taken None d = refl
ended_taken (Some place) d = refl

left_taken : (left : List ℕ) (d : Desk) → (left_with left d).line.taken ≡ d.line.taken
left_taken left d = go (is_empty left)
  where
    e : Desk
    e = record d { line = record d.line { unsent = left } }

    go : (b : Bool) → (if b then ended_with d.line.sending e else e).line.taken ≡ d.line.taken
    go true = ended_taken d.line.sending e
    go false = refl

begun_taken : (own : Option TurnFrame) (d : Desk) → (begun own d).line.taken ≡ d.line.taken
begun_taken own d = go (is_empty d.line.unsent)
  where
    go : (b : Bool) → (if b then marked (due_on own d) d else d).line.taken ≡ d.line.taken
    go true = marked_taken (due_on own d) d
    go false = refl

desk_counts : (k : ℕ) (who : Speaker) (own : Option TurnFrame) (count n : ℕ) (t : Table) (l : Line) (o : Option Seat) → line_in n t.lines ≡ Some l → Counts k l →
    IfLine (Counts k) (line_in n (gave_with who own count t (desk_with l o)).lines)
desk_counts k who own count n t l None e c = subst (IfLine (Counts k)) (sym e) c
desk_counts k who own count n t l (Some seat) e c =
    let d : Desk = record { line = l; seat = seat } in
    let to : Line = (gave_on who own count d).line in
    let kept = keeps_gave who own count d in
    let same : to.socket ≡ n = kept.0 ∙ line_is n t.lines l e in
    let counts : Counts k to = λ x. left_taken _ (begun own d) ∙ begun_taken own d ∙ c (sym kept.4 ∙ x) in
    subst (λ (m : ℕ). IfLine (Counts k) (line_in n (in_lines m (λ _. to) t.lines))) (sym same)
    (if_own (λ x. x ≡ l) (Counts k) n (λ _. to) t.lines (λ x y. same ∙ sym y) (λ x y r. counts) (subst (IfLine (λ x. x ≡ l)) (sym e) refl))

module _ (k n : ℕ) where
  abbrev So : Table → Type 0
  So t = IfLine (Counts k) (line_in n t.lines)

  gave_own : (v : View) (count : ℕ) (o : Option Line) → line_in n v.table.lines ≡ o → So v.table → So (gave_by (speaker_of v.setting) (safe_frames v) count v.table o)
  gave_own v count None e p = p
  gave_own v count (Some l) e p =
      desk_counts k (speaker_of v.setting) (own_at (safe_frames v) l) count n v.table l (seat_by v.table (player_of l)) e (subst (IfLine (Counts k)) e p)

  gave_any : (v : View) (m count : ℕ) → So v.table → So (gave_by (speaker_of v.setting) (safe_frames v) count v.table (line_of v.table m))
  gave_any v m count p = go (m == n) refl
    where
      go : (b : Bool) → (m == n) ≡ b → So (gave_by (speaker_of v.setting) (safe_frames v) count v.table (line_of v.table m))
      go true e = subst (λ (x : ℕ). So (gave_by (speaker_of v.setting) (safe_frames v) count v.table (line_of v.table x))) (sym (eqb-true m n e)) (gave_own v count (line_of v.table n) refl p)
      go false e = other_gave v.setting (Counts k) n m (safe_frames v) count v.table (line_of v.table m) (flip m n e) refl p

  listed_all : (t : Table) (list : List Ready) → (opens list n ≡ true → k ≡ 0) → So t → So (fold listed t list)
  listed_all t [] new p = p
  listed_all t (Opened m ∷ list) new p =
      listed_all (listed t (Opened m)) list (λ x. new (second (m == n) (opens list n) x)) (if_more (Counts k) n _ t.lines (λ x e. sym (new (first (m == n) (opens list n) x))) p)
    where
      second : (a b : Bool) → b ≡ true → (a || b) ≡ true
      second true b x = refl
      second false b x = x

      first : (a b : Bool) → a ≡ true → (a || b) ≡ true
      first true b x = refl
      first false b x = absurd (false≢true x)
  listed_all t (Seems m ∷ list) new p = listed_all (listed t (Seems m)) list new (if_either (Counts k) n m woken t.lines (λ l. refl) (λ l c. c) p)

  took_other : (v : View) (m : ℕ) (bytes : List ℕ) (o : Option Line) → (n == m) ≡ false → So v.table → So (took_with (hearer_of v) v.table m bytes o)
  took_other v m bytes None other p = p
  took_other v m bytes (Some l) other p =
      let g = given_of l.reader bytes in
      let t = at_line m (read_on (length bytes) g) v.table in
      other_stays (Counts k) (hearer_of v) n m other (λ x c. c) g (counted l.name (length bytes) t)
      (counted_lines (Counts k) n l.name (length bytes) t (if_other (Counts k) n m (read_on (length bytes) g) v.table.lines other (λ x e. read_keeps (length bytes) g x) p))

  took_own : (v : View) (bytes : List ℕ) (o : Option Line) → line_in n v.table.lines ≡ o → So v.table → IfLine (Counts (k + length bytes)) (line_in n (took_with (hearer_of v) v.table n bytes o).lines)
  took_own v bytes None e p = subst (IfLine (Counts (k + length bytes))) (sym e) tt
  took_own v bytes (Some l) e p =
      let g = given_of l.reader bytes in
      let t = at_line n (read_on (length bytes) g) v.table in
      let more = Counts (k + length bytes) in
      any_stays more (hearer_of v) n n (λ x c. c) (λ place x c. moved_counts (k + length bytes) place x c) (λ q from next x c. named_counts (k + length bytes) q from next x) g (counted l.name (length bytes) t)
      (counted_lines more n l.name (length bytes) t (if_own (Counts k) more n (read_on (length bytes) g) v.table.lines (λ x y. read_keeps (length bytes) g x) (λ x y c. read_counts k (length bytes) g x c) p))

  kept_all : (v : View) (o : Option Entry) → So v.table → So (kept_entry v o).table
  kept_all v None p = p
  kept_all v (Some e) p = line_sorted (Counts k) n (with_entry e v).table.waiting (with_entry e v) p

  abbrev After : View → Item → Type 0
  After v item = IfLine (Counts (k + length (took_at n item))) (line_in n (after v item).table.lines)

  same : (t : Table) → So t → IfLine (Counts (k + length {A = ℕ} [])) (line_in n t.lines)
  same t p = subst (λ (x : ℕ). IfLine (Counts x) (line_in n t.lines)) (let e : k ≡ k + length {A = ℕ} [] = omega arith in e) p

  took_any : (v : View) (m : ℕ) (bytes : List ℕ) → So v.table → After v (Took m bytes)
  took_any v m bytes p =
      let w = with_table (took_on (hearer_of v) m bytes v.table) v in
      line_sorted (Counts (k + length (took_at n (Took m bytes)))) n w.table.waiting w (go (m == n) refl)
    where
      go : (b : Bool) → (m == n) ≡ b → IfLine (Counts (k + length (if b then bytes else []))) (line_in n (took_on (hearer_of v) m bytes v.table).lines)
      go true e =
          subst (λ (x : ℕ). IfLine (Counts (k + length bytes)) (line_in n (took_on (hearer_of v) x bytes v.table).lines)) (sym (eqb-true m n e)) (took_own v bytes (line_of v.table n) refl p)
      go false e = same (took_on (hearer_of v) m bytes v.table) (took_other v m bytes (line_of v.table m) (flip m n e) p)

  counts_after : (v : View) (item : Item) → (is_opening item n ≡ true → k ≡ 0) → Differ v.table.lines → So v.table → After v item
  counts_after v (Took m bytes) new d p = took_any v m bytes p
  counts_after v (Dialled m q addr) new d p = same (after v (Dialled m q addr)).table (if_more (Counts k) n _ v.table.lines (λ x e. sym (new x)) p)
  counts_after v (Polled list) new d p = same (after v (Polled list)).table (listed_all (rested v.table) list new (if_open (Counts k) n v.table.lines d p))
  counts_after v (Gave m bytes) new d p = same (after v (Gave m bytes)).table (gave_any v m (length bytes) p)
  counts_after v (Kept bytes) new d p = same (after v (Kept bytes)).table (kept_all v (entry_in v.writer bytes) p)
  counts_after v (ReadNotYet m) new d p = same (after v (ReadNotYet m)).table (if_either (Counts k) n m quieted v.table.lines (λ l. refl) (λ l c. c) p)
  counts_after v (WriteNotYet m) new d p = same (after v (WriteNotYet m)).table (if_either (Counts k) n m blocked v.table.lines (λ l. refl) (λ l c. c) p)
  counts_after v (Ended m) new d p = same (after v (Ended m)).table (if_either (Counts k) n m closed v.table.lines (λ l. refl) (λ l c. c) p)
  counts_after v (Shut m) new d p = same (after v (Shut m)).table (if_either (Counts k) n m closed v.table.lines (λ l. refl) (λ l c. c) p)
  counts_after v (LogBegun name) new d p = same v.table p
  counts_after v (Listening addr) new d p = same v.table p
  counts_after v Synced new d p = same v.table p
  counts_after v (Failed (ListenCall addr)) new d p = same v.table p
  counts_after v (Failed (LogCall name)) new d p = same v.table p
  counts_after v (Failed (DialCall q addr)) new d p = same v.table p
  counts_after v (Failed PollCall) new d p = same v.table p
  counts_after v (Failed (ReadCall m)) new d p = same (after v (Failed (ReadCall m))).table (if_either (Counts k) n m closed v.table.lines (λ l. refl) (λ l c. c) p)
  counts_after v (Failed (WriteCall m)) new d p = same (after v (Failed (WriteCall m))).table (if_either (Counts k) n m closed v.table.lines (λ l. refl) (λ l c. c) p)
  counts_after v (Failed (KeepCall bytes)) new d p = same v.table p
  counts_after v (Failed SyncCall) new d p = same v.table p

-- ---- of a socket that was never used no bytes were taken

none_if : (b : Bool) (bytes : List ℕ) → (b ≡ true → ⊥) → (if b then bytes else []) ≡ []
none_if true bytes n = absurd (n refl)
none_if false bytes n = refl

untaken : (items : List Item) (v : View) (n : ℕ) (item : Item) → is_allowed v item ≡ true → EachIs (LineStands items) v.table.lines → standing_in items n ≡ Fresh → took_at n item ≡ []
untaken items v n (Took m bytes) h each f =
    let found = reads_line v (line_of v.table m) (and_parts _ _ (and_parts _ _ h).0).0 in
    none_if (m == n) bytes (λ b. used_line items m v.table.lines found.0 each found.1 (ap (standing_in items) (eqb-true m n b) ∙ f))
untaken items v n (LogBegun name) h each f = refl
untaken items v n (Listening addr) h each f = refl
untaken items v n (Dialled m q addr) h each f = refl
untaken items v n (Polled list) h each f = refl
untaken items v n (Gave m bytes) h each f = refl
untaken items v n (ReadNotYet m) h each f = refl
untaken items v n (WriteNotYet m) h each f = refl
untaken items v n (Ended m) h each f = refl
untaken items v n (Shut m) h each f = refl
untaken items v n (Kept bytes) h each f = refl
untaken items v n Synced h each f = refl
untaken items v n (Failed call) h each f = refl

-- ---- the limit

name_none : (s : Setting) (came : List Frame) (o : Option ℕ) → came ≡ [] → NameSo s came o → o ≡ None
name_none s came None e n = refl
name_none s came (Some q) e n = absurd (let x : Hello s.game.id q n.0 n.1 ∷ n.2 ≡ [] = sym n.4 ∙ e in cc)

within_hello : (t : Table) (count k : ℕ) (o : Option Line) → IfLine (λ l. (l.name ≡ None) × (l.taken ≡ k)) o → is_within t count o ≡ true → k ≤ HELLO_BYTES → k + count ≤ HELLO_BYTES
within_hello t count k None p h le = absurd (false≢true h)
within_hello t count k (Some l) p h le =
    let room : count ≤ room_on t l = leb-true count (room_on t l) (and_parts (nat_lt 0 count) (nat_le count (room_on t l)) h).1 in
    let same : room_on t l ≡ HELLO_BYTES - k = ap (λ (o : Option ℕ). room_by t l o) p.0 ∙ ap (λ (x : ℕ). HELLO_BYTES - x) p.1 in
    omega (arith, room, same, le)

-- both of a line
both : (P Q R : Line → Type 0) (o : Option Line) → ((l : Line) → P l → Q l → R l) → IfLine P o → IfLine Q o → IfLine R o
both P Q R None f p q = tt
both P Q R (Some l) f p q = f l p q

front_none : (xs ys : List Frame) → xs ++ ys ≡ [] → xs ≡ []
front_none [] ys e = refl
front_none (x ∷ xs) ys e = absurd (let y : x ∷ (xs ++ ys) ≡ [] = e in cc)

-- ---- the whole history

pub record Short (s : Setting) (n : ℕ) (items : List Item) : Type 0 where
  pub counts : IfLine (Counts (length (taken_in n items))) (line_in n (view_of s items).table.lines)
  pub few : came_on n items ≡ [] → length (taken_in n items) ≤ HELLO_BYTES
  pub empty : standing_in items n ≡ Fresh → taken_in n items ≡ []

few_next : (s : Setting) (n : ℕ) (items : List Item) (item : Item) → Knows s n items → is_allowed (view_of s items) item ≡ true → Short s n items → came_on n items ≡ [] →
    length (taken_in n items) + length (took_at n item) ≤ HELLO_BYTES
few_next s n items item k h short none = few_by item h
  where
    v : View
    v = view_of s items

    count : ℕ
    count = length (taken_in n items)

    le : count ≤ HELLO_BYTES
    le = short.few none

    more : (m : ℕ) (bytes : List ℕ) (b : Bool) → (m == n) ≡ b → is_allowed v (Took m bytes) ≡ true → count + length (if b then bytes else []) ≤ HELLO_BYTES
    more m bytes true e a =
        let facts = facts_in n items in
        let line = both (Told s (safe_frames v) facts) (Counts count) (λ l. (l.name ≡ None) × (l.taken ≡ count)) (line_in n v.table.lines)
        (λ l told c. let name = name_none s facts.came l.name (facts_came n items ∙ none) told.named in (name, c name)) k.at.line short.counts in
        within_hello v.table (length bytes) count (line_of v.table n) line (subst (λ (x : ℕ). is_within v.table (length bytes) (line_of v.table x) ≡ true) (eqb-true m n e) (and_parts _ _ a).1) le
    more m bytes false e a = omega (arith, le)

    few_by : (i : Item) → is_allowed v i ≡ true → count + length (took_at n i) ≤ HELLO_BYTES
    few_by (Took m bytes) a = more m bytes (m == n) refl a
    few_by (LogBegun name) a = omega (arith, le)
    few_by (Listening addr) a = omega (arith, le)
    few_by (Dialled m q addr) a = omega (arith, le)
    few_by (Polled list) a = omega (arith, le)
    few_by (Gave m bytes) a = omega (arith, le)
    few_by (ReadNotYet m) a = omega (arith, le)
    few_by (WriteNotYet m) a = omega (arith, le)
    few_by (Ended m) a = omega (arith, le)
    few_by (Shut m) a = omega (arith, le)
    few_by (Kept bytes) a = omega (arith, le)
    few_by Synced a = omega (arith, le)
    few_by (Failed call) a = omega (arith, le)

short_next : (s : Setting) (n : ℕ) (items : List Item) (item : Item) (more : List Item) → SocketsAreNew (items ++ item ∷ more) → IsHistory s (items ++ item ∷ more) → Short s n items → Short s n (items ++ item ∷ [])
short_next s n items item more new h short =
    let v = view_of s items in
    let all = items ++ item ∷ [] in
    let k = knows_in s n items (fewer_new items (item ∷ more) new) (before (start s) items (item ∷ more) h) in
    let allowed = items_are_allowed s items more item h in
    let opens_new = new items more item refl in
    let long : length (taken_in n all) ≡ length (taken_in n items) + length (took_at n item) = ap (λ (x : List ℕ). length x) (taken-more n items item) ∙ length-append (taken_in n items) (took_at n item) in
    let facts = facts_in n items in
    let came : came_on n all ≡ facts.came ++ (given_over facts.reader (piece_at n item)).frames =
    sym (facts_came n all) ∙ ap (λ (x : Facts). x.came) (fold-append (facts_after n) _ items (item ∷ [])) ∙ (adds n facts item).2 in
    record {
      counts = subst (λ (x : ℕ). IfLine (Counts x) (line_in n (view_of s all).table.lines)) (sym long)
          (subst (λ (w : View). IfLine (Counts (length (taken_in n items) + length (took_at n item))) (line_in n w.table.lines)) (sym (fold-append after (start s) items (item ∷ [])))
          (counts_after (length (taken_in n items)) n v item (λ o. ap (λ (x : List ℕ). length x) (short.empty (opening_fresh items item n opens_new o))) k.told.differ short.counts));
      few = λ none. subst (λ (x : ℕ). x ≤ HELLO_BYTES) (sym long)
          (few_next s n items item k allowed short (sym (facts_came n items) ∙ front_none facts.came (given_over facts.reader (piece_at n item)).frames (sym came ∙ none)));
      empty = λ e.
          let old = fresh_before n (standing_in items n) item (sym (standing-more items item n) ∙ e) in
          taken-more n items item ∙ ap (λ (x : List ℕ). taken_in n items ++ x) (untaken items v n item allowed k.told.stand old) ∙ append-nil (taken_in n items) ∙ short.empty old;
    }

short_items : (s : Setting) (n : ℕ) (front items : List Item) → SocketsAreNew (front ++ items) → IsHistory s (front ++ items) → Short s n front → Short s n (front ++ items)
short_items s n front [] new h k = subst (Short s n) (sym (append-nil front)) k
short_items s n front (item ∷ items) new h k =
    let same = append_assoc front (item ∷ []) items in
    subst (Short s n) same
    (short_items s n (front ++ item ∷ []) items (subst SocketsAreNew (sym same) new) (subst (IsHistory s) (sym same) h) (short_next s n front item items new h k))

pub strangers_are_short : StrangersAreShort
strangers_are_short s front more n bytes new h none =
    let item = Took n bytes in
    let history = before (start s) front (item ∷ more) h in
    let fewer = fewer_new front (item ∷ more) new in
    let first : Short s n [] = record { counts = tt; few = λ e. omega arith; empty = λ e. refl } in
    let short = short_items s n [] front fewer history first in
    let long : length (taken_in n (front ++ item ∷ [])) ≡ length (taken_in n front) + length (took_at n item) =
    ap (λ (x : List ℕ). length x) (taken-more n front item) ∙ length-append (taken_in n front) (took_at n item) in
    subst (λ (x : ℕ). x ≤ HELLO_BYTES) (sym long) (few_next s n front item (knows_in s n front fewer history) (items_are_allowed s front more item h) short none)

pub short_in : (s : Setting) (n : ℕ) (items : List Item) → SocketsAreNew items → IsHistory s items → Short s n items
short_in s n items new h = short_items s n [] items new h (record { counts = tt; few = λ e. omega arith; empty = λ e. refl })
