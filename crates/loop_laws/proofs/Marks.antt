-- Marks: a line that was found quiet or blocked stays so until a poll lists its socket.
use Rattle.std.proofs.Common.{◌≡◌, ◌⊎◌, inl, inr, ℕ, Bool, true, false, refl, sym, ap, subst, ◌∙◌, List, [], ◌∷◌, ◌++◌, append_assoc, append-nil, length}
use Rattle.std.specs.Prelude.{Option, Some, None, ◌==◌, ◌||◌, not, if◌then◌else◌}
use Rattle.std.specs.List.{fold}
use Rattle.std.proofs.lemmas.Bool.{and_parts, eqb-true, false≢true, or_parts}
use Rattle.std.proofs.lemmas.List.Sums.{fold-append}
use Rattle.definitions.specs.declared.frames.TurnFrame.{TurnFrame}
use Rattle.definitions.specs.declared.logs.Entry.{Entry}
use Rattle.definitions.specs.Lists.{is_empty}
use Rattle.definition_laws.specs.Members.{Has}
use Rattle.wire_frames.specs.Streams.{Given, given_of}
use Rattle.socket_station.specs.declared.answers.Ready.{Ready}
use Rattle.socket_station.specs.declared.answers.Ready.TheVariants.{Opened, Socket as Seems}
use Rattle.socket_station.specs.declared.answers.Standing.TheVariants.{Fresh}
use Rattle.socket_station.specs.Items.{Item, ListenCall, LogCall, DialCall, PollCall, ReadCall, WriteCall, KeepCall, SyncCall, Listening, LogBegun, Dialled, Polled, Took, Gave, ReadNotYet, WriteNotYet, Ended, Failed, Shut, Kept, Synced}
use Rattle.socket_station.specs.Standings.{opens, standing_in}
use Rattle.socket_station.specs.Laws.{is_opening}
use Rattle.socket_station.proofs.Histories.{standing-more}
use Rattle.socket_lines.specs.declared.giving.Due.{Due}
use Rattle.socket_lines.specs.declared.giving.Due.TheVariants as U
use Rattle.socket_lines.specs.declared.line.Line.{Line}
use Rattle.socket_lines.specs.declared.seat.Seat.{Seat}
use Rattle.socket_lines.specs.Lines.{blocked, closed, doomed, moved_to, named_line, quieted, woken, player_of}
use Rattle.socket_lines.specs.Giving.{Desk, Speaker, begun, due_on, ended_with, left_with, marked}
use Rattle.loop_rules.specs.Settings.{Setting, speaker_of}
use Rattle.loop_rules.specs.Tables.{Table, line_of, at_line, desk_with, in_lines, seat_by}
use Rattle.loop_rules.specs.Views.{View, start, safe_frames}
use Rattle.loop_rules.specs.Hearing.{counted, counted_on, read_on, took_on, took_with}
use Rattle.loop_rules.specs.Handling.{hearer_of}
use Rattle.loop_rules.specs.Keeping.{with_entry, kept_entry}
use Rattle.peer_rules.specs.Entries.{entry_in}
use Rattle.loop_rules.specs.After.{after, gave_by, gave_on, gave_with, listed, own_at, rested, view_of, with_table}
use Rattle.loop_rules.specs.Rules.{is_allowed, may_read_line, may_write_line}
use Rattle.loop_rules.specs.Histories.{IsHistory}
use Rattle.loop_rules.specs.Told.{Differ}
use Rattle.loop_rules.proofs.Prefixes.{before, items_are_allowed}
use Rattle.loop_rules.proofs.Alike.{keeps_gave}
use Rattle.loop_laws.specs.Sockets.{SocketsAreNew}
use Rattle.loop_laws.specs.Listing.{IsRead, IsWrite, Lists, SomeIs}
use Rattle.loop_laws.specs.Laws.{ReadsAreListed, WritesAreListed}
use Rattle.loop_laws.proofs.Finds.{line_in, line_is, IfLine, if_either, if_more, if_open, if_other, if_own}
use Rattle.loop_laws.proofs.Hearing.{any_stays}
use Rattle.loop_laws.proofs.Giving.{other_gave}
use Rattle.loop_laws.proofs.Steps.{counted_lines, flip, line_sorted, read_keeps}
use Rattle.loop_laws.proofs.Given.{fresh_before, knows_in, opening_fresh, reads_line, used_line, writes_line}
use Rattle.loop_laws.proofs.Handled.{fewer_new}

-- ---- which polls list a socket

abbrev seems : List Ready → ℕ → Bool
seems [] n = false
seems (Opened m ∷ more) n = seems more n
seems (Seems m ∷ more) n = (m == n) || seems more n

seems_has : (list : List Ready) (n : ℕ) → seems list n ≡ true → Has list (Seems n)
seems_has [] n e = absurd (false≢true e)
seems_has (Opened m ∷ more) n e = inr (seems_has more n e)
seems_has (Seems m ∷ more) n e = go (m == n) refl e (seems_has more n)
  where
    go : (b : Bool) → (m == n) ≡ b → (b || seems more n) ≡ true → (seems more n ≡ true → Has more (Seems n)) → (Seems m ≡ Seems n) ⊎ Has more (Seems n)
    go true q x rest = inl (ap (λ (k : ℕ). Seems k) (eqb-true m n q))
    go false q x rest = inr (rest x)

abbrev is_listing : Item → ℕ → Bool
is_listing (Polled list) n = seems list n
is_listing _ n = false

lists_so : (item : Item) (n : ℕ) → is_listing item n ≡ true → Lists n item
lists_so (Polled list) n e = seems_has list n e
lists_so (LogBegun name) n e = absurd (false≢true e)
lists_so (Listening addr) n e = absurd (false≢true e)
lists_so (Dialled m q addr) n e = absurd (false≢true e)
lists_so (Took m bytes) n e = absurd (false≢true e)
lists_so (Gave m bytes) n e = absurd (false≢true e)
lists_so (ReadNotYet m) n e = absurd (false≢true e)
lists_so (WriteNotYet m) n e = absurd (false≢true e)
lists_so (Ended m) n e = absurd (false≢true e)
lists_so (Shut m) n e = absurd (false≢true e)
lists_so (Kept bytes) n e = absurd (false≢true e)
lists_so Synced n e = absurd (false≢true e)
lists_so (Failed call) n e = absurd (false≢true e)

-- ---- what stays after each item but such a poll

-- what holds of a line stays after all changes but a poll's and bytes that are given
record Keeping (P : Line → Type 0) : Type 0 where
  closes : (l : Line) → P l → P (closed l)
  quiets : (l : Line) → P l → P (quieted l)
  blocks : (l : Line) → P l → P (blocked l)
  dooms : (l : Line) → P l → P (doomed l)
  moves : (place : ℕ) (l : Line) → P l → P (moved_to place l)
  names : (q from next : ℕ) (l : Line) → P l → P (named_line q from next l)
  reads : (count : ℕ) (g : Given) (l : Line) → P l → P (read_on count g l)

not_true : (b : Bool) → (b ≡ true → ⊥) → b ≡ false
not_true true n = absurd (n refl)
not_true false n = refl

module _ (P : Line → Type 0) (k : Keeping P) (n : ℕ) where
  abbrev So : Table → Type 0
  So t = IfLine P (line_in n t.lines)

  marks_listed : (t : Table) (list : List Ready) → opens list n ≡ false → seems list n ≡ false → So t → So (fold listed t list)
  marks_listed t [] o e p = p
  marks_listed t (Opened m ∷ list) o e p =
      let w = or_parts (m == n) (opens list n) o in
      marks_listed (listed t (Opened m)) list w.1 e (if_more P n _ t.lines (λ x. absurd (false≢true (sym w.0 ∙ x))) p)
  marks_listed t (Seems m ∷ list) o e p =
      let w = or_parts (m == n) (seems list n) e in
      marks_listed (listed t (Seems m)) list o w.1 (if_other P n m woken t.lines (flip m n w.0) (λ l x. refl) p)

  marks_took : (v : View) (m : ℕ) (bytes : List ℕ) (o : Option Line) → So v.table → So (took_with (hearer_of v) v.table m bytes o)
  marks_took v m bytes None p = p
  marks_took v m bytes (Some l) p =
      let g = given_of l.reader bytes in
      let t = at_line m (read_on (length bytes) g) v.table in
      any_stays P (hearer_of v) n m k.dooms k.moves k.names g (counted l.name (length bytes) t)
      (counted_lines P n l.name (length bytes) t (if_either P n m (read_on (length bytes) g) v.table.lines (read_keeps (length bytes) g) (k.reads (length bytes) g) p))

  marks_kept : (v : View) (o : Option Entry) → So v.table → So (kept_entry v o).table
  marks_kept v None p = p
  marks_kept v (Some e) p = line_sorted P n (with_entry e v).table.waiting (with_entry e v) p

  marks_gave : (v : View) (m : ℕ) (bytes : List ℕ) → is_allowed v (Gave m bytes) ≡ true →
      ((bytes : List ℕ) → is_allowed v (Gave n bytes) ≡ true → So v.table → So (after v (Gave n bytes)).table) → So v.table → So (after v (Gave m bytes)).table
  marks_gave v m bytes h gives p = go (m == n) refl
    where
      go : (b : Bool) → (m == n) ≡ b → So (after v (Gave m bytes)).table
      go true e =
          let same = eqb-true m n e in
          subst (λ (x : ℕ). So (after v (Gave x bytes)).table) (sym same) (gives bytes (subst (λ (x : ℕ). is_allowed v (Gave x bytes) ≡ true) same h) p)
      go false e = other_gave v.setting P n m (safe_frames v) (length bytes) v.table (line_of v.table m) (flip m n e) refl p

  marks_after : (v : View) (item : Item) → is_allowed v item ≡ true → (is_opening item n ≡ true → ⊥) → is_listing item n ≡ false → Differ v.table.lines →
      ((bytes : List ℕ) → is_allowed v (Gave n bytes) ≡ true → So v.table → So (after v (Gave n bytes)).table) → So v.table → So (after v item).table
  marks_after v (LogBegun name) h o e d gives p = p
  marks_after v (Listening addr) h o e d gives p = p
  marks_after v (Dialled m q addr) h o e d gives p = if_more P n _ v.table.lines (λ x. absurd (o x)) p
  marks_after v (Polled list) h o e d gives p = marks_listed (rested v.table) list (not_true (opens list n) o) e (if_open P n v.table.lines d p)
  marks_after v (Took m bytes) h o e d gives p =
      let w = with_table (took_on (hearer_of v) m bytes v.table) v in
      line_sorted P n w.table.waiting w (marks_took v m bytes (line_of v.table m) p)
  marks_after v (Gave m bytes) h o e d gives p = marks_gave v m bytes h gives p
  marks_after v (ReadNotYet m) h o e d gives p = if_either P n m quieted v.table.lines (λ l. refl) k.quiets p
  marks_after v (WriteNotYet m) h o e d gives p = if_either P n m blocked v.table.lines (λ l. refl) k.blocks p
  marks_after v (Ended m) h o e d gives p = if_either P n m closed v.table.lines (λ l. refl) k.closes p
  marks_after v (Shut m) h o e d gives p = if_either P n m closed v.table.lines (λ l. refl) k.closes p
  marks_after v (Kept bytes) h o e d gives p = marks_kept v (entry_in v.writer bytes) p
  marks_after v Synced h o e d gives p = p
  marks_after v (Failed (ListenCall addr)) h o e d gives p = p
  marks_after v (Failed (LogCall name)) h o e d gives p = p
  marks_after v (Failed (DialCall q addr)) h o e d gives p = p
  marks_after v (Failed PollCall) h o e d gives p = p
  marks_after v (Failed (ReadCall m)) h o e d gives p = if_either P n m closed v.table.lines (λ l. refl) k.closes p
  marks_after v (Failed (WriteCall m)) h o e d gives p = if_either P n m closed v.table.lines (λ l. refl) k.closes p
  marks_after v (Failed (KeepCall bytes)) h o e d gives p = p
  marks_after v (Failed SyncCall) h o e d gives p = p

  -- what bytes given on the socket leave
  abbrev Gives : Type 0
  Gives = (v : View) (bytes : List ℕ) → is_allowed v (Gave n bytes) ≡ true → So v.table → So (after v (Gave n bytes)).table

  -- the socket was used, and it is so of its line
  abbrev Used : Setting → List Item → Type 0
  Used s front = (standing_in front n ≡ Fresh → ⊥) × So (view_of s front).table

  marks_step : (s : Setting) (front : List Item) (item : Item) (tail : List Item) → SocketsAreNew (front ++ item ∷ tail) → IsHistory s (front ++ item ∷ tail) → Gives → Used s front → Lists n item ⊎ Used s (front ++ item ∷ [])
  marks_step s front item tail new h gives u = go (is_listing item n) refl
    where
      v : View
      v = view_of s front

      not_new : is_opening item n ≡ true → ⊥
      not_new o = u.0 (opening_fresh front item n (new front tail item refl) o)

      go : (b : Bool) → is_listing item n ≡ b → Lists n item ⊎ Used s (front ++ item ∷ [])
      go true e = inl (lists_so item n e)
      go false e =
          let k = knows_in s n front (fewer_new front (item ∷ tail) new) (before (start s) front (item ∷ tail) h) in
          let allowed = items_are_allowed s front tail item h in
          inr (
            λ x. u.0 (fresh_before n (standing_in front n) item (sym (standing-more front item n) ∙ x)),
            subst (λ (w : View). So w.table) (sym (fold-append after (start s) front (item ∷ []))) (marks_after v item allowed not_new e k.told.differ (gives v) u.1),
          )

  -- a poll among these items lists the socket, or it is so after them
  abbrev Listed : Setting → (front between : List Item) → Type 0
  Listed s front between = SomeIs (Lists n) between ⊎ Used s (front ++ between)

  marks_more : (s : Setting) (front : List Item) (item : Item) (between : List Item) → Lists n item ⊎ Used s (front ++ item ∷ []) → (Used s (front ++ item ∷ []) → Listed s (front ++ item ∷ []) between) →
      Listed s front (item ∷ between)
  marks_more s front item between (inl x) more = inl (item, inl refl, x)
  marks_more s front item between (inr x) more = elim (more x) [
    | inl y ↦ inl (y.0, inr y.1, y.2)
    | inr y ↦ inr (subst (λ (z : List Item). Used s z) (append_assoc front (item ∷ []) between) y)
  ]

  marks_between : (s : Setting) (front between rest : List Item) → SocketsAreNew (front ++ (between ++ rest)) → IsHistory s (front ++ (between ++ rest)) → Gives → Used s front → Listed s front between
  marks_between s front [] rest new h gives u = inr (subst (λ (x : List Item). Used s x) (sym (append-nil front)) u)
  marks_between s front (item ∷ between) rest new h gives u =
      let same = append_assoc front (item ∷ []) (between ++ rest) in
      marks_more s front item between (marks_step s front item (between ++ rest) new h gives u)
      (λ x. marks_between s (front ++ item ∷ []) between rest (subst SocketsAreNew (sym same) new) (subst (IsHistory s) (sym same) h) gives x)

-- ---- a line that was found quiet

abbrev IsQuiet : Line → Type 0
IsQuiet l = l.is_quiet ≡ true

moved_quiet : (place : ℕ) (l : Line) → (moved_to place l).is_quiet ≡ l.is_quiet
moved_quiet place l = go l.sending
  where
    go : (o : Option ℕ) → (moved_to place (record l { sending = o })).is_quiet ≡ l.is_quiet
    go None = refl
    go (Some p) = refl

read_quiet : (count : ℕ) (g : Given) (l : Line) → (read_on count g l).is_quiet ≡ l.is_quiet
read_quiet count g l = go l.name
  where
    go : (o : Option ℕ) → (record (counted_on o count l) { reader = g.reader }).is_quiet ≡ l.is_quiet
    go None = refl
    go (Some q) = refl

quiet_keeps : Keeping IsQuiet
quiet_keeps = record {
  closes = λ l e. e;
  quiets = λ l e. refl;
  blocks = λ l e. e;
  dooms = λ l e. e;
  moves = λ place l e. moved_quiet place l ∙ e;
  names = λ q from next l e. e;
  reads = λ count g l e. read_quiet count g l ∙ e;
}

marked_quiet : (due : Due) (d : Desk) → (marked due d).line.is_quiet ≡ d.line.is_quiet
marked_quiet U.Nothing d = refl
marked_quiet (U.Hello next) d = refl
marked_quiet (U.Want place) d = refl
marked_quiet (U.Own f) d = refl

ended_quiet : (o : Option ℕ) (d : Desk) → (ended_with o d).line.is_quiet ≡ d.line.is_quiet
ended_quiet None d = refl
ended_quiet (Some place) d = refl

left_quiet : (left : List ℕ) (d : Desk) → (left_with left d).line.is_quiet ≡ d.line.is_quiet
left_quiet left d = go (is_empty left)
  where
    e : Desk
    e = record d { line = record d.line { unsent = left } }

    go : (b : Bool) → (if b then ended_with d.line.sending e else e).line.is_quiet ≡ d.line.is_quiet
    go true = ended_quiet d.line.sending e
    go false = refl

begun_quiet : (own : Option TurnFrame) (d : Desk) → (begun own d).line.is_quiet ≡ d.line.is_quiet
begun_quiet own d = go (is_empty d.line.unsent)
  where
    go : (b : Bool) → (if b then marked (due_on own d) d else d).line.is_quiet ≡ d.line.is_quiet
    go true = marked_quiet (due_on own d) d
    go false = refl

gave_quiet : (k : Speaker) (own : Option TurnFrame) (count : ℕ) (d : Desk) → (gave_on k own count d).line.is_quiet ≡ d.line.is_quiet
gave_quiet k own count d = left_quiet _ (begun own d) ∙ begun_quiet own d

desk_quiet : (k : Speaker) (own : Option TurnFrame) (count n : ℕ) (t : Table) (l : Line) (o : Option Seat) → line_in n t.lines ≡ Some l → IsQuiet l → IfLine IsQuiet (line_in n (gave_with k own count t (desk_with l o)).lines)
desk_quiet k own count n t l None e q = subst (IfLine IsQuiet) (sym e) q
desk_quiet k own count n t l (Some c) e q =
    let d : Desk = record { line = l; seat = c } in
    let to : Line = (gave_on k own count d).line in
    let same : to.socket ≡ n = (keeps_gave k own count d).0 ∙ line_is n t.lines l e in
    subst (λ (m : ℕ). IfLine IsQuiet (line_in n (in_lines m (λ _. to) t.lines))) (sym same)
    (if_own (λ x. x ≡ l) IsQuiet n (λ _. to) t.lines (λ x y. same ∙ sym y) (λ x y r. gave_quiet k own count d ∙ q) (subst (IfLine (λ x. x ≡ l)) (sym e) refl))

quiet_gives : (n : ℕ) (v : View) (bytes : List ℕ) → IfLine IsQuiet (line_in n v.table.lines) → IfLine IsQuiet (line_in n (after v (Gave n bytes)).table.lines)
quiet_gives n v bytes p = go (line_of v.table n) refl
  where
    go : (o : Option Line) → line_in n v.table.lines ≡ o → IfLine IsQuiet (line_in n (gave_by (speaker_of v.setting) (safe_frames v) (length bytes) v.table o).lines)
    go None e = p
    go (Some l) e =
        desk_quiet (speaker_of v.setting) (own_at (safe_frames v) l) (length bytes) n v.table l (seat_by v.table (player_of l)) e (subst (IfLine IsQuiet) e p)

-- such a line isn't read
quiet_unread : (v : View) (o : Option Line) → IfLine IsQuiet o → may_read_line v o ≡ true → ⊥
quiet_unread v None p h = false≢true h
quiet_unread v (Some l) p h = false≢true (sym (ap not p) ∙ (and_parts _ _ (and_parts _ _ h).1).1)

no_read : (n : ℕ) (v : View) (item : Item) → IsRead n item → is_allowed v item ≡ true → IfLine IsQuiet (line_in n v.table.lines) → ⊥
no_read n v (Took m bytes) r h p = quiet_unread v (line_of v.table n) p (subst (λ (x : ℕ). may_read_line v (line_of v.table x) ≡ true) r (and_parts _ _ (and_parts _ _ h).0).0)
no_read n v (ReadNotYet m) r h p = quiet_unread v (line_of v.table n) p (subst (λ (x : ℕ). may_read_line v (line_of v.table x) ≡ true) r h)
no_read n v (Ended m) r h p = quiet_unread v (line_of v.table n) p (subst (λ (x : ℕ). may_read_line v (line_of v.table x) ≡ true) r h)
no_read n v (Failed (ReadCall m)) r h p = quiet_unread v (line_of v.table n) p (subst (λ (x : ℕ). may_read_line v (line_of v.table x) ≡ true) r h)
no_read n v (LogBegun name) r h p = r
no_read n v (Listening addr) r h p = r
no_read n v (Dialled m q addr) r h p = r
no_read n v (Polled list) r h p = r
no_read n v (Gave m bytes) r h p = r
no_read n v (WriteNotYet m) r h p = r
no_read n v (Shut m) r h p = r
no_read n v (Kept bytes) r h p = r
no_read n v Synced r h p = r
no_read n v (Failed (ListenCall addr)) r h p = r
no_read n v (Failed (LogCall name)) r h p = r
no_read n v (Failed (DialCall q addr)) r h p = r
no_read n v (Failed PollCall) r h p = r
no_read n v (Failed (WriteCall m)) r h p = r
no_read n v (Failed (KeepCall bytes)) r h p = r
no_read n v (Failed SyncCall) r h p = r

-- ---- a line that was found blocked

abbrev IsBlocked : Line → Type 0
IsBlocked l = l.is_blocked ≡ true

moved_blocked : (place : ℕ) (l : Line) → (moved_to place l).is_blocked ≡ l.is_blocked
moved_blocked place l = go l.sending
  where
    go : (o : Option ℕ) → (moved_to place (record l { sending = o })).is_blocked ≡ l.is_blocked
    go None = refl
    go (Some p) = refl

read_blocked : (count : ℕ) (g : Given) (l : Line) → (read_on count g l).is_blocked ≡ l.is_blocked
read_blocked count g l = go l.name
  where
    go : (o : Option ℕ) → (record (counted_on o count l) { reader = g.reader }).is_blocked ≡ l.is_blocked
    go None = refl
    go (Some q) = refl

blocked_keeps : Keeping IsBlocked
blocked_keeps = record {
  closes = λ l e. e;
  quiets = λ l e. e;
  blocks = λ l e. refl;
  dooms = λ l e. e;
  moves = λ place l e. moved_blocked place l ∙ e;
  names = λ q from next l e. e;
  reads = λ count g l e. read_blocked count g l ∙ e;
}

-- such a line isn't written
blocked_unwritten : (v : View) (o : Option Line) → IfLine IsBlocked o → may_write_line v o ≡ true → ⊥
blocked_unwritten v None p h = false≢true h
blocked_unwritten v (Some l) p h = false≢true (sym (ap not p) ∙ (and_parts _ _ (and_parts _ _ h).0).1)

no_write : (n : ℕ) (v : View) (item : Item) → IsWrite n item → is_allowed v item ≡ true → IfLine IsBlocked (line_in n v.table.lines) → ⊥
no_write n v (Gave m bytes) r h p = blocked_unwritten v (line_of v.table n) p (subst (λ (x : ℕ). may_write_line v (line_of v.table x) ≡ true) r (and_parts _ _ h).0)
no_write n v (WriteNotYet m) r h p = blocked_unwritten v (line_of v.table n) p (subst (λ (x : ℕ). may_write_line v (line_of v.table x) ≡ true) r h)
no_write n v (Failed (WriteCall m)) r h p = blocked_unwritten v (line_of v.table n) p (subst (λ (x : ℕ). may_write_line v (line_of v.table x) ≡ true) r h)
no_write n v (Took m bytes) r h p = r
no_write n v (ReadNotYet m) r h p = r
no_write n v (Ended m) r h p = r
no_write n v (LogBegun name) r h p = r
no_write n v (Listening addr) r h p = r
no_write n v (Dialled m q addr) r h p = r
no_write n v (Polled list) r h p = r
no_write n v (Shut m) r h p = r
no_write n v (Kept bytes) r h p = r
no_write n v Synced r h p = r
no_write n v (Failed (ListenCall addr)) r h p = r
no_write n v (Failed (LogCall name)) r h p = r
no_write n v (Failed (DialCall q addr)) r h p = r
no_write n v (Failed PollCall) r h p = r
no_write n v (Failed (ReadCall m)) r h p = r
no_write n v (Failed (KeepCall bytes)) r h p = r
no_write n v (Failed SyncCall) r h p = r

-- ---- from such an answer to the next try

any_line : (o : Option Line) → IfLine (λ l. Unit {0}) o
any_line None = tt
any_line (Some l) = tt

-- after an answer that marks the line, which was there
marked_used : (s : Setting) (n : ℕ) (P : Line → Type 0) (front : List Item) (item : Item) (tail : List Item) → SocketsAreNew (front ++ item ∷ tail) → IsHistory s (front ++ item ∷ tail) →
    (l : Line) → line_in n (view_of s front).table.lines ≡ Some l → IfLine P (line_in n (after (view_of s front) item).table.lines) →
    (standing_in (front ++ item ∷ []) n ≡ Fresh → ⊥) × IfLine P (line_in n (view_of s (front ++ item ∷ [])).table.lines)
marked_used s n P front item tail new h l e p =
    let v = view_of s front in
    let k = knows_in s n front (fewer_new front (item ∷ tail) new) (before (start s) front (item ∷ tail) h) in (
      λ x. used_line front n v.table.lines l k.told.stand e (fresh_before n (standing_in front n) item (sym (standing-more front item n) ∙ x)),
      subst (λ (w : View). IfLine P (line_in n w.table.lines)) (sym (fold-append after (start s) front (item ∷ []))) p,
    )

-- the items, with the first one and those after it apart
apart : (front : List Item) (item : Item) (between : List Item) (next : Item) (more : List Item) → (front ++ item ∷ []) ++ (between ++ next ∷ more) ≡ front ++ item ∷ (between ++ next ∷ more)
apart front item between next more = append_assoc front (item ∷ []) (between ++ next ∷ more)

-- the item after them may come there
next_allowed : (s : Setting) (front : List Item) (item : Item) (between : List Item) (next : Item) (more : List Item) → IsHistory s (front ++ item ∷ (between ++ next ∷ more)) →
    is_allowed (view_of s ((front ++ item ∷ []) ++ between)) next ≡ true
next_allowed s front item between next more h =
    items_are_allowed s ((front ++ item ∷ []) ++ between) more next
    (subst (IsHistory s) (sym (append_assoc (front ++ item ∷ []) between (next ∷ more) ∙ apart front item between next more)) h)

pub reads_are_listed : ReadsAreListed
reads_are_listed s front between more n next new h r =
    let v = view_of s front in
    let item = ReadNotYet n in
    let tail = between ++ next ∷ more in
    let found = reads_line v (line_of v.table n) (items_are_allowed s front tail item h) in
    let marked = if_own (λ l. Unit {0}) IsQuiet n quieted v.table.lines (λ l e. refl) (λ l e x. refl) (any_line (line_in n v.table.lines)) in
    let u = marked_used s n IsQuiet front item tail new h found.0 found.1 marked in
    let same = sym (apart front item between next more) in
    elim (marks_between IsQuiet quiet_keeps n s (front ++ item ∷ []) between (next ∷ more) (subst SocketsAreNew same new) (subst (IsHistory s) same h) (λ w bytes a p. quiet_gives n w bytes p) u) [
      | inl x ↦ x
      | inr x ↦ absurd (no_read n (view_of s ((front ++ item ∷ []) ++ between)) next r (next_allowed s front item between next more h) x.1)
    ]

pub writes_are_listed : WritesAreListed
writes_are_listed s front between more n next new h r =
    let v = view_of s front in
    let item = WriteNotYet n in
    let tail = between ++ next ∷ more in
    let found = writes_line v (line_of v.table n) (items_are_allowed s front tail item h) in
    let marked = if_own (λ l. Unit {0}) IsBlocked n blocked v.table.lines (λ l e. refl) (λ l e x. refl) (any_line (line_in n v.table.lines)) in
    let u = marked_used s n IsBlocked front item tail new h found.0 found.1 marked in
    let same = sym (apart front item between next more) in
    elim (marks_between IsBlocked blocked_keeps n s (front ++ item ∷ []) between (next ∷ more) (subst SocketsAreNew same new) (subst (IsHistory s) same h)
    (λ w bytes a p. absurd (no_write n w (Gave n bytes) refl a p)) u) [
      | inl x ↦ x
      | inr x ↦ absurd (no_write n (view_of s ((front ++ item ∷ []) ++ between)) next r (next_allowed s front item between next more h) x.1)
    ]
