-- Paid: each kind of item comes only so often.
use Rattle.std.proofs.Common.{◌≡◌, ◌⊎◌, inl, inr, ℕ, ◌<◌, Bool, true, false, refl, sym, ap, subst, ◌∙◌, List, [], ◌∷◌, ◌++◌, append_assoc, length, ltb-true, lt_irrefl}
use Rattle.std.specs.Prelude.{Option, Some, None, ◌==◌, if◌then◌else◌}
use Rattle.std.proofs.lemmas.Bool.{and_parts, eqb-true, eq-eqb, false≢true}
use Rattle.std.proofs.lemmas.List.Sums.{fold-append}
use Rattle.definitions.specs.Lists.{EachIs}
use Rattle.definitions.specs.declared.logs.Entry.{Entry}
use Rattle.socket_station.specs.declared.answers.Standing.{Standing}
use Rattle.socket_station.specs.declared.answers.Standing.TheVariants.{Open, Closed}
use Rattle.socket_station.specs.Items.{Item, ListenCall, LogCall, DialCall, PollCall, ReadCall, WriteCall, KeepCall, SyncCall, Listening, LogBegun, Dialled, Polled, Took, Gave, ReadNotYet, WriteNotYet, Ended, Failed, Shut, Kept, Synced}
use Rattle.socket_station.specs.Standings.{standing_after, standing_in}
use Rattle.socket_station.proofs.Histories.{closed-stays, standing-more}
use Rattle.socket_lines.specs.declared.line.Line.{Line}
use Rattle.loop_rules.specs.Settings.{Setting}
use Rattle.loop_rules.specs.Tables.{line_of}
use Rattle.loop_rules.specs.Views.{View, start}
use Rattle.loop_rules.specs.After.{after, view_of}
use Rattle.loop_rules.specs.Rules.{are_due, is_allowed, is_within, may_read_line, may_shut_line, may_write_line}
use Rattle.loop_rules.specs.Histories.{IsHistory}
use Rattle.loop_rules.specs.Told.{LineStands}
use Rattle.loop_rules.proofs.Kept.{keeps_took}
use Rattle.loop_rules.proofs.Prefixes.{before, items_are_allowed}
use Rattle.loop_laws.specs.Sockets.{SocketsAreNew}
use Rattle.loop_laws.specs.Listing.{IsRead, IsWrite, SomeIs}
use Rattle.loop_laws.specs.Paying.{Closes, IsKept, Touches}
use Rattle.loop_laws.specs.Laws.{TakesHaveBytes, GivesHaveBytes, SyncsHaveEntries, ClosingsAreLast}
use Rattle.loop_laws.proofs.Finds.{line_in}
use Rattle.loop_laws.proofs.Given.{knows_in}
use Rattle.loop_laws.proofs.Handled.{fewer_new}

-- ---- bytes

within_some : (v : View) (bytes : List ℕ) (o : Option Line) → is_within v.table (length bytes) o ≡ true → 0 < length bytes
within_some v bytes None h = absurd (false≢true h)
within_some v bytes (Some l) h = ltb-true 0 (length bytes) (and_parts _ _ h).0

due_some : (v : View) (bytes : List ℕ) (o : Option Line) → are_due v bytes o ≡ true → 0 < length bytes
due_some v bytes None h = absurd (false≢true h)
due_some v bytes (Some l) h = ltb-true 0 (length bytes) (and_parts _ _ h).0

pub takes_have_bytes : TakesHaveBytes
takes_have_bytes s front more n bytes h =
    let v = view_of s front in
    within_some v bytes (line_of v.table n) (and_parts _ _ (items_are_allowed s front more (Took n bytes) h)).1

pub gives_have_bytes : GivesHaveBytes
gives_have_bytes s front more n bytes h =
    let v = view_of s front in
    due_some v bytes (line_of v.table n) (and_parts _ _ (items_are_allowed s front more (Gave n bytes) h)).1

-- ---- syncs

-- the last sync found all entries
abbrev IsSynced : View → Type 0
IsSynced v = v.synced ≡ length v.kept

-- so it is until an entry is kept
synced_or_kept : (v : View) (item : Item) → IsSynced v → IsKept item ⊎ IsSynced (after v item)
synced_or_kept v (Kept bytes) e = inl tt
synced_or_kept v (Took m bytes) e = let k = keeps_took v m bytes in inr (k.synced ∙ e ∙ ap (λ (x : List Entry). length x) (sym k.kept))
synced_or_kept v Synced e = inr refl
synced_or_kept v (LogBegun name) e = inr e
synced_or_kept v (Listening addr) e = inr e
synced_or_kept v (Dialled m q addr) e = inr e
synced_or_kept v (Polled list) e = inr e
synced_or_kept v (Gave m bytes) e = inr e
synced_or_kept v (ReadNotYet m) e = inr e
synced_or_kept v (WriteNotYet m) e = inr e
synced_or_kept v (Ended m) e = inr e
synced_or_kept v (Shut m) e = inr e
synced_or_kept v (Failed (ListenCall addr)) e = inr e
synced_or_kept v (Failed (LogCall name)) e = inr e
synced_or_kept v (Failed (DialCall q addr)) e = inr e
synced_or_kept v (Failed PollCall) e = inr e
synced_or_kept v (Failed (ReadCall m)) e = inr e
synced_or_kept v (Failed (WriteCall m)) e = inr e
synced_or_kept v (Failed (KeepCall bytes)) e = inr e
synced_or_kept v (Failed SyncCall) e = inr e

behind_one : (s : Setting) (front : List Item) (item : Item) → view_of s (front ++ item ∷ []) ≡ after (view_of s front) item
behind_one s front item = fold-append after (start s) front (item ∷ [])

kept_more : (s : Setting) (front : List Item) (item : Item) (between : List Item) → IsKept item ⊎ IsSynced (view_of s (front ++ item ∷ [])) →
    (IsSynced (view_of s (front ++ item ∷ [])) → SomeIs IsKept between) → SomeIs IsKept (item ∷ between)
kept_more s front item between (inl x) more = (item, inl refl, x)
kept_more s front item between (inr x) more = let y = more x in (y.0, inr y.1, y.2)

kept_between : (s : Setting) (front between more : List Item) → IsHistory s (front ++ (between ++ Synced ∷ more)) → IsSynced (view_of s front) → SomeIs IsKept between
kept_between s front [] more h e =
    let v = view_of s front in
    let less : v.synced < length v.kept = ltb-true v.synced (length v.kept) (and_parts _ _ (items_are_allowed s front more Synced h)).1 in
    absurd (lt_irrefl (length v.kept) (subst (λ (x : ℕ). x < length v.kept) e less))
kept_between s front (item ∷ between) more h e =
    let one : IsKept item ⊎ IsSynced (view_of s (front ++ item ∷ [])) =
    subst (λ (w : View). IsKept item ⊎ IsSynced w) (sym (behind_one s front item)) (synced_or_kept (view_of s front) item e) in
    kept_more s front item between one
    (λ x. kept_between s (front ++ item ∷ []) between more (subst (IsHistory s) (sym (append_assoc front (item ∷ []) (between ++ Synced ∷ more))) h) x)

pub syncs_have_entries : SyncsHaveEntries
syncs_have_entries s front between more h =
    kept_between s (front ++ Synced ∷ []) between more (subst (IsHistory s) (sym (append_assoc front (Synced ∷ []) (between ++ Synced ∷ more))) h)
    (subst (λ (w : View). IsSynced w) (sym (behind_one s front Synced)) refl)

-- ---- sockets that ended

closes_now : (n : ℕ) (old : Standing) (item : Item) → Closes n item → standing_after n old item ≡ Closed
closes_now n old (Ended m) e = ap (λ (b : Bool). if b then Closed else old) (eq-eqb m n e)
closes_now n old (Shut m) e = ap (λ (b : Bool). if b then Closed else old) (eq-eqb m n e)
closes_now n old (Failed (ReadCall m)) e = ap (λ (b : Bool). if b then Closed else old) (eq-eqb m n e)
closes_now n old (Failed (WriteCall m)) e = ap (λ (b : Bool). if b then Closed else old) (eq-eqb m n e)
closes_now n old (LogBegun name) e = absurd e
closes_now n old (Listening addr) e = absurd e
closes_now n old (Dialled m q addr) e = absurd e
closes_now n old (Polled list) e = absurd e
closes_now n old (Took m bytes) e = absurd e
closes_now n old (Gave m bytes) e = absurd e
closes_now n old (ReadNotYet m) e = absurd e
closes_now n old (WriteNotYet m) e = absurd e
closes_now n old (Kept bytes) e = absurd e
closes_now n old Synced e = absurd e
closes_now n old (Failed (ListenCall addr)) e = absurd e
closes_now n old (Failed (LogCall name)) e = absurd e
closes_now n old (Failed (DialCall q addr)) e = absurd e
closes_now n old (Failed PollCall) e = absurd e
closes_now n old (Failed (KeepCall bytes)) e = absurd e
closes_now n old (Failed SyncCall) e = absurd e

-- a line that is there and open
abbrev IsOpenLine : Option Line → Type 0
IsOpenLine None = ⊥
IsOpenLine (Some l) = l.is_open ≡ true

read_open : (v : View) (o : Option Line) → may_read_line v o ≡ true → IsOpenLine o
read_open v None h = absurd (false≢true h)
read_open v (Some l) h = (and_parts _ _ (and_parts _ _ (and_parts _ _ h).1).0).0

write_open : (v : View) (o : Option Line) → may_write_line v o ≡ true → IsOpenLine o
write_open v None h = absurd (false≢true h)
write_open v (Some l) h = (and_parts _ _ (and_parts _ _ (and_parts _ _ (and_parts _ _ h).0).0).0).1

shut_open : (v : View) (o : Option Line) → may_shut_line v o ≡ true → IsOpenLine o
shut_open v None h = absurd (false≢true h)
shut_open v (Some l) h = (and_parts _ _ (and_parts _ _ h).1).0

reads_open : (n : ℕ) (v : View) (item : Item) → IsRead n item → is_allowed v item ≡ true → IsOpenLine (line_of v.table n)
reads_open n v (Took m bytes) r h = subst (λ (x : ℕ). IsOpenLine (line_of v.table x)) r (read_open v (line_of v.table m) (and_parts _ _ (and_parts _ _ h).0).0)
reads_open n v (ReadNotYet m) r h = subst (λ (x : ℕ). IsOpenLine (line_of v.table x)) r (read_open v (line_of v.table m) h)
reads_open n v (Ended m) r h = subst (λ (x : ℕ). IsOpenLine (line_of v.table x)) r (read_open v (line_of v.table m) h)
reads_open n v (Failed (ReadCall m)) r h = subst (λ (x : ℕ). IsOpenLine (line_of v.table x)) r (read_open v (line_of v.table m) h)
reads_open n v (LogBegun name) r h = absurd r
reads_open n v (Listening addr) r h = absurd r
reads_open n v (Dialled m q addr) r h = absurd r
reads_open n v (Polled list) r h = absurd r
reads_open n v (Gave m bytes) r h = absurd r
reads_open n v (WriteNotYet m) r h = absurd r
reads_open n v (Shut m) r h = absurd r
reads_open n v (Kept bytes) r h = absurd r
reads_open n v Synced r h = absurd r
reads_open n v (Failed (ListenCall addr)) r h = absurd r
reads_open n v (Failed (LogCall name)) r h = absurd r
reads_open n v (Failed (DialCall q addr)) r h = absurd r
reads_open n v (Failed PollCall) r h = absurd r
reads_open n v (Failed (WriteCall m)) r h = absurd r
reads_open n v (Failed (KeepCall bytes)) r h = absurd r
reads_open n v (Failed SyncCall) r h = absurd r

writes_open : (n : ℕ) (v : View) (item : Item) → IsWrite n item → is_allowed v item ≡ true → IsOpenLine (line_of v.table n)
writes_open n v (Gave m bytes) r h = subst (λ (x : ℕ). IsOpenLine (line_of v.table x)) r (write_open v (line_of v.table m) (and_parts _ _ h).0)
writes_open n v (WriteNotYet m) r h = subst (λ (x : ℕ). IsOpenLine (line_of v.table x)) r (write_open v (line_of v.table m) h)
writes_open n v (Failed (WriteCall m)) r h = subst (λ (x : ℕ). IsOpenLine (line_of v.table x)) r (write_open v (line_of v.table m) h)
writes_open n v (Took m bytes) r h = absurd r
writes_open n v (ReadNotYet m) r h = absurd r
writes_open n v (Ended m) r h = absurd r
writes_open n v (LogBegun name) r h = absurd r
writes_open n v (Listening addr) r h = absurd r
writes_open n v (Dialled m q addr) r h = absurd r
writes_open n v (Polled list) r h = absurd r
writes_open n v (Shut m) r h = absurd r
writes_open n v (Kept bytes) r h = absurd r
writes_open n v Synced r h = absurd r
writes_open n v (Failed (ListenCall addr)) r h = absurd r
writes_open n v (Failed (LogCall name)) r h = absurd r
writes_open n v (Failed (DialCall q addr)) r h = absurd r
writes_open n v (Failed PollCall) r h = absurd r
writes_open n v (Failed (ReadCall m)) r h = absurd r
writes_open n v (Failed (KeepCall bytes)) r h = absurd r
writes_open n v (Failed SyncCall) r h = absurd r

touches_open : (n : ℕ) (v : View) (item : Item) → Touches n item → is_allowed v item ≡ true → IsOpenLine (line_of v.table n)
touches_open n v item (inl r) h = reads_open n v item r h
touches_open n v item (inr (inl r)) h = writes_open n v item r h
touches_open n v item (inr (inr e)) h = shut_open v (line_of v.table n) (subst (λ (x : Item). is_allowed v x ≡ true) e h)

-- an open line's socket is open
open_stands : (items : List Item) (n : ℕ) (ls : List Line) → EachIs (LineStands items) ls → IsOpenLine (line_in n ls) → standing_in items n ≡ Open
open_stands items n [] each o = absurd o
open_stands items n (l ∷ ls) each o = go (l.socket == n) refl o (open_stands items n ls each.1)
  where
    go : (b : Bool) → (l.socket == n) ≡ b → IsOpenLine (if b then Some l else line_in n ls) → (IsOpenLine (line_in n ls) → standing_in items n ≡ Open) → standing_in items n ≡ Open
    go true e x more = ap (standing_in items) (sym (eqb-true l.socket n e)) ∙ each.0.opened x
    go false e x more = more x

open_closed : (x : Standing) → x ≡ Open → x ≡ Closed → ⊥
open_closed x a b = let y : Open ≡ Closed = sym a ∙ b in cc

closed_between : (s : Setting) (n : ℕ) (front between more : List Item) (next : Item) → SocketsAreNew (front ++ (between ++ next ∷ more)) → IsHistory s (front ++ (between ++ next ∷ more)) → Touches n next →
    standing_in front n ≡ Closed → ⊥
closed_between s n front [] more next new h t c =
    let v = view_of s front in
    let k = knows_in s n front (fewer_new front (next ∷ more) new) (before (start s) front (next ∷ more) h) in
    open_closed (standing_in front n) (open_stands front n v.table.lines k.told.stand (touches_open n v next t (items_are_allowed s front more next h))) c
closed_between s n front (item ∷ between) more next new h t c =
    let same = append_assoc front (item ∷ []) (between ++ next ∷ more) in
    closed_between s n (front ++ item ∷ []) between more next (subst SocketsAreNew (sym same) new) (subst (IsHistory s) (sym same) h) t
    (closed-stays front item n c (new front (between ++ next ∷ more) item refl))

pub closings_are_last : ClosingsAreLast
closings_are_last s front between more n item next new h c t =
    let same = append_assoc front (item ∷ []) (between ++ next ∷ more) in
    closed_between s n (front ++ item ∷ []) between more next (subst SocketsAreNew (sym same) new) (subst (IsHistory s) (sym same) h) t
    (standing-more front item n ∙ closes_now n (standing_in front n) item c)
