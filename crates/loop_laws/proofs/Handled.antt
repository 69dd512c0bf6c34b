-- Handled: the entries kept after a piece of bytes handle the frames of turns that it brought,
-- one after the other.
use Rattle.std.proofs.Common.{◌≡◌, ℕ, Bool, true, false, refl, sym, ap, subst, ◌∙◌, List, [], ◌∷◌, ◌++◌, append_assoc, append-nil, length}
use Rattle.std.specs.Prelude.{Option, Some, None, ◌==◌, ◌&&◌, ◌||◌, not, drop, if◌then◌else◌}
use Rattle.std.proofs.lemmas.Bool.{and_parts, eq-eqb, false≢true}
use Rattle.std.proofs.lemmas.List.Sums.{fold-append}
use Rattle.definitions.specs.declared.frames.TurnFrame.{TurnFrame}
use Rattle.definitions.specs.declared.logs.Entry.{Entry}
use Rattle.definitions.specs.declared.logs.Entry.TheVariants.{Chose, Made, Got}
use Rattle.definitions.specs.Lists.{EachIs, is_empty}
use Rattle.definitions.specs.Logs.{entry_eq}
use Rattle.wire_frames.specs.declared.frames.Frame.{Frame}
use Rattle.wire_frames.specs.declared.frames.Frame.TheVariants.{Hello}
use Rattle.wire_frames.specs.Reading.{Reading}
use Rattle.wire_frames.specs.Streams.{given_of}
use Rattle.session_log.specs.Spelling.{log_bytes}
use Rattle.socket_station.specs.Items.{Item, ListenCall, LogCall, DialCall, PollCall, ReadCall, WriteCall, KeepCall, SyncCall, Listening, LogBegun, Dialled, Polled, Took, Gave, ReadNotYet, WriteNotYet, Ended, Failed, Shut, Kept, Synced}
use Rattle.socket_lines.specs.declared.line.Line.{Line}
use Rattle.socket_lines.specs.Giving.{Desk, Speaker}
use Rattle.peer_rules.specs.declared.arrivals.Arrival.{Arrival}
use Rattle.peer_rules.specs.declared.phases.Phase.{Phase}
use Rattle.peer_rules.specs.declared.phases.Phase.TheVariants.{Fresh, Logged, Running, KeepFault, PollFault}
use Rattle.loop_rules.specs.Settings.{Setting, speaker_of}
use Rattle.loop_rules.specs.Tables.{Table, line_of, desk_of, room_on}
use Rattle.loop_rules.specs.Views.{View, start, safe_frames}
use Rattle.loop_rules.specs.Hearing.{took_on, took_with}
use Rattle.loop_rules.specs.Handling.{hearer_of, sorted, sorted_out}
use Rattle.loop_rules.specs.Keeping.{may_keep_in, may_keep_as, waiting_behind, with_entry, kept_entry}
use Rattle.peer_rules.specs.Entries.{entry_in, is_first}
use Rattle.loop_rules.specs.After.{after, view_after, view_of, with_table, gave_by, gave_with, own_at}
use Rattle.loop_rules.specs.Licence.{is_licensed}
use Rattle.peer_rules.specs.Phases.{is_running, is_fresh}
use Rattle.loop_rules.specs.Rules.{is_allowed, may_read_line}
use Rattle.loop_rules.specs.Histories.{IsHistory, are_allowed}
use Rattle.loop_rules.proofs.Prefixes.{before, behind}
use Rattle.peer_rules.proofs.Entries.{same_entry}
use Rattle.loop_rules.proofs.Kept.{keeps_sorted, keeps_took, kept_bytes_are_the_log}
use Rattle.loop_laws.specs.Sockets.{SocketsAreNew, came_on}
use Rattle.loop_laws.specs.Handling.{GoesOn, Handles, from_new, turns_of}
use Rattle.loop_laws.specs.Laws.{FramesAreHandled}
use Rattle.loop_laws.proofs.Bytes.{facts_in, facts_came}
use Rattle.loop_laws.proofs.Finds.{IfLine}
use Rattle.loop_laws.proofs.Given.{Knows, knows_in}
use Rattle.loop_laws.proofs.Speakers.{Facts, no_facts, NameSo, Told}
use Rattle.loop_laws.proofs.Steps.{facts_after, with_taken}
use Rattle.loop_laws.proofs.Waiting.{IsUsed, arrivals, brings_taken, sorted_is}

-- the loop listens, or a call of it failed
abbrev Later : Phase → Type 0
Later Fresh = ⊥
Later Logged = ⊥
Later Running = Unit {0}
Later KeepFault = Unit {0}
Later PollFault = Unit {0}

-- of the player's frames the new ones wait
record Waits (s : Setting) (q : ℕ) (v : View) (frames : List TurnFrame) : Type 0 where
  setting : v.setting ≡ s
  phase : Later v.phase
  waiting : v.table.waiting ≡ arrivals q (from_new s.game s.me q v.kept frames)

-- the same log, and the same frames that wait
waits_same : (s : Setting) (q : ℕ) (v w : View) (frames : List TurnFrame) → w.setting ≡ v.setting → Later w.phase → w.kept ≡ v.kept → w.table.waiting ≡ v.table.waiting → Waits s q v frames → Waits s q w frames
waits_same s q v w frames a b c d k = record {
  setting = a ∙ k.setting;
  phase = b;
  waiting = d ∙ k.waiting ∙ ap (λ (x : List Entry). arrivals q (from_new s.game s.me q x frames)) (sym c);
}

gave_waiting : (k : Speaker) (safe : List TurnFrame) (count : ℕ) (t : Table) (o : Option Line) → (gave_by k safe count t o).waiting ≡ t.waiting
gave_waiting k safe count t None = refl
gave_waiting k safe count t (Some l) = go (desk_of t l)
  where
    go : (d : Option Desk) → (gave_with k (own_at safe l) count t d).waiting ≡ t.waiting
    go None = refl
    go (Some d) = refl

-- ---- an entry is kept

none_waits : (q : ℕ) (fs : List TurnFrame) → is_empty (arrivals q fs) ≡ true → fs ≡ []
none_waits q [] e = refl
none_waits q (f ∷ fs) e = absurd (false≢true e)

sorted_waits : (s : Setting) (q : ℕ) (w : View) (frames : List TurnFrame) → w.setting ≡ s → Later w.phase → w.table.waiting ≡ arrivals q frames → Waits s q (sorted_out w) frames
sorted_waits s q w frames a b c =
    let k = keeps_sorted w.table.waiting w in
    record {
      setting = k.setting ∙ a;
      phase = subst Later (sym k.phase) b;
      waiting = ap (λ (x : List Arrival). (sorted x w).table.waiting) c ∙ sorted_is q frames w ∙
          ap (λ (z : Setting). arrivals q (from_new z.game z.me q w.kept frames)) a ∙
          ap (λ (x : List Entry). arrivals q (from_new s.game s.me q x frames)) (sym k.kept);
    }

-- the first of the frames that wait is this one
first_is : (p q : ℕ) (f : TurnFrame) (waiting : List Arrival) (fs : List TurnFrame) → waiting ≡ arrivals q fs → is_first waiting p f ≡ true →
    (rest : List TurnFrame) × (p ≡ q) × (fs ≡ f ∷ rest) × (drop 1 waiting ≡ arrivals q rest)
first_is p q f waiting [] e h = absurd (false≢true (ap (λ (x : List Arrival). is_first x p f) (sym e) ∙ h))
first_is p q f waiting (g ∷ fs) e h =
    let h2 : entry_eq (Got q g) (Got p f) ≡ true = ap (λ (x : List Arrival). is_first x p f) (sym e) ∙ h in
    let same : Got q g ≡ Got p f = same_entry (Got q g) (Got p f) h2 in
    let player : p ≡ q = sym (let x : q ≡ p = cc in x) in
    let frame : g ≡ f = cc in
    (fs, player, ap (λ (x : TurnFrame). x ∷ fs) frame, ap (λ (x : List Arrival). drop 1 x) e)

-- what is handled from here on
abbrev Rest : Setting → (q : ℕ) → View → List TurnFrame → List Item → Type 0
Rest s q v frames items = (added : List Entry) × ((view_after v items).kept ≡ v.kept ++ added) × Handles s.game s.me q v.kept frames added

rest_same : (s : Setting) (q : ℕ) (v w : View) (frames : List TurnFrame) (items : List Item) → w.kept ≡ v.kept → Rest s q w frames items →
    (added : List Entry) × ((view_after w items).kept ≡ v.kept ++ added) × Handles s.game s.me q v.kept frames added
rest_same s q v w frames items e r =
    (r.0, r.1 ∙ ap (λ (x : List Entry). x ++ r.0) e, subst (λ (x : List Entry). Handles s.game s.me q x frames r.0) e r.2)

-- the frames of the rest, after an entry
abbrev Next : Setting → (q : ℕ) → View → List TurnFrame → Entry → Type 0
Next s q v frames e = (left : List TurnFrame) × Waits s q (kept_entry v (Some e)) left × ((added : List Entry) → Handles s.game s.me q (v.kept ++ e ∷ []) left added → Handles s.game s.me q v.kept frames (e ∷ added))

next_own : (s : Setting) (q : ℕ) (v : View) (frames : List TurnFrame) (e : Entry) → waiting_behind e v.table.waiting ≡ v.table.waiting → Waits s q v frames → Waits s q (kept_entry v (Some e)) (from_new s.game s.me q v.kept frames)
next_own s q v frames e same k = sorted_waits s q (with_entry e v) (from_new s.game s.me q v.kept frames) k.setting k.phase (same ∙ k.waiting)

next_got : (s : Setting) (q : ℕ) (v : View) (frames : List TurnFrame) (p : ℕ) (f : TurnFrame) (phase : Phase) → v.phase ≡ phase → may_keep_in phase v (Got p f) ≡ true → Waits s q v frames → Next s q v frames (Got p f)
next_got s q v frames p f Fresh e h k = absurd (false≢true h)
next_got s q v frames p f Logged e h k = absurd (subst Later e k.phase)
next_got s q v frames p f Running e h k =
    let first = (and_parts _ _ (and_parts _ _ h).1).1 in
    let x = first_is p q f v.table.waiting (from_new s.game s.me q v.kept frames) k.waiting first in
    (x.0, sorted_waits s q (with_entry (Got p f) v) x.0 k.setting k.phase x.3, λ added r. (x.0, x.1, x.2, r))
next_got s q v frames p f KeepFault e h k = absurd (false≢true h)
next_got s q v frames p f PollFault e h k = absurd (false≢true h)

next_entry : (s : Setting) (q : ℕ) (v : View) (frames : List TurnFrame) (e : Entry) → may_keep_in v.phase v e ≡ true → Waits s q v frames → Next s q v frames e
next_entry s q v frames (Chose t m n) h k = (from_new s.game s.me q v.kept frames, next_own s q v frames (Chose t m n) refl k, λ added r. r)
next_entry s q v frames (Made f) h k = (from_new s.game s.me q v.kept frames, next_own s q v frames (Made f) refl k, λ added r. r)
next_entry s q v frames (Got p f) h k = next_got s q v frames p f v.phase refl h k

-- ---- the items between

-- any item but one with which the loop goes on leaves the log and the frames that wait, or keeps
-- an entry
abbrev Passes : Setting → (q : ℕ) → View → List TurnFrame → Item → Type 0
Passes s q v frames item = Waits s q (after v item) frames × ((after v item).kept ≡ v.kept)

passes : (s : Setting) (q : ℕ) (v : View) (frames : List TurnFrame) (item : Item) → (w : View) → w ≡ after v item → Later w.phase → w.setting ≡ v.setting → w.kept ≡ v.kept → w.table.waiting ≡ v.table.waiting → Waits s q v frames → Passes s q v frames item
passes s q v frames item w e a b c d k = subst (λ (x : View). Waits s q x frames × (x.kept ≡ v.kept)) e (waits_same s q v w frames b a c d k, c)

not_fresh : (p : Phase) → Later p → is_fresh p ≡ true → ⊥
not_fresh Fresh l h = l
not_fresh Logged l h = l
not_fresh Running l h = false≢true h
not_fresh KeepFault l h = false≢true h
not_fresh PollFault l h = false≢true h

module _ (s : Setting) (q : ℕ) where
  -- the frames that are left after an entry that is kept
  rest_kept : (v : View) (frames : List TurnFrame) (bytes : List ℕ) (o : Option Entry) (items : List Item) → may_keep_as v bytes o ≡ true → Waits s q v frames →
      ((w : View) (left : List TurnFrame) → w ≡ kept_entry v o → Waits s q w left → Rest s q w left items) → (added : List Entry) × ((view_after (kept_entry v o) items).kept ≡ v.kept ++ added) × Handles s.game s.me q v.kept frames added
  rest_kept v frames bytes None items h k more = absurd (false≢true h)
  rest_kept v frames bytes (Some e) items h k more =
      let n = next_entry s q v frames e (and_parts _ _ h).1 k in
      let w = kept_entry v (Some e) in
      let same = (keeps_sorted (with_entry e v).table.waiting (with_entry e v)).kept in
      let r = rest_same s q (with_entry e v) w n.0 items same (more w n.0 refl n.1) in
      (e ∷ r.0, r.1 ∙ append_assoc v.kept (e ∷ []) r.0, n.2 r.0 r.2)

  rest_passed : (v : View) (frames : List TurnFrame) (item : Item) (items : List Item) → Passes s q v frames item → (Waits s q (after v item) frames → Rest s q (after v item) frames items) → Rest s q v frames (item ∷ items)
  rest_passed v frames item items p more = rest_same s q v (after v item) frames items p.1 (more p.0)

  -- an item between, and those after it
  rest_item : (v : View) (frames : List TurnFrame) (item : Item) (items : List Item) → is_allowed v item ≡ true → (GoesOn item → ⊥) → Waits s q v frames →
      ((w : View) (left : List TurnFrame) → w ≡ after v item → Waits s q w left → Rest s q w left items) → Rest s q v frames (item ∷ items)
  rest_item v frames (Took m bytes) items h n k more = absurd (n tt)
  rest_item v frames (Polled list) items h n k more = absurd (n tt)
  rest_item v frames (Failed PollCall) items h n k more = absurd (n tt)
  rest_item v frames (Kept bytes) items h n k more = rest_kept v frames bytes (entry_in v.writer bytes) items h k more
  rest_item v frames (LogBegun name) items h n k more = absurd (not_fresh v.phase k.phase h)
  rest_item v frames (Listening addr) items h n k more =
      let item = Listening addr in
      rest_passed v frames item items (waits_same s q v (after v item) frames refl tt refl refl k, refl) (more (after v item) frames refl)
  rest_item v frames (Dialled m p addr) items h n k more =
      let item = Dialled m p addr in
      rest_passed v frames item items (waits_same s q v (after v item) frames refl k.phase refl refl k, refl) (more (after v item) frames refl)
  rest_item v frames (Gave m bytes) items h n k more =
      let item = Gave m bytes in
      rest_passed v frames item items
      (waits_same s q v (after v item) frames refl k.phase refl (gave_waiting (speaker_of v.setting) (safe_frames v) (length bytes) v.table (line_of v.table m)) k, refl)
      (more (after v item) frames refl)
  rest_item v frames (ReadNotYet m) items h n k more =
      let item = ReadNotYet m in
      rest_passed v frames item items (waits_same s q v (after v item) frames refl k.phase refl refl k, refl) (more (after v item) frames refl)
  rest_item v frames (WriteNotYet m) items h n k more =
      let item = WriteNotYet m in
      rest_passed v frames item items (waits_same s q v (after v item) frames refl k.phase refl refl k, refl) (more (after v item) frames refl)
  rest_item v frames (Ended m) items h n k more =
      let item = Ended m in
      rest_passed v frames item items (waits_same s q v (after v item) frames refl k.phase refl refl k, refl) (more (after v item) frames refl)
  rest_item v frames (Shut m) items h n k more =
      let item = Shut m in
      rest_passed v frames item items (waits_same s q v (after v item) frames refl k.phase refl refl k, refl) (more (after v item) frames refl)
  rest_item v frames Synced items h n k more =
      rest_passed v frames Synced items (waits_same s q v (after v Synced) frames refl k.phase refl refl k, refl) (more (after v Synced) frames refl)
  rest_item v frames (Failed (ListenCall addr)) items h n k more =
      let item = Failed (ListenCall addr) in
      rest_passed v frames item items (waits_same s q v (after v item) frames refl tt refl refl k, refl) (more (after v item) frames refl)
  rest_item v frames (Failed (LogCall name)) items h n k more =
      let item = Failed (LogCall name) in
      rest_passed v frames item items (waits_same s q v (after v item) frames refl tt refl refl k, refl) (more (after v item) frames refl)
  rest_item v frames (Failed (DialCall p addr)) items h n k more =
      let item = Failed (DialCall p addr) in
      rest_passed v frames item items (waits_same s q v (after v item) frames refl k.phase refl refl k, refl) (more (after v item) frames refl)
  rest_item v frames (Failed (ReadCall m)) items h n k more =
      let item = Failed (ReadCall m) in
      rest_passed v frames item items (waits_same s q v (after v item) frames refl k.phase refl refl k, refl) (more (after v item) frames refl)
  rest_item v frames (Failed (WriteCall m)) items h n k more =
      let item = Failed (WriteCall m) in
      rest_passed v frames item items (waits_same s q v (after v item) frames refl k.phase refl refl k, refl) (more (after v item) frames refl)
  rest_item v frames (Failed (KeepCall bytes)) items h n k more =
      let item = Failed (KeepCall bytes) in
      rest_passed v frames item items (waits_same s q v (after v item) frames refl tt refl refl k, refl) (more (after v item) frames refl)
  rest_item v frames (Failed SyncCall) items h n k more =
      let item = Failed SyncCall in
      rest_passed v frames item items (waits_same s q v (after v item) frames refl tt refl refl k, refl) (more (after v item) frames refl)

  -- where the loop goes on, no frame waits
  poll_empty : (v : View) → is_licensed v ≡ true → is_empty v.table.waiting ≡ true
  poll_empty v h = (and_parts _ _ (and_parts _ _ (and_parts _ _ (and_parts _ _ (and_parts _ _ h).0).0).0).1).0

  empty_then : (v : View) (item : Item) → is_allowed v item ≡ true → GoesOn item → is_empty v.table.waiting ≡ true
  empty_then v (Took m bytes) h g = (and_parts _ _ (and_parts _ _ h).0).1
  empty_then v (Polled list) h g = poll_empty v h
  empty_then v (Failed PollCall) h g = poll_empty v h
  empty_then v (Kept bytes) h g = absurd g
  empty_then v (LogBegun name) h g = absurd g
  empty_then v (Listening addr) h g = absurd g
  empty_then v (Dialled m p addr) h g = absurd g
  empty_then v (Gave m bytes) h g = absurd g
  empty_then v (ReadNotYet m) h g = absurd g
  empty_then v (WriteNotYet m) h g = absurd g
  empty_then v (Ended m) h g = absurd g
  empty_then v (Shut m) h g = absurd g
  empty_then v Synced h g = absurd g
  empty_then v (Failed (ListenCall addr)) h g = absurd g
  empty_then v (Failed (LogCall name)) h g = absurd g
  empty_then v (Failed (DialCall p addr)) h g = absurd g
  empty_then v (Failed (ReadCall m)) h g = absurd g
  empty_then v (Failed (WriteCall m)) h g = absurd g
  empty_then v (Failed (KeepCall bytes)) h g = absurd g
  empty_then v (Failed SyncCall) h g = absurd g

  rest_all : (v : View) (frames : List TurnFrame) (between more : List Item) (last : Item) → are_allowed v (between ++ last ∷ more) ≡ true → EachIs (λ item. GoesOn item → ⊥) between → GoesOn last →
      Waits s q v frames → Rest s q v frames between
  rest_all v frames [] more last h each g k =
      ([], sym (append-nil v.kept), none_waits q (from_new s.game s.me q v.kept frames) (ap (λ (x : List Arrival). is_empty x) (sym k.waiting) ∙ empty_then v last (and_parts _ _ h).0 g))
  rest_all v frames (item ∷ between) more last h each g k =
      let p = and_parts _ _ h in
      rest_item v frames item between p.0 each.0 k
      (λ w left e waits. rest_all w left between more last (subst (λ (x : View). are_allowed x (between ++ last ∷ more) ≡ true) (sym e) p.1) each.1 g waits)

-- ---- a piece of bytes on a named socket

empty_is : {X : Type 0} (xs : List X) → is_empty xs ≡ true → xs ≡ []
empty_is [] e = refl
empty_is (x ∷ xs) e = absurd (false≢true e)

running_later : (p : Phase) → is_running p ≡ true → Later p
running_later Fresh e = absurd (false≢true e)
running_later Logged e = absurd (false≢true e)
running_later Running e = tt
running_later KeepFault e = absurd (false≢true e)
running_later PollFault e = absurd (false≢true e)

pub right_line : (is_open is_wrong is_full : Bool) → is_open ≡ true → not (is_open && (is_wrong || is_full)) ≡ true → is_wrong ≡ false
right_line true true full o e = absurd (false≢true e)
right_line true false full o e = refl
right_line false wrong full o e = absurd (false≢true o)

-- a line that may be read is not wrong
record Readable (v : View) (o : Option Line) : Type 0 where
  line : Line
  there : o ≡ Some line
  right : line.is_wrong ≡ false
  phase : is_running v.phase ≡ true

readable : (v : View) (o : Option Line) → may_read_line v o ≡ true → Readable v o
readable v None h = absurd (false≢true h)
readable v (Some l) h =
    let p = and_parts _ _ h in
    let w = and_parts _ _ (and_parts _ _ p.1).0 in
    record { line = l; there = refl; right = right_line l.is_open l.is_wrong (room_on v.table l == 0) w.0 w.1; phase = (and_parts _ _ p.0).0 }

-- a line that is not wrong, and on which a HELLO came, is named by that one
name_is : (s : Setting) (came : List Frame) (o : Option ℕ) (id : List ℕ) (q : ℕ) (pass : List ℕ) (next : ℕ) (rest : List Frame) → came ≡ Hello id q pass next ∷ rest → NameSo s came o → (o ≡ None → came ≡ []) → o ≡ Some q
name_is s came None id q pass next rest e n k = absurd (let x : [] ≡ Hello id q pass next ∷ rest = sym (k refl) ∙ e in cc)
name_is s came (Some p) id q pass next rest e n k =
    let both : Hello s.game.id p n.0 n.1 ∷ n.2 ≡ Hello id q pass next ∷ rest = sym n.4 ∙ e in
    let same : p ≡ q = cc in
    ap (λ (x : ℕ). Some x) same

-- the bytes of the socket, in front of what follows
module _ (s : Setting) (front : List Item) (n q : ℕ) (bytes : List ℕ) (id pass : List ℕ) (next : ℕ) (more : List Frame) (first : came_on n front ≡ Hello id q pass next ∷ more) (k : Knows s n front)
    (h : is_allowed (view_of s front) (Took n bytes) ≡ true) where
  abbrev v : View
  v = view_of s front

  abbrev facts : Facts
  facts = facts_in n front

  abbrev item : Item
  item = Took n bytes

  abbrev found : Readable v (line_of v.table n)
  found = readable v (line_of v.table n) (and_parts _ _ (and_parts _ _ h).0).0

  abbrev news : List Frame
  news = (given_of facts.reader bytes).frames

  told : Told s (safe_frames v) facts found.line
  told = subst (IfLine (Told s (safe_frames v) facts)) found.there k.at.line

  used : IsUsed q (Some found.line)
  used = (name_is s facts.came found.line.name id q pass next more (facts_came n front ∙ first) told.named (λ e. told.unnamed e found.right), found.right)

  brought : (took_on (hearer_of v) n bytes v.table).waiting ≡ arrivals q (turns_of q news)
  brought =
      ap (λ (o : Option Line). (took_with (hearer_of v) v.table n bytes o).waiting) found.there ∙ brings_taken q n (hearer_of v) v.table bytes found.line found.there used ∙
      ap (λ (x : List Arrival). x ++ arrivals q (turns_of q (given_of found.line.reader bytes).frames)) (empty_is v.table.waiting (and_parts _ _ (and_parts _ _ h).0).1) ∙
      ap (λ (r : Reading). arrivals q (turns_of q (given_of r bytes).frames)) told.reads

  taken_waits : Waits s q (after v item) (turns_of q news)
  taken_waits = sorted_waits s q (with_table (took_on (hearer_of v) n bytes v.table) v) (turns_of q news) k.at.setting (running_later v.phase found.phase) brought

  came_then : came_on n (front ++ item ∷ []) ≡ came_on n front ++ news
  came_then =
      sym (facts_came n (front ++ item ∷ [])) ∙ ap (λ (x : Facts). x.came) (fold-append (facts_after n) no_facts front (item ∷ [])) ∙
      ap (λ (b : Bool). (if b then with_taken facts bytes else facts).came) (eq-eqb n n refl) ∙ ap (λ (x : List Frame). x ++ news) (facts_came n front)

-- the sockets of fewer items are new
pub fewer_new : (items more : List Item) → SocketsAreNew (items ++ more) → SocketsAreNew items
fewer_new items more new front rest item e = new front (rest ++ more) item (ap (λ (x : List Item). x ++ more) e ∙ append_assoc front (item ∷ rest) more)

pub frames_are_handled : FramesAreHandled
frames_are_handled s front between more n q bytes last id pass next rest new h first each goes =
    let item = Took n bytes in
    let tail = between ++ last ∷ more in
    let v = view_of s front in
    let history : IsHistory s front = before (start s) front (item ∷ tail) h in
    let k = knows_in s n front (fewer_new front (item ∷ tail) new) history in
    let p = and_parts _ _ (behind (start s) front (item ∷ tail) h) in
    let frames = (given_of (facts_in n front).reader bytes).frames in
    let waits = taken_waits s front n q bytes id pass next rest first k p.0 in
    let r = rest_same s q v (after v item) (turns_of q frames) between (keeps_took v n bytes).kept (rest_all s q (after v item) (turns_of q frames) between more last p.1 each goes waits) in
    let whole : (front ++ item ∷ between) ++ last ∷ more ≡ front ++ item ∷ tail = append_assoc front (item ∷ between) (last ∷ more) in
    let long : IsHistory s (front ++ item ∷ between) = before (start s) (front ++ item ∷ between) (last ∷ more) (subst (IsHistory s) (sym whole) h) in
    let view : view_of s (front ++ item ∷ between) ≡ view_after (after v item) between = fold-append after (start s) front (item ∷ between) in
    record {
      frames = frames;
      log = v.kept;
      added = r.0;
      came = came_then s front n q bytes id pass next rest first k p.0;
      kept = kept_bytes_are_the_log s front history;
      kept_then = kept_bytes_are_the_log s (front ++ item ∷ between) long ∙ ap (λ (x : View). log_bytes s.game.id s.me x.kept) view ∙ ap (log_bytes s.game.id s.me) r.1;
      handles = r.2;
    }
