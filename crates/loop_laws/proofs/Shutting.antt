-- Shutting: why a socket is shut.
use Rattle.std.proofs.Common.{◌≡◌, ◌⊎◌, inl, inr, ℕ, ◌+◌, ◌-◌, ◌<◌, ◌≤◌, Bool, true, false, refl, sym, ap, subst, ◌∙◌, List, [], ◌∷◌, ◌++◌, append_assoc, append-nil, arith, length}
use Rattle.std.specs.Prelude.{Option, Some, None, ◌==◌, ◌&&◌, ◌||◌, not, nat_lt, find, if◌then◌else◌}
use Rattle.std.specs.List.{fold}
use Rattle.std.specs.Str.{bytes_eq}
use Rattle.std.proofs.lemmas.Bool.{and_parts, eqb-true, eqb-false, eq-eqb, false≢true, ltb-false}
use Rattle.std.proofs.lemmas.List.Sums.{fold-append}
use Rattle.std.proofs.lemmas.Slice.Eq.{bytes_eq-Decides}
use Rattle.definitions.specs.declared.frames.TurnFrame.{TurnFrame}
use Rattle.definitions.specs.declared.logs.Entry.{Entry}
use Rattle.definitions.specs.Logs.{player_of}
use Rattle.definition_laws.specs.Members.{Has}
use Rattle.wire_frames.specs.declared.frames.Frame.{Frame}
use Rattle.wire_frames.specs.declared.frames.Frame.TheVariants.{Hello, Turn, Want}
use Rattle.wire_frames.specs.Reading.{Reading}
use Rattle.wire_frames.specs.Streams.{Given, BadAt, Rest, end_of, given_of, stream_of}
use Rattle.socket_station.specs.declared.answers.Ready.{Ready}
use Rattle.socket_station.specs.declared.answers.Ready.TheVariants.{Opened, Socket as Seems}
use Rattle.socket_station.specs.Items.{Item, ListenCall, LogCall, DialCall, PollCall, ReadCall, WriteCall, KeepCall, SyncCall, Listening, LogBegun, Dialled, Polled, Took, Gave, ReadNotYet, WriteNotYet, Ended, Failed, Shut, Kept, Synced}
use Rattle.socket_station.specs.Moved.{taken_in}
use Rattle.socket_station.specs.Standings.{opens}
use Rattle.socket_lines.specs.declared.limits.TheConstants.{HELLO_BYTES, MOST_ACCEPTED}
use Rattle.socket_lines.specs.declared.line.Line.{Line}
use Rattle.socket_lines.specs.declared.seat.Seat.{Seat}
use Rattle.socket_lines.specs.Lines as N
use Rattle.socket_lines.specs.Lines.{blocked, closed, doomed, is_named, is_player, is_wanted_name, lets_name, moved_to, named_line, quieted, woken, accepted_line}
use Rattle.socket_lines.specs.Seats.{may_want, obeys}
use Rattle.socket_lines.specs.Giving.{Desk, Speaker}
use Rattle.loop_rules.specs.Settings.{Setting, speaker_of}
use Rattle.loop_rules.specs.Tables.{Table, line_of, seat_of, at_line, at_seat, desk_with, in_lines, room_on, room_by_seat, room_by, seat_by}
use Rattle.loop_rules.specs.Views.{View, start, safe_frames}
use Rattle.loop_rules.specs.Hearing.{Hearer, arrived, counted, counted_on, heard, heard_all, heard_by, heard_first, heard_named, heard_on, lets_seat_name, named, names, obeyed, ousted, read_at, read_on, took_on, took_with, with_name_free}
use Rattle.loop_rules.specs.Handling.{hearer_of, sorted}
use Rattle.loop_rules.specs.Keeping.{with_entry, kept_entry}
use Rattle.peer_rules.specs.Entries.{entry_in}
use Rattle.loop_rules.specs.After.{after, gave_by, gave_on, gave_with, listed, own_at, rested, view_of, with_table}
use Rattle.loop_rules.specs.Rules.{is_allowed, may_read_line, may_shut_line}
use Rattle.loop_rules.specs.Histories.{IsHistory}
use Rattle.loop_rules.specs.Told.{Differ}
use Rattle.loop_rules.proofs.Prefixes.{before, items_are_allowed}
use Rattle.loop_rules.proofs.Alike.{keeps_gave}
use Rattle.loop_laws.specs.Sockets.{SocketsAreNew, came_on, dialled_for}
use Rattle.loop_laws.specs.Causes.{Greets, HasBadByte, HasCause, HasWrongFrame, IsCause, IsReadUp, IsRefused, MayNotCome, accepted_in, opened_by, opened_in}
use Rattle.loop_laws.specs.Laws.{ShutsHaveCauses}
use Rattle.loop_laws.proofs.Bytes.{facts_came, facts_dialled, facts_ends, facts_in}
use Rattle.loop_laws.proofs.Finds.{line_in, line_is, IfLine, if_either, if_mapped, if_more, if_open, if_other, if_own, ousted_keeps}
use Rattle.loop_laws.proofs.Giving.{other_gave}
use Rattle.loop_laws.proofs.Speakers.{DialledSo, Facts, NameSo, Told, no_facts}
use Rattle.loop_laws.proofs.Steps.{counted_lines, facts_after, flip, line_sorted, read_keeps, sorted_table, with_taken}
use Rattle.loop_laws.proofs.Strangers.{Counts, short_in}
use Rattle.loop_laws.proofs.Given.{Knows, knows_in}
use Rattle.loop_laws.proofs.Handled.{fewer_new, right_line}

any_line : (o : Option Line) → IfLine (λ l. Unit {0}) o
any_line None = tt
any_line (Some l) = tt

moved_keeps : (k : ℕ) (l : Line) → ((moved_to k l).socket ≡ l.socket) × ((moved_to k l).is_wrong ≡ l.is_wrong) × ((moved_to k l).name ≡ l.name) × ((moved_to k l).dialled ≡ l.dialled)
moved_keeps k l = go l.sending
  where
    go : (o : Option ℕ) → ((moved_to k (record l { sending = o })).socket ≡ l.socket) × ((moved_to k (record l { sending = o })).is_wrong ≡ l.is_wrong) × ((moved_to k (record l { sending = o })).name ≡ l.name) ×
        ((moved_to k (record l { sending = o })).dialled ≡ l.dialled)
    go None = (refl, refl, refl, refl)
    go (Some p) = (refl, refl, refl, refl)

reads_same : (count : ℕ) (g : Given) (l : Line) → ((read_on count g l).is_wrong ≡ l.is_wrong) × ((read_on count g l).name ≡ l.name) × ((read_on count g l).dialled ≡ l.dialled)
reads_same count g l = go l.name
  where
    go : (o : Option ℕ) → ((record (counted_on o count l) { reader = g.reader }).is_wrong ≡ l.is_wrong) × ((record (counted_on o count l) { reader = g.reader }).name ≡ l.name) × ((record (counted_on o count l) { reader = g.reader }).dialled ≡ l.dialled)
    go None = (refl, refl, refl)
    go (Some q) = (refl, refl, refl)

-- no frame changes how many sockets were accepted
acc_if : (a : ℕ) (b : Bool) (t u : Table) → t.accepted ≡ a → u.accepted ≡ a → (if b then t else u).accepted ≡ a
acc_if a true t u x y = x
acc_if a false t u x y = y

module _ (h : Hearer) (m a : ℕ) where
  acc_obeyed : (t : Table) (q place : ℕ) (o : Option Seat) → t.accepted ≡ a → (obeyed t m q place o).accepted ≡ a
  acc_obeyed t q place None e = e
  acc_obeyed t q place (Some c) e = acc_if a (may_want c) (at_seat q obeys (at_line m (moved_to place) t)) t e e

  acc_by : (t : Table) (l : Line) (o : Option ℕ) (f : Frame) → t.accepted ≡ a → (heard_by h t m l o f).accepted ≡ a
  acc_by t l None (Hello id q pass from) e = acc_if a (names h t l id q pass) (named h t m l q from) (at_line m doomed t) e e
  acc_by t l None (Turn f) e = e
  acc_by t l None (Want place) e = e
  acc_by t l (Some q) (Hello id p pass from) e = e
  acc_by t l (Some q) (Turn f) e = acc_if a (player_of f == q) (arrived t q f) (at_line m doomed t) e e
  acc_by t l (Some q) (Want place) e = acc_obeyed t q place (seat_of t q) e

  acc_on : (t : Table) (f : Frame) (o : Option Line) → t.accepted ≡ a → (heard_on h t m f o).accepted ≡ a
  acc_on t f None e = e
  acc_on t f (Some l) e = acc_if a l.is_wrong t (heard_by h t m l l.name f) e (acc_by t l l.name f e)

  acc_each : (t : Table) (fs : List Frame) → t.accepted ≡ a → (fold (heard h m) t fs).accepted ≡ a
  acc_each t [] e = e
  acc_each t (f ∷ fs) e = acc_each (heard h m t f) fs (acc_on t f (line_of t m) e)

  acc_all : (g : Given) (t : Table) → t.accepted ≡ a → (heard_all h m g t).accepted ≡ a
  acc_all g t e =
      let u = fold (heard h m) t g.frames in
      let w = acc_each t g.frames e in
      acc_if a g.reader.bad (at_line m doomed u) u w w

acc_counted : (o : Option ℕ) (count : ℕ) (t : Table) → (counted o count t).accepted ≡ t.accepted
acc_counted None count t = refl
acc_counted (Some q) count t = refl

acc_took : (v : View) (m : ℕ) (bytes : List ℕ) (o : Option Line) → (took_with (hearer_of v) v.table m bytes o).accepted ≡ v.table.accepted
acc_took v m bytes None = refl
acc_took v m bytes (Some l) =
    let g = given_of l.reader bytes in
    acc_all (hearer_of v) m v.table.accepted g (read_at m (length bytes) g l v.table) (acc_counted l.name (length bytes) (at_line m (read_on (length bytes) g) v.table))

acc_sorted : (v : View) → (sorted v.table.waiting v).table.accepted ≡ v.table.accepted
acc_sorted v = sorted_table (λ t. t.accepted ≡ v.table.accepted) (λ t waiting e. e) (λ t q place e. e) v.table.waiting v refl

acc_kept : (v : View) (o : Option Entry) → (kept_entry v o).table.accepted ≡ v.table.accepted
acc_kept v None = refl
acc_kept v (Some e) = acc_sorted (with_entry e v)

acc_desk : (k : Speaker) (own : Option TurnFrame) (count : ℕ) (t : Table) (l : Line) (o : Option Seat) → (gave_with k own count t (desk_with l o)).accepted ≡ t.accepted
acc_desk k own count t l None = refl
acc_desk k own count t l (Some c) = refl

acc_gave : (k : Speaker) (safe : List TurnFrame) (count : ℕ) (t : Table) (o : Option Line) → (gave_by k safe count t o).accepted ≡ t.accepted
acc_gave k safe count t None = refl
acc_gave k safe count t (Some l) = acc_desk k (own_at safe l) count t l (seat_by t (N.player_of l))

acc_listed : (t : Table) (list : List Ready) → (fold listed t list).accepted ≤ t.accepted + opened_in list
acc_listed t [] = omega arith
acc_listed t (Opened m ∷ list) = (let more = acc_listed (listed t (Opened m)) list in omega (arith, more))
acc_listed t (Seems m ∷ list) = acc_listed (listed t (Seems m)) list

same_le : (a b c : ℕ) → b ≡ a → c ≡ 0 → b ≤ a + c
same_le a b c e z = omega (arith, e, z)

acc_after : (v : View) (item : Item) → (after v item).table.accepted ≤ v.table.accepted + opened_by item
acc_after v (Polled list) = acc_listed (rested v.table) list
acc_after v (Took m bytes) = same_le _ _ 0 (acc_sorted (with_table (took_on (hearer_of v) m bytes v.table) v) ∙ acc_took v m bytes (line_of v.table m)) refl
acc_after v (Gave m bytes) = same_le _ _ 0 (acc_gave (speaker_of v.setting) (safe_frames v) (length bytes) v.table (line_of v.table m)) refl
acc_after v (Kept bytes) = same_le _ _ 0 (acc_kept v (entry_in v.writer bytes)) refl
acc_after v (LogBegun name) = omega arith
acc_after v (Listening addr) = omega arith
acc_after v (Dialled m r addr) = omega arith
acc_after v (ReadNotYet m) = omega arith
acc_after v (WriteNotYet m) = omega arith
acc_after v (Ended m) = omega arith
acc_after v (Shut m) = omega arith
acc_after v Synced = omega arith
acc_after v (Failed (ListenCall addr)) = omega arith
acc_after v (Failed (LogCall name)) = omega arith
acc_after v (Failed (DialCall r addr)) = omega arith
acc_after v (Failed PollCall) = omega arith
acc_after v (Failed (ReadCall m)) = omega arith
acc_after v (Failed (WriteCall m)) = omega arith
acc_after v (Failed (KeepCall bytes)) = omega arith
acc_after v (Failed SyncCall) = omega arith

accepted_more : (items : List Item) (item : Item) → accepted_in (items ++ item ∷ []) ≡ accepted_in items + opened_by item
accepted_more [] item = omega arith
accepted_more (x ∷ items) item = (let more = accepted_more items item in omega (arith, more))

acc_items : (s : Setting) (front items : List Item) → (view_of s front).table.accepted ≤ accepted_in front → (view_of s (front ++ items)).table.accepted ≤ accepted_in (front ++ items)
acc_items s front [] le = subst (λ (x : List Item). (view_of s x).table.accepted ≤ accepted_in x) (sym (append-nil front)) le
acc_items s front (item ∷ items) le =
    let one = ap (λ (v : View). v.table.accepted) (fold-append after (start s) front (item ∷ [])) in
    let up = acc_after (view_of s front) item in
    let more = accepted_more front item in
    subst (λ (x : List Item). (view_of s x).table.accepted ≤ accepted_in x) (append_assoc front (item ∷ []) items)
    (acc_items s (front ++ item ∷ []) items (omega (arith, one, up, more, le)))

acc_in : (s : Setting) (items : List Item) → (view_of s items).table.accepted ≤ accepted_in items
acc_in s items = acc_items s [] items (omega arith)

-- ---- the frames of one piece

-- it is wrong only for the cause
abbrev Just : (C : Type 0) → Line → Type 0
Just C l = l.is_wrong ≡ true → C

greets_more : (came more : List Frame) (q : ℕ) → Greets came q → Greets (came ++ more) q
greets_more came more q w = (w.0, w.1, w.2, w.3 ++ more, ap (λ (fs : List Frame). fs ++ more) w.4)

module _ (s : Setting) (h : Hearer) (n : ℕ) (same_id : h.id ≡ s.game.id) (seats : List Seat) (dialled : List ℕ) (final : List Frame) (C : Type 0) where
  abbrev seat : ℕ → Option Seat
  seat q = find (λ c. c.link.player == q) seats

  abbrev Why : Type 0
  Why = (front : List Frame) (f : Frame) (back : List Frame) → final ≡ front ++ f ∷ back → MayNotCome s seat dialled front f → C

  abbrev Line_so : List Frame → Table → Line → Type 0
  Line_so came t l = Just C l × (l.name ≡ None → l.is_wrong ≡ false → (came ≡ []) × (t.seats ≡ seats)) × ((q : ℕ) → l.name ≡ Some q → Greets came q) × DialledSo dialled l.dialled

  abbrev Out : List Frame → Table → Type 0
  Out came t = IfLine (Line_so came t) (line_in n t.lines)

  out_if : (came : List Frame) (b : Bool) (t u : Table) → (b ≡ true → Out came t) → (b ≡ false → Out came u) → Out came (if b then t else u)
  out_if came true t u x y = x refl
  out_if came false t u x y = y refl

  -- the line is doomed for the cause
  doomed_so : (came : List Frame) (f : Frame) (t : Table) (l : Line) → C → Line_so came t l → Line_so (came ++ f ∷ []) (at_line n doomed t) (doomed l)
  doomed_so came f t l c w = (λ e. c, λ e r. absurd (false≢true (sym r)), λ q e. greets_more came (f ∷ []) q (w.2 q e), w.3)

  doomed_out : (came : List Frame) (f : Frame) (t : Table) → C → Out came t → Out (came ++ f ∷ []) (at_line n doomed t)
  doomed_out came f t c w = if_own (Line_so came t) (Line_so (came ++ f ∷ []) (at_line n doomed t)) n doomed t.lines (λ l e. refl) (λ l e x. doomed_so came f t l c x) w

  nothing_came : (came : List Frame) (f : Frame) → came ≡ [] → MayNotCome s seat dialled [] f → MayNotCome s seat dialled came f
  nothing_came came f e w = subst (λ (fs : List Frame). MayNotCome s seat dialled fs f) (sym e) w

  not_wanted : (q : ℕ) (o : Option ℕ) → DialledSo dialled o → is_wanted_name o q ≡ false → (p : ℕ) × Has dialled p × (p ≡ q → ⊥)
  not_wanted q None d e = absurd (false≢true (sym e))
  not_wanted q (Some p) d e = (p, d, eqb-false p q e)

  refused : (t : Table) (l : Line) (id : List ℕ) (q : ℕ) (pass : List ℕ) → t.seats ≡ seats → DialledSo dialled l.dialled → names h t l id q pass ≡ false → IsRefused s (seat q) dialled id q pass
  refused t l id q pass same d e = go (bytes_eq id h.id) refl (lets_seat_name (seat_of t q) pass) refl (lets_name q l) refl e
    where
      go : (a : Bool) → bytes_eq id h.id ≡ a → (b : Bool) → lets_seat_name (seat_of t q) pass ≡ b → (c : Bool) → lets_name q l ≡ c → (a && b && c) ≡ false → IsRefused s (seat q) dialled id q pass
      go false x b y c z r = inl (λ i. false≢true (sym x ∙ (bytes_eq-Decides id h.id).1 (i ∙ sym same_id)))
      go true x false y c z r = inr (inl (ap (λ (cs : List Seat). lets_seat_name (find (λ k. k.link.player == q) cs) pass) (sym same) ∙ y))
      go true x true y false z r = inr (inr (not_wanted q l.dialled d z))
      go true x true y true z r = absurd (false≢true (sym r))

  unnamed_free : (p : ℕ) (l : Line) → l.name ≡ None → (if is_named p l then doomed l else l) ≡ l
  unnamed_free p l e = go (is_named p l) (ap (λ (o : Option ℕ). l.is_open && is_player o p) e ∙ no_and l.is_open)
    where
      no_and : (b : Bool) → (b && false) ≡ false
      no_and true = refl
      no_and false = refl

      go : (b : Bool) → b ≡ false → (if b then doomed l else l) ≡ l
      go true x = absurd (false≢true (sym x))
      go false x = refl

  named_out : (came : List Frame) (t : Table) (l : Line) (id : List ℕ) (q : ℕ) (pass : List ℕ) (from : ℕ) → line_in n t.lines ≡ Some l → l.name ≡ None → l.is_wrong ≡ false → came ≡ [] → DialledSo dialled l.dialled →
      Out (came ++ Hello id q pass from ∷ []) (named h t n l q from)
  named_out came t l id q pass from e none right first d =
      if_own (λ x. x ≡ l) (Line_so (came ++ Hello id q pass from ∷ []) (named h t n l q from)) n (named_line q from (h.next q)) (with_name_free q t).lines (λ x w. refl)
      (λ x w r. subst (λ (z : Line). Line_so (came ++ Hello id q pass from ∷ []) (named h t n l q from) (named_line q from (h.next q) z)) (sym r) so)
      (if_mapped (λ x. x ≡ l) (λ x. x ≡ l) n (ousted q) t.lines (ousted_keeps q) (λ x w r. subst (λ (z : Line). (if is_named q z then doomed z else z) ≡ l) (sym r) (unnamed_free q l none)) (subst (IfLine (λ x. x ≡ l)) (sym e) refl))
    where
      so : Line_so (came ++ Hello id q pass from ∷ []) (named h t n l q from) (named_line q from (h.next q) l)
      so = (
        λ w. absurd (false≢true (sym right ∙ w)),
        λ w r. absurd (let x : Some q ≡ None = w in cc),
        λ p w. (let x : Some q ≡ Some p = w in let y : q ≡ p = cc in
            (id, pass, from, [], ap (λ (fs : List Frame). fs ++ Hello id q pass from ∷ []) first ∙ ap (λ (z : ℕ). Hello id z pass from ∷ []) y)),
        d,
      )

  first_out : Why → (came : List Frame) (t : Table) (l : Line) (f : Frame) (fs : List Frame) → final ≡ came ++ f ∷ fs → line_in n t.lines ≡ Some l → l.name ≡ None → l.is_wrong ≡ false → Line_so came t l → Out came t → Out (came ++ f ∷ []) (heard_first h t n l f)
  first_out why came t l (Hello id q pass from) fs i e none right w all =
      let start_of = w.1 none right in
      out_if (came ++ Hello id q pass from ∷ []) (names h t l id q pass) (named h t n l q from) (at_line n doomed t)
      (λ y. named_out came t l id q pass from e none right start_of.0 w.3)
      (λ y. doomed_out came (Hello id q pass from) t (why came (Hello id q pass from) fs i (nothing_came came (Hello id q pass from) start_of.0 (refused t l id q pass start_of.1 w.3 y))) all)
  first_out why came t l (Turn g) fs i e none right w all = doomed_out came (Turn g) t (why came (Turn g) fs i (nothing_came came (Turn g) (w.1 none right).0 tt)) all
  first_out why came t l (Want k) fs i e none right w all = doomed_out came (Want k) t (why came (Want k) fs i (nothing_came came (Want k) (w.1 none right).0 tt)) all

  -- a named line stays so
  kept_so : (came : List Frame) (f : Frame) (t u : Table) (l k : Line) (q : ℕ) → l.name ≡ Some q → k.is_wrong ≡ l.is_wrong → k.name ≡ l.name → k.dialled ≡ l.dialled → Line_so came t l → Line_so (came ++ f ∷ []) u k
  kept_so came f t u l k q name wrong same by w = (
    λ e. w.0 (sym wrong ∙ e),
    λ e r. absurd (let x : Some q ≡ None = sym name ∙ sym same ∙ e in cc),
    λ p e. greets_more came (f ∷ []) p (w.2 p (sym same ∙ e)),
    subst (DialledSo dialled) (sym by) w.3,
  )

  still_out : (came : List Frame) (f : Frame) (t u : Table) (l : Line) (q : ℕ) → line_in n t.lines ≡ Some l → u.lines ≡ t.lines → l.name ≡ Some q → Line_so came t l → Out (came ++ f ∷ []) u
  still_out came f t u l q e same name w =
      subst (λ (ls : List Line). IfLine (Line_so (came ++ f ∷ []) u) (line_in n ls)) (sym same)
      (subst (IfLine (Line_so (came ++ f ∷ []) u)) (sym e) (kept_so came f t u l l q name refl refl refl w))

  obeyed_out : (came : List Frame) (f : Frame) (t u : Table) (l : Line) (q place : ℕ) (o : Option Seat) → line_in n t.lines ≡ Some l → u.lines ≡ (obeyed t n q place o).lines → l.name ≡ Some q → Line_so came t l → Out (came ++ f ∷ []) u
  obeyed_out came f t u l q place None e same name w = still_out came f t u l q e same name w
  obeyed_out came f t u l q place (Some c) e same name w = go (may_want c) same
    where
      go : (b : Bool) → u.lines ≡ (if b then at_seat q obeys (at_line n (moved_to place) t) else t).lines → Out (came ++ f ∷ []) u
      go true x =
          subst (λ (ls : List Line). IfLine (Line_so (came ++ f ∷ []) u) (line_in n ls)) (sym x)
          (if_own (λ y. y ≡ l) (Line_so (came ++ f ∷ []) u) n (moved_to place) t.lines (λ y z. (moved_keeps place y).0)
          (λ y z r. subst (λ (k : Line). Line_so (came ++ f ∷ []) u (moved_to place k)) (sym r) (kept_so came f t u l (moved_to place l) q name (moved_keeps place l).1 (moved_keeps place l).2 (moved_keeps place l).3 w))
          (subst (IfLine (λ y. y ≡ l)) (sym e) refl))
      go false x = still_out came f t u l q e x name w

  further : (came : List Frame) (q : ℕ) (f : Frame) → Greets came q → ((id pass : List ℕ) (next : ℕ) (more : List Frame) → MayNotCome s seat dialled (Hello id q pass next ∷ more) f) → MayNotCome s seat dialled came f
  further came q f g k = subst (λ (fs : List Frame). MayNotCome s seat dialled fs f) (sym g.4) (k g.0 g.1 g.2 g.3)

  named_on : Why → (came : List Frame) (t : Table) (l : Line) (q : ℕ) (f : Frame) (fs : List Frame) → final ≡ came ++ f ∷ fs → line_in n t.lines ≡ Some l → l.name ≡ Some q → Line_so came t l → Out came t → Out (came ++ f ∷ []) (heard_named t n q f)
  named_on why came t l q (Hello id p pass from) fs i e name w all =
      doomed_out came (Hello id p pass from) t (why came (Hello id p pass from) fs i (further came q (Hello id p pass from) (w.2 q name) (λ a b c d. tt))) all
  named_on why came t l q (Turn g) fs i e name w all =
      out_if (came ++ Turn g ∷ []) (player_of g == q) (arrived t q g) (at_line n doomed t) (λ y. still_out came (Turn g) t (arrived t q g) l q e refl name w)
      (λ y. doomed_out came (Turn g) t (why came (Turn g) fs i (further came q (Turn g) (w.2 q name) (λ a b c d. eqb-false (player_of g) q y))) all)
  named_on why came t l q (Want k) fs i e name w all = obeyed_out came (Want k) t (heard_named t n q (Want k)) l q k (seat_of t q) e refl name w

  by_out : Why → (came : List Frame) (t : Table) (l : Line) (o : Option ℕ) (f : Frame) (fs : List Frame) → final ≡ came ++ f ∷ fs → line_in n t.lines ≡ Some l → l.name ≡ o → l.is_wrong ≡ false → Line_so came t l → Out came t → Out (came ++ f ∷ []) (heard_by h t n l o f)
  by_out why came t l None f fs i e name right w all = first_out why came t l f fs i e name right w all
  by_out why came t l (Some q) f fs i e name right w all = named_on why came t l q f fs i e name w all

  wrong_so : (came : List Frame) (f : Frame) (t : Table) (l : Line) → l.is_wrong ≡ true → Line_so came t l → Line_so (came ++ f ∷ []) t l
  wrong_so came f t l e w = (w.0, λ x r. absurd (false≢true (sym r ∙ e)), λ q x. greets_more came (f ∷ []) q (w.2 q x), w.3)

  on_out : Why → (came : List Frame) (t : Table) (f : Frame) (fs : List Frame) (o : Option Line) → final ≡ came ++ f ∷ fs → line_in n t.lines ≡ o → Out came t → Out (came ++ f ∷ []) (heard_on h t n f o)
  on_out why came t f fs None i e all = subst (IfLine (Line_so (came ++ f ∷ []) t)) (sym e) tt
  on_out why came t f fs (Some l) i e all = go l.is_wrong refl
    where
      w : Line_so came t l
      w = subst (IfLine (Line_so came t)) e all

      go : (b : Bool) → l.is_wrong ≡ b → Out (came ++ f ∷ []) (if b then t else heard_by h t n l l.name f)
      go true r = subst (IfLine (Line_so (came ++ f ∷ []) t)) (sym e) (wrong_so came f t l r w)
      go false r = by_out why came t l l.name f fs i e refl r w all

  each_out : Why → (came : List Frame) (t : Table) (fs : List Frame) → final ≡ came ++ fs → Out came t → IfLine (Just C) (line_in n (fold (heard h n) t fs).lines)
  each_out why came t [] i all = if_just (line_in n t.lines) all
    where
      if_just : (o : Option Line) → IfLine (Line_so came t) o → IfLine (Just C) o
      if_just None x = tt
      if_just (Some l) x = x.0
  each_out why came t (f ∷ fs) i all =
      each_out why (came ++ f ∷ []) (heard h n t f) fs (i ∙ sym (append_assoc came (f ∷ []) fs)) (on_out why came t f fs (line_of t n) i refl all)

-- ---- the frames of a piece that comes on another socket

module _ (h : Hearer) (n m : ℕ) (other : (n == m) ≡ false) (mine final : List Frame) (C : Type 0) where
  -- another socket is named as its player
  abbrev Named_so : Type 0
  Named_so = (q : ℕ) → Greets final q → Greets mine q → C

  abbrev Mine : Line → Type 0
  Mine l = Just C l × ((q : ℕ) → l.name ≡ Some q → Greets mine q)

  abbrev Theirs : List Frame → Line → Type 0
  Theirs came l = l.name ≡ None → l.is_wrong ≡ false → came ≡ []

  abbrev Both : List Frame → Table → Type 0
  Both came t = IfLine Mine (line_in n t.lines) × IfLine (Theirs came) (line_in m t.lines)

  mine_other : (change : Line → Line) (t : Table) → ((l : Line) → (change l).socket ≡ l.socket) → IfLine Mine (line_in n t.lines) → IfLine Mine (line_in n (in_lines m change t.lines))
  mine_other change t k x = if_other Mine n m change t.lines other (λ l e. k l) x

  both_if : (came : List Frame) (b : Bool) (t u : Table) → (b ≡ true → Both came t) → (b ≡ false → Both came u) → Both came (if b then t else u)
  both_if came true t u x y = x refl
  both_if came false t u x y = y refl

  both_doomed : (came all : List Frame) (t : Table) → Both came t → Both all (at_line m doomed t)
  both_doomed came all t w =
      (mine_other doomed t (λ l. refl) w.0, if_own (λ l. Unit {0}) (Theirs all) m doomed t.lines (λ l e. refl) (λ l e x y r. absurd (false≢true (sym r))) (any_line (line_in m t.lines)))

  is_named_so : (q : ℕ) (l : Line) → is_named q l ≡ true → l.name ≡ Some q
  is_named_so q l e = go l.name (and_parts l.is_open (is_player l.name q) e).1
    where
      go : (o : Option ℕ) → is_player o q ≡ true → o ≡ Some q
      go None x = absurd (false≢true x)
      go (Some p) x = ap (λ (z : ℕ). Some z) (eqb-true p q x)

  mine_free : Named_so → (q : ℕ) (t : Table) → Greets final q → IfLine Mine (line_in n t.lines) → IfLine Mine (line_in n (with_name_free q t).lines)
  mine_free why q t g x = if_mapped Mine Mine n (ousted q) t.lines (ousted_keeps q) (λ l e w. go l (is_named q l) refl w) x
    where
      go : (l : Line) (b : Bool) → is_named q l ≡ b → Mine l → Mine (if b then doomed l else l)
      go l true e w = (λ r. why q g (w.1 q (is_named_so q l e)), w.1)
      go l false e w = w

  both_named : Named_so → (came : List Frame) (t : Table) (l : Line) (id : List ℕ) (q : ℕ) (pass : List ℕ) (from : ℕ) (fs : List Frame) → final ≡ came ++ Hello id q pass from ∷ fs → came ≡ [] → Both came t → Both (came ++ Hello id q pass from ∷ []) (named h t m l q from)
  both_named why came t l id q pass from fs i first w =
      let greets : Greets final q = (id, pass, from, fs, i ∙ ap (λ (x : List Frame). x ++ Hello id q pass from ∷ fs) first) in (
        mine_other (named_line q from (h.next q)) (with_name_free q t) (λ x. refl) (mine_free why q t greets w.0),
        if_own (λ x. Unit {0}) (Theirs (came ++ Hello id q pass from ∷ [])) m (named_line q from (h.next q)) (with_name_free q t).lines (λ x e. refl)
            (λ x e y none r. absurd (let z : Some q ≡ None = none in cc)) (any_line (line_in m (with_name_free q t).lines)),
      )

  both_same : (came all : List Frame) (t u : Table) (l : Line) (q : ℕ) → line_in m t.lines ≡ Some l → l.name ≡ Some q → u.lines ≡ t.lines → Both came t → Both all u
  both_same came all t u l q e name same w = (
    subst (λ (ls : List Line). IfLine Mine (line_in n ls)) (sym same) w.0,
    subst (λ (ls : List Line). IfLine (Theirs all) (line_in m ls)) (sym same) (subst (IfLine (Theirs all)) (sym e) (λ none r. absurd (let z : Some q ≡ None = sym name ∙ none in cc))),
  )

  both_obeyed : (came all : List Frame) (t u : Table) (l : Line) (q place : ℕ) (o : Option Seat) → line_in m t.lines ≡ Some l → l.name ≡ Some q → u.lines ≡ (obeyed t m q place o).lines → Both came t → Both all u
  both_obeyed came all t u l q place None e name same w = both_same came all t u l q e name same w
  both_obeyed came all t u l q place (Some c) e name same w = go (may_want c) same
    where
      go : (b : Bool) → u.lines ≡ (if b then at_seat q obeys (at_line m (moved_to place) t) else t).lines → Both all u
      go true x = (
        subst (λ (ls : List Line). IfLine Mine (line_in n ls)) (sym x) (mine_other (moved_to place) t (λ y. (moved_keeps place y).0) w.0),
        subst (λ (ls : List Line). IfLine (Theirs all) (line_in m ls)) (sym x)
            (if_own (λ y. y ≡ l) (Theirs all) m (moved_to place) t.lines (λ y z. (moved_keeps place y).0)
            (λ y z r none w. absurd (let k : Some q ≡ None = sym name ∙ ap (λ (a : Line). a.name) (sym r) ∙ sym (moved_keeps place y).2 ∙ none in cc)) (subst (IfLine (λ y. y ≡ l)) (sym e) refl)),
      )
      go false x = both_same came all t u l q e name x w

  both_by : Named_so → (came : List Frame) (t : Table) (l : Line) (o : Option ℕ) (f : Frame) (fs : List Frame) → final ≡ came ++ f ∷ fs → line_in m t.lines ≡ Some l → l.name ≡ o → l.is_wrong ≡ false → Theirs came l → Both came t → Both (came ++ f ∷ []) (heard_by h t m l o f)
  both_by why came t l None (Hello id q pass from) fs i e name right w all =
      both_if (came ++ Hello id q pass from ∷ []) (names h t l id q pass) (named h t m l q from) (at_line m doomed t) (λ y. both_named why came t l id q pass from fs i (w name right) all) (λ y. both_doomed came (came ++ Hello id q pass from ∷ []) t all)
  both_by why came t l None (Turn g) fs i e name right w all = both_doomed came (came ++ Turn g ∷ []) t all
  both_by why came t l None (Want k) fs i e name right w all = both_doomed came (came ++ Want k ∷ []) t all
  both_by why came t l (Some q) (Hello id p pass from) fs i e name right w all = both_doomed came (came ++ Hello id p pass from ∷ []) t all
  both_by why came t l (Some q) (Turn g) fs i e name right w all =
      both_if (came ++ Turn g ∷ []) (player_of g == q) (arrived t q g) (at_line m doomed t) (λ y. both_same came (came ++ Turn g ∷ []) t (arrived t q g) l q e name refl all) (λ y. both_doomed came (came ++ Turn g ∷ []) t all)
  both_by why came t l (Some q) (Want k) fs i e name right w all = both_obeyed came (came ++ Want k ∷ []) t (heard_named t m q (Want k)) l q k (seat_of t q) e name refl all

  both_on : Named_so → (came : List Frame) (t : Table) (f : Frame) (fs : List Frame) (o : Option Line) → final ≡ came ++ f ∷ fs → line_in m t.lines ≡ o → Both came t → Both (came ++ f ∷ []) (heard_on h t m f o)
  both_on why came t f fs None i e all = (all.0, subst (IfLine (Theirs (came ++ f ∷ []))) (sym e) tt)
  both_on why came t f fs (Some l) i e all = go l.is_wrong refl
    where
      w : Theirs came l
      w = subst (IfLine (Theirs came)) e all.1

      go : (b : Bool) → l.is_wrong ≡ b → Both (came ++ f ∷ []) (if b then t else heard_by h t m l l.name f)
      go true r = (all.0, subst (IfLine (Theirs (came ++ f ∷ []))) (sym e) (λ none x. absurd (false≢true (sym x ∙ r))))
      go false r = both_by why came t l l.name f fs i e refl r w all

  both_each : Named_so → (came : List Frame) (t : Table) (fs : List Frame) → final ≡ came ++ fs → Both came t → IfLine Mine (line_in n (fold (heard h m) t fs).lines)
  both_each why came t [] i all = all.0
  both_each why came t (f ∷ fs) i all = both_each why (came ++ f ∷ []) (heard h m t f) fs (i ∙ sym (append_assoc came (f ∷ []) fs)) (both_on why came t f fs (line_of t m) i refl all)

-- ---- after each item

just_same : (C : Type 0) (l k : Line) → k.is_wrong ≡ l.is_wrong → Just C l → Just C k
just_same C l k e w = λ x. w (sym e ∙ x)

module _ (s : Setting) (front : List Item) (item : Item) (n : ℕ) (knows : (m : ℕ) → Knows s m front) (right_reads : (bytes : List ℕ) → item ≡ Took n bytes → IfLine (λ l. l.is_wrong ≡ false) (line_in n (view_of s front).table.lines)) (old : HasCause s front n → HasCause s (front ++ item ∷ []) n) where
  abbrev v : View
  v = view_of s front

  abbrev all : List Item
  all = front ++ item ∷ []

  abbrev C : Type 0
  C = HasCause s all n

  abbrev facts : ℕ → Facts
  facts m = facts_in m front

  now : IsCause s front item n → C
  now w = (front, item, [], refl, w)

  abbrev Was : Type 0
  Was = IfLine (Just C) (line_in n v.table.lines)

  came_now : (m : ℕ) (bytes : List ℕ) → item ≡ Took m bytes → came_on m all ≡ (facts m).came ++ (given_of (facts m).reader bytes).frames
  came_now m bytes e =
      sym (facts_came m all) ∙ ap (λ (f : Facts). f.came) (fold-append (facts_after m) no_facts front (item ∷ [])) ∙ ap (λ (i : Item). (facts_after m (facts m) i).came) e
      ∙ ap (λ (b : Bool). (if b then with_taken (facts m) bytes else facts m).came) (eq-eqb m m refl)

  reader_now : (m : ℕ) (bytes : List ℕ) → item ≡ Took m bytes → (facts_in m all).reader ≡ (given_of (facts m).reader bytes).reader
  reader_now m bytes e =
      ap (λ (f : Facts). f.reader) (fold-append (facts_after m) no_facts front (item ∷ [])) ∙ ap (λ (i : Item). (facts_after m (facts m) i).reader) e
      ∙ ap (λ (b : Bool). (if b then with_taken (facts m) bytes else facts m).reader) (eq-eqb m m refl)

  cause_is : (m : ℕ) (bytes : List ℕ) → item ≡ Took m bytes → IsCause s front (Took m bytes) n → C
  cause_is m bytes e w = now (subst (λ (i : Item). IsCause s front i n) (sym e) w)

  -- on the socket itself
  own_took : (bytes : List ℕ) (o : Option Line) → item ≡ Took n bytes → line_in n v.table.lines ≡ o → IfLine (Just C) (line_in n (took_with (hearer_of v) v.table n bytes o).lines)
  own_took bytes None is e = subst (IfLine (Just C)) (sym e) tt
  own_took bytes (Some l) is e = go g.reader.bad refl
    where
      g : Given
      g = given_of l.reader bytes

      f : Facts
      f = facts n

      told : Told s (safe_frames v) f l
      told = subst (IfLine (Told s (safe_frames v) f)) e (knows n).at.line

      right : l.is_wrong ≡ false
      right = subst (IfLine (λ x. x.is_wrong ≡ false)) e (right_reads bytes is)

      final : List Frame
      final = f.came ++ g.frames

      came_is : came_on n all ≡ final
      came_is = came_now n bytes is ∙ ap (λ (r : Reading). f.came ++ (given_of r bytes).frames) (sym told.reads)

      t : Table
      t = at_line n (read_on (length bytes) g) v.table

      why : Why s (hearer_of v) n (ap (λ (z : Setting). z.game.id) (knows n).at.setting) v.table.seats (dialled_for n front) final C
      why a x b i w = cause_is n bytes is (inl (refl, inr (subst (λ (z : Item). HasWrongFrame s (seat_of v.table) (dialled_for n front) (came_on n (front ++ z ∷ []))) is (a, x, b, came_is ∙ i, w))))

      greets : (q : ℕ) → l.name ≡ Some q → Greets f.came q
      greets q name = let k : NameSo s f.came (Some q) = subst (NameSo s f.came) name told.named in (s.game.id, k.0, k.1, k.2, k.4)

      first : (o : Option ℕ) → l.name ≡ o → IfLine (Line_so s (hearer_of v) n (ap (λ (z : Setting). z.game.id) (knows n).at.setting) v.table.seats (dialled_for n front) final C f.came (counted o (length bytes) t)) (line_in n t.lines)
      first o name =
          if_own (λ x. x ≡ l) (Line_so s (hearer_of v) n (ap (λ (z : Setting). z.game.id) (knows n).at.setting) v.table.seats (dialled_for n front) final C f.came (counted o (length bytes) t)) n (read_on (length bytes) g) v.table.lines (λ x w. read_keeps (length bytes) g x)
          (λ x w r. subst (λ (z : Line). Line_so s (hearer_of v) n (ap (λ (z : Setting). z.game.id) (knows n).at.setting) v.table.seats (dialled_for n front) final C f.came (counted o (length bytes) t) (read_on (length bytes) g z)) (sym r) (so o name)) (subst (IfLine (λ x. x ≡ l)) (sym e) refl)
        where
          so : (p : Option ℕ) → l.name ≡ p → Line_so s (hearer_of v) n (ap (λ (z : Setting). z.game.id) (knows n).at.setting) v.table.seats (dialled_for n front) final C f.came (counted p (length bytes) t) (read_on (length bytes) g l)
          so p name =
              let k = reads_same (length bytes) g l in (
                λ w. absurd (false≢true (sym right ∙ sym k.0 ∙ w)),
                unnamed p name,
                λ q w. greets q (sym k.1 ∙ w),
                subst (DialledSo (dialled_for n front)) (sym k.2) (subst (λ (d : List ℕ). DialledSo d l.dialled) (facts_dialled n front) told.by),
              )
            where
              unnamed : (p : Option ℕ) → l.name ≡ p → (read_on (length bytes) g l).name ≡ None → (read_on (length bytes) g l).is_wrong ≡ false → (f.came ≡ []) × ((counted p (length bytes) t).seats ≡ v.table.seats)
              unnamed None name x y = (told.unnamed name right, refl)
              unnamed (Some q) name x y = absurd (let z : Some q ≡ None = sym name ∙ sym (reads_same (length bytes) g l).1 ∙ x in cc)

      u : Table
      u = counted l.name (length bytes) t

      frames_so : IfLine (Just C) (line_in n (fold (heard (hearer_of v) n) u g.frames).lines)
      frames_so = each_out s (hearer_of v) n (ap (λ (z : Setting). z.game.id) (knows n).at.setting) v.table.seats (dialled_for n front) final C why f.came u g.frames refl
          (counted_lines (Line_so s (hearer_of v) n (ap (λ (z : Setting). z.game.id) (knows n).at.setting) v.table.seats (dialled_for n front) final C f.came u) n l.name (length bytes) t (first l.name refl))

      bad_now : g.reader.bad ≡ true → C
      bad_now b =
          let r : (facts_in n all).reader ≡ g.reader = reader_now n bytes is ∙ ap (λ (x : Reading). (given_of x bytes).reader) (sym told.reads) in
          let ends : (stream_of (taken_in n all)).ends ≡ BadAt g.reader.place = sym (facts_ends n all) ∙ ap end_of r ∙ ap (λ (x : Bool). if x then BadAt g.reader.place else Rest g.reader.held) b in
          cause_is n bytes is (inl (refl, inl (subst (λ (z : Item). HasBadByte n (front ++ z ∷ [])) is (g.reader.place, ends))))

      go : (b : Bool) → g.reader.bad ≡ b → IfLine (Just C) (line_in n (let w = fold (heard (hearer_of v) n) u g.frames in if b then at_line n doomed w else w).lines)
      go true b = if_own (λ x. Unit {0}) (Just C) n doomed (fold (heard (hearer_of v) n) u g.frames).lines (λ x w. refl) (λ x w y z. bad_now b) (any_line (line_in n (fold (heard (hearer_of v) n) u g.frames).lines))
      go false b = frames_so

  -- on another one
  mine_of : (f : Facts) (own : List TurnFrame) (o : Option Line) → IfLine (Just C) o → IfLine (Told s own f) o → IfLine (λ l. Just C l × ((q : ℕ) → l.name ≡ Some q → Greets f.came q)) o
  mine_of f own None x k = tt
  mine_of f own (Some l) x k = (x, λ q name. (let w : NameSo s f.came (Some q) = subst (NameSo s f.came) name k.named in (s.game.id, w.0, w.1, w.2, w.4)))

  just_mine : (f : Facts) (o : Option Line) → IfLine (λ l. Just C l × ((q : ℕ) → l.name ≡ Some q → Greets f.came q)) o → IfLine (Just C) o
  just_mine f None x = tt
  just_mine f (Some l) x = x.0

  other_took : (m : ℕ) (bytes : List ℕ) (o : Option Line) → item ≡ Took m bytes → (n == m) ≡ false → line_in m v.table.lines ≡ o → Was → IfLine (Just C) (line_in n (took_with (hearer_of v) v.table m bytes o).lines)
  other_took m bytes None is other e x = x
  other_took m bytes (Some l) is other e x = just_mine f (line_in n (heard_all (hearer_of v) m g u).lines) (go g.reader.bad)
    where
      g : Given
      g = given_of l.reader bytes

      f : Facts
      f = facts n

      k : Facts
      k = facts m

      told : Told s (safe_frames v) k l
      told = subst (IfLine (Told s (safe_frames v) k)) e (knows m).at.line

      final : List Frame
      final = k.came ++ g.frames

      came_is : came_on m all ≡ final
      came_is = came_now m bytes is ∙ ap (λ (r : Reading). k.came ++ (given_of r bytes).frames) (sym told.reads)

      differ : m ≡ n → ⊥
      differ w = eqb-false n m other (sym w)

      why : Named_so (hearer_of v) n m other f.came final C
      why q theirs mine =
          let first = subst (λ (z : Item). Greets (came_on m (front ++ z ∷ [])) q) is (subst (λ (fs : List Frame). Greets fs q) (sym came_is) theirs) in
          cause_is m bytes is (inr (differ, (q, first, subst (λ (fs : List Frame). Greets fs q) (facts_came n front) mine)))

      t : Table
      t = at_line m (read_on (length bytes) g) v.table

      u : Table
      u = counted l.name (length bytes) t

      mine : IfLine (Mine (hearer_of v) n m other f.came final C) (line_in n u.lines)
      mine = counted_lines (Mine (hearer_of v) n m other f.came final C) n l.name (length bytes) t
          (if_other (Mine (hearer_of v) n m other f.came final C) n m (read_on (length bytes) g) v.table.lines other (λ y w. read_keeps (length bytes) g y) (mine_of f (safe_frames v) (line_in n v.table.lines) x (knows n).at.line))

      theirs : IfLine (Theirs (hearer_of v) n m other f.came final C k.came) (line_in m u.lines)
      theirs = counted_lines (Theirs (hearer_of v) n m other f.came final C k.came) m l.name (length bytes) t
          (if_own (λ y. y ≡ l) (Theirs (hearer_of v) n m other f.came final C k.came) m (read_on (length bytes) g) v.table.lines (λ y w. read_keeps (length bytes) g y)
          (λ y w r none right. told.unnamed (ap (λ (z : Line). z.name) (sym r) ∙ sym (reads_same (length bytes) g y).1 ∙ none) (ap (λ (z : Line). z.is_wrong) (sym r) ∙ sym (reads_same (length bytes) g y).0 ∙ right))
          (subst (IfLine (λ y. y ≡ l)) (sym e) refl))

      frames_so : IfLine (Mine (hearer_of v) n m other f.came final C) (line_in n (fold (heard (hearer_of v) m) u g.frames).lines)
      frames_so = both_each (hearer_of v) n m other f.came final C why k.came u g.frames refl (mine, theirs)

      go : (b : Bool) → IfLine (Mine (hearer_of v) n m other f.came final C) (line_in n (let w = fold (heard (hearer_of v) m) u g.frames in if b then at_line m doomed w else w).lines)
      go true = if_other (Mine (hearer_of v) n m other f.came final C) n m doomed (fold (heard (hearer_of v) m) u g.frames).lines other (λ y w. refl) frames_so
      go false = frames_so

  -- bytes that are given
  desk_just : (k : Speaker) (own : Option TurnFrame) (count : ℕ) (t : Table) (l : Line) (o : Option Seat) → line_in n t.lines ≡ Some l → Just C l → IfLine (Just C) (line_in n (gave_with k own count t (desk_with l o)).lines)
  desk_just k own count t l None e x = subst (IfLine (Just C)) (sym e) x
  desk_just k own count t l (Some c) e x =
      let d : Desk = record { line = l; seat = c } in
      let to : Line = (gave_on k own count d).line in
      let w = keeps_gave k own count d in
      let same : to.socket ≡ n = w.0 ∙ line_is n t.lines l e in
      subst (λ (m : ℕ). IfLine (Just C) (line_in n (in_lines m (λ _. to) t.lines))) (sym same)
      (if_own (λ y. y ≡ l) (Just C) n (λ _. to) t.lines (λ y z. same ∙ sym z) (λ y z r. just_same C l to w.3 x) (subst (IfLine (λ y. y ≡ l)) (sym e) refl))

  gave_just : (m : ℕ) (bytes : List ℕ) → Was → IfLine (Just C) (line_in n (after v (Gave m bytes)).table.lines)
  gave_just m bytes x = go (m == n) refl
    where
      own : (o : Option Line) → line_in n v.table.lines ≡ o → IfLine (Just C) (line_in n (gave_by (speaker_of v.setting) (safe_frames v) (length bytes) v.table o).lines)
      own None e = x
      own (Some l) e = desk_just (speaker_of v.setting) (own_at (safe_frames v) l) (length bytes) v.table l (seat_by v.table (N.player_of l)) e (subst (IfLine (Just C)) e x)

      go : (b : Bool) → (m == n) ≡ b → IfLine (Just C) (line_in n (after v (Gave m bytes)).table.lines)
      go true e = subst (λ (y : ℕ). IfLine (Just C) (line_in n (after v (Gave y bytes)).table.lines)) (sym (eqb-true m n e)) (own (line_of v.table n) refl)
      go false e = other_gave v.setting (Just C) n m (safe_frames v) (length bytes) v.table (line_of v.table m) (flip m n e) refl x

  -- sockets that a poll opens
  listed_just : (total : ℕ) (t : Table) (list : List Ready) (a : ℕ) → t.accepted ≤ a → a + opened_in list ≤ total → (opens list n ≡ true → MOST_ACCEPTED < total → C) → IfLine (Just C) (line_in n t.lines) → IfLine (Just C) (line_in n (fold listed t list).lines)
  listed_just total t [] a few all why x = x
  listed_just total t (Opened m ∷ list) a few all why x =
      listed_just total (listed t (Opened m)) list (a + 1) (omega (arith, few)) (omega (arith, all)) (λ e. why (any (m == n) e)) (if_more (Just C) n (accepted_line m (not (nat_lt t.accepted MOST_ACCEPTED))) t.lines new x)
    where
      any : (b : Bool) → opens list n ≡ true → (b || opens list n) ≡ true
      any true e = refl
      any false e = e

      no_of : (b : Bool) → not b ≡ true → b ≡ false
      no_of true e = absurd (false≢true e)
      no_of false e = refl

      new : (m == n) ≡ true → Just C (accepted_line m (not (nat_lt t.accepted MOST_ACCEPTED)))
      new e w =
          let most = ltb-false t.accepted MOST_ACCEPTED (no_of (nat_lt t.accepted MOST_ACCEPTED) w) in
          why (ap (λ (b : Bool). b || opens list n) e) (omega (arith, most, few, all))
  listed_just total t (Seems m ∷ list) a few all why x = listed_just total (listed t (Seems m)) list a few all why (if_either (Just C) n m woken t.lines (λ l. refl) (λ l y. y) x)

  polled_just : (list : List Ready) → item ≡ Polled list → Differ v.table.lines → Was → IfLine (Just C) (line_in n (after v (Polled list)).table.lines)
  polled_just list is d x =
      let le = acc_in s front in
      let more = accepted_more front (Polled list) in
      listed_just (accepted_in (front ++ Polled list ∷ [])) (rested v.table) list (accepted_in front) le (omega (arith, more)) (λ e w. now (subst (λ (i : Item). IsCause s front i n) (sym is) (e, w))) (if_open (Just C) n v.table.lines d x)

  kept_just : (o : Option Entry) (w : View) → IfLine (Just C) (line_in n w.table.lines) → IfLine (Just C) (line_in n (kept_entry w o).table.lines)
  kept_just None w x = x
  kept_just (Some e) w x = line_sorted (Just C) n (with_entry e w).table.waiting (with_entry e w) x

  took_just : (m : ℕ) (bytes : List ℕ) → item ≡ Took m bytes → Was → IfLine (Just C) (line_in n (after v (Took m bytes)).table.lines)
  took_just m bytes is x = line_sorted (Just C) n w.table.waiting w (go (m == n) refl)
    where
      w : View
      w = with_table (took_on (hearer_of v) m bytes v.table) v

      go : (b : Bool) → (m == n) ≡ b → IfLine (Just C) (line_in n w.table.lines)
      go true e =
          let same = eqb-true m n e in
          subst (λ (y : ℕ). IfLine (Just C) (line_in n (took_on (hearer_of v) y bytes v.table).lines)) (sym same) (own_took bytes (line_of v.table n) (is ∙ ap (λ (y : ℕ). Took y bytes) same) refl)
      go false e = other_took m bytes (line_of v.table m) is (flip m n e) refl x

  just_after : (i : Item) → item ≡ i → Differ v.table.lines → Was → IfLine (Just C) (line_in n (after v i).table.lines)
  just_after (Took m bytes) is d x = took_just m bytes is x
  just_after (Gave m bytes) is d x = gave_just m bytes x
  just_after (Dialled m r addr) is d x = if_more (Just C) n _ v.table.lines (λ e w. absurd (false≢true w)) x
  just_after (Polled list) is d x = polled_just list is d x
  just_after (ReadNotYet m) is d x = if_either (Just C) n m quieted v.table.lines (λ l. refl) (λ l y. y) x
  just_after (WriteNotYet m) is d x = if_either (Just C) n m blocked v.table.lines (λ l. refl) (λ l y. y) x
  just_after (Ended m) is d x = if_either (Just C) n m closed v.table.lines (λ l. refl) (λ l y. y) x
  just_after (Shut m) is d x = if_either (Just C) n m closed v.table.lines (λ l. refl) (λ l y. y) x
  just_after (Failed (ReadCall m)) is d x = if_either (Just C) n m closed v.table.lines (λ l. refl) (λ l y. y) x
  just_after (Failed (WriteCall m)) is d x = if_either (Just C) n m closed v.table.lines (λ l. refl) (λ l y. y) x
  just_after (Kept bytes) is d x = kept_just (entry_in v.writer bytes) v x
  just_after (LogBegun name) is d x = x
  just_after (Listening addr) is d x = x
  just_after Synced is d x = x
  just_after (Failed (ListenCall addr)) is d x = x
  just_after (Failed (LogCall name)) is d x = x
  just_after (Failed (DialCall r addr)) is d x = x
  just_after (Failed PollCall) is d x = x
  just_after (Failed (KeepCall bytes)) is d x = x
  just_after (Failed SyncCall) is d x = x

-- ---- the whole history

right_read : (v : View) (o : Option Line) → may_read_line v o ≡ true → IfLine (λ l. l.is_wrong ≡ false) o
right_read v None h = tt
right_read v (Some l) h =
    let wants = and_parts _ _ (and_parts _ _ (and_parts _ _ h).1).0 in
    right_line l.is_open l.is_wrong (room_on v.table l == 0) wants.0 wants.1

just_weaker : (A B : Type 0) (o : Option Line) → (A → B) → IfLine (Just A) o → IfLine (Just B) o
just_weaker A B None f x = tt
just_weaker A B (Some l) f x = λ w. f (x w)

abbrev Now : Setting → (socket : ℕ) → List Item → Type 0
Now s n items = IfLine (Just (HasCause s items n)) (line_in n (view_of s items).table.lines)

longer : (s : Setting) (n : ℕ) (items : List Item) (item : Item) → HasCause s items n → HasCause s (items ++ item ∷ []) n
longer s n items item w = (w.0, w.1, w.2 ++ item ∷ [], ap (λ (xs : List Item). xs ++ item ∷ []) w.3 ∙ append_assoc w.0 (w.1 ∷ w.2) (item ∷ []), w.4)

now_next : (s : Setting) (n : ℕ) (front : List Item) (item : Item) (more : List Item) → SocketsAreNew (front ++ item ∷ more) → IsHistory s (front ++ item ∷ more) → Now s n front → Now s n (front ++ item ∷ [])
now_next s n front item more new h x =
    let v = view_of s front in
    let history = before (start s) front (item ∷ more) h in
    let knows : (m : ℕ) → Knows s m front = λ m. knows_in s m front (fewer_new front (item ∷ more) new) history in
    let may = items_are_allowed s front more item h in
    let reads : (bytes : List ℕ) → item ≡ Took n bytes → IfLine (λ l. l.is_wrong ≡ false) (line_in n v.table.lines) =
    λ bytes is. right_read v (line_of v.table n) (and_parts _ _ (and_parts _ _ (subst (λ (i : Item). is_allowed v i ≡ true) is may)).0).0 in
    let was = just_weaker (HasCause s front n) (HasCause s (front ++ item ∷ []) n) (line_in n v.table.lines) (longer s n front item) x in
    subst (λ (w : View). IfLine (Just (HasCause s (front ++ item ∷ []) n)) (line_in n w.table.lines)) (sym (fold-append after (start s) front (item ∷ [])))
    (just_after s front item n knows reads (longer s n front item) item refl (knows n).told.differ was)

now_items : (s : Setting) (n : ℕ) (front items : List Item) → SocketsAreNew (front ++ items) → IsHistory s (front ++ items) → Now s n front → Now s n (front ++ items)
now_items s n front [] new h x = subst (Now s n) (sym (append-nil front)) x
now_items s n front (item ∷ items) new h x =
    let same = append_assoc front (item ∷ []) items in
    subst (Now s n) same (now_items s n (front ++ item ∷ []) items (subst SocketsAreNew (sym same) new) (subst (IsHistory s) (sym same) h) (now_next s n front item items new h x))

-- ---- a socket that is shut

shut_parts : (v : View) (o : Option Line) → may_shut_line v o ≡ true → (l : Line) × (o ≡ Some l) × ((l.is_wrong || (room_on v.table l == 0)) ≡ true)
shut_parts v None h = absurd (false≢true h)
shut_parts v (Some l) h = (l, refl, (and_parts _ _ (and_parts _ _ h).1).1)

read_up : (s : Setting) (items : List Item) (n : ℕ) (l : Line) (o : Option ℕ) → l.name ≡ o → l.is_wrong ≡ false → Told s (safe_frames (view_of s items)) (facts_in n items) l → Counts (length (taken_in n items)) l → (room_by (view_of s items).table l o == 0) ≡ true → IsReadUp s items n
read_up s items n l None name right told counts e =
    let none = eqb-true (HELLO_BYTES - l.taken) 0 e in
    let count = counts name in
    inl (sym (facts_came n items) ∙ told.unnamed name right, omega (arith, none, count))
read_up s items n l (Some q) name right told counts e =
    let k : NameSo s (facts_in n items).came (Some q) = subst (NameSo s (facts_in n items).came) name told.named in
    inr (q, (s.game.id, k.0, k.1, k.2, sym (facts_came n items) ∙ k.4), eqb-true (room_by_seat (seat_of (view_of s items).table q)) 0 e)

pick : (s : Setting) (items : List Item) (n : ℕ) (l : Line) → Just (HasCause s items n) l → Told s (safe_frames (view_of s items)) (facts_in n items) l → Counts (length (taken_in n items)) l →
    (b : Bool) → l.is_wrong ≡ b → (c : Bool) → (room_on (view_of s items).table l == 0) ≡ c → (b || c) ≡ true → HasCause s items n ⊎ IsReadUp s items n
pick s items n l just told counts true e c f x = inl (just e)
pick s items n l just told counts false e true f x = inr (read_up s items n l l.name refl e told counts f)
pick s items n l just told counts false e false f x = absurd (false≢true x)

pub shuts_have_causes : ShutsHaveCauses
shuts_have_causes s front more n new h =
    let v = view_of s front in
    let item = Shut n in
    let fewer = fewer_new front (item ∷ more) new in
    let history = before (start s) front (item ∷ more) h in
    let k = knows_in s n front fewer history in
    let parts = shut_parts v (line_of v.table n) (items_are_allowed s front more item h) in
    let l = parts.0 in
    let now : Now s n front = now_items s n [] front fewer history tt in
    let just : Just (HasCause s front n) l = subst (IfLine (Just (HasCause s front n))) parts.1 now in
    let told : Told s (safe_frames v) (facts_in n front) l = subst (IfLine (Told s (safe_frames v) (facts_in n front))) parts.1 k.at.line in
    let counts : Counts (length (taken_in n front)) l = subst (IfLine (Counts (length (taken_in n front)))) parts.1 (short_in s n front fewer history).counts in
    pick s front n l just told counts l.is_wrong refl (room_on v.table l == 0) refl (subst (λ (b : Bool). b ≡ true) refl parts.2)
