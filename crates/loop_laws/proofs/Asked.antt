-- Asked: a place that a player asks for on its socket counts as reached.
use Rattle.std.proofs.Common.{◌≡◌, ◌⊎◌, inl, inr, ℕ, ◌+◌, ◌≤◌, Bool, true, false, refl, sym, ap, subst, ◌∙◌, List, [], ◌∷◌, ◌++◌, append_assoc, append-nil, arith, length}
use Rattle.std.specs.Prelude.{Option, Some, None, ◌==◌, ◌&&◌, ◌||◌, not, max, if◌then◌else◌}
use Rattle.std.specs.List.{fold}
use Rattle.std.proofs.lemmas.Bool.{and_parts, eqb-true, eqb-false, eq-eqb, false≢true}
use Rattle.std.proofs.lemmas.List.Sums.{fold-append}
use Rattle.definitions.specs.declared.frames.TurnFrame.{TurnFrame}
use Rattle.definitions.specs.declared.logs.Entry.{Entry}
use Rattle.definitions.specs.Lists.{is_empty}
use Rattle.definitions.specs.Logs.{player_of}
use Rattle.definition_laws.specs.Members.{Has}
use Rattle.rosters.specs.declared.roster.Link.{Link}
use Rattle.wire_frames.specs.declared.frames.Frame.{Frame}
use Rattle.wire_frames.specs.declared.frames.Frame.TheVariants.{Hello, Turn, Want}
use Rattle.wire_frames.specs.Reading.{Reading}
use Rattle.wire_frames.specs.Streams.{Given, given_of}
use Rattle.socket_station.specs.declared.answers.Ready.{Ready}
use Rattle.socket_station.specs.declared.answers.Ready.TheVariants.{Opened, Socket as Seems}
use Rattle.socket_station.specs.Items.{Item, ListenCall, LogCall, DialCall, PollCall, ReadCall, WriteCall, KeepCall, SyncCall, Listening, LogBegun, Dialled, Polled, Took, Gave, ReadNotYet, WriteNotYet, Ended, Failed, Shut, Kept, Synced}
use Rattle.socket_station.specs.Standings.{opens}
use Rattle.socket_station.specs.Laws.{is_opening}
use Rattle.socket_lines.specs.declared.giving.Due.{Due}
use Rattle.socket_lines.specs.declared.giving.Due.TheVariants as U
use Rattle.socket_lines.specs.declared.line.Line.{Line}
use Rattle.socket_lines.specs.declared.seat.Seat.{Seat}
use Rattle.socket_lines.specs.Asks.{is_asked}
use Rattle.socket_lines.specs.Lines as N
use Rattle.socket_lines.specs.Lines.{blocked, closed, doomed, moved_to, named_line, quieted, woken}
use Rattle.socket_lines.specs.Seats as S
use Rattle.socket_lines.specs.Seats.{asks, dials, is_asked_for, may_want, obeys, reaches, rests, spends}
use Rattle.socket_lines.specs.Giving.{Desk, Speaker, begun, due_on, ended_with, left_with, marked}
use Rattle.loop_rules.specs.Settings.{Setting, speaker_of}
use Rattle.loop_rules.specs.Tables.{Table, line_of, seat_of, at_line, at_seat, desk_with, in_lines, in_seats, room_on, seat_by}
use Rattle.loop_rules.specs.Views.{View, start, safe_frames}
use Rattle.loop_rules.specs.Hearing.{Hearer, arrived, counted, counted_on, heard, heard_all, heard_by, heard_first, heard_named, heard_on, named, names, obeyed, read_at, read_on, took_on, took_with, with_name_free}
use Rattle.loop_rules.specs.Handling.{hearer_of, sorted}
use Rattle.loop_rules.specs.Keeping.{with_entry, kept_entry}
use Rattle.peer_rules.specs.Entries.{entry_in}
use Rattle.loop_rules.specs.After.{after, gave_by, gave_on, gave_with, listed, own_at, rested, view_of, with_table}
use Rattle.loop_rules.specs.Rules.{may_read_line}
use Rattle.loop_rules.specs.Histories.{IsHistory}
use Rattle.loop_rules.specs.Told.{Differ}
use Rattle.loop_rules.proofs.Prefixes.{before, items_are_allowed}
use Rattle.loop_rules.proofs.Alike.{keeps_gave}
use Rattle.loop_laws.specs.Sockets.{SocketsAreNew}
use Rattle.loop_laws.specs.Speaking.{AsksFor, IsAsked}
use Rattle.loop_laws.specs.Laws.{AskedAreCounted}
use Rattle.loop_laws.proofs.Bytes.{facts_came, facts_in}
use Rattle.loop_laws.proofs.Counted.{CountedBy, count_found, counts_at, counts_mapped, seat_found}
use Rattle.loop_laws.proofs.Finds.{line_in, line_is, IfLine, if_either, if_more, if_open, if_other, if_own}
use Rattle.loop_laws.proofs.Giving.{other_gave}
use Rattle.loop_laws.proofs.Hearing.{other_stays}
use Rattle.loop_laws.proofs.Speakers.{Facts, NameSo, Told, no_facts}
use Rattle.loop_laws.proofs.Steps.{counted_lines, facts_after, flip, line_sorted, read_keeps, sorted_table, with_taken}
use Rattle.loop_laws.proofs.Given.{knows_in, opening_fresh}
use Rattle.loop_laws.proofs.Handled.{fewer_new}

any_line : (o : Option Line) → IfLine (λ l. Unit {0}) o
any_line None = tt
any_line (Some l) = tt

max_more : (a b : ℕ) → (a ≤ max a b) × (b ≤ max a b)
max_more a b = (omega arith, omega arith)

-- one frame more asks for what was asked for, or asks for it itself
asked_one : (came : List Frame) (f : Frame) (place : ℕ) → IsAsked (came ++ f ∷ []) place → IsAsked came place ⊎ AsksFor f place
asked_one [] f place a = go a.1
  where
    go : (f ≡ a.0) ⊎ ⊥ → IsAsked [] place ⊎ AsksFor f place
    go (inl e) = inr (subst (λ (x : Frame). AsksFor x place) (sym e) a.2)
    go (inr e) = absurd e
asked_one (g ∷ came) f place a = go a.1 (λ there. asked_one came f place (a.0, there, a.2))
  where
    go : (g ≡ a.0) ⊎ Has (came ++ f ∷ []) a.0 → (Has (came ++ f ∷ []) a.0 → IsAsked came place ⊎ AsksFor f place) → IsAsked (g ∷ came) place ⊎ AsksFor f place
    go (inl e) more = inl (a.0, inl e, a.2)
    go (inr there) more = elim (more there) [ inl x ↦ inl (x.0, inr x.1, x.2) | inr x ↦ inr x ]

-- ---- the count of the player never falls

module _ (q place : ℕ) where
  -- the seats of the player count the places up to this one
  abbrev R : ℕ → ℕ → Type 0
  R p g = p ≡ q → place ≤ g

  abbrev Most : List Seat → Type 0
  Most seats = CountedBy R seats

  rises : (p : ℕ) (change : Seat → Seat) (cs : List Seat) → ((c : Seat) → (change c).link ≡ c.link) → ((c : Seat) → c.given ≤ (change c).given) → Most cs → Most (in_seats p change cs)
  rises p change cs link more k =
      counts_at R p change cs (λ c e r w. (let old = r (ap (λ (l : Link). l.player) (sym (link c)) ∙ w) in let up = more c in omega (arith, old, up))) k

  -- the player's seats reach the place
  reached : (from : ℕ) (change : Seat → Seat) (cs : List Seat) → from ≡ place → ((c : Seat) → (change c).link ≡ c.link) → ((c : Seat) → from ≤ (change c).given) → Most (in_seats q change cs)
  reached from change [] e link more = tt
  reached from change (c ∷ cs) e link more = (go (c.link.player == q) refl, reached from change cs e link more)
    where
      go : (b : Bool) → (c.link.player == q) ≡ b → R (if b then change c else c).link.player (if b then change c else c).given
      go true w x = (let up = more c in omega (arith, up, e))
      go false w x = absurd (false≢true (sym w ∙ eq-eqb c.link.player q x))

  asks_up : (k : ℕ) (c : Seat) → ((asks k c).link ≡ c.link) × (c.given ≤ (asks k c).given)
  asks_up k c = go (is_asked c.asks k)
    where
      go : (b : Bool) → ((if b then c else is_asked_for k c).link ≡ c.link) × (c.given ≤ (if b then c else is_asked_for k c).given)
      go true = (refl, omega arith)
      go false = (refl, omega arith)

  most_if : (b : Bool) (t u : Table) → Most t.seats → Most u.seats → Most (if b then t else u).seats
  most_if true t u x y = x
  most_if false t u x y = y

  most_obeyed : (m : ℕ) (t : Table) (p k : ℕ) (o : Option Seat) → Most t.seats → Most (obeyed t m p k o).seats
  most_obeyed m t p k None x = x
  most_obeyed m t p k (Some c) x = most_if (may_want c) (at_seat p obeys (at_line m (moved_to k) t)) t (rises p obeys t.seats (λ d. refl) (λ d. omega arith) x) x

  most_first : (h : Hearer) (m : ℕ) (t : Table) (l : Line) (f : Frame) → Most t.seats → Most (heard_first h t m l f).seats
  most_first h m t l (Hello id p pass from) x =
      most_if (names h t l id p pass) (named h t m l p from) (at_line m doomed t) (rises p (S.names l.taken from) t.seats (λ d. refl) (λ d. (max_more d.given from).0) x) x
  most_first h m t l (Turn f) x = x
  most_first h m t l (Want k) x = x

  most_named : (m : ℕ) (t : Table) (p : ℕ) (f : Frame) → Most t.seats → Most (heard_named t m p f).seats
  most_named m t p (Hello id r pass from) x = x
  most_named m t p (Turn f) x = most_if (player_of f == p) (arrived t p f) (at_line m doomed t) x x
  most_named m t p (Want k) x = rises p (reaches k) (obeyed t m p k (seat_of t p)).seats (λ d. refl) (λ d. (max_more d.given k).0) (most_obeyed m t p k (seat_of t p) x)

  most_by : (h : Hearer) (m : ℕ) (t : Table) (l : Line) (o : Option ℕ) (f : Frame) → Most t.seats → Most (heard_by h t m l o f).seats
  most_by h m t l None f x = most_first h m t l f x
  most_by h m t l (Some p) f x = most_named m t p f x

  most_on : (h : Hearer) (m : ℕ) (t : Table) (f : Frame) (o : Option Line) → Most t.seats → Most (heard_on h t m f o).seats
  most_on h m t f None x = x
  most_on h m t f (Some l) x = most_if l.is_wrong t (heard_by h t m l l.name f) x (most_by h m t l l.name f x)

  most_each : (h : Hearer) (m : ℕ) (t : Table) (fs : List Frame) → Most t.seats → Most (fold (heard h m) t fs).seats
  most_each h m t [] x = x
  most_each h m t (f ∷ fs) x = most_each h m (heard h m t f) fs (most_on h m t f (line_of t m) x)

  most_all : (h : Hearer) (m : ℕ) (g : Given) (t : Table) → Most t.seats → Most (heard_all h m g t).seats
  most_all h m g t x =
      let u = fold (heard h m) t g.frames in
      let w = most_each h m t g.frames x in
      most_if g.reader.bad (at_line m doomed u) u w w

  most_counted : (o : Option ℕ) (count : ℕ) (t : Table) → Most t.seats → Most (counted o count t).seats
  most_counted None count t x = x
  most_counted (Some p) count t x = rises p (spends count) t.seats (λ d. refl) (λ d. omega arith) x

  most_took : (v : View) (m : ℕ) (bytes : List ℕ) (o : Option Line) → Most v.table.seats → Most (took_with (hearer_of v) v.table m bytes o).seats
  most_took v m bytes None x = x
  most_took v m bytes (Some l) x =
      let g = given_of l.reader bytes in
      most_all (hearer_of v) m g (read_at m (length bytes) g l v.table) (most_counted l.name (length bytes) (at_line m (read_on (length bytes) g) v.table) x)

  most_sorted : (v : View) → Most v.table.seats → Most (sorted v.table.waiting v).table.seats
  most_sorted v x = sorted_table (λ t. Most t.seats) (λ t waiting y. y) (λ t p k y. rises p (asks k) t.seats (λ c. (asks_up k c).0) (λ c. (asks_up k c).1) y) v.table.waiting v x

  most_kept : (v : View) (o : Option Entry) → Most v.table.seats → Most (kept_entry v o).table.seats
  most_kept v None x = x
  most_kept v (Some e) x = most_sorted (with_entry e v) x

  most_listed : (t : Table) (list : List Ready) → Most t.seats → Most (fold listed t list).seats
  most_listed t [] x = x
  most_listed t (Opened m ∷ list) x = most_listed (listed t (Opened m)) list x
  most_listed t (Seems m ∷ list) x = most_listed (listed t (Seems m)) list x

  marked_given : (due : Due) (d : Desk) → (marked due d).seat.given ≡ d.seat.given
  marked_given U.Nothing d = refl
  marked_given (U.Hello next) d = refl
  marked_given (U.Want k) d = refl
  marked_given (U.Own f) d = refl

  ended_given : (o : Option ℕ) (d : Desk) → d.seat.given ≤ (ended_with o d).seat.given
  ended_given None d = omega arith
  ended_given (Some k) d = (max_more d.seat.given (k + 1)).0

  left_given : (left : List ℕ) (d : Desk) → d.seat.given ≤ (left_with left d).seat.given
  left_given left d = go (is_empty left)
    where
      e : Desk
      e = record d { line = record d.line { unsent = left } }

      go : (b : Bool) → d.seat.given ≤ (if b then ended_with d.line.sending e else e).seat.given
      go true = ended_given d.line.sending e
      go false = omega arith

  begun_given : (own : Option TurnFrame) (d : Desk) → (begun own d).seat.given ≡ d.seat.given
  begun_given own d = go (is_empty d.line.unsent)
    where
      go : (b : Bool) → (if b then marked (due_on own d) d else d).seat.given ≡ d.seat.given
      go true = marked_given (due_on own d) d
      go false = refl

  beside : (t : Table) (o : Option ℕ) (c : Seat) → Most t.seats → seat_by t o ≡ Some c → R c.link.player c.given
  beside t None c x e = absurd (let y : None ≡ Some c = e in cc)
  beside t (Some p) c x e = count_found R p t.seats c x e

  most_desk : (k : Speaker) (own : Option TurnFrame) (count : ℕ) (t : Table) (l : Line) (o : Option Seat) → seat_by t (N.player_of l) ≡ o → Most t.seats → Most (gave_with k own count t (desk_with l o)).seats
  most_desk k own count t l None e x = x
  most_desk k own count t l (Some c) e x =
      let d : Desk = record { line = l; seat = c } in
      let to : Seat = (gave_on k own count d).seat in
      let link : to.link ≡ c.link = (keeps_gave k own count d).5 in
      let up : (begun own d).seat.given ≤ to.given = left_given _ (begun own d) in
      let same = begun_given own d in
      let new : R to.link.player to.given = λ w. (let old = beside t (N.player_of l) c x e (ap (λ (y : Link). y.player) (sym link) ∙ w) in omega (arith, old, up, same)) in
      counts_at R to.link.player (λ _. to) t.seats (λ y p r. new) x

  most_gave : (k : Speaker) (safe : List TurnFrame) (count : ℕ) (t : Table) (o : Option Line) → Most t.seats → Most (gave_by k safe count t o).seats
  most_gave k safe count t None x = x
  most_gave k safe count t (Some l) x = most_desk k (own_at safe l) count t l (seat_by t (N.player_of l)) refl x

  most_after : (v : View) (item : Item) → Most v.table.seats → Most (after v item).table.seats
  most_after v (Took m bytes) x = most_sorted (with_table (took_on (hearer_of v) m bytes v.table) v) (most_took v m bytes (line_of v.table m) x)
  most_after v (Gave m bytes) x = most_gave (speaker_of v.setting) (safe_frames v) (length bytes) v.table (line_of v.table m) x
  most_after v (Dialled m r addr) x = rises r dials v.table.seats (λ d. refl) (λ d. omega arith) x
  most_after v (Failed (DialCall r addr)) x = rises r dials v.table.seats (λ d. refl) (λ d. omega arith) x
  most_after v (Polled list) x = most_listed (rested v.table) list (counts_mapped R rests v.table.seats (λ c r. r) x)
  most_after v (Kept bytes) x = most_kept v (entry_in v.writer bytes) x
  most_after v (LogBegun name) x = x
  most_after v (Listening addr) x = x
  most_after v (ReadNotYet m) x = x
  most_after v (WriteNotYet m) x = x
  most_after v (Ended m) x = x
  most_after v (Shut m) x = x
  most_after v Synced x = x
  most_after v (Failed (ListenCall addr)) x = x
  most_after v (Failed (LogCall name)) x = x
  most_after v (Failed PollCall) x = x
  most_after v (Failed (ReadCall m)) x = x
  most_after v (Failed (WriteCall m)) x = x
  most_after v (Failed (KeepCall bytes)) x = x
  most_after v (Failed SyncCall) x = x

  most_items : (v : View) (items : List Item) → Most v.table.seats → Most (fold after v items).table.seats
  most_items v [] x = x
  most_items v (item ∷ items) x = most_items (after v item) items (most_after v item x)

  -- ---- the line

  -- as long as the socket is the player's and nothing asks to shut it, the place isn't asked for
  abbrev Free : List Frame → Line → Type 0
  Free came l = l.is_wrong ≡ false → l.name ≡ Some q → IsAsked came place → ⊥

  -- and before it has a name no frame came
  abbrev Line_so : List Frame → Line → Type 0
  Line_so came l = Free came l × (l.name ≡ None → l.is_wrong ≡ false → came ≡ [])

  module _ (h : Hearer) (n : ℕ) where
    abbrev Out : List Frame → Table → Type 0
    Out came t = Most t.seats ⊎ IfLine (Line_so came) (line_in n t.lines)

    wrong_so : (came : List Frame) (l : Line) → l.is_wrong ≡ true → Line_so came l
    wrong_so came l e = (λ r. absurd (false≢true (sym r ∙ e)), λ w r. absurd (false≢true (sym r ∙ e)))

    doomed_out : (came : List Frame) (t : Table) → Out came (at_line n doomed t)
    doomed_out came t = inr (if_own (λ l. Unit {0}) (Line_so came) n doomed t.lines (λ l e. refl) (λ l e x. wrong_so came (doomed l) refl) (any_line (line_in n t.lines)))

    out_if : (came : List Frame) (b : Bool) (t u : Table) → Out came t → Out came u → Out came (if b then t else u)
    out_if came true t u x y = x
    out_if came false t u x y = y

    name_so : (came : List Frame) (p : ℕ) (l : Line) → l.name ≡ Some p → (p ≡ q → IsAsked came place → ⊥) → Line_so came l
    name_so came p l e f =
        (λ r w a. f (let x : Some p ≡ Some q = sym e ∙ w in let y : p ≡ q = cc in y) a, λ w r. absurd (let x : Some p ≡ None = sym e ∙ w in cc))

    first_named : (t : Table) (l : Line) (came : List Frame) (id pass : List ℕ) (p from : ℕ) → came ≡ [] → Out (came ++ Hello id p pass from ∷ []) (named h t n l p from)
    first_named t l came id pass p from none = go (p == q) refl (from == place) refl
      where
        u : Table
        u = with_name_free p t

        all : List Frame
        all = came ++ Hello id p pass from ∷ []

        asks_it : IsAsked all place → from ≡ place
        asks_it a = elim (asked_one came (Hello id p pass from) place a) [
          | inl x ↦ absurd (subst (λ (fs : List Frame). Has fs x.0) none x.1)
          | inr x ↦ x
        ]

        line : (p ≡ q → IsAsked all place → ⊥) → Out all (named h t n l p from)
        line f = inr (if_own (λ x. Unit {0}) (Line_so all) n (named_line p from (h.next p)) u.lines (λ x e. refl) (λ x e y. name_so all p (named_line p from (h.next p) x) refl f) (any_line (line_in n u.lines)))

        go : (b : Bool) → (p == q) ≡ b → (c : Bool) → (from == place) ≡ c → Out all (named h t n l p from)
        go true e true w = inl (subst (λ (r : ℕ). Most (in_seats r (S.names l.taken from) t.seats)) (sym (eqb-true p q e)) (reached from (S.names l.taken from) t.seats (eqb-true from place w) (λ c. refl) (λ c. (max_more c.given from).1)))
        go true e false w = line (λ x a. eqb-false from place w (asks_it a))
        go false e c w = line (λ x a. eqb-false p q e x)

    out_first : (t : Table) (came : List Frame) (l : Line) (f : Frame) → came ≡ [] → Out (came ++ f ∷ []) (heard_first h t n l f)
    out_first t came l (Hello id p pass from) none =
        out_if (came ++ Hello id p pass from ∷ []) (names h t l id p pass) (named h t n l p from) (at_line n doomed t) (first_named t l came id pass p from none) (doomed_out (came ++ Hello id p pass from ∷ []) t)
    out_first t came l (Turn f) none = doomed_out (came ++ Turn f ∷ []) t
    out_first t came l (Want k) none = doomed_out (came ++ Want k ∷ []) t

    moved_so : (came : List Frame) (k : ℕ) (l : Line) → Line_so came l → Line_so came (moved_to k l)
    moved_so came k l x = go l.sending
      where
        go : (o : Option ℕ) → Line_so came (moved_to k (record l { sending = o }))
        go None = x
        go (Some p) = x

    moved_keeps : (k : ℕ) (l : Line) → (moved_to k l).socket ≡ l.socket
    moved_keeps k l = go l.sending
      where
        go : (o : Option ℕ) → (moved_to k (record l { sending = o })).socket ≡ l.socket
        go None = refl
        go (Some p) = refl

    obeyed_so : (came : List Frame) (t : Table) (p k : ℕ) (o : Option Seat) → IfLine (Line_so came) (line_in n t.lines) → IfLine (Line_so came) (line_in n (obeyed t n p k o).lines)
    obeyed_so came t p k None x = x
    obeyed_so came t p k (Some c) x = go (may_want c)
      where
        go : (b : Bool) → IfLine (Line_so came) (line_in n (if b then at_seat p obeys (at_line n (moved_to k) t) else t).lines)
        go true = if_either (Line_so came) n n (moved_to k) t.lines (moved_keeps k) (moved_so came k) x
        go false = x

    out_want : (t : Table) (came : List Frame) (l : Line) (p k : ℕ) → line_in n t.lines ≡ Some l → l.is_wrong ≡ false → l.name ≡ Some p → Line_so came l → Out (came ++ Want k ∷ []) (heard_named t n p (Want k))
    out_want t came l p k e r name w = go (p == q) refl (k == place) refl
      where
        all : List Frame
        all = came ++ Want k ∷ []

        u : Table
        u = obeyed t n p k (seat_of t p)

        line : (p ≡ q → IsAsked all place → ⊥) → Out all (heard_named t n p (Want k))
        line f = inr (obeyed_so all t p k (seat_of t p) (subst (IfLine (Line_so all)) (sym e) (name_so all p l name f)))

        old : p ≡ q → IsAsked all place → k ≡ place
        old x a = elim (asked_one came (Want k) place a) [
          | inl y ↦ absurd (w.0 r (name ∙ ap (λ (z : ℕ). Some z) x) y)
          | inr y ↦ y
        ]

        go : (b : Bool) → (p == q) ≡ b → (c : Bool) → (k == place) ≡ c → Out all (heard_named t n p (Want k))
        go true x true y = inl (subst (λ (z : ℕ). Most (in_seats z (reaches k) u.seats)) (sym (eqb-true p q x)) (reached k (reaches k) u.seats (eqb-true k place y) (λ c. refl) (λ c. (max_more c.given k).1)))
        go true x false y = line (λ z a. eqb-false k place y (old z a))
        go false x c y = line (λ z a. eqb-false p q x z)

    out_turn : (t : Table) (came : List Frame) (l : Line) (p : ℕ) (g : TurnFrame) → line_in n t.lines ≡ Some l → l.is_wrong ≡ false → l.name ≡ Some p → Line_so came l → Out (came ++ Turn g ∷ []) (arrived t p g)
    out_turn t came l p g e r name w =
        inr (subst (IfLine (Line_so (came ++ Turn g ∷ []))) (sym e)
        (name_so (came ++ Turn g ∷ []) p l name (λ x a. elim (asked_one came (Turn g) place a) [ inl y ↦ w.0 r (name ∙ ap (λ (z : ℕ). Some z) x) y | inr y ↦ y ])))

    out_named : (t : Table) (came : List Frame) (l : Line) (p : ℕ) (f : Frame) → line_in n t.lines ≡ Some l → l.is_wrong ≡ false → l.name ≡ Some p → Line_so came l → Out (came ++ f ∷ []) (heard_named t n p f)
    out_named t came l p (Hello id r pass from) e right name w = doomed_out (came ++ Hello id r pass from ∷ []) t
    out_named t came l p (Turn g) e right name w =
        out_if (came ++ Turn g ∷ []) (player_of g == p) (arrived t p g) (at_line n doomed t) (out_turn t came l p g e right name w) (doomed_out (came ++ Turn g ∷ []) t)
    out_named t came l p (Want k) e right name w = out_want t came l p k e right name w

    out_by : (t : Table) (came : List Frame) (l : Line) (o : Option ℕ) (f : Frame) → line_in n t.lines ≡ Some l → l.is_wrong ≡ false → l.name ≡ o → Line_so came l → Out (came ++ f ∷ []) (heard_by h t n l o f)
    out_by t came l None f e right name w = out_first t came l f (w.1 name right)
    out_by t came l (Some p) f e right name w = out_named t came l p f e right name w

    out_line : (t : Table) (came : List Frame) (f : Frame) (o : Option Line) → line_in n t.lines ≡ o → IfLine (Line_so came) o → Out (came ++ f ∷ []) (heard_on h t n f o)
    out_line t came f None e w = inr (subst (IfLine (Line_so (came ++ f ∷ []))) (sym e) tt)
    out_line t came f (Some l) e w = go l.is_wrong refl
      where
        go : (b : Bool) → l.is_wrong ≡ b → Out (came ++ f ∷ []) (if b then t else heard_by h t n l l.name f)
        go true r = inr (subst (IfLine (Line_so (came ++ f ∷ []))) (sym e) (wrong_so (came ++ f ∷ []) l r))
        go false r = out_by t came l l.name f e r refl w

    out_heard : (t : Table) (came : List Frame) (f : Frame) → Out came t → Out (came ++ f ∷ []) (heard h n t f)
    out_heard t came f (inl x) = inl (most_on h n t f (line_of t n) x)
    out_heard t came f (inr x) = out_line t came f (line_of t n) refl x

    out_each : (t : Table) (came fs : List Frame) → Out came t → Out (came ++ fs) (fold (heard h n) t fs)
    out_each t came [] x = subst (λ (y : List Frame). Out y t) (sym (append-nil came)) x
    out_each t came (f ∷ fs) x =
        subst (λ (y : List Frame). Out y (fold (heard h n) (heard h n t f) fs)) (append_assoc came (f ∷ []) fs) (out_each (heard h n t f) (came ++ f ∷ []) fs (out_heard t came f x))

    out_all : (g : Given) (t : Table) (came : List Frame) → Out came t → Out (came ++ g.frames) (heard_all h n g t)
    out_all g t came x =
        let u = fold (heard h n) t g.frames in
        out_if (came ++ g.frames) g.reader.bad (at_line n doomed u) u (doomed_out (came ++ g.frames) u) (out_each t came g.frames x)

  -- ---- after each item

  module _ (n : ℕ) where
    -- the count has reached the place, or it isn't asked for
    abbrev So : List Frame → Table → Type 0
    So came t = Most t.seats ⊎ IfLine (Free came) (line_in n t.lines)

    read_free : (came : List Frame) (count : ℕ) (g : Given) (l : Line) → Line_so came l → Line_so came (read_on count g l)
    read_free came count g l x = go l.name refl
      where
        go : (o : Option ℕ) → l.name ≡ o → Line_so came (record (counted_on o count l) { reader = g.reader })
        go None e = x
        go (Some p) e = x

    free_of : (came : List Frame) (o : Option Line) → IfLine (Line_so came) o → IfLine (Free came) o
    free_of came None x = tt
    free_of came (Some l) x = x.0

    own_took : (v : View) (facts : Facts) (own : List TurnFrame) (s : Setting) (bytes : List ℕ) (o : Option Line) → line_in n v.table.lines ≡ o → IfLine (Told s own facts) o → IfLine (Free facts.came) o →
        So (facts.came ++ (given_of facts.reader bytes).frames) (took_with (hearer_of v) v.table n bytes o)
    own_took v facts own s bytes None e k w = inr (subst (IfLine (Free (facts.came ++ (given_of facts.reader bytes).frames))) (sym e) tt)
    own_took v facts own s bytes (Some l) e k w =
        let g = given_of l.reader bytes in
        let t = at_line n (read_on (length bytes) g) v.table in
        let so : IfLine (Line_so facts.came) (line_in n v.table.lines) = subst (IfLine (Line_so facts.came)) (sym e) (w, k.unnamed) in
        let first = counted_lines (Line_so facts.came) n l.name (length bytes) t (if_either (Line_so facts.came) n n (read_on (length bytes) g) v.table.lines (read_keeps (length bytes) g) (read_free facts.came (length bytes) g) so) in
        let u = heard_all (hearer_of v) n g (counted l.name (length bytes) t) in
        subst (λ (r : Reading). So (facts.came ++ (given_of r bytes).frames) (took_with (hearer_of v) v.table n bytes (Some l))) k.reads
        (elim (out_all (hearer_of v) n g (counted l.name (length bytes) t) facts.came (inr first)) [
          | inl x ↦ inl x
          | inr x ↦ inr (free_of (facts.came ++ g.frames) (line_in n u.lines) x)
        ])

    doomed_free : (came : List Frame) (l : Line) → Free came l → Free came (doomed l)
    doomed_free came l x = λ r. absurd (false≢true (sym r))

    other_took : (v : View) (m : ℕ) (came : List Frame) (bytes : List ℕ) (o : Option Line) → (n == m) ≡ false → IfLine (Free came) (line_in n v.table.lines) → IfLine (Free came) (line_in n (took_with (hearer_of v) v.table m bytes o).lines)
    other_took v m came bytes None other x = x
    other_took v m came bytes (Some l) other x =
        let g = given_of l.reader bytes in
        let t = at_line m (read_on (length bytes) g) v.table in
        other_stays (Free came) (hearer_of v) n m other (doomed_free came) g (counted l.name (length bytes) t)
        (counted_lines (Free came) n l.name (length bytes) t (if_other (Free came) n m (read_on (length bytes) g) v.table.lines other (λ y e. read_keeps (length bytes) g y) x))

    desk_free : (came : List Frame) (k : Speaker) (own : Option TurnFrame) (count : ℕ) (t : Table) (l : Line) (o : Option Seat) → line_in n t.lines ≡ Some l → Free came l → IfLine (Free came) (line_in n (gave_with k own count t (desk_with l o)).lines)
    desk_free came k own count t l None e x = subst (IfLine (Free came)) (sym e) x
    desk_free came k own count t l (Some c) e x =
        let d : Desk = record { line = l; seat = c } in
        let to : Line = (gave_on k own count d).line in
        let w = keeps_gave k own count d in
        let same : to.socket ≡ n = w.0 ∙ line_is n t.lines l e in
        subst (λ (m : ℕ). IfLine (Free came) (line_in n (in_lines m (λ _. to) t.lines))) (sym same)
        (if_own (λ y. y ≡ l) (Free came) n (λ _. to) t.lines (λ y z. same ∙ sym z) (λ y z r right name a. x (sym w.3 ∙ right) (sym w.4 ∙ name) a) (subst (IfLine (λ y. y ≡ l)) (sym e) refl))

    gave_free : (came : List Frame) (v : View) (m : ℕ) (bytes : List ℕ) → IfLine (Free came) (line_in n v.table.lines) → IfLine (Free came) (line_in n (after v (Gave m bytes)).table.lines)
    gave_free came v m bytes x = go (m == n) refl
      where
        own : (o : Option Line) → line_in n v.table.lines ≡ o → IfLine (Free came) (line_in n (gave_by (speaker_of v.setting) (safe_frames v) (length bytes) v.table o).lines)
        own None e = x
        own (Some l) e = desk_free came (speaker_of v.setting) (own_at (safe_frames v) l) (length bytes) v.table l (seat_by v.table (N.player_of l)) e (subst (IfLine (Free came)) e x)

        go : (b : Bool) → (m == n) ≡ b → IfLine (Free came) (line_in n (after v (Gave m bytes)).table.lines)
        go true e = subst (λ (y : ℕ). IfLine (Free came) (line_in n (after v (Gave y bytes)).table.lines)) (sym (eqb-true m n e)) (own (line_of v.table n) refl)
        go false e = other_gave v.setting (Free came) n m (safe_frames v) (length bytes) v.table (line_of v.table m) (flip m n e) refl x

    listed_free : (came : List Frame) (t : Table) (list : List Ready) → (opens list n ≡ true → came ≡ []) → IfLine (Free came) (line_in n t.lines) → IfLine (Free came) (line_in n (fold listed t list).lines)
    listed_free came t [] new x = x
    listed_free came t (Opened m ∷ list) new x =
        listed_free came (listed t (Opened m)) list (λ e. new (any (m == n) e)) (if_more (Free came) n _ t.lines (λ e r name a. subst (λ (fs : List Frame). Has fs a.0) (new (ap (λ (b : Bool). b || opens list n) e)) a.1) x)
      where
        any : (b : Bool) → opens list n ≡ true → (b || opens list n) ≡ true
        any true e = refl
        any false e = e
    listed_free came t (Seems m ∷ list) new x = listed_free came (listed t (Seems m)) list new (if_either (Free came) n m woken t.lines (λ l. refl) (λ l y. y) x)

    kept_free : (came : List Frame) (v : View) (o : Option Entry) → IfLine (Free came) (line_in n v.table.lines) → IfLine (Free came) (line_in n (kept_entry v o).table.lines)
    kept_free came v None x = x
    kept_free came v (Some e) x = line_sorted (Free came) n (with_entry e v).table.waiting (with_entry e v) x

    took_so : (s : Setting) (own : List TurnFrame) (v : View) (facts : Facts) (m : ℕ) (bytes : List ℕ) → IfLine (Told s own facts) (line_in n v.table.lines) → IfLine (Free facts.came) (line_in n v.table.lines) →
        So (facts_after n facts (Took m bytes)).came (after v (Took m bytes)).table
    took_so s own v facts m bytes k x = go (m == n) refl
      where
        w : View
        w = with_table (took_on (hearer_of v) m bytes v.table) v

        done : (came : List Frame) → So came w.table → So came (after v (Took m bytes)).table
        done came (inl y) = inl (most_sorted w y)
        done came (inr y) = inr (line_sorted (Free came) n w.table.waiting w y)

        go : (b : Bool) → (m == n) ≡ b → So (if b then with_taken facts bytes else facts).came (after v (Took m bytes)).table
        go true e =
            done (facts.came ++ (given_of facts.reader bytes).frames)
            (subst (λ (y : ℕ). So (facts.came ++ (given_of facts.reader bytes).frames) (took_on (hearer_of v) y bytes v.table)) (sym (eqb-true m n e)) (own_took v facts own s bytes (line_of v.table n) refl k x))
        go false e = done facts.came (inr (other_took v m facts.came bytes (line_of v.table m) (flip m n e) x))

    gave_came : (facts : Facts) (m : ℕ) (bytes : List ℕ) → (facts_after n facts (Gave m bytes)).came ≡ facts.came
    gave_came facts m bytes = go (m == n)
      where
        go : (b : Bool) → (if b then record facts { given = facts.given ++ bytes } else facts).came ≡ facts.came
        go true = refl
        go false = refl

    dialled_came : (facts : Facts) (m r : ℕ) → (if m == n then record facts { dialled = facts.dialled ++ r ∷ [] } else facts).came ≡ facts.came
    dialled_came facts m r = go (m == n)
      where
        go : (b : Bool) → (if b then record facts { dialled = facts.dialled ++ r ∷ [] } else facts).came ≡ facts.came
        go true = refl
        go false = refl

    so_line : (s : Setting) (own : List TurnFrame) (v : View) (facts : Facts) (item : Item) → (is_opening item n ≡ true → facts.came ≡ []) → Differ v.table.lines → IfLine (Told s own facts) (line_in n v.table.lines) → IfLine (Free facts.came) (line_in n v.table.lines) →
        So (facts_after n facts item).came (after v item).table
    so_line s own v facts (Took m bytes) new d k x = took_so s own v facts m bytes k x
    so_line s own v facts (Gave m bytes) new d k x = inr (subst (λ (came : List Frame). IfLine (Free came) (line_in n (after v (Gave m bytes)).table.lines)) (sym (gave_came facts m bytes)) (gave_free facts.came v m bytes x))
    so_line s own v facts (Dialled m r addr) new d k x =
        inr (subst (λ (came : List Frame). IfLine (Free came) (line_in n (after v (Dialled m r addr)).table.lines)) (sym (dialled_came facts m r)) (if_more (Free facts.came) n _ v.table.lines (λ e r name a. subst (λ (fs : List Frame). Has fs a.0) (new e) a.1) x))
    so_line s own v facts (Polled list) new d k x = inr (listed_free facts.came (rested v.table) list new (if_open (Free facts.came) n v.table.lines d x))
    so_line s own v facts (ReadNotYet m) new d k x = inr (if_either (Free facts.came) n m quieted v.table.lines (λ l. refl) (λ l y. y) x)
    so_line s own v facts (WriteNotYet m) new d k x = inr (if_either (Free facts.came) n m blocked v.table.lines (λ l. refl) (λ l y. y) x)
    so_line s own v facts (Ended m) new d k x = inr (if_either (Free facts.came) n m closed v.table.lines (λ l. refl) (λ l y. y) x)
    so_line s own v facts (Shut m) new d k x = inr (if_either (Free facts.came) n m closed v.table.lines (λ l. refl) (λ l y. y) x)
    so_line s own v facts (Failed (ReadCall m)) new d k x = inr (if_either (Free facts.came) n m closed v.table.lines (λ l. refl) (λ l y. y) x)
    so_line s own v facts (Failed (WriteCall m)) new d k x = inr (if_either (Free facts.came) n m closed v.table.lines (λ l. refl) (λ l y. y) x)
    so_line s own v facts (Kept bytes) new d k x = inr (kept_free facts.came v (entry_in v.writer bytes) x)
    so_line s own v facts (LogBegun name) new d k x = inr x
    so_line s own v facts (Listening addr) new d k x = inr x
    so_line s own v facts Synced new d k x = inr x
    so_line s own v facts (Failed (ListenCall addr)) new d k x = inr x
    so_line s own v facts (Failed (LogCall name)) new d k x = inr x
    so_line s own v facts (Failed (DialCall r addr)) new d k x = inr x
    so_line s own v facts (Failed PollCall) new d k x = inr x
    so_line s own v facts (Failed (KeepCall bytes)) new d k x = inr x
    so_line s own v facts (Failed SyncCall) new d k x = inr x

    -- ---- the whole history

    abbrev Now : Setting → List Item → Type 0
    Now s items = So (facts_in n items).came (view_of s items).table

    now_next : (s : Setting) (front : List Item) (item : Item) (more : List Item) → SocketsAreNew (front ++ item ∷ more) → IsHistory s (front ++ item ∷ more) → Now s front → Now s (front ++ item ∷ [])
    now_next s front item more new h x =
        let v = view_of s front in
        let facts = facts_in n front in
        let k = knows_in s n front (fewer_new front (item ∷ more) new) (before (start s) front (item ∷ more) h) in
        let fresh : is_opening item n ≡ true → facts.came ≡ [] = λ o. ap (λ (f : Facts). f.came) (k.empty (opening_fresh front item n (new front more item refl) o)) in
        let step : So (facts_after n facts item).came (after v item).table = elim x [
          | inl y ↦ inl (most_after v item y)
          | inr y ↦ so_line s (safe_frames v) v facts item fresh k.told.differ k.at.line y
        ] in
        subst (λ (f : Facts). So f.came (view_of s (front ++ item ∷ [])).table) (sym (fold-append (facts_after n) no_facts front (item ∷ [])))
        (subst (λ (w : View). So (facts_after n facts item).came w.table) (sym (fold-append after (start s) front (item ∷ []))) step)

    now_items : (s : Setting) (front items : List Item) → SocketsAreNew (front ++ items) → IsHistory s (front ++ items) → Now s front → Now s (front ++ items)
    now_items s front [] new h x = subst (Now s) (sym (append-nil front)) x
    now_items s front (item ∷ items) new h x =
        let same = append_assoc front (item ∷ []) items in
        subst (Now s) same (now_items s (front ++ item ∷ []) items (subst SocketsAreNew (sym same) new) (subst (IsHistory s) (sym same) h) (now_next s front item items new h x))

    now_all : (s : Setting) (items : List Item) → SocketsAreNew items → IsHistory s items → Now s items
    now_all s items new h = now_items s [] items new h (inr tt)

-- ---- where further bytes are taken

-- a line on which bytes are taken is found, and nothing asks to shut it
right_read : (v : View) (o : Option Line) → may_read_line v o ≡ true → (l : Line) × (o ≡ Some l) × (l.is_wrong ≡ false)
right_read v None h = absurd (false≢true h)
right_read v (Some l) h =
    let wants = and_parts _ _ (and_parts _ _ (and_parts _ _ h).1).0 in
    (l, refl, right l.is_open l.is_wrong (room_on v.table l == 0) wants.0 wants.1)
  where
    right : (a b c : Bool) → a ≡ true → not (a && (b || c)) ≡ true → b ≡ false
    right true true c x y = absurd (false≢true y)
    right true false c x y = refl
    right false b c x y = absurd (false≢true x)

-- it has the name of the HELLO that came first on it
name_is : (s : Setting) (came : List Frame) (l : Line) (o : Option ℕ) (id pass : List ℕ) (q next : ℕ) (rest : List Frame) → came ≡ Hello id q pass next ∷ rest → NameSo s came o → (o ≡ None → came ≡ []) → o ≡ Some q
name_is s came l None id pass q next rest e k none = absurd (let x : [] ≡ Hello id q pass next ∷ rest = sym (none refl) ∙ e in cc)
name_is s came l (Some p) id pass q next rest e k none =
    (let x : Hello s.game.id p k.0 k.1 ∷ k.2 ≡ Hello id q pass next ∷ rest = sym k.4 ∙ e in let y : p ≡ q = cc in ap (λ (z : ℕ). Some z) y)

pub asked_are_counted : AskedAreCounted
asked_are_counted s front more n q place bytes id pass next rest c new h came asked seat =
    let v = view_of s front in
    let item = Took n bytes in
    let old = fewer_new front (item ∷ more) new in
    let history = before (start s) front (item ∷ more) h in
    let k = knows_in s n front old history in
    let facts = facts_in n front in
    let read = right_read v (line_of v.table n) (and_parts _ _ (and_parts _ _ (items_are_allowed s front more item h)).0).0 in
    let told : Told s (safe_frames v) facts read.0 = subst (IfLine (Told s (safe_frames v) facts)) read.1 k.at.line in
    let same = facts_came n front in
    let name = name_is s facts.came read.0 read.0.name id pass q next rest (same ∙ came) told.named (λ e. told.unnamed e read.2) in
    let most : Most q place v.table.seats = elim (now_all q place n s front old history) [
      | inl x ↦ x
      | inr x ↦ absurd (subst (IfLine (Free q place facts.came)) read.1 x read.2 name (subst (λ (fs : List Frame). IsAsked fs place) (sym same) asked))
    ] in
    let end : Most q place (view_of s (front ++ item ∷ more)).table.seats = subst (λ (w : View). Most q place w.table.seats) (sym (fold-append after (start s) front (item ∷ more))) (most_items q place v (item ∷ more) most) in
    count_found (R q place) q (view_of s (front ++ item ∷ more)).table.seats c end seat (seat_found (λ x. Unit {0}) q (view_of s (front ++ item ∷ more)).table.seats c seat)
