-- Counted: a player's count of own frames goes no further than it asked, or than frames were
-- wholly given to it.
use Rattle.std.proofs.Common.{◌≡◌, ◌⊎◌, inl, inr, ℕ, ◌+◌, Bool, true, false, refl, sym, ap, subst, ◌∙◌, List, [], ◌∷◌, ◌++◌, append_assoc, append-nil, length, max, take, arith, nat_lt, ltb-true, ltb-false}
use Rattle.std.specs.Prelude.{Option, Some, None, ◌==◌, find, map, flat_map, if◌then◌else◌}
use Rattle.std.specs.List.{fold}
use Rattle.std.proofs.lemmas.Bool.{and_parts, eqb-true, eq-eqb}
use Rattle.std.proofs.lemmas.Slice.Eq.{bytes_eq-Decides}
use Rattle.std.proofs.lemmas.List.Sums.{fold-append}
use Rattle.definitions.specs.declared.frames.TurnFrame.{TurnFrame}
use Rattle.definitions.specs.declared.logs.Entry.{Entry}
use Rattle.definitions.specs.Lists.{EachIs}
use Rattle.definitions.specs.Logs.{player_of}
use Rattle.definition_laws.specs.Members.{Has}
use Rattle.wire_frames.specs.declared.frames.Frame.{Frame}
use Rattle.wire_frames.specs.declared.frames.Frame.TheVariants.{Hello, Turn, Want}
use Rattle.wire_frames.specs.Spelling.{spelling}
use Rattle.wire_frames.specs.Reading.{Reading}
use Rattle.wire_frames.specs.Streams.{Given, given_of, given_over}
use Rattle.rosters.specs.declared.roster.Link.{Link}
use Rattle.socket_station.specs.declared.answers.Ready.{Ready}
use Rattle.socket_station.specs.declared.answers.Ready.TheVariants.{Opened, Socket as Seems}
use Rattle.socket_station.specs.Items.{Item, ListenCall, LogCall, DialCall, PollCall, ReadCall, WriteCall, KeepCall, SyncCall, Listening, LogBegun, Dialled, Polled, Took, Gave, ReadNotYet, WriteNotYet, Ended, Failed, Shut, Kept, Synced}
use Rattle.socket_station.specs.Moved.{gave_at}
use Rattle.socket_lines.specs.declared.line.Line.{Line}
use Rattle.socket_lines.specs.declared.seat.Seat.{Seat}
use Rattle.socket_lines.specs.Asks.{is_asked}
use Rattle.socket_lines.specs.Seats as S
use Rattle.socket_lines.specs.Seats.{asks, dials, is_asked_for, may_want, new_seat, obeys, reaches, rests, spends}
use Rattle.socket_lines.specs.Lines.{doomed, moved_to}
use Rattle.socket_lines.specs.Lines as N
use Rattle.socket_lines.specs.Giving.{Desk}
use Rattle.loop_rules.specs.Settings.{Setting, last_place, speaker_of}
use Rattle.loop_rules.specs.Tables.{Table, line_of, seat_of, seat_by, at_line, at_seat, in_seats, desk_with, room_on}
use Rattle.loop_rules.specs.Views.{View, start, safe_frames}
use Rattle.loop_rules.specs.Hearing.{Hearer, names, named, heard_first, obeyed, arrived, heard_named, heard_by, heard_on, heard, heard_all, counted, read_on, took_on, took_with}
use Rattle.loop_rules.specs.Handling.{hearer_of, sorted}
use Rattle.loop_rules.specs.Keeping.{with_entry, kept_entry}
use Rattle.peer_rules.specs.Entries.{entry_in}
use Rattle.loop_rules.specs.After.{after, gave_by, gave_on, gave_with, listed, own_at, rested, view_of, with_table}
use Rattle.loop_rules.specs.Rules.{due_at, are_due, is_allowed, is_front, may_write_line}
use Rattle.loop_rules.specs.Histories.{IsHistory}
use Rattle.loop_rules.proofs.Alike.{keeps_gave}
use Rattle.loop_rules.proofs.Prefixes.{before, items_are_allowed}
use Rattle.loop_laws.specs.Sockets.{SocketsAreNew, came_on}
use Rattle.loop_laws.specs.Speaking.{IsNamed, IsAsked}
use Rattle.loop_laws.specs.Counting.{IsReachedOn, IsWhollyGiven}
use Rattle.loop_laws.specs.Laws.{CountsAreReached}
use Rattle.loop_laws.proofs.Bytes.{adds, facts_came, facts_given, facts_in, piece_at}
use Rattle.loop_laws.proofs.Finds.{line_in, IfLine, if_own}
use Rattle.loop_laws.proofs.Frames.{OwnMore, asked_last, asked_more, named_more}
use Rattle.loop_laws.proofs.Given.{Knows, knows_in}
use Rattle.loop_laws.proofs.Giving.{count_desk}
use Rattle.loop_laws.proofs.Handled.{fewer_new, right_line}
use Rattle.loop_laws.proofs.Hearing.{Linked, is_wanted, links_heard, so_on}
use Rattle.loop_laws.proofs.Owns.{owns_after}
use Rattle.loop_laws.proofs.Speakers.{Facts, NameSo, Told, told_named, with_came}
use Rattle.loop_laws.proofs.Steps.{asks_link, counted_lines, facts_after, links_counted, read_keeps, sorted_table, told_read, with_taken}

-- ---- the seats' counts

-- so it is of each player and its count
abbrev pub CountedBy : (ℕ → ℕ → Type 0) → List Seat → Type 0
CountedBy R seats = EachIs (λ c. R c.link.player c.given) seats

counts_weaker : (R Q : ℕ → ℕ → Type 0) (cs : List Seat) → ((q g : ℕ) → R q g → Q q g) → CountedBy R cs → CountedBy Q cs
counts_weaker R Q [] k each = tt
counts_weaker R Q (c ∷ cs) k each = (k c.link.player c.given each.0, counts_weaker R Q cs k each.1)

pub counts_mapped : (R : ℕ → ℕ → Type 0) (g : Seat → Seat) (cs : List Seat) → ((c : Seat) → R c.link.player c.given → R (g c).link.player (g c).given) → CountedBy R cs → CountedBy R (map g cs)
counts_mapped R g [] k each = tt
counts_mapped R g (c ∷ cs) k each = (k c each.0, counts_mapped R g cs k each.1)

pub counts_at : (R : ℕ → ℕ → Type 0) (q : ℕ) (change : Seat → Seat) (cs : List Seat) → ((c : Seat) → c.link.player ≡ q → R c.link.player c.given → R (change c).link.player (change c).given) →
    CountedBy R cs → CountedBy R (in_seats q change cs)
counts_at R q change cs k each = counts_mapped R (λ c. if c.link.player == q then change c else c) cs (λ c. go c (c.link.player == q) refl) each
  where
    go : (c : Seat) (b : Bool) → (c.link.player == q) ≡ b → R c.link.player c.given → R (if b then change c else c).link.player (if b then change c else c).given
    go c true e r = k c (eqb-true c.link.player q e) r
    go c false e r = r

pub count_found : (R : ℕ → ℕ → Type 0) (q : ℕ) (cs : List Seat) (c : Seat) → CountedBy R cs → find (λ x. x.link.player == q) cs ≡ Some c → R c.link.player c.given
count_found R q [] c each e = absurd (cc)
count_found R q (d ∷ cs) c each e = go (d.link.player == q) e (count_found R q cs c each.1)
  where
    go : (b : Bool) → (if b then Some d else find (λ x. x.link.player == q) cs) ≡ Some c → (find (λ x. x.link.player == q) cs ≡ Some c → R c.link.player c.given) → R c.link.player c.given
    go true f more = let same : d ≡ c = cc in subst (λ (x : Seat). R x.link.player x.given) same each.0
    go false f more = more f

max_is : (a b : ℕ) → (max a b ≡ a) ⊎ (max a b ≡ b)
max_is a b = go (nat_lt a b) refl
  where
    go : (t : Bool) → nat_lt a b ≡ t → (max a b ≡ a) ⊎ (max a b ≡ b)
    go true e = let less = ltb-true a b e in inr (omega (arith, less))
    go false e = let most = ltb-false a b e in inl (omega (arith, most))

-- what holds of two counts holds of the greater one
max_either : (R : ℕ → Type 0) (a b : ℕ) → R a → R b → R (max a b)
max_either R a b x y = elim (max_is a b) [ inl e ↦ subst R (sym e) x | inr e ↦ subst R (sym e) y ]

-- ---- frames that come on a player's socket

module _ (s : Setting) (own : List TurnFrame) (facts : Facts) (h : Hearer) (n : ℕ) (same_id : h.id ≡ s.game.id) (base : ℕ → ℕ → Type 0) where
  abbrev L : Link → Type 0
  L link = Has s.roster.links link

  -- the count was reached before, or was asked for by these frames
  abbrev R : List Frame → ℕ → ℕ → Type 0
  R came q g = base q g ⊎ (IsNamed s came q × IsAsked came g)

  abbrev Line_so : List Frame → Table → Type 0
  Line_so came t = IfLine (λ l. Told s own (with_came facts came) l) (line_in n t.lines)

  r_grown : (came : List Frame) (f : Frame) (q g : ℕ) → R came q g → R (came ++ f ∷ []) q g
  r_grown came f q g (inl x) = inl x
  r_grown came f q g (inr x) = inr (named_more s came (f ∷ []) q x.0, asked_more came (f ∷ []) g x.1)

  grown : (came : List Frame) (f : Frame) (cs : List Seat) → CountedBy (R came) cs → CountedBy (R (came ++ f ∷ [])) cs
  grown came f cs k = counts_weaker (R came) (R (came ++ f ∷ [])) cs (λ q g x. r_grown came f q g x) k

  -- the player asked for the place
  reached : (came : List Frame) (q place : ℕ) (change : Seat → Seat) (cs : List Seat) → IsNamed s came q → IsAsked came place → ((c : Seat) → (change c).link ≡ c.link) → ((c : Seat) → (change c).given ≡ max c.given place) →
      CountedBy (R came) cs → CountedBy (R came) (in_seats q change cs)
  reached came q place change cs named asked link count k =
      counts_at (R came) q change cs
      (λ c e r.
      subst (λ (x : Link). R came x.player (change c).given) (sym (link c))
      (subst (λ (g : ℕ). R came c.link.player g) (sym (count c))
      (max_either (R came c.link.player) c.given place r (inr (subst (IsNamed s came) (sym e) named, asked))))) k

  counts_if : (came : List Frame) (b : Bool) (t u : Table) → (b ≡ true → CountedBy (R came) t.seats) → CountedBy (R came) u.seats → CountedBy (R came) (if b then t else u).seats
  counts_if came true t u x y = x refl
  counts_if came false t u x y = y

  counts_obeyed : (came : List Frame) (t : Table) (q place : ℕ) (o : Option Seat) → CountedBy (R came) t.seats → CountedBy (R came) (obeyed t n q place o).seats
  counts_obeyed came t q place None k = k
  counts_obeyed came t q place (Some c) k =
      counts_if came (may_want c) (at_seat q obeys (at_line n (moved_to place) t)) t (λ y. counts_at (R came) q obeys t.seats (λ d e r. r) k) k

  counts_first : (came : List Frame) (t : Table) (l : Line) (f : Frame) → l.name ≡ None → l.is_wrong ≡ false → Told s own (with_came facts came) l → Linked L t.seats → CountedBy (R came) t.seats →
      CountedBy (R (came ++ f ∷ [])) (heard_first h t n l f).seats
  counts_first came t l (Hello id q pass from) none right told links k =
      counts_if (came ++ Hello id q pass from ∷ []) (names h t l id q pass) (named h t n l q from) (at_line n doomed t)
      (λ y.
      let parts = and_parts _ _ (and_parts _ _ y).0 in
      let same : id ≡ s.game.id = (bytes_eq-Decides id h.id).0 parts.0 ∙ same_id in
      let wanted = is_wanted s own facts h n same_id t q pass (seat_of t q) links refl parts.1 in
      let then_told = told_named s own (with_came facts came) l q pass from (h.next q) none right wanted told in
      let is_named : IsNamed s (came ++ Hello id q pass from ∷ []) q = subst (λ (i : List ℕ). IsNamed s (came ++ Hello i q pass from ∷ []) q) (sym same) then_told.named in
      reached (came ++ Hello id q pass from ∷ []) q from (S.names l.taken from) t.seats is_named (asked_last came (Hello id q pass from) from refl) (λ c. refl) (λ c. refl)
      (grown came (Hello id q pass from) t.seats k)) (grown came (Hello id q pass from) t.seats k)
  counts_first came t l (Turn f) none right told links k = grown came (Turn f) t.seats k
  counts_first came t l (Want place) none right told links k = grown came (Want place) t.seats k

  counts_named : (came : List Frame) (t : Table) (q : ℕ) (f : Frame) → IsNamed s came q → CountedBy (R came) t.seats → CountedBy (R (came ++ f ∷ [])) (heard_named t n q f).seats
  counts_named came t q (Hello id p pass from) named k = grown came (Hello id p pass from) t.seats k
  counts_named came t q (Turn f) named k =
      counts_if (came ++ Turn f ∷ []) (player_of f == q) (arrived t q f) (at_line n doomed t) (λ y. grown came (Turn f) t.seats k) (grown came (Turn f) t.seats k)
  counts_named came t q (Want place) named k =
      let all = came ++ Want place ∷ [] in
      reached all q place (reaches place) (obeyed t n q place (seat_of t q)).seats (named_more s came (Want place ∷ []) q named) (asked_last came (Want place) place refl) (λ c. refl) (λ c. refl)
      (counts_obeyed all t q place (seat_of t q) (grown came (Want place) t.seats k))

  counts_by : (came : List Frame) (t : Table) (l : Line) (o : Option ℕ) (f : Frame) → l.name ≡ o → l.is_wrong ≡ false → Told s own (with_came facts came) l → Linked L t.seats → CountedBy (R came) t.seats →
      CountedBy (R (came ++ f ∷ [])) (heard_by h t n l o f).seats
  counts_by came t l None f e right told links k = counts_first came t l f e right told links k
  counts_by came t l (Some q) f e right told links k = counts_named came t q f (subst (NameSo s came) e told.named) k

  counts_right : (came : List Frame) (t : Table) (l : Line) (f : Frame) (wrong : Bool) → l.is_wrong ≡ wrong → Told s own (with_came facts came) l → Linked L t.seats → CountedBy (R came) t.seats →
      CountedBy (R (came ++ f ∷ [])) (if wrong then t else heard_by h t n l l.name f).seats
  counts_right came t l f true e told links k = grown came f t.seats k
  counts_right came t l f false e told links k = counts_by came t l l.name f refl e told links k

  counts_on : (came : List Frame) (t : Table) (f : Frame) (o : Option Line) → IfLine (λ l. Told s own (with_came facts came) l) o → Linked L t.seats → CountedBy (R came) t.seats →
      CountedBy (R (came ++ f ∷ [])) (heard_on h t n f o).seats
  counts_on came t f None p links k = grown came f t.seats k
  counts_on came t f (Some l) p links k = counts_right came t l f l.is_wrong refl p links k

  counts_each : (came : List Frame) (t : Table) (fs : List Frame) → Line_so came t → Linked L t.seats → CountedBy (R came) t.seats → CountedBy (R (came ++ fs)) (fold (heard h n) t fs).seats
  counts_each came t [] p links k = subst (λ (x : List Frame). CountedBy (R x) t.seats) (sym (append-nil came)) k
  counts_each came t (f ∷ fs) p links k =
      subst (λ (x : List Frame). CountedBy (R x) (fold (heard h n) (heard h n t f) fs).seats) (append_assoc came (f ∷ []) fs)
      (counts_each (came ++ f ∷ []) (heard h n t f) fs (so_on s own facts h n same_id came t f (line_of t n) refl links p) (links_heard L h n t f links)
      (counts_on came t f (line_of t n) p links k))

  counts_all : (came : List Frame) (g : Given) (t : Table) → Line_so came t → Linked L t.seats → CountedBy (R came) t.seats → CountedBy (R (came ++ g.frames)) (heard_all h n g t).seats
  counts_all came g t p links k =
      let u = fold (heard h n) t g.frames in
      let w = counts_each came t g.frames p links k in
      counts_if (came ++ g.frames) g.reader.bad (at_line n doomed u) u (λ y. w) w

-- ---- the counts after each item

-- the count is none, or was reached on a socket of the player
abbrev Reached : Setting → (own : List TurnFrame) → List Item → ℕ → ℕ → Type 0
Reached s own items q g = (g ≡ 0) ⊎ ((n : ℕ) × IsReachedOn s own (facts_in n items).came (facts_in n items).given q g)

given_further : (own made : List TurnFrame) (given more : List ℕ) (place : ℕ) → OwnMore own made → IsWhollyGiven own given place → IsWhollyGiven made (given ++ more) place
given_further own made given more place o k = record {
  frame = k.frame;
  stands = o place k.frame k.stands;
  front = k.front;
  back = k.back;
  rest = k.rest ++ more;
  spelled = ap (λ (x : List ℕ). x ++ more) k.spelled ∙ append_assoc (flat_map spelling (k.front ++ Turn k.frame ∷ k.back)) k.rest more;
}

on_further : (s : Setting) (own made : List TurnFrame) (came news : List Frame) (given more : List ℕ) (q g : ℕ) → OwnMore own made → IsReachedOn s own came given q g →
    IsReachedOn s made (came ++ news) (given ++ more) q g
on_further s own made came news given more q g o k = (
  named_more s came news q k.0,
  elim k.1 [
    | inl x ↦ inl (asked_more came news g x)
    | inr x ↦ inr (x.0, x.1, given_further own made given more x.0 o x.2)
  ],
)

-- what an item adds
facts_next : (n : ℕ) (items : List Item) (item : Item) → facts_in n (items ++ item ∷ []) ≡ facts_after n (facts_in n items) item
facts_next n items item = fold-append (facts_after n) _ items (item ∷ [])

reached_further : (s : Setting) (own made : List TurnFrame) (items : List Item) (item : Item) (q g : ℕ) → OwnMore own made → Reached s own items q g → Reached s made (items ++ item ∷ []) q g
reached_further s own made items item q g o (inl e) = inl e
reached_further s own made items item q g o (inr x) =
    let n = x.0 in
    let facts = facts_in n items in
    let a = adds n facts item in
    let news = (given_over facts.reader (piece_at n item)).frames in
    let more = gave_at n item in
    let k : IsReachedOn s made (facts.came ++ news) (facts.given ++ more) q g = on_further s own made facts.came news facts.given more q g o x.1 in
    inr (
      n,
      subst (λ (f : Facts). IsReachedOn s made f.came f.given q g) (sym (facts_next n items item))
          (subst (λ (y : List ℕ). IsReachedOn s made (facts_after n facts item).came y q g) (sym a.0)
          (subst (λ (y : List Frame). IsReachedOn s made y (facts.given ++ more) q g) (sym a.2) k)),
    )

given_owns : (own made : List TurnFrame) (given : List ℕ) (place : ℕ) → OwnMore own made → IsWhollyGiven own given place → IsWhollyGiven made given place
given_owns own made given place o k = record { frame = k.frame; stands = o place k.frame k.stands; front = k.front; back = k.back; rest = k.rest; spelled = k.spelled }

reached_owns : (s : Setting) (own made : List TurnFrame) (items : List Item) (q g : ℕ) → OwnMore own made → Reached s own items q g → Reached s made items q g
reached_owns s own made items q g o (inl e) = inl e
reached_owns s own made items q g o (inr x) =
    let given = (facts_in x.0 items).given in
    inr (x.0, (x.1.0, elim x.1.1 [ inl a ↦ inl a | inr b ↦ inr (b.0, b.1, given_owns own made given b.0 o b.2) ]))

asks_given : (place : ℕ) (c : Seat) → (asks place c).given ≡ c.given
asks_given place c = go (is_asked c.asks place)
  where
    go : (b : Bool) → (if b then c else is_asked_for place c).given ≡ c.given
    go true = refl
    go false = refl

counts_asks : (R : ℕ → ℕ → Type 0) (q place : ℕ) (cs : List Seat) → CountedBy R cs → CountedBy R (in_seats q (asks place) cs)
counts_asks R q place cs k =
    counts_at R q (asks place) cs
    (λ c e r. subst (λ (x : Link). R x.player (asks place c).given) (sym (asks_link place c)) (subst (λ (g : ℕ). R c.link.player g) (sym (asks_given place c)) r)) k

counts_sorted : (R : ℕ → ℕ → Type 0) (v : View) (w : View) → CountedBy R w.table.seats → CountedBy R (sorted v.table.waiting w).table.seats
counts_sorted R v w k = sorted_table (λ t. CountedBy R t.seats) (λ t waiting x. x) (λ t q place x. counts_asks R q place t.seats x) v.table.waiting w k

counts_listed : (R : ℕ → ℕ → Type 0) (t : Table) (list : List Ready) → CountedBy R t.seats → CountedBy R (fold listed t list).seats
counts_listed R t [] k = k
counts_listed R t (Opened m ∷ list) k = counts_listed R (listed t (Opened m)) list k
counts_listed R t (Seems m ∷ list) k = counts_listed R (listed t (Seems m)) list k

counts_kept : (R : ℕ → ℕ → Type 0) (v : View) (o : Option Entry) → CountedBy R v.table.seats → CountedBy R (kept_entry v o).table.seats
counts_kept R v None k = k
counts_kept R v (Some e) k = counts_sorted R (with_entry e v) (with_entry e v) k

counts_counted : (R : ℕ → ℕ → Type 0) (o : Option ℕ) (count : ℕ) (t : Table) → CountedBy R t.seats → CountedBy R (counted o count t).seats
counts_counted R None count t k = k
counts_counted R (Some q) count t k = counts_at R q (spends count) t.seats (λ c e r. r) k

pub seat_found : (L : Link → Type 0) (q : ℕ) (cs : List Seat) (c : Seat) → find (λ x. x.link.player == q) cs ≡ Some c → c.link.player ≡ q
seat_found L q [] c e = absurd (cc)
seat_found L q (d ∷ cs) c e = go (d.link.player == q) refl e (seat_found L q cs c)
  where
    go : (b : Bool) → (d.link.player == q) ≡ b → (if b then Some d else find (λ x. x.link.player == q) cs) ≡ Some c → (find (λ x. x.link.player == q) cs ≡ Some c → c.link.player ≡ q) → c.link.player ≡ q
    go true k f more = let same : d ≡ c = cc in ap (λ (x : Seat). x.link.player) (sym same) ∙ eqb-true d.link.player q k
    go false k f more = more f

-- the line may be written only where it is not wrong
right_written : (v : View) (l : Line) → may_write_line v (Some l) ≡ true → l.is_wrong ≡ false
right_written v l h =
    let asks = and_parts _ _ (and_parts _ _ (and_parts _ _ h).0).0 in
    right_line l.is_open l.is_wrong (room_on v.table l == 0) (and_parts _ _ asks.0).1 asks.1

-- the player of the seat beside a line on which an own frame was given is named there
named_there : (s : Setting) (own : List TurnFrame) (facts : Facts) (t : Table) (l : Line) (c : Seat) (name by : Option ℕ) → l.name ≡ name → l.is_wrong ≡ false → Told s own facts l →
    seat_by t (N.or_else name by) ≡ Some c → (q : ℕ) × IsNamed s facts.came q → IsNamed s facts.came c.link.player
named_there s own facts t l c None by e right k f n =
    absurd (let x : [] ≡ Hello s.game.id n.0 n.1.0 n.1.1 ∷ n.1.2 = sym (k.unnamed e right) ∙ n.1.4 in cc)
named_there s own facts t l c (Some q) by e right k f n =
    subst (IsNamed s facts.came) (sym (seat_found (λ x. Unit {0}) q t.seats c f)) (subst (NameSo s facts.came) e k.named)

count_by : (R : ℕ → ℕ → Type 0) (t : Table) (o : Option ℕ) (c : Seat) → CountedBy R t.seats → seat_by t o ≡ Some c → R c.link.player c.given
count_by R t None c k e = absurd (let x : None ≡ Some c = e in cc)
count_by R t (Some q) c k e = count_found R q t.seats c k e

-- ---- the counts after an item

module _ (s : Setting) (items : List Item) (item : Item) (knows : (n : ℕ) → Knows s n items) where
  abbrev v : View
  v = view_of s items

  abbrev safe : List TurnFrame
  safe = safe_frames v

  abbrev all : List Item
  all = items ++ item ∷ []

  abbrev T : ℕ → ℕ → Type 0
  T q g = Reached s safe all q g

  counts_then : CountedBy (Reached s safe items) v.table.seats → CountedBy T v.table.seats
  counts_then k = counts_weaker (Reached s safe items) T v.table.seats (λ q g x. reached_further s safe safe items item q g (λ place f e. e) x) k

  -- on this socket it was reached
  on_socket : (n q g : ℕ) (facts : Facts) → facts_after n (facts_in n items) item ≡ facts → IsReachedOn s safe facts.came facts.given q g → T q g
  on_socket n q g facts e x = inr (n, subst (λ (f : Facts). IsReachedOn s safe f.came f.given q g) (sym (facts_next n items item ∙ e)) x)

  counts_took : (n : ℕ) (bytes : List ℕ) (o : Option Line) → item ≡ Took n bytes → line_in n v.table.lines ≡ o → CountedBy (Reached s safe items) v.table.seats → CountedBy T (took_with (hearer_of v) v.table n bytes o).seats
  counts_took n bytes None is e k = counts_then k
  counts_took n bytes (Some l) is e k =
      let facts = facts_in n items in
      let at = (knows n).at in
      let L : Link → Type 0 = λ link. Has s.roster.links link in
      let base : ℕ → ℕ → Type 0 = λ q g. Reached s safe items q g in
      let told : Told s safe facts l = subst (IfLine (Told s safe facts)) e at.line in
      let g = given_of l.reader bytes in
      let read : Facts = record facts { reader = g.reader } in
      let t = at_line n (read_on (length bytes) g) v.table in
      let first : IfLine (Told s safe read) (line_in n t.lines) =
      if_own (Told s safe facts) (Told s safe read) n (read_on (length bytes) g) v.table.lines (λ x q. read_keeps (length bytes) g x) (λ x q y. told_read s safe facts x (length bytes) g y) at.line in
      let u = counted l.name (length bytes) t in
      let out = counts_all s safe read (hearer_of v) n (ap (λ (z : Setting). z.game.id) at.setting) base facts.came g u (counted_lines (Told s safe read) n l.name (length bytes) t first)
      (links_counted L l.name (length bytes) t at.links)
      (counts_counted (λ q c. base q c ⊎ (IsNamed s facts.came q × IsAsked facts.came c)) l.name (length bytes) t
      (counts_weaker base (λ q c. base q c ⊎ (IsNamed s facts.came q × IsAsked facts.came c)) v.table.seats (λ q c x. inl x) k)) in
      let same : facts_after n facts item ≡ with_taken facts bytes = ap (facts_after n facts) is ∙ ap (λ (b : Bool). if b then with_taken facts bytes else facts) (eq-eqb n n refl) in
      counts_weaker (λ q c. base q c ⊎ (IsNamed s (facts.came ++ g.frames) q × IsAsked (facts.came ++ g.frames) c)) T (heard_all (hearer_of v) n g u).seats
      (λ q c x. elim x [
        | inl y ↦ reached_further s safe safe items item q c (λ place f z. z) y
        | inr y ↦ on_socket n q c (with_taken facts bytes) same
            (subst (λ (r : Facts). IsReachedOn s safe (facts.came ++ (given_of r.reader bytes).frames) facts.given q c) (sym_reader l facts told) (y.0, inl y.1))
      ]) out
    where
      sym_reader : (l : Line) (facts : Facts) → Told s safe facts l → record facts { reader = l.reader } ≡ facts
      sym_reader l facts told = ap (λ (r : Reading). record facts { reader = r }) told.reads

  counts_desk : (n : ℕ) (bytes : List ℕ) (l : Line) (o : Option Seat) → item ≡ Gave n bytes → line_in n v.table.lines ≡ Some l → l.is_wrong ≡ false → seat_by v.table (N.player_of l) ≡ o →
      is_front bytes (due_at (speaker_of s) (own_at safe l) (desk_with l o)) ≡ true → CountedBy (Reached s safe items) v.table.seats →
      CountedBy T (gave_with (speaker_of s) (own_at safe l) (length bytes) v.table (desk_with l o)).seats
  counts_desk n bytes l None is e right f h k = counts_then k
  counts_desk n bytes l (Some c) is e right f h k =
      let facts = facts_in n items in
      let at = (knows n).at in
      let told : Told s safe facts l = subst (IfLine (Told s safe facts)) e at.line in
      let d : Desk = record { line = l; seat = c } in
      let to : Seat = (gave_on (speaker_of s) (own_at safe l) (length bytes) d).seat in
      let link : to.link ≡ c.link = (keeps_gave (speaker_of s) (own_at safe l) (length bytes) d).5 in
      let old : T c.link.player c.given = count_by T v.table (N.player_of l) c (counts_then k) f in
      let same : facts_after n facts item ≡ record facts { given = facts.given ++ bytes } =
      ap (facts_after n facts) is ∙ ap (λ (b : Bool). if b then record facts { given = facts.given ++ bytes } else facts) (eq-eqb n n refl) in
      let count : T c.link.player to.given = elim (count_desk s safe facts bytes v.table l c at.links f h told) [
        | inl x ↦ subst (T c.link.player) (sym x) old
        | inr x ↦ subst (T c.link.player) (sym x.1)
            (max_either (T c.link.player) c.given (x.0 + 1) old
            (on_socket n c.link.player (x.0 + 1) (record facts { given = facts.given ++ bytes }) same (named_there s safe facts v.table l c l.name l.dialled refl right told f x.3, inr (x.0, refl, x.2))))
      ] in
      let new : T to.link.player to.given = subst (λ (y : Link). T y.player to.given) (sym link) count in
      counts_at T to.link.player (λ _. to) v.table.seats (λ x q r. new) (counts_then k)

  counts_gave : (n : ℕ) (bytes : List ℕ) (o : Option Line) → item ≡ Gave n bytes → line_in n v.table.lines ≡ o → is_allowed v (Gave n bytes) ≡ true → CountedBy (Reached s safe items) v.table.seats →
      CountedBy T (gave_by (speaker_of s) safe (length bytes) v.table o).seats
  counts_gave n bytes None is e h k = counts_then k
  counts_gave n bytes (Some l) is e h k =
      let p = and_parts _ _ h in
      let write : may_write_line v (Some l) ≡ true = subst (λ (o : Option Line). may_write_line v o ≡ true) e p.0 in
      let due : is_front bytes (due_at (speaker_of v.setting) (own_at safe l) (desk_with l (seat_by v.table (N.player_of l)))) ≡ true = subst (λ (o : Option Line). are_due v bytes o ≡ true) e p.1 in
      counts_desk n bytes l (seat_by v.table (N.player_of l)) is e (right_written v l write) refl
      (subst (λ (z : Setting). is_front bytes (due_at (speaker_of z) (own_at safe l) (desk_with l (seat_by v.table (N.player_of l)))) ≡ true) (knows n).at.setting due) k

  counts_after : (given : Item) → item ≡ given → is_allowed v given ≡ true → CountedBy (Reached s safe items) v.table.seats → CountedBy T (after v given).table.seats
  counts_after (Took n bytes) is h k =
      let w = with_table (took_on (hearer_of v) n bytes v.table) v in
      counts_sorted T w w (counts_took n bytes (line_of v.table n) is refl k)
  counts_after (Gave n bytes) is h k =
      subst (λ (z : Setting). CountedBy T (gave_by (speaker_of z) safe (length bytes) v.table (line_of v.table n)).seats) (sym (knows n).at.setting)
      (counts_gave n bytes (line_of v.table n) is refl h k)
  counts_after (Dialled m q addr) is h k = counts_at T q dials v.table.seats (λ c e r. r) (counts_then k)
  counts_after (Polled list) is h k = counts_listed T (rested v.table) list (counts_mapped T rests v.table.seats (λ c r. r) (counts_then k))
  counts_after (Kept bytes) is h k = counts_kept T v (entry_in v.writer bytes) (counts_then k)
  counts_after (LogBegun name) is h k = counts_then k
  counts_after (Listening addr) is h k = counts_then k
  counts_after (ReadNotYet m) is h k = counts_then k
  counts_after (WriteNotYet m) is h k = counts_then k
  counts_after (Ended m) is h k = counts_then k
  counts_after (Shut m) is h k = counts_then k
  counts_after Synced is h k = counts_then k
  counts_after (Failed (ListenCall addr)) is h k = counts_then k
  counts_after (Failed (LogCall name)) is h k = counts_then k
  counts_after (Failed (DialCall q addr)) is h k = counts_at T q dials v.table.seats (λ c e r. r) (counts_then k)
  counts_after (Failed PollCall) is h k = counts_then k
  counts_after (Failed (ReadCall m)) is h k = counts_then k
  counts_after (Failed (WriteCall m)) is h k = counts_then k
  counts_after (Failed (KeepCall bytes)) is h k = counts_then k
  counts_after (Failed SyncCall) is h k = counts_then k

-- ---- the whole history

abbrev CountsSo : Setting → List Item → Type 0
CountsSo s items = CountedBy (Reached s (safe_frames (view_of s items)) items) (view_of s items).table.seats

counts_next : (s : Setting) (items : List Item) (item : Item) (more : List Item) → SocketsAreNew (items ++ item ∷ more) → IsHistory s (items ++ item ∷ more) → CountsSo s items → CountsSo s (items ++ item ∷ [])
counts_next s items item more new h k =
    let v = view_of s items in
    let w = after v item in
    let all = items ++ item ∷ [] in
    let view : w ≡ view_of s all = sym (fold-append after (start s) items (item ∷ [])) in
    let history : IsHistory s items = before (start s) items (item ∷ more) h in
    let knows : (n : ℕ) → Knows s n items = λ n. knows_in s n items (fewer_new items (item ∷ more) new) history in
    let step = counts_after s items item knows item refl (items_are_allowed s items more item h) k in
    subst (λ (x : View). CountedBy (Reached s (safe_frames x) all) x.table.seats) view
    (counts_weaker (Reached s (safe_frames v) all) (Reached s (safe_frames w) all) w.table.seats (λ q g x. reached_owns s (safe_frames v) (safe_frames w) all q g (owns_after v item) x) step)

counts_items : (s : Setting) (front items : List Item) → SocketsAreNew (front ++ items) → IsHistory s (front ++ items) → CountsSo s front → CountsSo s (front ++ items)
counts_items s front [] new h k = subst (CountsSo s) (sym (append-nil front)) k
counts_items s front (item ∷ items) new h k =
    let same = append_assoc front (item ∷ []) items in
    subst (CountsSo s) same
    (counts_items s (front ++ item ∷ []) items (subst SocketsAreNew (sym same) new) (subst (IsHistory s) (sym same) h) (counts_next s front item items new h k))

counts_none : (R : ℕ → ℕ → Type 0) (most : ℕ) (links : List Link) → ((q : ℕ) → R q 0) → CountedBy R (map (new_seat most) links)
counts_none R most [] k = tt
counts_none R most (x ∷ links) k = (k x.player, counts_none R most links k)

pub counts_are_reached : CountsAreReached
counts_are_reached s items q c new h e =
    let v = view_of s items in
    let safe = safe_frames v in
    let k = knows_in s 0 items new h in
    let all = counts_items s [] items new h (counts_none (Reached s (safe_frames (start s)) []) (last_place s) s.roster.links (λ p. inl refl)) in
    let mine : Reached s safe items q c.given = subst (λ (p : ℕ). Reached s safe items p c.given) (seat_found (λ x. Unit {0}) q v.table.seats c e) (count_found (Reached s safe items) q v.table.seats c all e) in
    record {
      log = take v.synced v.kept;
      synced = k.synced.0;
      reached = elim mine [
        | inl x ↦ inl x
        | inr x ↦ inr (
          x.0,
          subst (λ (y : List ℕ). IsReachedOn s safe (came_on x.0 items) y q c.given) (facts_given x.0 items)
              (subst (λ (y : List Frame). IsReachedOn s safe y (facts_in x.0 items).given q c.given) (facts_came x.0 items) x.1),
        )
      ];
    }
