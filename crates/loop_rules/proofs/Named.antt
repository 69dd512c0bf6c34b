-- Named: what is so of each socket and its name, and of each player's link, stays so behind a change of another kind.
use Rattle.std.proofs.Common.{◌≡◌, ℕ, Bool, true, false, refl, sym, ap, ◌∙◌, subst, List, [], ◌∷◌, ◌++◌}
use Rattle.std.specs.Prelude.{Option, Some, None, ◌==◌, filter, find, map, if◌then◌else◌}
use Rattle.std.specs.List.{fold}
use Rattle.std.proofs.lemmas.Bool.{eqb-true}
use Rattle.plain_lemmas.proofs.Each.{each_kept, each_map, each_push}
use Rattle.definitions.specs.Lists.{EachIs}
use Rattle.definitions.specs.declared.frames.TurnFrame.{TurnFrame}
use Rattle.wire_frames.specs.Streams.{Given}
use Rattle.rosters.specs.declared.roster.Link.{Link}
use Rattle.socket_station.specs.declared.answers.Ready.{Ready}
use Rattle.socket_station.specs.declared.answers.Ready.TheVariants.{Opened, Socket as Seems}
use Rattle.socket_lines.specs.Asks.{is_asked}
use Rattle.socket_lines.specs.declared.line.Line.{Line}
use Rattle.socket_lines.specs.declared.seat.Seat.{Seat}
use Rattle.socket_lines.specs.Seats.{asks, is_asked_for, may_want, obeys, rests, spends}
use Rattle.socket_lines.specs.Lines.{is_named, player_of, doomed, moved_to, woken}
use Rattle.socket_lines.specs.Giving.{Desk, Speaker}
use Rattle.loop_rules.specs.Tables.{Table, line_of, seat_by, in_lines, in_seats, at_line, at_seat, desk_with}
use Rattle.loop_rules.specs.Hearing.{ousted, obeyed, counted, counted_on, read_on, read_at}
use Rattle.loop_rules.specs.After.{listed, rested, gave_on, gave_with, gave_by, own_at}
use Rattle.loop_rules.proofs.Alike.{keeps_gave}

-- it is so of the socket and its name, if it has one
abbrev pub NameIs : (ℕ → ℕ → Type 0) → (socket : ℕ) → Option ℕ → Type 0
NameIs G socket None = Unit {0}
NameIs G socket (Some q) = G socket q

abbrev pub Named : (ℕ → ℕ → Type 0) → Line → Type 0
Named G l = NameIs G l.socket l.name

-- so it is of all sockets of a table, and of all its players' links
pub record Stands (G : ℕ → ℕ → Type 0) (L : Link → Type 0) (t : Table) : Type 0 where
  pub named : EachIs (Named G) t.lines
  pub linked : EachIs (λ c. L c.link) t.seats

-- of the one that is found it is so, and it has the key
pub found_is : {X : Type 0} (key : X → ℕ) (Q : X → Type 0) (n : ℕ) (xs : List X) (x : X) → EachIs Q xs → find (λ y. key y == n) xs ≡ Some x → Q x × (key x ≡ n)
found_is key Q n [] x each e = absurd (cc)
found_is {X} key Q n (y ∷ ys) x each e = go (key y == n) refl e (found_is key Q n ys x each.1)
  where
    go : (b : Bool) → (key y == n) ≡ b → (if b then Some y else find (λ z. key z == n) ys) ≡ Some x → (find (λ z. key z == n) ys ≡ Some x → Q x × (key x ≡ n)) → Q x × (key x ≡ n)
    go true k f more = let same : y ≡ x = cc in (subst Q same each.0, ap key (sym same) ∙ eqb-true (key y) n k)
    go false k f more = more f

-- ---- weaker

name_weaker : (G H : ℕ → ℕ → Type 0) (socket : ℕ) (o : Option ℕ) → ((q : ℕ) → G socket q → H socket q) → NameIs G socket o → NameIs H socket o
name_weaker G H socket None k n = tt
name_weaker G H socket (Some q) k n = k q n

pub stands_weaker : (G H : ℕ → ℕ → Type 0) (L : Link → Type 0) (t : Table) → ((socket q : ℕ) → G socket q → H socket q) → Stands G L t → Stands H L t
stands_weaker G H L t k st = record {
  named = each_kept (Named G) (Named H) t.lines (λ l n. name_weaker G H l.socket l.name (k l.socket) n) st.named;
  linked = st.linked;
}

module _ (G : ℕ → ℕ → Type 0) (L : Link → Type 0) where
  pub stands_if : (b : Bool) (t u : Table) → Stands G L t → Stands G L u → Stands G L (if b then t else u)
  stands_if true t u x y = x
  stands_if false t u x y = y

  -- ---- lines

  named_if : (b : Bool) (l m : Line) → (b ≡ true → Named G m) → Named G l → Named G (if b then m else l)
  named_if true l m new old = new refl
  named_if false l m new old = old

  -- a line is changed
  pub named_at : (s : ℕ) (change : Line → Line) (ls : List Line) → ((l : Line) → l.socket ≡ s → Named G l → Named G (change l)) → EachIs (Named G) ls → EachIs (Named G) (in_lines s change ls)
  named_at s change ls k each =
      let f : Line → Line = λ l. if l.socket == s then change l else l in
      (each_map (Named G) f ls).1 (each_kept (Named G) (λ l. Named G (f l)) ls (λ l n. named_if (l.socket == s) l (change l) (λ b. k l (eqb-true l.socket s b) n) n) each)

  pub named_ousted : (q : ℕ) (ls : List Line) → EachIs (Named G) ls → EachIs (Named G) (map (ousted q) ls)
  named_ousted q ls each = (each_map (Named G) (ousted q) ls).1 (each_kept (Named G) (λ l. Named G (ousted q l)) ls (λ l n. named_if (is_named q l) l (doomed l) (λ b. n) n) each)

  pub stands_line : (s : ℕ) (change : Line → Line) (t : Table) → ((l : Line) → Named G l → Named G (change l)) → Stands G L t → Stands G L (at_line s change t)
  stands_line s change t k st = record { named = named_at s change t.lines (λ l e n. k l n) st.named; linked = st.linked }

  named_moved : (place : ℕ) (l : Line) → Named G l → Named G (moved_to place l)
  named_moved place l n = go l.sending
    where
      go : (o : Option ℕ) → Named G (moved_to place (record l { sending = o }))
      go None = n
      go (Some p) = n

  named_read : (count : ℕ) (g : Given) (l : Line) → Named G l → Named G (read_on count g l)
  named_read count g l n = go l.name
    where
      go : (o : Option ℕ) → Named G (record (counted_on o count l) { reader = g.reader })
      go None = n
      go (Some q) = n

  -- ---- seats

  link_if : (b : Bool) (c d : Seat) → L d.link → L c.link → L (if b then d else c).link
  link_if true c d new old = new
  link_if false c d new old = old

  linked_at : (q : ℕ) (change : Seat → Seat) (cs : List Seat) → ((c : Seat) → L c.link → L (change c).link) → EachIs (λ c. L c.link) cs → EachIs (λ c. L c.link) (in_seats q change cs)
  linked_at q change cs k each =
      let f : Seat → Seat = λ c. if c.link.player == q then change c else c in
      (each_map (λ (c : Seat). L c.link) f cs).1 (each_kept (λ (c : Seat). L c.link) (λ c. L (f c).link) cs (λ c n. link_if (c.link.player == q) c (change c) (k c n) n) each)

  pub stands_seat : (q : ℕ) (change : Seat → Seat) (t : Table) → ((c : Seat) → (change c).link ≡ c.link) → Stands G L t → Stands G L (at_seat q change t)
  stands_seat q change t k st = record { named = st.named; linked = linked_at q change t.seats (λ c n. subst L (sym (k c)) n) st.linked }

  pub stands_asks : (q place : ℕ) (t : Table) → Stands G L t → Stands G L (at_seat q (asks place) t)
  stands_asks q place t st = stands_seat q (asks place) t (λ c. go (is_asked c.asks place) c) st
    where
      go : (b : Bool) (c : Seat) → (if b then c else is_asked_for place c).link ≡ c.link
      go true c = refl
      go false c = refl

  -- ---- reading

  pub stands_obeyed : (t : Table) (s q place : ℕ) (o : Option Seat) → Stands G L t → Stands G L (obeyed t s q place o)
  stands_obeyed t s q place None st = st
  stands_obeyed t s q place (Some c) st =
      let u = at_line s (moved_to place) t in
      stands_if (may_want c) (at_seat q obeys u) t (stands_seat q obeys u (λ d. refl) (stands_line s (moved_to place) t (named_moved place) st)) st

  stands_counted : (o : Option ℕ) (count : ℕ) (t : Table) → Stands G L t → Stands G L (counted o count t)
  stands_counted None count t st = st
  stands_counted (Some q) count t st = stands_seat q (spends count) t (λ c. refl) st

  pub stands_read : (s count : ℕ) (g : Given) (l : Line) (t : Table) → Stands G L t → Stands G L (read_at s count g l t)
  stands_read s count g l t st = stands_counted l.name count (at_line s (read_on count g) t) (stands_line s (read_on count g) t (named_read count g) st)

  -- ---- polls

  each_open : (p : Line → Bool) (ls : List Line) → EachIs (Named G) ls → EachIs (Named G) (filter p ls)
  each_open p [] each = tt
  each_open p (l ∷ ls) each = go (p l) (each_open p ls each.1)
    where
      go : (b : Bool) → EachIs (Named G) (filter p ls) → EachIs (Named G) (if b then l ∷ filter p ls else filter p ls)
      go true rest = (each.0, rest)
      go false rest = rest

  pub stands_more : (l : Line) (t : Table) → l.name ≡ None → Stands G L t → EachIs (Named G) (t.lines ++ l ∷ [])
  stands_more l t e st = each_push (Named G) t.lines l st.named (subst (NameIs G l.socket) (sym e) tt)

  stands_one : (t : Table) (r : Ready) → Stands G L t → Stands G L (listed t r)
  stands_one t (Opened s) st = record { named = stands_more _ t refl st; linked = st.linked }
  stands_one t (Seems s) st = stands_line s woken t (λ l n. n) st

  pub stands_listed : (t : Table) (list : List Ready) → Stands G L t → Stands G L (fold listed t list)
  stands_listed t [] st = st
  stands_listed t (r ∷ list) st = stands_listed (listed t r) list (stands_one t r st)

  pub stands_rested : (t : Table) → Stands G L t → Stands G L (rested t)
  stands_rested t st = record {
    named = each_open (λ l. l.is_open) t.lines st.named;
    linked = (each_map (λ (c : Seat). L c.link) rests t.seats).1 (each_kept (λ (c : Seat). L c.link) (λ c. L (rests c).link) t.seats (λ c n. n) st.linked);
  }

  -- ---- giving

  stands_desk : (k : Speaker) (own : Option TurnFrame) (count : ℕ) (t : Table) (s : ℕ) (l : Line) (p : Option ℕ) → line_of t s ≡ Some l → Stands G L t → (o : Option Seat) → seat_by t p ≡ o →
      Stands G L (gave_with k own count t (desk_with l o))
  stands_desk k own count t s l p e st None f = st
  stands_desk k own count t s l None e st (Some c) f = absurd (cc)
  stands_desk k own count t s l (Some q) e st (Some c) f =
      let d : Desk = record { line = l; seat = c } in
      let after = gave_on k own count d in
      let kept = keeps_gave k own count d in
      let line = (found_is (λ (m : Line). m.socket) (Named G) s t.lines l st.named e).0 in
      let link = (found_is (λ (x : Seat). x.link.player) (λ x. L x.link) q t.seats c st.linked f).0 in
      let line_is : Named G after.line = subst (λ (n : ℕ). NameIs G n after.line.name) (sym kept.0) (subst (NameIs G l.socket) (sym kept.4) line) in
      let seat_is : L after.seat.link = subst L (sym kept.5) link in
      record {
        named = named_at after.line.socket (λ _. after.line) t.lines (λ m x n. line_is) st.named;
        linked = linked_at after.seat.link.player (λ _. after.seat) t.seats (λ x n. seat_is) st.linked;
      }

  pub stands_gave : (k : Speaker) (safe : List TurnFrame) (count : ℕ) (t : Table) (s : ℕ) (o : Option Line) → line_of t s ≡ o → Stands G L t → Stands G L (gave_by k safe count t o)
  stands_gave k safe count t s None e st = st
  stands_gave k safe count t s (Some l) e st = stands_desk k (own_at safe l) count t s l (player_of l) e st (seat_by t (player_of l)) refl
