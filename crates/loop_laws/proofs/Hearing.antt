-- Hearing: what is known of a line stays known as frames come on its socket, and on another one.
use Rattle.std.proofs.Common.{◌≡◌, ℕ, Bool, true, false, refl, sym, ap, subst, ◌∙◌, List, [], ◌∷◌, ◌++◌, append_assoc, append-nil}
use Rattle.std.specs.Prelude.{Option, Some, None, ◌==◌, ◌&&◌, find, map, if◌then◌else◌}
use Rattle.std.specs.List.{fold}
use Rattle.std.proofs.lemmas.Bool.{and_parts, eqb-true, false≢true}
use Rattle.std.proofs.lemmas.Slice.Eq.{bytes_eq-Decides}
use Rattle.definitions.specs.declared.frames.TurnFrame.{TurnFrame}
use Rattle.definitions.specs.Lists.{EachIs}
use Rattle.definitions.specs.Logs.{player_of}
use Rattle.definition_laws.specs.Members.{Has}
use Rattle.wire_frames.specs.declared.frames.Frame.{Frame}
use Rattle.wire_frames.specs.declared.frames.Frame.TheVariants.{Hello, Turn, Want}
use Rattle.wire_frames.specs.Streams.{Given}
use Rattle.rosters.specs.declared.roster.Link.{Link}
use Rattle.socket_lines.specs.declared.line.Line.{Line}
use Rattle.socket_lines.specs.declared.seat.Seat.{Seat}
use Rattle.socket_lines.specs.Seats as S
use Rattle.socket_lines.specs.Seats.{may_want, obeys, reaches}
use Rattle.socket_lines.specs.Lines.{is_player, doomed, moved_to, named_line}
use Rattle.loop_rules.specs.Settings.{Setting}
use Rattle.loop_rules.specs.Tables.{Table, line_of, seat_of, in_seats, at_line, at_seat}
use Rattle.loop_rules.specs.Hearing.{Hearer, ousted, lets_seat_name, names, with_name_free, named, heard_first, obeyed, arrived, heard_named, heard_by, heard_on, heard, heard_all}
use Rattle.peer_rules.specs.Passes.{IsWanted}
use Rattle.loop_laws.specs.Speaking.{IsAsked}
use Rattle.loop_laws.proofs.Finds.{line_in, IfLine, on_line, line_mapped, ousted_keeps, if_own, if_other, if_either, if_ousted}
use Rattle.loop_laws.proofs.Frames.{asked_last}
use Rattle.loop_laws.proofs.Speakers.{Facts, Told, with_came, told_doomed, told_passed, told_refused, told_moved, told_named}

pub moved_keeps : (place : ℕ) (l : Line) → (moved_to place l).socket ≡ l.socket
moved_keeps place l = go l.sending
  where
    go : (o : Option ℕ) → (moved_to place (record l { sending = o })).socket ≡ l.socket
    go None = refl
    go (Some p) = refl

-- ---- the players' links

abbrev pub Linked : (L : Link → Type 0) → List Seat → Type 0
Linked L seats = EachIs (λ c. L c.link) seats

-- the seat that is found has such a link, and is the player's
pub seat_is : (L : Link → Type 0) (q : ℕ) (cs : List Seat) (c : Seat) → Linked L cs → find (λ x. x.link.player == q) cs ≡ Some c → L c.link × (c.link.player ≡ q)
seat_is L q [] c each e = absurd (cc)
seat_is L q (d ∷ cs) c each e = go (d.link.player == q) refl e (seat_is L q cs c each.1)
  where
    go : (b : Bool) → (d.link.player == q) ≡ b → (if b then Some d else find (λ x. x.link.player == q) cs) ≡ Some c →
        (find (λ x. x.link.player == q) cs ≡ Some c → L c.link × (c.link.player ≡ q)) → L c.link × (c.link.player ≡ q)
    go true k f more = let same : d ≡ c = cc in (subst (λ (x : Seat). L x.link) same each.0, ap (λ (x : Seat). x.link.player) (sym same) ∙ eqb-true d.link.player q k)
    go false k f more = more f

pub links_mapped : (L : Link → Type 0) (g : Seat → Seat) (cs : List Seat) → ((c : Seat) → (g c).link ≡ c.link) → Linked L cs → Linked L (map g cs)
links_mapped L g [] k each = tt
links_mapped L g (c ∷ cs) k each = (subst L (sym (k c)) each.0, links_mapped L g cs k each.1)

pub links_at : (L : Link → Type 0) (q : ℕ) (change : Seat → Seat) (cs : List Seat) → ((c : Seat) → (change c).link ≡ c.link) → Linked L cs → Linked L (in_seats q change cs)
links_at L q change cs k each = links_mapped L (λ c. if c.link.player == q then change c else c) cs (λ c. go c (c.link.player == q)) each
  where
    go : (c : Seat) (b : Bool) → (if b then change c else c).link ≡ c.link
    go c true = k c
    go c false = refl

table_if : (P : Table → Type 0) (b : Bool) (t u : Table) → (b ≡ true → P t) → P u → P (if b then t else u)
table_if P true t u x y = x refl
table_if P false t u x y = y

module _ (L : Link → Type 0) (h : Hearer) (m : ℕ) where
  abbrev Links : Table → Type 0
  Links t = Linked L t.seats

  links_obeyed : (t : Table) (q place : ℕ) (o : Option Seat) → Links t → Links (obeyed t m q place o)
  links_obeyed t q place None k = k
  links_obeyed t q place (Some c) k =
      table_if Links (may_want c) (at_seat q obeys (at_line m (moved_to place) t)) t (λ y. links_at L q obeys t.seats (λ d. refl) k) k

  links_first : (t : Table) (l : Line) (f : Frame) → Links t → Links (heard_first h t m l f)
  links_first t l (Hello id q pass from) k =
      table_if Links (names h t l id q pass) (named h t m l q from) (at_line m doomed t) (λ y. links_at L q (S.names l.taken from) t.seats (λ c. refl) k) k
  links_first t l (Turn f) k = k
  links_first t l (Want place) k = k

  links_named : (t : Table) (q : ℕ) (f : Frame) → Links t → Links (heard_named t m q f)
  links_named t q (Hello id p pass from) k = k
  links_named t q (Turn f) k = table_if Links (player_of f == q) (arrived t q f) (at_line m doomed t) (λ y. k) k
  links_named t q (Want place) k =
      links_at L q (reaches place) (obeyed t m q place (seat_of t q)).seats (λ c. refl) (links_obeyed t q place (seat_of t q) k)

  links_by : (t : Table) (l : Line) (o : Option ℕ) (f : Frame) → Links t → Links (heard_by h t m l o f)
  links_by t l None f k = links_first t l f k
  links_by t l (Some q) f k = links_named t q f k

  links_on : (t : Table) (f : Frame) (o : Option Line) → Links t → Links (heard_on h t m f o)
  links_on t f None k = k
  links_on t f (Some l) k = table_if Links l.is_wrong t (heard_by h t m l l.name f) (λ y. k) (links_by t l l.name f k)

  pub links_heard : (t : Table) (f : Frame) → Links t → Links (heard h m t f)
  links_heard t f k = links_on t f (line_of t m) k

  links_each : (t : Table) (fs : List Frame) → Links t → Links (fold (heard h m) t fs)
  links_each t [] k = k
  links_each t (f ∷ fs) k = links_each (heard h m t f) fs (links_heard t f k)

  pub links_all : (g : Given) (t : Table) → Links t → Links (heard_all h m g t)
  links_all g t k =
      let u = fold (heard h m) t g.frames in
      let w = links_each t g.frames k in
      table_if Links g.reader.bad (at_line m doomed u) u (λ y. w) w

-- ---- what holds of the line, whatever comes

-- it stays after each change that a frame makes
module _ (P : Line → Type 0) (h : Hearer) (n m : ℕ) (dooms : (l : Line) → P l → P (doomed l)) (at_doomed : (t : Table) → IfLine P (line_in n t.lines) → IfLine P (line_in n (at_line m doomed t).lines))
    (at_moved : (place : ℕ) (t : Table) → IfLine P (line_in n t.lines) → IfLine P (line_in n (at_line m (moved_to place) t).lines))
    (at_named : (q from next : ℕ) (t : Table) → IfLine P (line_in n t.lines) → IfLine P (line_in n (at_line m (named_line q from next) t).lines)) where
  abbrev Stays : Table → Type 0
  Stays t = IfLine P (line_in n t.lines)

  stays_first : (t : Table) (l : Line) (f : Frame) → Stays t → Stays (heard_first h t m l f)
  stays_first t l (Hello id q pass from) p =
      table_if Stays (names h t l id q pass) (named h t m l q from) (at_line m doomed t)
      (λ y. at_named q from (h.next q) (with_name_free q t) (if_ousted P n q t.lines dooms p)) (at_doomed t p)
  stays_first t l (Turn f) p = at_doomed t p
  stays_first t l (Want place) p = at_doomed t p

  stays_obeyed : (t : Table) (q place : ℕ) (o : Option Seat) → Stays t → Stays (obeyed t m q place o)
  stays_obeyed t q place None p = p
  stays_obeyed t q place (Some c) p = table_if Stays (may_want c) (at_seat q obeys (at_line m (moved_to place) t)) t (λ y. at_moved place t p) p

  stays_named : (t : Table) (q : ℕ) (f : Frame) → Stays t → Stays (heard_named t m q f)
  stays_named t q (Hello id r pass from) p = at_doomed t p
  stays_named t q (Turn f) p = table_if Stays (player_of f == q) (arrived t q f) (at_line m doomed t) (λ y. p) (at_doomed t p)
  stays_named t q (Want place) p = stays_obeyed t q place (seat_of t q) p

  stays_by : (t : Table) (l : Line) (o : Option ℕ) (f : Frame) → Stays t → Stays (heard_by h t m l o f)
  stays_by t l None f p = stays_first t l f p
  stays_by t l (Some q) f p = stays_named t q f p

  stays_on : (t : Table) (f : Frame) (o : Option Line) → Stays t → Stays (heard_on h t m f o)
  stays_on t f None p = p
  stays_on t f (Some l) p = table_if Stays l.is_wrong t (heard_by h t m l l.name f) (λ y. p) (stays_by t l l.name f p)

  stays_each : (t : Table) (fs : List Frame) → Stays t → Stays (fold (heard h m) t fs)
  stays_each t [] p = p
  stays_each t (f ∷ fs) p = stays_each (heard h m t f) fs (stays_on t f (line_of t m) p)

  pub stays_all : (g : Given) (t : Table) → Stays t → Stays (heard_all h m g t)
  stays_all g t p =
      let u = fold (heard h m) t g.frames in
      let w = stays_each t g.frames p in
      table_if Stays g.reader.bad (at_line m doomed u) u (λ y. at_doomed u w) w

-- the frames come on another socket
pub other_stays : (P : Line → Type 0) (h : Hearer) (n m : ℕ) (other : (n == m) ≡ false) (dooms : (l : Line) → P l → P (doomed l)) (g : Given) (t : Table) →
    IfLine P (line_in n t.lines) → IfLine P (line_in n (heard_all h m g t).lines)
other_stays P h n m other dooms g t p =
    stays_all P h n m dooms (λ u x. if_other P n m doomed u.lines other (λ l e. refl) x) (λ place u x. if_other P n m (moved_to place) u.lines other (λ l e. moved_keeps place l) x)
    (λ q from next u x. if_other P n m (named_line q from next) u.lines other (λ l e. refl) x) g t p

-- what no change of a line touches stays on any socket
pub any_stays : (P : Line → Type 0) (h : Hearer) (n m : ℕ) (dooms : (l : Line) → P l → P (doomed l)) (moves : (place : ℕ) (l : Line) → P l → P (moved_to place l))
    (names : (q from next : ℕ) (l : Line) → P l → P (named_line q from next l)) (g : Given) (t : Table) → IfLine P (line_in n t.lines) → IfLine P (line_in n (heard_all h m g t).lines)
any_stays P h n m dooms moves names g t p =
    stays_all P h n m dooms (λ u x. if_either P n m doomed u.lines (λ l. refl) dooms x) (λ place u x. if_either P n m (moved_to place) u.lines (moved_keeps place) (moves place) x)
    (λ q from next u x. if_either P n m (named_line q from next) u.lines (λ l. refl) (names q from next) x) g t p

-- ---- frames on the socket itself

-- a line without a name is not the one of a player
not_ousted : (q : ℕ) (l : Line) → l.name ≡ None → ousted q l ≡ l
not_ousted q l e = ap (λ (o : Option ℕ). if l.is_open && is_player o q then doomed l else l) e ∙ go l.is_open
  where
    go : (b : Bool) → (if b && false then doomed l else l) ≡ l
    go true = refl
    go false = refl

module _ (s : Setting) (own : List TurnFrame) (facts : Facts) (h : Hearer) (n : ℕ) (same_id : h.id ≡ s.game.id) where
  abbrev pub L : Link → Type 0
  L link = Has s.roster.links link

  abbrev pub Knows : List Frame → Line → Type 0
  Knows came l = Told s own (with_came facts came) l

  abbrev pub So : List Frame → Table → Type 0
  So came t = IfLine (Knows came) (line_in n t.lines)

  so_doomed : (came : List Frame) (f : Frame) (t : Table) → So came t → So (came ++ f ∷ []) (at_line n doomed t)
  so_doomed came f t p =
      if_own (Knows came) (Knows (came ++ f ∷ [])) n doomed t.lines (λ l e. refl) (λ l e k. told_refused s own (with_came facts came) f l k) p

  -- the frame changes nothing
  so_passed : (came : List Frame) (f : Frame) (t : Table) (l : Line) → line_in n t.lines ≡ Some l → (l.name ≡ None → l.is_wrong ≡ false → ⊥) → So came t → So (came ++ f ∷ []) t
  so_passed came f t l e k p =
      subst (IfLine (Knows (came ++ f ∷ []))) (sym e) (told_passed s own (with_came facts came) f l k (subst (IfLine (Knows came)) e p))

  -- the pass that a player's seat lets name a socket is the one that the roster wants
  pub is_wanted : (t : Table) (q : ℕ) (pass : List ℕ) (o : Option Seat) → Linked L t.seats → seat_of t q ≡ o → lets_seat_name o pass ≡ true → IsWanted s.roster q pass
  is_wanted t q pass None k e y = absurd (false≢true y)
  is_wanted t q pass (Some c) k e y =
      let found = seat_is L q t.seats c k e in
      (c.link, found.0, found.1, (bytes_eq-Decides pass c.link.wants).0 (and_parts _ _ y).0)

  so_hello : (came : List Frame) (t : Table) (l : Line) (id : List ℕ) (q : ℕ) (pass : List ℕ) (from : ℕ) → line_in n t.lines ≡ Some l → l.name ≡ None → l.is_wrong ≡ false → Linked L t.seats →
      names h t l id q pass ≡ true → So came t → So (came ++ Hello id q pass from ∷ []) (named h t n l q from)
  so_hello came t l id q pass from e none right k y p =
      let parts = and_parts _ _ (and_parts _ _ y).0 in
      let same : id ≡ s.game.id = (bytes_eq-Decides id h.id).0 parts.0 ∙ same_id in
      let wanted = is_wanted t q pass (seat_of t q) k refl parts.1 in
      let free = map (ousted q) t.lines in
      let found : line_in n free ≡ Some l = line_mapped n (ousted q) (ousted_keeps q) t.lines ∙ ap (on_line (ousted q)) e ∙ ap (λ (x : Line). Some x) (not_ousted q l none) in
      let change = named_line q from (h.next q) in
      let out : Knows (came ++ Hello s.game.id q pass from ∷ []) (change l) =
      told_named s own (with_came facts came) l q pass from (h.next q) none right wanted (subst (IfLine (Knows came)) e p) in
      let mine : Knows (came ++ Hello id q pass from ∷ []) (change l) = subst (λ (i : List ℕ). Knows (came ++ Hello i q pass from ∷ []) (change l)) (sym same) out in
      if_own (λ x. x ≡ l) (Knows (came ++ Hello id q pass from ∷ [])) n change free (λ x w. refl)
      (λ x w r. subst (λ (z : Line). Knows (came ++ Hello id q pass from ∷ []) (change z)) (sym r) mine) (subst (IfLine (λ x. x ≡ l)) (sym found) refl)

  so_first : (came : List Frame) (t : Table) (l : Line) (f : Frame) → line_in n t.lines ≡ Some l → l.name ≡ None → l.is_wrong ≡ false → Linked L t.seats → So came t →
      So (came ++ f ∷ []) (heard_first h t n l f)
  so_first came t l (Hello id q pass from) e none right k p =
      table_if (So (came ++ Hello id q pass from ∷ [])) (names h t l id q pass) (named h t n l q from) (at_line n doomed t)
      (λ y. so_hello came t l id q pass from e none right k y p) (so_doomed came (Hello id q pass from) t p)
  so_first came t l (Turn f) e none right k p = so_doomed came (Turn f) t p
  so_first came t l (Want place) e none right k p = so_doomed came (Want place) t p

  so_obeyed : (came : List Frame) (t : Table) (q place : ℕ) (o : Option Seat) → IsAsked came place → So came t → So came (obeyed t n q place o)
  so_obeyed came t q place None a p = p
  so_obeyed came t q place (Some c) a p =
      table_if (So came) (may_want c) (at_seat q obeys (at_line n (moved_to place) t)) t
      (λ y. if_own (Knows came) (Knows came) n (moved_to place) t.lines (λ l e. moved_keeps place l) (λ l e k. told_moved s own (with_came facts came) place l a k) p) p

  so_named : (came : List Frame) (t : Table) (l : Line) (q : ℕ) (f : Frame) → line_in n t.lines ≡ Some l → l.name ≡ Some q → So came t → So (came ++ f ∷ []) (heard_named t n q f)
  so_named came t l q (Hello id r pass from) e name p = so_doomed came (Hello id r pass from) t p
  so_named came t l q (Turn f) e name p =
      table_if (So (came ++ Turn f ∷ [])) (player_of f == q) (arrived t q f) (at_line n doomed t)
      (λ y. so_passed came (Turn f) t l e (λ x w. (let z : None ≡ Some q = sym x ∙ name in cc)) p) (so_doomed came (Turn f) t p)
  so_named came t l q (Want place) e name p =
      so_obeyed (came ++ Want place ∷ []) t q place (seat_of t q) (asked_last came (Want place) place refl)
      (so_passed came (Want place) t l e (λ x w. (let z : None ≡ Some q = sym x ∙ name in cc)) p)

  so_by : (came : List Frame) (t : Table) (l : Line) (o : Option ℕ) (f : Frame) → line_in n t.lines ≡ Some l → l.name ≡ o → l.is_wrong ≡ false → Linked L t.seats → So came t →
      So (came ++ f ∷ []) (heard_by h t n l o f)
  so_by came t l None f e name right k p = so_first came t l f e name right k p
  so_by came t l (Some q) f e name right k p = so_named came t l q f e name p

  so_right : (came : List Frame) (t : Table) (l : Line) (f : Frame) (wrong : Bool) → line_in n t.lines ≡ Some l → l.is_wrong ≡ wrong → Linked L t.seats → So came t →
      So (came ++ f ∷ []) (if wrong then t else heard_by h t n l l.name f)
  so_right came t l f true e w k p = so_passed came f t l e (λ x y. false≢true (sym y ∙ w)) p
  so_right came t l f false e w k p = so_by came t l l.name f e refl w k p

  pub so_on : (came : List Frame) (t : Table) (f : Frame) (o : Option Line) → line_in n t.lines ≡ o → Linked L t.seats → So came t → So (came ++ f ∷ []) (heard_on h t n f o)
  so_on came t f None e k p = subst (IfLine (Knows (came ++ f ∷ []))) (sym e) tt
  so_on came t f (Some l) e k p = so_right came t l f l.is_wrong e refl k p

  so_each : (came : List Frame) (t : Table) (fs : List Frame) → Linked L t.seats → So came t → So (came ++ fs) (fold (heard h n) t fs)
  so_each came t [] k p = subst (λ (x : List Frame). So x t) (sym (append-nil came)) p
  so_each came t (f ∷ fs) k p =
      subst (λ (x : List Frame). So x (fold (heard h n) (heard h n t f) fs)) (append_assoc came (f ∷ []) fs)
      (so_each (came ++ f ∷ []) (heard h n t f) fs (links_heard L h n t f k) (so_on came t f (line_of t n) refl k p))

  pub so_all : (came : List Frame) (g : Given) (t : Table) → Linked L t.seats → So came t → So (came ++ g.frames) (heard_all h n g t)
  so_all came g t k p =
      let u = fold (heard h n) t g.frames in
      let w = so_each came t g.frames k p in
      table_if (So (came ++ g.frames)) g.reader.bad (at_line n doomed u) u
      (λ y. if_own (Knows (came ++ g.frames)) (Knows (came ++ g.frames)) n doomed u.lines (λ l e. refl) (λ l e x. told_doomed s own (with_came facts (came ++ g.frames)) l x) w) w
