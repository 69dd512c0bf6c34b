-- Heard: the frames of a socket in their order, the names that they give, and the frames that then wait.
use Rattle.std.proofs.Common.{◌≡◌, ℕ, Bool, true, false, refl, sym, ◌∙◌, subst, List, [], ◌∷◌, ◌++◌, append_assoc, append-nil}
use Rattle.std.specs.Prelude.{Option, Some, None, ◌==◌, if◌then◌else◌}
use Rattle.std.specs.List.{fold}
use Rattle.std.proofs.lemmas.Bool.{and_parts, eqb-true, false≢true}
use Rattle.std.proofs.lemmas.Slice.Eq.{bytes_eq-Decides}
use Rattle.plain_lemmas.proofs.Each.{each_push}
use Rattle.definitions.specs.declared.frames.TurnFrame.{TurnFrame}
use Rattle.definitions.specs.Lists.{EachIs}
use Rattle.definitions.specs.Logs.{player_of}
use Rattle.definition_laws.specs.Members.{Has}
use Rattle.wire_frames.specs.declared.frames.Frame.{Frame}
use Rattle.wire_frames.specs.declared.frames.Frame.TheVariants.{Hello, Turn, Want}
use Rattle.wire_frames.specs.Streams.{Given}
use Rattle.socket_lines.specs.declared.line.Line.{Line}
use Rattle.socket_lines.specs.declared.seat.Seat.{Seat}
use Rattle.socket_lines.specs.Seats as S
use Rattle.socket_lines.specs.Seats.{may_want, obeys, reaches}
use Rattle.socket_lines.specs.Lines.{doomed, moved_to, named_line}
use Rattle.peer_rules.specs.declared.arrivals.Arrival.{Arrival}
use Rattle.loop_rules.specs.Settings.{Setting}
use Rattle.loop_rules.specs.Tables.{Table, line_of, seat_of, at_line, at_seat}
use Rattle.loop_rules.specs.Hearing.{Hearer, lets_seat_name, names, with_name_free, named, heard_first, obeyed, arrived, heard_named, heard_by, heard_on, heard, heard_all}
use Rattle.peer_rules.specs.Passes.{IsWanted}
use Rattle.loop_rules.proofs.Named.{NameIs, Named, Stands, found_is, stands_weaker, named_at, named_ousted, stands_line, stands_seat, stands_obeyed}

-- each of the frames that wait is such a one
abbrev pub Waits : (TurnFrame → Type 0) → List Arrival → Type 0
Waits P arrivals = EachIs (λ a. P a.frame) arrivals

waits_obeyed : (P : TurnFrame → Type 0) (t : Table) (s q place : ℕ) (o : Option Seat) → Waits P t.waiting → Waits P (obeyed t s q place o).waiting
waits_obeyed P t s q place None w = w
waits_obeyed P t s q place (Some c) w = go (may_want c)
  where
    go : (b : Bool) → Waits P (if b then at_seat q obeys (at_line s (moved_to place) t) else t).waiting
    go true = w
    go false = w

-- The frames of one piece of bytes, of which A says what names sockets have behind the first of them, and P which frames may wait: a HELLO with the
-- pass wanted names the socket, and a frame of a turn waits where its player's name stands.
module _ (s : Setting) (h : Hearer) (n : ℕ) (all : List Frame) (A : List Frame → ℕ → ℕ → Type 0) (P : TurnFrame → Type 0) (same_id : h.id ≡ s.game.id)
    (grows : (gs : List Frame) (f : Frame) (socket q : ℕ) → A gs socket q → A (gs ++ f ∷ []) socket q)
    (greets : (gs : List Frame) (q : ℕ) (pass : List ℕ) (next : ℕ) → IsWanted s.roster q pass → A (gs ++ Hello s.game.id q pass next ∷ []) n q)
    (brings : (gs fs : List Frame) (f : TurnFrame) → all ≡ gs ++ Turn f ∷ fs → A gs n (player_of f) → P f) where
  -- so it is behind these frames
  abbrev Both : List Frame → Table → Type 0
  Both gs t = Stands (A gs) (λ link. Has s.roster.links link) t × Waits P t.waiting

  both_grown : (gs : List Frame) (f : Frame) (t : Table) → Both gs t → Both (gs ++ f ∷ []) t
  both_grown gs f t b = (stands_weaker (A gs) (A (gs ++ f ∷ [])) (λ link. Has s.roster.links link) t (grows gs f) b.0, b.1)

  both_if : (gs : List Frame) (b : Bool) (t u : Table) → (b ≡ true → Both gs t) → Both gs u → Both gs (if b then t else u)
  both_if gs true t u x y = x refl
  both_if gs false t u x y = y

  both_doomed : (gs : List Frame) (t : Table) → Both gs t → Both gs (at_line n doomed t)
  both_doomed gs t b = (stands_line (A gs) (λ link. Has s.roster.links link) n doomed t (λ l k. k) b.0, b.1)

  -- the pass that a player's seat lets name a socket is the one that the roster wants
  is_wanted : (gs : List Frame) (t : Table) (q : ℕ) (pass : List ℕ) (o : Option Seat) → Stands (A gs) (λ link. Has s.roster.links link) t → seat_of t q ≡ o → lets_seat_name o pass ≡ true →
      IsWanted s.roster q pass
  is_wanted gs t q pass None st e y = absurd (false≢true y)
  is_wanted gs t q pass (Some c) st e y =
      let found = found_is (λ (x : Seat). x.link.player) (λ x. Has s.roster.links x.link) q t.seats c st.linked e in
      (c.link, found.0, found.1, (bytes_eq-Decides pass c.link.wants).0 (and_parts _ _ y).0)

  naming : (gs : List Frame) (t : Table) (l : Line) (id : List ℕ) (q : ℕ) (pass : List ℕ) (next : ℕ) → names h t l id q pass ≡ true → Both gs t → Both (gs ++ Hello id q pass next ∷ []) (named h t n l q next)
  naming gs t l id q pass next y b =
      let f : Frame = Hello id q pass next in
      let p = and_parts _ _ (and_parts _ _ y).0 in
      let same : id ≡ s.game.id = (bytes_eq-Decides id h.id).0 p.0 ∙ same_id in
      let wanted = is_wanted gs t q pass (seat_of t q) b.0 refl p.1 in
      let mine : A (gs ++ f ∷ []) n q = subst (λ (i : List ℕ). A (gs ++ Hello i q pass next ∷ []) n q) (sym same) (greets gs q pass next wanted) in
      let after = (both_grown gs f t b).0 in
      let free = named_ousted (A (gs ++ f ∷ [])) (λ link. Has s.roster.links link) q t.lines after.named in
      let lines = named_at (A (gs ++ f ∷ [])) (λ link. Has s.roster.links link) n (named_line q next (h.next q)) (with_name_free q t).lines
      (λ m at k. subst (λ (x : ℕ). A (gs ++ f ∷ []) x q) (sym at) mine) free in
      let u = at_line n (named_line q next (h.next q)) (with_name_free q t) in
      (stands_seat (A (gs ++ f ∷ [])) (λ link. Has s.roster.links link) q (S.names l.taken next) u (λ c. refl) (record { named = lines; linked = after.linked }), b.1)

  by_first : (gs : List Frame) (f : Frame) (t : Table) (l : Line) → Both gs t → Both (gs ++ f ∷ []) (heard_first h t n l f)
  by_first gs (Hello id q pass next) t l b =
      both_if (gs ++ Hello id q pass next ∷ []) (names h t l id q pass) (named h t n l q next) (at_line n doomed t) (λ y. naming gs t l id q pass next y b)
      (both_doomed (gs ++ Hello id q pass next ∷ []) t (both_grown gs (Hello id q pass next) t b))
  by_first gs (Turn f) t l b = both_doomed (gs ++ Turn f ∷ []) t (both_grown gs (Turn f) t b)
  by_first gs (Want place) t l b = both_doomed (gs ++ Want place ∷ []) t (both_grown gs (Want place) t b)

  by_named : (gs fs : List Frame) (f : Frame) (t : Table) (q : ℕ) → all ≡ gs ++ f ∷ fs → A gs n q → Both gs t → Both (gs ++ f ∷ []) (heard_named t n q f)
  by_named gs fs (Hello id p pass next) t q e a b = both_doomed (gs ++ Hello id p pass next ∷ []) t (both_grown gs (Hello id p pass next) t b)
  by_named gs fs (Turn f) t q e a b =
      let c = both_grown gs (Turn f) t b in
      both_if (gs ++ Turn f ∷ []) (player_of f == q) (arrived t q f) (at_line n doomed t)
      (λ y. (record { named = c.0.named; linked = c.0.linked }, each_push (λ x. P x.frame) t.waiting (record { player = q; frame = f }) b.1 (brings gs fs f e (subst (A gs n) (sym (eqb-true (player_of f) q y)) a))))
      (both_doomed (gs ++ Turn f ∷ []) t c)
  by_named gs fs (Want place) t q e a b =
      let c = both_grown gs (Want place) t b in
      let u = obeyed t n q place (seat_of t q) in (
        stands_seat (A (gs ++ Want place ∷ [])) (λ link. Has s.roster.links link) q (reaches place) u (λ x. refl)
            (stands_obeyed (A (gs ++ Want place ∷ [])) (λ link. Has s.roster.links link) t n q place (seat_of t q) c.0),
        waits_obeyed P t n q place (seat_of t q) c.1,
      )

  by_name : (gs fs : List Frame) (f : Frame) (t : Table) (l : Line) (o : Option ℕ) → all ≡ gs ++ f ∷ fs → NameIs (A gs) n o → Both gs t → Both (gs ++ f ∷ []) (heard_by h t n l o f)
  by_name gs fs f t l None e a b = by_first gs f t l b
  by_name gs fs f t l (Some q) e a b = by_named gs fs f t q e a b

  on_line : (gs fs : List Frame) (f : Frame) (t : Table) (o : Option Line) → line_of t n ≡ o → all ≡ gs ++ f ∷ fs → Both gs t → Both (gs ++ f ∷ []) (heard_on h t n f o)
  on_line gs fs f t None x e b = both_grown gs f t b
  on_line gs fs f t (Some l) x e b =
      let found = found_is (λ (m : Line). m.socket) (Named (A gs)) n t.lines l b.0.named x in
      both_if (gs ++ f ∷ []) l.is_wrong t (heard_by h t n l l.name f) (λ y. both_grown gs f t b)
      (by_name gs fs f t l l.name e (subst (λ (m : ℕ). NameIs (A gs) m l.name) found.1 found.0) b)

  in_order : (gs fs : List Frame) (t : Table) → all ≡ gs ++ fs → Both gs t → Both all (fold (heard h n) t fs)
  in_order gs [] t e b = subst (λ (x : List Frame). Both x t) (sym (e ∙ append-nil gs)) b
  in_order gs (f ∷ fs) t e b =
      in_order (gs ++ f ∷ []) fs (heard h n t f) (e ∙ sym (append_assoc gs (f ∷ []) fs)) (on_line gs fs f t (line_of t n) refl e b)

  -- all of them are heard
  pub heard_so : (g : Given) (t : Table) → g.frames ≡ all → Both [] t → Both all (heard_all h n g t)
  heard_so g t e b =
      let u = fold (heard h n) t g.frames in
      let c = in_order [] g.frames t (sym e) b in
      both_if all g.reader.bad (at_line n doomed u) u (λ y. both_doomed all u c) c
