-- Calls: what a call asks of a loop that is seen as its parts, and what is so behind it.
use Rattle.std.proofs.Common.{◌≡◌, ℕ, ◌<◌, ◌≤◌, true, sym, ap, subst, ◌∙◌, List, [], ◌∷◌, ◌++◌, arith, length}
use Rattle.std.specs.Prelude.{Some, ◌==◌, min, take, slice_get}
use Rattle.std.proofs.lemmas.Bool.{eqb-false}
use Rattle.std.proofs.lemmas.List.{length-take-le}
use Rattle.std.proofs.Math.Seq.{take-append_seam}
use Rattle.definitions.specs.Lists.{EachIs}
use Rattle.definitions.specs.World.{Game, players_of}
use Rattle.socket_station.specs.declared.answers.SocketRead.{SocketRead}
use Rattle.socket_station.specs.declared.answers.SocketRead.TheVariants as R
use Rattle.socket_station.specs.declared.answers.Standing.TheVariants.{Open}
use Rattle.socket_station.specs.Standings.{standing_in}
use Rattle.socket_station.specs.Withins.{TakesWithin}
use Rattle.socket_station.specs.Items.{Item, read_item}
use Rattle.session_log.specs.Writing.{Writing}
use Rattle.socket_lines.specs.declared.line.Line.{Line}
use Rattle.socket_lines.specs.declared.seat.Seat.{Seat}
use Rattle.loop_rules.specs.Tables.{Table, line_of, room_on}
use Rattle.loop_rules.specs.Hearing.{Hearer}
use Rattle.loop_rules.specs.Rules.{wants_read}
use Rattle.loop_rules.specs.Told.{IsTold}
use Rattle.loop_rules.specs.Handling.{IsOfOther}
use Rattle.socket_table.specs.Finding.{IsAt}
use Rattle.socket_table.specs.Hearers.{ArePlayers}
use Rattle.ready_loop.specs.Hearers.{hearer_by}
use Rattle.socket_table.proofs.Waiting.{took_of_others}
use Rattle.socket_table.proofs.ReadingRooms.{wants_parts}
use Rattle.ready_loop.specs.States.{LoopState, IsFit, IsOthers, view_of}
use Rattle.ready_loop.specs.Steps.{with_table, read_on}
use Rattle.ready_loop.specs.Going.{IsIdle}
use Rattle.ready_loop.specs.Handling.{IsReadyToRead, WantsAt, ReadsOnce}
use Rattle.ready_loop.proofs.ReadOnce.{read_seats}
use Rattle.ready_loop.proofs.Served.{stands_open, line_found}
use Rattle.ready_loop.proofs.Fits.{fit_table}

-- ---- reading

-- where a line is to be read, some bytes may be taken on it, and it is open
wants_room : (t : Table) (x : Line) → wants_read t x ≡ true → (0 < room_on t x) × (x.is_open ≡ true)
wants_room t x e =
    let p = wants_parts x.is_open x.is_wrong (room_on t x == 0) x.is_quiet e in
    (let z = eqb-false (room_on t x) 0 p.2 in omega (arith, z), p.0)

pub read_some : (t : Table) (k s room most : ℕ) (buf : List ℕ) → IsAt t k s → WantsAt t k → ((l : Line) → slice_get t.lines k ≡ Some l → room ≡ room_on t l) → most ≡ min 1024 room → length buf ≡ 1024 → 0 < length (take most buf)
read_some t k s room most buf at wants is few all =
    let some = (wants_room t at.0 (wants at.0 at.1)).0 in
    let same = is at.0 at.1 in
    let long = length-take-le most buf (omega (arith, few, all)) in
    omega (arith, some, same, few, long)

pub read_open : (items : List Item) (l : LoopState) (k s : ℕ) → IsAt l.table k s → IsReadyToRead items l → WantsAt l.table k → standing_in items s ≡ Open
read_open items l k s at w wants = stands_open items l k s at.0 w.told w.steady.idle at.1 at.2 (wants_room l.table at.0 (wants at.0 at.1)).1

pub are_players : (game : Game) (me : ℕ) (cs : List Seat) → EachIs (IsOthers game me) cs → ArePlayers (players_of game) cs
are_players game me [] e = tt
are_players game me (c ∷ cs) e = (e.0.player, are_players game me cs e.1)

each_both : (game : Game) (me : ℕ) (cs : List Seat) → EachIs (IsOthers game me) cs → EachIs (λ c. (c.link.player < players_of game) × (c.link.player ≡ me → ⊥)) cs
each_both game me [] e = tt
each_both game me (c ∷ cs) e = ((e.0.player, e.0.other), each_both game me cs e.1)

read_waits : (game : Game) (me : ℕ) (h : Hearer) (s : ℕ) (read : SocketRead) (buf : List ℕ) (t : Table) (x : Line) → EachIs (IsOthers game me) t.seats → t.waiting ≡ [] → line_of t s ≡ Some x → 0 < room_on t x →
    EachIs (IsOfOther game me) (read_on h s read buf t).waiting
read_waits game me h s (R.Took n) buf t x seats none found some = took_of_others game me h s (take n buf) t x (each_both game me t.seats seats) none found some
read_waits game me h s R.NotYet buf t x seats none found some = subst (EachIs (IsOfOther game me)) (sym none) tt
read_waits game me h s R.Ended buf t x seats none found some = subst (EachIs (IsOfOther game me)) (sym none) tt
read_waits game me h s R.Failed buf t x seats none found some = subst (EachIs (IsOfOther game me)) (sym none) tt

-- the bytes of the buffer that a read had
whole : (most : ℕ) (buf post old : List ℕ) → length buf ≡ length (take most old) → most ≤ length old → take most (buf ++ post) ≡ buf
whole most buf post old long few = ap (λ (n : ℕ). take n (buf ++ post)) (sym (long ∙ length-take-le most old few)) ∙ take-append_seam buf post

pub read_fits : (items : List Item) (l m : LoopState) (w : Writing) (k s most : ℕ) (read : SocketRead) (buf post old : List ℕ) (u : Table) → l ≡ m → IsFit l w → IsReadyToRead items m → IsAt m.table k s → WantsAt m.table k →
    length buf ≡ length (take most old) → most ≤ length old → u ≡ read_on (hearer_by l.peer) s read (take most (buf ++ post)) l.table → IsFit (with_table u l) w
read_fits items l m w k s most read buf post old u same f ready at wants long few e0 =
    let e = e0 ∙ ap (λ (bytes : List ℕ). read_on (hearer_by l.peer) s read bytes l.table) (whole most buf post old long few) in
    subst (λ (t : Table). IsFit (with_table t l) w) (sym e)
    (fit_table l w (read_on (hearer_by l.peer) s read buf l.table) (read_seats (hearer_by l.peer) s read buf l.table)
    (read_waits l.peer.game l.peer.me (hearer_by l.peer) s read buf l.table here.0 f.seats r.steady.idle.waiting (line_found items l k s here.0 r.told r.steady.idle here.1 here.2) (wants_room l.table here.0 (w2 here.0 here.1)).0) f)
  where
    r : IsReadyToRead items l
    r = subst (IsReadyToRead items) (sym same) ready

    here : IsAt l.table k s
    here = subst (λ (x : LoopState). IsAt x.table k s) (sym same) at

    w2 : WantsAt l.table k
    w2 = subst (λ (x : LoopState). WantsAt x.table k) (sym same) wants

only_line : (items : List Item) (l : LoopState) (k j s : ℕ) (x y : Line) → IsTold items (view_of l) → IsIdle l → slice_get l.table.lines k ≡ Some x → x.socket ≡ s → slice_get l.table.lines j ≡ Some y → y.socket ≡ s → x ≡ y
only_line items l k j s x y told w g e h f =
    let a = line_found items l k s x told w g e in
    let b = line_found items l j s y told w h f in
    (let q : Some x ≡ Some y = sym a ∙ b in cc)

pub reads_one : (items after : List Item) (l m n : LoopState) (k s room most : ℕ) (read : SocketRead) (buf post old : List ℕ) (u : Table) → l ≡ m → IsReadyToRead items m → IsAt m.table k s →
    ((x : Line) → slice_get l.table.lines k ≡ Some x → room ≡ room_on l.table x) → most ≡ min 1024 room → length buf ≡ length (take most old) → length old ≡ 1024 →
    after ≡ items ++ read_item s read buf ∷ [] → TakesWithin read buf → u ≡ read_on (hearer_by l.peer) s read (take most (buf ++ post)) l.table → n ≡ with_table u l → ReadsOnce s read items after m n
reads_one items after l m n k s room most read buf post old u same ready at is few long all on within e0 state =
    let e = e0 ∙ ap (λ (bytes : List ℕ). read_on (hearer_by l.peer) s read bytes l.table) (whole most buf post old long (omega (arith, few, all))) in
    subst (λ (x : LoopState). ReadsOnce s read items after x n) same (record {
      buf = buf;
      told = on;
      within = within;
      room = λ x j g q.
          (let here = subst (λ (z : LoopState). IsAt z.table k s) (sym same) at in
          let r = subst (IsReadyToRead items) (sym same) ready in
          let it = only_line items l j k s x here.0 r.told r.steady.idle g q here.1 here.2 in
          let room_is = is here.0 here.1 in
          let size = length-take-le most old (omega (arith, few, all)) in
          let this : room_on l.table x ≡ room_on l.table here.0 = ap (room_on l.table) it in
          omega (arith, room_is, size, long, few, this));
      state = state ∙ ap (λ (t : Table). with_table t l) e;
    })
