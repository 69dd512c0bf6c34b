-- CallsOut: what the calls that write, shut and dial ask of a loop that is seen as its parts, and what is so behind them.
use Rattle.std.proofs.Common.{◌≡◌, ℕ, ◌+◌, ◌<◌, ◌≤◌, ◌^◌, Bool, true, false, sym, ap, subst, ◌∙◌, List, [], ◌∷◌, ◌++◌, arith, length}
use Rattle.std.specs.Prelude.{Option, Some, ◌==◌, slice_get, if◌then◌else◌}
use Rattle.std.proofs.lemmas.Bool.{and_parts}
use Rattle.std.proofs.lemmas.Option.{slice_get_within}
use Rattle.definitions.specs.Lists.{EachIs, is_empty}
use Rattle.definitions.specs.declared.frames.TurnFrame.{TurnFrame}
use Rattle.definitions.specs.World.{Game}
use Rattle.definitions.specs.Logs.{made}
use Rattle.definitions.specs.Honest.{made_count}
use Rattle.socket_station.specs.declared.answers.SocketWrite.{SocketWrite}
use Rattle.socket_station.specs.declared.answers.SocketWrite.TheVariants as O
use Rattle.socket_station.specs.declared.answers.Standing.TheVariants.{Open}
use Rattle.socket_station.specs.declared.answers.Addr.{Addr}
use Rattle.socket_station.specs.declared.answers.Dial.{Dial}
use Rattle.socket_station.specs.declared.answers.Dial.TheVariants as D
use Rattle.rosters.specs.declared.roster.Link.{Link}
use Rattle.definitions.specs.Held.{next_place}
use Rattle.socket_lines.specs.Seats.{dials}
use Rattle.socket_station.specs.Standings.{OpensNew, standing_in}
use Rattle.socket_station.specs.Withins.{GivesWithin}
use Rattle.socket_station.specs.Items.{Item, Shut, write_item, dial_item}
use Rattle.session_log.specs.Writing.{Writing}
use Rattle.socket_lines.specs.declared.line.Line.{Line}
use Rattle.socket_lines.specs.declared.seat.Seat.{Seat}
use Rattle.socket_lines.specs.Lines.{closed}
use Rattle.peer_rules.specs.Addresses.{told_addr}
use Rattle.loop_rules.specs.Tables.{Table, at_line, at_seat, in_seats, desk_of, asks_shut}
use Rattle.loop_rules.specs.Licence.{all_is_shut}
use Rattle.loop_rules.specs.Rules.{due_at}
use Rattle.loop_rules.specs.After.{gave_with, dialled_on}
use Rattle.loop_rules.specs.Told.{HasNone, DiffersBy, IsNotIn}
use Rattle.loop_rules.specs.Handling.{IsOfOther}
use Rattle.peer_core.specs.Standing.{IsStanding}
use Rattle.socket_table.specs.Finding.{IsAt, IsSeatAt}
use Rattle.ready_loop.specs.States.{LoopState, IsFit, IsOthers}
use Rattle.ready_loop.specs.Steps.{with_table}
use Rattle.ready_loop.specs.Serving.{speaker_by, own_by, IsServing, WritesAt, Writes, Shuts, IsNextDial, Dials}
use Rattle.ready_loop.proofs.Served.{stands_open, line_found, shuts}
use Rattle.ready_loop.proofs.Written.{WritesLine, wrote, wants_parts, due_there, wrote_seats, wrote_waits, writes}
use Rattle.ready_loop.proofs.Dialled.{dialled_table, dialled_so, new_socket}
use Rattle.ready_loop.proofs.Fits.{fit_table, fit_put}

-- ---- writing

-- these bytes go out next on the line at the place
abbrev pub IsDue : LoopState → (place : ℕ) → List ℕ → Type 0
IsDue l k bytes = (x : Line) → slice_get l.table.lines k ≡ Some x → bytes ≡ due_at (speaker_by l) (own_by l x) (desk_of l.table x)

-- the own frame at the cursor of the line at the place
abbrev pub IsOwnAt : (place : ℕ) → Option TurnFrame → LoopState → Type 0
IsOwnAt k own l = (x : Line) → slice_get l.table.lines k ≡ Some x → own ≡ own_by l x

pub is_due : (l m : LoopState) (k : ℕ) (own : Option TurnFrame) (id session : List ℕ) (me : ℕ) (due bytes : List ℕ) → l ≡ m → IsOwnAt k own m → id ≡ session → session ≡ l.peer.game.id → me ≡ l.peer.me →
    ((x : Line) → slice_get l.table.lines k ≡ Some x → due ≡ due_at (record { id = id; me = me }) own (desk_of l.table x)) → bytes ≡ due → IsDue l k bytes
is_due l n k own id session me due bytes same owns i j m dues e x g =
    e ∙ dues x g
    ∙ ap (λ (n : List ℕ). due_at (record { id = n; me = me }) own (desk_of l.table x)) (i ∙ j)
    ∙ ap (λ (n : ℕ). due_at (record { id = l.peer.game.id; me = n }) own (desk_of l.table x)) m
    ∙ ap (λ (o : Option TurnFrame). due_at (speaker_by l) o (desk_of l.table x)) (subst (IsOwnAt k own) (sym same) owns x g)

pub write_some : (l m : LoopState) (k s : ℕ) (bytes : List ℕ) → l ≡ m → IsAt m.table k s → WritesAt m k → IsDue l k bytes → 0 < length bytes
write_some l m k s bytes same at wants due =
    go bytes (ap (is_empty {X = ℕ}) (due at2.0 at2.1) ∙ due_there l at2.0 (subst (λ (x : LoopState). WritesAt x k) (sym same) wants at2.0 at2.1))
  where
    at2 : IsAt l.table k s
    at2 = subst (λ (x : LoopState). IsAt x.table k s) (sym same) at

    go : (xs : List ℕ) → is_empty xs ≡ false → 0 < length xs
    go [] e = absurd (cc)
    go (x ∷ xs) e = omega arith

pub write_open : (items : List Item) (m : LoopState) (k s : ℕ) → IsAt m.table k s → IsServing items m → WritesAt m k → standing_in items s ≡ Open
write_open items m k s at w wants = stands_open items m k s at.0 w.told w.steady.idle at.1 at.2 (wants_parts (made_count m.peer.entries) m.table at.0 (wants at.0 at.1)).0

pub write_place : (l m : LoopState) (k : ℕ) (own : Option TurnFrame) → l ≡ m → IsStanding l.peer → IsOwnAt k own m → (x : Line) (f : TurnFrame) → slice_get l.table.lines k ≡ Some x → own ≡ Some f → x.cursor + 1 < 2 ^ 32
write_place l m k own same stands owns x f g e =
    let few = slice_get_within (made l.peer.entries) x.cursor f (sym (subst (IsOwnAt k own) (sym same) owns x g) ∙ e) in
    let most = stands.made_few in
    let turns = stands.session.turns.1 in
    omega (arith, few, most, turns)

write_line : (items : List Item) (l m : LoopState) (k s : ℕ) (bytes : List ℕ) → l ≡ m → (at : IsAt l.table k s) → all_is_shut m.table ≡ true → WritesAt m k → DiffersBy (λ c. c.link.player) l.table.seats → IsDue l k bytes → length bytes ≤ 64 → WritesLine l k s at.0
write_line items l m k s bytes same at shut wants differ due few =
    let w = subst (λ (x : LoopState). WritesAt x k) (sym same) wants at.0 at.1 in
    record {
      here = at.1;
      socket = at.2;
      shut = subst (λ (x : LoopState). all_is_shut x.table ≡ true) (sym same) shut;
      wants = w;
      some = due_there l at.0 w;
      few = subst (λ (bs : List ℕ). length bs ≤ 64) (due at.0 at.1) few;
      differ = differ;
    }

pub wrote_line : (items after : List Item) (l m n : LoopState) (k s : ℕ) (r write : SocketWrite) (bytes : List ℕ) (u : Table) → l ≡ m → IsServing items m → IsAt m.table k s → all_is_shut m.table ≡ true → WritesAt m k →
    DiffersBy (λ c. c.link.player) l.table.seats → IsDue l k bytes → length bytes ≤ 64 → r ≡ write → GivesWithin r bytes → after ≡ items ++ write_item s r bytes ∷ [] → ((x : Line) → slice_get l.table.lines k ≡ Some x → u ≡ wrote l s x write) →
    n ≡ with_table u l → Writes k s items after m n
wrote_line items after l m n k s r write bytes u same serving at shut wants differ due few is within on table state =
    subst (λ (x : LoopState). Writes k s items after x n) same
    (writes items after l n k s here.0 write (subst (IsServing items) (sym same) serving) (write_line items l m k s bytes same here shut wants differ due few)
    (subst (GivesWithin write) all (subst (λ (q : SocketWrite). GivesWithin q bytes) is within))
    (on ∙ ap (λ (q : SocketWrite). items ++ write_item s q bytes ∷ []) is ∙ ap (λ (bs : List ℕ). items ++ write_item s write bs ∷ []) all)
    (state ∙ ap (λ (t : Table). with_table t l) (table here.0 here.1)))
  where
    here : IsAt l.table k s
    here = subst (λ (x : LoopState). IsAt x.table k s) (sym same) at

    all : bytes ≡ due_at (speaker_by l) (own_by l here.0) (desk_of l.table here.0)
    all = due here.0 here.1

pub wrote_fits : (items : List Item) (l m : LoopState) (w : Writing) (k s : ℕ) (write : SocketWrite) (bytes : List ℕ) (u : Table) → l ≡ m → IsServing items m → IsAt m.table k s → all_is_shut m.table ≡ true → WritesAt m k → IsFit l w →
    IsDue l k bytes → length bytes ≤ 64 → ((x : Line) → slice_get l.table.lines k ≡ Some x → u ≡ wrote l s x write) → IsFit (with_table u l) w
wrote_fits items l m w k s write bytes u same serving at shut wants f due few table =
    let here = subst (λ (x : LoopState). IsAt x.table k s) (sym same) at in
    let v = subst (IsServing items) (sym same) serving in
    subst (λ (t : Table). IsFit (with_table t l) w) (sym (table here.0 here.1))
    (fit_table l w (wrote l s here.0 write)
    (wrote_seats l k s here.0 write (write_line items l m k s bytes same here shut wants f.differ due few) (line_found items l k s here.0 v.told v.steady.idle here.1 here.2))
    (subst (EachIs (IsOfOther l.peer.game l.peer.me)) (sym (wrote_waits l s here.0 write)) f.waiting) f)

-- the bytes that were given, by what the loop knows
pub gave_as : (l o : LoopState) (k s n : ℕ) (own : Option TurnFrame) (id session : List ℕ) (me : ℕ) (u : Table) → l ≡ o → IsOwnAt k own o → id ≡ session → session ≡ l.peer.game.id → me ≡ l.peer.me →
    ((x : Line) → slice_get l.table.lines k ≡ Some x → u ≡ gave_with (record { id = id; me = me }) own n l.table (desk_of l.table x)) → (x : Line) → slice_get l.table.lines k ≡ Some x → u ≡ wrote l s x (O.Gave n)
gave_as l o k s n own id session me u same owns i j m e x g =
    e x g
    ∙ ap (λ (d : List ℕ). gave_with (record { id = d; me = me }) own n l.table (desk_of l.table x)) (i ∙ j)
    ∙ ap (λ (d : ℕ). gave_with (record { id = l.peer.game.id; me = d }) own n l.table (desk_of l.table x)) m
    ∙ ap (λ (f : Option TurnFrame). gave_with (speaker_by l) f n l.table (desk_of l.table x)) (subst (IsOwnAt k own) (sym same) owns x g)

-- ---- shutting

shut_is_open : (t : Table) (x : Line) → asks_shut t x ≡ true → x.is_open ≡ true
shut_is_open t x e = (and_parts x.is_open _ e).0

pub shut_open : (items : List Item) (m : LoopState) (k s : ℕ) → IsAt m.table k s → IsServing items m → ((x : Line) → slice_get m.table.lines k ≡ Some x → asks_shut m.table x ≡ true) → standing_in items s ≡ Open
shut_open items m k s at w asks = stands_open items m k s at.0 w.told w.steady.idle at.1 at.2 (shut_is_open m.table at.0 (asks at.0 at.1))

pub shut_so : (items after : List Item) (l m n : LoopState) (k s : ℕ) (u : Table) → l ≡ m → IsServing items m → IsAt m.table k s → ((x : Line) → slice_get m.table.lines k ≡ Some x → asks_shut m.table x ≡ true) →
    after ≡ items ++ Shut s ∷ [] → u ≡ at_line s closed l.table → n ≡ with_table u l → Shuts s items after m n
shut_so items after l m n k s u same serving at asks on table state =
    shuts k s items after m n at.0 serving at.1 at.2 (asks at.0 at.1) on (state ∙ ap (λ (t : Table). with_table t l) table ∙ ap (λ (x : LoopState). with_table (at_line s closed x.table) x) same)

-- ---- dialling

pub dial_new : (items : List Item) (l m : LoopState) (r : Dial) (s q : ℕ) (addr : Addr) → l ≡ m → IsServing items m → r ≡ D.Socket s → OpensNew items (dial_item r q addr) → IsNotIn s l.table.lines
dial_new items l m r s q addr same w is new =
    subst (λ (x : LoopState). IsNotIn s x.table.lines) (sym same)
    (new_socket items m s w.told w.steady.idle (subst (λ (d : Dial). OpensNew items (dial_item d q addr)) is new))

pub dial_seat_at : (l m : LoopState) (k : ℕ) (link : Link) → l ≡ m → IsNextDial m (Some k) → ((c : Seat) → slice_get m.table.seats k ≡ Some c → link ≡ c.link) → IsSeatAt l.table.seats link.player (Some k)
dial_seat_at l m k link same next is =
    subst (λ (x : LoopState). IsSeatAt x.table.seats link.player (Some k)) (sym same) (next.0, next.1, sym (ap (λ (x : Link). x.player) (is next.0 next.1)))

-- the table after a dial of the player
abbrev pub dialled_by : (q next : ℕ) → Dial → Table → Table
dialled_by q next (D.Socket s) t = dialled_on s q next t
dialled_by q next D.Failed t = at_seat q dials t

each_dial : (game : Game) (me q : ℕ) (cs : List Seat) → EachIs (IsOthers game me) cs → EachIs (IsOthers game me) (in_seats q dials cs)
each_dial game me q [] e = tt
each_dial game me q (c ∷ cs) e = (go (c.link.player == q), each_dial game me q cs e.1)
  where
    go : (b : Bool) → IsOthers game me (if b then dials c else c)
    go true = record { player = e.0.player; other = e.0.other; most = e.0.most }
    go false = e.0

none_dial : (n q : ℕ) (cs : List Seat) → HasNone (λ c. c.link.player) n cs → HasNone (λ c. c.link.player) n (in_seats q dials cs)
none_dial n q [] h = tt
none_dial n q (c ∷ cs) h = (go (c.link.player == q), none_dial n q cs h.1)
  where
    go : (b : Bool) → (if b then dials c else c).link.player ≡ n → ⊥
    go true = h.0
    go false = h.0

differ_dial : (q : ℕ) (cs : List Seat) → DiffersBy (λ c. c.link.player) cs → DiffersBy (λ c. c.link.player) (in_seats q dials cs)
differ_dial q [] d = tt
differ_dial q (c ∷ cs) d = (go (c.link.player == q), differ_dial q cs d.1)
  where
    go : (b : Bool) → HasNone (λ x. x.link.player) (if b then dials c else c).link.player (in_seats q dials cs)
    go true = none_dial c.link.player q cs d.0
    go false = none_dial c.link.player q cs d.0

pub dial_fits : (l m : LoopState) (w : Writing) (k : ℕ) (link : Link) (next : ℕ) (r : Dial) (u : Table) → l ≡ m → IsFit l w → u ≡ dialled_by link.player next r l.table → IsFit (with_table u l) w
dial_fits l m w k link next r u same f e = subst (λ (t : Table). IsFit (with_table t l) w) (sym e) (go r)
  where
    go : (d : Dial) → IsFit (with_table (dialled_by link.player next d l.table) l) w
    go (D.Socket s) = fit_put l w (dialled_on s link.player next l.table) (each_dial l.peer.game l.peer.me link.player l.table.seats f.seats) (differ_dial link.player l.table.seats f.differ) f.waiting f
    go D.Failed = fit_put l w (at_seat link.player dials l.table) (each_dial l.peer.game l.peer.me link.player l.table.seats f.seats) (differ_dial link.player l.table.seats f.differ) f.waiting f

dialled_same : (l : LoopState) (c : Seat) (link : Link) (next : ℕ) (r : Dial) → link ≡ c.link → next ≡ next_place l.peer.game l.peer.me l.peer.entries link.player → dialled_by link.player next r l.table ≡ dialled_table l c r
dialled_same l c link next r e n = go r
  where
    go : (d : Dial) → dialled_by link.player next d l.table ≡ dialled_table l c d
    go (D.Socket s) = ap (λ (x : ℕ). dialled_on s link.player x l.table) n ∙ ap (λ (x : Link). dialled_on s x.player (next_place l.peer.game l.peer.me l.peer.entries x.player) l.table) e
    go D.Failed = ap (λ (x : Link). at_seat x.player dials l.table) e

pub dial_line : (items after : List Item) (l m n : LoopState) (w : Writing) (k : ℕ) (link : Link) (next : ℕ) (r dial : Dial) (u : Table) → l ≡ m → IsServing items m → IsFit l w → IsNextDial m (Some k) → ((c : Seat) → slice_get m.table.seats k ≡ Some c → link ≡ c.link) →
    next ≡ next_place m.peer.game m.peer.me m.peer.entries link.player → r ≡ dial → OpensNew items (dial_item r link.player (told_addr link.addr)) → after ≡ items ++ dial_item r link.player (told_addr link.addr) ∷ [] → u ≡ dialled_by link.player next dial l.table →
    n ≡ with_table u l → Dials items after m n
dial_line items after l m n w k link next r dial u same serving f wants is is_next answer new on table state =
    let c = wants.0 in
    let e : link ≡ c.link = is c wants.1 in
    dialled_so items after m n k c dial serving (subst (λ (x : LoopState). DiffersBy (λ y. y.link.player) x.table.seats) same f.differ) wants wants.1
    (subst (λ (d : Dial). OpensNew items (dial_item d c.link.player (told_addr c.link.addr))) answer (subst (λ (x : Link). OpensNew items (dial_item r x.player (told_addr x.addr))) e new))
    (on ∙ ap (λ (d : Dial). items ++ dial_item d link.player (told_addr link.addr) ∷ []) answer ∙ ap (λ (x : Link). items ++ dial_item dial x.player (told_addr x.addr) ∷ []) e)
    (state ∙ ap (λ (t : Table). with_table t l) table ∙ ap (λ (x : LoopState). with_table (dialled_by link.player next dial x.table) x) same ∙ ap (λ (t : Table). with_table t m) (dialled_same m c link next dial e is_next))
