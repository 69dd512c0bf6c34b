-- Heard: the first frame that waits is handled.
use Rattle.std.proofs.Common.{◌≡◌, ℕ, ◌+◌, ◌-◌, ◌*◌, ◌<◌, ◌≤◌, Bool, true, false, refl, sym, ap, subst, ◌∙◌, List, [], ◌∷◌, ◌++◌, append-nil, arith, length}
use Rattle.std.proofs.lemmas.Bool.{and_from}
use Rattle.std.specs.Prelude.{Some, Ok, ◌&&◌, ◌==◌, not, drop, take, find, slice_get, if◌then◌else◌}
use Rattle.std.specs.List.{count_by}
use Rattle.std.proofs.lemmas.List.{drop_more}
use Rattle.std.proofs.lemmas.Option.{get_or_from_slice_get}
use Rattle.std.proofs.Math.Seq.{take-length}
use Rattle.definitions.specs.Lists.{EachIs}
use Rattle.definitions.specs.declared.frames.TurnFrame.{TurnFrame}
use Rattle.definitions.specs.declared.logs.Entry.{Entry}
use Rattle.definitions.specs.declared.logs.Entry.TheVariants.{Got}
use Rattle.definitions.specs.declared.answers.GotAnswer.{GotAnswer}
use Rattle.definitions.specs.declared.answers.GotAnswer.TheVariants as GA
use Rattle.definitions.specs.World.{Game, players_of}
use Rattle.definitions.specs.Logs.{chosen, frames_of}
use Rattle.definitions.specs.Held.{known, next_place}
use Rattle.definitions.specs.Findings.{findings, is_clean}
use Rattle.definitions.specs.Answers.{is_far, is_same, is_new, is_of_another, got_answer, new_answer}
use Rattle.definitions.specs.Steps.{is_taken_in}
use Rattle.definition_laws.proofs.Knowing.{places_in_le}
use Rattle.definitions.specs.Advance.{next_made}
use Rattle.peer_core.specs.Views.{PeerState}
use Rattle.peer_core.specs.Answers.{is_logged}
use Rattle.peer_core.proofs.Answering.{logged_is}
use Rattle.socket_lines.specs.declared.limits.TheConstants.{MOST_BYTES}
use Rattle.socket_lines.specs.declared.seat.Seat.{Seat}
use Rattle.socket_lines.specs.Seats.{asks, is_asked_for}
use Rattle.socket_lines.specs.Asks.{is_asked}
use Rattle.socket_station.specs.Items.{Item}
use Rattle.loop_rules.specs.Told.{IsTold}
use Rattle.peer_rules.specs.declared.arrivals.Arrival.{Arrival}
use Rattle.loop_rules.specs.Tables.{Table, at_seat, in_seats, room_by_seat}
use Rattle.loop_rules.specs.Views.{View}
use Rattle.loop_rules.specs.Handling.{next_of, sorted, IsOfOther}
use Rattle.socket_table.specs.Staying.{SameSeat}
use Rattle.socket_table.proofs.Seats.{asked_seats, same_each, same_undialled}
use Rattle.ready_loop.specs.States.{LoopState, IsOthers, setting_of, kept_of, base_of, rest_of, view_of}
use Rattle.ready_loop.specs.Going.{undialled}
use Rattle.ready_loop.specs.Handling.{asked, passed_as, KeepsLines, IsHearing, Hears}
use Rattle.ready_loop.proofs.Sorting.{sorted_first}

-- no next place is past the last one
pub next_few : (game : Game) (me : ℕ) (h : List Entry) (q : ℕ) → next_place game me h q ≤ 2 * game.turns
unfolding known
next_few game me h q = places_in_le game q (frames_of me q h) (2 * game.turns)

-- ---- a seat is asked for a place

pub others_same : (game : Game) (me : ℕ) (c d : Seat) → SameSeat c d → IsOthers game me c → IsOthers game me d
others_same game me c d s o = record {
  player = subst (λ (n : ℕ). n < players_of game) (sym (ap (λ l. l.player) s.link)) o.player;
  other = λ e. o.other (sym (ap (λ l. l.player) s.link) ∙ e);
  most = s.most ∙ o.most;
}

pub asked_fit : (game : Game) (me q next : ℕ) (t : Table) → EachIs (IsOthers game me) t.seats → EachIs (IsOthers game me) (at_seat q (asks next) t).seats
asked_fit game me q next t each = same_each (IsOthers game me) (others_same game me) t.seats (at_seat q (asks next) t).seats (asked_seats q next t) each

asks_spent : (next : ℕ) (c : Seat) → ((asks next c).spent ≡ c.spent) × ((asks next c).link ≡ c.link)
asks_spent next c = go (is_asked c.asks next)
  where
    go : (b : Bool) → ((if b then c else is_asked_for next c).spent ≡ c.spent) × ((if b then c else is_asked_for next c).link ≡ c.link)
    go true = (refl, refl)
    go false = (refl, refl)

asked_rooms : (q next p : ℕ) (cs : List Seat) → room_by_seat (find (λ c. c.link.player == p) (in_seats q (asks next) cs)) ≡ room_by_seat (find (λ c. c.link.player == p) cs)
asked_rooms q next p [] = refl
asked_rooms q next p (c ∷ cs) = same (c.link.player == q) (asked_rooms q next p cs)
  where
    first : (d : Seat) → d.spent ≡ c.spent → d.link ≡ c.link → room_by_seat (find (λ x. x.link.player == p) (in_seats q (asks next) cs)) ≡ room_by_seat (find (λ x. x.link.player == p) cs) → room_by_seat (if d.link.player == p then Some d else find (λ x. x.link.player == p) (in_seats q (asks next) cs)) ≡ room_by_seat (if c.link.player == p then Some c else find (λ x. x.link.player == p) cs)
    first d s l ih = ap (λ (n : ℕ). room_by_seat (if n == p then Some d else find (λ x. x.link.player == p) (in_seats q (asks next) cs))) (ap (λ k. k.player) l) ∙ go (c.link.player == p)
      where
        go : (b : Bool) → room_by_seat (if b then Some d else find (λ x. x.link.player == p) (in_seats q (asks next) cs)) ≡ room_by_seat (if b then Some c else find (λ x. x.link.player == p) cs)
        go true = ap (λ (n : ℕ). MOST_BYTES - n) s
        go false = ih

    same : (b : Bool) → room_by_seat (find (λ x. x.link.player == p) (in_seats q (asks next) cs)) ≡ room_by_seat (find (λ x. x.link.player == p) cs) → room_by_seat (if (if b then asks next c else c).link.player == p then Some (if b then asks next c else c) else find (λ x. x.link.player == p) (in_seats q (asks next) cs)) ≡ room_by_seat (if c.link.player == p then Some c else find (λ x. x.link.player == p) cs)
    same true ih = first (asks next c) (asks_spent next c).0 (asks_spent next c).1 ih
    same false ih = first c refl refl ih

pub asked_keeps : (q : ℕ) (l : LoopState) → KeepsLines l.table (asked q l).table
asked_keeps q l = record { lines = refl; rooms = λ p. asked_rooms q (next_place l.peer.game l.peer.me l.peer.entries q) p l.table.seats }

pub asked_undialled : (q next : ℕ) (t : Table) → count_by (λ c. not c.is_dialled) (at_seat q (asks next) t).seats ≡ count_by (λ c. not c.is_dialled) t.seats
asked_undialled q next t = same_undialled t.seats (at_seat q (asks next) t).seats (asked_seats q next t)

-- ---- a frame that makes no entry

-- of a frame of another player, after no finding, that is not new: it is far, or the log has it
pub old_answer : (game : Game) (me q : ℕ) (h : List Entry) (f : TurnFrame) → is_clean game h ≡ true → is_of_another game me q f ≡ true → is_new game me h q f ≡ false →
    got_answer game me h q f ≡ (if is_far game me h q f then GA.Far else GA.Same)
unfolding got_answer
old_answer game me q h f c o n =
    ap (λ (b : Bool). if not b then GA.Closed else (if not (is_of_another game me q f) then GA.Foreign else (if is_far game me h q f then GA.Far else (if is_same h q f then GA.Same else new)))) c
    ∙ ap (λ (b : Bool). if not b then GA.Foreign else (if is_far game me h q f then GA.Far else (if is_same h q f then GA.Same else new))) o
    ∙ go (is_far game me h q f) (is_same h q f) n
  where
    new : GotAnswer
    new = new_answer game (next_place game me h q) (findings game ((h ++ Got q f ∷ []) ∷ [])) f

    go : (r s : Bool) → (not r && not s) ≡ false → (if r then GA.Far else (if s then GA.Same else new)) ≡ (if r then GA.Far else GA.Same)
    go true s e = refl
    go false true e = refl
    go false false e = absurd (cc)

-- the first frame that waits
pub first_rest : (l : LoopState) (a : Arrival) → l.handled < length l.table.waiting → slice_get l.table.waiting l.handled ≡ Some a → rest_of l ≡ a ∷ drop (l.handled + 1) l.table.waiting
first_rest l a lt g = drop_more l.table.waiting l.handled a lt ∙ ap (λ (b : Arrival). b ∷ drop (l.handled + 1) l.table.waiting) (get_or_from_slice_get l.table.waiting l.handled a a g)

-- it is handled, and the view is the same: it counted as handled before
pass_shows : (l : LoopState) (a : Arrival) (answer : GotAnswer) → l.handled < length l.table.waiting → slice_get l.table.waiting l.handled ≡ Some a → kept_of l ≡ l.peer.entries →
    is_clean l.peer.game l.peer.entries ≡ true → IsOfOther l.peer.game l.peer.me a → is_new l.peer.game l.peer.me l.peer.entries a.player a.frame ≡ false →
    answer ≡ got_answer l.peer.game l.peer.me l.peer.entries a.player a.frame → view_of (passed_as answer a.player l) ≡ view_of l
pass_shows l a answer lt g all c o n e =
    ap (λ (x : GotAnswer). view_of (passed_as x a.player l)) (e ∙ old_answer game me q l.peer.entries a.frame c o n ∙ ap (λ (h : List Entry). if is_far game me h q a.frame then GA.Far else GA.Same) (sym all))
    ∙ go (is_far game me (kept_of l) q a.frame)
    ∙ sym (sorted_first a more base false (ap (is_clean game) all ∙ c) (ap (λ (h : List Entry). is_new game me h q a.frame) all ∙ n))
    ∙ sym (ap (λ (rest : List Arrival). sorted rest base) (first_rest l a lt g))
  where
    game : Game
    game = l.peer.game

    me : ℕ
    me = l.peer.me

    q : ℕ
    q = a.player

    base : View
    base = base_of l

    more : List Arrival
    more = drop (l.handled + 1) l.table.waiting

    go : (b : Bool) → view_of (passed_as (if b then GA.Far else GA.Same) q l) ≡ sorted more (if b then record base { table = at_seat q (asks (next_of base q)) base.table } else base)
    go true = ap (λ (h : List Entry). sorted more (record base { table = at_seat q (asks (next_place game me h q)) base.table })) (sym all)
    go false = refl

passed_same : (answer : GotAnswer) (q : ℕ) (l : LoopState) → (setting_of (passed_as answer q l) ≡ setting_of l) × (undialled (passed_as answer q l) ≤ undialled l)
passed_same GA.Far q l = (refl, (let e = asked_undialled q (next_place l.peer.game l.peer.me l.peer.entries q) l.table in omega (arith, e)))
passed_same GA.Taken q l = (refl, omega arith)
passed_same GA.Stashed q l = (refl, omega arith)
passed_same GA.Same q l = (refl, omega arith)
passed_same GA.Foreign q l = (refl, omega arith)
passed_same (GA.Caught f) q l = (refl, omega arith)
passed_same GA.Closed q l = (refl, omega arith)

passed_stays : (answer : GotAnswer) (q : ℕ) (l : LoopState) → KeepsLines l.table (passed_as answer q l).table × ((passed_as answer q l).table.waiting ≡ l.table.waiting) × ((passed_as answer q l).handled ≡ l.handled + 1) ×
    ((passed_as answer q l).phase ≡ l.phase) × ((passed_as answer q l).kept ≡ l.kept) × ((passed_as answer q l).peer ≡ l.peer)
passed_stays GA.Far q l = (asked_keeps q l, refl, refl, refl, refl, refl)
passed_stays GA.Taken q l = (record { lines = refl; rooms = λ p. refl }, refl, refl, refl, refl, refl)
passed_stays GA.Stashed q l = (record { lines = refl; rooms = λ p. refl }, refl, refl, refl, refl, refl)
passed_stays GA.Same q l = (record { lines = refl; rooms = λ p. refl }, refl, refl, refl, refl, refl)
passed_stays GA.Foreign q l = (record { lines = refl; rooms = λ p. refl }, refl, refl, refl, refl, refl)
passed_stays (GA.Caught f) q l = (record { lines = refl; rooms = λ p. refl }, refl, refl, refl, refl, refl)
passed_stays GA.Closed q l = (record { lines = refl; rooms = λ p. refl }, refl, refl, refl, refl, refl)

-- a frame that makes no entry is handled
pub pass_hears : (items : List Item) (l m : LoopState) (a : Arrival) (answer : GotAnswer) → IsHearing items l → l.handled < length l.table.waiting → slice_get l.table.waiting l.handled ≡ Some a →
    is_clean l.peer.game l.peer.entries ≡ true → IsOfOther l.peer.game l.peer.me a → answer ≡ got_answer l.peer.game l.peer.me l.peer.entries a.player a.frame → is_logged answer ≡ false →
    m ≡ passed_as answer a.player l → Hears (Ok tt) items items l m
pass_hears items l m a answer w lt g c o e un same =
    let all : kept_of l ≡ l.peer.entries = ap (λ (n : ℕ). take n l.peer.entries) w.played.kept ∙ take-length l.peer.entries in
    let old : is_new l.peer.game l.peer.me l.peer.entries a.player a.frame ≡ false = unlogged_old l.peer.game l.peer.me l.peer.entries a.player a.frame c o (sym (logged_is l.peer.game l.peer.me l.peer.entries a.player a.frame) ∙ ap is_logged (sym e) ∙ un) in
    let s = passed_stays answer a.player l in
    let n = passed_same answer a.player l in
    subst (λ (x : LoopState). Hears (Ok tt) items items l x) (sym same) (record {
      goes = record {
        more = [];
        grown = sym (append-nil items);
        new = λ n. n;
        polls = refl;
        setting = n.0;
        undialled = n.1;
        chosen = ap (λ (p : PeerState). chosen p.me p.entries) s.5;
        told = subst (IsTold items) (sym (pass_shows l a answer lt g all c o old e)) w.told;
      };
      keeps = s.0;
      waiting = s.1;
      handled = s.2;
      stands = (s.3 ∙ w.running, record { kept = s.4 ∙ w.played.kept ∙ ap (λ (p : PeerState). length p.entries) (sym s.5); made = ap (λ (p : PeerState). next_made p.game p.me p.entries) s.5 ∙ w.played.made });
    })
  where
    unlogged_old : (game : Game) (me : ℕ) (h : List Entry) (q : ℕ) (f : TurnFrame) → is_clean game h ≡ true → is_of_another game me q f ≡ true → is_taken_in game me h q f ≡ false → is_new game me h q f ≡ false
    unlogged_old game me h q f c o t = sym (ap (λ (b : Bool). b && is_new game me h q f) (and_from _ _ c o)) ∙ t
