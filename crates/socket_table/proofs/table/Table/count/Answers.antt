use Rattle.std.proofs.Common.{◌≡◌, ℕ, ◌+◌, ◌≤◌, sym, subst, ◌∙◌}
use Rattle.std.specs.Prelude.{Some, None}
use Rattle.socket_table.specs.Sound.{spent_of}
use Rattle.socket_table.proofs.Changed.{line_fits}
use Rattle.socket_table.proofs.Taken.{named_is, named_by, no_name, seat_room, counted_named, counted_none, reads_on}
use Rattle.socket_table.proofs.table.Table.count.Goals as goal

pub spend_seat-requires-clause-seat : goal.spend_seat-requires-clause-seat
spend_seat-requires-clause-seat c = (named_is c.args.self.now _ (c.in-Some.seat, c.in-Some.player) (named_by c.args.self.now _ c.named_seat.result (c.in-Some.seat, c.in-Some.player) (c.named_seat.ensures c.requires.at.0 c.requires.at.1) c.in-Some.is)).1

pub spend_seat-requires-clause-room : goal.spend_seat-requires-clause-room
spend_seat-requires-clause-room c x g =
    let n = (named_is c.args.self.now _ (c.in-Some.seat, c.in-Some.player) (named_by c.args.self.now _ c.named_seat.result (c.in-Some.seat, c.in-Some.player) (c.named_seat.ensures c.requires.at.0 c.requires.at.1) c.in-Some.is)) in
    seat_room c.args.self.now c.requires.at.0 c.in-Some.player c.in-Some.seat c.args.count x n.0 n.2 g (c.requires.room c.requires.at.0 c.requires.at.1)

pub returns-in-Some-clause-seats : goal.returns-in-Some-clause-seats
returns-in-Some-clause-seats c l g =
    let n = (named_is c.args.self.now _ (c.in-Some.seat, c.in-Some.player) (named_by c.args.self.now _ c.named_seat.result (c.in-Some.seat, c.in-Some.player) (c.named_seat.ensures l g) c.in-Some.is)) in
    counted_named c.spend_seat.new.self c.args.self.now l c.in-Some.player c.args.count n.0 c.spend_seat.ensures

pub returns-in-Some-clause-read : goal.returns-in-Some-clause-read
returns-in-Some-clause-read c l q g e =
    let n = (named_is c.args.self.now _ (c.in-Some.seat, c.in-Some.player) (named_by c.args.self.now _ c.named_seat.result (c.in-Some.seat, c.in-Some.player) (c.named_seat.ensures l g) c.in-Some.is)) in
    let same : c.in-Some.player ≡ q = (let x : Some c.in-Some.player ≡ Some q = sym n.0 ∙ e in cc) in
    let fits = line_fits _ _ _ _ c.args.place l c.self.view_is c.self.invariant g in
    subst (λ (p : ℕ). l.reader.place + c.args.count ≤ l.taken + spent_of c.spend_seat.new.self.seats (Some p)) same
    (reads_on c.args.self.now c.spend_seat.new.self l c.in-Some.player c.in-Some.seat c.args.count n.1.0 fits n.0 n.2 n.1.1 c.spend_seat.ensures)

pub returns-in-None-clause-seats : goal.returns-in-None-clause-seats
returns-in-None-clause-seats c l g =
    counted_none c.args.self.now l c.args.count (no_name c.args.self.now l c.named_seat.result c.args.count (c.named_seat.ensures l g) c.in-None.is c.requires.some (c.requires.room l g))

pub returns-in-None-clause-read : goal.returns-in-None-clause-read
returns-in-None-clause-read c l q g e =
    let none = no_name c.args.self.now l c.named_seat.result c.args.count (c.named_seat.ensures l g) c.in-None.is c.requires.some (c.requires.room l g) in
    (let x : Some q ≡ None = sym e ∙ none in absurd (cc))
