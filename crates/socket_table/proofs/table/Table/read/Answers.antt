use Rattle.std.proofs.Common.{◌≡◌, ◌+◌, ◌≤◌, ap, sym, subst, ◌∙◌, arith, length, List}
use Rattle.std.specs.Prelude.{Some, slice_get}
use Rattle.wire_frames.specs.Streams.{given_of}
use Rattle.socket_lines.specs.declared.line.Line.{Line}
use Rattle.socket_lines.specs.declared.seat.Seat.{Seat}
use Rattle.loop_rules.specs.Tables.{Table, at_line}
use Rattle.loop_rules.specs.Hearing.{read_on}
use Rattle.socket_table.specs.Sound.{spent_of}
use Rattle.loop_rules.proofs.Alike.{read_same}
use Rattle.socket_table.proofs.Changed.{line_changed, line_read, line_fits, place_few, fit_read}
use Rattle.socket_table.proofs.table.Table.read.Goals as goal

pub read_line-requires-clause-place : goal.read_line-requires-clause-place
read_line-requires-clause-place c =
    let x = line_read _ _ c.args.place c.args.socket c.index_mut.result.now c.requires.at.0 c.self.view_is c.requires.at c.index_mut.ensures.value c.requires.at.1 in
    let here = subst (λ (l : Line). slice_get c.args.self.now.lines c.args.place ≡ Some l) (sym x) c.requires.at.1 in
    let few = place_few _ _ _ _ c.args.place c.index_mut.result.now c.self.view_is c.self.invariant here in
    let bytes = c.requires.few in
    omega (arith, few, bytes)

pub read_line-requires-clause-taken : goal.read_line-requires-clause-taken
read_line-requires-clause-taken c =
    let x = line_read _ _ c.args.place c.args.socket c.index_mut.result.now c.requires.at.0 c.self.view_is c.requires.at c.index_mut.ensures.value c.requires.at.1 in
    let here = subst (λ (l : Line). slice_get c.args.self.now.lines c.args.place ≡ Some l) (sym x) c.requires.at.1 in
    let fits = line_fits _ _ _ _ c.args.place c.index_mut.result.now c.self.view_is c.self.invariant here in
    let taken = fits.taken in
    let bytes = c.requires.few in
    omega (arith, taken, bytes)

pub invariant_of-self : goal.invariant_of-self
invariant_of-self c = (line_changed _ _ _ _ c.args.place c.args.socket (read_on (length c.args.bytes.now) (given_of c.index_mut.result.now.reader c.args.bytes.now)) c.index_mut.result.now c.read_line.new.line c.self.view_is c.self.invariant c.requires.at c.index_mut.ensures.value c.read_line.ensures.line
    (read_same (length c.args.bytes.now) (given_of c.index_mut.result.now.reader c.args.bytes.now)) (λ l g f. fit_read c.self.inside.seats.items (length c.args.bytes.now) (given_of c.index_mut.result.now.reader c.args.bytes.now) l
    (let y = line_read _ _ c.args.place c.args.socket c.index_mut.result.now l c.self.view_is c.requires.at c.index_mut.ensures.value g in
    let grows = c.read_line.ensures.place in
    let new = ap (λ (m : Line). m.reader.place) c.read_line.ensures.line in
    let old = ap (λ (m : Line). m.reader.place) y in
    let after = ap (λ (m : Line). m.reader.place) (c.read_line.ensures.line) in
    omega (arith, grows, new, old, after))
    f (λ e. c.requires.taken l g e)
    (λ q e. subst (λ (cs : List Seat). l.reader.place + length c.args.bytes.now ≤ l.taken + spent_of cs (Some q)) (sym (ap (λ (w : Table). w.seats) c.self.view_is)) (c.requires.read l q g e)))).0

pub returns-clause-table : goal.returns-clause-table
returns-clause-table c l g =
    let y = line_read _ _ c.args.place c.args.socket c.index_mut.result.now l c.self.view_is c.requires.at c.index_mut.ensures.value g in
    (line_changed _ _ _ _ c.args.place c.args.socket (read_on (length c.args.bytes.now) (given_of c.index_mut.result.now.reader c.args.bytes.now)) c.index_mut.result.now c.read_line.new.line c.self.view_is c.self.invariant c.requires.at c.index_mut.ensures.value c.read_line.ensures.line
    (read_same (length c.args.bytes.now) (given_of c.index_mut.result.now.reader c.args.bytes.now)) (λ l g f. fit_read c.self.inside.seats.items (length c.args.bytes.now) (given_of c.index_mut.result.now.reader c.args.bytes.now) l
    (let y = line_read _ _ c.args.place c.args.socket c.index_mut.result.now l c.self.view_is c.requires.at c.index_mut.ensures.value g in
    let grows = c.read_line.ensures.place in
    let new = ap (λ (m : Line). m.reader.place) c.read_line.ensures.line in
    let old = ap (λ (m : Line). m.reader.place) y in
    let after = ap (λ (m : Line). m.reader.place) (c.read_line.ensures.line) in
    omega (arith, grows, new, old, after))
    f (λ e. c.requires.taken l g e)
    (λ q e. subst (λ (cs : List Seat). l.reader.place + length c.args.bytes.now ≤ l.taken + spent_of cs (Some q)) (sym (ap (λ (w : Table). w.seats) c.self.view_is)) (c.requires.read l q g e)))).1
    ∙ ap (λ (m : Line). at_line c.args.socket (read_on (length c.args.bytes.now) (given_of m.reader c.args.bytes.now)) c.args.self.now) y

pub returns-clause-frames : goal.returns-clause-frames
returns-clause-frames c l g =
    let x = line_read _ _ c.args.place c.args.socket c.index_mut.result.now l c.self.view_is c.requires.at c.index_mut.ensures.value g in
    c.read_line.ensures.frames ∙ ap (λ (m : Line). (given_of m.reader c.args.bytes.now).frames) x

pub returns-clause-bad : goal.returns-clause-bad
returns-clause-bad c l g =
    let x = line_read _ _ c.args.place c.args.socket c.index_mut.result.now l c.self.view_is c.requires.at c.index_mut.ensures.value g in
    c.read_line.ensures.bad ∙ ap (λ (m : Line). (given_of m.reader c.args.bytes.now).reader.bad) x
