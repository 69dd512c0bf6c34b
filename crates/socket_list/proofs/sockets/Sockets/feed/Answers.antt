use Rattle.std.proofs.Common.{ap, refl, ◌∙◌, arith, length}
use Rattle.wire_frames.specs.Reading.{Reading, fed_step}
use Rattle.socket_lines.specs.declared.line.Line.{Line}
use Rattle.socket_list.specs.Sockets.{at_line, fed_line}
use Rattle.socket_list.proofs.Changed.{line_changed, line_read, line_fits}
use Rattle.socket_list.proofs.sockets.Sockets.feed.Goals as goal

pub feed_line-requires-clause-place : goal.feed_line-requires-clause-place
feed_line-requires-clause-place c =
    let l = c.requires.at.0 in
    let x = line_read _ _ c.args.place c.index_mut.result.now l c.self.view_is c.index_mut.ensures.value c.requires.at.1 in
    let f = line_fits _ _ _ c.args.place l c.self.view_is c.self.invariant c.requires.at.1 in
    let few = c.requires.few l c.requires.at.1 in
    let read = f.read in
    let taken = f.taken in
    let same = ap (λ (m : Line). m.reader.place) x in
    omega (arith, few, read, taken, same)

pub feed_line-requires-clause-taken : goal.feed_line-requires-clause-taken
feed_line-requires-clause-taken c =
    let l = c.requires.at.0 in
    let x = line_read _ _ c.args.place c.index_mut.result.now l c.self.view_is c.index_mut.ensures.value c.requires.at.1 in
    let f = line_fits _ _ _ c.args.place l c.self.view_is c.self.invariant c.requires.at.1 in
    let few = c.requires.few l c.requires.at.1 in
    let taken = f.taken in
    let same = ap (λ (m : Line). m.taken) x in
    omega (arith, few, taken, same)

pub invariant_of-self : goal.invariant_of-self
invariant_of-self c =
    let r : Reading = (fed_step c.index_mut.result.now.reader c.args.bytes.now).reader in
    (line_changed _ _ _ c.args.place c.args.socket (fed_line (length c.args.bytes.now) r) c.index_mut.result.now c.feed_line.new.line c.self.view_is c.self.invariant c.requires.at c.index_mut.ensures.value c.feed_line.ensures.line
    (λ l. record { socket = refl; opened = λ e. e; dialled = refl; wrong = λ e. e })
    (λ l g f.
    let x = line_read _ _ c.args.place c.index_mut.result.now l c.self.view_is c.index_mut.ensures.value g in
    let few = c.requires.few l g in
    let taken = f.taken in
    let read = f.read in
    let old = ap (λ (m : Line). m.reader.place) x in
    let new = ap (λ (m : Line). m.reader.place) c.feed_line.ensures.line in
    let grows = c.feed_line.ensures.place in
    record { taken = omega (arith, few, taken); read = omega (arith, few, read, taken, old, new, grows) })).0

pub returns-clause-sockets : goal.returns-clause-sockets
returns-clause-sockets c l g =
    let r : Reading = (fed_step c.index_mut.result.now.reader c.args.bytes.now).reader in
    (line_changed _ _ _ c.args.place c.args.socket (fed_line (length c.args.bytes.now) r) c.index_mut.result.now c.feed_line.new.line c.self.view_is c.self.invariant c.requires.at c.index_mut.ensures.value c.feed_line.ensures.line
    (λ l. record { socket = refl; opened = λ e. e; dialled = refl; wrong = λ e. e })
    (λ l g f.
    let x = line_read _ _ c.args.place c.index_mut.result.now l c.self.view_is c.index_mut.ensures.value g in
    let few = c.requires.few l g in
    let taken = f.taken in
    let read = f.read in
    let old = ap (λ (m : Line). m.reader.place) x in
    let new = ap (λ (m : Line). m.reader.place) c.feed_line.ensures.line in
    let grows = c.feed_line.ensures.place in
    record { taken = omega (arith, few, taken); read = omega (arith, few, read, taken, old, new, grows) })).1
    ∙ ap (λ (m : Line). at_line c.args.socket (fed_line (length c.args.bytes.now) (fed_step m.reader c.args.bytes.now).reader) c.args.self.now)
    (line_read _ _ c.args.place c.index_mut.result.now l c.self.view_is c.index_mut.ensures.value g)

pub returns-clause-fed : goal.returns-clause-fed
returns-clause-fed c l g =
    c.feed_line.ensures.fed ∙ ap (λ (m : Line). (fed_step m.reader c.args.bytes.now).fed) (line_read _ _ c.args.place c.index_mut.result.now l c.self.view_is c.index_mut.ensures.value g)
