use Rattle.std.proofs.Common.{◌≡◌, ap, sym, ◌∙◌, arith, length, List, true, false}
use Rattle.std.specs.Prelude.{Some, map, slice_get}
use Rattle.socket_lines.specs.declared.line.Line.{Line}
use Rattle.std.specs.List.{fold}
use Rattle.wire_frames.specs.declared.frames.Frame.{Frame}
use Rattle.wire_frames.specs.Streams.{given_of}
use Rattle.socket_lines.specs.Lines.{doomed}
use Rattle.loop_rules.specs.Tables.{Table, at_line}
use Rattle.loop_rules.specs.Hearing.{heard}
use Rattle.socket_table.proofs.Heard.{line_found, players_linked}
use Rattle.socket_table.proofs.Taken.{counting, still_at, still_there, unnamed_few, read_at_place, heard_place, took_it}
use Rattle.socket_table.proofs.table.Table.take.Goals as goal

pub read-bad-requires-clause-at : goal.read-bad-requires-clause-at
read-bad-requires-clause-at g c =
    let v = c.args.self.now in
    let l = c.requires.at.0 in
    let n = length c.args.bytes.now in
    let k = counting v c.count.new.self l n (c.count.ensures.seats l c.requires.at.1) in
    still_at v c.count.new.self c.args.place c.args.socket k.lines c.requires.at

pub read-bad-requires-clause-taken : goal.read-bad-requires-clause-taken
read-bad-requires-clause-taken g c m i e =
    let v = c.args.self.now in
    let l = c.requires.at.0 in
    let n = length c.args.bytes.now in
    let k = counting v c.count.new.self l n (c.count.ensures.seats l c.requires.at.1) in
    unnamed_few v m n e (c.requires.room m (still_there v c.count.new.self c.args.place m k.lines i))

pub read-bad-requires-clause-read : goal.read-bad-requires-clause-read
read-bad-requires-clause-read g c m q i e =
    let v = c.args.self.now in
    let l = c.requires.at.0 in
    let n = length c.args.bytes.now in
    let k = counting v c.count.new.self l n (c.count.ensures.seats l c.requires.at.1) in
    c.count.ensures.read m q (still_there v c.count.new.self c.args.place m k.lines i) e

pub hear_all-requires-clause-at : goal.hear_all-requires-clause-at
hear_all-requires-clause-at g c =
    let v = c.args.self.now in
    let l = c.requires.at.0 in
    let n = length c.args.bytes.now in
    let k = counting v c.count.new.self l n (c.count.ensures.seats l c.requires.at.1) in
    let here = still_at v c.count.new.self c.args.place c.args.socket k.lines c.requires.at in
    let there : slice_get c.count.new.self.lines c.args.place ≡ Some l = ap (λ (ls : List Line). slice_get ls c.args.place) k.lines ∙ c.requires.at.1 in
    let table = c.read-bad.ensures.table l there in
    let at = read_at_place c.count.new.self c.read-bad.new.self c.args.socket c.args.place c.args.socket n (given_of l.reader c.args.bytes.now) table here in
    at

pub hear_all-requires-clause-room : goal.hear_all-requires-clause-room
hear_all-requires-clause-room g c =
    let v = c.args.self.now in
    let l = c.requires.at.0 in
    let n = length c.args.bytes.now in
    let k = counting v c.count.new.self l n (c.count.ensures.seats l c.requires.at.1) in
    let here = still_at v c.count.new.self c.args.place c.args.socket k.lines c.requires.at in
    let there : slice_get c.count.new.self.lines c.args.place ≡ Some l = ap (λ (ls : List Line). slice_get ls c.args.place) k.lines ∙ c.requires.at.1 in
    let table = c.read-bad.ensures.table l there in
    let at = read_at_place c.count.new.self c.read-bad.new.self c.args.socket c.args.place c.args.socket n (given_of l.reader c.args.bytes.now) table here in
    let waits = ap (λ (t : Table). length t.waiting) table in
    let before = ap (λ ws. length ws) (k.waiting ∙ c.requires.none) in
    let frames = ap (λ (fs : List Frame). length fs) c.as_slice.ensures in
    let few = c.read-bad.ensures.few in
    let most = c.requires.few in
    omega (arith, waits, before, frames, few, most)

pub hear_all-requires-clause-players : goal.hear_all-requires-clause-players
hear_all-requires-clause-players g c =
    let v = c.args.self.now in
    let l = c.requires.at.0 in
    let n = length c.args.bytes.now in
    let k = counting v c.count.new.self l n (c.count.ensures.seats l c.requires.at.1) in
    let here = still_at v c.count.new.self c.args.place c.args.socket k.lines c.requires.at in
    let there : slice_get c.count.new.self.lines c.args.place ≡ Some l = ap (λ (ls : List Line). slice_get ls c.args.place) k.lines ∙ c.requires.at.1 in
    let table = c.read-bad.ensures.table l there in
    let at = read_at_place c.count.new.self c.read-bad.new.self c.args.socket c.args.place c.args.socket n (given_of l.reader c.args.bytes.now) table here in
    players_linked (g.H.Hears.players c.args.hears.now) v.seats c.read-bad.new.self.seats (ap (λ (t : Table). map (λ x. x.link) t.seats) table ∙ k.seats) c.requires.players

pub doom-requires : goal.doom-requires
doom-requires g c =
    let v = c.args.self.now in
    let l = c.requires.at.0 in
    let n = length c.args.bytes.now in
    let k = counting v c.count.new.self l n (c.count.ensures.seats l c.requires.at.1) in
    let here = still_at v c.count.new.self c.args.place c.args.socket k.lines c.requires.at in
    let there : slice_get c.count.new.self.lines c.args.place ≡ Some l = ap (λ (ls : List Line). slice_get ls c.args.place) k.lines ∙ c.requires.at.1 in
    let table = c.read-bad.ensures.table l there in
    let at = read_at_place c.count.new.self c.read-bad.new.self c.args.socket c.args.place c.args.socket n (given_of l.reader c.args.bytes.now) table here in
    heard_place (g.H.Hears.hearer c.args.hears.now) c.read-bad.new.self c.hear_all.new.self c.args.socket c.args.place c.args.socket c.as_slice.result.now c.hear_all.ensures at

pub returns-then-bad : goal.returns-then-bad
returns-then-bad g c =
    let v = c.args.self.now in
    let l = c.requires.at.0 in
    let n = length c.args.bytes.now in
    let k = counting v c.count.new.self l n (c.count.ensures.seats l c.requires.at.1) in
    let here = still_at v c.count.new.self c.args.place c.args.socket k.lines c.requires.at in
    let there : slice_get c.count.new.self.lines c.args.place ≡ Some l = ap (λ (ls : List Line). slice_get ls c.args.place) k.lines ∙ c.requires.at.1 in
    let table = c.read-bad.ensures.table l there in
    let at = read_at_place c.count.new.self c.read-bad.new.self c.args.socket c.args.place c.args.socket n (given_of l.reader c.args.bytes.now) table here in
    let frames = c.as_slice.ensures ∙ c.read-bad.ensures.frames l there in
    took_it (g.H.Hears.hearer c.args.hears.now) v c.count.new.self c.read-bad.new.self c.doom.new.self c.args.socket c.args.bytes.now l
    (line_found _ _ _ _ c.args.place c.args.socket c.self.view_is c.self.invariant c.requires.at) (c.count.ensures.seats l c.requires.at.1) table true
    (sym c.if-bad.true ∙ c.read-bad.ensures.bad l there)
    (c.doom.ensures ∙ ap (at_line c.args.socket doomed) (c.hear_all.ensures ∙ ap (fold (heard (g.H.Hears.hearer c.args.hears.now) c.args.socket) c.read-bad.new.self) frames))

pub returns-else-bad : goal.returns-else-bad
returns-else-bad g c =
    let v = c.args.self.now in
    let l = c.requires.at.0 in
    let n = length c.args.bytes.now in
    let k = counting v c.count.new.self l n (c.count.ensures.seats l c.requires.at.1) in
    let here = still_at v c.count.new.self c.args.place c.args.socket k.lines c.requires.at in
    let there : slice_get c.count.new.self.lines c.args.place ≡ Some l = ap (λ (ls : List Line). slice_get ls c.args.place) k.lines ∙ c.requires.at.1 in
    let table = c.read-bad.ensures.table l there in
    let at = read_at_place c.count.new.self c.read-bad.new.self c.args.socket c.args.place c.args.socket n (given_of l.reader c.args.bytes.now) table here in
    let frames = c.as_slice.ensures ∙ c.read-bad.ensures.frames l there in
    took_it (g.H.Hears.hearer c.args.hears.now) v c.count.new.self c.read-bad.new.self c.hear_all.new.self c.args.socket c.args.bytes.now l
    (line_found _ _ _ _ c.args.place c.args.socket c.self.view_is c.self.invariant c.requires.at) (c.count.ensures.seats l c.requires.at.1) table false
    (sym c.if-bad.false ∙ c.read-bad.ensures.bad l there)
    (c.hear_all.ensures ∙ ap (fold (heard (g.H.Hears.hearer c.args.hears.now) c.args.socket) c.read-bad.new.self) frames)
