use Rattle.std.proofs.Common.{◌≡◌, ap, sym, ◌∙◌}
use Rattle.std.specs.Prelude.{Some, None}
use Rattle.socket_lines.specs.declared.line.Line.{Line}
use Rattle.socket_table.proofs.Heard.{line_at, heard_wrong, heard_with}
use Rattle.socket_table.proofs.table.Table.hear.Goals as goal

pub returns-then-line : goal.returns-then-line
returns-then-line g c =
    let at = line_at _ _ _ _ c.args.place c.args.socket c.index-line.result.now c.self.view_is c.self.invariant c.requires.at c.index-line.ensures in
    heard_wrong (g.H.Hears.hearer c.args.hears.now) c.args.self.now c.args.socket c.args.frame.now c.index-line.result.now at.found c.if-line.true

pub hear_first-requires-clause-unnamed : goal.hear_first-requires-clause-unnamed
hear_first-requires-clause-unnamed g c l i =
    let at = line_at _ _ _ _ c.args.place c.args.socket c.index-line.result.now c.self.view_is c.self.invariant c.requires.at c.index-line.ensures in
    ap (λ (x : Line). x.name) (let e : Some l ≡ Some c.index-line.result.now = sym i ∙ at.here in let q : l ≡ c.index-line.result.now = cc in q) ∙ c.in-None.is

pub returns-in-None : goal.returns-in-None
returns-in-None g c =
    let at = line_at _ _ _ _ c.args.place c.args.socket c.index-line.result.now c.self.view_is c.self.invariant c.requires.at c.index-line.ensures in
    heard_with (g.H.Hears.hearer c.args.hears.now) c.hear_first.new.self c.args.self.now c.args.socket c.args.frame.now c.index-line.result.now None at.found c.if-line.false c.in-None.is
    (c.hear_first.ensures c.index-line.result.now at.here)

pub returns-in-Some : goal.returns-in-Some
returns-in-Some g c =
    let at = line_at _ _ _ _ c.args.place c.args.socket c.index-line.result.now c.self.view_is c.self.invariant c.requires.at c.index-line.ensures in
    heard_with (g.H.Hears.hearer c.args.hears.now) c.hear_named.new.self c.args.self.now c.args.socket c.args.frame.now c.index-line.result.now (Some c.in-Some.player) at.found c.if-line.false c.in-Some.is
    c.hear_named.ensures
