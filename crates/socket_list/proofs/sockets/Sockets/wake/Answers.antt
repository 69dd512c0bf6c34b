use Rattle.std.proofs.Common.{ap, sym, ◌∙◌, List, length}
use Rattle.std.specs.Prelude.{◌==◌, if◌then◌else◌}
use Rattle.socket_lines.specs.declared.line.Line.{Line}
use Rattle.socket_lines.specs.Lines.{woken}
use Rattle.loop_rules.specs.Tables.{in_lines}
use Rattle.socket_list.proofs.OneLine.{woken_same}
use Rattle.socket_list.proofs.Changed.{all_changed}
use Rattle.socket_list.proofs.Opened.{fit_woken}
use Rattle.socket_list.proofs.sockets.Sockets.wake.Goals as goal

pub invariant_of-self : goal.invariant_of-self
invariant_of-self c =
    (all_changed _ _ _ (λ l. if l.socket == c.args.socket then woken l else l) c.wake_all.new.lines c.self.inside.lines.len c.self.view_is c.self.invariant (woken_same c.args.socket) (fit_woken c.args.socket)
    (c.wake_all.ensures ∙ ap (in_lines c.args.socket woken) c.deref_mut.ensures.value) (sym c.deref_mut.ensures.len ∙ ap (λ (x : List Line). length x) c.deref_mut.ensures.value)).0

pub returns : goal.returns
returns c =
    (all_changed _ _ _ (λ l. if l.socket == c.args.socket then woken l else l) c.wake_all.new.lines c.self.inside.lines.len c.self.view_is c.self.invariant (woken_same c.args.socket) (fit_woken c.args.socket)
    (c.wake_all.ensures ∙ ap (in_lines c.args.socket woken) c.deref_mut.ensures.value) (sym c.deref_mut.ensures.len ∙ ap (λ (x : List Line). length x) c.deref_mut.ensures.value)).1
