use Rattle.std.proofs.Common.{Bool, ap, sym, ◌∙◌}
use Rattle.session_log.specs.Entries.{read_as}
use Rattle.session_log.proofs.Texts.{found_of, none_of}
use Rattle.session_log.proofs.entries.read_entry.Goals as goal

pub returns-then-read_into-clause-found : goal.returns-then-read_into-clause-found
returns-then-read_into-clause-found c =
    found_of _ _ (λ i. c.type_inv.text i) (sym (c.read_into.ensures ∙ ap (λ (b : Bool). read_as b c.read_into.new.out) c.if-read_into.true))

pub returns-else-read_into-clause-none : goal.returns-else-read_into-clause-none
returns-else-read_into-clause-none c = none_of _ _ (sym (c.read_into.ensures ∙ ap (λ (b : Bool). read_as b c.read_into.new.out) c.if-read_into.false))
