use Rattle.std.proofs.Common.{ap, sym, ◌∙◌, List, ℕ}
use Rattle.std.specs.Prelude.{drop}
use Rattle.std.proofs.lemmas.List.{drop-drop}
use Rattle.socket_lines.specs.Asks.{AskList}
use Rattle.socket_lines.proofs.asks.Asks.take_first.Goals as goal

pub returns-then-self-len : goal.returns-then-self-len
returns-then-self-len c =
    ap (λ (x : List ℕ). record { most = c.self.inside.most; last = c.self.inside.last; due = x }) (sym (drop-drop 1 c.self.inside.from c.self.inside.places.items))
    ∙ ap (λ (x : AskList). record { most = x.most; last = x.last; due = drop 1 x.due }) c.self.view_is
