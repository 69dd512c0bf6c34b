-- Serving: what is done on a line is done only while the loop is serving.
use Rattle.std.proofs.Common.{◌≡◌, Bool, true, false}
use Rattle.std.specs.Prelude.{Option, Some, None, ◌&&◌}
use Rattle.std.proofs.lemmas.Bool.{and_parts, false≢true}
use Rattle.socket_lines.specs.declared.line.Line.{Line}
use Rattle.loop_rules.specs.Views.{View}
use Rattle.loop_rules.specs.Rules.{is_serving}

-- the loop serves, and the line that is there asks for it
abbrev pub serves : (asks : Line → Bool) → View → Option Line → Bool
serves asks v None = false
serves asks v (Some l) = is_serving v && asks l

-- where that passes, the loop serves
pub serving_where : (asks : Line → Bool) (v : View) (o : Option Line) → serves asks v o ≡ true → is_serving v ≡ true
serving_where asks v None h = absurd (false≢true h)
serving_where asks v (Some l) h = (and_parts _ _ h).0
