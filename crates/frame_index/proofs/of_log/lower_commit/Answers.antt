use Rattle.std.proofs.Common.{◌∙◌, ap, sym}
use Rattle.std.specs.Prelude.{is_some}
use Rattle.definitions.specs.Held.{commit_of}
use Rattle.frame_index.proofs.OfLog.{left_out, taken_in}
use Rattle.frame_index.proofs.of_log.lower_commit.Goals as goal

pub returns-in-None : goal.returns-in-None
returns-in-None c = left_out (λ f d. is_some (commit_of c.args.turn f)) c.args.log c.args.one.now c.args.best (ap is_some (sym c.commit_of.ensures ∙ c.in-None.is))

pub returns-in-Some : goal.returns-in-Some
returns-in-Some c = c.lower_in.ensures ∙ taken_in (λ f d. is_some (commit_of c.args.turn f)) c.args.log c.args.one.now c.args.best (ap is_some (sym c.commit_of.ensures ∙ c.in-Some.is))
