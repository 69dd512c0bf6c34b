use Rattle.std.proofs.Common.{◌∙◌, ap, map}
use Rattle.command_line.specs.Found.{line_in}
use Rattle.command_line.specs.Lines.{split_of}
use Rattle.command_line.proofs.Finding.{line_in-subcommand_for}
use Rattle.command_line.proofs.lines.split.Goals as goal

pub returns-in_ok-line-in-Ok : goal.returns-in_ok-line-in-Ok
returns-in_ok-line-in-Ok c =
    c.in_ok-line-in-Ok.ensures ∙ ap line_in c.in-Ok.ensures.ok ∙ line_in-subcommand_for (split_of (map (λ t. t.now) c.args.texts.now))
