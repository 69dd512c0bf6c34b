use Rattle.std.proofs.Common.{◌≡◌, ◌∙◌, ap, true}
use Rattle.std.specs.Prelude.{codes}
use Rattle.clap.specs.Simple.{App, app_of, app_of_fields, new_app, on_top}
use Rattle.command_line.proofs.commands.bare_set.Goals as goal

abbrev unnamed_set : App
unnamed_set = on_top (λ s. record s { no_binary_name = true }) (new_app (codes "lethwyrn"))

abbrev unflagged_set : App
unflagged_set = on_top (λ s. record s { disable_help_flag = true }) unnamed_set

pub returns : goal.returns
returns c =
    let unnamed : app_of c.no_binary_name.result ≡ unnamed_set = ap app_of_fields c.no_binary_name.ensures ∙ ap (on_top (λ s. record s { no_binary_name = true })) c.new.ensures.app in
    let unflagged : app_of c.disable_help_flag.result ≡ unflagged_set = ap app_of_fields c.disable_help_flag.ensures ∙ ap (on_top (λ s. record s { disable_help_flag = true })) unnamed in
    ap app_of_fields c.disable_help_subcommand.ensures ∙ ap (on_top (λ s. record s { disable_help_subcommand = true })) unflagged
