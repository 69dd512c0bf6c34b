use Rattle.std.proofs.Common.{◌∙◌, ap, map, List}
use Rattle.std.proofs.lemmas.Result.{IfErr-weaker, IfOk-weaker}
use Rattle.clap.specs.Simple.{is_simple, subcommand_of}
use Rattle.clap.specs.Takes.{takes}
use Rattle.clap.specs.Walk.{Text}
use Rattle.command_line.proofs.Finding.{texts_found, texts_taken}
use Rattle.command_line.proofs.Sets.{simple_set}
use Rattle.command_line.proofs.lines.parse.Goals as goal

pub returns-clause-ok : goal.returns-clause-ok
returns-clause-ok c =
    let texts : List Text = map (λ t. t.now) c.args.texts.now in
    let set = c.in_ok-set.ensures in
    IfOk-weaker c.try_get_matches_from.result _ _ (λ m h.
    (h (ap is_simple set ∙ simple_set)).1 ∙ ap (λ a. subcommand_of a texts) set ∙ texts_found texts c.requires.plain c.requires.said)
    c.try_get_matches_from.ensures.matches

pub returns-clause-err : goal.returns-clause-err
returns-clause-err c =
    let texts : List Text = map (λ t. t.now) c.args.texts.now in
    IfErr-weaker c.try_get_matches_from.result _ _ (λ e h.
    h (ap (λ a. takes a texts) c.in_ok-set.ensures ∙ texts_taken texts c.requires.plain c.requires.said))
    c.try_get_matches_from.ensures.passes
