use Rattle.std.proofs.Common.{◌≡◌, ◌∙◌, ap, ap₂, sym, map, Some, true}
use Rattle.std.specs.Prelude.{codes, is_some, option_map}
use Rattle.clap.specs.Walk.{all_of, rows_of}
use Rattle.clap.specs.Matches.{found_of}
use Rattle.clap.proofs.WalkLemmas.{raw_values-rows}
use Rattle.command_line.specs.Found.{line_in, line_of}
use Rattle.command_names.specs.Names.{named}
use Rattle.command_line.proofs.Finding.{is_there, subcommand_read, words_found}
use Rattle.command_line.proofs.lines.read_line.Goals as goal

pub unwrap-words-requires : goal.unwrap-words-requires
unwrap-words-requires c =
    let found = found_of c.unwrap.result.1.now in
    let here = subcommand_read c.args.matches.now _ _ c.subcommand.ensures.name c.subcommand.ensures.rows c.unwrap.ensures in
    let there : is_some (all_of (codes "words") (rows_of found)) ≡ true = words_found (named c.unwrap.result.0.now) _ (rw here at c.requires) in
    is_there _ c.get_raw.result (ap is_some (c.get_raw.ensures ∙ raw_values-rows found (codes "words")) ∙ there)

pub returns : goal.returns
returns c =
    let found = found_of c.unwrap.result.1.now in
    let here = subcommand_read c.args.matches.now _ _ c.subcommand.ensures.name c.subcommand.ensures.rows c.unwrap.ensures in
    let words : all_of (codes "words") (rows_of found) ≡ Some (map (λ t. t.now) c.in_ok-words.words.items)
    = sym (raw_values-rows found (codes "words")) ∙ sym c.get_raw.ensures ∙ ap (option_map (λ s. map (λ t. t.now) s.now)) c.unwrap-words.ensures
    ∙ ap (λ ts. Some (map (λ t. t.now) ts)) (sym c.in_ok-words.ensures.items) in
    let name : named c.unwrap.result.0.now ≡ Some c.unwrap-name.result = ap named (sym c.as_bytes.ensures.value) ∙ sym c.read.ensures ∙ c.unwrap-name.ensures in
    sym (ap line_in here ∙ ap₂ line_of name words)
