-- Commands: the command set, as clap reads it.
use Rattle.std.specs.Prelude.{true, false, [], ◌∷◌, Some, codes, map}
use Rattle.clap.specs.Words.{App, Rule, Shape, new_rule}
use Rattle.clap.specs.Simple.{new_shape}
use Rattle.command_names.specs.declared.names.Name.{Name}
use Rattle.command_names.specs.Names.{all_names, least_of, most_of, text_of}

-- the argument whose values are the words after the name
abbrev pub words_of : Name → Rule
words_of name = record (new_rule (codes "words")) {
  range = Some (record { start_inclusive = least_of name; end_inclusive = most_of name });
  required = true;
}

-- the command of this name
abbrev pub leaf_of : Name → Shape
leaf_of name = record (new_shape (text_of name)) { rules = words_of name ∷ [] }

-- the command above the others, with nothing that clap would add
abbrev pub bare_set : App
bare_set = record {
  top = record (new_shape (codes "lethwyrn")) {
    no_binary_name = true;
    disable_help_flag = true;
    disable_help_subcommand = true;
  };
  subs = [];
}

-- the command set: below it a command for each name
abbrev pub command_set : App
command_set = record { top = record bare_set.top { is_leaf = false }; subs = map leaf_of all_names }
