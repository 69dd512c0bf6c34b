-- Sets: what clap finds in a command line.
use Rattle.std.proofs.Common.{◌≡◌, ◌∙◌, ◌<◌, ◌≤◌, true, List, [], ◌∷◌, ◌++◌, length, map, Some, refl, sym, ap, arith}
use Rattle.std.specs.Prelude.{find, option_map}
use Rattle.std.specs.List.{fold}
use Rattle.clap.specs.Simple.{App, Shape, entered, is_simple, label_of, names_of, rows_at, subcommand_of}
use Rattle.clap.specs.Takes.{takes, turn_passes, walk_passes}
use Rattle.clap.specs.Walk.{Names, Text, Walk, answers_to, nothing_held, walk, walk_from, walked}
use Rattle.clap.proofs.WalkLemmas.{walk_stopped}
use Rattle.command_names.specs.declared.names.Name.{Name}
use Rattle.command_names.specs.declared.names.Name.TheVariants.{Audit}
use Rattle.command_line.specs.Commands.{command_set}
use Rattle.command_line.specs.Found.{words_row}
use Rattle.command_names.specs.Names.{all_names, least_of, most_of, text_of}
use Rattle.station.specs.Words.{are_plain}
use Rattle.command_line.proofs.Leaves.{leaf_passes, leaf_rows}
use Rattle.command_line.proofs.Walks.{ready_leaf}

-- the command of a name, built
abbrev ready_of : Name → Shape
ready_of name = ready_leaf (text_of name) (least_of name) (most_of name)

-- the command set, built
abbrev ready_set : App
ready_set = record { top = record command_set.top { is_built = true }; subs = map ready_of all_names }

pub simple_set : is_simple command_set ≡ true
simple_set = refl

abbrev set_names : Names
set_names = names_of ready_set

-- the walk that stopped at the command of a name, before these words
abbrev stopped_at : Name → List Text → Walk
stopped_at name words = record (walk_from nothing_held) { stopped = Some (text_of name, words) }

name_walked : (name : Name) → walked [] set_names (walk_from nothing_held) (text_of name) ≡ stopped_at name []
unfolding walked
name_walked Audit = refl
name_walked name = refl

leaf_found : (name : Name) → find (λ s. answers_to (text_of name) (label_of s)) ready_set.subs ≡ Some (ready_of name)
leaf_found Audit = refl
leaf_found name = refl

line_walked : (name : Name) (words : List Text) → walk [] set_names nothing_held (text_of name ∷ words) ≡ stopped_at name words
line_walked name words =
    ap (λ w. fold (walked [] set_names) w words) (name_walked name)
    ∙ sym (walk_stopped [] set_names (walk_from nothing_held) (text_of name) [] words)

-- no command goes without words
some_words : (name : Name) → 0 < least_of name
some_words Audit = omega arith
some_words name = omega arith

-- the name is no call for help
name_passes : (name : Name) → turn_passes ready_set.top set_names (walk_from nothing_held) (text_of name) ≡ true
unfolding walked
name_passes Audit = refl
name_passes name = refl

-- the words after a name are left to its command
left_passes : (name : Name) (seen words : List Text) → walk_passes ready_set.top set_names (stopped_at name seen) words ≡ true
unfolding walked walk_passes
left_passes name seen [] = refl
left_passes name seen (word ∷ words) = left_passes name (seen ++ word ∷ []) words

line_passes : (name : Name) (words : List Text) → walk_passes ready_set.top set_names (walk_from nothing_held) (text_of name ∷ words) ≡ true
unfolding walk_passes
line_passes name words = rw (name_passes name, name_walked name) (left_passes name [] words)

module _ (name : Name) (words : List Text) (plain : are_plain words ≡ true) (enough : least_of name ≤ length words) (few : length words ≤ most_of name) where
  some : 0 < length words
  some = omega (arith, some_words name)

  -- clap finds the command and its words
  pub line_subcommand : subcommand_of command_set (text_of name ∷ words) ≡ Some (text_of name, words_row words ∷ [])
  line_subcommand =
      ap (λ (w : Walk). entered ready_set w.stopped) (line_walked name words)
      ∙ ap (option_map (λ s. rows_at s words)) (leaf_found name)
      ∙ ap (λ rows. Some (text_of name, rows)) (leaf_rows (least_of name) (most_of name) (text_of name) words plain some few)

  -- clap takes them
  pub line_taken : takes command_set (text_of name ∷ words) ≡ true
  line_taken =
      let leaf = leaf_passes (least_of name) (most_of name) (text_of name) words plain some few enough in
      rw (simple_set, line_walked name words, leaf_found name, line_passes name words, leaf) refl
