-- Building: what a command that is built step by step looks like to clap.
use Rattle.std.proofs.Common.{◌≡◌, ◌∙◌, ℕ, ◌+◌, ◌<◌, List, length, map, drop, get_or, add-one, drop-cons, ap, false, Option, Some, None, refl}
use Rattle.std.specs.Prelude.{IsSomeAnd, max}
use Rattle.std.specs.List.{fold}
use Rattle.clap.specs.Built.{AddsSubcommand}
use Rattle.clap.specs.Simple.{App, app_of, shape_of, with_subcommand}
use Rattle.clap.specs.declared.builder.command.Command.{Command}
use Rattle.clap.specs.declared.builder.command.Command.TheViews.{out-Command}
use Rattle.command_names.specs.declared.names.Name.{Name}
use Rattle.command_names.specs.declared.names.Name.TheVariants.{Audit}
use Rattle.command_line.specs.Commands.{leaf_of}
use Rattle.command_names.specs.Names.{least_of, most_of}

-- what is there is the value that it is said to be
pub is_some_value : {X : Type 0} (o : Option X) (x : X) → IsSomeAnd o (λ y. y ≡ x) → o ≡ Some x
is_some_value None x h = absurd h
is_some_value (Some y) x h = ap Some h

-- each command takes as many words as it takes at least
pub max-least : (name : Name) → max (most_of name) (least_of name) ≡ most_of name
max-least Audit = refl
max-least name = refl

-- the set with the commands of these names after those that it has
abbrev pub with_names : App → List Name → App
with_names app names = fold with_subcommand app (map leaf_of names)

-- the command of the name at a place leaves those of the names after it
pub one_more : (old sub new : Command) (names : List Name) (place : ℕ) (other : Name) → place < length names → shape_of sub ≡ leaf_of (get_or names place other)
    → (out-Command sub).has_globals ≡ false → AddsSubcommand old sub new → with_names (app_of old) (drop place names) ≡ with_names (app_of new) (drop (place + 1) names)
one_more old sub new names place other within leaf local adds =
    let added : app_of new ≡ with_subcommand (app_of old) (leaf_of (get_or names place other)) = adds.shape local ∙ ap (with_subcommand (app_of old)) leaf in
    rw (add-one, added) (ap (with_names (app_of old)) (drop-cons names place other within))
