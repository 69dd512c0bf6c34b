-- Finding: what clap finds in texts of the command set, and what is read of it.
use Rattle.std.proofs.Common.{◌≡◌, ◌∙◌, ◌≤◌, Bool, true, false, List, [], ◌∷◌, length, Option, Some, None, refl, sym, ap, ap₂, leb-true}
use Rattle.std.specs.Prelude.{Box, if◌then◌else◌, is_some, option_map}
use Rattle.std.specs.List.{find}
use Rattle.std.proofs.lemmas.Slice.Eq.{bytes_eq-Decides}
use Rattle.std.specs.Borrow.{Bor}
use Rattle.std.specs.Box.{box_value}
use Rattle.clap.specs.Matches.{found_of, subcommand_name_of}
use Rattle.clap.specs.Simple.{subcommand_of, subcommand_rows, subcommand_rows_of}
use Rattle.clap.specs.Takes.{takes}
use Rattle.clap.specs.Walk.{Row, Text, rows_of}
use Rattle.clap.specs.declared.parser.matches.ArgMatches.{ArgMatches}
use Rattle.clap.specs.declared.parser.matches.ArgMatches.TheViews.{out-ArgMatches, out-SubCommand}
use Rattle.clap.specs.declared.parser.matches.SubCommand.{SubCommand}
use Rattle.clap.proofs.WalkLemmas.{both}
use Rattle.command_names.specs.declared.names.Name.{Name}
use Rattle.command_names.specs.declared.names.Name.TheVariants.{Audit}
use Rattle.command_line.specs.Commands.{command_set}
use Rattle.command_line.specs.Found.{line_in, line_of, subcommand_for}
use Rattle.command_line.specs.Lines.{Line, split_of}
use Rattle.command_names.specs.Names.{all_names, is_written, least_of, most_of, named, text_of}
use Rattle.command_names.specs.Names.{takes as takes_count}
use Rattle.station.specs.Words.{are_plain}
use Rattle.command_line.proofs.Sets.{line_subcommand, line_taken}

-- the command of a name is named so
named-text_of : (name : Name) → named (text_of name) ≡ Some name
named-text_of Audit = refl
named-text_of name = refl

-- what is found passes the test
find-passes : {X : Type 0} (test : X → Bool) (xs : List X) (x : X) → find test xs ≡ Some x → test x ≡ true
find-passes test [] x found = cc
find-passes test (y ∷ xs) x found = go (test y) refl (find-passes test xs x) found
  where
    go : (b : Bool) → test y ≡ b → (find test xs ≡ Some x → test x ≡ true) → (if b then Some y else find test xs) ≡ Some x → test x ≡ true
    go true passes later first =
        let here : y ≡ x = cc in
        ap test (sym here) ∙ passes
    go false fails later next = later next

-- a text that names a command is its name
pub named-Some : (text : Text) (name : Name) → named text ≡ Some name → text ≡ text_of name
named-Some text name found = (bytes_eq-Decides text (text_of name)).0 (find-passes (is_written text) all_names name found)

-- the texts of a command line
pub record IsLine (texts : List Text) (line : Line) : Type 0 where
  pub stands : texts ≡ text_of line.name ∷ line.words
  pub split : split_of texts ≡ Some line
  pub enough : least_of line.name ≤ length line.words
  pub few : length line.words ≤ most_of line.name

pub split-is_some : (texts : List Text) → is_some (split_of texts) ≡ true → (line : Line) × IsLine texts line
split-is_some [] there = cc
split-is_some (text ∷ words) there = by_name (named text) refl there
  where
    by_count : (name : Name) → named text ≡ Some name → (b : Bool) → takes_count name (length words) ≡ b
        → is_some (split_of (text ∷ words)) ≡ true → (line : Line) × IsLine (text ∷ words) line
    by_count name is true fits there =
        let parts = both _ _ fits in (
          record { name = name; words = words },
          record {
            stands = ap (λ t. t ∷ words) (named-Some text name is);
            split = rw (is, fits) refl;
            enough = leb-true _ _ parts.0;
            few = leb-true _ _ parts.1;
          },
        )
    by_count name is false fits there =
        let none : is_some (split_of (text ∷ words)) ≡ false = rw (is, fits) refl in
        cc

    by_name : (o : Option Name) → named text ≡ o → is_some (split_of (text ∷ words)) ≡ true → (line : Line) × IsLine (text ∷ words) line
    by_name None is there =
        let none : is_some (split_of (text ∷ words)) ≡ false = rw is refl in
        cc
    by_name (Some name) is there = by_count name is _ refl there

module _ (texts : List Text) (plain : are_plain texts ≡ true) (there : is_some (split_of texts) ≡ true) where
  line : (line : Line) × IsLine texts line
  line = split-is_some texts there

  words_plain : are_plain line.0.words ≡ true
  unfolding line
  words_plain = (both _ _ (rw line.1.stands at plain)).1

  -- clap finds in the texts what they say
  pub texts_found : subcommand_of command_set texts ≡ subcommand_for (split_of texts)
  texts_found =
      ap (subcommand_of command_set) line.1.stands ∙ line_subcommand line.0.name line.0.words words_plain line.1.enough line.1.few
      ∙ ap subcommand_for (sym line.1.split)

  -- clap takes the texts
  pub texts_taken : takes command_set texts ≡ true
  texts_taken = ap (takes command_set) line.1.stands ∙ line_taken line.0.name line.0.words words_plain line.1.enough line.1.few

-- ---- what is read of a subcommand

module _ {Z : Type 0} where
  rows_name : (o : Option (Box SubCommand Z)) → option_map (λ b. (out-SubCommand (box_value b)).name.now) o ≡ option_map (λ p. p.0) (subcommand_rows o)
  rows_name None = refl
  rows_name (Some b) = refl

-- a subcommand by its name and its rows
pair_of : (o : Option (Text × List Row)) (text : Text) (rows : List Row) → option_map (λ p. p.0) o ≡ Some text → option_map (λ p. p.1) o ≡ Some rows → o ≡ Some (text, rows)
pair_of None text rows name found = cc
pair_of (Some p) text rows name found =
    let first : p.0 ≡ text = cc in
    let second : p.1 ≡ rows = cc in
    ap₂ (λ t r. Some (t, r)) first second

-- a command line that is found has words
pub words_found : (name : Option Name) (words : Option (List Text)) → is_some (line_of name words) ≡ true → is_some words ≡ true
words_found None words there = cc
words_found (Some name) None there = cc
words_found (Some name) (Some words) there = refl

-- what shows as something is there
pub is_there : {X Y : Type 0} (f : X → Y) (o : Option X) → is_some (option_map f o) ≡ true → is_some o ≡ true
is_there f None there = there
is_there f (Some x) there = refl

-- the subcommand of what a command line says, says that
pub line_in-subcommand_for : (line : Option Line) → line_in (subcommand_for line) ≡ line
line_in-subcommand_for None = refl
line_in-subcommand_for (Some line) = rw (named-text_of line.name) refl

-- the subcommand of a parse, from what the two getters read of it
pub subcommand_read : (m : ArgMatches) (r : Option (Bor Text × Bor ArgMatches)) (p : Bor Text × Bor ArgMatches)
    → option_map (λ q. q.0.now) r ≡ subcommand_name_of m → option_map (λ q. rows_of (found_of q.1.now)) r ≡ option_map (λ q. q.1) (subcommand_rows_of m)
    → r ≡ Some p → subcommand_rows_of m ≡ Some (p.0.now, rows_of (found_of p.1.now))
subcommand_read m r p name rows is =
    pair_of (subcommand_rows_of m) p.0.now (rows_of (found_of p.1.now))
    (sym (rows_name (out-ArgMatches m).subcommand) ∙ sym name ∙ ap (option_map (λ q. q.0.now)) is)
    (sym rows ∙ ap (option_map (λ q. rows_of (found_of q.1.now))) is)
