-- Splitting: what the words say is what their command line says, as it is split.
use Rattle.std.proofs.Common.{◌≡◌, ◌≤◌, ℕ, ◌+◌, Bool, true, false, List, [], ◌∷◌, Option, None, Some, length, refl, sym, ap, ◌∙◌, arith}
use Rattle.std.specs.Prelude.{nat_le, not, option_and_then, option_map, if◌then◌else◌}
use Rattle.std.specs.List.{list_all}
use Rattle.std.proofs.lemmas.Bool.{and_from, and_parts, false≢true, le-leb, leb-true}
use Rattle.definitions.specs.Lists.{is_empty}
use Rattle.command_names.specs.declared.names.Name.{Name}
use Rattle.command_names.specs.declared.names.Name.TheVariants as N
use Rattle.command_names.specs.Names.{named, takes}
use Rattle.command_line.specs.Lines.{Line, line_of_words, line_with, split_of}
use Rattle.station.specs.Words.{is_word}
use Rattle.definitions.specs.declared.limits.TheConstants.{MOST_AUDITED}
use Rattle.accuse_command.specs.AccuseWords.{Accusing, accusing_in}
use Rattle.file_commands.specs.AuditWords.{Auditing, are_few, auditing_in}
use Rattle.peer_runs.specs.Commands.{Accuse, Audit, command_in, command_named, command_of, command_read}
use Rattle.peer_cli.specs.Lines.{command_on}

-- ---- fewer words or more than a command takes say nothing

drives_none : (words : List (List ℕ)) → takes N.Drive (length words) ≡ false → command_in N.Drive words ≡ None
drives_none [] e = refl
drives_none (a ∷ []) e = refl
drives_none (a ∷ b ∷ []) e = absurd (false≢true (sym e))
drives_none (a ∷ b ∷ c ∷ []) e = absurd (false≢true (sym e))
drives_none (a ∷ b ∷ c ∷ d ∷ more) e = refl

-- of a command that takes one word
one_none : {X : Type 0} (said : List (List ℕ) → Option X) (words : List (List ℕ)) → said [] ≡ None → ((a b : List ℕ) (more : List (List ℕ)) → said (a ∷ b ∷ more) ≡ None) →
    takes N.Make (length words) ≡ false → said words ≡ None
one_none said [] fewer more e = fewer
one_none said (a ∷ []) fewer more e = absurd (false≢true (sym e))
one_none said (a ∷ b ∷ words) fewer more e = more a b words

judges_none : (words : List (List ℕ)) → takes N.Judge (length words) ≡ false → command_in N.Judge words ≡ None
judges_none [] e = refl
judges_none (a ∷ []) e = refl
judges_none (a ∷ b ∷ []) e = absurd (false≢true (sym e))
judges_none (a ∷ b ∷ c ∷ []) e = absurd (false≢true (sym e))
judges_none (a ∷ b ∷ c ∷ d ∷ more) e = refl

-- of a command that takes six words
posts_none : (words : List (List ℕ)) → takes N.Post (length words) ≡ false → command_in N.Post words ≡ None
posts_none [] e = refl
posts_none (a ∷ []) e = refl
posts_none (a ∷ b ∷ []) e = refl
posts_none (a ∷ b ∷ c ∷ []) e = refl
posts_none (a ∷ b ∷ c ∷ d ∷ []) e = refl
posts_none (a ∷ b ∷ c ∷ d ∷ f ∷ []) e = refl
posts_none (a ∷ b ∷ c ∷ d ∷ f ∷ g ∷ []) e = absurd (false≢true (sym e))
posts_none (a ∷ b ∷ c ∷ d ∷ f ∷ g ∷ h ∷ more) e = refl

-- of a command that takes three words, or four
roots_none : (words : List (List ℕ)) → takes N.Root (length words) ≡ false → command_in N.Root words ≡ None
roots_none [] e = refl
roots_none (a ∷ []) e = refl
roots_none (a ∷ b ∷ []) e = refl
roots_none (a ∷ b ∷ c ∷ []) e = absurd (false≢true (sym e))
roots_none (a ∷ b ∷ c ∷ d ∷ more) e = refl

watches_none : (words : List (List ℕ)) → takes N.Watch (length words) ≡ false → command_in N.Watch words ≡ None
watches_none [] e = refl
watches_none (a ∷ []) e = refl
watches_none (a ∷ b ∷ []) e = refl
watches_none (a ∷ b ∷ c ∷ []) e = absurd (false≢true (sym e))
watches_none (a ∷ b ∷ c ∷ d ∷ more) e = refl

seals_none : (words : List (List ℕ)) → takes N.Seal (length words) ≡ false → command_in N.Seal words ≡ None
seals_none [] e = refl
seals_none (a ∷ []) e = refl
seals_none (a ∷ b ∷ []) e = refl
seals_none (a ∷ b ∷ c ∷ []) e = refl
seals_none (a ∷ b ∷ c ∷ d ∷ []) e = absurd (false≢true (sym e))
seals_none (a ∷ b ∷ c ∷ d ∷ x ∷ more) e = refl

-- of a command that takes five words
deposits_none : (words : List (List ℕ)) → takes N.Deposit (length words) ≡ false → command_in N.Deposit words ≡ None
deposits_none [] e = refl
deposits_none (a ∷ []) e = refl
deposits_none (a ∷ b ∷ []) e = refl
deposits_none (a ∷ b ∷ c ∷ []) e = refl
deposits_none (a ∷ b ∷ c ∷ d ∷ []) e = refl
deposits_none (a ∷ b ∷ c ∷ d ∷ x ∷ []) e = absurd (false≢true (sym e))
deposits_none (a ∷ b ∷ c ∷ d ∷ x ∷ y ∷ more) e = refl

peers_none : (words : List (List ℕ)) → takes N.Peer (length words) ≡ false → command_in N.Peer words ≡ None
peers_none [] e = refl
peers_none (a ∷ []) e = refl
peers_none (a ∷ b ∷ []) e = refl
peers_none (a ∷ b ∷ c ∷ []) e = refl
peers_none (a ∷ b ∷ c ∷ d ∷ []) e = refl
peers_none (a ∷ b ∷ c ∷ d ∷ x ∷ []) e = refl
peers_none (a ∷ b ∷ c ∷ d ∷ x ∷ y ∷ []) e = absurd (false≢true (sym e))
peers_none (a ∷ b ∷ c ∷ d ∷ x ∷ y ∷ z ∷ []) e = absurd (false≢true (sym e))
peers_none (a ∷ b ∷ c ∷ d ∷ x ∷ y ∷ z ∷ w ∷ more) e = refl

-- an audit takes as many logs as the command line has room for
few_taken : (session : List ℕ) (logs : List (List ℕ)) → are_few logs ≡ true → takes N.Audit (length (session ∷ logs)) ≡ true
few_taken session [] e = absurd (false≢true e)
few_taken session (log ∷ logs) e =
    let most : length (log ∷ logs) ≤ MOST_AUDITED = leb-true (length (log ∷ logs)) MOST_AUDITED (and_parts (not (is_empty (log ∷ logs))) (nat_le (length (log ∷ logs)) MOST_AUDITED) e).1 in
    and_from _ _ (le-leb 2 (length (session ∷ log ∷ logs)) (omega arith)) (le-leb (length (session ∷ log ∷ logs)) (1 + MOST_AUDITED) (omega (arith, most)))

abbrev said_if : Bool → Auditing → Option Auditing
said_if b a = if b then Some a else None

audits_none : (words : List (List ℕ)) → takes N.Audit (length words) ≡ false → auditing_in words ≡ None
audits_none [] e = refl
audits_none (session ∷ logs) e = go (are_few logs) refl
  where
    go : (b : Bool) → are_few logs ≡ b → said_if b (record { session = session; logs = logs }) ≡ None
    go true few = absurd (false≢true (sym e ∙ few_taken session logs few))
    go false few = refl

-- an accusation takes as many files as the command line has room for
files_taken : (session roots : List ℕ) (files : List (List ℕ)) → are_few files ≡ true → takes N.Accuse (length (session ∷ roots ∷ files)) ≡ true
files_taken session roots [] e = absurd (false≢true e)
files_taken session roots (file ∷ files) e =
    let most : length (file ∷ files) ≤ MOST_AUDITED = leb-true (length (file ∷ files)) MOST_AUDITED (and_parts (not (is_empty (file ∷ files))) (nat_le (length (file ∷ files)) MOST_AUDITED) e).1 in
    and_from _ _ (le-leb 3 (length (session ∷ roots ∷ file ∷ files)) (omega arith)) (le-leb (length (session ∷ roots ∷ file ∷ files)) (2 + MOST_AUDITED) (omega (arith, most)))

abbrev accused_if : Bool → Accusing → Option Accusing
accused_if b a = if b then Some a else None

accuses_none : (words : List (List ℕ)) → takes N.Accuse (length words) ≡ false → accusing_in words ≡ None
accuses_none [] e = refl
accuses_none (session ∷ []) e = refl
accuses_none (session ∷ roots ∷ files) e = go (are_few files) refl
  where
    go : (b : Bool) → are_few files ≡ b → accused_if b (record { session = session; roots = roots; files = files }) ≡ None
    go true few = absurd (false≢true (sym e ∙ files_taken session roots files few))
    go false few = refl

abbrev line_if : Bool → Line → Option Line
line_if b line = if b then Some line else None

-- ---- commands

-- a command with fewer words or more than it takes is none
untaken : (name : Name) (words : List (List ℕ)) → takes name (length words) ≡ false → command_in name words ≡ None
untaken N.Accuse words e = ap (option_map Accuse) (accuses_none words e)
untaken N.Audit words e = ap (option_map Audit) (audits_none words e)
untaken N.Deposit words e = deposits_none words e
untaken N.Drive words e = drives_none words e
untaken N.Judge words e = judges_none words e
untaken N.Make words e = one_none (command_in N.Make) words refl (λ a b more. refl) e
untaken N.Peer words e = peers_none words e
untaken N.Post words e = posts_none words e
untaken N.Root words e = roots_none words e
untaken N.Schedule words e = one_none (command_in N.Schedule) words refl (λ a b more. refl) e
untaken N.Seal words e = seals_none words e
untaken N.Upgrade words e = one_none (command_in N.Upgrade) words refl (λ a b more. refl) e
untaken N.Watch words e = watches_none words e

-- by a name, or by none
by_name : (o : Option Name) (words : List (List ℕ)) → option_and_then (λ n. command_in n words) o ≡ option_and_then command_on (line_with o words)
by_name None words = refl
by_name (Some name) words = by_count (takes name (length words)) refl
  where
    by_count : (b : Bool) → takes name (length words) ≡ b → command_in name words ≡ option_and_then command_on (line_if b (record { name = name; words = words }))
    by_count true e = refl
    by_count false e = untaken name words e

in_line : (words : List (List ℕ)) → command_read words ≡ option_and_then command_on (split_of words)
unfolding command_named
in_line [] = refl
in_line (name ∷ words) = by_name (named name) words

pub command_by_line : (words : List (List ℕ)) → command_of words ≡ option_and_then command_on (line_of_words words)
unfolding command_of
command_by_line words = go (list_all is_word words)
  where
    go : (b : Bool) → (if b then command_read words else None) ≡ option_and_then command_on (option_and_then split_of (if b then Some words else None))
    go true = in_line words
    go false = refl
