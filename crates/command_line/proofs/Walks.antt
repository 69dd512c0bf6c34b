-- Walks: how clap walks over words of which none begins with `-`.
use Rattle.std.proofs.Common.{◌≡◌, ◌∙◌, ℕ, ◌<◌, ◌≤◌, Bool, true, false, List, [], ◌∷◌, ◌++◌, length, arith, Some, None, refl, sym, ap, append_assoc, append-nil}
use Rattle.std.specs.Prelude.{codes, ◌==◌}
use Rattle.std.specs.List.{fold}
use Rattle.std.specs.Str.{bytes_eq}
use Rattle.std.proofs.lemmas.Bool.Decides.{nat_tests}
use Rattle.clap.specs.Lexer.{long_of, short_of}
use Rattle.clap.specs.Simple.{Shape, new_rule, new_shape}
use Rattle.clap.specs.Takes.{turn_passes, walk_passes}
use Rattle.clap.specs.Walk.{Held, Rule, Text, Walk, nothing_held, positional, takes_several, walk, walk_from, walked}
use Rattle.clap.specs.declared.builder.action.ArgAction.TheVariants.{Set}
use Rattle.clap.specs.declared.builder.value_parser.ValueParser.TheVariants as vp
use Rattle.clap.proofs.SimpleLemmas.{is_false}
use Rattle.clap.proofs.WalkLemmas.{both}
use Rattle.station.specs.Words.{are_plain, is_plain}

-- the argument `words` of a command that is built, which takes from `least` to `most` values
abbrev pub ready_rule : (least most : ℕ) → Rule
ready_rule least most = record (new_rule (codes "words")) {
  index = Some 1;
  action = Some Set;
  range = Some (record { start_inclusive = least; end_inclusive = most });
  parser = Some vp.String;
  required = true;
}

-- a command that is built, with this argument
abbrev pub ready_leaf : (name : Text) → (least most : ℕ) → Shape
ready_leaf name least most = record (new_shape name) {
  rules = ready_rule least most ∷ [];
  no_binary_name = true;
  disable_help_flag = true;
  disable_help_subcommand = true;
  is_built = true;
}

-- the words that wait to be the values of `words`
abbrev pub held_words : List Text → Held
held_words words = record { rows = []; pending = Some (codes "words", words); skip = 0 }

-- a walk that stands after these words, where more may come
abbrev behind : List Text → Walk
behind words = record {
  held = held_words words;
  waiting = positional;
  position = 1;
  is_trailing = false;
  stopped = None;
}

-- a word that doesn't begin with `-` is no flag, and doesn't end the flags
no_flag : (word : Text) → is_plain word ≡ true → (bytes_eq word (45 ∷ 45 ∷ []) ≡ false) × (long_of word ≡ None) × (short_of word ≡ None)
no_flag [] plain = (refl, refl, refl)
no_flag (b ∷ word) plain =
    let other : (b == 45) ≡ false = is_false (b == 45) plain in
    (rw other refl, rw other refl, rw other refl)

module _ (least most : ℕ) (name : Text) where
  abbrev rules : List Rule
  rules = ready_rule least most ∷ []

  -- the first word waits
  first_walked : (word : Text) → is_plain word ≡ true → (walked rules [] (walk_from nothing_held) word).held ≡ held_words (word ∷ [])
  unfolding walked
  first_walked word plain = let none = no_flag word plain in rw (none.0, none.1, none.2) refl

  first_passes : (word : Text) → is_plain word ≡ true → turn_passes (ready_leaf name least most) [] (walk_from nothing_held) word ≡ true
  unfolding walked
  first_passes word plain = let none = no_flag word plain in rw (none.0, none.1, none.2) refl

  module _ (several : takes_several (ready_rule least most) ≡ true) where
    first_of_several : (word : Text) → is_plain word ≡ true → walked rules [] (walk_from nothing_held) word ≡ behind (word ∷ [])
    unfolding walked
    first_of_several word plain = let none = no_flag word plain in rw (none.0, none.1, none.2, several) refl

    -- each further word waits after those before it
    next_walked : (words : List Text) (word : Text) → is_plain word ≡ true → walked rules [] (behind words) word ≡ behind (words ++ word ∷ [])
    unfolding walked
    next_walked words word plain = let none = no_flag word plain in rw (none.0, none.1, none.2, several) refl

    rest_walked : (words rest : List Text) → are_plain rest ≡ true → fold (walked rules []) (behind words) rest ≡ behind (words ++ rest)
    rest_walked words [] plain = ap behind (sym (append-nil words))
    rest_walked words (word ∷ rest) plain =
        let parts = both _ _ plain in
        ap (λ w. fold (walked rules []) w rest) (next_walked words word parts.0)
        ∙ rest_walked (words ++ word ∷ []) rest parts.1 ∙ ap behind (append_assoc words (word ∷ []) rest)

    next_passes : (words : List Text) (word : Text) → is_plain word ≡ true → turn_passes (ready_leaf name least most) [] (behind words) word ≡ true
    unfolding walked
    next_passes words word plain = let none = no_flag word plain in rw (none.0, none.1, none.2, several) refl

    rest_passes : (words rest : List Text) → are_plain rest ≡ true → walk_passes (ready_leaf name least most) [] (behind words) rest ≡ true
    unfolding walk_passes
    rest_passes words [] plain = refl
    rest_passes words (word ∷ rest) plain =
        let parts = both _ _ plain in
        rw (next_passes words word parts.0, next_walked words word parts.0) (rest_passes (words ++ word ∷ []) rest parts.1)

  -- a command that takes one word has no second one
  none_behind : (word : Text) (rest : List Text) → takes_several (ready_rule least most) ≡ false → length (word ∷ rest) ≤ most → rest ≡ []
  none_behind word [] one few = refl
  none_behind word (next ∷ rest) one few = absurd (grind (arith, nat_tests))

  -- the words after a name wait as the values of `words`, and nothing is refused
  pub leaf_walk : (words : List Text) → are_plain words ≡ true → 0 < length words → length words ≤ most
      → ((walk rules [] nothing_held words).held ≡ held_words words) × (walk_passes (ready_leaf name least most) [] (walk_from nothing_held) words ≡ true)
  unfolding walk_passes
  leaf_walk [] plain some few = absurd (omega arith)
  leaf_walk (word ∷ rest) plain some few = go (takes_several (ready_rule least most)) refl
    where
      parts : (is_plain word ≡ true) × (are_plain rest ≡ true)
      parts = both _ _ plain

      go : (b : Bool) → takes_several (ready_rule least most) ≡ b
          → ((walk rules [] nothing_held (word ∷ rest)).held ≡ held_words (word ∷ rest)) × (walk_passes (ready_leaf name least most) [] (walk_from nothing_held) (word ∷ rest) ≡ true)
      go true several =
          let first = first_of_several several word parts.0 in (
            ap (λ (w : Walk). w.held) (ap (λ w. fold (walked rules []) w rest) first ∙ rest_walked several (word ∷ []) rest parts.1),
            rw (first_passes word parts.0, first) (rest_passes several (word ∷ []) rest parts.1),
          )
      go false one =
          let none = none_behind word rest one few in
          rw none (first_walked word parts.0, rw (first_passes word parts.0) refl)
