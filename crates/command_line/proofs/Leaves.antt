-- Leaves: what clap finds in the words after a name.
use Rattle.std.proofs.Common.{◌≡◌, ◌∙◌, ℕ, ◌<◌, ◌≤◌, true, false, List, [], ◌∷◌, length, refl, ap, arith, le-leb}
use Rattle.std.specs.List.{list_all}
use Rattle.clap.specs.Takes.{level_passes, settle_passes}
use Rattle.clap.specs.ValueTests.{accepts}
use Rattle.clap.specs.Walk.{Text, finished, nothing_held, rows_after}
use Rattle.clap.specs.declared.builder.value_parser.ValueParser.TheVariants as vp
use Rattle.command_line.specs.Found.{words_row}
use Rattle.station.specs.Words.{are_plain}
use Rattle.command_line.proofs.Walks.{held_words, leaf_walk, ready_leaf, ready_rule}

-- each text is a value
all_accepted : (words : List Text) → list_all (accepts false vp.String) words ≡ true
all_accepted [] = refl
all_accepted (word ∷ words) = all_accepted words

module _ (least most : ℕ) (name : Text) where
  -- words that wait, no fewer and no more than are taken, are the values of `words`
  settled_words : (words : List Text) → 0 < length words → least ≤ length words → length words ≤ most
      → settle_passes (ready_rule least most ∷ []) false (held_words words) ≡ true
  settled_words [] some enough few = absurd (omega arith)
  settled_words (word ∷ words) some enough few = rw (le-leb _ _ enough, le-leb _ _ few, all_accepted words) refl

  finished_words : (words : List Text) → 0 < length words → finished (ready_rule least most ∷ []) (held_words words) ≡ words_row words ∷ []
  finished_words [] some = absurd (omega arith)
  finished_words (word ∷ words) some = refl

  module _ (words : List Text) (plain : are_plain words ≡ true) (some : 0 < length words) (few : length words ≤ most) where
    pub leaf_rows : rows_after (ready_rule least most ∷ []) [] words ≡ words_row words ∷ []
    leaf_rows = ap (finished (ready_rule least most ∷ [])) (leaf_walk least most name words plain some few).0 ∙ finished_words words some

    pub leaf_passes : least ≤ length words → level_passes (ready_leaf name least most) [] nothing_held words false ≡ true
    leaf_passes enough =
        let walked = leaf_walk least most name words plain some few in
        rw (walked.1, walked.0, settled_words words some enough few) refl
