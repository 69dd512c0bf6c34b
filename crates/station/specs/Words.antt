-- Words: the words that a command line may have.
use Rattle.std.specs.Prelude.{ℕ, Bool, false, not, ◌&&◌, ◌==◌, List, [], ◌∷◌, Option, Some, None, if◌then◌else◌}
use Rattle.std.specs.List.{list_all}
use Rattle.std.specs.Str.{is_utf8}

-- the word begins with `-`
abbrev pub begins_with_dash : List ℕ → Bool
begins_with_dash [] = false
begins_with_dash (b ∷ word) = b == 45

-- the word doesn't begin with `-`, so that it's no flag
abbrev pub is_plain : List ℕ → Bool
is_plain word = not (begins_with_dash word)

-- no word begins with `-`
abbrev pub are_plain : List (List ℕ) → Bool
are_plain words = list_all is_plain words

-- a word is UTF-8, and doesn't begin with `-`
abbrev pub is_word : List ℕ → Bool
is_word word = is_utf8 word && is_plain word

-- the words as texts, where all are words
abbrev pub texts_of : List (List ℕ) → Option (List (List ℕ))
texts_of words = if list_all is_word words then Some words else None

-- the only one of the words
abbrev pub only_word : List (List ℕ) → Option (List ℕ)
only_word (word ∷ []) = Some word
only_word words = None
