-- Lines: a line is read as what it says, and says what it is read as.
use Rattle.std.proofs.Common.{◌≡◌, ◌⊎◌, inl, inr, ℕ, ◌<◌, ◌≤◌, Bool, true, false, List, [], ◌∷◌, ◌++◌, length, refl, sym, ◌∙◌, ap, arith, subst, append_assoc}
use Rattle.std.specs.Prelude.{Option, Some, None, ◌==◌, if◌then◌else◌, bytes_eq, codes}
use Rattle.std.specs.Fmt.{decimal}
use Rattle.std.specs.List.{list_all}
use Rattle.std.proofs.lemmas.Bool.{and_left, and_right, eqb-true}
use Rattle.std.proofs.lemmas.List.Folds.{list_all-append}
use Rattle.std.proofs.lemmas.Slice.Eq.{bytes_eq-Decides}
use Rattle.hex.specs.Hex.{IsBytes, encode_lower}
use Rattle.definitions.specs.declared.limits.TheConstants.{GREATEST_PLAYER}
use Rattle.definitions.specs.declared.world.Cell.{Cell}
use Rattle.definitions.specs.declared.world.Move.{Move}
use Rattle.definitions.specs.declared.openings.Nonce.{Nonce}
use Rattle.definitions.specs.declared.frames.TurnFrame.{TurnFrame}
use Rattle.definitions.specs.Openings.{FitsCell, FitsStrike}
use Rattle.commitment.specs.Spelling.{frame_bytes, FitsFrame}
use Rattle.drive_command.specs.declared.grammar.DriveLine.{DriveLine}
use Rattle.drive_command.specs.declared.grammar.DriveLine.TheVariants.{Nothing, Choose, Got, Bytes, Log, Score, Bad}
use Rattle.byte_fields.specs.Fronts.{◌>>=◌, behind}
use Rattle.byte_fields.proofs.Reading.{bind_some}
use Rattle.text_fields.specs.Numbers.{number_then}
use Rattle.text_fields.specs.Choices.{move_then_nonce, or_else}
use Rattle.text_fields.specs.Hexes.{frame_of, bytes_of}
use Rattle.text_fields.specs.Spelling.{number_text, FitsNonce}
use Rattle.text_fields.proofs.ChoiceTexts.{choice_read, choice_spelled}
use Rattle.text_fields.proofs.HexFields.{frame_read, bytes_read, frame_spelled, bytes_spelled}
use Rattle.text_fields.proofs.Fields.{number_read, number_spelled}
use Rattle.drive_command.specs.Grammar.{chosen_of, got_of, piece_of, or_bad, choose_of, frame_from, bytes_from, coming_of, word_line, line_of}
use Rattle.drive_command.specs.Spelling.{choose_text, got_text, bytes_text, IsPassedOver, Says}
use Rattle.std.proofs.lemmas.Option.{same_Some}
use Rattle.plain_lemmas.proofs.Lists.{front_stands}

-- ---- a line is read as what it says

choose_line : (last : ℕ) (mv : Move) (nonce : Nonce) → FitsCell mv.to → FitsStrike mv.strike → FitsNonce nonce →
    line_of last (choose_text mv nonce) ≡ Choose mv nonce
unfolding line_of word_line choose_of chosen_of choose_text
choose_line last mv nonce a b c = rw (choice_read mv nonce a b c) refl

got_line : (last q : ℕ) (frame : TurnFrame) → q ≤ GREATEST_PLAYER → FitsFrame frame → IsBytes (frame_bytes frame) → line_of last (got_text q frame) ≡ Got q frame
unfolding line_of word_line choose_of coming_of frame_from got_of got_text
got_line last q frame a b c = rw (number_read GREATEST_PLAYER q (encode_lower (frame_bytes frame)) a (omega arith), frame_read frame b c) refl

bytes_line : (last q : ℕ) (bytes : List ℕ) → last ≤ GREATEST_PLAYER → q ≤ last → 0 < length bytes → IsBytes bytes → line_of last (bytes_text q bytes) ≡ Bytes q bytes
unfolding line_of word_line choose_of coming_of frame_from bytes_from piece_of bytes_text
bytes_line last q bytes k a b c = rw (number_read last q (encode_lower bytes) a (omega arith), bytes_read bytes b c) refl

log_line : (last : ℕ) → line_of last (codes "log") ≡ Log
unfolding line_of word_line
log_line last = refl

score_line : (last : ℕ) → line_of last (codes "score") ≡ Score
unfolding line_of word_line
score_line last = refl

nothing_line : (last : ℕ) (line : List ℕ) → IsPassedOver line → line_of last line ≡ Nothing
unfolding line_of
nothing_line last line (inl empty) = ap (line_of last) empty
nothing_line last line (inr comment) = ap (line_of last) comment.1

pub line_read : (last : ℕ) (line : List ℕ) (said : DriveLine) → last ≤ GREATEST_PLAYER → Says last line said → line_of last line ≡ said
line_read last line Nothing k h = nothing_line last line h
line_read last line (Choose mv nonce) k h = ap (line_of last) h.3 ∙ choose_line last mv nonce h.0 h.1 h.2
line_read last line (Got q frame) k h = ap (line_of last) h.3 ∙ got_line last q frame h.0 h.1 h.2
line_read last line (Bytes q bytes) k h = ap (line_of last) h.3 ∙ bytes_line last q bytes k h.0 h.1 h.2
line_read last line Log k h = ap (line_of last) h ∙ log_line last
line_read last line Score k h = ap (line_of last) h ∙ score_line last
line_read last line Bad k h = absurd h

-- ---- a line says what it is read as

-- the line says whatever is read
abbrev SaysWhatIsRead : (last : ℕ) → List ℕ → Option DriveLine → Type 0
SaysWhatIsRead last line o = (said : DriveLine) → o ≡ Some said → Says last line said

some_says : (last : ℕ) (line : List ℕ) (said : DriveLine) → Says last line said → SaysWhatIsRead last line (Some said)
some_says last line said says other h = subst (λ (d : DriveLine). Says last line d) (same_Some said other h) says

or_says : (last : ℕ) (line : List ℕ) (a b : Option DriveLine) → SaysWhatIsRead last line a → SaysWhatIsRead last line b → SaysWhatIsRead last line (or_else a b)
or_says last line None b f g = g
or_says last line (Some x) b f g = f

chosen_says : (last : ℕ) (text : List ℕ) → SaysWhatIsRead last (codes "choose " ++ text) (chosen_of text)
unfolding chosen_of choose_text
chosen_says last text said h =
    let a = bind_some (move_then_nonce text) _ said h in
    let choice = choice_spelled text a.0 a.1 in
    some_says last (codes "choose " ++ text) (Choose a.0.0 a.0.1) (choice.0, choice.1, choice.2, ap (λ r. codes "choose " ++ r) choice.3) said a.2

got_says : (last : ℕ) (text : List ℕ) → SaysWhatIsRead last (codes "got " ++ text) (got_of text)
unfolding got_of got_text
got_says last text said h =
    let a = bind_some (number_then GREATEST_PLAYER text) _ said h in
    let b = bind_some (frame_of a.0.1) _ said a.2 in
    let from = number_spelled GREATEST_PLAYER text a.0 a.1 in
    let frame = frame_spelled a.0.1 b.0 b.1 in
    let whole : text ≡ number_text a.0.0 ++ encode_lower (frame_bytes b.0) = from.0 ∙ ap (λ r. number_text a.0.0 ++ r) frame.2 in
    some_says last (codes "got " ++ text) (Got a.0.0 b.0) (from.1, frame.0, frame.1, ap (λ r. codes "got " ++ r) whole) said b.2

piece_says : (last : ℕ) (text : List ℕ) → SaysWhatIsRead last (codes "bytes " ++ text) (piece_of last text)
unfolding piece_of bytes_text
piece_says last text said h =
    let a = bind_some (number_then last text) _ said h in
    let b = bind_some (bytes_of a.0.1) _ said a.2 in
    let from = number_spelled last text a.0 a.1 in
    let bytes = bytes_spelled a.0.1 b.0 b.1 in
    let whole : text ≡ number_text a.0.0 ++ encode_lower b.0 = from.0 ∙ ap (λ r. number_text a.0.0 ++ r) bytes.2 in
    some_says last (codes "bytes " ++ text) (Bytes a.0.0 b.0) (from.1, bytes.0, bytes.1, ap (λ r. codes "bytes " ++ r) whole) said b.2

-- behind a first word
front_says : (last : ℕ) (front line : List ℕ) (read : List ℕ → Option DriveLine) → ((text : List ℕ) → SaysWhatIsRead last (front ++ text) (read text)) →
    SaysWhatIsRead last line (behind front line >>= read)
front_says last front line read each said h =
    let a = bind_some (behind front line) read said h in
    subst (λ (l : List ℕ). Says last l said) (sym (front_stands front line a.0 a.1)) (each a.0 said a.2)

coming_says : (last : ℕ) (line : List ℕ) → SaysWhatIsRead last line (coming_of last line)
unfolding coming_of frame_from bytes_from
coming_says last line = or_says last line _ _ (front_says last (codes "got ") line got_of (got_says last)) (front_says last (codes "bytes ") line (piece_of last) (piece_says last))

choose_says : (last : ℕ) (line : List ℕ) → SaysWhatIsRead last line (choose_of line)
unfolding choose_of
choose_says last line = front_says last (codes "choose ") line chosen_of (chosen_says last)

word_says : (last : ℕ) (line : List ℕ) → SaysWhatIsRead last line (word_line last line)
unfolding word_line
word_says last line = go (bytes_eq line (codes "log")) refl (bytes_eq line (codes "score")) refl
  where
    go : (b : Bool) → bytes_eq line (codes "log") ≡ b → (d : Bool) → bytes_eq line (codes "score") ≡ d →
        SaysWhatIsRead last line (if b then Some Log else if d then Some Score else or_else (choose_of line) (coming_of last line))
    go true t d u = some_says last line Log ((bytes_eq-Decides line (codes "log")).0 t)
    go false t true u = some_says last line Score ((bytes_eq-Decides line (codes "score")).0 u)
    go false t false u = or_says last line _ _ (choose_says last line) (coming_says last line)

-- the line says what it is read as, unless that is bad
abbrev SaysUnlessBad : (last : ℕ) → List ℕ → DriveLine → Type 0
SaysUnlessBad last line said = Says last line said ⊎ (said ≡ Bad)

words_say : (last : ℕ) (line : List ℕ) (o : Option DriveLine) → SaysWhatIsRead last line o → SaysUnlessBad last line (or_bad o)
words_say last line None f = inr refl
words_say last line (Some said) f = inl (f said refl)

line_says : (last : ℕ) (line : List ℕ) → SaysUnlessBad last line (line_of last line)
unfolding line_of
line_says last [] = inl (inl refl)
line_says last (b ∷ line) = go (b == 35) refl
  where
    go : (t : Bool) → (b == 35) ≡ t → SaysUnlessBad last (b ∷ line) (if t then Nothing else or_bad (word_line last (b ∷ line)))
    go true t = inl (inr (line, ap (λ c. c ∷ line) (eqb-true b 35 t)))
    go false t = words_say last (b ∷ line) (word_line last (b ∷ line)) (word_says last (b ∷ line))

-- a line that is read as bad says nothing
bad_says : (last : ℕ) (line : List ℕ) (said : DriveLine) → last ≤ GREATEST_PLAYER → line_of last line ≡ Bad → Says last line said → ⊥
bad_says last line said k bad says = subst (λ (d : DriveLine). Says last line d) (sym (line_read last line said k says) ∙ bad) says

pub line_spelled : (last : ℕ) (line : List ℕ) → last ≤ GREATEST_PLAYER → Says last line (line_of last line) ⊎ ((line_of last line ≡ Bad) × ((said : DriveLine) → Says last line said → ⊥))
line_spelled last line k = elim (line_says last line) [ inl says ↦ inl says | inr bad ↦ inr (bad, λ said says. bad_says last line said k bad says) ]
