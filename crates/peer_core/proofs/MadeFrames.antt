-- MadeFrames: the own frames among the first entries of a log.
use Rattle.std.proofs.Common.{◌≡◌, ℕ, ◌+◌, ◌<◌, List, [], ◌∷◌, ◌++◌, length, take, drop, get_or, refl, ap, sym, ◌∙◌, arith, length-append, append-nil, take-append-drop}
use Rattle.std.proofs.lemmas.List.{take_more}
use Rattle.definitions.specs.declared.frames.TurnFrame.{TurnFrame}
use Rattle.definitions.specs.declared.logs.Entry.{Entry}
use Rattle.definitions.specs.declared.logs.Entry.TheVariants.{Chose, Made, Got}
use Rattle.definitions.specs.Logs.{made, made_in}
use Rattle.definitions.specs.Honest.{made_count}
use Rattle.definition_laws.proofs.Listing.{flat_map_append}

-- the frames among two parts of a log are those among the one and those among the other
pub made_count-append : (g h : List Entry) → made_count (g ++ h) ≡ made_count g + made_count h
unfolding made
made_count-append g h = ap length (flat_map_append made_in g h) ∙ length-append _ _

made_one : (e : Entry) → made_count (e ∷ []) ≡ length (made_in e)
unfolding made
made_one e = ap length (append-nil (made_in e))

-- with one entry more there are those that it is
pub made_count_more : (h : List Entry) (i : ℕ) (d e : Entry) → i < length h → get_or h i d ≡ e → made_count (take (i + 1) h) ≡ made_count (take i h) + length (made_in e)
made_count_more h i d e few at =
    ap made_count (take_more h i d few ∙ ap (λ x. take i h ++ x ∷ []) at) ∙ (made_count-append (take i h) (e ∷ []) ∙ ap (λ n. made_count (take i h) + n) (made_one e))

not_made : (e : Entry) → ((f : TurnFrame) → e ≡ Made f → ⊥) → length (made_in e) ≡ 0
not_made (Chose t m n) other = refl
not_made (Made f) other = absurd (other f refl)
not_made (Got q f) other = refl

-- an entry that is no frame that was made adds none
pub made_count_same : (h : List Entry) (i : ℕ) (d : Entry) → i < length h → ((f : TurnFrame) → get_or h i d ≡ Made f → ⊥) → made_count (take (i + 1) h) ≡ made_count (take i h)
made_count_same h i d few other =
    let e = made_count_more h i d (get_or h i d) few refl in
    let z = not_made (get_or h i d) other in omega arith

-- those among the first so many entries, and those behind them
pub made_count_split : (h : List Entry) (k : ℕ) → made_count (take k h) + made_count (drop k h) ≡ made_count h
made_count_split h k = sym (made_count-append (take k h) (drop k h)) ∙ ap made_count (take-append-drop k h)
