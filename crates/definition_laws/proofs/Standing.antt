-- Standing: after advancing the owner may choose, or waits, or is done, and exactly one of these.
use Rattle.std.proofs.Common.{Bool, List, None, Some, [], ap, arith, false, inl, inr, length, refl, suc, sym, true, zero, ℕ, ◌*◌, ◌++◌, ◌+◌, ◌-◌, ◌<◌, ◌∙◌, ◌∷◌, ◌≡◌, ◌≤◌, ◌⊎◌, Option}
use Rattle.std.specs.Prelude.{is_none, min, ◌&&◌, ◌↔◌}
use Rattle.std.proofs.lemmas.Bool.{and_from, and_parts, cases_Bool, cases_lt, false≢true}
use Rattle.definitions.specs.declared.frames.TurnFrame.{TurnFrame}
use Rattle.definitions.specs.declared.frames.What.{What}
use Rattle.definitions.specs.declared.frames.What.TheVariants.{Commit, Reveal}
use Rattle.definitions.specs.declared.openings.Opening.{Opening}
use Rattle.definitions.specs.declared.logs.Entry.{Entry}
use Rattle.definitions.specs.declared.logs.Entry.TheVariants.{Made}
use Rattle.definitions.specs.declared.answers.Need.{Need}
use Rattle.definitions.specs.declared.answers.Progress.TheVariants as P
use Rattle.definitions.specs.declared.findings.Finding.{Finding}
use Rattle.definitions.specs.Lists.{is_empty}
use Rattle.definitions.specs.World.{Game}
use Rattle.definitions.specs.declared.places.Slot.{Slot}
use Rattle.definitions.specs.Places.{commit_place, reveal_place, slot_at}
use Rattle.definitions.specs.Held.{known}
use Rattle.definitions.specs.Logs.{chosen}
use Rattle.definitions.specs.Findings.{findings, is_clean}
use Rattle.definitions.specs.Honest.{IsHonest, allowed, chosen_for, made_count}
use Rattle.definitions.specs.Needs.{is_unchosen, may_choose, needs}
use Rattle.definitions.specs.Advance.{advance, advance_by, advances_by, frame_of, next_made, progress, progress_of, standing, with_made}
use Rattle.definitions.proofs.Streams.{frame_of_place, slot_at-commit, slot_at-past, slot_at-reveal}
use Rattle.definitions.proofs.Slots.{slot_at_reveal_is}
use Rattle.definition_laws.specs.Advancing.{ExactlyOne, IsDone}
use Rattle.definition_laws.proofs.Advances.{advance_ends, advance_honest}
use Rattle.definition_laws.proofs.Chosen.{made_count_push}
use Rattle.definition_laws.proofs.ForPeers.{OwnCounts, advance_step, advance_still, chosen_for_item, next_made_only, own_counts}
use Rattle.definition_laws.proofs.Listing.{none_past, empty_nil}
use Rattle.definition_laws.proofs.Order.{reveal_turn}
use Rattle.definition_laws.proofs.Silent.{clean_advance}
use Rattle.definition_laws.proofs.Waits.{next_commit_allowed, next_reveal_allowed}

-- no place of the session is without a frame
pub past_end : (game : Game) (n : ℕ) → 1 ≤ game.ahead → slot_at game n ≡ None → 2 * game.turns ≤ n
past_end game n d e = go (cases_lt n (2 * game.turns))
  where
    never : (s : Slot) (m : ℕ) → slot_at game m ≡ Some s → m ≡ n → ⊥
    never s m some at = let both : None ≡ Some s = sym e ∙ ap (slot_at game) (sym at) ∙ some in cc

    frame : ((t : ℕ) × (t < game.turns) × (commit_place game t ≡ n)) ⊎ ((t : ℕ) × (t < game.turns) × (reveal_place game t ≡ n)) → ⊥
    frame (inl c) = never _ (commit_place game c.0) (slot_at-commit game c.0 d c.1) c.2
    frame (inr r) = never _ (reveal_place game r.0) (slot_at-reveal game r.0 d r.1) r.2

    go : (n < 2 * game.turns) ⊎ (2 * game.turns ≤ n) → 2 * game.turns ≤ n
    go (inr h) = h
    go (inl h) = absurd (frame (frame_of_place game n d h))

-- as many frames are made as the session has places, at most
pub made_count_most : (game : Game) (me : ℕ) (h : List Entry) → 1 ≤ game.ahead → IsHonest game me h → made_count h ≤ 2 * game.turns
made_count_most game me h d i =
    let w = own_counts game me h d i in
    let sum = w.sum in
    let o = w.orderly in
    let within = o.within in
    let turns = o.turns in
    omega arith

-- an owner that waits for no one, and makes nothing more, may choose or has made all its frames
chooses_or_done : (game : Game) (me : ℕ) (h : List Entry) → 1 ≤ game.ahead → IsHonest game me h → is_clean game h ≡ true → next_made game me h ≡ None →
    is_empty (needs game me h) ≡ true → (may_choose game me h ≡ true) ⊎ (made_count h ≡ 2 * game.turns)
unfolding may_choose
chooses_or_done game me h d i clean still none = go (slot_at game (made_count h)) refl
  where
    never : (f : TurnFrame) → allowed game me h (Made f) ≡ true → ⊥
    never f a = let both : None ≡ Some f = sym still ∙ next_made_only game me h f d i a in cc

    unchosen : (t : ℕ) → slot_at game (made_count h) ≡ Some (record { what = Reveal; turn = t }) → chosen_for me h t ≡ None → ⊥
    unchosen t s c =
        let w = own_counts game me h d i in
        let at = slot_at_reveal_is game (made_count h) t s in
        let turn = reveal_turn game _ _ t d w.orderly at.0 (w.sum ∙ sym at.1) in
        let short = none_past (chosen me h) t (ap is_none (sym (chosen_for_item game me t h d i) ∙ c)) in
        late w turn.0 turn.1 turn.2 short
      where
        late : OwnCounts game me h → min (length (known game me h me).moves + game.ahead) game.turns ≤ length (known game me h me).digests →
            length (known game me h me).moves < game.turns → t ≡ length (known game me h me).moves → length (chosen me h) ≤ t → ⊥
        late w full left same short = let enough = w.enough in omega arith

    frame : (v : What) (t : ℕ) → slot_at game (made_count h) ≡ Some (record { what = v; turn = t }) → (o : Option Opening) → chosen_for me h t ≡ o →
        ((is_clean game h && is_unchosen me h (slot_at game (made_count h)) && is_empty (needs game me h)) ≡ true) ⊎ (made_count h ≡ 2 * game.turns)
    frame Commit t s (Some o) c = absurd (never (frame_of game Commit o) (next_commit_allowed game me t h o d i clean s c ∙ none))
    frame Reveal t s (Some o) c = absurd (never (frame_of game Reveal o) (next_reveal_allowed game me t h o d i clean s c ∙ none))
    frame Commit t s None c = inl (and_from _ _ (and_from _ _ clean (ap (is_unchosen me h) s ∙ ap is_none c)) none)
    frame Reveal t s None c = absurd (unchosen t s c)

    go : (s : Option Slot) → slot_at game (made_count h) ≡ s →
        ((is_clean game h && is_unchosen me h (slot_at game (made_count h)) && is_empty (needs game me h)) ≡ true) ⊎ (made_count h ≡ 2 * game.turns)
    go None e = inr (let least = past_end game (made_count h) d e in let most = made_count_most game me h d i in omega arith)
    go (Some s) e = frame s.what s.turn e (chosen_for me h s.turn) refl

-- an owner that may choose waits for no one, and has frames to make
choice_needs : (game : Game) (me : ℕ) (h : List Entry) → may_choose game me h ≡ true → needs game me h ≡ []
unfolding may_choose
choice_needs game me h c = empty_nil (needs game me h) (and_parts (is_clean game h && is_unchosen me h (slot_at game (made_count h))) _ c).1

choice_left : (game : Game) (me : ℕ) (h : List Entry) → 1 ≤ game.ahead → may_choose game me h ≡ true → made_count h ≡ 2 * game.turns → ⊥
unfolding may_choose
choice_left game me h d c all =
    let unchosen = (and_parts (is_clean game h) (is_unchosen me h (slot_at game (made_count h))) (and_parts _ (is_empty (needs game me h)) c).0).1 in
    false≢true (sym (ap (is_unchosen me h) (slot_at-past game (made_count h) d (omega arith))) ∙ unchosen)

-- exactly one of the three
pub stands_one_way : (game : Game) (me : ℕ) (h : List Entry) → 1 ≤ game.ahead → IsHonest game me h → is_clean game h ≡ true → next_made game me h ≡ None →
    ExactlyOne (may_choose game me h ≡ true) (needs game me h ≡ [] → ⊥) (IsDone game me h)
stands_one_way game me h d i clean still = go (cases_Bool (is_empty (needs game me h)))
  where
    filled : is_empty (needs game me h) ≡ false → needs game me h ≡ [] → ⊥
    filled e n = false≢true (sym e ∙ ap (is_empty {X = Need}) n)

    of : is_empty (needs game me h) ≡ true → (may_choose game me h ≡ true) ⊎ (made_count h ≡ 2 * game.turns) → ExactlyOne (may_choose game me h ≡ true) (needs game me h ≡ [] → ⊥) (IsDone game me h)
    of e (inl c) = inl (c, (λ n. n (choice_needs game me h c)), (λ w. choice_left game me h d c w.0))
    of e (inr all) = inr (inr ((λ c. choice_left game me h d c all), (λ n. n (empty_nil _ e)), (all, empty_nil _ e)))

    go : (is_empty (needs game me h) ≡ true) ⊎ (is_empty (needs game me h) ≡ false) → ExactlyOne (may_choose game me h ≡ true) (needs game me h ≡ [] → ⊥) (IsDone game me h)
    go (inl e) = of e (chooses_or_done game me h d i clean still e)
    go (inr e) = inr (inl ((λ c. filled e (choice_needs game me h c)), filled e, (λ w. filled e w.1)))

-- so it is of a clean honest log that was advanced
pub advanced_one_way : (game : Game) (me : ℕ) (h : List Entry) → 1 ≤ game.ahead → IsHonest game me h → is_clean game h ≡ true →
    ExactlyOne (may_choose game me (advance game me h) ≡ true) (needs game me (advance game me h) ≡ [] → ⊥) (IsDone game me (advance game me h))
advanced_one_way game me h d i clean =
    stands_one_way game me (advance game me h) d (advance_honest game me h i) (clean_advance game me h ∙ clean) (advance_ends game me h d)

advance_by_count : (game : Game) (me n : ℕ) (h : List Entry) → made_count h ≤ made_count (advance_by game me n h)
unfolding advance_by
advance_by_count game me zero h = omega arith
advance_by_count game me (suc n) h = go (next_made game me h) (advance_by_count game me n)
  where
    go : (o : Option TurnFrame) → ((g : List Entry) → made_count g ≤ made_count (advance_by game me n g)) → made_count h ≤ made_count (advance_by game me n (with_made h o))
    go None ih = ih h
    go (Some f) ih = let more = made_count_push h f in let rest = ih (h ++ Made f ∷ []) in omega arith

-- advancing only adds
pub advance_count : (game : Game) (me : ℕ) (h : List Entry) → made_count h ≤ made_count (advance game me h)
unfolding advance
advance_count game me h = advance_by_count game me (2 * game.turns) h

-- progress, where a frame is next, counts the frames that are made
pub progress_made : (game : Game) (me : ℕ) (h : List Entry) (f : TurnFrame) → 1 ≤ game.ahead → is_clean game h ≡ true → next_made game me h ≡ Some f →
    (n : ℕ) × (progress game me h ≡ P.Made (suc n)) × (made_count (advance game me h) ≡ made_count h + suc n)
unfolding progress is_clean
progress_made game me h f d clean e =
    let step = advance_step game me h f d e in
    let more = made_count_push h f in
    let rest = advance_count game me (h ++ Made f ∷ []) in
    let count = ap made_count step in
    let grown : made_count h + 1 ≤ made_count (advance game me h) = omega arith in
    let by : advances_by game me h ≡ suc (made_count (advance game me h) - made_count h - 1) = omega arith in (
      made_count (advance game me h) - made_count h - 1,
      ap (λ (fs : List Finding). progress_of fs (advances_by game me h) (standing (may_choose game me h) (is_empty (needs game me h)))) (empty_nil (findings game (h ∷ [])) clean)
          ∙ ap (λ (n : ℕ). progress_of [] n (standing (may_choose game me h) (is_empty (needs game me h)))) by,
      omega arith,
    )

-- progress, where none is next, says how the owner stands
pub progress_stands : (game : Game) (me : ℕ) (h : List Entry) → is_clean game h ≡ true → next_made game me h ≡ None →
    progress game me h ≡ standing (may_choose game me h) (is_empty (needs game me h))
unfolding progress is_clean
progress_stands game me h clean still =
    let same = ap made_count (advance_still game me h still) in
    let by : advances_by game me h ≡ 0 = omega arith in
    ap (λ (fs : List Finding). progress_of fs (advances_by game me h) (standing (may_choose game me h) (is_empty (needs game me h)))) (empty_nil (findings game (h ∷ [])) clean)
    ∙ ap (λ (n : ℕ). progress_of [] n (standing (may_choose game me h) (is_empty (needs game me h)))) by

-- which of the three it is
pub progress_tells : (game : Game) (me : ℕ) (h : List Entry) → 1 ≤ game.ahead → IsHonest game me h → is_clean game h ≡ true → next_made game me h ≡ None →
    ((progress game me h ≡ P.Choose) ↔ (may_choose game me h ≡ true)) × ((progress game me h ≡ P.Waits) ↔ (needs game me h ≡ [] → ⊥)) × ((progress game me h ≡ P.Done) ↔ IsDone game me h)
progress_tells game me h d i clean still = go (stands_one_way game me h d i clean still)
  where
    is : (x y : Bool) → may_choose game me h ≡ x → is_empty (needs game me h) ≡ y → progress game me h ≡ standing x y
    is x y a b = progress_stands game me h clean still ∙ ap (λ (z : Bool). standing z (is_empty (needs game me h))) a ∙ ap (standing x) b

    false_of : (b : Bool) → (b ≡ true → ⊥) → b ≡ false
    false_of true n = absurd (n refl)
    false_of false n = refl

    go : ExactlyOne (may_choose game me h ≡ true) (needs game me h ≡ [] → ⊥) (IsDone game me h) →
        ((progress game me h ≡ P.Choose) ↔ (may_choose game me h ≡ true)) × ((progress game me h ≡ P.Waits) ↔ (needs game me h ≡ [] → ⊥)) × ((progress game me h ≡ P.Done) ↔ IsDone game me h)
    go (inl (c, n, w)) =
        let at : progress game me h ≡ P.Choose = is true true c (ap (is_empty {X = Need}) (choice_needs game me h c)) in (
          ((λ e. c), (λ e. at)),
          ((λ e. absurd (let both : P.Choose ≡ P.Waits = sym at ∙ e in cc)), (λ m. absurd (n m))),
          ((λ e. absurd (let both : P.Choose ≡ P.Done = sym at ∙ e in cc)), (λ m. absurd (w m))),
        )
    go (inr (inl (c, n, w))) =
        let at : progress game me h ≡ P.Waits = is false false (false_of (may_choose game me h) c) (false_of (is_empty (needs game me h)) (λ e. n (empty_nil (needs game me h) e))) in (
          ((λ e. absurd (let both : P.Waits ≡ P.Choose = sym at ∙ e in cc)), (λ m. absurd (c m))),
          ((λ e. n), (λ m. at)),
          ((λ e. absurd (let both : P.Waits ≡ P.Done = sym at ∙ e in cc)), (λ m. absurd (w m))),
        )
    go (inr (inr (c, n, w))) =
        let at : progress game me h ≡ P.Done = is false true (false_of (may_choose game me h) c) (ap (is_empty {X = Need}) w.1) in (
          ((λ e. absurd (let both : P.Done ≡ P.Choose = sym at ∙ e in cc)), (λ m. absurd (c m))),
          ((λ e. absurd (let both : P.Done ≡ P.Waits = sym at ∙ e in cc)), (λ m. absurd (n m))),
          ((λ e. w), (λ m. at)),
        )

-- progress in a log with findings is the first of them
pub progress_caught : (game : Game) (me : ℕ) (h : List Entry) (f : Finding) (fs : List Finding) → findings game (h ∷ []) ≡ f ∷ fs → progress game me h ≡ P.Caught f
unfolding progress
progress_caught game me h f fs e =
    ap (λ (xs : List Finding). progress_of xs (advances_by game me h) (standing (may_choose game me h) (is_empty (needs game me h)))) e
