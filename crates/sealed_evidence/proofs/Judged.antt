-- Judged: frames with their seals, one by one, and the player of frames that show something.
use Rattle.std.proofs.Common.{◌≡◌, ◌≤◌, ◌<◌, ◌+◌, ℕ, Bool, true, false, List, [], ◌∷◌, length, drop, refl, sym, ap, ◌∙◌, arith}
use Rattle.std.specs.Prelude.{◌&&◌, ◌==◌, if◌then◌else◌, nat_lt, not, slice_index_or}
use Rattle.std.proofs.lemmas.Bool.{and_parts, and_right, eqb-true, false≢true}
use Rattle.std.proofs.lemmas.List.{drop_more, drop_all}
use Rattle.definitions.specs.declared.world.Move.{Move}
use Rattle.definitions.specs.declared.findings.Kind.{Kind}
use Rattle.definitions.specs.declared.findings.Kind.TheVariants.{TwoCommits, BadOpening, Collision, Illegal}
use Rattle.definitions.specs.declared.frames.TurnFrame.{TurnFrame}
use Rattle.definitions.specs.Lists.{EachIs, is_empty, item_or}
use Rattle.definitions.specs.World.{Game, players_of}
use Rattle.definitions.specs.Logs.{player_of, turn_of}
use Rattle.definitions.specs.Findings.{are_bad_opening, are_collision, are_two_commits, is_illegal_after}
use Rattle.definitions.specs.Exhibits.{are_of_kind, are_two_of, end_illegal, is_of_turn, is_opened_by, shows, with_move_of}
use Rattle.seal_keys.specs.Seals.{is_valid}
use Rattle.seal_blame.specs.Blames.{are_valid}
use Rattle.sealed_evidence.specs.Judging.{are_sealed, is_sealed}
use Rattle.sealed_evidence.specs.Laws.{JudgedSealsAreValid}

-- ---- one by one

pub one_more : (game : Game) (roots : List (List ℕ)) (fs : List TurnFrame) (ss : List (List ℕ)) (i : ℕ) (f : TurnFrame) (s : List ℕ) → i < length fs → i < length ss →
    are_sealed game roots (drop i fs) (drop i ss) ≡ (is_sealed game roots (slice_index_or fs i f) (slice_index_or ss i s) && are_sealed game roots (drop (i + 1) fs) (drop (i + 1) ss))
one_more game roots fs ss i f s a b =
    ap (λ (x : List TurnFrame). are_sealed game roots x (drop i ss)) (drop_more fs i f a)
    ∙ ap (are_sealed game roots (slice_index_or fs i f ∷ drop (i + 1) fs)) (drop_more ss i s b)

pub lengths_apart : (game : Game) (roots : List (List ℕ)) (fs : List TurnFrame) (ss : List (List ℕ)) → (length fs ≡ length ss → ⊥) → are_sealed game roots fs ss ≡ false
lengths_apart game roots [] [] apart = absurd (apart refl)
lengths_apart game roots [] (s ∷ ss) apart = refl
lengths_apart game roots (f ∷ fs) [] apart = refl
lengths_apart game roots (f ∷ fs) (s ∷ ss) apart =
    let rest = lengths_apart game roots fs ss (λ e. apart (omega (arith, e))) in
    and_right (is_sealed game roots f s) (are_sealed game roots fs ss) rest

pub all_sealed : (game : Game) (roots : List (List ℕ)) (fs : List TurnFrame) (ss : List (List ℕ)) (i : ℕ) → length fs ≤ i → length ss ≤ i →
    are_sealed game roots (drop i fs) (drop i ss) ≡ true
all_sealed game roots fs ss i a b =
    ap (λ (x : List TurnFrame). are_sealed game roots x (drop i ss)) (drop_all i fs a) ∙ ap (are_sealed game roots []) (drop_all i ss b)

-- ---- the frames that show something are the player's

is_of : (q t : ℕ) (f : TurnFrame) → is_of_turn q t f ≡ true → player_of f ≡ q
is_of q t f h = eqb-true (player_of f) q (and_parts (player_of f == q) (turn_of f == t) h).0

two_of : (q t : ℕ) (test : TurnFrame → TurnFrame → Bool) (fs : List TurnFrame) → are_two_of q t test fs ≡ true → EachIs (λ f. player_of f ≡ q) fs
two_of q t test [] h = tt
two_of q t test (f ∷ []) h = absurd (false≢true h)
two_of q t test (f ∷ g ∷ []) h =
    let a = and_parts (is_of_turn q t f && is_of_turn q t g) (test f g) h in
    let b = and_parts (is_of_turn q t f) (is_of_turn q t g) a.0 in
    (is_of q t f b.0, (is_of q t g b.1, tt))
two_of q t test (f ∷ g ∷ e ∷ es) h = absurd (false≢true h)

turns_of : (game : Game) (q last : ℕ) (fs : List TurnFrame) (before : List Move) → end_illegal game q last fs before ≡ true → EachIs (λ f. player_of f ≡ q) fs
unfolding end_illegal
turns_of game q last [] before h = tt
turns_of game q last (f ∷ []) before h = absurd (false≢true h)
turns_of game q last (f ∷ g ∷ fs) before h =
    let a = and_parts (is_of_turn q (length before) f && is_of_turn q (length before) g && is_opened_by game f g) _ h in
    let b = and_parts (is_of_turn q (length before) f && is_of_turn q (length before) g) (is_opened_by game f g) a.0 in
    let c = and_parts (is_of_turn q (length before) f) (is_of_turn q (length before) g) b.0 in
    (is_of q (length before) f c.0, (is_of q (length before) g c.1, go (length before == last) fs refl a.1 (turns_of game q last fs (with_move_of before g))))
  where
    none_left : (gs : List TurnFrame) → is_empty gs ≡ true → EachIs (λ f. player_of f ≡ q) gs
    none_left [] e = tt
    none_left (x ∷ gs) e = absurd (false≢true e)

    go : (b : Bool) (gs : List TurnFrame) → gs ≡ fs → (if b then is_illegal_after game q before g && is_empty gs else not (is_illegal_after game q before g) && end_illegal game q last gs (with_move_of before g)) ≡ true →
        (end_illegal game q last gs (with_move_of before g) ≡ true → EachIs (λ f. player_of f ≡ q) gs) → EachIs (λ f. player_of f ≡ q) gs
    go true gs same e rest = none_left gs (and_parts (is_illegal_after game q before g) (is_empty gs) e).1
    go false gs same e rest = rest (and_parts (not (is_illegal_after game q before g)) (end_illegal game q last gs (with_move_of before g)) e).1

shown_of : (game : Game) (q t : ℕ) (kind : Kind) (fs : List TurnFrame) → are_of_kind game q t kind fs ≡ true → EachIs (λ f. player_of f ≡ q) fs
unfolding are_of_kind
shown_of game q t TwoCommits fs h = two_of q t (are_two_commits game) fs h
shown_of game q t BadOpening fs h = two_of q t (are_bad_opening game) fs h
shown_of game q t Collision fs h = two_of q t (are_collision game) fs h
shown_of game q t Illegal fs h = turns_of game q t fs [] h

-- ---- so the seals are valid under that player's root

under_one : (game : Game) (roots : List (List ℕ)) (q : ℕ) (fs : List TurnFrame) (ss : List (List ℕ)) → EachIs (λ f. player_of f ≡ q) fs → are_sealed game roots fs ss ≡ true →
    are_valid game (item_or roots q []) fs ss ≡ true
under_one game roots q [] [] all h = refl
under_one game roots q [] (s ∷ ss) all h = absurd (false≢true h)
under_one game roots q (f ∷ fs) [] all h = absurd (false≢true h)
under_one game roots q (f ∷ fs) (s ∷ ss) all h =
    let a = and_parts (is_sealed game roots f s) (are_sealed game roots fs ss) h in
    let b = and_parts (nat_lt (player_of f) (length roots)) (is_valid game (item_or roots (player_of f) []) f s) a.0 in
    let one : is_valid game (item_or roots q []) f s ≡ true = ap (λ (p : ℕ). is_valid game (item_or roots p []) f s) (sym all.0) ∙ b.1 in
    rw (one, under_one game roots q fs ss all.1 a.1) refl

pub judged : JudgedSealsAreValid
judged game roots x h =
    let a = and_parts (shows game x.exhibit.player x.exhibit.turn x.exhibit.kind x.exhibit.frames) (are_sealed game roots x.exhibit.frames x.seals) h in
    let b = and_parts (nat_lt x.exhibit.player (players_of game) && nat_lt x.exhibit.turn game.turns) (are_of_kind game x.exhibit.player x.exhibit.turn x.exhibit.kind x.exhibit.frames) a.0 in
    under_one game roots x.exhibit.player x.exhibit.frames x.seals (shown_of game x.exhibit.player x.exhibit.turn x.exhibit.kind x.exhibit.frames b.1) a.1
