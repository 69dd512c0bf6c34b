-- Counting: what is counted so far, and what is left.
use Rattle.std.proofs.Common.{◌≡◌, ℕ, ◌+◌, ◌<◌, ◌≤◌, List, [], ◌∷◌, length, drop, zero, suc, refl, sym, ap, ◌∙◌, arith, get_or, Bool, true, false}
use Rattle.std.specs.Prelude.{Option, Some, None, ◌==◌, map, if◌then◌else◌}
use Rattle.std.proofs.lemmas.List.{drop_more, drop_all}
use Rattle.definitions.specs.declared.world.Move.{Move}
use Rattle.std.proofs.lemmas.Bool.{eq-eqb, false≢true}
use Rattle.definitions.specs.Lists.{item_or}
use Rattle.definitions.specs.World.{Game}
use Rattle.playout.specs.declared.hits.Score.{Score}
use Rattle.playout.specs.Hits.{between, no_score, plus, strikes, between_unless, between_known, score_among, own_score_among, move_of, turn_score, own_score}
use Rattle.playout.specs.Lockstep.{lockstep, turn_moves}
use Rattle.playout.specs.Laws.{IsThereOrApart, all_there, own_turns}

pub same_score : (a b : Score) → a.given ≡ b.given → a.taken ≡ b.taken → a ≡ b
same_score a b given taken = ap (λ n. record { given = n; taken = a.taken }) given ∙ ap (λ n. record { given = b.given; taken = n }) taken

pub plus_none : (a : Score) → plus a no_score ≡ a
plus_none a = same_score (plus a no_score) a (omega arith) (omega arith)

pub none_plus : (a : Score) → plus no_score a ≡ a
none_plus a = same_score (plus no_score a) a (omega arith) (omega arith)

pub plus_assoc : (a b c : Score) → plus (plus a b) c ≡ plus a (plus b c)
plus_assoc a b c = same_score (plus (plus a b) c) (plus a (plus b c)) (omega arith) (omega arith)

-- one move more is counted
pub among_more : (game : Game) (me at : ℕ) (own : Move) (p : ℕ) (moves : List Move) (d : Move) (score next all : Score) → at ≡ me → p < length moves →
    next ≡ plus score (between_unless (p == at) game own (get_or moves p d)) → plus score (score_among game me own p (drop p moves)) ≡ all →
    plus next (score_among game me own (p + 1) (drop (p + 1) moves)) ≡ all
unfolding score_among
among_more game me at own p moves d score next all same lt is so_far =
    let rest : Score = score_among game me own (p + 1) (drop (p + 1) moves) in
    ap (λ (s : Score). plus s rest) (is ∙ ap (λ m. plus score (between_unless (p == m) game own (get_or moves p d))) same)
    ∙ plus_assoc score (between_unless (p == me) game own (get_or moves p d)) rest
    ∙ ap (λ ms. plus score (score_among game me own p ms)) (sym (drop_more moves p d lt)) ∙ so_far

pub own_more : (game : Game) (me at : ℕ) (own : Move) (p : ℕ) (others : List (Option Move)) (d : Option Move) (score next all : Score) → at ≡ me → p < length others →
    next ≡ plus score (between_known (p == at) game own (get_or others p d)) → plus score (own_score_among game me own p (drop p others)) ≡ all →
    plus next (own_score_among game me own (p + 1) (drop (p + 1) others)) ≡ all
unfolding own_score_among
own_more game me at own p others d score next all same lt is so_far =
    let rest : Score = own_score_among game me own (p + 1) (drop (p + 1) others) in
    ap (λ (s : Score). plus s rest) (is ∙ ap (λ m. plus score (between_known (p == m) game own (get_or others p d))) same)
    ∙ plus_assoc score (between_known (p == me) game own (get_or others p d)) rest
    ∙ ap (λ ms. plus score (own_score_among game me own p ms)) (sym (drop_more others p d lt)) ∙ so_far

-- all were counted
pub among_all : (game : Game) (me : ℕ) (own : Move) (p : ℕ) (moves : List Move) (score all : Score) → length moves ≤ p → plus score (score_among game me own p (drop p moves)) ≡ all → score ≡ all
unfolding score_among
among_all game me own p moves score all le so_far =
    sym (plus_none score) ∙ ap (λ ms. plus score (score_among game me own p ms)) (sym (drop_all p moves le)) ∙ so_far

pub own_all : (game : Game) (me : ℕ) (own : Move) (p : ℕ) (others : List (Option Move)) (score all : Score) → length others ≤ p → plus score (own_score_among game me own p (drop p others)) ≡ all → score ≡ all
unfolding own_score_among
own_all game me own p others score all le so_far =
    sym (plus_none score) ∙ ap (λ ms. plus score (own_score_among game me own p ms)) (sym (drop_all p others le)) ∙ so_far

-- ---- no player gives or takes more hits than there are players

hits_few : (b : Bool) → (if b then 1 else 0) ≤ 1
hits_few true = omega arith
hits_few false = omega arith

abbrev AtMost : ℕ → Score → Type 0
AtMost n s = (s.given ≤ n) × (s.taken ≤ n)

between_few : (b : Bool) (game : Game) (own other : Move) → AtMost 1 (between_unless b game own other)
between_few true game own other = (omega arith, omega arith)
between_few false game own other = (hits_few (strikes game own.strike other.to), hits_few (strikes game other.strike own.to))

known_few : (b : Bool) (game : Game) (own : Move) (o : Option Move) → AtMost 1 (between_known b game own o)
known_few b game own None = (omega arith, omega arith)
known_few b game own (Some other) = between_few b game own other

pub among_few : (game : Game) (me : ℕ) (own : Move) (p : ℕ) (moves : List Move) → AtMost (length moves) (score_among game me own p moves)
unfolding score_among
among_few game me own p [] = (omega arith, omega arith)
among_few game me own p (other ∷ moves) =
    let one = between_few (p == me) game own other in
    let more = among_few game me own (p + 1) moves in
    (omega (arith, one.0, more.0), omega (arith, one.1, more.1))

pub own_among_few : (game : Game) (me : ℕ) (own : Move) (p : ℕ) (others : List (Option Move)) → AtMost (length others) (own_score_among game me own p others)
unfolding own_score_among
own_among_few game me own p [] = (omega arith, omega arith)
own_among_few game me own p (other ∷ others) =
    let one = known_few (p == me) game own other in
    let more = own_among_few game me own (p + 1) others in
    (omega (arith, one.0, more.0), omega (arith, one.1, more.1))

-- ---- own turns against all players

pub all_known : (game : Game) (me : ℕ) (own : Move) (p : ℕ) (moves : List Move) → own_score_among game me own p (map (λ mv. Some mv) moves) ≡ score_among game me own p moves
unfolding score_among own_score_among
all_known game me own p [] = refl
all_known game me own p (other ∷ moves) = ap (plus (between_unless (p == me) game own other)) (all_known game me own (p + 1) moves)

pub own_turn_alike : (game : Game) (moves : List Move) (me : ℕ) → own_score game me (move_of moves me) (all_there moves) ≡ turn_score game moves me
own_turn_alike game moves me = all_known game me (move_of moves me) 0 moves

pub own_turns_alike : (game : Game) (moves : List (List Move)) (n me : ℕ) → own_turns game moves n me ≡ (lockstep game moves n me).score
unfolding lockstep
own_turns_alike game moves zero me = refl
own_turns_alike game moves (suc n) me =
    ap (λ (s : Score). plus s (own_score game me (move_of (turn_moves moves n) me) (all_there (turn_moves moves n)))) (own_turns_alike game moves n me)
    ∙ ap (plus (lockstep game moves n me).score) (own_turn_alike game (turn_moves moves n) me)

-- ---- where moves are missing

known_alike : (b : Bool) (game : Game) (own other : Move) (o : Option Move) → (b ≡ false → IsThereOrApart game own other o) → between_known b game own o ≡ between_unless b game own other
known_alike true game own other None there = refl
known_alike true game own other (Some mv) there = refl
known_alike false game own other None there = sym (there refl)
known_alike false game own other (Some mv) there = ap (between game own) (there refl)

missing_alike : (game : Game) (me : ℕ) (own : Move) (p : ℕ) (moves : List Move) (others : List (Option Move)) → length others ≡ length moves →
    ((i : ℕ) → i < length moves → (p + i ≡ me → ⊥) → IsThereOrApart game own (move_of moves i) (item_or others i None)) → own_score_among game me own p others ≡ score_among game me own p moves
unfolding score_among own_score_among
missing_alike game me own p [] [] same there = refl
missing_alike game me own p [] (o ∷ others) same there = absurd (omega arith)
missing_alike game me own p (mv ∷ moves) [] same there = absurd (omega arith)
missing_alike game me own p (mv ∷ moves) (o ∷ others) same there =
    let one : between_known (p == me) game own o ≡ between_unless (p == me) game own mv
    = known_alike (p == me) game own mv o (λ t. there 0 (omega arith) (λ e. false≢true (sym t ∙ eq-eqb p me (omega arith)))) in
    let more : own_score_among game me own (p + 1) others ≡ score_among game me own (p + 1) moves
    = missing_alike game me own (p + 1) moves others (omega arith) (λ i lt other. there (suc i) (omega arith) (λ e. other (omega arith))) in
    ap (λ (s : Score). plus s (own_score_among game me own (p + 1) others)) one ∙ ap (plus (between_unless (p == me) game own mv)) more

pub missing_turn_alike : (game : Game) (moves : List Move) (others : List (Option Move)) (me : ℕ) → length others ≡ length moves →
    ((q : ℕ) → q < length moves → (q ≡ me → ⊥) → IsThereOrApart game (move_of moves me) (move_of moves q) (item_or others q None)) → own_score game me (move_of moves me) others ≡ turn_score game moves me
missing_turn_alike game moves others me same there = missing_alike game me (move_of moves me) 0 moves others same (λ i lt other. there i lt (λ e. other (omega arith)))

-- ---- where other moves are there

counts_alike : (b : Bool) (game : Game) (own : Move) (o more : Option Move) → (b ≡ false → between_known false game own o ≡ between_known false game own more) → between_known b game own o ≡ between_known b game own more
counts_alike false game own o more same = same refl
counts_alike true game own None None same = refl
counts_alike true game own None (Some mv) same = refl
counts_alike true game own (Some mv) None same = refl
counts_alike true game own (Some mv) (Some other) same = refl

-- an own turn counts the same against other moves, each of which counts the same
pub own_alike : (game : Game) (me : ℕ) (own : Move) (p : ℕ) (others more : List (Option Move)) → length others ≡ length more →
    ((i : ℕ) → i < length others → (p + i ≡ me → ⊥) → between_known false game own (item_or others i None) ≡ between_known false game own (item_or more i None)) →
    own_score_among game me own p others ≡ own_score_among game me own p more
unfolding own_score_among
own_alike game me own p [] [] same each = refl
own_alike game me own p [] (x ∷ more) same each = absurd (omega arith)
own_alike game me own p (o ∷ others) [] same each = absurd (omega arith)
own_alike game me own p (o ∷ others) (x ∷ more) same each =
    let one : between_known (p == me) game own o ≡ between_known (p == me) game own x
    = counts_alike (p == me) game own o x (λ t. each 0 (omega arith) (λ e. false≢true (sym t ∙ eq-eqb p me (omega arith)))) in
    let rest : own_score_among game me own (p + 1) others ≡ own_score_among game me own (p + 1) more
    = own_alike game me own (p + 1) others more (omega arith) (λ i lt other. each (suc i) (omega arith) (λ e. other (omega arith))) in
    ap (λ (s : Score). plus s (own_score_among game me own (p + 1) others)) one ∙ ap (plus (between_known (p == me) game own x)) rest
