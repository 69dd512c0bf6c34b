-- Counted: how many turns are agreed, by their accords, and whether all are.
use Rattle.std.proofs.Common.{Bool, List, None, Some, [], ap, arith, false, inl, inr, length, refl, suc, sym, true, ℕ, ◌+◌, ◌<◌, ◌∙◌, ◌∷◌, ◌≡◌}
use Rattle.std.specs.Prelude.{filter_map, get_or, if◌then◌else◌, slice_get}
use Rattle.std.specs.List.{cons_option, list_all, range_with_len}
use Rattle.std.proofs.lemmas.Bool.{and_from, eq-eqb, ne_eqb}
use Rattle.std.proofs.lemmas.Option.{same_Some}
use Rattle.definitions.specs.declared.logs.Entry.{Entry}
use Rattle.definitions.specs.declared.world.Move.{Move}
use Rattle.definitions.specs.Logs.{move_eq}
use Rattle.definitions.specs.World.{Game, players_of}
use Rattle.definition_laws.specs.Members.{Has}
use Rattle.definition_laws.proofs.Members.{Has_range, list_all_Has, range_Has}
use Rattle.frame_index.specs.Agreeing.{one_move}
use Rattle.agreed_turns.specs.declared.accords.Accord.{Accord}
use Rattle.agreed_turns.specs.declared.accords.Accord.TheVariants.{One, Unlike}
use Rattle.agreed_turns.specs.Accords.{accord_of, one_in, ones_in}
use Rattle.agreed_turns.specs.Agreed.{agreed_count, agreed_move, is_whole, is_whole_of, moves_given}
use Rattle.agreed_turns.specs.States.{AgreedState, AreSound, IsOf, IsOfPlayer, PlayerState}
use Rattle.agreed_turns.proofs.Heeded.{read_of}

-- a turn counts where its moves are one
one_counted : (ms : List Move) (rest : List Move) → one_in (accord_of ms) + length rest ≡ length (cons_option (one_move ms) rest)
one_counted [] rest = omega arith
one_counted (m ∷ ms) rest = go (list_all (move_eq m) ms)
  where
    go : (b : Bool) → one_in (if b then One m else Unlike) + length rest ≡ length (cons_option (if b then Some m else None) rest)
    go true = omega arith
    go false = omega arith

ones_counted : (f : ℕ → List Move) (xs : List Accord) (a : ℕ) → ((k : ℕ) → k < length xs → slice_get xs k ≡ Some (accord_of (f (a + k)))) →
    ones_in xs ≡ length (filter_map (λ t. one_move (f t)) (range_with_len a (length xs)))
ones_counted f [] a each = refl
ones_counted f (x ∷ xs) a each =
    let first : x ≡ accord_of (f a) = same_Some x (accord_of (f a)) (each 0 (omega arith) ∙ ap (λ n. Some (accord_of (f n))) (let e : a + 0 ≡ a = omega arith in e)) in
    let rest = ones_counted f xs (a + 1) (λ k lt. each (suc k) (omega arith) ∙ ap (λ n. Some (accord_of (f n))) (let e : a + suc k ≡ a + 1 + k = omega arith in e)) in
    ap (λ (y : Accord). one_in y + ones_in xs) first ∙ ap (λ n. one_in (accord_of (f a)) + n) rest ∙ one_counted (f a) (filter_map (λ t. one_move (f t)) (range_with_len (a + 1) (length xs)))

pub count_is : (game : Game) (logs : List (List Entry)) (q : ℕ) (p : PlayerState) → length p.accords ≡ game.turns → IsOfPlayer game logs q p → ones_in p.accords ≡ agreed_count game logs q
unfolding agreed_count agreed_move
count_is game logs q p long is =
    ones_counted (moves_given game logs q) p.accords 0 (λ k lt. is.accords k (omega arith) ∙ ap (λ n. Some (accord_of (moves_given game logs q n))) (let e : k ≡ 0 + k = omega arith in e))
    ∙ ap (λ n. length (filter_map (λ t. one_move (moves_given game logs q t)) (range_with_len 0 n))) long

-- the test of all numbers below one
all_below : (p : ℕ → Bool) (xs : List ℕ) → ((x : ℕ) → Has xs x → p x ≡ true) → list_all p xs ≡ true
all_below p [] each = refl
all_below p (x ∷ xs) each = and_from (p x) (list_all p xs) (each x (inl refl)) (all_below p xs (λ y has. each y (inr has)))

pub all_whole : (game : Game) (logs : List (List Entry)) (n : ℕ) → n ≡ players_of game → ((k : ℕ) → k < n → agreed_count game logs k ≡ game.turns) → true ≡ is_whole game logs
all_whole game logs n many each =
    sym (all_below (is_whole_of game logs) (range_with_len 0 (players_of game)) (λ k has. let r = (range_Has 0 (players_of game) k has).1 in eq-eqb _ _ (each k (omega arith))))

pub not_whole : (game : Game) (logs : List (List Entry)) (k : ℕ) → k < players_of game → (agreed_count game logs k ≡ game.turns → ⊥) → false ≡ is_whole game logs
not_whole game logs k lt ne = go (list_all (is_whole_of game logs) (range_with_len 0 (players_of game))) refl
  where
    go : (b : Bool) → list_all (is_whole_of game logs) (range_with_len 0 (players_of game)) ≡ b → false ≡ b
    go false e = refl
    go true e = sym (ne_eqb _ _ ne) ∙ list_all_Has (is_whole_of game logs) (range_with_len 0 (players_of game)) k e (Has_range 0 (players_of game) k (omega arith) (omega arith))

-- how many are agreed, by the accords that were read of the player
pub count_at : (game : Game) (xs : List PlayerState) (a : AgreedState) (logs : List (List Entry)) (n q : ℕ) (p : PlayerState) → record { game = game; players = xs } ≡ a → AreSound game xs →
    IsOf a.game logs a → n ≡ q → q < players_of a.game → p ≡ get_or xs n p → ones_in p.accords ≡ agreed_count a.game logs q
count_at game xs a logs n q p view sound is place lt read =
    let same = ap (λ (s : AgreedState). s.game) view in
    let many = sound.many ∙ ap players_of same in
    let there = read_of xs xs n q p refl place (omega arith) read in
    let long = (sound.each q p there).accords ∙ ap (λ (g : Game). g.turns) same in
    count_is a.game logs q p long (is.each q p (ap (λ (s : AgreedState). slice_get s.players q) (sym view) ∙ there))
