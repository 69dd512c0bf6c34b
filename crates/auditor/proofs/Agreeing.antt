-- Agreeing: moves of all turns on which logs agree are the moves of one log, and so they are legal.
use Rattle.std.proofs.Common.{List, None, Some, [], ap, arith, inl, inr, refl, subst, suc, sym, true, zero, zero-add, ℕ, ◌*◌, ◌+◌, ◌<◌, ◌≤◌, ◌∙◌, ◌∷◌, ◌≡◌, Option, length, slice_get}
use Rattle.std.specs.List.{list_all}
use Rattle.std.proofs.lemmas.Bool.{and_parts, cases_lt}
use Rattle.std.proofs.lemmas.Option.{slice_get_past, slice_get_within}
use Rattle.definitions.specs.declared.frames.TurnFrame.{TurnFrame}
use Rattle.definitions.specs.declared.world.Move.{Move}
use Rattle.definitions.specs.declared.logs.Entry.{Entry}
use Rattle.definitions.specs.Lists.{EachIs, item_or}
use Rattle.definitions.specs.World.{Game}
use Rattle.definitions.specs.Moves.{AreLegal}
use Rattle.definitions.specs.Logs.{move_eq}
use Rattle.definitions.specs.Held.{known, known_to}
use Rattle.definitions.specs.Findings.{got_known}
use Rattle.definition_laws.proofs.Alike.{move_eq_true}
use Rattle.definition_laws.proofs.Nexts.{known_are_legal, known_orderly, some_at}
use Rattle.definition_laws.proofs.Behind.{frames_of_other}
use Rattle.plain_lemmas.proofs.Options.{some_when}
use Rattle.auditor.specs.Agreed.{agreed_move, agreed_moves, moves_given, resolved_at, resolved_by}
use Rattle.frame_index.specs.Agreeing.{one_move}
use Rattle.auditor.proofs.Picked.{picked_all, picked_each, picked_first, same_items}

-- the moves that a log shows of a player are legal, at most one a turn, and those by which it resolves the turns
record IsShown (game : Game) (q : ℕ) (owner : Option ℕ) (h : List Entry) (ms : List Move) : Type 0 where
  legal : AreLegal game q ms
  few : length ms ≤ game.turns
  resolves : (t : ℕ) → resolved_by game owner h q t ≡ slice_get ms t

same_known : (game : Game) (q : ℕ) (h : List Entry) → (got_known game q h).moves ≡ (known game (suc q) h q).moves
unfolding known
same_known game q h = ap (λ (fs : List TurnFrame). (known_to game q fs (2 * game.turns)).moves) (sym (frames_of_other (suc q) q h (λ e. absurd (omega (arith, e)))))

shown : (game : Game) (q : ℕ) (owner : Option ℕ) (h : List Entry) → (ms : List Move) × IsShown game q owner h ms
shown game q (Some me) h = (
  (known game me h q).moves,
  record {
    legal = known_are_legal game me q h;
    few = (known_orderly game me q h).turns;
    resolves = λ t. refl;
  },
)
shown game q None h = (
  (known game (suc q) h q).moves,
  record {
    legal = known_are_legal game (suc q) q h;
    few = (known_orderly game (suc q) q h).turns;
    resolves = λ t. ap (λ (ms : List Move). slice_get ms t) (same_known game q h);
  },
)

-- moves that are one move are all the same
one_each : (ms : List Move) (a : Move) → one_move ms ≡ Some a → EachIs (λ m. a ≡ m) ms
one_each [] a e = absurd (let none : None ≡ Some a = e in cc)
one_each (m ∷ ms) a e =
    let parts = some_when (list_all (move_eq m) ms) m a e in
    (sym parts.1, subst (λ (x : Move). EachIs (λ n. x ≡ n) ms) parts.1 (rest ms parts.0))
  where
    rest : (ns : List Move) → list_all (move_eq m) ns ≡ true → EachIs (λ n. m ≡ n) ns
    rest [] all = tt
    rest (n ∷ ns) all = let p = and_parts (move_eq m n) (list_all (move_eq m) ns) all in (move_eq_true m n p.0, rest ns p.1)

one_some : (ms : List Move) (a : Move) → one_move ms ≡ Some a → (m : Move) × (ns : List Move) × (ms ≡ m ∷ ns)
one_some [] a e = absurd (let none : None ≡ Some a = e in cc)
one_some (m ∷ ms) a e = (m, ms, refl)

module _ (game : Game) (owners : List (Option ℕ)) (logs : List (List Entry)) (q : ℕ) where
  agreed : ℕ → Option Move
  agreed = agreed_move game owners logs q

  -- where a log resolves an agreed turn, it does so by the agreed move
  by_log : (t i : ℕ) (a m : Move) → i < length logs → agreed_move game owners logs q t ≡ Some a → resolved_at game owners logs q t i ≡ Some m → a ≡ m
  unfolding agreed_move
  by_log t i a m lt e r =
      picked_each (λ n. a ≡ n) (resolved_at game owners logs q t) 0 (length logs) (one_each (moves_given game owners logs q t) a e) i lt m (ap (resolved_at game owners logs q t) (zero-add i) ∙ r)

  -- some log resolves an agreed turn
  some_log : (t : ℕ) (a : Move) → agreed_move game owners logs q t ≡ Some a → (i : ℕ) × (i < length logs) × (m : Move) × (resolved_at game owners logs q t i ≡ Some m)
  unfolding agreed_move
  some_log t a e =
      let s = one_some (moves_given game owners logs q t) a e in
      let f = picked_first (resolved_at game owners logs q t) 0 (length logs) s.0 s.1 s.2 in
      (f.0, f.1, s.0, ap (resolved_at game owners logs q t) (sym (zero-add f.0)) ∙ f.2)

  module _ (all : length (agreed_moves game owners logs q) ≡ game.turns) where
    each_turn : (t : ℕ) → t < game.turns → slice_get (agreed_moves game owners logs q) t ≡ agreed_move game owners logs q t
    unfolding agreed_moves
    each_turn t lt = picked_all (agreed_move game owners logs q) 0 game.turns all t lt ∙ ap (agreed_move game owners logs q) (zero-add t)

    some_turn : (t : ℕ) → t < game.turns → (a : Move) × (slice_get (agreed_moves game owners logs q) t ≡ Some a)
    some_turn t lt = some_at (agreed_moves game owners logs q) t (let n = all in omega arith)

    -- the log that resolves the last turn resolves all, by the agreed moves
    module _ (last i : ℕ) (is : last + 1 ≡ game.turns) (lt : i < length logs) (m : Move) (resolves : resolved_at game owners logs q last i ≡ Some m) where
      abbrev owner : Option ℕ
      owner = item_or owners i None

      abbrev log : List Entry
      log = item_or logs i []

      long : game.turns ≤ length (shown game q owner log).0
      long =
          let s = shown game q owner log in
          let at : slice_get s.0 last ≡ Some m = sym (s.1.resolves last) ∙ resolves in
          let within = slice_get_within s.0 last m at in
          omega (arith, within, is)

      same : (t : ℕ) → slice_get (agreed_moves game owners logs q) t ≡ slice_get (shown game q owner log).0 t
      same t = elim (cases_lt t game.turns) [
        | inl here ↦
            let s = shown game q owner log in
            let a = some_turn t here in
            let x = some_at s.0 t (let n = long in omega arith) in
            let one : a.0 ≡ x.0 = by_log t i a.0 x.0 lt (sym (each_turn t here) ∙ a.1) (s.1.resolves t ∙ x.1) in
            a.1 ∙ ap (λ (n : Move). Some n) one ∙ sym x.1
        | inr past ↦
            let s = shown game q owner log in
            let few = s.1.few in
            slice_get_past (agreed_moves game owners logs q) t (let n = all in omega arith) ∙ sym (slice_get_past s.0 t (omega arith))
      ]

      legal_by : AreLegal game q (agreed_moves game owners logs q)
      legal_by = subst (AreLegal game q) (sym (same_items (agreed_moves game owners logs q) (shown game q owner log).0 same)) (shown game q owner log).1.legal

    pub whole_legal : AreLegal game q (agreed_moves game owners logs q)
    whole_legal = go game.turns refl
      where
        go : (n : ℕ) → game.turns ≡ n → AreLegal game q (agreed_moves game owners logs q)
        go zero e = subst (AreLegal game q) (none (agreed_moves game owners logs q) (all ∙ e)) refl
          where
            none : (ms : List Move) → length ms ≡ 0 → [] ≡ ms
            none [] z = refl
            none (x ∷ ms) z = absurd (omega arith)
        go (suc last) e =
            let a = some_turn last (omega (arith, e)) in
            let s = some_log last a.0 (sym (each_turn last (omega (arith, e))) ∙ a.1) in
            legal_by last s.0 (omega (arith, e)) s.1 s.2 s.3
