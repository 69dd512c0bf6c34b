-- Joining: the move of a turn on which logs agree, where each of them resolves it by the one move of its group or not at all.
use Rattle.std.proofs.Common.{Bool, List, None, Some, [], ap, arith, false, inl, inr, refl, suc, sym, true, zero, ℕ, ◌<◌, ◌∙◌, ◌∷◌, ◌≡◌, ◌⊎◌, Option, length, map, slice_get}
use Rattle.std.specs.Prelude.{◌&&◌, if◌then◌else◌, not}
use Rattle.std.specs.List.{list_all, range_with_len}
use Rattle.std.proofs.lemmas.Bool.{false≢true}
use Rattle.std.proofs.lemmas.Option.{slice_get_within}
use Rattle.definitions.specs.declared.world.Move.{Move}
use Rattle.definitions.specs.declared.logs.Entry.{Entry}
use Rattle.definitions.specs.Lists.{item_or}
use Rattle.definitions.specs.Logs.{move_eq}
use Rattle.definitions.specs.World.{Game}
use Rattle.definition_laws.specs.Members.{Has}
use Rattle.definition_laws.proofs.Alike.{move_eq_same, move_eq_true}
use Rattle.definition_laws.proofs.Members.{Has_filter_map, Has_range, filter_map_Has, range_Has}
use Rattle.definition_laws.proofs.Nexts.{some_at}
use Rattle.frame_index.specs.Plain.{AreCommon, IsCommonAt, is_among, move_of}
use Rattle.frame_index.specs.declared.limits.TheConstants.{MOST_LOGS}
use Rattle.frame_index.proofs.Wrong.{item_is}
use Rattle.auditor.specs.Accords.{is_own, joined}
use Rattle.auditor.specs.Agreed.{AreOwned, ArePlays, agreed_move, moves_given, resolved_at, resolved_by}
use Rattle.frame_index.specs.Agreeing.{one_move}
use Rattle.auditor.specs.Audits.{crossed, crossed_logs}
use Rattle.auditor.proofs.Crossed.{crossed_there}
use Rattle.auditor.proofs.Owned.{by_got, by_made, owner_is, owner_isnt}

-- of moves that are all one the one is it
all_one : (xs : List Move) (m : Move) → ((x : Move) → Has xs x → x ≡ m) → list_all (move_eq m) xs ≡ true
all_one [] m same = refl
all_one (x ∷ xs) m same = let one : move_eq m x ≡ true = ap (move_eq m) (same x (inl refl)) ∙ move_eq_same m in rw (one, all_one xs m (λ y n. same y (inr n))) refl

one_alone : (xs : List Move) (m : Move) → Has xs m → ((x : Move) → Has xs x → x ≡ m) → one_move xs ≡ Some m
one_alone [] m there same = absurd there
one_alone (x ∷ xs) m there same =
    let first : x ≡ m = same x (inl refl) in
    let rest = all_one xs x (λ y n. same y (inr n) ∙ sym first) in
    ap (λ (b : Bool). if b then Some x else None) rest ∙ ap (λ (y : Move). Some y) first

all_has : (p : Move → Bool) (xs : List Move) (x : Move) → list_all p xs ≡ true → Has xs x → p x ≡ true
all_has p [] x all m = absurd m
all_has p (y ∷ ys) x all m = go (p y) refl all m (all_has p ys x)
  where
    go : (b : Bool) → p y ≡ b → (b && list_all p ys) ≡ true → Has (y ∷ ys) x → (list_all p ys ≡ true → Has ys x → p x ≡ true) → p x ≡ true
    go true e all (inl same) ih = ap p (sym same) ∙ e
    go true e all (inr m) ih = ih all m
    go false e all m ih = absurd (false≢true all)

none_of_two : (xs : List Move) (m k : Move) → Has xs m → Has xs k → move_eq m k ≡ false → one_move xs ≡ None
none_of_two [] m k there other differ = absurd there
none_of_two (x ∷ xs) m k there other differ = go (list_all (move_eq x) xs) refl
  where
    is_first : list_all (move_eq x) xs ≡ true → (y : Move) → Has (x ∷ xs) y → x ≡ y
    is_first all y (inl same) = same
    is_first all y (inr n) = move_eq_true x y (all_has (move_eq x) xs y all n)

    go : (b : Bool) → list_all (move_eq x) xs ≡ b → (if b then Some x else None) ≡ None
    go false e = refl
    go true e = absurd (false≢true (sym differ ∙ ap (move_eq m) (sym (is_first e k other) ∙ is_first e m there) ∙ move_eq_same m))

nothing_given : (xs : List Move) → ((x : Move) → Has xs x → ⊥) → one_move xs ≡ None
nothing_given [] none = refl
nothing_given (x ∷ xs) none = absurd (none x (inl refl))

-- what each log resolves the turn by, and which of them do
module _ (xs : List Move) (a b : Option Move) (each : (x : Move) → Has xs x → (Some x ≡ a) ⊎ (Some x ≡ b)) (has_a : (m : Move) → a ≡ Some m → Has xs m) (has_b : (m : Move) → b ≡ Some m → Has xs m) where
  pub given_joined : one_move xs ≡ joined a b
  given_joined = by a b refl refl
    where
      of_one : (m : Move) → a ≡ Some m → b ≡ None → (x : Move) → Has xs x → x ≡ m
      of_one m e f x n = elim (each x n) [
        | inl g ↦ (let s : Some x ≡ Some m = g ∙ e in cc)
        | inr g ↦ absurd (let s : Some x ≡ None = g ∙ f in cc)
      ]

      of_other : (m : Move) → b ≡ Some m → a ≡ None → (x : Move) → Has xs x → x ≡ m
      of_other m f e x n = elim (each x n) [
        | inl g ↦ absurd (let s : Some x ≡ None = g ∙ e in cc)
        | inr g ↦ (let s : Some x ≡ Some m = g ∙ f in cc)
      ]

      of_both : (m k : Move) → a ≡ Some m → b ≡ Some k → m ≡ k → (x : Move) → Has xs x → x ≡ m
      of_both m k e f same x n = elim (each x n) [
        | inl g ↦ (let s : Some x ≡ Some m = g ∙ e in cc)
        | inr g ↦ (let s : Some x ≡ Some k = g ∙ f in let t : x ≡ k = cc in t ∙ sym same)
      ]

      of_none : a ≡ None → b ≡ None → (x : Move) → Has xs x → ⊥
      of_none e f x n = elim (each x n) [
        | inl g ↦ (let s : Some x ≡ None = g ∙ e in absurd cc)
        | inr g ↦ (let s : Some x ≡ None = g ∙ f in absurd cc)
      ]

      two : (m k : Move) → a ≡ Some m → b ≡ Some k → (c : Bool) → move_eq m k ≡ c → one_move xs ≡ (if c then Some m else None)
      two m k e f true same = one_alone xs m (has_a m e) (of_both m k e f (move_eq_true m k same))
      two m k e f false differ = none_of_two xs m k (has_a m e) (has_b k f) differ

      by : (x y : Option Move) → a ≡ x → b ≡ y → one_move xs ≡ joined x y
      by None None e f = nothing_given xs (of_none e f)
      by None (Some k) e f = one_alone xs k (has_b k f) (of_other k f e)
      by (Some m) None e f = one_alone xs m (has_a m e) (of_one m e f)
      by (Some m) (Some k) e f = two m k e f (move_eq m k) refl

crossed_back : (logs : List (List Entry)) (i : ℕ) (g : List Entry) → slice_get (crossed_logs logs) i ≡ Some g → (h : List Entry) × (slice_get logs i ≡ Some h) × (map crossed h ≡ g)
crossed_back [] i g e = absurd (let none : None ≡ Some g = e in cc)
crossed_back (h ∷ logs) zero g e = (h, refl, let s : Some (map crossed h) ≡ Some g = e in cc)
crossed_back (h ∷ logs) (suc i) g e = crossed_back logs i g e

module _ (game : Game) (owners : List (Option ℕ)) (logs : List (List Entry)) (q t : ℕ) (own others : List Bool) (a b : Option Move) (many : length logs ≡ MOST_LOGS) (owned : AreOwned game owners logs)
    (own_is : (i : ℕ) → i < MOST_LOGS → is_among own i ≡ is_own (item_or owners i None) q) (others_is : (i : ℕ) → i < MOST_LOGS → is_among others i ≡ not (is_own (item_or owners i None) q))
    (got : IsCommonAt game q logs others t a) (made : IsCommonAt game q (crossed_logs logs) own t b) where
  abbrev At : ℕ → Option Move
  At i = resolved_at game owners logs q t i

  abbrev All : List Move
  All = moves_given game owners logs q t

  at_log : (i : ℕ) (h : List Entry) → slice_get logs i ≡ Some h → resolved_by game (item_or owners i None) h q t ≡ At i
  at_log i h there = ap (λ (g : List Entry). resolved_by game (item_or owners i None) g q t) (sym (item_is logs i h there))

  by_own : (i : ℕ) (h : List Entry) → slice_get logs i ≡ Some h → is_own (item_or owners i None) q ≡ true → move_of game q (map crossed h) t ≡ At i
  by_own i h there is = let me = owner_is (item_or owners i None) q is in by_made game (item_or owners i None) h q t me (owned i q h there me) ∙ at_log i h there

  by_other : (i : ℕ) (h : List Entry) → slice_get logs i ≡ Some h → is_own (item_or owners i None) q ≡ false → move_of game q h t ≡ At i
  by_other i h there isnt = by_got game (item_or owners i None) h q t (owner_isnt (item_or owners i None) q isnt) ∙ at_log i h there

  below : (i : ℕ) (h : List Entry) → slice_get logs i ≡ Some h → i < MOST_LOGS
  below i h there = let lt = slice_get_within logs i h there in omega (arith, lt, many)

  given : (i : ℕ) (h : List Entry) (m : Move) → slice_get logs i ≡ Some h → At i ≡ Some m → Has All m
  given i h m there e = Has_filter_map At (range_with_len 0 (length logs)) i m (Has_range 0 (length logs) i (omega arith) (let lt = slice_get_within logs i h there in omega (arith, lt))) e

  has_a : (m : Move) → a ≡ Some m → Has All m
  has_a m e =
      let r = got.some m e in
      let lt = below r.0 r.1 r.2 in
      given r.0 r.1 m r.2 (sym (by_other r.0 r.1 r.2 (isnt (is_own (item_or owners r.0 None) q) (sym (others_is r.0 lt) ∙ r.3))) ∙ r.4)
    where
      isnt : (c : Bool) → not c ≡ true → c ≡ false
      isnt false n = refl
      isnt true n = absurd (false≢true n)

  has_b : (m : Move) → b ≡ Some m → Has All m
  has_b m e =
      let r = made.some m e in
      let h = crossed_back logs r.0 r.1 r.2 in
      let lt = below r.0 h.0 h.1 in
      given r.0 h.0 m h.1 (sym (by_own r.0 h.0 h.1 (sym (own_is r.0 lt) ∙ r.3)) ∙ ap (λ (g : List Entry). move_of game q g t) h.2 ∙ r.4)

  each : (x : Move) → Has All x → (Some x ≡ a) ⊎ (Some x ≡ b)
  each x n = at (filter_map_Has At (range_with_len 0 (length logs)) x n)
    where
      some_or : (o : Option Move) (y z : Option Move) → o ≡ Some x → (o ≡ None) ⊎ (o ≡ y) → (Some x ≡ y)
      some_or o y z e (inl none) = absurd (let s : Some x ≡ None = sym e ∙ none in cc)
      some_or o y z e (inr same) = sym e ∙ same

      at : (i : ℕ) × Has (range_with_len 0 (length logs)) i × (At i ≡ Some x) → (Some x ≡ a) ⊎ (Some x ≡ b)
      at (i, m, e) = by (is_own (item_or owners i None) q) refl
        where
          lt : i < length logs
          lt = let r = (range_Has 0 (length logs) i m).1 in omega (arith, r)

          h : (h : List Entry) × (slice_get logs i ≡ Some h)
          h = some_at logs i lt

          by : (c : Bool) → is_own (item_or owners i None) q ≡ c → (Some x ≡ a) ⊎ (Some x ≡ b)
          by true is = inr (some_or (move_of game q (map crossed h.0) t) b a (by_own i h.0 h.1 is ∙ e)
              (made.each i (map crossed h.0) (crossed_there logs i h.0 h.1) (own_is i (below i h.0 h.1) ∙ is)))
          by false isnt = inl (some_or (move_of game q h.0 t) a b (by_other i h.0 h.1 isnt ∙ e) (got.each i h.0 h.1 (others_is i (below i h.0 h.1) ∙ ap not isnt)))

  pub agreed_joined : agreed_move game owners logs q t ≡ joined a b
  unfolding agreed_move
  agreed_joined = given_joined All a b each has_a has_b

-- so it is in all turns
pub plays_are : (game : Game) (owners : List (Option ℕ)) (logs : List (List Entry)) (q : ℕ) (own others : List Bool) (got made : List Move) → length logs ≡ MOST_LOGS → AreOwned game owners logs →
    ((i : ℕ) → i < MOST_LOGS → is_among own i ≡ is_own (item_or owners i None) q) → ((i : ℕ) → i < MOST_LOGS → is_among others i ≡ not (is_own (item_or owners i None) q)) →
    AreCommon game q logs others got → AreCommon game q (crossed_logs logs) own made → ArePlays game owners logs q got made
plays_are game owners logs q own others got made many owned own_is others_is g m t lt =
    agreed_joined game owners logs q t own others (slice_get got t) (slice_get made t) many owned own_is others_is (g t lt) (m t lt)
