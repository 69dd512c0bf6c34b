-- Noted: the accords of all turns, as the moves of one log come.
use Rattle.std.proofs.Common.{List, None, Option, Some, [], ap, append_assoc, arith, inl, inr, length, length-append, refl, set, subst, suc, sym, zero, ℕ, ◌+◌, ◌++◌, ◌<◌, ◌∙◌, ◌∷◌, ◌≡◌, ◌≤◌, ◌⊎◌}
use Rattle.std.specs.Prelude.{filter_map, if◌then◌else◌, slice_get, ◌==◌}
use Rattle.std.specs.List.{range_with_len}
use Rattle.std.specs.Option.{option_map_or}
use Rattle.std.proofs.lemmas.Bool.{cases_eq, cond-false, cond-true, eq-eqb, ne_eqb}
use Rattle.std.proofs.lemmas.Option.{slice_get_past}
use Rattle.definitions.specs.declared.world.Move.{Move}
use Rattle.definition_laws.proofs.Listing.{append_nil, slice_get_last}
use Rattle.agreed_turns.specs.declared.accords.Accord.{Accord}
use Rattle.agreed_turns.specs.Accords.{accord_of, note_at, noted_from, with_move}
use Rattle.agreed_turns.proofs.Accorded.{accord_middle}
use Rattle.agreed_turns.proofs.Given.{has_come}

pub get_set : {X : Type 0} (xs : List X) (i : ℕ) (x y : X) → slice_get xs i ≡ Some x → slice_get (set xs i y) i ≡ Some y
get_set [] i x y h = absurd (let none : None ≡ Some x = h in cc)
get_set (z ∷ zs) zero x y h = refl
get_set (z ∷ zs) (suc i) x y h = get_set zs i x y h

pub get_set_other : {X : Type 0} (xs : List X) (i j : ℕ) (y : X) → (j ≡ i → ⊥) → slice_get (set xs i y) j ≡ slice_get xs j
get_set_other [] i j y ne = refl
get_set_other (z ∷ zs) zero zero y ne = absurd (ne refl)
get_set_other (z ∷ zs) zero (suc j) y ne = refl
get_set_other (z ∷ zs) (suc i) zero y ne = refl
get_set_other (z ∷ zs) (suc i) (suc j) y ne = get_set_other zs i j y (λ e. ne (ap suc e))

push_other : {X : Type 0} (xs : List X) (x : X) (t : ℕ) → (t ≡ length xs → ⊥) → slice_get (xs ++ x ∷ []) t ≡ slice_get xs t
push_other [] x zero ne = absurd (ne refl)
push_other [] x (suc t) ne = refl
push_other (y ∷ ys) x zero ne = refl
push_other (y ∷ ys) x (suc t) ne = push_other ys x t (λ e. ne (ap suc e))

-- the accord of a turn with the move, where there is an accord
pub note_is : (all : List Accord) (t : ℕ) (m : Move) (a : Accord) → slice_get all t ≡ Some a → note_at all t m ≡ set all t (with_move a m)
note_is all t m a e = ap (λ (o : Option Accord). option_map_or (λ x. set all t (with_move x m)) o all) e

-- by the moves that the others give, and by what the log of this number gives
abbrev pub mixed : (ℕ → Option Move) → ℕ → Option Move → ℕ → Option Move
mixed others i o j = if j == i then o else others j

-- the accords are those of so many logs, by the moves of each turn that the others give, and by these moves of the log of this number
abbrev pub AreNoted : (ℕ → ℕ → Option Move) → ℕ → ℕ → ℕ → List Move → List Accord → Type 0
AreNoted others i n turns row all =
    (t : ℕ) → t < turns → slice_get all t ≡ Some (accord_of (filter_map (mixed (others t) i (slice_get row t)) (range_with_len 0 n)))

module _ (others : ℕ → ℕ → Option Move) (i n turns : ℕ) (lt : i < n) where
  -- the accord of a turn of which the log comes to give a move
  one_given : (t : ℕ) (m : Move) (o p : Option Move) → o ≡ None → p ≡ Some m →
      with_move (accord_of (filter_map (mixed (others t) i o) (range_with_len 0 n))) m ≡ accord_of (filter_map (mixed (others t) i p) (range_with_len 0 n))
  one_given t m o p none some =
      let come = has_come (mixed (others t) i o) (mixed (others t) i p) i m
      (cond-true (i == i) o (others t i) (eq-eqb i i refl) ∙ none) (cond-true (i == i) p (others t i) (eq-eqb i i refl) ∙ some)
      (λ j ne. cond-false (j == i) o (others t j) (ne_eqb j i ne) ∙ sym (cond-false (j == i) p (others t j) (ne_eqb j i ne))) 0 n (omega arith) (omega arith) in
      ap (λ (ms : List Move). with_move (accord_of ms) m) come.before ∙ sym (accord_middle come.front come.back m) ∙ sym (ap accord_of come.after)

  note_one : (row : List Move) (all : List Accord) (m : Move) → length row < turns → AreNoted others i n turns row all →
      AreNoted others i n turns (row ++ m ∷ []) (note_at all (length row) m)
  note_one row all m short noted t within =
      ap (λ (xs : List Accord). slice_get xs t) (note_is all (length row) m _ (noted (length row) short)) ∙ go (cases_eq t (length row))
    where
      go : (t ≡ length row) ⊎ (t ≡ length row → ⊥) →
          slice_get (set all (length row) (with_move (accord_of (filter_map (mixed (others (length row)) i (slice_get row (length row))) (range_with_len 0 n))) m)) t
          ≡ Some (accord_of (filter_map (mixed (others t) i (slice_get (row ++ m ∷ []) t)) (range_with_len 0 n)))
      go (inl e) =
          ap (slice_get (set all (length row) (with_move (accord_of (filter_map (mixed (others (length row)) i (slice_get row (length row))) (range_with_len 0 n))) m))) e
          ∙ get_set all (length row) _ _ (noted (length row) short)
          ∙ ap (λ (a : Accord). Some a) (one_given (length row) m (slice_get row (length row)) (slice_get (row ++ m ∷ []) (length row)) (slice_get_past row (length row) (omega arith)) (slice_get_last row m))
          ∙ ap (λ (k : ℕ). Some (accord_of (filter_map (mixed (others k) i (slice_get (row ++ m ∷ []) k)) (range_with_len 0 n)))) (sym e)
      go (inr ne) = get_set_other all (length row) t _ ne ∙ noted t within
          ∙ ap (λ (o : Option Move). Some (accord_of (filter_map (mixed (others t) i o) (range_with_len 0 n)))) (sym (push_other row m t ne))

  pub note_all : (ms row : List Move) (all : List Accord) → length row + length ms ≤ turns → AreNoted others i n turns row all →
      AreNoted others i n turns (row ++ ms) (noted_from all (length row) ms)
  note_all [] row all short noted = subst (λ (r : List Move). AreNoted others i n turns r all) (sym (append_nil row)) noted
  note_all (m ∷ ms) row all short noted =
      let more = length-append row (m ∷ []) in
      let ih = note_all ms (row ++ m ∷ []) (note_at all (length row) m) (omega arith) (note_one row all m (omega arith) noted) in
      subst (λ (k : ℕ). AreNoted others i n turns (row ++ m ∷ ms) (noted_from (note_at all (length row) m) k ms)) more
      (subst (λ (r : List Move). AreNoted others i n turns r (noted_from (note_at all (length row) m) (length (row ++ m ∷ [])) ms)) (append_assoc row (m ∷ []) ms) ih)
