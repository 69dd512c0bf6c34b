-- Counted: how many frames show something.
use Rattle.std.proofs.Common.{◌≡◌, ◌⊎◌, ℕ, ◌+◌, ◌*◌, Bool, true, false, List, [], ◌∷◌, length, refl, ap, length-append, arith, inl, inr}
use Rattle.std.specs.Prelude.{not, ◌&&◌, ◌==◌, nat_lt}
use Rattle.std.proofs.lemmas.Bool.{and_parts, eqb-true, not-true, false≢true}
use Rattle.definitions.specs.declared.world.Move.{Move}
use Rattle.definitions.specs.declared.frames.TurnFrame.{TurnFrame}
use Rattle.definitions.specs.declared.frames.TurnFrame.TheVariants.{Commit, Reveal}
use Rattle.definitions.specs.declared.findings.Kind.{Kind}
use Rattle.definitions.specs.declared.findings.Kind.TheVariants.{TwoCommits, BadOpening, Collision, Illegal}
use Rattle.definitions.specs.Lists.{is_empty}
use Rattle.definitions.specs.World.{Game, players_of}
use Rattle.definitions.specs.Findings.{are_two_commits, are_bad_opening, are_collision, is_illegal_after}
use Rattle.definitions.specs.Exhibits.{are_of_kind, are_two_of, is_of_turn, is_opened_by, with_move_of, end_illegal, Shows}
use Rattle.definition_laws.proofs.Listing.{empty_nil}
use Rattle.plain_lemmas.proofs.Tests.{chosen}
use Rattle.evidence.specs.Laws.{frame_count}

two_counted : (q t : ℕ) (test : TurnFrame → TurnFrame → Bool) (fs : List TurnFrame) → are_two_of q t test fs ≡ true → length fs ≡ 2
two_counted q t test [] h = absurd (false≢true h)
two_counted q t test (f ∷ []) h = absurd (false≢true h)
two_counted q t test (f ∷ g ∷ []) h = refl
two_counted q t test (f ∷ g ∷ e ∷ es) h = absurd (false≢true h)

-- what the first two frames of some show, and the frames behind them
pub record IsTurnOf (game : Game) (q last : ℕ) (f g : TurnFrame) (fs : List TurnFrame) (before : List Move) : Type 0 where
  pub first : is_of_turn q (length before) f ≡ true
  pub second : is_of_turn q (length before) g ≡ true
  pub opened : is_opened_by game f g ≡ true
  pub rest :
      ((length before ≡ last) × (is_illegal_after game q before g ≡ true) × (fs ≡ [])) ⊎
      (((length before == last) ≡ false) × (is_illegal_after game q before g ≡ false) × (end_illegal game q last fs (with_move_of before g) ≡ true))

pub turn_of_illegal : (game : Game) (q last : ℕ) (f g : TurnFrame) (fs : List TurnFrame) (before : List Move) → end_illegal game q last (f ∷ g ∷ fs) before ≡ true → IsTurnOf game q last f g fs before
unfolding end_illegal
turn_of_illegal game q last f g fs before h =
    let a = and_parts (is_of_turn q (length before) f && is_of_turn q (length before) g && is_opened_by game f g) _ h in
    let b = and_parts (is_of_turn q (length before) f && is_of_turn q (length before) g) (is_opened_by game f g) a.0 in
    let c = and_parts (is_of_turn q (length before) f) (is_of_turn q (length before) g) b.0 in
    record {
      first = c.0;
      second = c.1;
      opened = b.1;
      rest = elim (chosen (length before == last) _ _ _ a.1) [
        | inl here ↦
            let d = and_parts (is_illegal_after game q before g) (is_empty fs) here.1 in
            inl (eqb-true (length before) last here.0, d.0, empty_nil fs d.1)
        | inr there ↦
            let d = and_parts (not (is_illegal_after game q before g)) (end_illegal game q last fs (with_move_of before g)) there.1 in
            inr (there.0, not-true _ d.0, d.1)
      ];
    }

pub with_move_len : (game : Game) (f g : TurnFrame) (before : List Move) → is_opened_by game f g ≡ true → length (with_move_of before g) ≡ length before + 1
with_move_len game (Commit p t d) (Commit q u e) before h = absurd (false≢true h)
with_move_len game (Commit p t d) (Reveal q u m n) before h = length-append before (m ∷ [])
with_move_len game (Reveal p t m n) g before h = absurd (false≢true h)

illegal_counted : (game : Game) (q last : ℕ) (fs : List TurnFrame) (before : List Move) → end_illegal game q last fs before ≡ true → 2 * length before + length fs ≡ 2 * (last + 1)
unfolding end_illegal
illegal_counted game q last [] before h = absurd (false≢true h)
illegal_counted game q last (f ∷ []) before h = absurd (false≢true h)
illegal_counted game q last (f ∷ g ∷ fs) before h =
    let w = turn_of_illegal game q last f g fs before h in
    elim w.rest [
      | inl here ↦ let a = here.0 in let b = ap length here.2 in omega arith
      | inr there ↦
          let ih = illegal_counted game q last fs (with_move_of before g) there.2 in
          let l = with_move_len game f g before w.opened in
          omega arith
    ]

pub shown_counted : (game : Game) (q t : ℕ) (kind : Kind) (fs : List TurnFrame) → Shows game q t kind fs → length fs ≡ frame_count kind t
unfolding are_of_kind
shown_counted game q t TwoCommits fs h = two_counted q t (are_two_commits game) fs (and_parts (nat_lt q (players_of game) && nat_lt t game.turns) _ h).1
shown_counted game q t BadOpening fs h = two_counted q t (are_bad_opening game) fs (and_parts (nat_lt q (players_of game) && nat_lt t game.turns) _ h).1
shown_counted game q t Collision fs h = two_counted q t (are_collision game) fs (and_parts (nat_lt q (players_of game) && nat_lt t game.turns) _ h).1
shown_counted game q t Illegal fs h =
    let all = illegal_counted game q t fs [] (and_parts (nat_lt q (players_of game) && nat_lt t game.turns) (end_illegal game q t fs []) h).1 in
    omega arith
