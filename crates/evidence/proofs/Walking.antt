-- Walking: what holds in front of each turn's two frames of an exhibit of an illegal move.
use Rattle.std.proofs.Common.{◌≡◌, ℕ, suc, ◌+◌, ◌-◌, ◌≤◌, ◌<◌, take, drop, get_or, Bool, true, false, List, [], ◌∷◌, ◌++◌, length, Option, Some, None, Result, Ok, Err, refl, sym, ap, subst, ◌∙◌, length-append, arith}
use Rattle.std.specs.Prelude.{not, ◌&&◌, ◌==◌, if◌then◌else◌, is_none}
use Rattle.std.specs.Result.{is_err}
use Rattle.std.proofs.Math.Seq.{take-length}
use Rattle.std.proofs.lemmas.Bool.{and_from, eq-eqb, ne_eqb, false≢true}
use Rattle.definitions.specs.declared.world.Move.{Move}
use Rattle.definitions.specs.declared.world.MoveFault.{MoveFault}
use Rattle.definitions.specs.declared.world.Track.{Track}
use Rattle.definitions.specs.declared.frames.TurnFrame.{TurnFrame}
use Rattle.definitions.specs.declared.frames.TurnFrame.TheVariants.{Commit, Reveal}
use Rattle.definitions.specs.Lists.{is_empty}
use Rattle.definitions.specs.World.{Game, is_open}
use Rattle.definitions.specs.Logs.{move_shown}
use Rattle.definitions.specs.Moves.{is_legal, move_fault, next_track, start_track, track_after}
use Rattle.definitions.specs.Findings.{is_illegal_after}
use Rattle.definitions.specs.Exhibits.{is_of_turn, is_opened_by, with_move_of, end_illegal}
use Rattle.move_rules.specs.Verdicts.{judged, verdict}
use Rattle.definition_laws.proofs.Tracks.{track_from_append, moves_open}
use Rattle.evidence.specs.Judging.{move_opened}

-- the first frame commits to a move of the turn, and the second one opens that
abbrev pub opens_turn : Game → ℕ → ℕ → TurnFrame → TurnFrame → Bool
opens_turn game q t f g = is_of_turn q t f && is_of_turn q t g && is_opened_by game f g

no_choice : {A : Type 0} (b : Bool) (x : A) → (if b then Some x else None) ≡ None → b ≡ false
no_choice true x h = absurd cc
no_choice false x h = refl

none_opens : (game : Game) (q t : ℕ) (f g : TurnFrame) → move_opened game q t f g ≡ None → opens_turn game q t f g ≡ false
none_opens game q t (Commit p u d) (Commit r v e) h = grind arith
none_opens game q t (Commit p u d) (Reveal r v m n) h = no_choice _ m h
none_opens game q t (Reveal p u m n) g h = grind arith

-- what the turn's frames show where they show this move
pub record IsOpened (game : Game) (q t : ℕ) (f g : TurnFrame) (m : Move) : Type 0 where
  pub opens : opens_turn game q t f g ≡ true
  pub illegal : (before : List Move) → is_illegal_after game q before g ≡ not (is_legal game q (track_after game q before) m)
  pub after : (before : List Move) → with_move_of before g ≡ before ++ m ∷ []

a_choice : (b : Bool) (m k : Move) → (if b then Some m else None) ≡ Some k → (b ≡ true) × (m ≡ k)
a_choice true m k h = (refl, cc)
a_choice false m k h = absurd cc

some_opens : (game : Game) (q t : ℕ) (f g : TurnFrame) (m : Move) → move_opened game q t f g ≡ Some m → IsOpened game q t f g m
some_opens game q t (Commit p u d) (Commit r v e) m h = absurd (false≢true (none_choice (opens_turn game q t (Commit p u d) (Commit r v e)) h))
  where
    none_choice : (b : Bool) → (if b then None else None) ≡ Some m → false ≡ true
    none_choice true e = absurd cc
    none_choice false e = absurd cc
some_opens game q t (Commit p u d) (Reveal r v k n) m h =
    let c = a_choice _ k m h in
    record { opens = c.0; illegal = λ before. ap (λ (x : Move). not (is_legal game q (track_after game q before) x)) c.1; after = λ before. ap (λ (x : Move). before ++ x ∷ []) c.1 }
some_opens game q t (Reveal p u k n) g m h = absurd (false≢true (none_opened (is_of_turn q t (Reveal p u k n)) (is_of_turn q t g) (move_shown g) h))
  where
    none_opened : (a b : Bool) (o : Option Move) → (if a && b && false then o else None) ≡ Some m → false ≡ true
    none_opened true true o e = absurd cc
    none_opened true false o e = absurd cc
    none_opened false b o e = absurd cc

-- what is still to be walked gives the answer
pub record AtTurn (game : Game) (q last : ℕ) (fs : List TurnFrame) (total : Bool) (turn : ℕ) (track : Track) : Type 0 where
  pub before : List Move
  pub count : length before ≡ turn
  pub track_is : track ≡ track_after game q before
  pub stands : is_open game.grid track.at ≡ true
  pub within : turn ≤ last
  pub rest : end_illegal game q last fs before ≡ total

pub walk_begins : (game : Game) (q last : ℕ) (fs : List TurnFrame) → is_open game.grid (start_track game q).at ≡ true → AtTurn game q last fs (end_illegal game q last fs []) 0 (start_track game q)
walk_begins game q last fs start = record { before = []; count = refl; track_is = refl; stands = start; within = omega arith; rest = refl }

-- frames of which the first two don't open the turn
not_opened : (game : Game) (q last : ℕ) (f g : TurnFrame) (fs : List TurnFrame) (before : List Move) → opens_turn game q (length before) f g ≡ false → end_illegal game q last (f ∷ g ∷ fs) before ≡ false
unfolding end_illegal
not_opened game q last f g fs before h = grind arith

-- frames of which the first two open the turn to a move
after_opened : (game : Game) (q last : ℕ) (f g : TurnFrame) (fs : List TurnFrame) (before : List Move) (m : Move) → IsOpened game q (length before) f g m →
    end_illegal game q last (f ∷ g ∷ fs) before ≡
    (if length before == last then not (is_legal game q (track_after game q before) m) && is_empty fs
    else is_legal game q (track_after game q before) m && end_illegal game q last fs (before ++ m ∷ []))
unfolding end_illegal
after_opened game q last f g fs before m o =
    let a = o.opens in
    let b = o.illegal before in
    let c = o.after before in
    grind arith

pub walk_stops : (game : Game) (q last : ℕ) (f g : TurnFrame) (fs : List TurnFrame) (total : Bool) (turn : ℕ) (track : Track) →
    AtTurn game q last (f ∷ g ∷ fs) total turn track → None ≡ move_opened game q turn f g → false ≡ total
walk_stops game q last f g fs total turn track at none =
    sym (not_opened game q last f g fs at.before (none_opens game q (length at.before) f g (ap (λ (t : ℕ). move_opened game q t f g) at.count ∙ sym none))) ∙ at.rest

-- the frames of the last turn
pub walk_ends : (game : Game) (q last : ℕ) (f g : TurnFrame) (fs : List TurnFrame) (total : Bool) (turn : ℕ) (track : Track) (m : Move) →
    AtTurn game q last (f ∷ g ∷ fs) total turn track → Some m ≡ move_opened game q turn f g → turn ≡ last → not (is_legal game q track m) && is_empty fs ≡ total
walk_ends game q last f g fs total turn track m at some is =
    let opened = some_opens game q (length at.before) f g m (ap (λ (t : ℕ). move_opened game q t f g) at.count ∙ sym some) in
    let whole = sym (after_opened game q last f g fs at.before m opened) ∙ at.rest in
    let here : (length at.before == last) ≡ true = eq-eqb (length at.before) last (at.count ∙ is) in
    ap (λ (x : Track). not (is_legal game q x m) && is_empty fs) at.track_is ∙ rw here at whole

-- a move of an earlier turn that isn't legal
pub walk_breaks : (game : Game) (q last : ℕ) (f g : TurnFrame) (fs : List TurnFrame) (total : Bool) (turn : ℕ) (track : Track) (m : Move) →
    AtTurn game q last (f ∷ g ∷ fs) total turn track → Some m ≡ move_opened game q turn f g → (turn ≡ last → ⊥) → is_legal game q track m ≡ false → false ≡ total
walk_breaks game q last f g fs total turn track m at some other broken =
    let opened = some_opens game q (length at.before) f g m (ap (λ (t : ℕ). move_opened game q t f g) at.count ∙ sym some) in
    let whole = sym (after_opened game q last f g fs at.before m opened) ∙ at.rest in
    let there : (length at.before == last) ≡ false = ne_eqb (length at.before) last (λ e. other (sym at.count ∙ e)) in
    let not_legal : is_legal game q (track_after game q at.before) m ≡ false = ap (λ (x : Track). is_legal game q x m) (sym at.track_is) ∙ broken in
    rw (there, not_legal) at whole

-- a move of an earlier turn that is legal
pub walk_on : (game : Game) (q last : ℕ) (f g : TurnFrame) (fs : List TurnFrame) (total : Bool) (turn : ℕ) (track : Track) (m : Move) →
    AtTurn game q last (f ∷ g ∷ fs) total turn track → Some m ≡ move_opened game q turn f g → (turn ≡ last → ⊥) → is_legal game q track m ≡ true →
    AtTurn game q last fs total (turn + 1) (next_track game track m)
walk_on game q last f g fs total turn track m at some other legal =
    let opened = some_opens game q (length at.before) f g m (ap (λ (t : ℕ). move_opened game q t f g) at.count ∙ sym some) in
    let whole = sym (after_opened game q last f g fs at.before m opened) ∙ at.rest in
    let there : (length at.before == last) ≡ false = ne_eqb (length at.before) last (λ e. other (sym at.count ∙ e)) in
    let is_so : is_legal game q (track_after game q at.before) m ≡ true = ap (λ (x : Track). is_legal game q x m) (sym at.track_is) ∙ legal in
    let w = at.within in
    let c = at.count in
    record {
      before = at.before ++ m ∷ [];
      count = let l = length-append at.before (m ∷ []) in omega arith;
      track_is = ap (λ (x : Track). next_track game x m) at.track_is ∙ sym (track_from_append game (start_track game q) at.before (m ∷ []));
      stands = moves_open game q track (m ∷ []) at.stands (and_from _ _ legal refl);
      within = omega arith;
      rest = rw (there, is_so) at whole;
    }

-- ---- what a walker answers

pub legal_ok : (game : Game) (q : ℕ) (track next : Track) (m : Move) → Ok next ≡ verdict game q track m → (is_legal game q track m ≡ true) × (next ≡ next_track game track m)
unfolding is_legal
legal_ok game q track next m h = go (move_fault game q track m) h
  where
    go : (o : Option MoveFault) → Ok next ≡ judged game track m o → (is_none o ≡ true) × (next ≡ next_track game track m)
    go None e = (refl, cc)
    go (Some fault) e = absurd cc

pub legal_err : (game : Game) (q : ℕ) (track : Track) (m : Move) (fault : MoveFault) → Err fault ≡ verdict game q track m → is_legal game q track m ≡ false
unfolding is_legal
legal_err game q track m fault h = go (move_fault game q track m) h
  where
    go : (o : Option MoveFault) → Err fault ≡ judged game track m o → is_none o ≡ false
    go None e = absurd cc
    go (Some other) e = refl

-- ---- the frames as a loop takes them

-- the first two of some frames, and those behind them
pub two_first : {A : Type 0} (xs : List A) (d : A) → 2 ≤ length xs → xs ≡ get_or xs 0 d ∷ get_or xs 1 d ∷ take (length xs - 2) (drop 2 xs)
two_first [] d some = absurd (omega arith)
two_first (x ∷ []) d some = absurd (omega arith)
two_first {A = A} (x ∷ y ∷ xs) d some =
    let few : suc (suc (length xs)) - 2 ≡ length xs = omega arith in
    ap (λ (ys : List A). x ∷ y ∷ ys) (sym (ap (λ (n : ℕ). take n xs) few ∙ take-length xs))

pub none_two : (game : Game) (q last : ℕ) (fs : List TurnFrame) (before : List Move) → length fs < 2 → end_illegal game q last fs before ≡ false
unfolding end_illegal
none_two game q last [] before few = refl
none_two game q last (f ∷ []) before few = refl
none_two game q last (f ∷ g ∷ fs) before few = absurd (omega arith)

pub is_empty_len : {A : Type 0} (xs : List A) → is_empty xs ≡ (length xs == 0)
is_empty_len [] = refl
is_empty_len (x ∷ xs) = sym (ne_eqb (length (x ∷ xs)) 0 (λ e. absurd (omega arith)))

pub at_two : (game : Game) (q last : ℕ) (fs : List TurnFrame) (d : TurnFrame) (total : Bool) (turn : ℕ) (track : Track) → 2 ≤ length fs →
    AtTurn game q last fs total turn track → AtTurn game q last (get_or fs 0 d ∷ get_or fs 1 d ∷ take (length fs - 2) (drop 2 fs)) total turn track
at_two game q last fs d total turn track some at = subst (λ (xs : List TurnFrame). AtTurn game q last xs total turn track) (two_first fs d some) at

-- an answer that is an error or none, and what the walker says of the move
pub is_err_legal : (game : Game) (q : ℕ) (track : Track) (m : Move) (r : Result Track MoveFault) → r ≡ verdict game q track m → is_err r ≡ not (is_legal game q track m)
unfolding is_legal
is_err_legal game q track m r h = ap is_err h ∙ go (move_fault game q track m)
  where
    go : (o : Option MoveFault) → is_err (judged game track m o) ≡ not (is_none o)
    go None = refl
    go (Some fault) = refl
