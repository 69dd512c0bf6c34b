-- Choices: what the tables say of the next frame and the next choice is what the log says.
use Rattle.std.proofs.Common.{◌≡◌, ℕ, zero, suc, List, [], ◌∷◌, refl, Bool, true, false, sym, ◌∙◌, ap, arith, length}
use Rattle.std.specs.Prelude.{Option, Some, None, Result, Ok, Err, nat_le, if◌then◌else◌, ◌==◌, ◌&&◌, slice_get, is_none, not}
use Rattle.std.proofs.lemmas.Bool.{and_parts, ne_eqb}
use Rattle.std.proofs.lemmas.Bool.Decides.{nat_tests}
use Rattle.definitions.specs.declared.openings.Opening.{Opening}
use Rattle.definitions.specs.declared.frames.TurnFrame.{TurnFrame}
use Rattle.definitions.specs.declared.frames.What.{What}
use Rattle.definitions.specs.declared.frames.What.TheVariants.{Commit, Reveal}
use Rattle.definitions.specs.declared.logs.Entry.{Entry}
use Rattle.definitions.specs.declared.logs.Entry.TheVariants.{Made}
use Rattle.definitions.specs.declared.world.Move.{Move}
use Rattle.definitions.specs.declared.world.Track.{Track}
use Rattle.definitions.specs.declared.world.MoveFault.{MoveFault}
use Rattle.definitions.specs.declared.findings.Finding.{Finding}
use Rattle.definitions.specs.declared.answers.Progress.{Progress}
use Rattle.definitions.specs.declared.answers.OwnFault.TheVariants.{NotNow, Illegal}
use Rattle.definitions.specs.Lists.{is_empty}
use Rattle.definitions.specs.Moves.{move_fault, next_track}
use Rattle.move_rules.specs.Verdicts.{judged, verdict}
use Rattle.definitions.specs.World.{Game}
use Rattle.definitions.specs.declared.places.Slot.{Slot}
use Rattle.definitions.specs.Places.{slot_at}
use Rattle.definitions.specs.Logs.{chosen}
use Rattle.definitions.specs.Findings.{is_clean, findings}
use Rattle.definitions.specs.Honest.{IsHonest, made_count, chosen_for, allowed, chosen_track}
use Rattle.definitions.specs.Needs.{needs, may_choose, is_unchosen, is_unchosen_frame, choice_fault, own_fault}
use Rattle.definitions.specs.Advance.{next_made, frame_at, frame_of, frame_chosen, if_allowed, advances_by, progress_of, standing, progress}
use Rattle.definition_laws.proofs.ForPeers.{chosen_for_item}
use Rattle.definition_laws.proofs.Waits.{next_commit_allowed, next_reveal_allowed}
use Rattle.definition_laws.proofs.Advances.{next_made_allowed}
use Rattle.definition_laws.specs.First.{finding_of_log}
use Rattle.grid_world.specs.Sessions.{IsSession}
use Rattle.peer_core.specs.Choosing.{next_of, frame_in, chooses, is_unchosen_of, is_unchosen_slot}
use Rattle.peer_core.specs.Answers.{progress_by}
use Rattle.grid_world.proofs.Reveals.{ahead_least}
use Rattle.grid_world.proofs.Reveals.{ahead_least}

none_made : Option TurnFrame
none_made = None

-- where the turn of a place isn't chosen nothing is made for it
frame_or_none : (game : Game) (me : ℕ) (h : List Entry) (w : What) (b : Bool) (o : Option Opening) →
    ((p : Opening) → o ≡ Some p → allowed game me h (Made (frame_of game w p)) ≡ b) →
    (if b then frame_chosen game w o else None) ≡ if_allowed game me h (frame_chosen game w o)
frame_or_none game me h w true None f = refl
frame_or_none game me h w false None f = refl
frame_or_none game me h w true (Some p) f = rw (f p refl) refl
frame_or_none game me h w false (Some p) f = rw (f p refl) refl

-- the next frame by the tables is the next one of the log
pub next_is : (game : Game) (me n : ℕ) (h : List Entry) (os : List Opening) → IsSession game → IsHonest game me h → is_clean game h ≡ true → os ≡ chosen me h → n ≡ made_count h →
    next_of game (is_empty (needs game me h)) os n ≡ next_made game me h
unfolding next_made none_made
next_is game me n h os is i clean o e =
    let by_tables : List Opening → Option TurnFrame = λ xs. next_of game (is_empty (needs game me h)) xs n in
    let by_place : ℕ → Option TurnFrame = λ k. next_of game (is_empty (needs game me h)) (chosen me h) k in
    ap by_tables o ∙ ap by_place e ∙ by_slot (slot_at game (made_count h)) refl
  where
    if_free : (b : Bool) → (if b then None else None) ≡ none_made
    if_free true = refl
    if_free false = refl

    by_allowed : (w : What) (t : ℕ) → slot_at game (made_count h) ≡ Some (record { what = w; turn = t }) → (p : Opening) → chosen_for me h t ≡ Some p → allowed game me h (Made (frame_of game w p)) ≡ is_empty (needs game me h)
    by_allowed Commit t slot p q = next_commit_allowed game me t h p (ahead_least game is) i clean slot q
    by_allowed Reveal t slot p q = next_reveal_allowed game me t h p (ahead_least game is) i clean slot q

    by_what : (w : What) (t : ℕ) → slot_at game (made_count h) ≡ Some (record { what = w; turn = t }) →
        (if is_empty (needs game me h) then frame_chosen game w (slice_get (chosen me h) t) else None) ≡ if_allowed game me h (frame_chosen game w (chosen_for me h t))
    by_what w t slot =
        let P : Option Opening → Option TurnFrame = λ p. if is_empty (needs game me h) then frame_chosen game w p else None in
        ap P (sym (chosen_for_item game me t h (ahead_least game is) i)) ∙ frame_or_none game me h w (is_empty (needs game me h)) (chosen_for me h t) (by_allowed w t slot)

    by_slot : (o : Option Slot) → slot_at game (made_count h) ≡ o → (if is_empty (needs game me h) then frame_in game (chosen me h) o else None) ≡ if_allowed game me h (frame_at game me h o)
    by_slot None slot = if_free (is_empty (needs game me h))
    by_slot (Some s) slot = by_what s.what s.turn slot

-- after a finding nothing is made
caught_next : (game : Game) (me : ℕ) (h : List Entry) → is_clean game h ≡ false → None ≡ next_made game me h
unfolding next_made
caught_next game me h dirty = by_frame (frame_at game me h (slot_at game (made_count h)))
  where
    by_frame : (o : Option TurnFrame) → None ≡ if_allowed game me h o
    by_frame None = refl
    by_frame (Some f) = rw dirty refl

pub next_free : (game : Game) (me n : ℕ) (h : List Entry) (os : List Opening) (clean none : Bool) → IsSession game → IsHonest game me h → clean ≡ is_clean game h → none ≡ is_empty (needs game me h) →
    os ≡ chosen me h → n ≡ made_count h → next_of game (clean && none) os n ≡ next_made game me h
next_free game me n h os true none is i c e o f = ap (λ b. next_of game b os n) e ∙ next_is game me n h os is i (sym c) o f
next_free game me n h os false none is i c e o f = caught_next game me h (sym c)

-- a length of 0 is that of the empty list
pub empty_is : {X : Type 0} (b : Bool) (xs : List X) → b ≡ (length xs == 0) → b ≡ is_empty xs
empty_is b [] e = e
empty_is b (x ∷ xs) e = e ∙ ne_eqb (length (x ∷ xs)) 0 (omega arith)

none_past : {X : Type 0} (xs : List X) (k : ℕ) → nat_le (length xs) k ≡ is_none (slice_get xs k)
none_past [] k = grind (arith, nat_tests)
none_past (x ∷ xs) zero = grind (arith, nat_tests)
none_past (x ∷ xs) (suc k) = let ih = none_past xs k in grind (arith, nat_tests)

-- the slot is that of an unchosen turn by the tables where it is by the log
unchosen_is : (game : Game) (me : ℕ) (h : List Entry) (o : Option Slot) → IsSession game → IsHonest game me h → is_unchosen_slot (length (chosen me h)) o ≡ is_unchosen me h o
unchosen_is game me h None is i = refl
unchosen_is game me h (Some s) is i = by_what s.what s.turn
  where
    by_what : (w : What) (t : ℕ) → is_unchosen_of w t (length (chosen me h)) ≡ is_unchosen_frame me h w t
    by_what Commit t = none_past (chosen me h) t ∙ ap (λ (p : Option Opening). is_none p) (sym (chosen_for_item game me t h (ahead_least game is) i))
    by_what Reveal t = refl

all_three : (u clean none : Bool) → clean ≡ true → (none && u) ≡ (clean && u && none)
all_three u clean none e = rw e (grind arith)

-- whether a move may be chosen by the tables is whether it may be by the log
pub chooses_is : (game : Game) (me n k : ℕ) (h : List Entry) → IsSession game → IsHonest game me h → is_clean game h ≡ true → n ≡ made_count h → k ≡ length (chosen me h) →
    chooses game (is_empty (needs game me h)) n k ≡ may_choose game me h
unfolding may_choose
chooses_is game me n k h is i clean e f =
    let free : Bool = is_empty (needs game me h) in
    let by_place : ℕ → Bool = λ m. free && is_unchosen_slot k (slot_at game m) in
    let by_count : ℕ → Bool = λ m. free && is_unchosen_slot m (slot_at game (made_count h)) in
    let by_test : Bool → Bool = λ b. free && b in
    ap by_place e ∙ ap by_count f ∙ ap by_test (unchosen_is game me h (slot_at game (made_count h)) is i) ∙ all_three (is_unchosen me h (slot_at game (made_count h))) (is_clean game h) free clean

caught_choice : (game : Game) (me : ℕ) (h : List Entry) → is_clean game h ≡ false → false ≡ may_choose game me h
unfolding may_choose
caught_choice game me h dirty = rw dirty refl

pub chooses_free : (game : Game) (me n k : ℕ) (h : List Entry) (clean none : Bool) → IsSession game → IsHonest game me h → clean ≡ is_clean game h → none ≡ is_empty (needs game me h) →
    n ≡ made_count h → k ≡ length (chosen me h) → chooses game (clean && none) n k ≡ may_choose game me h
chooses_free game me n k h true none is i c e f g = ap (λ b. chooses game b n k) e ∙ chooses_is game me n k h is i (sym c) f g
chooses_free game me n k h false none is i c e f g = caught_choice game me h (sym c)

-- where a frame is next the log has no finding
pub next_clean : (game : Game) (me : ℕ) (h : List Entry) (f : TurnFrame) → next_made game me h ≡ Some f → is_clean game h ≡ true
next_clean game me h f e = (and_parts (is_clean game h) _ (next_made_allowed game me h f e)).0

-- how far the peer comes, by the tables
pub progress_is : (game : Game) (me : ℕ) (h : List Entry) (found : Option Finding) (n : ℕ) (chooses_now none : Bool) → found ≡ finding_of_log game h → n ≡ advances_by game me h →
    chooses_now ≡ may_choose game me h → none ≡ is_empty (needs game me h) → progress_by found n (standing chooses_now none) ≡ progress game me h
unfolding progress
progress_is game me h found n chooses_now none first e f g =
    let stands : Progress → Progress = λ s. progress_by (finding_of_log game h) (advances_by game me h) s in
    ap (λ (o : Option Finding). progress_by o n (standing chooses_now none)) first ∙ ap (λ (k : ℕ). progress_by (finding_of_log game h) k (standing chooses_now none)) e ∙
    ap (λ (b : Bool). stands (standing b none)) f ∙ ap (λ (b : Bool). stands (standing (may_choose game me h) b)) g ∙ by_findings (findings game (h ∷ [])) (standing (may_choose game me h) (is_empty (needs game me h)))
  where
    by_findings : (fs : List Finding) (s : Progress) → progress_by (slice_get fs 0) (advances_by game me h) s ≡ progress_of fs (advances_by game me h) s
    by_findings [] s = refl
    by_findings (x ∷ fs) s = refl

-- why a choice is refused
pub refused_now : (game : Game) (me : ℕ) (h : List Entry) (m : Move) (b : Bool) → b ≡ may_choose game me h → b ≡ false → Some NotNow ≡ choice_fault game me h m
unfolding choice_fault
refused_now game me h m b e n =
    let test : not (may_choose game me h) ≡ true = ap not (sym e ∙ n) in
    rw test refl

abbrev went : Track → Result Track MoveFault
went t = Ok t

abbrev failed : MoveFault → Result Track MoveFault
failed f = Err f

judged_none : (game : Game) (t : Track) (m : Move) (o : Option MoveFault) (u : Track) → Ok u ≡ judged game t m o → (o ≡ None) × (u ≡ next_track game t m)
judged_none game t m None u e = (refl, ok_same u (next_track game t m) e)
  where
    ok_same : (x y : Track) → went x ≡ went y → x ≡ y
    ok_same x y e = cc
judged_none game t m (Some f) u e = cc

judged_some : (game : Game) (t : Track) (m : Move) (o : Option MoveFault) (f : MoveFault) → Err f ≡ judged game t m o → o ≡ Some f
judged_some game t m None f e = cc
judged_some game t m (Some g) f e = err_same f g e
  where
    err_same : (x y : MoveFault) → failed x ≡ failed y → Some y ≡ Some x
    err_same x y e = cc

pub refused_illegal : (game : Game) (me : ℕ) (h : List Entry) (m : Move) (b : Bool) (t : Track) (f : MoveFault) → b ≡ may_choose game me h → b ≡ true → t ≡ chosen_track game me h →
    Err f ≡ verdict game me t m → Some (Illegal f) ≡ choice_fault game me h m
unfolding choice_fault
refused_illegal game me h m b t f e n at v =
    let test : not (may_choose game me h) ≡ false = ap not (sym e ∙ n) in
    let found : move_fault game me t m ≡ Some f = judged_some game t m (move_fault game me t m) f v in
    let Fault : Track → Option MoveFault = λ k. move_fault game me k m in
    rw test (ap own_fault (sym found ∙ ap Fault at))

pub not_refused : (game : Game) (me : ℕ) (h : List Entry) (m : Move) (b : Bool) (t u : Track) → b ≡ may_choose game me h → b ≡ true → t ≡ chosen_track game me h →
    Ok u ≡ verdict game me t m → None ≡ choice_fault game me h m
unfolding choice_fault
not_refused game me h m b t u e n at v =
    let test : not (may_choose game me h) ≡ false = ap not (sym e ∙ n) in
    let found = (judged_none game t m (move_fault game me t m) u v).0 in
    let Fault : Track → Option MoveFault = λ k. move_fault game me k m in
    rw test (ap own_fault (sym found ∙ ap Fault at))
