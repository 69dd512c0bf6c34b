-- Runs: an entry that comes next takes the protocol's own run one step on.
use Rattle.std.proofs.Common.{◌≡◌, ℕ, ◌≤◌, Bool, true, refl, sym, ap, ◌∙◌, List, [], ◌∷◌, ◌++◌, length}
use Rattle.std.specs.Prelude.{Option, Some, None, ◌&&◌, is_none, if◌then◌else◌}
use Rattle.std.proofs.lemmas.Bool.{and_from, and_parts, eqb-true, false≢true}
use Rattle.plain_lemmas.proofs.Options.{none_of}
use Rattle.definitions.specs.declared.world.Move.{Move}
use Rattle.definitions.specs.declared.openings.Nonce.{Nonce}
use Rattle.definitions.specs.declared.frames.TurnFrame.{TurnFrame}
use Rattle.definitions.specs.declared.logs.Entry.{Entry}
use Rattle.definitions.specs.declared.logs.Entry.TheVariants.{Chose, Made, Got}
use Rattle.definitions.specs.World.{Game}
use Rattle.definitions.specs.Logs.{chosen}
use Rattle.definitions.specs.Findings.{is_clean}
use Rattle.definitions.specs.Answers.{is_new, is_of_another}
use Rattle.definitions.specs.Honest.{IsHonest, allowed, allows, allows_choice}
use Rattle.definitions.specs.Needs.{may_choose}
use Rattle.definitions.specs.Advance.{advance, next_made}
use Rattle.definitions.specs.Steps.{LogStep, Chooses, Comes, after_choice, after_got, is_taken_in, log_after, log_run}
use Rattle.definition_laws.proofs.Alike.{frame_eq_true}
use Rattle.definition_laws.proofs.ForPeers.{advance_step, advance_still}
use Rattle.definition_laws.proofs.Waits.{may_choose_allowed}
use Rattle.peer_rules.specs.Steps.{steps_told}
use Rattle.peer_rules.specs.Order.{is_frame, comes_next}
use Rattle.post_rules.specs.Runs.{IsLogRun}

told_more : (es fs : List Entry) → steps_told (es ++ fs) ≡ steps_told es ++ steps_told fs
told_more [] fs = refl
told_more (Chose t m n ∷ es) fs = ap (λ (x : List LogStep). Chooses m n ∷ x) (told_more es fs)
told_more (Made f ∷ es) fs = told_more es fs
told_more (Got q f ∷ es) fs = ap (λ (x : List LogStep). Comes q f ∷ x) (told_more es fs)

run_then : (game : Game) (me : ℕ) (h : List Entry) (ss more : List LogStep) → log_run game me h (ss ++ more) ≡ log_run game me (log_run game me h ss) more
run_then game me h [] more = refl
run_then game me h (s ∷ ss) more = run_then game me (log_after game me h s) ss more

frame_is : (o : Option TurnFrame) (f : TurnFrame) → is_frame o f ≡ true → o ≡ Some f
frame_is None f e = absurd (false≢true e)
frame_is (Some g) f e = ap (λ (x : TurnFrame). Some x) (frame_eq_true g f e)

-- a choice that may come next is a step that changes the log
choice_taken : (game : Game) (me t : ℕ) (h : List Entry) (m : Move) (n : Nonce) → 1 ≤ game.ahead → IsHonest game me h → allowed game me h (Chose t m n) ≡ true →
    advance game me (h ++ Chose t m n ∷ []) ≡ after_choice game me h m n
unfolding allows allows_choice
choice_taken game me t h m n d i e =
    let a = and_parts _ _ e in
    let b = and_parts _ _ a.1 in
    let c = and_parts _ _ b.0 in
    let f = and_parts _ _ c.0 in
    let g = and_parts _ _ f.0 in
    let turn : length (chosen me h) ≡ t = eqb-true _ _ g.0 in
    let same : allowed game me h (Chose (length (chosen me h)) m n) ≡ true = ap (λ (k : ℕ). allowed game me h (Chose k m n)) turn ∙ e in
    let may : may_choose game me h ≡ true = sym (may_choose_allowed game me h m n d i c.1) ∙ same in
    ap (λ (k : ℕ). advance game me (h ++ Chose k m n ∷ [])) (sym turn)
    ∙ sym (ap (λ (q : Bool). if q then advance game me (h ++ Chose (length (chosen me h)) m n ∷ []) else h) (and_from _ _ may c.1))

-- and so is a frame
frame_taken : (game : Game) (me q : ℕ) (h : List Entry) (f : TurnFrame) → allowed game me h (Got q f) ≡ true → advance game me (h ++ Got q f ∷ []) ≡ after_got game me h q f
unfolding allows
frame_taken game me q h f e =
    let a = and_parts (is_clean game h) (is_of_another game me q f && is_new game me h q f) e in
    let b = and_parts (is_of_another game me q f) (is_new game me h q f) a.1 in
    let taken : is_taken_in game me h q f ≡ true = and_from (is_clean game h && is_of_another game me q f) (is_new game me h q f) (and_from (is_clean game h) (is_of_another game me q f) a.0 b.0) b.1 in
    sym (ap (λ (k : Bool). if k then advance game me (h ++ Got q f ∷ []) else h) taken)

-- the log with one entry more
step_by : (game : Game) (me : ℕ) (h : List Entry) (e : Entry) → IsLogRun game me h → advance game me (h ++ e ∷ []) ≡ log_run game me (advance game me h) (steps_told (e ∷ [])) → IsLogRun game me (h ++ e ∷ [])
step_by game me h e r more =
    more
    ∙ ap (λ (g : List Entry). log_run game me g (steps_told (e ∷ []))) r
    ∙ sym (run_then game me (advance game me []) (steps_told h) (steps_told (e ∷ [])))
    ∙ ap (log_run game me (advance game me [])) (sym (told_more h (e ∷ [])))

-- nothing is made by a log that has no own frame left to be made
stays : (game : Game) (me : ℕ) (h : List Entry) → is_none (next_made game me h) ≡ true → h ≡ advance game me h
stays game me h none = sym (advance_still game me h (none_of (next_made game me h) none))

pub runs_next : (game : Game) (me : ℕ) (h : List Entry) (e : Entry) → 1 ≤ game.ahead → IsHonest game me h → comes_next game me h e ≡ true → IsLogRun game me h → IsLogRun game me (h ++ e ∷ [])
runs_next game me h (Made f) d i c r =
    step_by game me h (Made f) r (sym (advance_step game me h f d (frame_is (next_made game me h) f (and_parts _ _ c).1)))
runs_next game me h (Chose t m n) d i c r =
    let p = and_parts _ _ c in
    step_by game me h (Chose t m n) r (choice_taken game me t h m n d i p.0 ∙ ap (λ (g : List Entry). after_choice game me g m n) (stays game me h p.1))
runs_next game me h (Got q f) d i c r =
    let p = and_parts _ _ c in
    step_by game me h (Got q f) r (frame_taken game me q h f p.0 ∙ ap (λ (g : List Entry). after_got game me g q f) (stays game me h (and_parts _ _ p.1).0))
