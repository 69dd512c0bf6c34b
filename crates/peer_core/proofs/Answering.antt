-- Answering: what the answer to a frame says of the log behind it.
use Rattle.std.proofs.Common.{Bool, List, None, [], ap, false, refl, sym, true, ℕ, ◌++◌, ◌∙◌, ◌∷◌, ◌≡◌}
use Rattle.std.specs.Prelude.{not, slice_get, if◌then◌else◌, ◌&&◌, ◌==◌}
use Rattle.definitions.specs.declared.frames.TurnFrame.{TurnFrame}
use Rattle.definitions.specs.declared.findings.Finding.{Finding}
use Rattle.definitions.specs.declared.answers.GotAnswer.{GotAnswer}
use Rattle.definitions.specs.declared.answers.GotAnswer.TheVariants.{Taken, Stashed, Same, Far, Foreign, Caught, Closed}
use Rattle.definitions.specs.declared.logs.Entry.{Entry}
use Rattle.definitions.specs.declared.logs.Entry.TheVariants.{Got}
use Rattle.definitions.specs.Lists.{is_empty}
use Rattle.definitions.specs.World.{Game}
use Rattle.definitions.specs.Held.{next_place}
use Rattle.definitions.specs.Findings.{findings, is_clean}
use Rattle.definitions.specs.Answers.{got_answer, is_far, is_of_another, is_same, new_answer, place_of}
use Rattle.definitions.specs.Steps.{is_taken_in}
use Rattle.definition_laws.specs.First.{finding_of_log}
use Rattle.definition_laws.specs.Replies.{refusal}
use Rattle.definition_laws.proofs.Replied.{replies}
use Rattle.peer_core.specs.Answers.{caught_in, is_logged}
use Rattle.peer_core.specs.Views.{with_got}

module _ (game : Game) (me : ℕ) (h : List Entry) (q : ℕ) (f : TurnFrame) where
  -- the answer by the tests that the log is clean, the frame another's, far and the same, and by the findings behind it
  by_tests : (c a r s : Bool) → List Finding → GotAnswer
  by_tests c a r s fs = if not c then Closed else if not a then Foreign else if r then Far else if s then Same else new_answer game (next_place game me h q) fs f

  logged_new : (b : Bool) → is_logged (if b then Taken else Stashed) ≡ true
  logged_new true = refl
  logged_new false = refl

  -- the answer tells whether the frame is taken in
  pub logged_is : is_logged (got_answer game me h q f) ≡ is_taken_in game me h q f
  unfolding got_answer by_tests
  logged_is = go (is_clean game h) (is_of_another game me q f) (is_far game me h q f) (is_same h q f) (findings game ((h ++ Got q f ∷ []) ∷ []))
    where
      go : (c a r s : Bool) (fs : List Finding) → is_logged (by_tests c a r s fs) ≡ (c && a && (not r && not s))
      go false a r s fs = refl
      go true false r s fs = refl
      go true true true s fs = refl
      go true true false true fs = refl
      go true true false false (x ∷ fs) = refl
      go true true false false [] = logged_new (place_of game f == next_place game me h q)

  not_caught : (b : Bool) (x : Finding) → (if b then Taken else Stashed) ≡ Caught x → ⊥
  not_caught true x e = cc
  not_caught false x e = cc

  -- where the answer is a finding the log behind it has one
  pub caught_dirty : (x : Finding) → got_answer game me h q f ≡ Caught x → is_clean game (with_got game me h q f) ≡ false
  unfolding got_answer is_clean by_tests
  caught_dirty x = go (is_clean game h) (is_of_another game me q f) (is_far game me h q f) (is_same h q f) (findings game ((h ++ Got q f ∷ []) ∷ [])) refl
    where
      go : (c a r s : Bool) (fs : List Finding) → is_clean game (h ++ Got q f ∷ []) ≡ is_empty fs → by_tests c a r s fs ≡ Caught x → is_clean game (if c && a && (not r && not s) then (h ++ Got q f ∷ []) else h) ≡ false
      go false a r s fs e k = absurd (cc)
      go true false r s fs e k = absurd (cc)
      go true true true s fs e k = absurd (cc)
      go true true false true fs e k = absurd (cc)
      go true true false false (y ∷ fs) e k = e
      go true true false false [] e k = absurd (not_caught (place_of game f == next_place game me h q) x k)

  caught_new : (b : Bool) → caught_in (if b then Taken else Stashed) ≡ None
  caught_new true = refl
  caught_new false = refl

  -- the finding of which the answer tells is the first of the log behind it
  pub caught_first : (a : GotAnswer) → a ≡ got_answer game me h q f → is_logged a ≡ true → caught_in a ≡ finding_of_log game (h ++ Got q f ∷ [])
  unfolding got_answer by_tests
  caught_first a e t =
      ap caught_in e ∙ go (is_clean game h) (is_of_another game me q f) (is_far game me h q f) (is_same h q f) (findings game ((h ++ Got q f ∷ []) ∷ [])) (ap is_logged (sym e) ∙ t)
    where
      go : (c a r s : Bool) (fs : List Finding) → is_logged (by_tests c a r s fs) ≡ true → caught_in (by_tests c a r s fs) ≡ slice_get fs 0
      go false a r s fs k = absurd (cc)
      go true false r s fs k = absurd (cc)
      go true true true s fs k = absurd (cc)
      go true true false true fs k = absurd (cc)
      go true true false false (y ∷ fs) k = refl
      go true true false false [] k = caught_new (place_of game f == next_place game me h q)

  -- a frame that is logged is the log's last entry, and one that isn't leaves the log as it is
  pub got_logged : (a : GotAnswer) → a ≡ got_answer game me h q f → is_logged a ≡ true → with_got game me h q f ≡ h ++ Got q f ∷ []
  got_logged a e t = go (is_taken_in game me h q f) (sym logged_is ∙ ap is_logged (sym e) ∙ t)
    where
      go : (b : Bool) → b ≡ true → (if b then (h ++ Got q f ∷ []) else h) ≡ h ++ Got q f ∷ []
      go true k = refl
      go false k = absurd (cc)

  pub got_unlogged : (a : GotAnswer) → a ≡ got_answer game me h q f → is_logged a ≡ false → with_got game me h q f ≡ h
  got_unlogged a e t = go (is_taken_in game me h q f) (sym logged_is ∙ ap is_logged (sym e) ∙ t)
    where
      go : (b : Bool) → b ≡ false → (if b then (h ++ Got q f ∷ []) else h) ≡ h
      go true k = absurd (cc)
      go false k = refl

  pub logged_none : (a : GotAnswer) → a ≡ got_answer game me h q f → is_logged a ≡ true → refusal game me h q f ≡ None
  logged_none a e t = (replies game me q h f).joins.0 (sym logged_is ∙ ap is_logged (sym e) ∙ t)

  -- a frame that is refused before it is offered to a window
  pub closed_answer : is_clean game h ≡ false → Closed ≡ got_answer game me h q f
  unfolding got_answer
  closed_answer c = rw c refl

  pub foreign_answer : is_clean game h ≡ true → is_of_another game me q f ≡ false → Foreign ≡ got_answer game me h q f
  unfolding got_answer
  foreign_answer c a = rw (c, a) refl

  pub refused_log : is_clean game h ≡ false → h ≡ with_got game me h q f
  refused_log c = rw c refl
