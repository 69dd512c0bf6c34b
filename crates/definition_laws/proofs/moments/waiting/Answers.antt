use Rattle.std.proofs.Common.{◌≡◌, List, [], ◌∷◌, true, ◌∙◌, ap, sym, refl, Some}
use Rattle.std.specs.Prelude.{ℕ, ◌≤◌, IsTrue}
use Rattle.std.proofs.lemmas.Bool.{false≢true}
use Rattle.definitions.specs.declared.answers.Need.{Need}
use Rattle.definitions.specs.declared.openings.Opening.{Opening}
use Rattle.definitions.specs.declared.logs.Entry.{Entry}
use Rattle.definitions.specs.declared.logs.Entry.TheVariants.{Made}
use Rattle.definitions.specs.declared.frames.What.{What}
use Rattle.definitions.specs.declared.frames.What.TheVariants.{Commit, Reveal}
use Rattle.definitions.specs.World.{Game}
use Rattle.definitions.specs.Places.{slot_at}
use Rattle.definitions.specs.Findings.{is_clean}
use Rattle.definitions.specs.Lists.{is_empty}
use Rattle.definitions.specs.Honest.{IsHonest, made_count, chosen_for, allowed}
use Rattle.definitions.specs.Needs.{needs}
use Rattle.definitions.specs.Advance.{frame_of}
use Rattle.definition_laws.proofs.Waits.{next_commit_allowed, next_reveal_allowed, may_choose_allowed}
use Rattle.definition_laws.proofs.moments.waiting.Goals as goal

is_empty-nil : (xs : List Need) → is_empty xs ≡ true → xs ≡ []
is_empty-nil [] h = refl
is_empty-nil (x ∷ xs) h = absurd (false≢true h)

frames : (game : Game) (me t : ℕ) (h : List Entry) (o : Opening) (what : What) → 1 ≤ game.ahead → IsHonest game me h →
    IsTrue (is_clean game h) → slot_at game (made_count h) ≡ Some (record { what = what; turn = t }) → chosen_for me h t ≡ Some o →
    allowed game me h (Made (frame_of game what o)) ≡ is_empty (needs game me h)
frames game me t h o Commit d i clean slot there = next_commit_allowed game me t h o d i clean slot there
frames game me t h o Reveal d i clean slot there = next_reveal_allowed game me t h o d i clean slot there

pub returns-clause-frames : goal.returns-clause-frames
returns-clause-frames c game me t h o what d i clean slot there =
    let e = frames game me t h o what d i clean slot there in
    (λ may. is_empty-nil (needs game me h) (sym e ∙ may), λ none. e ∙ ap (is_empty {X = Need}) none)

pub returns-clause-choices : goal.returns-clause-choices
returns-clause-choices c = may_choose_allowed
