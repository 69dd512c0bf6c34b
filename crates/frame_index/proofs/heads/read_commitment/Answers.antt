use Rattle.std.proofs.Common.{List, Some, ap, arith, refl, subst, sym, ℕ, ◌+◌, ◌∙◌, ◌≡◌}
use Rattle.definitions.specs.declared.frames.What.{What}
use Rattle.definitions.proofs.Streams.{commit_place-fits}
use Rattle.grid_world.proofs.Reveals.{at_commit}
use Rattle.frame_index.specs.declared.seen.Seen.{Seen}
use Rattle.frame_index.specs.Heads.{Stand, past_commitment, past_what}
use Rattle.frame_index.specs.Keeps.{Keeps}
use Rattle.frame_index.proofs.Fronts.{past_some, turn_is}
use Rattle.frame_index.proofs.heads.read_commitment.Goals as goal

pub step_all-requires-clause-place : goal.step_all-requires-clause-place
step_all-requires-clause-place c =
    let w = at_commit c.args.session.now c.args.place (Some c.in-Some.slot) c.in-Some.slot c.in-Some.ensures refl c.in-Commit.is in
    let fits = commit_place-fits c.args.session.now c.in-Some.slot.turn c.facts.ensures.ahead.0 w.0 in
    let there = w.1 in
    omega arith

pub returns-in_ok-gather-in-Commit-clause-stand : goal.returns-in_ok-gather-in-Commit-clause-stand
returns-in_ok-gather-in-Commit-clause-stand c logs index stand =
    let game = c.args.session.now in
    let q = c.args.player in
    let place = c.args.place in
    let slot = c.in-Some.slot in
    let turn = turn_is game place (Some slot) c.in-Some.ensures slot refl in
    let past : place + 1 ≡ past_commitment game place = ap (λ (w : What). past_what w place) (sym c.in-Commit.is) ∙ past_some game place (Some slot) c.in-Some.ensures slot refl in
    subst (λ (n : ℕ). Stand game q logs n c.step_all.new.heads) past
    (c.step_all.ensures.stand logs
    (subst (λ (t : ℕ). Keeps game q t logs c.deref.result.now) (sym turn)
    (subst (λ (ks : List Seen). Keeps game q slot.turn logs ks) (sym (c.deref.ensures.value ∙ c.in_ok-gather-in-Commit.ensures)) (index.stands q slot.turn))) stand)
