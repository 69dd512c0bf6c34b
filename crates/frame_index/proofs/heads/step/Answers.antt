use Rattle.std.proofs.Common.{Some, arith, refl, subst, sym, true, ℕ, ◌+◌, ◌∙◌, ◌≡◌}
use Rattle.std.specs.Prelude.{◌==◌}
use Rattle.definitions.specs.Logs.{got_of}
use Rattle.grid_world.specs.Streams.{next_of}
use Rattle.grid_world.proofs.NextSlots.{is_next_commit, is_next_reveal}
use Rattle.frame_index.specs.Heads.{Stands}
use Rattle.frame_index.specs.Keeps.{Keeps}
use Rattle.frame_index.proofs.Fronts.{turn_is}
use Rattle.frame_index.proofs.Headed.{stands_before, stands_on, stands_read, stands_slot}
use Rattle.frame_index.proofs.heads.step.Goals as goal

pub returns-then-not-is_at-clause-stands : goal.returns-then-not-is_at-clause-stands
returns-then-not-is_at-clause-stands c logs h keeps there stands =
    stands_before c.args.session.now c.args.player c.args.place (got_of c.args.player h) c.args.stream.now stands (sym c.is_at.ensures ∙ c.if-not-is_at.true)

pub returns-in-Commit-clause-stands : goal.returns-in-Commit-clause-stands
returns-in-Commit-clause-stands c logs h keeps there stands =
    let game = c.args.session.now in
    let q = c.args.player in
    let s = c.args.stream.now in
    let slot = c.in-Some.next in
    let here : (next_of s == c.args.place) ≡ true = sym c.is_at.ensures ∙ c.if-not-is_at.false in
    let w = is_next_commit game s slot (Some slot) c.in-Some.ensures.slot refl c.in-Commit.is in
    let turn = turn_is game c.args.place (Some slot) (stands_slot game q c.args.place (got_of q h) s stands c.facts.ensures (Some slot) c.in-Some.ensures.place here) slot refl in
    let next = c.next_commitment.ensures.next logs h (subst (λ (t : ℕ). Keeps game q t logs c.args.seen.now) (turn ∙ w.1) keeps) there (stands_read game q c.args.place (got_of q h) s stands) w.0 in
    subst (Stands game q (got_of q h) (c.args.place + 1)) (sym c.unwrap_or.ensures) (stands_on game q c.args.place (got_of q h) s stands c.next_commitment.result here next)

pub returns-in-Reveal-clause-stands : goal.returns-in-Reveal-clause-stands
returns-in-Reveal-clause-stands c logs h keeps there stands =
    let game = c.args.session.now in
    let q = c.args.player in
    let s = c.args.stream.now in
    let slot = c.in-Some.next in
    let here : (next_of s == c.args.place) ≡ true = sym c.is_at.ensures ∙ c.if-not-is_at.false in
    let w = is_next_reveal game s slot (Some slot) c.in-Some.ensures.slot refl c.in-Reveal.is in
    let turn = turn_is game c.args.place (Some slot) (stands_slot game q c.args.place (got_of q h) s stands c.facts.ensures (Some slot) c.in-Some.ensures.place here) slot refl in
    let all = w.0 in
    let next = c.next_reveal.ensures.next logs h (subst (λ (t : ℕ). Keeps game q t logs c.args.seen.now) (turn ∙ w.2) keeps) there (stands_read game q c.args.place (got_of q h) s stands) w.1 (λ lt. omega arith) in
    subst (Stands game q (got_of q h) (c.args.place + 1)) (sym c.unwrap_or-in-Reveal.ensures) (stands_on game q c.args.place (got_of q h) s stands c.next_reveal.result here next)
