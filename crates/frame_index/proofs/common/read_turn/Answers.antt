use Rattle.std.proofs.Common.{refl, subst, ◌+◌, arith, sym, ◌∙◌}
use Rattle.std.specs.Prelude.{min}
use Rattle.frame_index.specs.Plain.{IsPlainTurn}
use Rattle.frame_index.proofs.Commonly.{common_at, common_here, common_most, common_reveal, none_goes_on}
use Rattle.frame_index.proofs.Fronts.{front_orderly, past_orderly}
use Rattle.frame_index.proofs.common.read_turn.Goals as goal

pub returns-in_default-first_chosen-clause-read : goal.returns-in_default-first_chosen-clause-read
returns-in_default-first_chosen-clause-read c = λ logs first w is.
    let game = c.args.session.now in
    let q = c.args.player in
    let t = c.args.turn in
    let a = min (t + game.ahead) game.turns in
    let ahead = c.facts.ensures.ahead.0 in
    let turn = c.requires.turn in
    let now = common_reveal game q logs c.args.index.now w first a t t c.args.common.now c.read_reveal.new.common c.facts.ensures c.requires.player c.in-Some.ensures.read.1 (omega arith) (omega (arith, ahead, turn)) (λ lt. omega (arith, lt))
    (front_orderly game t turn) is in
    none_goes_on game q logs c.args.index.now w first (a + (t + 1)) t c.read_reveal.new.common c.facts.ensures c.requires.player
    c.in_default-first_chosen.ensures.none now

pub returns-then-read_next_commit-clause-read : goal.returns-then-read_next_commit-clause-read
returns-then-read_next_commit-clause-read c = (
  plain,
  λ logs first w is.
      let game = c.args.session.now in
      let q = c.args.player in
      let t = c.args.turn in
      let a = min (t + game.ahead) game.turns in
      let ahead = c.facts.ensures.ahead.0 in
      let turn = c.requires.turn in
      let now = common_reveal game q logs c.args.index.now w first a t t c.args.common.now c.read_reveal.new.common c.facts.ensures c.requires.player c.in-Some.ensures.read.1 (omega arith) (omega (arith, ahead, turn)) (λ lt. omega (arith, lt))
      (front_orderly game t turn) is in (
        common_here game q logs c.args.index.now w first a t t c.in-Some-first_chosen._left c.args.common.now c.read_reveal.new.common c.in-Some-shown.mv c.facts.ensures c.requires.player c.in-Some.ensures.read.1 c.in-Some-first_chosen.ensures.some (sym c.in-Some.ensures.read.0 ∙ c.in-Some-shown.is) (past_orderly game t turn) now,
        c.if-read_next_commit.ensures.read refl logs first w (common_at game q logs first (a + (t + 1)) (a + t + 1) (t + 1) c.read_reveal.new.common (omega arith)
            (common_most game q logs c.args.index.now w first (a + (t + 1)) t (t + 1) c.read_reveal.new.common (omega arith) now)),
      ),
)
  where
    plain : IsPlainTurn c.args.session.now c.args.index.now c.args.player c.args.turn c.args.common.now.track c.read_next_commit.new.common.track
    plain = subst (IsPlainTurn c.args.session.now c.args.index.now c.args.player c.args.turn c.args.common.now.track) (sym c.read_next_commit.ensures.track)
        (record { plain = c.in-Some.ensures.read.1.plain; led = c.in-Some.ensures.read.1.led })
