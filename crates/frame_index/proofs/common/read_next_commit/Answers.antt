use Rattle.std.proofs.Common.{Some, None, ap, arith, refl, subst, sym, ℕ, ◌+◌, ◌∙◌, ◌≡◌}
use Rattle.std.specs.Prelude.{min}
use Rattle.definitions.specs.declared.frames.What.{What}
use Rattle.definitions.specs.Places.{slot_at}
use Rattle.frame_index.specs.Frames.{kept_of}
use Rattle.frame_index.specs.Heads.{front_of, past_what}
use Rattle.frame_index.specs.Plain.{CommitIsRead}
use Rattle.frame_index.proofs.Commonly.{common_at, common_commit}
use Rattle.frame_index.proofs.Fronts.{next_turn, past_front, past_none, past_orderly, past_some, reveal_front}
use Rattle.frame_index.proofs.common.read_next_commit.Goals as goal

pub returns-in-None-clause-read : goal.returns-in-None-clause-read
returns-in-None-clause-read c = λ t logs first w is.
    let game = c.args.session.now in
    let front = reveal_front game c.args.turn c.facts.ensures c.requires c.reveal_place-place.result c.reveal_place-place.ensures.place in
    let at : None ≡ slot_at game (front_of game c.args.turn + 1) = c.in-None.ensures ∙ ap (λ (n : ℕ). slot_at game (n + 1)) front in
    common_at game c.args.player logs first _ _ (c.args.turn + 1) c.args.common.now
    (past_none game (front_of game c.args.turn + 1) None at refl ∙ past_front game c.args.turn c.facts.ensures c.requires) is

pub returns-in-Reveal-clause-read : goal.returns-in-Reveal-clause-read
returns-in-Reveal-clause-read c = λ t logs first w is.
    let game = c.args.session.now in
    let slot = c.in-Some.next in
    let front = reveal_front game c.args.turn c.facts.ensures c.requires c.reveal_place-place.result c.reveal_place-place.ensures.place in
    let at : Some slot ≡ slot_at game (front_of game c.args.turn + 1) = c.in-Some.ensures ∙ ap (λ (n : ℕ). slot_at game (n + 1)) front in
    common_at game c.args.player logs first _ _ (c.args.turn + 1) c.args.common.now
    (ap (λ (x : What). past_what x (front_of game c.args.turn + 1)) (sym c.in-Reveal.is) ∙ past_some game (front_of game c.args.turn + 1) (Some slot) at slot refl ∙ past_front game c.args.turn c.facts.ensures c.requires) is

pub returns-in-Commit-clause-read : goal.returns-in-Commit-clause-read
returns-in-Commit-clause-read c = λ t logs first w is.
    let game = c.args.session.now in
    let q = c.args.player in
    let a = min (c.args.turn + game.ahead) game.turns in
    let slot = c.in-Some.next in
    let front = reveal_front game c.args.turn c.facts.ensures c.requires c.reveal_place-place.result c.reveal_place-place.ensures.place in
    let at : Some slot ≡ slot_at game (front_of game c.args.turn + 1) = c.in-Some.ensures ∙ ap (λ (n : ℕ). slot_at game (n + 1)) front in
    let next = next_turn game c.args.turn c.facts.ensures c.requires slot (Some slot) at refl c.in-Commit.is in
    let left = next.1 in
    let read = subst (λ (u : ℕ). CommitIsRead (kept_of c.args.index.now q u) c.args.common.now c.read_commit.new.common) next.0 (c.read_commit.ensures.read t) in
    common_at game q logs first (a + 1 + (c.args.turn + 1)) _ (c.args.turn + 1) c.read_commit.new.common (omega arith)
    (common_commit game q logs c.args.index.now w first a (c.args.turn + 1) (c.args.turn + 1) c.args.common.now c.read_commit.new.common read (omega arith) (omega arith) (past_orderly game c.args.turn c.requires)
    (common_at game q logs first _ (a + (c.args.turn + 1)) (c.args.turn + 1) c.args.common.now (omega arith) is))
