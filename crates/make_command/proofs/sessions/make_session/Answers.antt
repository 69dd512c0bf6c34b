use Rattle.std.proofs.Common.{List, ℕ, length, ap, sym, subst, ◌∙◌}
use Rattle.definitions.specs.declared.world.Cell.{Cell}
use Rattle.grid_world.specs.Answers.{IsReadFrom}
use Rattle.grid_world.specs.Text.{session_text}
use Rattle.make_command.specs.declared.sizes.TheConstants.{PLAYERS}
use Rattle.make_command.specs.Making.{plain_game, starts_of, with_id}
use Rattle.make_command.proofs.Made.{drawn_by}
use Rattle.make_command.proofs.sessions.make_session.Goals as goal

pub text_of-requires : goal.text_of-requires
text_of-requires c =
    let walls = c.in_ok-walls.walls.items in
    let starts = c.in_ok-starts.starts.items in
    let same = ap (λ (w : List Cell). starts_of w PLAYERS c.draw_walls.new.chance) c.deref.ensures.value in
    let all = drawn_by c.args.number c.generator_of-chance.result c.draw_walls.new.chance c.draw_starts.new.chance walls starts c.generator_of-chance.ensures c.in_ok-walls.ensures (c.in_ok-starts.ensures ∙ same) in
    ap (λ (s : List Cell). length s) c.deref-3.ensures.value ∙ all.count

pub returns-in-Ok-clause-value : goal.returns-in-Ok-clause-value
returns-in-Ok-clause-value c =
    let walls = c.in_ok-walls.walls.items in
    let starts = c.in_ok-starts.starts.items in
    let same = ap (λ (w : List Cell). starts_of w PLAYERS c.draw_walls.new.chance) c.deref.ensures.value in
    let all = drawn_by c.args.number c.generator_of-chance.result c.draw_walls.new.chance c.draw_starts.new.chance walls starts c.generator_of-chance.ensures c.in_ok-walls.ensures (c.in_ok-starts.ensures ∙ same) in
    let text = c.deref-4.ensures.value ∙ c.in_ok-text.ensures ∙ ap (λ (w : List Cell). session_text (plain_game w c.deref-3.result.now)) c.deref-2.ensures.value ∙ ap (λ (s : List Cell). session_text (plain_game walls s)) c.deref-3.ensures.value in
    let reads = subst (λ (t : List ℕ). IsReadFrom (with_id (plain_game walls starts)) t) (sym text) all.reads in
    c.in-Ok.ensures.only (with_id (plain_game walls starts)) reads ∙ all.made
