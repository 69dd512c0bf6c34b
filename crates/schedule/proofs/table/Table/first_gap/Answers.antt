use Rattle.std.proofs.Common.{◌≡◌, ◌<◌, ◌∙◌, sym, ap, arith, refl, Option, Some, None}
use Rattle.schedule.specs.declared.stands.Gap.{Gap}
use Rattle.definitions.specs.World.{Game, players_of}
use Rattle.schedule.specs.Stands.{gap_of}
use Rattle.schedule.proofs.Firsts.{first_later}
use Rattle.schedule.proofs.table.Table.first_gap.Goals as goal

none_if : (o : Option Gap) → ((x : Gap) → o ≡ Some x → ⊥) → o ≡ None
none_if None never = refl
none_if (Some x) never = absurd (never x refl)

pub loop-player-preserved : goal.loop-player-preserved
loop-player-preserved c =
    let t = c.args.self.now in
    let end : c.players-player-end.result ≡ players_of t.game = c.players-player-end.ensures.value ∙ ap (λ (g : Game). players_of g) c.session.ensures in
    let lt : c.loop-player.player < players_of t.game = omega (arith, c.loop-player-test.true, end) in
    sym (first_later (gap_of t.game t.logs) c.loop-player.player (players_of t.game) lt (sym c.gap_of.ensures.exact ∙ none_if c.gap_of.result c.in_default.not-Some)) ∙ c.loop-player.invariant
