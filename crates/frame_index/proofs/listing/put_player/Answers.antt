use Rattle.std.proofs.Common.{refl, arith, List, ap, sym, ◌++◌, ◌∙◌}
use Rattle.std.proofs.lemmas.List.{append-nil}
use Rattle.definitions.specs.declared.findings.Finding.{Finding}
use Rattle.definitions.specs.Findings.{findings_in}
use Rattle.frame_index.proofs.Joined.{joined_more}
use Rattle.frame_index.proofs.Plainly.{none_found}
use Rattle.frame_index.proofs.listing.put_player.Goals as goal

pub returns-then-shows_nothing : goal.returns-then-shows_nothing
returns-then-shows_nothing c = λ logs few index. sym (append-nil c.args.out.now.items)
    ∙ ap (λ (fs : List Finding). c.args.out.now.items ++ fs) (sym (none_found (findings_in c.args.session.now logs c.args.player) 0 c.args.session.now.turns (λ t le lt. c.if-shows_nothing.ensures refl logs index t (omega (arith, lt)))))

pub loop-turn-init : goal.loop-turn-init
loop-turn-init c = record {
  tracks = c.read_first.ensures.tracks;
  stand = λ logs index. c.in_ok-read_first.ensures.stand logs index (c.start_heads-heads.ensures.stand logs);
  found = λ logs few index. sym (append-nil _);
}

pub loop-turn-preserved : goal.loop-turn-preserved
loop-turn-preserved c =
    let inv = c.loop-turn.invariant in
    record {
      tracks = c.put_turn.ensures.tracks;
      stand = λ logs index. c.in_ok-put_turn.ensures.stand logs index (inv.stand logs index);
      found = λ logs few index. joined_more (findings_in c.args.session.now logs c.args.player) c.loop-turn.turn c.args.out.now.items c.loop-turn.out.items c.put_turn.new.out.items (inv.found logs few index)
          (c.in_ok-put_turn.ensures.found logs few index (inv.stand logs index));
    }
