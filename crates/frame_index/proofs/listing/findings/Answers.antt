use Rattle.std.proofs.Common.{ℕ, [], ap, ◌∙◌, ◌≡◌, arith}
use Rattle.std.specs.Prelude.{flat_map}
use Rattle.std.specs.List.{range_with_len}
use Rattle.definitions.specs.Findings.{findings, findings_in}
use Rattle.definitions.specs.World.{players_of}
use Rattle.frame_index.proofs.Joined.{joined_more}
use Rattle.frame_index.proofs.listing.findings.Goals as goal

pub loop-player-preserved : goal.loop-player-preserved
loop-player-preserved c = λ logs few index. joined_more (λ q. flat_map (findings_in c.args.session.now logs q) (range_with_len 0 c.args.session.now.turns)) c.loop-player.player [] c.loop-player.out.items
    c.put_player.new.out.items (c.loop-player.invariant logs few index) (c.in_ok-put_player.ensures logs few index)

pub returns : goal.returns
unfolding findings
returns c = λ logs few index.
    let all : c.loop-player.player ≡ players_of c.args.session.now = omega arith in
    c.loop-player.invariant logs few index
    ∙ ap (λ (n : ℕ). flat_map (λ q. flat_map (findings_in c.args.session.now logs q) (range_with_len 0 c.args.session.now.turns)) (range_with_len 0 n)) all
