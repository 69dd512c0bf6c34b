use Rattle.std.proofs.Common.{◌≤◌, ◌+◌, [], drop, sym, ◌∙◌, subst, arith}
use Rattle.definitions.specs.World.{Game}
use Rattle.definitions.specs.Logs as L
use Rattle.line_io.proofs.Writing.{bytes_none, puts_cut, underway_cut, underway_more}
use Rattle.seal_keys.specs.States.{Keys}
use Rattle.key_commands.specs.Seal.{sealed_frame, sealed_frames, with_seal}
use Rattle.key_commands.proofs.Lists.{flat_none, flat_past}
use Rattle.key_commands.proofs.SealedSo.{game_stays, next_of, player_stays, seal_is, sealed_step, seed_stays, unused_next}
use Rattle.key_commands.proofs.sealing.put_made.Goals as goal
use Rattle.key_commands.proofs.sealing.put_made.Goals.{in-None, in-Some+in_ok-put_sealed-in-Some}

pub returns-in_err-put_sealed-in-Some : goal.returns-in_err-put_sealed-in-Some
returns-in_err-put_sealed-in-Some g c =
    let v = c.loop-place in
    let i = v.invariant in
    let peer = c.args.peer.now in
    let f = c.in-Some.frame in
    let n = next_of v.keys peer.game peer.me v.place peer.entries f i.game i.player (subst (λ (game : Game). 1 ≤ game.ahead) c.session.ensures c.facts.ensures.ahead.0) c.requires.honest c.in-Some.ensures i.unused in
    let seal = seal_is v.keys c.seal-done.new.self f v.place n c.seal-done.result c.seal-done.ensures.answer c.seal-done.ensures.keys v.seal c.seal-done.new.out c.seal-done.ensures.seal in
    let step = sealed_step v.keys peer.game c.args.keys.now.seed v.place (L.made peer.entries) f c.seal-done.new.out i.game i.seed c.in-Some.ensures seal in
    puts_cut _ _ (sealed_frames peer.game c.args.keys.now.seed (L.made peer.entries)) c.from_residual.result c.from_residual.ensures.0 (underway_cut _ _ _ _ _ (with_seal f c.seal-done.new.out)
    (sealed_frames peer.game c.args.keys.now.seed (drop (v.place + 1) (L.made peer.entries))) i.written step c.in_err-put_sealed-in-Some.ensures)

pub loop-place-preserved : goal.loop-place-preserved
loop-place-preserved g c = elim c.match-made.branch [
  | in-Some+in_ok-put_sealed-in-Some w ↦
      let v = c.loop-place in
      let i = v.invariant in
      let peer = c.args.peer.now in
      let f = w.in-Some.frame in
      let n = next_of v.keys peer.game peer.me v.place peer.entries f i.game i.player (subst (λ (game : Game). 1 ≤ game.ahead) c.session.ensures c.facts.ensures.ahead.0) c.requires.honest w.in-Some.ensures i.unused in
      let d = w.seal-done in
      let after : Keys = d.new.self in
      let seal = seal_is v.keys after f v.place n d.result d.ensures.answer d.ensures.keys v.seal d.new.out d.ensures.seal in
      let step = sealed_step v.keys peer.game c.args.keys.now.seed v.place (L.made peer.entries) f d.new.out i.game i.seed w.in-Some.ensures seal in
      rw (w.keys-is, w.seal-is, w.out-is) (record {
        game = game_stays v.keys after f v.place n d.result d.ensures.answer d.ensures.keys ∙ i.game;
        player = player_stays v.keys after f v.place n d.result d.ensures.answer d.ensures.keys ∙ i.player;
        seed = seed_stays v.keys after f v.place n d.result d.ensures.answer d.ensures.keys ∙ i.seed;
        unused = unused_next v.keys after f v.place n d.result d.ensures.answer d.ensures.keys;
        room = d.ensures.length ∙ i.room;
        written = underway_more _ _ _ _ _ (with_seal f d.new.out) _ i.written step w.in_ok-put_sealed-in-Some.ensures;
      })
  | in-None w ↦
      let v = c.loop-place in
      let i = v.invariant in
      let made = L.made c.args.peer.now.entries in
      let none = sym (w.in-None.ensures) in
      rw (w.keys-is, w.seal-is, w.out-is) (record {
        game = i.game;
        player = i.player;
        seed = i.seed;
        unused = λ k past. i.unused k (omega (arith, past));
        room = i.room;
        written = underway_more _ _ _ _ _ [] _ i.written (flat_none (sealed_frame c.args.peer.now.game c.args.keys.now.seed) made v.place none ∙ sym (flat_past (sealed_frame c.args.peer.now.game c.args.keys.now.seed) made v.place none)) (sym (bytes_none _));
      })
]
