use Rattle.std.proofs.Common.{Global, List, Vec, [], ap, arith, length, length-append, map, rules, subst, sym, vec_len, ℕ, ◌+◌, ◌++◌, ◌∙◌, ◌∷◌, ◌≡◌}
use Rattle.std.proofs.lemmas.List.{map-append}
use Rattle.definitions.specs.declared.world.Move.{Move}
use Rattle.frame_index.specs.Plain.{AreClear}
use Rattle.auditor.specs.Agreed.{agreed_moves}
use Rattle.auditor.proofs.Cleared.{clear_more}
use Rattle.auditor.proofs.Ranged.{listed_more}
use Rattle.auditor.proofs.auditor.Auditor.agreed.Goals as goal

pub loop-player-preserved : goal.loop-player-preserved
loop-player-preserved c =
    let own = c.in_ok-own.own.moves in
    let len : vec_len own ≡ length own.items = search rules in
    let items : Vec Move Global → List Move = λ v. v.items in
    let count : Vec Move Global → ℕ = λ v. length v.items in
    let before = c.loop-player.moves.items in
    let before_many = c.loop-player.invariant.many in
    let pushed = ap length c.in_ok-push.ensures.items in
    let both = length-append c.loop-player.counts.items (c.len.result ∷ []) in
    record {
      many = omega arith;
      clear_many = ap length c.in_ok-push-2.ensures.items ∙ length-append c.loop-player.clear.items (c.in_ok-own.own.is_clear ∷ []) ∙ ap (λ n. n + 1) c.loop-player.invariant.clear_many;
      clear = subst (AreClear c.args.self.now.session c.args.self.now.index) (sym c.in_ok-push-2.ensures.items)
          (clear_more c.args.self.now.session c.args.self.now.index c.loop-player.clear.items c.in_ok-own.own.is_clear c.loop-player.player c.loop-player.invariant.clear_many c.in_ok-own.ensures.clear c.loop-player.invariant.clear);
      counts = c.in_ok-push.ensures.items ∙ (let front = c.loop-player.invariant.counts in let one = c.len.ensures ∙ len in λ i. front i ++ one i ∷ [])
          ∙ sym (map-append count before (own ∷ [])) ∙ ap (map count) (sym c.in_ok-push-3.ensures.items);
      moves = λ logs w.
          let f : ℕ → List Move = agreed_moves c.args.self.now.session c.args.self.now.owners logs in
          ap (map items) c.in_ok-push-3.ensures.items ∙ map-append items before (own ∷ [])
          ∙ (let front = c.loop-player.invariant.moves logs w in let one = c.in_ok-own.ensures.moves logs w in λ i. front i ++ one i ∷ [])
          ∙ sym (listed_more f c.loop-player.player);
    }
