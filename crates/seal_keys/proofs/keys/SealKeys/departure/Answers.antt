use Rattle.std.proofs.Common.{ℕ, List, ◌+◌, ◌*◌, ◌-◌, ◌/◌, ◌^◌, ◌++◌, ◌<◌, ◌≤◌, ◌∙◌, ◌≡◌, None, ap, arith, sym, subst}
use Rattle.std.proofs.Math.Nat.{div-one}
use Rattle.sha2.specs.Sha256.{sha256}
use Rattle.definitions.specs.World.{Game}
use Rattle.definitions.specs.Answers.{place_of}
use Rattle.seal_keys.specs.Departures.{departs_at, departure, key_path, last_below}
use Rattle.seal_keys.specs.Keys.{node_of, places, publics, tree_height}
use Rattle.seal_keys.specs.Parts.{part_of}
use Rattle.seal_keys.specs.Seals.{beside, seal_path, message, shown}
use Rattle.seal_keys.proofs.Departed.{children_within, departs_by, key_path_more, key_path_none, last_none, last_step}
use Rattle.seal_keys.proofs.Paths.{index_up, seal_path_more, seal_path_none}
use Rattle.seal_keys.proofs.keys.SealKeys.departure.Goals as goal

pub loop-h-init : goal.loop-h-init
loop-h-init c =
    let game = c.args.self.now.game in
    let seed = c.args.self.now.seed in
    let f = c.args.frame.now in
    let s : List ℕ = c.args.seal.now in
    let k : ℕ = place_of game f in
    let e = c.session-session.ensures in
    let place : c.place_in-place.result ≡ k = c.place_in-place.ensures.place ∙ ap (λ (g : Game). place_of g f) e in
    let digest : c.message_of-message.result ≡ message game f = c.message_of-message.ensures ∙ ap (λ (g : Game). message g f) e in
    let left : shown c.message_of-message.result c.bytes-bytes.result.now ≡ seal_path (message game f) s k 0
    = ap (λ (m : List ℕ). shown m c.bytes-bytes.result.now) digest ∙ ap (shown (message game f)) c.bytes-bytes.ensures ∙ sym (seal_path_none (message game f) s k) in
    let right : publics c.seed.result.now c.place_in-place.result ≡ key_path game seed k 0
    = ap (λ (x : List ℕ). publics x c.place_in-place.result) c.seed.ensures ∙ ap (publics seed) place ∙ sym (key_path_none game seed k) in
    record {
      own = c.digest_shown-own.ensures ∙ ap sha256 left;
      index = place ∙ sym (div-one k);
      last = c.later-last.ensures ∙ last_step (departs_at game seed f s) 0 c.shows_publics-shown.result None
          (departs_by game seed f s 0 _ _ c.shows_publics-shown.result c.shows_publics-shown.ensures left right) (sym (last_none (departs_at game seed f s)));
    }

pub children-requires-clause-index : goal.children-requires-clause-index
children-requires-clause-index c =
    let game = c.args.self.now.game in
    let k : ℕ = place_of game c.args.frame.now in
    let h = c.loop-h.h in
    let e = c.session-session.ensures in
    let turns = ap (λ (g : Game). g.turns) e in
    let height = ap tree_height e in
    let few : game.turns ≤ 8192 = omega (arith, c.facts.ensures.turns) in
    let place : c.place_in-place.result ≡ k = c.place_in-place.ensures.place ∙ ap (λ (g : Game). place_of g c.args.frame.now) e in
    let lt : k < places game = omega (arith, c.place_in-place.ensures.within) in
    let less : h < tree_height game = omega (arith, c.tree_height-h-end.ensures.value) in
    subst (λ (i : ℕ). 2 * (i / 2) + 1 < 2 ^ (tree_height game - h)) (sym c.loop-h.invariant.index) (children_within game k h few lt less)

pub loop-h-preserved : goal.loop-h-preserved
loop-h-preserved c =
    let game = c.args.self.now.game in
    let seed = c.args.self.now.seed in
    let f = c.args.frame.now in
    let s : List ℕ = c.args.seal.now in
    let k : ℕ = place_of game f in
    let m : List ℕ = message game f in
    let h = c.loop-h.h in
    let left : c.beside-theirs.result ≡ seal_path m s k (h + 1)
    = c.beside-theirs.ensures ∙ ap (λ (i : ℕ). beside i c.loop-h.own c.part_at.result) c.loop-h.invariant.index
    ∙ ap (λ (o : List ℕ). beside (k / 2 ^ h) o c.part_at.result) c.loop-h.invariant.own
    ∙ ap (beside (k / 2 ^ h) (sha256 (seal_path m s k h))) (c.part_at.ensures ∙ ap (λ (b : List ℕ). part_of b (512 + h)) c.bytes-bytes.ensures)
    ∙ sym (seal_path_more m s k h) in
    let up : c.loop-h.index / 2 ≡ k / 2 ^ (h + 1) = ap (λ (i : ℕ). i / 2) c.loop-h.invariant.index ∙ index_up k h in
    let right : c.children.result ≡ key_path game seed k (h + 1)
    = c.children.ensures ∙ ap (λ (i : ℕ). node_of game seed h (2 * i) ++ node_of game seed h (2 * i + 1)) up ∙ sym (key_path_more game seed k h) in
    record {
      own = c.sha256_of-own.ensures ∙ ap sha256 left;
      index = up;
      last = c.later-last-in-loop-h.ensures ∙ last_step (departs_at game seed f s) (h + 1) c.same_pair.result c.loop-h.last
          (departs_by game seed f s (h + 1) c.beside-theirs.result c.children.result c.same_pair.result c.same_pair.ensures left right) c.loop-h.invariant.last;
    }

pub returns : goal.returns
unfolding departure
returns c =
    let game = c.args.self.now.game in
    let top : c.loop-h.h ≡ tree_height game = let height = ap tree_height c.session-session.ensures in omega (arith, c.tree_height-h-end.ensures.value) in
    c.loop-h.invariant.last ∙ ap (λ (h : ℕ). last_below (departs_at game c.args.self.now.seed c.args.frame.now c.args.seal.now) (h + 1)) top
