use Rattle.std.proofs.Common.{◌≡◌, ◌∙◌, List, [], ◌∷◌, ◌++◌, ◌+◌, ap, sym, length, length-append, arith, ℕ, refl, subst, ◌≤◌}
use Rattle.std.specs.Prelude.{Some, None}
use Rattle.definitions.specs.declared.frames.TurnFrame.{TurnFrame}
use Rattle.definitions.specs.World.{Game}
use Rattle.definitions.specs.declared.openings.Opening.{Opening}
use Rattle.definitions.specs.declared.logs.Entry.{Entry}
use Rattle.definitions.specs.declared.logs.Entry.TheVariants.{Made}
use Rattle.definitions.specs.Honest.{IsHonest, made_count}
use Rattle.definitions.specs.Logs.{chosen, made}
use Rattle.definitions.specs.Advance.{next_made, advance}
use Rattle.definition_laws.proofs.ForPeers.{OwnCounts, advance_step, advance_still, own_counts}
use Rattle.peer_core.specs.Views.{PeerState}
use Rattle.grid_world.proofs.Reveals.{ahead_least}
use Rattle.peer_core.proofs.Peers.{chosen_made, frames_made, next_honest, state_is}
use Rattle.definition_laws.proofs.Standing.{made_count_most}
use Rattle.peer_core.proofs.peer.Peer.make_all.Goals as goal

-- one more frame is made than before
more_made : (g h : List Entry) (f : TurnFrame) → g ≡ h ++ Made f ∷ [] → made_count g ≡ made_count h + 1
more_made g h f e = ap (λ (l : List Entry). made_count l) e ∙ ap (λ (fs : List TurnFrame). length fs) (frames_made h f) ∙ length-append (made h) (f ∷ [])

-- the log with the next frame is honest
still_honest : (game : Game) (me : ℕ) (g h : List Entry) (f : TurnFrame) → IsHonest game me h → next_made game me h ≡ Some f → g ≡ h ++ Made f ∷ [] → IsHonest game me g
still_honest game me g h f i next e = let Is : List Entry → Type 0 = λ l. IsHonest game me l in subst Is (sym e) (next_honest game me h f i next)

-- without another choice no more frames are made than the turns that players commit ahead, and two
few_more : (game : Game) (me n : ℕ) (first g : List Entry) → OwnCounts game me first → OwnCounts game me g → chosen me g ≡ chosen me first → made_count g ≡ made_count first + n → n ≤ game.ahead + 2
few_more game me n first g a b same more =
    let o = a.orderly in
    let within = o.within in
    let ready = a.ready in
    let sum = a.sum in
    let before = b.before in
    let enough = b.enough in
    let total = b.sum in
    let chosen_are = ap (λ (os : List Opening). length os) same in
    omega arith

pub loop-frame-init : goal.loop-frame-init
loop-frame-init c = record {
  game = refl;
  me = refl;
  session = c.facts.ensures.session;
  log = refl;
  chosen_same = refl;
  start = own_counts c.args.self.now.game c.args.self.now.me c.args.self.now.entries (ahead_least c.args.self.now.game c.facts.ensures.session) c.facts.ensures.honest;
  counted = omega arith;
  few = omega arith;
}

pub loop-frame-smaller : goal.loop-frame-smaller
loop-frame-smaller c =
    let stands = c.next_made.ensures.facts in
    let next : next_made c.loop-frame.self.game c.loop-frame.self.me c.loop-frame.self.entries ≡ Some c.in-Some.frame = sym c.next_made.ensures.frame ∙ c.in-Some.is in
    let log : c.make.new.self.entries ≡ c.loop-frame.self.entries ++ Made c.in-Some.frame ∷ [] = ap (λ (p : PeerState). p.entries) c.make.ensures in
    let game : c.make.new.self.game ≡ c.loop-frame.self.game = ap (λ (p : PeerState). p.game) c.make.ensures in
    let one = more_made _ _ c.in-Some.frame log in
    let most = made_count_most c.loop-frame.self.game c.loop-frame.self.me c.make.new.self.entries (ahead_least c.loop-frame.self.game stands.session) (still_honest _ _ _ _ c.in-Some.frame stands.honest next log) in
    let turns : c.make.new.self.game.turns ≡ c.loop-frame.self.game.turns = ap (λ (g : Game). g.turns) game in
    omega arith

pub loop-frame-preserved : goal.loop-frame-preserved
loop-frame-preserved c =
    let inv = c.loop-frame.invariant in
    let stands = c.next_made.ensures.facts in
    let next : next_made c.loop-frame.self.game c.loop-frame.self.me c.loop-frame.self.entries ≡ Some c.in-Some.frame = sym c.next_made.ensures.frame ∙ c.in-Some.is in
    let log : c.make.new.self.entries ≡ c.loop-frame.self.entries ++ Made c.in-Some.frame ∷ [] = ap (λ (p : PeerState). p.entries) c.make.ensures in
    let game : c.make.new.self.game ≡ c.loop-frame.self.game = ap (λ (p : PeerState). p.game) c.make.ensures in
    let one = more_made _ _ c.in-Some.frame log in
    let first : next_made c.args.self.now.game c.args.self.now.me c.loop-frame.self.entries ≡ Some c.in-Some.frame
    = ap (λ (g : Game). next_made g c.args.self.now.me c.loop-frame.self.entries) (sym inv.game) ∙ ap (λ m. next_made c.loop-frame.self.game m c.loop-frame.self.entries) (sym inv.me) ∙ next in
    let Honest : Game → ℕ → Type 0 = λ g m. IsHonest g m c.loop-frame.self.entries in
    let honest : IsHonest c.args.self.now.game c.args.self.now.me c.loop-frame.self.entries = subst (λ (g : Game). Honest g c.args.self.now.me) inv.game (subst (λ (m : ℕ). Honest c.loop-frame.self.game m) inv.me stands.honest) in
    let counts = own_counts c.args.self.now.game c.args.self.now.me c.make.new.self.entries (ahead_least c.args.self.now.game inv.session) (still_honest _ _ _ _ c.in-Some.frame honest first log) in
    let same : chosen c.args.self.now.me c.make.new.self.entries ≡ chosen c.args.self.now.me c.args.self.now.entries
    = ap (λ (l : List Entry). chosen c.args.self.now.me l) log ∙ chosen_made c.args.self.now.me c.loop-frame.self.entries c.in-Some.frame ∙ inv.chosen_same in
    let counted : made_count c.make.new.self.entries ≡ made_count c.args.self.now.entries + (c.loop-frame.count + 1) = omega (arith, inv.counted) in
    record {
      game = game ∙ inv.game;
      me = ap (λ (p : PeerState). p.me) c.make.ensures ∙ inv.me;
      session = inv.session;
      log = ap (λ (l : List Entry). advance c.args.self.now.game c.args.self.now.me l) log ∙ sym (advance_step c.args.self.now.game c.args.self.now.me c.loop-frame.self.entries c.in-Some.frame (ahead_least c.args.self.now.game inv.session) first) ∙ inv.log;
      chosen_same = same;
      start = inv.start;
      counted = counted;
      few = few_more c.args.self.now.game c.args.self.now.me (c.loop-frame.count + 1) c.args.self.now.entries c.make.new.self.entries inv.start counts same counted;
    }

pub overflow_add-count : goal.overflow_add-count
overflow_add-count c =
    let few = c.loop-frame.invariant.few in
    let most = c.loop-frame.invariant.session.ahead.1 in
    omega arith

-- where no frame is next, the log is advanced
at_end : (c : goal.In_default) → c.loop-frame.self.entries ≡ advance c.args.self.now.game c.args.self.now.me c.args.self.now.entries
at_end c =
    let inv = c.loop-frame.invariant in
    let none : next_made c.args.self.now.game c.args.self.now.me c.loop-frame.self.entries ≡ None
    = ap (λ (g : Game). next_made g c.args.self.now.me c.loop-frame.self.entries) (sym inv.game) ∙ ap (λ m. next_made c.loop-frame.self.game m c.loop-frame.self.entries) (sym inv.me) ∙ sym c.next_made.ensures.frame ∙ c.in_default.is in
    sym (advance_still c.args.self.now.game c.args.self.now.me c.loop-frame.self.entries none) ∙ inv.log

pub returns-clause-log : goal.returns-clause-log
returns-clause-log c = state_is c.loop-frame.self c.args.self.now.game c.args.self.now.me _ c.loop-frame.invariant.game c.loop-frame.invariant.me (at_end c)

pub returns-clause-count : goal.returns-clause-count
returns-clause-count c =
    let counted = c.loop-frame.invariant.counted in
    let all = ap (λ (l : List Entry). made_count l) (at_end c) in
    omega arith
