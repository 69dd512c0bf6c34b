use Rattle.std.proofs.Common.{◌≡◌, ◌∙◌, List, [], ◌∷◌, ◌++◌, ℕ, ap, sym, length, true, false}
use Rattle.std.specs.Prelude.{Option, is_none}
use Rattle.definitions.specs.declared.logs.Entry.{Entry}
use Rattle.definitions.specs.declared.logs.Entry.TheVariants.{Chose}
use Rattle.definitions.specs.declared.answers.OwnFault.{OwnFault}
use Rattle.definitions.specs.Honest.{allowed}
use Rattle.definitions.specs.Logs.{chosen}
use Rattle.peer_core.specs.declared.views.Choice.{Choice}
use Rattle.peer_core.specs.Views.{PeerState}
use Rattle.grid_world.proofs.Reveals.{ahead_least}
use Rattle.peer_core.proofs.Replaying.{added_if, other_turn, this_turn}
use Rattle.peer_core.proofs.peer.Peer.replay_choice.Goals as goal

-- a choice of another turn may not come
other : (c : goal.Then-turn-choice) → allowed c.args.self.now.game c.args.self.now.me c.args.self.now.entries (Chose c.args.turn c.args.mv c.args.nonce) ≡ false
other c =
    let turn : c.choice.result.turn ≡ length (chosen c.args.self.now.me c.args.self.now.entries) = ap (λ (k : Choice). k.turn) c.choice.ensures in
    other_turn c.args.self.now.game c.args.self.now.me c.args.turn c.args.self.now.entries c.args.mv c.args.nonce (λ e. c.if-turn-choice.true (e ∙ sym turn))

-- a choice of the next turn may come where it is taken
taken : (c : goal.In-Ok) → allowed c.args.self.now.game c.args.self.now.me c.args.self.now.entries (Chose c.args.turn c.args.mv c.args.nonce) ≡ true
taken c =
    let turn : c.args.turn ≡ length (chosen c.args.self.now.me c.args.self.now.entries) = c.if-turn-choice.false ∙ ap (λ (k : Choice). k.turn) c.choice.ensures in
    ap (λ n. allowed c.args.self.now.game c.args.self.now.me c.args.self.now.entries (Chose n c.args.mv c.args.nonce)) turn ∙
    this_turn c.args.self.now.game c.args.self.now.me c.args.self.now.entries c.args.mv c.args.nonce (ahead_least c.args.self.now.game c.facts.ensures.session) c.facts.ensures.honest ∙
    ap (λ (o : Option OwnFault). is_none o) (sym c.in-Ok.ensures.fault)

refused : (c : goal.In-Err) → allowed c.args.self.now.game c.args.self.now.me c.args.self.now.entries (Chose c.args.turn c.args.mv c.args.nonce) ≡ false
refused c =
    let turn : c.args.turn ≡ length (chosen c.args.self.now.me c.args.self.now.entries) = c.if-turn-choice.false ∙ ap (λ (k : Choice). k.turn) c.choice.ensures in
    ap (λ n. allowed c.args.self.now.game c.args.self.now.me c.args.self.now.entries (Chose n c.args.mv c.args.nonce)) turn ∙
    this_turn c.args.self.now.game c.args.self.now.me c.args.self.now.entries c.args.mv c.args.nonce (ahead_least c.args.self.now.game c.facts.ensures.session) c.facts.ensures.honest ∙
    ap (λ (o : Option OwnFault). is_none o) (sym c.in-Err.ensures.fault)

pub returns-then-turn-choice-clause-allowed : goal.returns-then-turn-choice-clause-allowed
returns-then-turn-choice-clause-allowed c = sym (other c)

pub returns-then-turn-choice-clause-log : goal.returns-then-turn-choice-clause-log
returns-then-turn-choice-clause-log c =
    let with_log : List Entry → PeerState = λ h. record { game = c.args.self.now.game; me = c.args.self.now.me; entries = h } in
    ap with_log (added_if c.args.self.now.game c.args.self.now.me c.args.self.now.entries (Chose c.args.turn c.args.mv c.args.nonce) false (other c))

pub returns-in-Ok-clause-allowed : goal.returns-in-Ok-clause-allowed
returns-in-Ok-clause-allowed c = sym (taken c)

pub returns-in-Ok-clause-log : goal.returns-in-Ok-clause-log
returns-in-Ok-clause-log c =
    let turn : c.args.turn ≡ length (chosen c.args.self.now.me c.args.self.now.entries) = c.if-turn-choice.false ∙ ap (λ (k : Choice). k.turn) c.choice.ensures in
    let with_log : List Entry → PeerState = λ h. record { game = c.args.self.now.game; me = c.args.self.now.me; entries = h } in
    let with_turn : ℕ → PeerState = λ n. with_log (c.args.self.now.entries ++ Chose n c.args.mv c.args.nonce ∷ []) in
    c.in-Ok.ensures.chosen ∙ ap with_turn (sym turn) ∙ ap with_log (added_if c.args.self.now.game c.args.self.now.me c.args.self.now.entries (Chose c.args.turn c.args.mv c.args.nonce) true (taken c))

pub returns-in-Err-clause-allowed : goal.returns-in-Err-clause-allowed
returns-in-Err-clause-allowed c = sym (refused c)

pub returns-in-Err-clause-log : goal.returns-in-Err-clause-log
returns-in-Err-clause-log c =
    let with_log : List Entry → PeerState = λ h. record { game = c.args.self.now.game; me = c.args.self.now.me; entries = h } in
    c.in-Err.ensures.refused ∙ ap with_log (added_if c.args.self.now.game c.args.self.now.me c.args.self.now.entries (Chose c.args.turn c.args.mv c.args.nonce) false (refused c))
