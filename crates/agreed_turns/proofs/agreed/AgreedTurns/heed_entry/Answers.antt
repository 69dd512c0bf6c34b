use Rattle.std.proofs.Common.{refl, subst, sym}
use Rattle.definitions.specs.declared.logs.Entry.{Entry}
use Rattle.agreed_turns.specs.States.{HeedsEntry}
use Rattle.agreed_turns.proofs.Entered.{enters_back, enters_chose, enters_got, enters_made}
use Rattle.agreed_turns.proofs.agreed.AgreedTurns.heed_entry.Goals as goal

pub returns-in-Chose-clause-heeds : goal.returns-in-Chose-clause-heeds
returns-in-Chose-clause-heeds c =
    subst (λ (e : Entry). HeedsEntry c.args.self.now.game c.args.got.now c.args.made.now c.args.owner e c.args.self.now.players c.args.self.now.players) (sym c.in-Chose.is)
    (enters_chose _ _ _ _ _ _ c.in-Chose.turn c.in-Chose.mv c.in-Chose.nonce refl)

pub returns-in-Made-clause-heeds : goal.returns-in-Made-clause-heeds
returns-in-Made-clause-heeds c =
    subst (λ (e : Entry). HeedsEntry c.args.self.now.game c.args.got.now c.args.made.now c.args.owner e c.args.self.now.players c.heed_frame.new.self.players) (sym c.in-Made.is)
    (enters_made _ _ _ _ _ _ c.in-Made.frame c.heed_frame.ensures.heeds)

pub returns-then-player-owner-clause-heeds : goal.returns-then-player-owner-clause-heeds
returns-then-player-owner-clause-heeds c =
    subst (λ (e : Entry). HeedsEntry c.args.self.now.game c.args.got.now c.args.made.now c.args.owner e c.args.self.now.players c.heed_frame-then-player-owner.new.self.players) (sym c.in-Got.is)
    (enters_got _ _ _ _ _ _ c.in-Got.player c.in-Got.frame c.if-player-owner.true c.heed_frame-then-player-owner.ensures.heeds)

pub returns-else-player-owner-clause-heeds : goal.returns-else-player-owner-clause-heeds
returns-else-player-owner-clause-heeds c =
    subst (λ (e : Entry). HeedsEntry c.args.self.now.game c.args.got.now c.args.made.now c.args.owner e c.args.self.now.players c.args.self.now.players) (sym c.in-Got.is)
    (enters_back _ _ _ _ _ _ c.in-Got.player c.in-Got.frame c.if-player-owner.false refl)
