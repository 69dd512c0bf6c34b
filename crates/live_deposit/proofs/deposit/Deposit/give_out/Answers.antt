use Rattle.live_deposit.proofs.Served.{give_ends, give_first, give_on}
use Rattle.live_deposit.proofs.deposit.Deposit.give_out.Goals as goal

pub pieces-init : goal.pieces-init
pieces-init g c = give_first _ _ _ c.args.self.now c.requires.stands c.requires.greeted

pub returns-in-Some-give_piece : goal.returns-in-Some-give_piece
returns-in-Some-give_piece g c = give_ends _ _ _ _ _ _ _ c.args.self.now c.pieces.self c.give_piece.new.self c.in-Some-give_piece.settled c.pieces.invariant c.in-Some-give_piece.ensures

pub pieces-preserved : goal.pieces-preserved
pieces-preserved g c = give_on _ _ _ _ _ _ _ c.args.self.now c.pieces.self c.give_piece.new.self c.pieces.invariant c.in_default-give_piece.ensures
