use Rattle.own_moves.proofs.Adding.{puts_move, own_move}
use Rattle.own_moves.proofs.Choices.{drawn}
use Rattle.own_moves.proofs.making.choose_move.Goals as goal

pub returns-in-Some : goal.returns-in-Some
returns-in-Some g c =
    own_move _ _ c.args.peer.now c.put_choice.new.peer c.choice-choice.result c.choose-mv.result _ c.put_choice.result c.in-Some.fault
    (drawn c.args.peer.now _ _ c.choice-choice.result c.choose-mv.result c.fill_bytes.new.dst c.choice-choice.ensures c.choose-mv.ensures.planned c.choose-mv.ensures.kept c.fill_bytes.ensures)
    c.requires.chooses c.choice-choice.ensures c.put_choice.ensures c.in-Some.is

pub returns : goal.returns
returns g c =
    puts_move _ _ c.args.peer.now c.put_choice.new.peer c.choose-mv.result _ c.put_choice.result
    (drawn c.args.peer.now _ _ c.choice-choice.result c.choose-mv.result c.fill_bytes.new.dst c.choice-choice.ensures c.choose-mv.ensures.planned c.choose-mv.ensures.kept c.fill_bytes.ensures)
    c.put_choice.ensures c.in_default.is
