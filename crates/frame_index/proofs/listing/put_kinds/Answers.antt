use Rattle.frame_index.proofs.Joined.{four_kinds}
use Rattle.frame_index.proofs.listing.put_kinds.Goals as goal

pub returns : goal.returns
returns c logs few turn keeps stand =
    four_kinds c.args.session.now logs c.args.player c.args.turn _ _ _ _ _ _ _ _ _
    (c.two_commits.ensures _ logs _ _ keeps) (c.bad_opening.ensures _ logs _ _ keeps) (c.in_ok-collision.ensures _ logs _ _ keeps) (c.illegal-wrong.ensures logs few turn keeps stand)
    c.in_ok-put.ensures c.in_ok-put-2.ensures c.in_ok-put-3.ensures c.in_ok-put-4.ensures
