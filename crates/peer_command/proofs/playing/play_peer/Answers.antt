use Rattle.std.proofs.Common.{inl, inr, refl}
use Rattle.peer_command.proofs.Played.{a_match}
use Rattle.peer_command.proofs.playing.play_peer.Goals as goal

pub returns : goal.returns
returns g c =
    inr (a_match c.histories_grow_by_items.ensures.prefixes c.given_is_due.ensures c.reveals_given_are_fair.ensures c.kept_logs_are_honest.ensures.honest c.logs_are_runs.ensures c.polls_are_licensed.ensures.failed _ _ c.facts.ensures _
    _ _ _ _ _ _ _ _ _ _ _ c.in-Ok.ensures c.play_out-ended.ensures c.end.ensures)

pub returns-in_default : goal.returns-in_default
returns-in_default g c = inl (record { lacks = refl; calls = refl; chooser = refl; written = refl })
