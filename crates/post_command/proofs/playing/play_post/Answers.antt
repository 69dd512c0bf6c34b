use Rattle.std.proofs.Common.{inl, inr, refl}
use Rattle.post_command.proofs.Played.{a_match}
use Rattle.post_command.proofs.playing.play_post.Goals as goal

pub returns : goal.returns
returns g c = inr (a_match c.args.peer c.args.roster _ _ _ _ _ _ _ _ _ _ _ c.in-Ok.ensures c.play_out-ended.ensures c.end.ensures)

pub returns-in_default : goal.returns-in_default
returns-in_default g c = inl (record { lacks = refl; calls = refl; chooser = refl; written = refl })
