use Rattle.std.proofs.Common.{ℕ, ◌*◌, ap}
use Rattle.peer_window.proofs.Empty.{empty_frames, empty_window}
use Rattle.peer_window.proofs.window.Window.new.Goals as goal

pub returns-clause-window : goal.returns-clause-window
returns-clause-window c = empty_window c.args.session.now c.args.player _ c.in_ok-slots.slots.items c.start_track.result c.requires (ap (λ (n : ℕ). 2 * n) c.turns.ensures.value) c.in_ok-slots.ensures c.start_track.ensures

pub returns-clause-empty : goal.returns-clause-empty
returns-clause-empty c = empty_frames _ c.in_ok-slots.slots.items c.in_ok-slots.ensures
