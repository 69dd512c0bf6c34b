use Rattle.std.proofs.Common.{◌≡◌, ◌*◌, ◌<◌, ◌∙◌, List, Option, ap, arith, length}
use Rattle.std.proofs.lemmas.List.{with_items_is}
use Rattle.definitions.specs.World.{players_of}
use Rattle.peer_window.specs.declared.received.Received.{Received}
use Rattle.peer_window.specs.Windows.{Seen}
use Rattle.peer_window.proofs.Empty.{empty_frames, empty_window}
use Rattle.peer_window.proofs.window.Window.clear.Goals as goal

pub returns-clause-window : goal.returns-clause-window
returns-clause-window c =
    let ss = c.self.inside.slots in
    let as_items = with_items_is ss c.empty.new.slots (omega (arith, c.empty.auto.slots, c.deref_mut.ensures.len)) in
    let places : length c.deref_mut.result.now ≡ 2 * c.args.session.now.turns = ap (λ (xs : List (Option Received)). length xs) c.deref_mut.ensures.value ∙ ap (λ (w : Seen). w.places) c.self.view_is ∙ c.requires.window.places in
    let player : c.self.inside.player < players_of c.args.session.now = omega (arith, ap (λ (w : Seen). w.player) c.self.view_is, c.requires.window.player) in
    empty_window c.args.session.now c.self.inside.player _ _ c.start_track.result player places (as_items ∙ c.empty.ensures) c.start_track.ensures

pub returns-clause-empty : goal.returns-clause-empty
returns-clause-empty c =
    let ss = c.self.inside.slots in
    let as_items = with_items_is ss c.empty.new.slots (omega (arith, c.empty.auto.slots, c.deref_mut.ensures.len)) in
    empty_frames _ _ (as_items ∙ c.empty.ensures)
