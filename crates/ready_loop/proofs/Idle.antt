-- Idle: what is shown where no frame waits.
use Rattle.std.proofs.Common.{◌≡◌, ℕ, true, sym, ap, ◌∙◌, List, [], length}
use Rattle.std.specs.Prelude.{drop, take}
use Rattle.std.proofs.Math.Seq.{take-length}
use Rattle.std.proofs.lemmas.Bool.{and_from}
use Rattle.definitions.specs.Findings.{is_clean}
use Rattle.definitions.specs.declared.logs.Entry.{Entry}
use Rattle.definitions.specs.Held.{next_place}
use Rattle.peer_rules.specs.declared.arrivals.Arrival.{Arrival}
use Rattle.loop_rules.specs.Hearing.{Hearer}
use Rattle.loop_rules.specs.Handling.{hearer_of, sorted}
use Rattle.peer_rules.specs.Phases.{is_running}
use Rattle.loop_rules.specs.Rules.{is_serving}
use Rattle.ready_loop.specs.Hearers.{hearer_by}
use Rattle.ready_loop.specs.States.{LoopState, kept_of, base_of, view_of}
use Rattle.ready_loop.specs.Going.{IsIdle}

-- where no frame waits, the view is what the loop knows
pub still_view : (l : LoopState) → l.table.waiting ≡ [] → l.handled ≡ 0 → view_of l ≡ base_of l
still_view l none first =
    ap (λ (n : ℕ). sorted (drop n l.table.waiting) (base_of l)) first
    ∙ ap (λ (ws : List Arrival). sorted ws (base_of l)) none
    ∙ ap (λ (ws : List Arrival). record (base_of l) { table = record l.table { waiting = ws } }) (sym none)

pub idle_view : (l : LoopState) → IsIdle l → view_of l ≡ base_of l
idle_view l w = still_view l w.waiting w.handled

pub all_kept : (l : LoopState) → l.kept ≡ length l.peer.entries → kept_of l ≡ l.peer.entries
all_kept l e = ap (λ (n : ℕ). take n l.peer.entries) e ∙ take-length l.peer.entries

-- who hears is the peer
pub hearer_same : (l : LoopState) → l.kept ≡ length l.peer.entries → hearer_of (base_of l) ≡ hearer_by l.peer
hearer_same l e = ap {B = Hearer} (λ (h : List Entry). record { id = l.peer.game.id; next = next_place l.peer.game l.peer.me h }) (all_kept l e)

-- a loop that listens, and whose log has no finding, is one that serves its sockets
pub serves_on : (l : LoopState) → IsIdle l → is_clean l.peer.game l.peer.entries ≡ true → is_serving (base_of l) ≡ true
serves_on l w clean = and_from _ _ (ap is_running w.running) (ap (is_clean l.peer.game) (all_kept l w.kept) ∙ clean)
