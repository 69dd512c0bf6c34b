-- OverSockets: a run over sockets, from what it opened to the end of its loop.
use Rattle.std.proofs.Common.{◌≡◌, ◌⊎◌, inl, inr, ℕ, false, List, Option, refl, ap, sym, subst}
use Rattle.std.specs.Prelude.{Ok, Err}
use Rattle.rand_core.specs.Stream.{Stream}
use Rattle.station.specs.Outside.{Rose}
use Rattle.station.specs.Shelves.{ShelfState}
use Rattle.station.specs.Sinks.{SinkState}
use Rattle.socket_station.specs.Items.{Item}
use Rattle.pilots.specs.Plans.{Plan}
use Rattle.line_io.specs.Files.{Contents}
use Rattle.run_frame.specs.Frame.{Ran}
use Rattle.run_frame.specs.Outside.{CountsFaults, IsApart, Outside, with_sockets}
use Rattle.run_frame.specs.Runs.{Works}
use Rattle.run_frame.specs.declared.statuses.Status.{Status}
use Rattle.own_moves.specs.Choices.{Chooser}
use Rattle.seat_files.specs.declared.seats.Seat.{Seat}
use Rattle.ready_loop.specs.Counts.{held_by}
use Rattle.match_ends.proofs.Ended.{ended_counts}
use Rattle.peer_command.specs.PeerLaw.{IsGoodMatch, IsLasting, PlaysOverSockets, chooser_of, peer_law}
use Rattle.peer_command.specs.Plays as P
use Rattle.seat_files.specs.Seats.{IsSeated, OpensSeat, start_for}
use Rattle.seat_files.specs.Unplayed.{unplayed_answer}
use Rattle.seat_files.specs.Words.{Peering}
use Rattle.seat_files.proofs.Worked as W
use Rattle.peer_command.proofs.PeerHolds.{peer_holds}

module _ (p : Peering) (rest : Outside) (a : SinkState) (h h' : ShelfState) (items : List Item) (chance : Stream) where
  abbrev first : Outside
  first = with_sockets rest a h items chance

  -- the run whose output is this, and whose station and generator did that
  abbrev last : SinkState → List Item → Stream → Outside
  last b items' later = with_sockets rest b h' items' later

  -- ---- nothing to play by

  pub no_seat : (s : Status) → OpensSeat p h h' (Err s) → Works (peer_law p) first (last a items chance) s
  no_seat s o = W.no_seat p (λ due before after status. PlaysOverSockets p due before after status) (λ due answered. IsGoodMatch p due answered.station) IsLasting (peer_holds p) rest.input h h' a items rest.post chance s o

  -- ---- a seat

  module _ (s : Seat) (o : OpensSeat p h h' (Ok s)) (b : SinkState) (items' : List Item) (to : Chooser) where
    -- what its loop plays with
    abbrev seat_start : P.Start
    seat_start = record { peer = s.peer; roster = s.roster; dropped = s.dropped; log = p.log; polls = p.polls }

    abbrev by : Stream → Chooser
    by c = chooser_of (record { begins = record { game = s.peer.game; first = s.peer.entries; dropped = s.dropped }; roster = s.roster; moves = s.pilot }) c

    -- a run leaves the plan as it was
    as_planned : (ended : Status) → P.PlayedOut seat_start (by chance) to items' a b ended → P.PlayedOut seat_start (by chance) (by to.chance) items' a b ended
    as_planned ended some =
        let same : to ≡ by to.chance = ap (λ (plan : Option Plan). let c : Chooser = record { plan = plan; chance = to.chance } in c) some.plays.run.choices.plan in
        subst (λ (c : Chooser). P.PlayedOut seat_start (by chance) c items' a b ended) same some

    counts : (ended : Status) → P.PlaysPeer seat_start (by chance) to items items' a b ended → CountsFaults first (last b items' to.chance) ended
    counts ended (inl none) =
        subst (CountsFaults first (last b items' to.chance)) (sym none.lacks) (record { source = refl; files = o.counted }, ap (λ (x : SinkState). x.faults) none.written)
    counts ended (inr some) = ended_counts first (last b items' to.chance) s.dropped p.polls some.ended some.last.peer (held_by some.last) ended refl o.counted some.written

    worked : (contents : Contents) (source : Type 0) → IsSeated p (start_for p contents) s → (ended : Status) → P.PlaysPeer seat_start (by chance) to items items' a b ended →
        (IsApart first (last b items' to.chance) × Ran a b (unplayed_answer (start_for p contents)) false source (Rose h.faults h'.faults × (rest.input ≡ rest.input)) ended)
        ⊎ PlaysOverSockets p (start_for p contents) first (last b items' to.chance) ended
    worked contents source d ended (inl none) = inl (
      record { station = none.calls; post = refl; chance = ap (λ (c : Chooser). c.chance) none.chooser },
      subst (λ (x : Status). Ran a b (unplayed_answer (start_for p contents)) false source (Rose h.faults h'.faults × (rest.input ≡ rest.input)) x) (sym none.lacks) none.written,
    )
    worked contents source d ended (inr some) = inr (record {
      seating = record { begins = record { game = s.peer.game; first = s.peer.entries; dropped = s.dropped }; roster = s.roster; moves = s.pilot };
      due_is = d.due_is;
      seated = rw (← d.player_is) d.seated;
      honest = rw (← d.player_is) d.honest;
      plays = subst (λ (me : ℕ). P.PlayedOut (record { peer = record { game = s.peer.game; me = me; entries = s.peer.entries }; roster = s.roster; dropped = s.dropped; log = p.log; polls = p.polls }) (by chance) (by to.chance) items' a b ended) d.player_is (as_planned ended some);
    })

    pub a_seat_works : (ended : Status) → P.PlaysPeer seat_start (by chance) to items items' a b ended → Works (peer_law p) first (last b items' to.chance) ended
    a_seat_works ended plays =
        W.a_seat_works p (λ due before after status. PlaysOverSockets p due before after status) (λ due answered. IsGoodMatch p due answered.station) IsLasting (peer_holds p) rest.input h h' s o a b items items' rest.post rest.post chance to.chance ended
        (counts ended plays) (λ contents source d. worked contents source d ended plays)
