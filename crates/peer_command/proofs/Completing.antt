-- Completing: where all is good, a run over sockets comes to its end.
use Rattle.std.proofs.Common.{◌≡◌, ◌⊎◌, inl, inr, ℕ, Bool, List, [], refl, ap, sym, ◌∙◌, subst}
use Rattle.std.specs.Prelude.{Result, Ok}
use Rattle.definitions.specs.declared.world.MoveFault.{MoveFault}
use Rattle.definitions.specs.declared.findings.Finding.{Finding}
use Rattle.definitions.specs.World.{Game}
use Rattle.definition_laws.specs.First.{finding_of_log}
use Rattle.station.specs.Outside.{Rose}
use Rattle.socket_station.specs.Faults.{is_keep_call, is_poll_call}
use Rattle.socket_station.specs.Items.{Item, Call}
use Rattle.run_frame.specs.Outside.{Outside}
use Rattle.run_frame.specs.declared.statuses.Status.{Status}
use Rattle.run_frame.specs.declared.statuses.Status.TheVariants.{Done, GaveUp}
use Rattle.loop_rules.specs.Settings.{Setting}
use Rattle.loop_ends.specs.declared.ends.Ended.{Ended}
use Rattle.loop_ends.specs.declared.ends.Ended.TheVariants as E
use Rattle.own_moves.specs.Making.{IsOwnMove}
use Rattle.ready_loop.specs.Going.{polls_of}
use Rattle.ready_loop.specs.Polling.{StandsEnded}
use Rattle.match_ends.specs.Ends.{status_of}
use Rattle.match_ends.proofs.Ended.{ended_so}
use Rattle.run_frame.specs.FailedCalls.{EndsBy, FailsNone}
use Rattle.peer_command.specs.Faults.{StandsByFaults}
use Rattle.peer_command.specs.PeerLaw.{IsGoodMatch, PlaysOverSockets, chooser_of, log_kept}
use Rattle.seat_files.specs.Seats.{Seating}
use Rattle.seat_files.specs.Words.{Peering}
use Rattle.seat_files.proofs.Legal.{no_finding, no_own_move}

-- no call of a kind failed
no_end : (is_such : Call → Bool) (items : List Item) → FailsNone is_such items → EndsBy is_such items → ⊥
no_end is_such items none b = none b.0 [] b.1 b.2 b.3

-- ---- how a run that was played ends

module _ (p : Peering) (due : Result Seating Status) (before after : Outside) (status : Status) (good : IsGoodMatch p due after.station) (written : ¬ Rose before.output.faults after.output.faults)
    (d : PlaysOverSockets p due before after status) where
  same_seating : d.seating ≡ good.seating
  same_seating = (let e : Ok d.seating ≡ Ok good.seating = sym d.due_is ∙ good.due_is in cc)

  told : (ended : Ended) → d.plays.ended ≡ ended → status ≡ status_of ended
  told ended e = ended_so before.output after.output _ _ d.plays.ended _ _ status written d.plays.written ∙ ap status_of e

  -- the peer at the end has the session, the player and the log that was kept
  game : d.plays.last.peer.game ≡ good.seating.begins.game
  game = ap (λ (s : Setting). s.game) d.plays.plays.run.setting ∙ ap (λ (s : Seating). s.begins.game) same_seating

  me : d.plays.last.peer.me ≡ p.player
  me = ap (λ (s : Setting). s.me) d.plays.plays.run.setting

  log : (d.plays.ended ≡ E.KeepFault → ⊥) → d.plays.last.peer.entries ≡ log_kept p good.seating after.station
  log whole = sym (d.plays.plays.run.kept whole) ∙ sym d.plays.plays.run.history.kept ∙ ap (λ (s : Seating). log_kept p s after.station) same_seating

  stands : (ended : Ended) → d.plays.ended ≡ ended → StandsEnded (chooser_of d.seating before.chance).plan p.polls (polls_of after.station) ended d.plays.last
  stands ended e = subst (λ (x : Ended). StandsEnded (chooser_of d.seating before.chance).plan p.polls (polls_of after.station) x d.plays.last) e d.plays.plays.run.stands

  caught : (f : Finding) → d.plays.ended ≡ E.Caught f → ⊥
  caught f e =
      let whole : d.plays.ended ≡ E.KeepFault → ⊥ = λ k. (let x : E.Caught f ≡ E.KeepFault = sym e ∙ k in cc) in
      no_finding good.seating.begins.game (log_kept p good.seating after.station) f good.clean
      (ap (λ (x : Game). finding_of_log x (log_kept p good.seating after.station)) (sym game) ∙ ap (finding_of_log d.plays.last.peer.game) (sym (log whole)) ∙ (stands (E.Caught f) e).1)

  refused : (turn : ℕ) (fault : MoveFault) → d.plays.ended ≡ E.OwnMove turn fault → ⊥
  refused turn fault e =
      let whole : d.plays.ended ≡ E.KeepFault → ⊥ = λ k. (let x : E.OwnMove turn fault ≡ E.KeepFault = sym e ∙ k in cc) in
      let w : IsOwnMove (chooser_of d.seating before.chance).plan turn fault d.plays.last.peer = (stands (E.OwnMove turn fault) e).1 in
      by_text turn fault w (log whole)
    where
      by_text : (turn : ℕ) (fault : MoveFault) → IsOwnMove (chooser_of d.seating before.chance).plan turn fault d.plays.last.peer → d.plays.last.peer.entries ≡ log_kept p good.seating after.station → ⊥
      by_text turn fault w same =
          no_own_move good.seating.begins.game p.player (log_kept p good.seating after.station) good.seating.moves d.plays.last.peer game me same good.legal
          d.seating.moves (ap (λ (s : Seating). s.moves) same_seating) turn fault w.mv w.chooses w.turn_is w.planned w.refused

  go : (ended : Ended) → d.plays.ended ≡ ended → (status ≡ Done) ⊎ (status ≡ GaveUp)
  go E.Done e = inl (told E.Done e)
  go (E.Caught f) e = absurd (caught f e)
  go E.PollFault e = absurd (no_end is_poll_call after.station good.calls.1 (subst (λ (x : Ended). StandsByFaults x after.station) e d.plays.plays.faults))
  go E.KeepFault e = absurd (no_end is_keep_call after.station good.calls.0 (subst (λ (x : Ended). StandsByFaults x after.station) e d.plays.plays.faults))
  go (E.OwnMove turn fault) e = absurd (refused turn fault e)
  go E.GaveUp e = inr (told E.GaveUp e)

  pub comes : (status ≡ Done) ⊎ (status ≡ GaveUp)
  comes = go d.plays.ended refl
