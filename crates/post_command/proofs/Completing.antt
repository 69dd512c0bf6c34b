-- Completing: where all is good, a run over datagrams comes to its end.
use Rattle.std.proofs.Common.{◌≡◌, ◌⊎◌, inl, inr, ℕ, List, refl, ap, sym, ◌∙◌, subst}
use Rattle.std.specs.Prelude.{Option, Result, Ok}
use Rattle.definitions.specs.declared.world.MoveFault.{MoveFault}
use Rattle.definitions.specs.declared.findings.Finding.{Finding}
use Rattle.definitions.specs.World.{Game}
use Rattle.definition_laws.specs.First.{finding_of_log}
use Rattle.station.specs.Outside.{Rose}
use Rattle.datagram_post.specs.Faults.{is_keep_call, is_poll_call}
use Rattle.datagram_post.specs.Items.{Item}
use Rattle.pilots.specs.Plans.{Plan}
use Rattle.own_moves.specs.Making.{IsOwnMove}
use Rattle.run_frame.specs.Outside.{Outside}
use Rattle.run_frame.specs.declared.statuses.Status.{Status}
use Rattle.run_frame.specs.declared.statuses.Status.TheVariants.{Done, GaveUp}
use Rattle.peer_rules.specs.declared.phases.Phase.TheVariants.{Running, KeepFault, PollFault}
use Rattle.loop_ends.specs.declared.ends.Ended.{Ended}
use Rattle.loop_ends.specs.declared.ends.Ended.TheVariants as E
use Rattle.post_rules.specs.Views.{Setting, View, start}
use Rattle.post_rules.specs.After.{view_after}
use Rattle.post_rules.specs.Laws.{view_at}
use Rattle.datagram_loop.specs.States.{LoopState}
use Rattle.datagram_loop.specs.Playing.{StandsEnded}
use Rattle.match_ends.specs.Ends.{status_of}
use Rattle.match_ends.proofs.Ended.{ended_so}
use Rattle.seat_files.specs.Seats.{Seating}
use Rattle.seat_files.specs.Words.{Peering}
use Rattle.seat_files.proofs.Legal.{no_finding, no_own_move}
use Rattle.post_command.specs.Faults.{StandsByFaults}
use Rattle.post_command.specs.Plays.{polls_of}
use Rattle.post_command.specs.PostLaw.{IsGoodPost, PlaysOverDatagrams, chooser_of, log_kept, setting_by}
use Rattle.post_command.proofs.Failures.{no_end}
use Rattle.post_command.proofs.Kept.{kept_at_once}

-- a run that ends otherwise than by its log shows no fault of that
running_not : (m : LoopState) → m.phase ≡ Running → m.phase ≡ KeepFault → ⊥
running_not m r k = let x : Running ≡ KeepFault = sym r ∙ k in cc

polls_not : (m : LoopState) → m.phase ≡ PollFault → m.phase ≡ KeepFault → ⊥
polls_not m r k = let x : PollFault ≡ KeepFault = sym r ∙ k in cc

keeps_on : (plan : Option Plan) (granted made : ℕ) (ended : Ended) (v : View) (m : LoopState) → StandsEnded plan granted made ended v m → (ended ≡ E.KeepFault → ⊥) → m.phase ≡ KeepFault → ⊥
keeps_on plan granted made E.KeepFault v m w whole = absurd (whole refl)
keeps_on plan granted made E.PollFault v m w whole = polls_not m w.fault
keeps_on plan granted made E.Done v m w whole = running_not m w.0.running
keeps_on plan granted made (E.Caught f) v m w whole = running_not m w.0.running
keeps_on plan granted made (E.OwnMove turn fault) v m w whole = running_not m w.0.running
keeps_on plan granted made E.GaveUp v m w whole = running_not m w.ready.running

module _ (p : Peering) (due : Result Seating Status) (before after : Outside) (status : Status) (good : IsGoodPost p due after.post) (written : ¬ Rose before.output.faults after.output.faults)
    (d : PlaysOverDatagrams p due before after status) where
  same_seating : d.seating ≡ good.seating
  same_seating = (let e : Ok d.seating ≡ Ok good.seating = sym d.due_is ∙ good.due_is in cc)

  told : (ended : Ended) → d.plays.ended ≡ ended → status ≡ status_of ended
  told ended e = ended_so before.output after.output _ _ d.plays.ended _ _ status written d.plays.written ∙ ap status_of e

  -- the peer at the end has the session, the player and the log that was kept
  game : d.plays.last.peer.game ≡ good.seating.begins.game
  game = ap (λ (s : Setting). s.game) d.plays.plays.run.told.setting ∙ ap (λ (s : Seating). s.begins.game) same_seating

  me : d.plays.last.peer.me ≡ p.player
  me = ap (λ (s : Setting). s.me) d.plays.plays.run.told.setting

  abbrev shown : View
  shown = view_at (setting_by p d.seating) d.plays.plays.front d.plays.plays.stretch

  log : (d.plays.ended ≡ E.KeepFault → ⊥) → d.plays.last.peer.entries ≡ log_kept p good.seating after.post
  log whole =
      let kept = d.plays.plays.run.kept (keeps_on _ _ _ d.plays.ended shown d.plays.last d.plays.plays.stands whole) in
      sym kept ∙ sym (ap (λ (v : View). v.kept) d.plays.plays.run.told.shows)
      ∙ kept_at_once (setting_by p d.seating) d.plays.plays.front d.plays.plays.stretch
      ∙ ap (λ (items : List Item). (view_after (start (setting_by p d.seating)) items).kept) (sym d.plays.plays.run.told.all)
      ∙ ap (λ (s : Seating). log_kept p s after.post) same_seating

  stands : (ended : Ended) → d.plays.ended ≡ ended → StandsEnded (chooser_of d.seating before.chance).plan p.polls (polls_of after.post) ended shown d.plays.last
  stands ended e = subst (λ (x : Ended). StandsEnded (chooser_of d.seating before.chance).plan p.polls (polls_of after.post) x shown d.plays.last) e d.plays.plays.stands

  caught : (f : Finding) → d.plays.ended ≡ E.Caught f → ⊥
  caught f e =
      let whole : d.plays.ended ≡ E.KeepFault → ⊥ = λ k. (let x : E.Caught f ≡ E.KeepFault = sym e ∙ k in cc) in
      no_finding good.seating.begins.game (log_kept p good.seating after.post) f good.clean
      (ap (λ (x : Game). finding_of_log x (log_kept p good.seating after.post)) (sym game) ∙ ap (finding_of_log d.plays.last.peer.game) (sym (log whole)) ∙ (stands (E.Caught f) e).1)

  refused : (turn : ℕ) (fault : MoveFault) → d.plays.ended ≡ E.OwnMove turn fault → ⊥
  refused turn fault e =
      let whole : d.plays.ended ≡ E.KeepFault → ⊥ = λ k. (let x : E.OwnMove turn fault ≡ E.KeepFault = sym e ∙ k in cc) in
      let w : IsOwnMove (chooser_of d.seating before.chance).plan turn fault d.plays.last.peer = (stands (E.OwnMove turn fault) e).1 in
      by_text w (log whole)
    where
      by_text : IsOwnMove (chooser_of d.seating before.chance).plan turn fault d.plays.last.peer → d.plays.last.peer.entries ≡ log_kept p good.seating after.post → ⊥
      by_text w same =
          no_own_move good.seating.begins.game p.player (log_kept p good.seating after.post) good.seating.moves d.plays.last.peer game me same good.legal
          d.seating.moves (ap (λ (s : Seating). s.moves) same_seating) turn fault w.mv w.chooses w.turn_is w.planned w.refused

  go : (ended : Ended) → d.plays.ended ≡ ended → (status ≡ Done) ⊎ (status ≡ GaveUp)
  go E.Done e = inl (told E.Done e)
  go (E.Caught f) e = absurd (caught f e)
  go E.PollFault e = absurd (no_end is_poll_call after.post good.calls.1 (subst (λ (x : Ended). StandsByFaults x after.post) e d.plays.plays.faults))
  go E.KeepFault e = absurd (no_end is_keep_call after.post good.calls.0 (subst (λ (x : Ended). StandsByFaults x after.post) e d.plays.plays.faults))
  go (E.OwnMove turn fault) e = absurd (refused turn fault e)
  go E.GaveUp e = inr (told E.GaveUp e)

  pub comes : (status ≡ Done) ⊎ (status ≡ GaveUp)
  comes = go d.plays.ended refl
