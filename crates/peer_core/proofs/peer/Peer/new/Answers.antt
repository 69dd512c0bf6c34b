use Rattle.std.proofs.Common.{refl, sym, subst, ◌≡◌, List, [], ◌∷◌, ◌∙◌, ap, ◌-◌, ◌++◌, arith}
use Rattle.definition_laws.proofs.ForPeers.{honest_empty}
use Rattle.peer_core.proofs.Counted.{counted_fresh}
use Rattle.peer_core.proofs.Peers.{peer_new, room_new, made_empty, tracks_empty}
use Rattle.definitions.specs.declared.logs.Entry.{Entry}
use Rattle.peer_core.specs.Others.{AreOthers}
use Rattle.definitions.specs.declared.world.Track.{Track}
use Rattle.peer_core.proofs.peer.Peer.new.Goals as goal

pub find_needs-requires-clause-honest : goal.find_needs-requires-clause-honest
find_needs-requires-clause-honest c = rw c.as_slice.ensures.value (rw c.in_ok-entries.ensures.items (honest_empty c.args.session.now c.args.me))

pub find_needs-requires-clause-made : goal.find_needs-requires-clause-made
find_needs-requires-clause-made c = rw c.as_slice.ensures.value (rw c.in_ok-entries.ensures.items made_empty)

pub find_needs-requires-clause-tracks : goal.find_needs-requires-clause-tracks
find_needs-requires-clause-tracks c =
    rw c.as_slice.ensures.value (rw c.in_ok-entries.ensures.items (tracks_empty c.args.session.now c.args.me c.start_track.result _ c.start_track.ensures (c.as_slice-2.ensures.value ∙ tracks_is c)))
  where
    tracks_is : (c : goal.After-needs-1) → c.push.new.self.items ≡ c.start_track.result ∷ []
    tracks_is c = rw c.in_ok-push.ensures.items (rw c.in_ok-tracks.ensures.items refl)

pub find_needs-requires-clause-others : goal.find_needs-requires-clause-others
find_needs-requires-clause-others c =
    let IsLog : List Entry → Type 0 = λ h. AreOthers c.args.session.now c.args.me h c.in_ok-known.known in
    subst IsLog (sym (c.as_slice.ensures.value ∙ c.in_ok-entries.ensures.items)) c.in_ok-known.ensures

pub invariant_of-result : goal.invariant_of-result
invariant_of-result c =
    let IsLog : List Entry → Type 0 = λ h. AreOthers c.args.session.now c.args.me h c.find_needs.new.self in (
      peer_new c.args.session.now c.in_ok-copy.copy c.args.me _ c.as_slice.result.now _ _ c.start_track.result _ _ _ c.grid.ensures.session c.requires.player c.in_ok-copy.ensures c.in_ok-entries.ensures.items c.as_slice.ensures.value
          c.in_ok-openings.ensures.items c.in_ok-frames.ensures.items c.start_track.ensures (c.in_ok-push.ensures.items ∙ ap (λ (ts : List Track). ts ++ c.start_track.result ∷ []) c.in_ok-tracks.ensures.items)
          (subst IsLog (c.as_slice.ensures.value ∙ c.in_ok-entries.ensures.items) c.find_needs.ensures.others) c.find_needs.ensures.needs,
      room_new c.args.session.now c.in_ok-copy.copy c.turns-turns.result (c.from-others.result - 1) _ _ _ _ c.in_ok-copy.ensures c.turns-turns.ensures.value (ap (λ n. n - 1) (c.from-others.ensures ∙ c.players.ensures.value))
          c.in_ok-entries.ensures.capacity c.in_ok-openings.ensures.capacity c.in_ok-frames.ensures.capacity (omega (arith, c.in_ok-tracks.ensures.capacity, c.in_ok-push.ensures.capacity)),
      counted_fresh c.args.session.now c.in_ok-copy.copy c.args.me _ c.in_ok-settling.settling c.in_ok-copy.ensures c.in_ok-entries.ensures.items c.requires.player c.in_ok-settling.ensures,
    )
