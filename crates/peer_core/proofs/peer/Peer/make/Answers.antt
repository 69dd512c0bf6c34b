use Rattle.std.proofs.Common.{◌≡◌, ◌∙◌, List, [], ◌∷◌, ◌++◌, ap, sym, subst, length, rules, arith, vec_len}
use Rattle.std.specs.Prelude.{Some}
use Rattle.definitions.specs.declared.world.Track.{Track}
use Rattle.definitions.specs.declared.frames.TurnFrame.{TurnFrame}
use Rattle.definitions.specs.declared.logs.Entry.{Entry}
use Rattle.definitions.specs.declared.logs.Entry.TheVariants.{Made}
use Rattle.definitions.specs.Honest.{IsHonest, made_count}
use Rattle.definitions.specs.Logs.{chosen, made}
use Rattle.definitions.specs.Advance.{next_made}
use Rattle.definitions.specs.Needs.{needs}
use Rattle.peer_core.specs.Others.{AreOthers}
use Rattle.peer_core.proofs.Tables.{others_made}
use Rattle.peer_core.specs.OwnTracks.{AreOwnTracks}
use Rattle.grid_world.proofs.Reveals.{ahead_least}
use Rattle.peer_core.specs.Settling.{IsCounted, IsCounting}
use Rattle.peer_core.proofs.Counted.{counting_on}
use Rattle.peer_core.proofs.Peers.{chosen_made, entry_room, next_inside, next_room, next_honest, frames_made, tracks_made, peer_made, peer_kept}
use Rattle.peer_core.proofs.peer.Peer.make.Goals as goal

pub add-requires : goal.add-requires
add-requires c =
    let next : next_made c.self.inside.session c.self.inside.me c.self.inside.entries.items ≡ Some c.args.frame = next_inside _ _ _ c.self.view_is c.requires in
    let inv = c.self.invariant.0 in
    let len : vec_len c.self.inside.entries ≡ length c.self.inside.entries.items = search rules in
    let few = entry_room c.self.inside.session c.self.inside.me c.self.inside.entries.items (Made c.args.frame) _ c.facts.ensures inv.player (next_honest _ _ _ _ inv.honest next) c.self.invariant.1.entries_fit in
    omega arith

pub add-requires-2 : goal.add-requires-2
add-requires-2 c =
    let next : next_made c.self.inside.session c.self.inside.me c.self.inside.entries.items ≡ Some c.args.frame = next_inside _ _ _ c.self.view_is c.requires in
    let inv = c.self.invariant.0 in
    let few = next_room _ _ _ _ c.self.inside.frames.items c.facts.ensures inv.honest next inv.frames_are in
    let room = c.self.invariant.1.frames_fit in
    omega arith

pub follow-requires-clause-honest : goal.follow-requires-clause-honest
follow-requires-clause-honest c =
    let next : next_made c.self.inside.session c.self.inside.me c.self.inside.entries.items ≡ Some c.args.frame = next_inside _ _ _ c.self.view_is c.requires in
    let inv = c.self.invariant.0 in
    let log : c.as_slice.result.now ≡ c.self.inside.entries.items ++ Made c.args.frame ∷ [] = c.as_slice.ensures.value ∙ c.add.ensures.items in
    let Is : List Entry → Type 0 = λ h. IsHonest c.self.inside.session c.self.inside.me h in
    subst Is (sym log) (next_honest _ _ _ _ inv.honest next)

pub follow-requires-clause-openings : goal.follow-requires-clause-openings
follow-requires-clause-openings c =
    let inv = c.self.invariant.0 in
    let log : c.as_slice.result.now ≡ c.self.inside.entries.items ++ Made c.args.frame ∷ [] = c.as_slice.ensures.value ∙ c.add.ensures.items in
    c.as_slice-2.ensures.value ∙ inv.openings_are ∙ sym (chosen_made c.self.inside.me c.self.inside.entries.items c.args.frame) ∙ ap (λ (h : List Entry). chosen c.self.inside.me h) (sym log)

pub follow-requires-clause-made : goal.follow-requires-clause-made
follow-requires-clause-made c =
    let inv = c.self.invariant.0 in
    let log : c.as_slice.result.now ≡ c.self.inside.entries.items ++ Made c.args.frame ∷ [] = c.as_slice.ensures.value ∙ c.add.ensures.items in
    let count : c.len.result ≡ length c.add-2.new.list.items = search rules in
    let frames : c.add-2.new.list.items ≡ made (c.self.inside.entries.items ++ Made c.args.frame ∷ [])
    = c.add-2.ensures.items ∙ ap (λ (fs : List TurnFrame). fs ++ c.args.frame ∷ []) inv.frames_are ∙ sym (frames_made c.self.inside.entries.items c.args.frame) in
    count ∙ ap (λ (fs : List TurnFrame). length fs) frames ∙ ap (λ (h : List Entry). made_count h) (sym log)

pub follow-requires-clause-tracks : goal.follow-requires-clause-tracks
follow-requires-clause-tracks c =
    let inv = c.self.invariant.0 in
    let log : c.as_slice.result.now ≡ c.self.inside.entries.items ++ Made c.args.frame ∷ [] = c.as_slice.ensures.value ∙ c.add.ensures.items in
    let IsLog : List Entry → Type 0 = λ h. AreOwnTracks c.self.inside.session c.self.inside.me h c.as_slice-3.result.now in
    let Are : List Track → Type 0 = λ ts. AreOwnTracks c.self.inside.session c.self.inside.me (c.self.inside.entries.items ++ Made c.args.frame ∷ []) ts in
    subst IsLog (sym log) (subst Are (sym c.as_slice-3.ensures.value) (tracks_made c.self.inside.session c.self.inside.me c.self.inside.entries.items c.args.frame c.self.inside.tracks.items inv.tracks_are))

pub follow-requires-clause-others : goal.follow-requires-clause-others
follow-requires-clause-others c =
    let inv = c.self.invariant.0 in
    let log : c.as_slice.result.now ≡ c.self.inside.entries.items ++ Made c.args.frame ∷ [] = c.as_slice.ensures.value ∙ c.add.ensures.items in
    let IsLog : List Entry → Type 0 = λ h. AreOthers c.self.inside.session c.self.inside.me h c.self.inside.others in
    subst IsLog (sym log) (others_made c.self.inside.session c.self.inside.me c.self.inside.entries.items c.args.frame c.self.inside.others inv.others_are)

pub follow-requires-clause-counting : goal.follow-requires-clause-counting
follow-requires-clause-counting c =
    let inv = c.self.invariant.0 in
    let log : c.as_slice.result.now ≡ c.self.inside.entries.items ++ Made c.args.frame ∷ [] = c.as_slice.ensures.value ∙ c.add.ensures.items in
    let IsLog : List Entry → Type 0 = λ h. IsCounting c.self.inside.session c.self.inside.me h c.self.inside.settling in
    subst IsLog (sym log) (counting_on c.self.inside.session c.self.inside.me c.self.inside.entries.items (Made c.args.frame ∷ []) c.self.inside.settling (ahead_least c.self.inside.session c.facts.ensures) inv.honest inv.player c.self.invariant.2)

pub invariant_of-self : goal.invariant_of-self
invariant_of-self c =
    let next : next_made c.self.inside.session c.self.inside.me c.self.inside.entries.items ≡ Some c.args.frame = next_inside _ _ _ c.self.view_is c.requires in
    let inv = c.self.invariant.0 in
    let AreAt : List Entry → Type 0 = λ h. AreOthers c.self.inside.session c.self.inside.me h c.follow.new.others in
    let rooms = c.self.invariant.1 in (
      peer_kept c.self.inside.session c.self.inside.me c.add.new.list.items c.self.inside.openings.items c.add-2.new.list.items c.self.inside.tracks.items c.self.inside.others c.follow.new.others c.self.inside.found c.follow.new.needs c.facts.ensures
          (peer_made _ _ _ _ _ _ _ _ _ _ _ _ c.args.frame c.facts.ensures inv next c.add.ensures.items c.add-2.ensures.items
          (c.follow.ensures.needs ∙ ap (λ (h : List Entry). needs c.self.inside.session c.self.inside.me h) c.as_slice.ensures.value))
          (subst AreAt c.as_slice.ensures.value c.follow.ensures.others),
      record {
        entries_fit = omega (arith, rooms.entries_fit, c.add.ensures.capacity);
        openings_fit = rooms.openings_fit;
        frames_fit = omega (arith, rooms.frames_fit, c.add-2.ensures.capacity);
        tracks_fit = rooms.tracks_fit;
      },
      subst (λ (h : List Entry). IsCounted c.self.inside.session c.self.inside.me h c.follow.new.settling) c.as_slice.ensures.value c.follow.ensures.counted,
    )
