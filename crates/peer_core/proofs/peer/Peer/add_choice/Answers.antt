use Rattle.std.proofs.Common.{◌≡◌, ◌∙◌, List, [], ◌∷◌, ◌++◌, ap, sym, subst, length, rules, arith, vec_len}
use Rattle.definitions.specs.declared.openings.Opening.{Opening}
use Rattle.definitions.specs.declared.frames.TurnFrame.{TurnFrame}
use Rattle.definitions.specs.declared.logs.Entry.{Entry}
use Rattle.definitions.specs.declared.logs.Entry.TheVariants.{Chose}
use Rattle.definitions.specs.Honest.{IsHonest, made_count}
use Rattle.definitions.specs.Logs.{chosen}
use Rattle.definitions.specs.Needs.{needs}
use Rattle.peer_core.specs.Others.{AreOthers}
use Rattle.peer_core.proofs.Tables.{others_chose}
use Rattle.peer_core.specs.OwnTracks.{AreOwnTracks}
use Rattle.grid_world.proofs.Reveals.{ahead_least}
use Rattle.peer_core.specs.Settling.{IsCounted, IsCounting}
use Rattle.peer_core.proofs.Counted.{counting_on}
use Rattle.peer_core.proofs.Peers.{chosen_chose, entry_room, may_inside, legal_inside, track_inside, choice_honest, choice_room, frames_chose, tracks_chose, peer_chose, peer_kept}
use Rattle.peer_core.proofs.peer.Peer.add_choice.Goals as goal

pub add-requires : goal.add-requires
add-requires c =
    let inv = c.self.invariant.0 in
    let count : c.len-turn.result ≡ length c.self.inside.openings.items = search rules in
    let turn : c.len-turn.result ≡ length (chosen c.self.inside.me c.self.inside.entries.items) = count ∙ ap (λ (os : List Opening). length os) inv.openings_are in
    let honest = choice_honest c.self.inside.session c.self.inside.me c.self.inside.entries.items c.len-turn.result c.args.mv c.args.nonce c.facts.ensures inv.honest
    (may_inside _ _ c.self.view_is c.requires.chooses) (legal_inside _ _ _ c.self.view_is c.requires.legal) turn in
    let len : vec_len c.self.inside.entries ≡ length c.self.inside.entries.items = search rules in
    let few = entry_room c.self.inside.session c.self.inside.me c.self.inside.entries.items (Chose c.len-turn.result c.args.mv c.args.nonce) _ c.facts.ensures inv.player honest c.self.invariant.1.entries_fit in
    omega arith

pub add-requires-2 : goal.add-requires-2
add-requires-2 c =
    let inv = c.self.invariant.0 in
    let count : c.len-turn.result ≡ length c.self.inside.openings.items = search rules in
    let turn : c.len-turn.result ≡ length (chosen c.self.inside.me c.self.inside.entries.items) = count ∙ ap (λ (os : List Opening). length os) inv.openings_are in
    let honest = choice_honest c.self.inside.session c.self.inside.me c.self.inside.entries.items c.len-turn.result c.args.mv c.args.nonce c.facts.ensures inv.honest
    (may_inside _ _ c.self.view_is c.requires.chooses) (legal_inside _ _ _ c.self.view_is c.requires.legal) turn in
    let few = choice_room c.self.inside.session c.self.inside.me c.self.inside.entries.items c.len-turn.result c.args.mv c.args.nonce c.facts.ensures honest in
    let rooms = c.self.invariant.1 in
    omega arith

pub add-requires-3 : goal.add-requires-3
add-requires-3 c =
    let inv = c.self.invariant.0 in
    let count : c.len-turn.result ≡ length c.self.inside.openings.items = search rules in
    let turn : c.len-turn.result ≡ length (chosen c.self.inside.me c.self.inside.entries.items) = count ∙ ap (λ (os : List Opening). length os) inv.openings_are in
    let honest = choice_honest c.self.inside.session c.self.inside.me c.self.inside.entries.items c.len-turn.result c.args.mv c.args.nonce c.facts.ensures inv.honest
    (may_inside _ _ c.self.view_is c.requires.chooses) (legal_inside _ _ _ c.self.view_is c.requires.legal) turn in
    let few = choice_room c.self.inside.session c.self.inside.me c.self.inside.entries.items c.len-turn.result c.args.mv c.args.nonce c.facts.ensures honest in
    let rooms = c.self.invariant.1 in
    omega arith

pub follow-requires-clause-honest : goal.follow-requires-clause-honest
follow-requires-clause-honest c =
    let inv = c.self.invariant.0 in
    let count : c.len-turn.result ≡ length c.self.inside.openings.items = search rules in
    let turn : c.len-turn.result ≡ length (chosen c.self.inside.me c.self.inside.entries.items) = count ∙ ap (λ (os : List Opening). length os) inv.openings_are in
    let honest = choice_honest c.self.inside.session c.self.inside.me c.self.inside.entries.items c.len-turn.result c.args.mv c.args.nonce c.facts.ensures inv.honest
    (may_inside _ _ c.self.view_is c.requires.chooses) (legal_inside _ _ _ c.self.view_is c.requires.legal) turn in
    let log : c.as_slice.result.now ≡ c.self.inside.entries.items ++ Chose c.len-turn.result c.args.mv c.args.nonce ∷ [] = c.as_slice.ensures.value ∙ c.add.ensures.items in
    let Is : List Entry → Type 0 = λ h. IsHonest c.self.inside.session c.self.inside.me h in
    subst Is (sym log) honest

pub follow-requires-clause-openings : goal.follow-requires-clause-openings
follow-requires-clause-openings c =
    let log : c.as_slice.result.now ≡ c.self.inside.entries.items ++ Chose c.len-turn.result c.args.mv c.args.nonce ∷ [] = c.as_slice.ensures.value ∙ c.add.ensures.items in
    let one : Opening = record { player = c.self.inside.me; turn = c.len-turn.result; mv = c.args.mv; nonce = c.args.nonce } in
    c.as_slice-2.ensures.value ∙ c.add-2.ensures.items ∙ ap (λ (os : List Opening). os ++ one ∷ []) c.self.invariant.0.openings_are
    ∙ sym (chosen_chose c.self.inside.me c.self.inside.entries.items c.len-turn.result c.args.mv c.args.nonce) ∙ ap (λ (h : List Entry). chosen c.self.inside.me h) (sym log)

pub follow-requires-clause-made : goal.follow-requires-clause-made
follow-requires-clause-made c =
    let log : c.as_slice.result.now ≡ c.self.inside.entries.items ++ Chose c.len-turn.result c.args.mv c.args.nonce ∷ [] = c.as_slice.ensures.value ∙ c.add.ensures.items in
    let frames : c.len.result ≡ length c.self.inside.frames.items = search rules in
    frames ∙ ap (λ (fs : List TurnFrame). length fs) (c.self.invariant.0.frames_are ∙ sym (frames_chose c.self.inside.entries.items c.len-turn.result c.args.mv c.args.nonce)) ∙ ap (λ (h : List Entry). made_count h) (sym log)

pub follow-requires-clause-tracks : goal.follow-requires-clause-tracks
follow-requires-clause-tracks c =
    let log : c.as_slice.result.now ≡ c.self.inside.entries.items ++ Chose c.len-turn.result c.args.mv c.args.nonce ∷ [] = c.as_slice.ensures.value ∙ c.add.ensures.items in
    let IsLog : List Entry → Type 0 = λ h. AreOwnTracks c.self.inside.session c.self.inside.me h c.as_slice-3.result.now in
    subst IsLog (sym log) (tracks_chose c.self.inside.session c.self.inside.me c.self.inside.entries.items c.len-turn.result c.args.mv c.args.nonce c.self.inside.tracks.items c.as_slice-3.result.now c.args.track
    c.self.invariant.0.tracks_are (track_inside _ _ _ _ c.self.view_is c.requires.track) (c.as_slice-3.ensures.value ∙ c.add-3.ensures.items))

pub follow-requires-clause-others : goal.follow-requires-clause-others
follow-requires-clause-others c =
    let inv = c.self.invariant.0 in
    let log : c.as_slice.result.now ≡ c.self.inside.entries.items ++ Chose c.len-turn.result c.args.mv c.args.nonce ∷ [] = c.as_slice.ensures.value ∙ c.add.ensures.items in
    let IsLog : List Entry → Type 0 = λ h. AreOthers c.self.inside.session c.self.inside.me h c.self.inside.others in
    subst IsLog (sym log) (others_chose c.self.inside.session c.self.inside.me c.len-turn.result c.self.inside.entries.items c.args.mv c.args.nonce c.self.inside.others inv.others_are)

pub follow-requires-clause-counting : goal.follow-requires-clause-counting
follow-requires-clause-counting c =
    let inv = c.self.invariant.0 in
    let log : c.as_slice.result.now ≡ c.self.inside.entries.items ++ Chose c.len-turn.result c.args.mv c.args.nonce ∷ [] = c.as_slice.ensures.value ∙ c.add.ensures.items in
    let IsLog : List Entry → Type 0 = λ h. IsCounting c.self.inside.session c.self.inside.me h c.self.inside.settling in
    subst IsLog (sym log)
    (counting_on c.self.inside.session c.self.inside.me c.self.inside.entries.items (Chose c.len-turn.result c.args.mv c.args.nonce ∷ []) c.self.inside.settling (ahead_least c.self.inside.session c.facts.ensures) inv.honest inv.player
    c.self.invariant.2)

pub invariant_of-self : goal.invariant_of-self
invariant_of-self c =
    let inv = c.self.invariant.0 in
    let count : c.len-turn.result ≡ length c.self.inside.openings.items = search rules in
    let turn : c.len-turn.result ≡ length (chosen c.self.inside.me c.self.inside.entries.items) = count ∙ ap (λ (os : List Opening). length os) inv.openings_are in
    let honest = choice_honest c.self.inside.session c.self.inside.me c.self.inside.entries.items c.len-turn.result c.args.mv c.args.nonce c.facts.ensures inv.honest
    (may_inside _ _ c.self.view_is c.requires.chooses) (legal_inside _ _ _ c.self.view_is c.requires.legal) turn in
    let AreAt : List Entry → Type 0 = λ h. AreOthers c.self.inside.session c.self.inside.me h c.follow.new.others in
    let rooms = c.self.invariant.1 in (
      peer_kept c.self.inside.session c.self.inside.me c.add.new.list.items c.add-2.new.list.items c.self.inside.frames.items c.add-3.new.list.items c.self.inside.others c.follow.new.others c.self.inside.found c.follow.new.needs c.facts.ensures
          (peer_chose c.self.inside.session c.self.inside.me c.self.inside.entries.items _ _ _ _ _ _ _ _ _ _ c.len-turn.result c.args.mv c.args.nonce c.args.track c.facts.ensures inv honest
          (track_inside _ _ _ _ c.self.view_is c.requires.track) c.add.ensures.items c.add-2.ensures.items c.add-3.ensures.items
          (c.follow.ensures.needs ∙ ap (λ (h : List Entry). needs c.self.inside.session c.self.inside.me h) c.as_slice.ensures.value))
          (subst AreAt c.as_slice.ensures.value c.follow.ensures.others),
      record {
        entries_fit = omega (arith, rooms.entries_fit, c.add.ensures.capacity);
        openings_fit = omega (arith, rooms.openings_fit, c.add-2.ensures.capacity);
        frames_fit = rooms.frames_fit;
        tracks_fit = omega (arith, rooms.tracks_fit, c.add-3.ensures.capacity);
      },
      subst (λ (h : List Entry). IsCounted c.self.inside.session c.self.inside.me h c.follow.new.settling) c.as_slice.ensures.value c.follow.ensures.counted,
    )
