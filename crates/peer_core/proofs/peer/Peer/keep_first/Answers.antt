use Rattle.std.proofs.Common.{◌≡◌, ◌<◌, ◌^◌, ◌∙◌, List, [], ap, sym, subst, length, take, rules, arith}
use Rattle.std.specs.Prelude.{None}
use Rattle.definitions.specs.declared.logs.Entry.{Entry}
use Rattle.definitions.specs.declared.logs.Entry.TheVariants.{Chose}
use Rattle.definitions.specs.declared.world.Track.{Track}
use Rattle.definitions.specs.Honest.{IsHonest}
use Rattle.definitions.specs.Logs.{chosen}
use Rattle.definitions.specs.Needs.{needs}
use Rattle.peer_core.specs.OwnTracks.{AreOwnTracks}
use Rattle.peer_core.specs.Others.{AreOthers}
use Rattle.peer_core.specs.Settling.{IsCounted}
use Rattle.peer_core.proofs.Counted.{chosen_few}
use Rattle.peer_core.proofs.FirstEntries.{counting_none, first_chosen, first_count, first_honest, first_own_tracks, peer_first, unmade_inside, within_inside}
use Rattle.peer_core.proofs.peer.Peer.keep_first.Goals as goal

-- an entry that stands for none
blank : Entry
blank = Chose 0 (record { to = record { x = 0; y = 0 }; strike = None }) (record { bytes = [] })

pub overflow_add-chosen : goal.overflow_add-chosen
overflow_add-chosen c =
    let inv = c.self.invariant.0 in
    let log : c.as_slice-entries.result.now ≡ take c.args.keep c.self.inside.entries.items = c.as_slice-entries.ensures.value ∙ c.truncate.ensures.items in
    let few = chosen_few c.self.inside.session c.self.inside.me (take c.args.keep c.self.inside.entries.items) c.facts.ensures (first_honest c.self.inside.session c.self.inside.me c.args.keep c.self.inside.entries.items inv.honest) in
    let count = c.count_chosen-chosen.ensures ∙ ap (λ (h : List Entry). length (chosen c.self.inside.me h)) log in
    let turns = inv.few_turns in
    let small : c.count_chosen-chosen.result < 2 ^ 32 = omega (arith, few, count, turns) in
    search rules

pub hear_all-requires-clause-honest : goal.hear_all-requires-clause-honest
hear_all-requires-clause-honest c =
    let inv = c.self.invariant.0 in
    let log : c.as_slice-entries.result.now ≡ take c.args.keep c.self.inside.entries.items = c.as_slice-entries.ensures.value ∙ c.truncate.ensures.items in
    let Is : List Entry → Type 0 = λ h. IsHonest c.self.inside.session c.self.inside.me h in
    subst Is (sym log) (first_honest c.self.inside.session c.self.inside.me c.args.keep c.self.inside.entries.items inv.honest)

pub follow-requires-clause-honest : goal.follow-requires-clause-honest
follow-requires-clause-honest c =
    let inv = c.self.invariant.0 in
    let log : c.as_slice-entries.result.now ≡ take c.args.keep c.self.inside.entries.items = c.as_slice-entries.ensures.value ∙ c.truncate.ensures.items in
    let Is : List Entry → Type 0 = λ h. IsHonest c.self.inside.session c.self.inside.me h in
    subst Is (sym log) (first_honest c.self.inside.session c.self.inside.me c.args.keep c.self.inside.entries.items inv.honest)

pub follow-requires-clause-openings : goal.follow-requires-clause-openings
follow-requires-clause-openings c =
    let inv = c.self.invariant.0 in
    let log : c.as_slice-entries.result.now ≡ take c.args.keep c.self.inside.entries.items = c.as_slice-entries.ensures.value ∙ c.truncate.ensures.items in
    let count = c.count_chosen-chosen.ensures ∙ ap (λ (h : List Entry). length (chosen c.self.inside.me h)) log in
    c.as_slice-2.ensures.value ∙ c.truncate-2.ensures.items ∙ first_chosen c.self.inside.me c.args.keep c.count_chosen-chosen.result c.self.inside.entries.items c.self.inside.openings.items inv.openings_are count
    ∙ ap (λ (h : List Entry). chosen c.self.inside.me h) (sym log)

pub follow-requires-clause-made : goal.follow-requires-clause-made
follow-requires-clause-made c =
    let inv = c.self.invariant.0 in
    let log : c.as_slice-entries.result.now ≡ take c.args.keep c.self.inside.entries.items = c.as_slice-entries.ensures.value ∙ c.truncate.ensures.items in
    let count : c.len-2.result ≡ length c.self.inside.frames.items = search rules in
    first_count c.args.keep c.len-2.result c.self.inside.entries.items c.as_slice-entries.result.now c.self.inside.frames.items count inv.frames_are
    (unmade_inside c.args.self.now _ c.args.keep c.self.view_is c.requires.unmade) log

pub follow-requires-clause-tracks : goal.follow-requires-clause-tracks
follow-requires-clause-tracks c =
    let inv = c.self.invariant.0 in
    let log : c.as_slice-entries.result.now ≡ take c.args.keep c.self.inside.entries.items = c.as_slice-entries.ensures.value ∙ c.truncate.ensures.items in
    let count = c.count_chosen-chosen.ensures ∙ ap (λ (h : List Entry). length (chosen c.self.inside.me h)) log in
    let IsLog : List Entry → Type 0 = λ h. AreOwnTracks c.self.inside.session c.self.inside.me h c.as_slice-3.result.now in
    let Are : List Track → Type 0 = λ ts. AreOwnTracks c.self.inside.session c.self.inside.me (take c.args.keep c.self.inside.entries.items) ts in
    subst IsLog (sym log) (subst Are (sym (c.as_slice-3.ensures.value ∙ c.truncate-3.ensures.items))
    (first_own_tracks c.self.inside.session c.self.inside.me c.args.keep c.count_chosen-chosen.result c.self.inside.entries.items c.self.inside.tracks.items inv.tracks_are count))

pub follow-requires-clause-counting : goal.follow-requires-clause-counting
follow-requires-clause-counting c =
    let inv = c.self.invariant.0 in
    counting_none c.self.inside.session c.self.inside.me c.as_slice-entries.result.now c.restart.new.self c.facts.ensures inv.player c.restart.ensures

pub invariant_of-self : goal.invariant_of-self
invariant_of-self c =
    let inv = c.self.invariant.0 in
    let rooms = c.self.invariant.1 in
    let log : c.as_slice-entries.result.now ≡ take c.args.keep c.self.inside.entries.items = c.as_slice-entries.ensures.value ∙ c.truncate.ensures.items in
    let count = c.count_chosen-chosen.ensures ∙ ap (λ (h : List Entry). length (chosen c.self.inside.me h)) log in
    let len : c.len.result ≡ length c.self.inside.entries.items = search rules in
    let lt = within_inside c.args.self.now _ c.args.keep c.len.result c.self.view_is c.requires.few len c.if-keep-len.false in
    let AreAt : List Entry → Type 0 = λ h. AreOthers c.self.inside.session c.self.inside.me h c.follow.new.others in
    let all = subst AreAt c.as_slice-entries.ensures.value c.follow.ensures.others in (
      peer_first c.self.inside.session c.self.inside.me c.args.keep c.count_chosen-chosen.result c.self.inside.entries.items c.truncate.new.self.items c.self.inside.openings.items c.truncate-2.new.self.items
          c.self.inside.frames.items c.self.inside.tracks.items c.truncate-3.new.self.items c.self.inside.others c.follow.new.others c.self.inside.found c.self.inside.needs c.follow.new.needs blank c.facts.ensures inv lt
          (unmade_inside c.args.self.now _ c.args.keep c.self.view_is c.requires.unmade) c.truncate.ensures.items count c.truncate-2.ensures.items c.truncate-3.ensures.items all
          (c.follow.ensures.needs ∙ ap (λ (h : List Entry). needs c.self.inside.session c.self.inside.me h) c.as_slice-entries.ensures.value),
      record {
        entries_fit = omega (arith, rooms.entries_fit, c.truncate.ensures.capacity);
        openings_fit = omega (arith, rooms.openings_fit, c.truncate-2.ensures.capacity);
        frames_fit = rooms.frames_fit;
        tracks_fit = omega (arith, rooms.tracks_fit, c.truncate-3.ensures.capacity);
      },
      subst (λ (h : List Entry). IsCounted c.self.inside.session c.self.inside.me h c.follow.new.settling) c.as_slice-entries.ensures.value c.follow.ensures.counted,
    )
