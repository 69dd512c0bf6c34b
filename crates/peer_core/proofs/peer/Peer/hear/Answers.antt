use Rattle.std.proofs.Common.{◌≡◌, ◌∙◌, List, [], ◌∷◌, ◌++◌, ap, sym, subst, length, rules, arith, vec_len}
use Rattle.definitions.specs.declared.world.Track.{Track}
use Rattle.definitions.specs.declared.frames.TurnFrame.{TurnFrame}
use Rattle.definitions.specs.declared.logs.Entry.{Entry}
use Rattle.definitions.specs.declared.logs.Entry.TheVariants.{Got}
use Rattle.definitions.specs.Honest.{IsHonest, made_count}
use Rattle.definitions.specs.Needs.{needs}
use Rattle.definition_laws.specs.First.{finding_of_log}
use Rattle.definition_laws.proofs.Replied.{log_stays_honest}
use Rattle.peer_core.specs.OwnTracks.{AreOwnTracks}
use Rattle.peer_core.specs.Others.{AreOthers}
use Rattle.peer_core.proofs.Answering.{logged_none, caught_first}
use Rattle.definitions.specs.Logs.{chosen}
use Rattle.grid_world.proofs.Reveals.{ahead_least}
use Rattle.peer_core.specs.Settling.{IsCounted, IsCounting}
use Rattle.peer_core.proofs.Counted.{counting_on}
use Rattle.peer_core.proofs.Peers.{chosen_got, entry_room, log_few, answer_by, others_logged, others_unlogged, state_logged, state_unlogged, made_got, tracks_got, peer_got, peer_kept}
use Rattle.peer_core.proofs.peer.Peer.hear.Goals as goal

pub offer-answer-requires-clause-few : goal.offer-answer-requires-clause-few
offer-answer-requires-clause-few c =
    let inv = c.self.invariant.0 in
    log_few c.self.inside.session c.self.inside.me c.self.inside.entries.items c.as_slice.result.now c.facts.ensures inv.player inv.honest c.as_slice.ensures.value

pub add-requires : goal.add-requires
add-requires c =
    let inv = c.self.invariant.0 in
    let answer = answer_by c.self.inside.session c.self.inside.me c.args.from c.self.inside.entries.items c.as_slice.result.now c.args.frame.now c.offer-answer.result c.as_slice.ensures.value c.offer-answer.ensures.answer in
    let none = logged_none c.self.inside.session c.self.inside.me c.self.inside.entries.items c.args.from c.args.frame.now c.offer-answer.result answer (sym c.is_logged.ensures ∙ c.if-is_logged.true) in
    let honest = log_stays_honest c.self.inside.session c.self.inside.me c.args.from c.self.inside.entries.items c.args.frame.now inv.honest none in
    let len : vec_len c.self.inside.entries ≡ length c.self.inside.entries.items = search rules in
    let few = entry_room c.self.inside.session c.self.inside.me c.self.inside.entries.items (Got c.args.from c.args.frame.now) _ c.facts.ensures inv.player honest c.self.invariant.1.entries_fit in
    omega arith

pub follow-requires-clause-honest : goal.follow-requires-clause-honest
follow-requires-clause-honest c =
    let answer = answer_by c.self.inside.session c.self.inside.me c.args.from c.self.inside.entries.items c.as_slice.result.now c.args.frame.now c.offer-answer.result c.as_slice.ensures.value c.offer-answer.ensures.answer in
    let none = logged_none c.self.inside.session c.self.inside.me c.self.inside.entries.items c.args.from c.args.frame.now c.offer-answer.result answer (sym c.is_logged.ensures ∙ c.if-is_logged.true) in
    let log : c.as_slice-then-is_logged.result.now ≡ c.self.inside.entries.items ++ Got c.args.from c.args.frame.now ∷ [] = c.as_slice-then-is_logged.ensures.value ∙ c.add.ensures.items in
    let Is : List Entry → Type 0 = λ h. IsHonest c.self.inside.session c.self.inside.me h in
    subst Is (sym log) (log_stays_honest c.self.inside.session c.self.inside.me c.args.from c.self.inside.entries.items c.args.frame.now c.self.invariant.0.honest none)

pub follow-requires-clause-openings : goal.follow-requires-clause-openings
follow-requires-clause-openings c =
    let log : c.as_slice-then-is_logged.result.now ≡ c.self.inside.entries.items ++ Got c.args.from c.args.frame.now ∷ [] = c.as_slice-then-is_logged.ensures.value ∙ c.add.ensures.items in
    c.as_slice-then-is_logged-2.ensures.value ∙ c.self.invariant.0.openings_are ∙ sym (chosen_got c.self.inside.me c.args.from c.self.inside.entries.items c.args.frame.now) ∙ ap (λ (h : List Entry). chosen c.self.inside.me h) (sym log)

pub follow-requires-clause-made : goal.follow-requires-clause-made
follow-requires-clause-made c =
    let log : c.as_slice-then-is_logged.result.now ≡ c.self.inside.entries.items ++ Got c.args.from c.args.frame.now ∷ [] = c.as_slice-then-is_logged.ensures.value ∙ c.add.ensures.items in
    let count : c.len.result ≡ length c.self.inside.frames.items = search rules in
    count ∙ ap (λ (fs : List TurnFrame). length fs) (c.self.invariant.0.frames_are ∙ sym (made_got c.args.from c.self.inside.entries.items c.args.frame.now)) ∙ ap (λ (h : List Entry). made_count h) (sym log)

pub follow-requires-clause-tracks : goal.follow-requires-clause-tracks
follow-requires-clause-tracks c =
    let log : c.as_slice-then-is_logged.result.now ≡ c.self.inside.entries.items ++ Got c.args.from c.args.frame.now ∷ [] = c.as_slice-then-is_logged.ensures.value ∙ c.add.ensures.items in
    let IsLog : List Entry → Type 0 = λ h. AreOwnTracks c.self.inside.session c.self.inside.me h c.as_slice-then-is_logged-3.result.now in
    let Are : List Track → Type 0 = λ ts. AreOwnTracks c.self.inside.session c.self.inside.me (c.self.inside.entries.items ++ Got c.args.from c.args.frame.now ∷ []) ts in
    subst IsLog (sym log) (subst Are (sym c.as_slice-then-is_logged-3.ensures.value)
    (tracks_got c.self.inside.session c.self.inside.me c.args.from c.self.inside.entries.items c.args.frame.now c.self.inside.tracks.items c.self.invariant.0.tracks_are))

pub follow-requires-clause-others : goal.follow-requires-clause-others
follow-requires-clause-others c =
    let answer = answer_by c.self.inside.session c.self.inside.me c.args.from c.self.inside.entries.items c.as_slice.result.now c.args.frame.now c.offer-answer.result c.as_slice.ensures.value c.offer-answer.ensures.answer in
    others_logged c.self.inside.session c.self.inside.me c.args.from c.self.inside.entries.items c.as_slice.result.now c.as_slice-then-is_logged.result.now c.args.frame.now c.offer-answer.result c.offer-answer.new.self
    c.as_slice.ensures.value answer (sym c.is_logged.ensures ∙ c.if-is_logged.true) (c.as_slice-then-is_logged.ensures.value ∙ c.add.ensures.items) c.offer-answer.ensures.others

pub follow-requires-clause-counting : goal.follow-requires-clause-counting
follow-requires-clause-counting c =
    let inv = c.self.invariant.0 in
    let log : c.as_slice-then-is_logged.result.now ≡ c.self.inside.entries.items ++ Got c.args.from c.args.frame.now ∷ [] = c.as_slice-then-is_logged.ensures.value ∙ c.add.ensures.items in
    let IsLog : List Entry → Type 0 = λ h. IsCounting c.self.inside.session c.self.inside.me h c.self.inside.settling in
    subst IsLog (sym log)
    (counting_on c.self.inside.session c.self.inside.me c.self.inside.entries.items (Got c.args.from c.args.frame.now ∷ []) c.self.inside.settling (ahead_least c.self.inside.session c.facts.ensures) inv.honest inv.player c.self.invariant.2)

pub invariant_of-self : goal.invariant_of-self
invariant_of-self c =
    let inv = c.self.invariant.0 in
    let rooms = c.self.invariant.1 in
    let logged = sym c.is_logged.ensures ∙ c.if-is_logged.true in
    let answer = answer_by c.self.inside.session c.self.inside.me c.args.from c.self.inside.entries.items c.as_slice.result.now c.args.frame.now c.offer-answer.result c.as_slice.ensures.value c.offer-answer.ensures.answer in
    let none = logged_none c.self.inside.session c.self.inside.me c.self.inside.entries.items c.args.from c.args.frame.now c.offer-answer.result answer logged in
    let AreAt : List Entry → Type 0 = λ h. AreOthers c.self.inside.session c.self.inside.me h c.follow.new.others in
    let first = c.caught_in-self-inside.ensures ∙ caught_first c.self.inside.session c.self.inside.me c.self.inside.entries.items c.args.from c.args.frame.now c.offer-answer.result answer logged ∙
    ap (λ (h : List Entry). finding_of_log c.self.inside.session h) (sym c.add.ensures.items) in (
      peer_got c.self.inside.session c.self.inside.me c.args.from c.self.inside.entries.items c.add.new.list.items c.args.frame.now c.self.inside.openings.items c.self.inside.frames.items c.self.inside.tracks.items
          c.self.inside.others c.follow.new.others c.self.inside.found c.caught_in-self-inside.result c.self.inside.needs c.follow.new.needs c.facts.ensures inv none
          c.add.ensures.items (subst AreAt c.as_slice-then-is_logged.ensures.value c.follow.ensures.others) first
          (c.follow.ensures.needs ∙ ap (λ (h : List Entry). needs c.self.inside.session c.self.inside.me h) c.as_slice-then-is_logged.ensures.value),
      record {
        entries_fit = omega (arith, rooms.entries_fit, c.add.ensures.capacity);
        openings_fit = rooms.openings_fit;
        frames_fit = rooms.frames_fit;
        tracks_fit = rooms.tracks_fit;
      },
      subst (λ (h : List Entry). IsCounted c.self.inside.session c.self.inside.me h c.follow.new.settling) c.as_slice-then-is_logged.ensures.value c.follow.ensures.counted,
    )

pub invariant_of-self-else-is_logged : goal.invariant_of-self-else-is_logged
invariant_of-self-else-is_logged c =
    let answer = answer_by c.self.inside.session c.self.inside.me c.args.from c.self.inside.entries.items c.as_slice.result.now c.args.frame.now c.offer-answer.result c.as_slice.ensures.value c.offer-answer.ensures.answer in
    let all = others_unlogged c.self.inside.session c.self.inside.me c.args.from c.self.inside.entries.items c.as_slice.result.now c.args.frame.now c.offer-answer.result c.offer-answer.new.self c.as_slice.ensures.value answer
    (sym c.is_logged.ensures ∙ c.if-is_logged.false) c.offer-answer.ensures.others in (
      peer_kept c.self.inside.session c.self.inside.me c.self.inside.entries.items c.self.inside.openings.items c.self.inside.frames.items c.self.inside.tracks.items c.self.inside.others c.offer-answer.new.self
          c.self.inside.found c.self.inside.needs c.facts.ensures c.self.invariant.0 all,
      c.self.invariant.1,
      c.self.invariant.2,
    )

pub returns-then-is_logged-clause-log : goal.returns-then-is_logged-clause-log
returns-then-is_logged-clause-log c =
    let answer = answer_by c.self.inside.session c.self.inside.me c.args.from c.self.inside.entries.items c.as_slice.result.now c.args.frame.now c.offer-answer.result c.as_slice.ensures.value c.offer-answer.ensures.answer in
    state_logged _ _ c.args.from c.args.frame.now c.offer-answer.result c.add.new.list.items c.self.view_is answer (sym c.is_logged.ensures ∙ c.if-is_logged.true) c.add.ensures.items

pub returns-else-is_logged-clause-log : goal.returns-else-is_logged-clause-log
returns-else-is_logged-clause-log c =
    let answer = answer_by c.self.inside.session c.self.inside.me c.args.from c.self.inside.entries.items c.as_slice.result.now c.args.frame.now c.offer-answer.result c.as_slice.ensures.value c.offer-answer.ensures.answer in
    state_unlogged _ _ c.args.from c.args.frame.now c.offer-answer.result c.self.view_is answer (sym c.is_logged.ensures ∙ c.if-is_logged.false)
