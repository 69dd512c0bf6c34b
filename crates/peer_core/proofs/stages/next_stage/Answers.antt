use Rattle.std.proofs.Common.{arith}
use Rattle.definitions.specs.declared.frames.What.TheVariants.{Commit, Reveal}
use Rattle.peer_core.proofs.Ready.{after_stage, commit_stage, commit_track, next_is_slot, reveal_stage, reveal_track}
use Rattle.peer_core.proofs.stages.next_stage.Goals as goal

pub bounds-tracks-saturating_sub : goal.bounds-tracks-saturating_sub
bounds-tracks-saturating_sub c =
    commit_track c.args.session.now c.args._me c.in-Some.slot.turn c.saturating_sub.result c.args._entries.now c.args.tracks.now c.facts.ensures c.requires.honest
    (next_is_slot c.args.session.now c.args._entries.now c.args.made c.slot_at.result c.in-Some.slot Commit c.requires.made c.slot_at.ensures c.in-Some.is c.in-Commit.is) c.requires.tracks (omega arith)

pub bounds-tracks-slot : goal.bounds-tracks-slot
bounds-tracks-slot c =
    reveal_track c.args.session.now c.args._me c.in-Some.slot.turn c.args._entries.now c.args.tracks.now c.facts.ensures c.requires.honest
    (next_is_slot c.args.session.now c.args._entries.now c.args.made c.slot_at.result c.in-Some.slot Reveal c.requires.made c.slot_at.ensures c.in-Some.is c.in-Reveal.is) c.requires.tracks

pub returns-in-None-clause-here : goal.returns-in-None-clause-here
returns-in-None-clause-here c = after_stage c.args.session.now c.args._me c.args.made c.args._entries.now c.slot_at.result c.requires.made c.slot_at.ensures c.in-None.is

pub returns-in-Commit-clause-stage : goal.returns-in-Commit-clause-stage
returns-in-Commit-clause-stage c =
    (commit_stage c.args.session.now c.args._me c.in-Some.slot.turn c.saturating_sub.result c.args._entries.now c.args.tracks.now (record { at = record { x = 0; y = 0 }; charge = 0 }) c.facts.ensures c.requires.owner c.requires.honest
    (next_is_slot c.args.session.now c.args._entries.now c.args.made c.slot_at.result c.in-Some.slot Commit c.requires.made c.slot_at.ensures c.in-Some.is c.in-Commit.is) c.requires.tracks (omega arith)).0

pub returns-in-Commit-clause-here : goal.returns-in-Commit-clause-here
returns-in-Commit-clause-here c =
    (commit_stage c.args.session.now c.args._me c.in-Some.slot.turn c.saturating_sub.result c.args._entries.now c.args.tracks.now (record { at = record { x = 0; y = 0 }; charge = 0 }) c.facts.ensures c.requires.owner c.requires.honest
    (next_is_slot c.args.session.now c.args._entries.now c.args.made c.slot_at.result c.in-Some.slot Commit c.requires.made c.slot_at.ensures c.in-Some.is c.in-Commit.is) c.requires.tracks (omega arith)).1

pub returns-in-Reveal-clause-stage : goal.returns-in-Reveal-clause-stage
returns-in-Reveal-clause-stage c =
    (reveal_stage c.args.session.now c.args._me c.in-Some.slot.turn c.args._entries.now c.args.tracks.now (record { at = record { x = 0; y = 0 }; charge = 0 }) c.facts.ensures c.requires.owner c.requires.honest
    (next_is_slot c.args.session.now c.args._entries.now c.args.made c.slot_at.result c.in-Some.slot Reveal c.requires.made c.slot_at.ensures c.in-Some.is c.in-Reveal.is) c.requires.tracks).0

pub returns-in-Reveal-clause-here : goal.returns-in-Reveal-clause-here
returns-in-Reveal-clause-here c =
    (reveal_stage c.args.session.now c.args._me c.in-Some.slot.turn c.args._entries.now c.args.tracks.now (record { at = record { x = 0; y = 0 }; charge = 0 }) c.facts.ensures c.requires.owner c.requires.honest
    (next_is_slot c.args.session.now c.args._entries.now c.args.made c.slot_at.result c.in-Some.slot Reveal c.requires.made c.slot_at.ensures c.in-Some.is c.in-Reveal.is) c.requires.tracks).1
