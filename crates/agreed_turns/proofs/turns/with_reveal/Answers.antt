use Rattle.std.proofs.Common.{List, None, Some, subst, sym, ◌+◌, ◌≡◌}
use Rattle.std.specs.Prelude.{option_map}
use Rattle.definitions.specs.declared.frames.TurnFrame.{TurnFrame}
use Rattle.definitions.specs.Held.{first_commit}
use Rattle.definitions.specs.Lists.{first_of}
use Rattle.frame_index.specs.OfLog.{with_track}
use Rattle.frame_index.specs.Openings.{opening_at}
use Rattle.agreed_turns.specs.declared.accords.Accord.{Accord}
use Rattle.agreed_turns.specs.Heads.{GoesOn}
use Rattle.agreed_turns.proofs.GoingOn.{no_digest, no_opening, reveal_goes, shown_by}
use Rattle.agreed_turns.proofs.turns.with_reveal.Goals as goal

pub returns-in_default-clause-on : goal.returns-in_default-clause-on
returns-in_default-clause-on c fs shows read next =
    no_digest c.args.session.now c.args.player fs c.args.stream.now c.facts.ensures c.requires.player read next c.args.accords.now
    (shown_by (λ (gs : List TurnFrame). None ≡ first_commit gs c.args.stream.now.resolved) shows (λ logs h index there. c.in_default.ensures c.args.session.now logs h index there))

pub returns-in_default-opening_in-clause-on : goal.returns-in_default-opening_in-clause-on
returns-in_default-opening_in-clause-on c fs shows read next =
    no_opening c.args.session.now c.args.player fs c.args.stream.now c.facts.ensures c.requires.player read next c.in-Some.digest
    (shown_by (λ (gs : List TurnFrame). Some c.in-Some.digest ≡ first_commit gs c.args.stream.now.resolved) shows (λ logs h index there. c.in-Some.ensures c.args.session.now logs h index there))
    c.args.accords.now
    (shown_by (λ (gs : List TurnFrame). None ≡ option_map (with_track c.args.session.now c.args.stream.now.track) (first_of (opening_at c.args.session.now c.args.player c.args.stream.now.track c.in-Some.digest c.args.stream.now.resolved) gs)) shows
    (λ logs h index there. c.in_default-opening_in.ensures.first logs h index there))

pub returns-clause-on : goal.returns-clause-on
returns-clause-on c fs shows read next =
    subst (λ (all : List Accord). GoesOn c.args.session.now c.args.player fs c.args.stream.now (record { commits = c.args.stream.now.commits; resolved = c.args.stream.now.resolved + 1; track = c.in-Some-opening_in.track }) c.args.accords.now all)
    (sym c.note.ensures)
    (reveal_goes c.args.session.now c.args.player fs c.args.stream.now c.facts.ensures c.requires.player read next c.in-Some.digest
    (shown_by (λ (gs : List TurnFrame). Some c.in-Some.digest ≡ first_commit gs c.args.stream.now.resolved) shows (λ logs h index there. c.in-Some.ensures c.args.session.now logs h index there))
    c.args.accords.now c.in-Some-opening_in.mv c.in-Some-opening_in.track
    (shown_by (λ (gs : List TurnFrame). Some (c.in-Some-opening_in.mv, c.in-Some-opening_in.track) ≡ option_map (with_track c.args.session.now c.args.stream.now.track) (first_of (opening_at c.args.session.now c.args.player c.args.stream.now.track c.in-Some.digest c.args.stream.now.resolved) gs)) shows
    (λ logs h index there. c.in-Some-opening_in.ensures.first logs h index there)))
