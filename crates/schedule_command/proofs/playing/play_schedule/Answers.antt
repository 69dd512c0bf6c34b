use Rattle.std.proofs.Common.{◌≡◌, ◌∙◌, false, sym, true}
use Rattle.schedule_command.specs.Schedule.{opened_from}
use Rattle.schedule_command.proofs.Readings.{come_plays_or, on_or_lacks, or_lacks}
use Rattle.schedule_command.proofs.playing.play_schedule.Goals as goal

pub returns-in-Err-clause-text : goal.returns-in-Err-clause-text
returns-in-Err-clause-text g c = or_lacks _ _ _ _ (opened_from c.args.session.now 0) _ _ (rw c.new-reader.ensures at (c.in-Err.ensures.text (g.O.Sink.state c.args.out.now)).0)

pub returns-in-Ok-Last-clause-text : goal.returns-in-Ok-Last-clause-text
returns-in-Ok-Last-clause-text g c =
    let text = rw c.in-Ok-Last.field-0-is at c.in-Ok-Last.ensures.text in
    come_plays_or _ _ _ _ (opened_from c.args.session.now 0) _ _ (rw c.new-reader.ensures at text) c.end_at_once.result c.end_at_once.ensures.source (c.end_at_once.ensures.text 0)

pub returns-in-Ok-Named-clause-text : goal.returns-in-Ok-Named-clause-text
returns-in-Ok-Named-clause-text g c =
    let text = rw c.in-Ok-Named.field-0-is at c.in-Ok-Named.ensures.text in
    on_or_lacks _ _ _ _ _ (opened_from c.args.session.now 0) _ _ _ c.play_on.result (rw c.new-reader.ensures at (text (g.O.Sink.state c.args.out.now))) c.play_on.ensures.text

pub returns-in-Err-clause-over : goal.returns-in-Err-clause-over
returns-in-Err-clause-over g c = λ e. absurd (let never : true ≡ false = sym e ∙ (c.in-Err.ensures.text (g.O.Sink.state c.args.out.now)).2 in cc)

pub returns-in-Ok-Last-clause-over : goal.returns-in-Ok-Last-clause-over
returns-in-Ok-Last-clause-over g c = λ e. let text = rw c.in-Ok-Last.field-0-is at c.in-Ok-Last.ensures.text in text.over
