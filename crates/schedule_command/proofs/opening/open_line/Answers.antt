use Rattle.std.proofs.Common.{◌+◌, ap, sym, ◌∙◌}
use Rattle.std.proofs.lemmas.Result.{err_from_is_err_and}
use Rattle.schedule_command.specs.Schedule.{naming_behind}
use Rattle.schedule_command.proofs.Opened.{fault_opens, last_failed, last_opened, last_opens, line_opens, long_opens}
use Rattle.schedule_command.proofs.opening.open_line.Goals as goal

pub returns-in-Failed-clause-text : goal.returns-in-Failed-clause-text
returns-in-Failed-clause-text g c =
    let e = c.in-Failed.ensures.gave in
    fault_opens _ _ _ _ _ c.in-Failed.ensures.drew _ e.0 e.1 c.next.new.self.pending

pub returns-in-TooLong-clause-text : goal.returns-in-TooLong-clause-text
returns-in-TooLong-clause-text g c = rw c.bad_line.ensures (long_opens _ _ _ _ _ c.in-TooLong.ensures.drew c.in-TooLong.ensures.gave c.next.new.self.pending)

pub returns-in_ok-opening-in-Last-clause-text : goal.returns-in_ok-opening-in-Last-clause-text
returns-in_ok-opening-in-Last-clause-text g c =
    let e = c.in-Last.ensures.gave in
    last_opened _ _ _ _ (c.args.lines + 1) _ _ _ c.in_ok-opening-in-Last.opening (sym c.open_last.ensures ∙ c.in_ok-opening-in-Last.was)
    (last_opens _ _ _ _ _ c.in-Last.ensures.drew e.3 _ _ e.0 e.1 e.2 _ (c.naming_behind.ensures.value ∙ ap (naming_behind c.args.session.now c.args.lines) c.line.ensures.line))

pub returns-in_err-opening-in-Last-clause-text : goal.returns-in_err-opening-in-Last-clause-text
returns-in_err-opening-in-Last-clause-text g c =
    let p = err_from_is_err_and c.from_residual.result c.from_residual.ensures.1 in
    let e = c.in-Last.ensures.gave in
    rw (p.1, p.2)
    (last_failed _ _ _ _ (c.args.lines + 1) _ c.next.new.self.pending _ c.in_err-opening-in-Last.field-0.0 (sym c.open_last.ensures ∙ c.in_err-opening-in-Last.was)
    (last_opens _ _ _ _ _ c.in-Last.ensures.drew e.3 _ _ e.0 e.1 e.2 _ (c.naming_behind.ensures.value ∙ ap (naming_behind c.args.session.now c.args.lines) c.line.ensures.line)))

pub returns-in-Line-clause-text : goal.returns-in-Line-clause-text
returns-in-Line-clause-text g c =
    let e = c.in-Line.ensures.gave in
    rw c.open_by.ensures
    (line_opens _ _ _ _ _ _ _ c.in-Line.ensures.drew e.0 e.1 _ (c.naming_behind-in-Line.ensures.value ∙ ap (naming_behind c.args.session.now c.args.lines) c.line-in-Line.ensures.line))
