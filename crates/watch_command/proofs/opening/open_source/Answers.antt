use Rattle.std.proofs.lemmas.Result.{err_from_is_err_and}
use Rattle.watch_command.specs.Words.{watching_said}
use Rattle.watch_command.proofs.Sourced.{a_source, no_links, no_session}
use Rattle.watch_command.proofs.opening.open_source.Goals as goal

pub returns-in_err-session : goal.returns-in_err-session
returns-in_err-session g c =
    let p = err_from_is_err_and c.from_residual.result c.from_residual.ensures.1 in
    let w = watching_said c.args.words in
    rw (p.1, p.2) (no_session w _ _ c.in_err-session.field-0.0 c.in_err-session.ensures)

pub returns-in_err-roster : goal.returns-in_err-roster
returns-in_err-roster g c =
    let r = c.from_residual-in_err-roster in
    let p = err_from_is_err_and r.result r.ensures.1 in
    let w = watching_said c.args.words in
    let fault = c.in_err-roster in
    rw (p.1, p.2)
    (no_links w _ _ c.in_ok-session.session c.in_ok-session.ensures _ fault.field-0.0
    fault.ensures.opens)

pub returns : goal.returns
returns g c =
    let w = watching_said c.args.words in
    let read = c.in_ok-roster in
    a_source w _ _ c.in_ok-session.session c.in_ok-session.ensures _ read.roster read.ensures.links
    read.ensures.opens
