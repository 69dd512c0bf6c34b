use Rattle.watch_command.specs.Words.{watching_said}
use Rattle.watch_command.proofs.OverStation.{a_source, no_source}
use Rattle.watch_command.proofs.Sourced.{source_links}
use Rattle.watch_command.proofs.command.run_watch.Goals as goal

pub returns-in-Err : goal.returns-in-Err
returns-in-Err g c = λ rest.
    no_source (watching_said c.args.words) rest _ _ _ _ c.in-Err.status c.in-Err.ensures

pub returns-in-Ok : goal.returns-in-Ok
returns-in-Ok g c = λ rest.
    a_source (watching_said c.args.words) rest _ _ _ _ _ _ c.in-Ok.source c.in-Ok.ensures
    c.play_watch.result c.play_watch.ensures

pub play_watch-requires-clause-links : goal.play_watch-requires-clause-links
play_watch-requires-clause-links g c =
    source_links (watching_said c.args.words) _ _ c.in-Ok.source c.in-Ok.ensures
