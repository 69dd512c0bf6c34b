use Rattle.std.proofs.Common.{◌≡◌, ◌<◌, true, false, nat_lt, arith}
use Rattle.std.proofs.lemmas.Grind.{common_steps}
use Rattle.std.proofs.lemmas.Result.{err_from_is_err_and}
use Rattle.definitions.specs.World.{players_of}
use Rattle.deposit_command.specs.Words.{depositing_said}
use Rattle.deposit_command.proofs.Sourced.{a_logger, no_logger, no_player, no_session}
use Rattle.deposit_command.proofs.opening.open_source.Goals as goal

pub returns-in_err-session : goal.returns-in_err-session
returns-in_err-session g c =
    let p = err_from_is_err_and c.from_residual.result c.from_residual.ensures.1 in
    let d = depositing_said c.args.words in
    rw (p.1, p.2) (no_session d _ _ c.in_err-session.field-0.0 c.in_err-session.ensures)

pub returns-then-words-players : goal.returns-then-words-players
returns-then-words-players g c =
    let d = depositing_said c.args.words in
    let game = c.in_ok-session.session in
    let out : nat_lt c.args.words.player (players_of game) ≡ false = grind (arith, common_steps) in
    no_player d _ _ game c.in_ok-session.ensures out

pub returns-in_err-logger : goal.returns-in_err-logger
returns-in_err-logger g c =
    let d = depositing_said c.args.words in
    let game = c.in_ok-session.session in
    let less : c.args.words.player < players_of game = grind (arith, common_steps) in
    let one : nat_lt c.args.words.player (players_of game) ≡ true = grind (arith, common_steps) in
    let r = c.from_residual-in_err-logger in
    let p = err_from_is_err_and r.result r.ensures.1 in
    let fault = c.in_err-logger in
    rw (p.1, p.2) (no_logger d _ _ game c.in_ok-session.ensures _ one less fault.field-0.0
    fault.ensures)

pub returns : goal.returns
returns g c =
    let d = depositing_said c.args.words in
    let game = c.in_ok-session.session in
    let less : c.args.words.player < players_of game = grind (arith, common_steps) in
    let one : nat_lt c.args.words.player (players_of game) ≡ true = grind (arith, common_steps) in
    let read = c.in_ok-logger in
    a_logger d _ _ game c.in_ok-session.ensures _ one less read.logger read.ensures
