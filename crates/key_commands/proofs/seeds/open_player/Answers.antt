use Rattle.std.proofs.lemmas.Result.{err_from_is_err_and}
use Rattle.std.proofs.lemmas.Grind.{common_steps}
use Rattle.std.proofs.Common.{◌≡◌, true, false, nat_lt, refl, arith}
use Rattle.definitions.specs.World.{players_of}
use Rattle.run_frame.specs.Sessions.{session_in, with_player}
use Rattle.run_frame.proofs.Opening.{refused_on, session_refused}
use Rattle.key_commands.proofs.Opened.{player_in, player_out}
use Rattle.key_commands.proofs.seeds.open_player.Goals as goal

pub returns-in_err-session-clause-opens : goal.returns-in_err-session-clause-opens
returns-in_err-session-clause-opens g c =
    let p = err_from_is_err_and c.from_residual.result c.from_residual.ensures.1 in
    let status = c.in_err-session.field-0.0 in
    rw (p.1, p.2) (record {
      fetched = c.in_err-session.ensures.fetched;
      due = λ content h. refused_on (with_player c.args.player) (λ s. refl) (session_in content) status (session_refused (session_in content) status (c.in_err-session.ensures.due content h));
    })

pub returns-then-player-players-clause-opens : goal.returns-then-player-players-clause-opens
returns-then-player-players-clause-opens g c =
    let out : nat_lt c.args.player (players_of c.in_ok-session.session) ≡ false = grind (arith, common_steps) in
    record {
      fetched = c.in_ok-session.ensures.fetched;
      due = λ content h. player_out c.args.player c.in_ok-session.session (session_in content) (c.in_ok-session.ensures.due content h) out;
    }

pub returns-clause-opens : goal.returns-clause-opens
returns-clause-opens g c =
    let within : nat_lt c.args.player (players_of c.in_ok-session.session) ≡ true = grind (arith, common_steps) in
    record {
      fetched = c.in_ok-session.ensures.fetched;
      due = λ content h. player_in c.args.player c.in_ok-session.session (session_in content) (c.in_ok-session.ensures.due content h) within;
    }
