use Rattle.std.proofs.Common.{◌∙◌, length, ap, arith}
use Rattle.make_command.proofs.Summed.{first_within, is_made, none_found, summed}
use Rattle.make_command.proofs.summary.make_match.Goals as goal

pub play-requires : goal.play-requires
play-requires c = first_within c.in_ok-session.session c.args.number c.in_ok-playing.playing c.in_ok-playing.ensures

pub overflow_cast-result : goal.overflow_cast-result
overflow_cast-result c =
    let made = c.playing.view_is ∙ is_made c.args.number c.in_ok-session.session c.in_ok-playing.playing c.play.new.self c.in_ok-session.ensures.value c.in_ok-playing.ensures c.play.ensures in
    let none = ap length c.findings.ensures ∙ none_found _ c.args.number c.in_ok-report.report made c.in_ok-report.ensures in
    omega (arith, none)

pub returns : goal.returns
returns c =
    let made = c.playing.view_is ∙ is_made c.args.number c.in_ok-session.session c.in_ok-playing.playing c.play.new.self c.in_ok-session.ensures.value c.in_ok-playing.ensures c.play.ensures in
    summed _ c.args.number (length c.findings.result.now) c.in_ok-players.players made (ap length (c.findings.ensures ∙ c.in_ok-report.ensures.found)) c.in_ok-players.ensures
