use Rattle.std.proofs.Common.{◌++◌}
use Rattle.definitions.specs.World.{players_of}
use Rattle.report_lines.specs.Lines.{dropped_text, end_line_text}
use Rattle.report_lines.specs.Report.{own_score_text, players_text}
use Rattle.line_io.proofs.Writing.{puts_behind, puts_first}
use Rattle.match_ends.specs.Ends.{outcome_text, match_text, stand_by}
use Rattle.match_ends.proofs.ends.put_match_text.Goals as goal

pub returns-in_err-put_dropped : goal.returns-in_err-put_dropped
unfolding match_text
returns-in_err-put_dropped g c =
    let l = g.L.Played.peer c.args.played.now in
    let ended = c.args.ended.now in
    let dropped = dropped_text c.args.dropped in
    let outcome = outcome_text c.args.polls ended in
    let stand = stand_by ended l (g.L.Played.held c.args.played.now) in
    let players = players_text l.game l.me l.entries 0 (players_of l.game) in
    let score = own_score_text l.game l.me l.entries in
    let s0 = g.O.Sink.state c.args.out.now in
    let s1 = g.O.Sink.state c.put_dropped.new.out in
    puts_first s0 s1 dropped (outcome ++ (stand ++ (players ++ (score ++ end_line_text)))) c.from_residual.result c.from_residual.ensures.0 c.in_err-put_dropped.ensures

pub returns-in_err-put_outcome : goal.returns-in_err-put_outcome
unfolding match_text
returns-in_err-put_outcome g c =
    let l = g.L.Played.peer c.args.played.now in
    let ended = c.args.ended.now in
    let dropped = dropped_text c.args.dropped in
    let outcome = outcome_text c.args.polls ended in
    let stand = stand_by ended l (g.L.Played.held c.args.played.now) in
    let players = players_text l.game l.me l.entries 0 (players_of l.game) in
    let score = own_score_text l.game l.me l.entries in
    let s0 = g.O.Sink.state c.args.out.now in
    let s1 = g.O.Sink.state c.put_dropped.new.out in
    let s2 = g.O.Sink.state c.put_outcome.new.out in
    puts_behind s0 s1 s2 dropped (outcome ++ (stand ++ (players ++ (score ++ end_line_text)))) c.from_residual-in_err-put_outcome.result c.in_ok-put_dropped.ensures
    (puts_first s1 s2 outcome (stand ++ (players ++ (score ++ end_line_text))) c.from_residual-in_err-put_outcome.result c.from_residual-in_err-put_outcome.ensures.0 c.in_err-put_outcome.ensures)

pub returns-in_err-put_stand_or_missing : goal.returns-in_err-put_stand_or_missing
unfolding match_text
returns-in_err-put_stand_or_missing g c =
    let l = g.L.Played.peer c.args.played.now in
    let ended = c.args.ended.now in
    let dropped = dropped_text c.args.dropped in
    let outcome = outcome_text c.args.polls ended in
    let stand = stand_by ended l (g.L.Played.held c.args.played.now) in
    let players = players_text l.game l.me l.entries 0 (players_of l.game) in
    let score = own_score_text l.game l.me l.entries in
    let s0 = g.O.Sink.state c.args.out.now in
    let s1 = g.O.Sink.state c.put_dropped.new.out in
    let s2 = g.O.Sink.state c.put_outcome.new.out in
    let s3 = g.O.Sink.state c.put_stand_or_missing.new.out in
    puts_behind s0 s1 s3 dropped (outcome ++ (stand ++ (players ++ (score ++ end_line_text)))) c.from_residual-in_err-put_stand_or_missing.result c.in_ok-put_dropped.ensures
    (puts_behind s1 s2 s3 outcome (stand ++ (players ++ (score ++ end_line_text))) c.from_residual-in_err-put_stand_or_missing.result c.in_ok-put_outcome.ensures
    (puts_first s2 s3 stand (players ++ (score ++ end_line_text)) c.from_residual-in_err-put_stand_or_missing.result c.from_residual-in_err-put_stand_or_missing.ensures.0 c.in_err-put_stand_or_missing.ensures))

pub returns-in_err-put_players : goal.returns-in_err-put_players
unfolding match_text
returns-in_err-put_players g c =
    let l = g.L.Played.peer c.args.played.now in
    let ended = c.args.ended.now in
    let dropped = dropped_text c.args.dropped in
    let outcome = outcome_text c.args.polls ended in
    let stand = stand_by ended l (g.L.Played.held c.args.played.now) in
    let players = players_text l.game l.me l.entries 0 (players_of l.game) in
    let score = own_score_text l.game l.me l.entries in
    let s0 = g.O.Sink.state c.args.out.now in
    let s1 = g.O.Sink.state c.put_dropped.new.out in
    let s2 = g.O.Sink.state c.put_outcome.new.out in
    let s3 = g.O.Sink.state c.put_stand_or_missing.new.out in
    let s4 = g.O.Sink.state c.put_players.new.out in
    puts_behind s0 s1 s4 dropped (outcome ++ (stand ++ (players ++ (score ++ end_line_text)))) c.from_residual-in_err-put_players.result c.in_ok-put_dropped.ensures
    (puts_behind s1 s2 s4 outcome (stand ++ (players ++ (score ++ end_line_text))) c.from_residual-in_err-put_players.result c.in_ok-put_outcome.ensures
    (puts_behind s2 s3 s4 stand (players ++ (score ++ end_line_text)) c.from_residual-in_err-put_players.result c.in_ok-put_stand_or_missing.ensures
    (puts_first s3 s4 players (score ++ end_line_text) c.from_residual-in_err-put_players.result c.from_residual-in_err-put_players.ensures.0 (rw c.peer.ensures at c.in_err-put_players.ensures))))

pub returns-in_err-put_score : goal.returns-in_err-put_score
unfolding match_text
returns-in_err-put_score g c =
    let l = g.L.Played.peer c.args.played.now in
    let ended = c.args.ended.now in
    let dropped = dropped_text c.args.dropped in
    let outcome = outcome_text c.args.polls ended in
    let stand = stand_by ended l (g.L.Played.held c.args.played.now) in
    let players = players_text l.game l.me l.entries 0 (players_of l.game) in
    let score = own_score_text l.game l.me l.entries in
    let s0 = g.O.Sink.state c.args.out.now in
    let s1 = g.O.Sink.state c.put_dropped.new.out in
    let s2 = g.O.Sink.state c.put_outcome.new.out in
    let s3 = g.O.Sink.state c.put_stand_or_missing.new.out in
    let s4 = g.O.Sink.state c.put_players.new.out in
    let s5 = g.O.Sink.state c.put_score.new.out in
    puts_behind s0 s1 s5 dropped (outcome ++ (stand ++ (players ++ (score ++ end_line_text)))) c.from_residual-in_err-put_score.result c.in_ok-put_dropped.ensures
    (puts_behind s1 s2 s5 outcome (stand ++ (players ++ (score ++ end_line_text))) c.from_residual-in_err-put_score.result c.in_ok-put_outcome.ensures
    (puts_behind s2 s3 s5 stand (players ++ (score ++ end_line_text)) c.from_residual-in_err-put_score.result c.in_ok-put_stand_or_missing.ensures
    (puts_behind s3 s4 s5 players (score ++ end_line_text) c.from_residual-in_err-put_score.result (rw c.peer.ensures at c.in_ok-put_players.ensures)
    (puts_first s4 s5 score end_line_text c.from_residual-in_err-put_score.result c.from_residual-in_err-put_score.ensures.0 (rw c.peer-2.ensures at c.in_err-put_score.ensures)))))

pub returns : goal.returns
unfolding match_text
returns g c =
    let l = g.L.Played.peer c.args.played.now in
    let ended = c.args.ended.now in
    let dropped = dropped_text c.args.dropped in
    let outcome = outcome_text c.args.polls ended in
    let stand = stand_by ended l (g.L.Played.held c.args.played.now) in
    let players = players_text l.game l.me l.entries 0 (players_of l.game) in
    let score = own_score_text l.game l.me l.entries in
    let s0 = g.O.Sink.state c.args.out.now in
    let s1 = g.O.Sink.state c.put_dropped.new.out in
    let s2 = g.O.Sink.state c.put_outcome.new.out in
    let s3 = g.O.Sink.state c.put_stand_or_missing.new.out in
    let s4 = g.O.Sink.state c.put_players.new.out in
    let s5 = g.O.Sink.state c.put_score.new.out in
    let now = g.O.Sink.state c.put.new.out in
    puts_behind s0 s1 now dropped (outcome ++ (stand ++ (players ++ (score ++ end_line_text)))) c.put.result c.in_ok-put_dropped.ensures
    (puts_behind s1 s2 now outcome (stand ++ (players ++ (score ++ end_line_text))) c.put.result c.in_ok-put_outcome.ensures
    (puts_behind s2 s3 now stand (players ++ (score ++ end_line_text)) c.put.result c.in_ok-put_stand_or_missing.ensures
    (puts_behind s3 s4 now players (score ++ end_line_text) c.put.result (rw c.peer.ensures at c.in_ok-put_players.ensures)
    (puts_behind s4 s5 now score end_line_text c.put.result (rw c.peer-2.ensures at c.in_ok-put_score.ensures)
    (rw c.end_line.ensures at c.put.ensures)))))
