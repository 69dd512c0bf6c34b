use Rattle.std.proofs.Common.{ap, refl, ◌∙◌}
use Rattle.std.specs.Prelude.{not}
use Rattle.definitions.specs.Findings.{is_clean}
use Rattle.peer_core.specs.Views.{PeerState}
use Rattle.line_io.specs.Inputs.{End, Line}
use Rattle.line_io.proofs.Inputs.{end_read, fault_read, last_read}
use Rattle.drive_command.proofs.LineOutcomes.{bad_ends, fault_ends, told_none, told_some, too_long}
use Rattle.drive_command.proofs.Plays.{caught_plays, ended_plays, line_plays}
use Rattle.drive_command.proofs.playing.answer_line.Goals as goal

pub returns-then-is_some-clause-text : goal.returns-then-is_some-clause-text
returns-then-is_some-clause-text g c =
    let found = told_some c.is_some.result _ (c.is_some.ensures ∙ c.finding.ensures.clean ∙ ap (λ (p : PeerState). not (is_clean p.game p.entries)) c.peer.ensures) c.if-is_some.true in
    caught_plays _ _ _ _ _ found c.end_caught.result c.end_caught.ensures

pub returns-in-Failed-clause-text : goal.returns-in-Failed-clause-text
returns-in-Failed-clause-text g c =
    let clean = told_none c.is_some.result _ (c.is_some.ensures ∙ c.finding.ensures.clean ∙ ap (λ (p : PeerState). not (is_clean p.game p.entries)) c.peer.ensures) c.if-is_some.false in
    let line = c.in-Failed.ensures.gave in
    record { drew = c.in-Failed.ensures.drew; ends = λ behind m. fault_ends _ _ _ _ _ _ clean (fault_read _ _ line.0 line.1); over = tt }

pub returns-in-TooLong-clause-text : goal.returns-in-TooLong-clause-text
returns-in-TooLong-clause-text g c =
    let clean = told_none c.is_some.result _ (c.is_some.ensures ∙ c.finding.ensures.clean ∙ ap (λ (p : PeerState). not (is_clean p.game p.entries)) c.peer.ensures) c.if-is_some.false in
    rw c.bad_line_status.ensures
    (record { drew = c.in-TooLong.ensures.drew; ends = λ behind m. bad_ends _ _ _ (too_long _ _ _ _ _ _ clean (c.in-TooLong.ensures.gave behind)); over = tt })

pub returns-in-End-clause-text : goal.returns-in-End-clause-text
returns-in-End-clause-text g c =
    let e = c.in-End.ensures.gave in
    ended_plays _ _ _ _ _ _ c.in-End.ensures.drew e.1 End refl (λ behind m. end_read _ _ e.0 (m e.1)) c.end.result c.end.ensures

pub returns-in-Last-clause-text : goal.returns-in-Last-clause-text
returns-in-Last-clause-text g c =
    let e = c.in-Last.ensures.gave in
    ended_plays _ _ _ _ _ _ c.in-Last.ensures.drew e.3 (Line _ End) refl (λ behind m. last_read _ _ _ e.0 e.1 e.2 (m e.3)) c.answer_last.result (rw (← c.line.ensures.line) c.answer_last.ensures)

pub returns-in-Line-clause-text : goal.returns-in-Line-clause-text
returns-in-Line-clause-text g c =
    let e = c.in-Line.ensures.gave in
    line_plays _ _ _ _ _ _ _ _ _ c.in-Line.ensures.drew e.0 e.1 c.answer.result (λ input. rw (← c.line-in-Line.ensures.line) (c.answer.ensures.text input))
