-- Reported: what is written by a report of logs is what is due of them.
use Rattle.std.proofs.Common.{◌≡◌, ℕ, ◌<◌, Bool, true, false, List, ◌++◌, ap, refl, ◌∙◌}
use Rattle.std.specs.Prelude.{Option, Some, None, is_some, if◌then◌else◌}
use Rattle.definitions.specs.declared.logs.Entry.{Entry}
use Rattle.definitions.specs.Lists.{EachIs}
use Rattle.definitions.specs.World.{Game, players_of}
use Rattle.definitions.specs.Findings.{findings}
use Rattle.definition_laws.specs.Members.{Has}
use Rattle.definition_laws.proofs.Members.{each_Has}
use Rattle.playout.specs.Lockstep.{lockstep}
use Rattle.auditor.specs.declared.world.WorldLine.{WorldLine}
use Rattle.auditor.specs.Agreed.{AreOwned, agreed_count, all_agreed_moves, line_of, world}
use Rattle.auditor.specs.Reports.{IsReportOf, Reported, agreed_by, world_by}
use Rattle.report_lines.specs.Lines.{end_line_text}
use Rattle.file_commands.specs.AuditLines.{agreed_lines}
use Rattle.file_commands.specs.Audit.{all_found_text, are_all_agreed, audit_text, last_text, report_text, rest_text, world_text}
use Rattle.file_commands.proofs.Players.{agreed_alike, world_alike}

-- each of these stands among them
pub each_stands : {X : Type 0} (xs : List X) → EachIs (Has xs) xs
each_stands xs = each_Has (Has xs) xs (λ x m. m)

told_where : (b : Bool) (line : WorldLine) → is_some (if b then Some line else None) ≡ b
told_where true line = refl
told_where false line = refl

world_same : (game : Game) (b : Bool) (line other : ℕ → Option WorldLine) → ((q : ℕ) → q < players_of game → line q ≡ other q) → world_text game b line ≡ world_text game b other
world_same game true line other same = world_alike line other (players_of game) same
world_same game false line other same = refl

-- what stands after the findings
pub rest_same : (game : Game) (count count' : ℕ → ℕ) (b : Bool) (line line' : ℕ → Option WorldLine) →
    ((q : ℕ) → q < players_of game → count q ≡ count' q) → ((q : ℕ) → q < players_of game → line q ≡ line' q) → rest_text game count b line ≡ rest_text game count' b line'
unfolding rest_text
rest_same game count count' b line line' counts lines =
    ap (λ x. x ++ last_text game b line) (agreed_alike count count' (players_of game) counts) ∙
    ap (λ x. agreed_lines count' 0 (players_of game) ++ (x ++ end_line_text)) (world_same game b line line' lines)

pub reported : (game : Game) (owners : List (Option ℕ)) (logs : List (List Entry)) (r : Reported) → 0 < players_of game → AreOwned game owners logs → IsReportOf game owners logs r →
    report_text game logs r ≡ audit_text game owners logs
unfolding audit_text
reported game owners logs r some owned is =
    let told : is_some (world_by r 0) ≡ are_all_agreed game owners logs =
    ap is_some (is.world owned 0 some) ∙ told_where (are_all_agreed game owners logs) (line_of (lockstep game (all_agreed_moves game owners logs) game.turns 0)) in
    ap (λ fs. all_found_text game logs fs ++ rest_text game (agreed_by r) (is_some (world_by r 0)) (world_by r)) is.found ∙
    ap (λ b. all_found_text game logs (findings game logs) ++ rest_text game (agreed_by r) b (world_by r)) told ∙
    ap (λ x. all_found_text game logs (findings game logs) ++ x)
    (rest_same game (agreed_by r) (agreed_count game owners logs) (are_all_agreed game owners logs) (world_by r) (world game owners logs) (is.agreed owned) (is.world owned))
