-- Summed: a match that was played is the one of its number, and so is what is told of it.
use Rattle.std.proofs.Common.{◌≡◌, ℕ, ◌≤◌, List, length, sym, ◌∙◌, ap, subst, arith}
use Rattle.definitions.specs.World.{Game}
use Rattle.auditor.specs.declared.world.WorldLine.{WorldLine}
use Rattle.auditor.specs.Reports.{Reported, found_in}
use Rattle.make_command.specs.Making.{made_session}
use Rattle.make_command.specs.declared.summary.Summary.{Summary}
use Rattle.make_command.specs.Audits.{IsReportOn, world_lines}
use Rattle.make_command.specs.Bounds.{AreWithin}
use Rattle.make_command.specs.Matches.{Match, first_match, most_steps, played}
use Rattle.make_command.specs.Summaries.{found_in_match, made_match, summary_of}
use Rattle.make_command.proofs.Ending.{ends_fairly}

-- nothing was counted at first
pub first_within : (game : Game) (number : ℕ) (first : Match) → first ≡ first_match game number → AreWithin first.counts 0
unfolding first_match
first_within game number first is =
    subst (λ (m : Match). AreWithin m.counts 0) (sym is) (record { chosen = omega arith; delivered = omega arith; lost = omega arith; repeated = omega arith })

pub is_made : (number : ℕ) (game : Game) (first last : Match) → game ≡ made_session number → first ≡ first_match game number → last ≡ played most_steps first → last ≡ made_match number
unfolding made_match
is_made number game first last made begun ended = ended ∙ ap (played most_steps) (begun ∙ ap (λ (g : Game). first_match g number) made)

-- its logs show nothing
pub none_found : (m : Match) (number : ℕ) (r : Reported) → m ≡ made_match number → IsReportOn m.game m.logs r → length (found_in r) ≡ 0
none_found m number r is told = ap length told.found ∙ ap found_in_match is ∙ (ends_fairly number).fair

pub summed : (m : Match) (number found : ℕ) (players : List WorldLine) → m ≡ made_match number → found ≡ found_in_match m → players ≡ world_lines m.game m.logs →
    ◌≡◌ {A = Summary} (record { chosen = m.counts.chosen; delivered = m.counts.delivered; lost = m.counts.lost; repeated = m.counts.repeated; findings = found; players = players }) (summary_of (made_match number))
unfolding summary_of
summed m number found players is finds stands =
    let with_found : ℕ → Summary = λ f. record { chosen = m.counts.chosen; delivered = m.counts.delivered; lost = m.counts.lost; repeated = m.counts.repeated; findings = f; players = players } in
    let with_lines : List WorldLine → Summary = λ lines. record { chosen = m.counts.chosen; delivered = m.counts.delivered; lost = m.counts.lost; repeated = m.counts.repeated; findings = found_in_match m; players = lines } in
    ap with_found finds ∙ ap with_lines stands ∙ ap summary_of is

-- and it is told where each of a few players stands
pub few_lines : (number : ℕ) (s : Summary) → s ≡ summary_of (made_match number) → length s.players ≤ 64
unfolding summary_of
few_lines number s is =
    let told = (ends_fairly number).told in
    let same : length s.players ≡ length (world_lines (made_match number).game (made_match number).logs) = ap (λ (x : Summary). length x.players) is in
    omega (arith, told, same)
