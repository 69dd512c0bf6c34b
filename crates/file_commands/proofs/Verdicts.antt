-- Verdicts: what a verdict is worth.
use Rattle.std.proofs.Common.{Bool, false, refl, subst, true, ◌≡◌}
use Rattle.std.specs.Prelude.{codes, ◌≤◌}
use Rattle.definitions.specs.declared.findings.Kind.{Kind}
use Rattle.definitions.specs.World.{Game}
use Rattle.definitions.specs.Exhibits.{Shows}
use Rattle.evidence.specs.declared.exhibit.Exhibit.{Exhibit}
use Rattle.evidence.proofs.Convicted.{illegal_convicts}
use Rattle.evidence.proofs.Convicting.{shown_convict}
use Rattle.file_commands.specs.Judge.{is_shown, verdict_answer}
use Rattle.file_commands.specs.JudgeLaws.{SaysYes, TellsVerdict}

pub not_yes : SaysYes (codes "no\n") → ⊥
not_yes e = cc

pub not_shown : (b : Bool) → b ≡ false → b ≡ true → ⊥
not_shown b off on = cc

pub verdict_tells : (game : Game) (x : Exhibit) → 1 ≤ game.ahead → TellsVerdict game x (verdict_answer (is_shown game x)).body
verdict_tells game x ahead = go (is_shown game x) refl
  where
    go : (b : Bool) → is_shown game x ≡ b → TellsVerdict game x (verdict_answer b).body
    go true e = record {
      shows = λ said. e;
      told = λ shows. refl;
      convicts = λ said differs logs stand. shown_convict game logs x.player x.turn x.kind x.frames differs e stand;
      convicts_of_moves = λ said is logs h has got. illegal_convicts game logs h x.player x.turn x.frames ahead has (subst (λ (k : Kind). Shows game x.player x.turn k x.frames) is e) got.frames got.commits;
    }
    go false e = record {
      shows = λ said. absurd (not_yes said);
      told = λ shows. absurd (not_shown _ e shows);
      convicts = λ said. absurd (not_yes said);
      convicts_of_moves = λ said. absurd (not_yes said);
    }
