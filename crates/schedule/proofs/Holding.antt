-- Holding: what holds of fair logs, and so behind every list of steps.
use Rattle.std.proofs.Common.{◌≡◌, ℕ, ◌*◌, ◌≤◌, Bool, true, false, List, [], ◌∷◌, refl, sym, ap, ◌∙◌, Option, Some, None, slice_get}
use Rattle.std.specs.Prelude.{is_some, ◌==◌, if◌then◌else◌}
use Rattle.std.proofs.lemmas.Bool.{false≢true, ne_eqb}
use Rattle.plain_lemmas.proofs.Each.{each_kept}
use Rattle.definitions.specs.declared.world.Move.{Move}
use Rattle.definitions.specs.declared.frames.TurnFrame.{TurnFrame}
use Rattle.definitions.specs.declared.logs.Entry.{Entry}
use Rattle.definitions.specs.Lists.{EachIs}
use Rattle.definitions.specs.World.{Game}
use Rattle.definitions.specs.Logs.{frames_of, got_of, made}
use Rattle.definitions.specs.Held.{known, known_to, resolved}
use Rattle.definitions.specs.Findings.{got_known}
use Rattle.definitions.specs.Steps.{IsMadeIn, Logs, Step, has_log, log_of}
use Rattle.definition_laws.proofs.Authentic.{accepted_is_chosen, never_named}
use Rattle.definition_laws.proofs.Collided.{accused_named}
use Rattle.definition_laws.proofs.Groups.{none_is_stuck}
use Rattle.schedule.specs.Steps.{logs_after}
use Rattle.schedule.specs.Tables.{AreFair}
use Rattle.schedule.specs.Theorem.{AcceptsWhatWasChosen, DifferentMovesConvict, HoldsOfAll, IsHonestPlayers, NamesNoHonest, NoneIsStuck}
use Rattle.schedule.proofs.Fairness.{fair_always}
use Rattle.schedule.proofs.Idling.{done_finished, finished_done}

names_no_honest : (game : Game) (logs : Logs) → 1 ≤ game.ahead → AreFair game logs → NamesNoHonest game logs
names_no_honest game logs d a some f mine named = go (log_of logs f.player) refl
  where
    go : (o : Option (List Entry)) → log_of logs f.player ≡ o → is_some o ≡ false
    go None e = refl
    go (Some own) e =
        let got : EachIs (λ g. EachIs (IsMadeIn own) (got_of f.player g)) some
        = each_kept (IsHonestPlayers logs) (λ g. EachIs (IsMadeIn own) (got_of f.player g)) some (λ g w. a.authentic w.0 f.player g own w.1 e) mine in
        absurd (never_named game f.player own some f d (a.honest f.player own e) got named refl)

accepts_what_was_chosen : (game : Game) (logs : Logs) → 1 ≤ game.ahead → AreFair game logs → AcceptsWhatWasChosen game logs
accepts_what_was_chosen game logs d a p q t h own m at there other e =
    accepted_is_chosen game p q t own h m d (a.honest q own there) other (a.authentic p q h own at there) e

-- what an honest player's log resolves of a hostile one, it got
got_resolved : (game : Game) (logs : Logs) (p q t : ℕ) (g : List Entry) (m : Move) → log_of logs p ≡ Some g → has_log logs q ≡ false → resolved game p g q t ≡ Some m → slice_get (got_known game q g).moves t ≡ Some m
unfolding known
got_resolved game logs p q t g m at hostile e =
    let moves : List TurnFrame → Option Move = λ fs. slice_get (known_to game q fs (2 * game.turns)).moves t in
    let frames : frames_of p q g ≡ got_of q g = by_test (q == p) (ne_eqb q p other) in
    ap moves (sym frames) ∙ e
  where
    other : q ≡ p → ⊥
    other same = false≢true (sym hostile ∙ ap (λ k. is_some (log_of logs k)) same ∙ ap (λ (o : Option (List Entry)). is_some o) at)

    by_test : (b : Bool) → b ≡ false → (if b then made g else got_of q g) ≡ got_of q g
    by_test true k = absurd (false≢true (sym k))
    by_test false k = refl

different_moves_convict : (game : Game) (logs : Logs) → DifferentMovesConvict game logs
different_moves_convict game logs p r q t g h m k at there within hostile one other differs =
    accused_named game (g ∷ h ∷ []) 0 1 q t g h m k within refl refl (got_resolved game logs p q t g m at hostile one) (got_resolved game logs r q t h k there hostile other) differs

none_stuck : (game : Game) (logs : Logs) → 1 ≤ game.ahead → AreFair game logs → NoneIsStuck game logs
none_stuck game logs d a idle lacks p h at =
    let w = idle p h at in (
      w.clean,
      none_is_stuck game logs d a.honest a.authentic lacks (λ q g e.
          let i = idle q g e in record { clean = i.clean; chooses = i.chooses; makes = a.made q g e; waits = i.waits }) p h at,
    )

pub fair_holds : (game : Game) (logs : Logs) → 1 ≤ game.ahead → AreFair game logs → HoldsOfAll game logs
fair_holds game logs d a = record {
  honest = a.honest;
  authentic = a.authentic;
  unnamed = names_no_honest game logs d a;
  accepted = accepts_what_was_chosen game logs d a;
  convicted = different_moves_convict game logs;
  stuck = none_stuck game logs d a;
  finished = ((λ e. finished_done game logs d a e), (λ all. done_finished game logs d a all));
}

pub schedules_hold : (game : Game) (hostile : ℕ) (steps : List Step) → 1 ≤ game.ahead → HoldsOfAll game (logs_after game hostile steps)
schedules_hold game hostile steps d = fair_holds game (logs_after game hostile steps) d (fair_always game hostile steps d)
