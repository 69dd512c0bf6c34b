-- Fair: the logs of a match of honest players alone are fair, and so accuse nobody.
use Rattle.std.proofs.Common.{◌≡◌, inl, ◌+◌, ◌<◌, ℕ, zero, suc, true, List, [], ◌∷◌, Option, None, Some, map, refl, ◌∙◌, ap, arith}
use Rattle.std.specs.Prelude.{is_some, option_map, unwrap_or}
use Rattle.std.specs.List.{range_with_len}
use Rattle.std.proofs.lemmas.Nat.Bits.{bit_at-zero}
use Rattle.plain_lemmas.proofs.Options.{some_of}
use Rattle.definitions.specs.declared.world.Move.{Move}
use Rattle.definitions.specs.declared.openings.Nonce.{Nonce}
use Rattle.definitions.specs.declared.frames.TurnFrame.{TurnFrame}
use Rattle.definitions.specs.declared.findings.Finding.{Finding}
use Rattle.definitions.specs.declared.logs.Entry.{Entry}
use Rattle.definitions.specs.Findings.{findings, is_clean}
use Rattle.definitions.specs.Lists.{EachIs, is_empty}
use Rattle.definitions.specs.Logs.{got_of}
use Rattle.definitions.specs.Steps.{Choose, Deliver, IsMadeIn, Logs, after, after_choice, has_log, log_after_frame, log_of, made_at, with_log}
use Rattle.definitions.specs.World.{Game, players_of}
use Rattle.definition_laws.specs.Members.{Has}
use Rattle.definition_laws.proofs.Authentic.{never_named}
use Rattle.definition_laws.proofs.Least.{findings_Has}
use Rattle.grid_world.specs.Sessions.{IsSession}
use Rattle.schedule.specs.Steps.{first_log, first_logs}
use Rattle.schedule.specs.Tables.{AreFair}
use Rattle.schedule.proofs.Fairness.{fair_after, fair_first}
use Rattle.make_command.specs.Audits.{audited_logs, entries_by}

-- All players of a session have logs, and these are fair.
pub record AreSound (game : Game) (logs : Logs) : Type 0 where
  pub session : IsSession game
  pub fair : AreFair game logs
  pub all : (q : ℕ) → q < players_of game → has_log logs q ≡ true

-- whoever has a log has one still where a log changed to another
has_set : (logs : Logs) (p : ℕ) (x : Option (List Entry)) (q : ℕ) → is_some x ≡ is_some (log_of logs p) → has_log (with_log logs p x) q ≡ has_log logs q
has_set [] p x q e = refl
has_set (l ∷ ls) zero x zero e = e
has_set (l ∷ ls) zero x (suc q) e = refl
has_set (l ∷ ls) (suc p) x zero e = refl
has_set (l ∷ ls) (suc p) x (suc q) e = has_set ls p x q e

map_has : (f : List Entry → List Entry) (o : Option (List Entry)) → is_some (option_map f o) ≡ is_some o
map_has f None = refl
map_has f (Some h) = refl

frame_has : (game : Game) (p : ℕ) (o : Option (List Entry)) (q : ℕ) (f : Option TurnFrame) → is_some (log_after_frame game p o q f) ≡ is_some o
frame_has game p None q f = refl
frame_has game p (Some h) q None = refl
frame_has game p (Some h) q (Some f) = refl

-- a choice leaves it so, and so does a delivery
pub sound_choice : (game : Game) (logs : Logs) (p : ℕ) (m : Move) (n : Nonce) → AreSound game logs → AreSound game (after game logs (Choose p m n))
sound_choice game logs p m n w = record {
  session = w.session;
  fair = fair_after game logs (Choose p m n) w.session.ahead.0 w.fair;
  all = λ r lt. has_set logs p (option_map (λ h. after_choice game p h m n) (log_of logs p)) r (map_has (λ h. after_choice game p h m n) (log_of logs p)) ∙ w.all r lt;
}

pub sound_delivery : (game : Game) (logs : Logs) (p q place : ℕ) → AreSound game logs → AreSound game (after game logs (Deliver q p place))
sound_delivery game logs p q place w = record {
  session = w.session;
  fair = fair_after game logs (Deliver q p place) w.session.ahead.0 w.fair;
  all = λ r lt.
      has_set logs p (log_after_frame game p (log_of logs p) q (made_at (log_of logs q) place)) r (frame_has game p (log_of logs p) q (made_at (log_of logs q) place)) ∙ w.all r lt;
}

-- ---- the first logs

honest : (q : ℕ) → is_some (first_log 0 q) ≡ true
honest q = rw (bit_at-zero q) refl

has_from : (a n q : ℕ) → q < n → has_log (map (first_log 0) (range_with_len a n)) q ≡ true
has_from a zero q lt = absurd (omega (arith, lt))
has_from a (suc n) zero lt = honest a
has_from a (suc n) (suc q) lt = has_from (a + 1) n q (omega (arith, lt))

pub sound_first : (game : Game) → IsSession game → AreSound game (first_logs game 0)
sound_first game is = record { session = is; fair = fair_first game 0; all = λ q lt. has_from 0 (players_of game) q lt }

-- ---- the logs accuse nobody

no_findings : (fs : List Finding) → ((f : Finding) → Has fs f → ⊥) → fs ≡ []
no_findings [] none = refl
no_findings (f ∷ fs) none = absurd (none f (inl refl))

-- the frames that such logs got of a player are those that it made
module _ (game : Game) (logs : Logs) (fair : AreFair game logs) (q : ℕ) (own : List Entry) (at : log_of logs q ≡ Some own) where
  log_got : (p : ℕ) → EachIs (IsMadeIn own) (got_of q (entries_by logs p))
  unfolding got_of
  log_got p = go (log_of logs p) refl
    where
      go : (o : Option (List Entry)) → log_of logs p ≡ o → EachIs (IsMadeIn own) (got_of q (unwrap_or o []))
      go None e = tt
      go (Some g) e = fair.authentic p q g own e at

  all_got : (ps : List ℕ) → EachIs (λ g. EachIs (IsMadeIn own) (got_of q g)) (map (entries_by logs) ps)
  all_got [] = tt
  all_got (p ∷ ps) = (log_got p, all_got ps)

-- logs that got only what their owners' players made have no finding
found_nothing : (game : Game) (logs : Logs) (some : List (List Entry)) → AreSound game logs →
    ((q : ℕ) (own : List Entry) → log_of logs q ≡ Some own → EachIs (λ g. EachIs (IsMadeIn own) (got_of q g)) some) → findings game some ≡ []
found_nothing game logs some w each = no_findings (findings game some) (λ f has.
    let own = some_of (log_of logs f.player) (w.all f.player (findings_Has game some f has).0) in
    never_named game f.player own.0 some f w.session.ahead.0 (w.fair.honest f.player own.0 own.1) (each f.player own.0 own.1) has refl)

-- all together accuse nobody, and so does each alone
pub found_none : (game : Game) (logs : Logs) → AreSound game logs → findings game (audited_logs game logs) ≡ []
found_none game logs w = found_nothing game logs (audited_logs game logs) w (λ q own at. all_got game logs w.fair q own at (range_with_len 0 (players_of game)))

pub clean_alone : (game : Game) (logs : Logs) (p : ℕ) (h : List Entry) → AreSound game logs → log_of logs p ≡ Some h → is_clean game h ≡ true
unfolding is_clean
clean_alone game logs p h w at = ap is_empty (found_nothing game logs (h ∷ []) w (λ q own at_q. (w.fair.authentic p q h own at at_q, tt)))
