-- Counted: how often eight players chose, and how many frames of others came to them, by their logs.
use Rattle.std.proofs.Common.{◌≡◌, inl, inr, ℕ, zero, suc, ◌+◌, ◌<◌, Bool, true, false, List, [], ◌∷◌, Option, None, Some, length, refl, sym, ◌∙◌, ap, subst, length-append}
use Rattle.std.specs.Prelude.{unwrap_or, ◌==◌, if◌then◌else◌}
use Rattle.std.proofs.lemmas.Bool.{cases_eq, cond-false, ne_eqb}
use Rattle.definitions.specs.declared.frames.TurnFrame.{TurnFrame}
use Rattle.definitions.specs.declared.logs.Entry.{Entry}
use Rattle.definitions.specs.Logs.{chosen, got_of}
use Rattle.definitions.specs.Steps.{Logs, log_of, with_log}
use Rattle.make_command.specs.Audits.{entries_by}
use Rattle.make_command.proofs.InOrder.{GotOne}
use Rattle.make_command.proofs.Totals.{all_zero, total, total_more, total_same}

-- how often the player chose
abbrev pub chosen_by : Logs → (p : ℕ) → ℕ
chosen_by logs p = length (chosen p (entries_by logs p))

-- how many frames of q came to p
abbrev pub got_by : Logs → (p q : ℕ) → ℕ
got_by logs p q = if q == p then 0 else length (got_of q (entries_by logs p))

-- the same of all eight players
abbrev pub chosen_in : Logs → ℕ
chosen_in logs = total (chosen_by logs) 8

abbrev pub got_from_all : Logs → (p : ℕ) → ℕ
got_from_all logs p = total (got_by logs p) 8

abbrev pub got_in_all : Logs → ℕ
got_in_all logs = total (got_from_all logs) 8

-- ---- a log among logs of which one changed

pub log_on : (logs : Logs) (p : ℕ) (x : Option (List Entry)) (h : List Entry) → log_of logs p ≡ Some h → log_of (with_log logs p x) p ≡ x
log_on [] p x h at = absurd (let never : None ≡ Some h = at in cc)
log_on (l ∷ ls) zero x h at = refl
log_on (l ∷ ls) (suc p) x h at = log_on ls p x h at

pub log_off : (logs : Logs) (p : ℕ) (x : Option (List Entry)) (q : ℕ) → (q ≡ p → ⊥) → log_of (with_log logs p x) q ≡ log_of logs q
log_off [] p x q differs = refl
log_off (l ∷ ls) zero x zero differs = absurd (differs refl)
log_off (l ∷ ls) zero x (suc q) differs = refl
log_off (l ∷ ls) (suc p) x zero differs = refl
log_off (l ∷ ls) (suc p) x (suc q) differs = log_off ls p x q (λ e. differs (ap suc e))

-- a log that stays changes nothing
pub log_stays : (logs : Logs) (p : ℕ) (h : List Entry) → log_of logs p ≡ Some h → with_log logs p (Some h) ≡ logs
log_stays [] p h at = absurd (let never : None ≡ Some h = at in cc)
log_stays (l ∷ ls) zero h at = ap (λ x. x ∷ ls) (sym at)
log_stays (l ∷ ls) (suc p) h at = ap (λ xs. l ∷ xs) (log_stays ls p h at)

pub entries_at : (logs : Logs) (p : ℕ) (h : List Entry) → log_of logs p ≡ Some h → entries_by logs p ≡ h
entries_at logs p h at = ap (λ (o : Option (List Entry)). unwrap_or o []) at

-- ---- the counts then
module _ (logs : Logs) (p : ℕ) (h k : List Entry) (at : log_of logs p ≡ Some h) where
  now : Logs
  now = with_log logs p (Some k)

  entries_on : entries_by (with_log logs p (Some k)) p ≡ k
  entries_on = entries_at (with_log logs p (Some k)) p k (log_on logs p (Some k) h at)

  entries_off : (r : ℕ) → (r ≡ p → ⊥) → entries_by (with_log logs p (Some k)) r ≡ entries_by logs r
  entries_off r differs = ap (λ (o : Option (List Entry)). unwrap_or o []) (log_off logs p (Some k) r differs)

  chosen_on : chosen_by (with_log logs p (Some k)) p ≡ length (chosen p k)
  chosen_on = ap (λ (es : List Entry). length (chosen p es)) entries_on

  chosen_was : chosen_by logs p ≡ length (chosen p h)
  chosen_was = ap (λ (es : List Entry). length (chosen p es)) (entries_at logs p h at)

  chosen_off : (r : ℕ) → (r ≡ p → ⊥) → chosen_by (with_log logs p (Some k)) r ≡ chosen_by logs r
  chosen_off r differs = ap (λ (es : List Entry). length (chosen r es)) (entries_off r differs)

  got_on : (q : ℕ) → got_by (with_log logs p (Some k)) p q ≡ (if q == p then 0 else length (got_of q k))
  got_on q = ap (λ (es : List Entry). if q == p then 0 else length (got_of q es)) entries_on

  got_was : (q : ℕ) → got_by logs p q ≡ (if q == p then 0 else length (got_of q h))
  got_was q = ap (λ (es : List Entry). if q == p then 0 else length (got_of q es)) (entries_at logs p h at)

  got_off : (r q : ℕ) → (r ≡ p → ⊥) → got_by (with_log logs p (Some k)) r q ≡ got_by logs r q
  got_off r q differs = ap (λ (es : List Entry). if q == r then 0 else length (got_of q es)) (entries_off r differs)

  -- where p chose as often as before
  pub chosen_kept : chosen p k ≡ chosen p h → chosen_in (with_log logs p (Some k)) ≡ chosen_in logs
  chosen_kept same = total_same (chosen_by (with_log logs p (Some k))) (chosen_by logs) 8 one
    where
      one : (r : ℕ) → r < 8 → chosen_by (with_log logs p (Some k)) r ≡ chosen_by logs r
      one r lt = elim (cases_eq r p) [
        | inl e ↦ subst (λ (n : ℕ). chosen_by (with_log logs p (Some k)) n ≡ chosen_by logs n) (sym e) (chosen_on ∙ ap length same ∙ sym chosen_was)
        | inr differs ↦ chosen_off r differs
      ]

  -- once more
  pub chosen_more : p < 8 → length (chosen p k) ≡ length (chosen p h) + 1 → chosen_in (with_log logs p (Some k)) ≡ chosen_in logs + 1
  chosen_more lt one = total_more (chosen_by logs) (chosen_by (with_log logs p (Some k))) 8 p lt (chosen_on ∙ one ∙ ap (λ (n : ℕ). n + 1) (sym chosen_was)) chosen_off

  -- where no frame came to p
  pub got_kept : ((q : ℕ) → got_of q k ≡ got_of q h) → got_in_all (with_log logs p (Some k)) ≡ got_in_all logs
  got_kept same = total_same (got_from_all (with_log logs p (Some k))) (got_from_all logs) 8 one
    where
      each : (q : ℕ) → q < 8 → got_by (with_log logs p (Some k)) p q ≡ got_by logs p q
      each q lt = got_on q ∙ ap (λ (fs : List TurnFrame). if q == p then 0 else length fs) (same q) ∙ sym (got_was q)

      one : (r : ℕ) → r < 8 → got_from_all (with_log logs p (Some k)) r ≡ got_from_all logs r
      one r lt = elim (cases_eq r p) [
        | inl e ↦
            subst (λ (n : ℕ). got_from_all (with_log logs p (Some k)) n ≡ got_from_all logs n) (sym e)
            (total_same (got_by (with_log logs p (Some k)) p) (got_by logs p) 8 each)
        | inr differs ↦ total_same (got_by (with_log logs p (Some k)) r) (got_by logs r) 8 (λ q low. got_off r q differs)
      ]

  -- where one did
  pub got_more : (q : ℕ) (f : TurnFrame) → p < 8 → q < 8 → (q ≡ p → ⊥) → GotOne q f h k → got_in_all (with_log logs p (Some k)) ≡ got_in_all logs + 1
  got_more q f lt low other got =
      total_more (got_from_all logs) (got_from_all (with_log logs p (Some k))) 8 p lt
      (total_more (got_by logs p) (got_by (with_log logs p (Some k)) p) 8 q low at_q off_q)
      (λ r differs. total_same (got_by (with_log logs p (Some k)) r) (got_by logs r) 8 (λ s below. got_off r s differs))
    where
      at_q : got_by (with_log logs p (Some k)) p q ≡ got_by logs p q + 1
      at_q =
          let is_off = ne_eqb q p other in
          let now : got_by (with_log logs p (Some k)) p q ≡ length (got_of q k) = got_on q ∙ cond-false (q == p) 0 (length (got_of q k)) is_off in
          let was : got_by logs p q ≡ length (got_of q h) = got_was q ∙ cond-false (q == p) 0 (length (got_of q h)) is_off in
          now ∙ ap length got.one ∙ length-append (got_of q h) (f ∷ []) ∙ ap (λ (n : ℕ). n + 1) (sym was)

      off_q : (r : ℕ) → (r ≡ q → ⊥) → got_by (with_log logs p (Some k)) p r ≡ got_by logs p r
      off_q r differs = got_on r ∙ ap (λ (fs : List TurnFrame). if r == p then 0 else length fs) (got.others r differs) ∙ sym (got_was r)

-- ---- the first logs

-- Nothing was chosen, and no frame came.
pub record IsNothing (logs : Logs) : Type 0 where
  pub chosen : chosen_in logs ≡ 0
  pub got : got_in_all logs ≡ 0

pub nothing_yet : (logs : Logs) → ((p : ℕ) → entries_by logs p ≡ []) → IsNothing logs
unfolding chosen got_of
nothing_yet logs none = record {
  chosen = total_same (chosen_by logs) (λ _. 0) 8 (λ p lt. ap (λ (es : List Entry). length (chosen p es)) (none p)) ∙ all_zero;
  got = total_same (got_from_all logs) (λ _. 0) 8 (λ p lt.
      total_same (got_by logs p) (λ _. 0) 8 (λ q low. ap (λ (es : List Entry). if q == p then 0 else length (got_of q es)) (none p) ∙ zeros (q == p)) ∙ all_zero) ∙ all_zero;
}
  where
    zeros : (b : Bool) → ◌≡◌ {A = ℕ} (if b then 0 else 0) 0
    zeros true = refl
    zeros false = refl
