-- Commanded: the command's answer has its cause, and what is behind it.
use Rattle.std.proofs.Common.{List, [], ◌∷◌, None, Option, Some, ap, append_assoc, false, refl, subst, sym, true, ℕ, ◌+◌, ◌++◌, ◌∙◌, ◌≡◌, ◌≤◌}
use Rattle.std.specs.Prelude.{map, if◌then◌else◌}
use Rattle.definitions.specs.World.{Game}
use Rattle.definitions.specs.Steps.{run}
use Rattle.line_io.specs.Inputs.{AtEnd, AtFault, End, Fault, Input, Line, ending_of, lines_in}
use Rattle.run_frame.specs.Frame.{Answer, after_text, answer_by}
use Rattle.run_frame.specs.declared.statuses.Status.{Status}
use Rattle.run_frame.specs.declared.statuses.Status.TheVariants.{BadLine, Done}
use Rattle.run_frame.specs.declared.statuses.TextName.TheVariants.{Script}
use Rattle.schedule.specs.declared.steps.Step.{Step}
use Rattle.schedule.specs.declared.stands.Stand.{Stand}
use Rattle.schedule.specs.declared.stands.Stand.TheVariants as S
use Rattle.schedule.specs.Stands.{stand}
use Rattle.schedule.specs.Steps.{logs_after, meant}
use Rattle.schedule.specs.Tables.{AreFair, TableState}
use Rattle.schedule.proofs.Ended.{stand_caught, stand_clean}
use Rattle.schedule.proofs.Fairness.{fair_always}
use Rattle.schedule.proofs.Holding.{schedules_hold}
use Rattle.schedule_command.specs.declared.grammar.ScheduleLine.{ScheduleLine}
use Rattle.schedule_command.specs.declared.grammar.ScheduleLine.TheVariants as says
use Rattle.schedule_command.specs.declared.opening.Naming.{Naming}
use Rattle.schedule_command.specs.declared.opening.Naming.TheVariants.{Names, Passed, Unknown}
use Rattle.schedule_command.specs.Causes.{AreClean, IsPlayedOut, ScheduleCause, TellsMatch}
use Rattle.schedule_command.specs.Grammar.{is_bad}
use Rattle.schedule_command.specs.Matches.{EndsWith, bad_from, bad_line, by_naming, hostile_from, logs_behind, named_bad_from, named_or, named_steps_from, stand_behind, step_in, steps_from}
use Rattle.schedule_command.specs.Played.{OnEnd, is_end}
use Rattle.schedule_command.specs.Schedule.{end_text, first_table, named_answer, naming_behind, opened_from, said_behind, schedule_answer, schedule_from, status_of, step_text, table_after, table_behind, tally_text, text_behind}

-- An answer to lines of which this is the first bad one, or else to all of them, behind which the match stands so.
abbrev EndsSo : Answer → Option ℕ → Stand → Type 0
EndsSo a (Some n) s = a.status ≡ BadLine Script n
EndsSo a None s = (a.status ≡ status_of s) × EndsWith a.body (end_text s)

ends_behind : (text : List ℕ) (a : Answer) (bad : Option ℕ) (s : Stand) → EndsSo a bad s → EndsSo (after_text text a) bad s
ends_behind text a (Some n) s e = e
ends_behind text a None s e = (e.0, (text ++ e.1.0, ap (λ (rest : List ℕ). text ++ rest) e.1.1 ∙ sym (append_assoc text e.1.0 (end_text s))))

-- how the match stands behind these steps of a table
abbrev stand_from : TableState → List Step → Stand
stand_from t steps = stand t.game (run t.game t.logs (map meant steps))

-- the answer to lines behind the one that names the hostile players
ends_from : (t : TableState) (n : ℕ) (input : Input) → ending_of input ≡ AtEnd →
    EndsSo (schedule_from t n input) (bad_from t.game n (lines_in input)) (stand_from t (steps_from t.game n (lines_in input)))
unfolding table_after
ends_from t n End ends = (refl, ([], refl))
ends_from t n Fault ends = absurd (let never : AtFault ≡ AtEnd = ends in cc)
ends_from t n (Line line input) ends = go (λ u. ends_from u (n + 1) input ends) (said_behind t.game n line)
  where
    go : ((u : TableState) → EndsSo (schedule_from u (n + 1) input) (bad_from u.game (n + 1) (lines_in input)) (stand_from u (steps_from u.game (n + 1) (lines_in input)))) →
        (d : ScheduleLine) → EndsSo (answer_by (is_bad d) (n + 1) (text_behind t d) (schedule_from (table_behind t d) (n + 1) input)) (if is_bad d then Some (n + 1) else bad_from t.game (n + 1) (lines_in input))
        (stand_from t (if is_bad d then [] else step_in d ++ steps_from t.game (n + 1) (lines_in input)))
    go more says.Nothing =
        ends_behind [] (schedule_from t (n + 1) input) (bad_from t.game (n + 1) (lines_in input)) (stand_from t (steps_from t.game (n + 1) (lines_in input))) (more t)
    go more (says.Step step) =
        ends_behind (step_text t step) (schedule_from (table_after t step) (n + 1) input) (bad_from t.game (n + 1) (lines_in input))
        (stand_from (table_after t step) (steps_from t.game (n + 1) (lines_in input))) (more (table_after t step))
    go more (says.Tally p) =
        ends_behind (tally_text t p) (schedule_from t (n + 1) input) (bad_from t.game (n + 1) (lines_in input)) (stand_from t (steps_from t.game (n + 1) (lines_in input))) (more t)
    go more says.Bad = refl

-- and to all lines, of which n were passed over
opened_ends : (game : Game) (n : ℕ) (input : Input) → ending_of input ≡ AtEnd →
    EndsSo (opened_from game n input) (named_bad_from game n (lines_in input)) (stand game (logs_after game (hostile_from game n (lines_in input)) (map meant (named_steps_from game n (lines_in input)))))
opened_ends game n End ends = refl
opened_ends game n Fault ends = absurd (let never : AtFault ≡ AtEnd = ends in cc)
opened_ends game n (Line line input) ends = go (opened_ends game (n + 1) input ends) (naming_behind game n line)
  where
    go : EndsSo (opened_from game (n + 1) input) (named_bad_from game (n + 1) (lines_in input))
        (stand game (logs_after game (hostile_from game (n + 1) (lines_in input)) (map meant (named_steps_from game (n + 1) (lines_in input))))) →
        (k : Naming) → EndsSo (named_answer game k (n + 1) (opened_from game (n + 1) input) input) (by_naming k (named_bad_from game (n + 1) (lines_in input)) (bad_from game (n + 1) (lines_in input)) (Some (n + 1)))
        (stand game (logs_after game (named_or k (hostile_from game (n + 1) (lines_in input))) (map meant (by_naming k (named_steps_from game (n + 1) (lines_in input)) (steps_from game (n + 1) (lines_in input)) []))))
    go more Passed = more
    go more (Names hostile) = ends_from (first_table game hostile) (n + 1) input ends
    go more Unknown = refl

module _ (game : Game) (input : Input) (ends : ending_of input ≡ AtEnd) where
  fair : 1 ≤ game.ahead → AreFair game (logs_behind game (lines_in input))
  fair ahead = fair_always game (hostile_from game 0 (lines_in input)) (map meant (named_steps_from game 0 (lines_in input))) ahead

  -- how the match ends, by how it stands
  by_stand : bad_line game (lines_in input) ≡ None → 1 ≤ game.ahead → (s : Stand) → stand_behind game (lines_in input) ≡ s → ScheduleCause game input (status_of s)
  by_stand e ahead (S.Caught p) is = let found = stand_caught game (logs_behind game (lines_in input)) p is in record { lines = e; logs = record { player = p; log = found.0; log_is = found.1; found = found.2 } }
  by_stand e ahead (S.Moving p) is = record { lines = e; logs = stand_clean game (logs_behind game (lines_in input)) (fair ahead) (λ q c. let never : S.Moving p ≡ S.Caught q = sym is ∙ c in cc) }
  by_stand e ahead (S.Behind p r place) is =
      record { lines = e; logs = stand_clean game (logs_behind game (lines_in input)) (fair ahead) (λ q c. let never : S.Behind p r place ≡ S.Caught q = sym is ∙ c in cc) }
  by_stand e ahead (S.Held p) is = record { lines = e; logs = stand_clean game (logs_behind game (lines_in input)) (fair ahead) (λ q c. let never : S.Held p ≡ S.Caught q = sym is ∙ c in cc) }
  by_stand e ahead S.Finished is = record { lines = e; logs = stand_clean game (logs_behind game (lines_in input)) (fair ahead) (λ q c. let never : S.Finished ≡ S.Caught q = sym is ∙ c in cc) }

  -- where no log has a finding, the match ends without one
  clean_done : AreClean game (logs_behind game (lines_in input)) → (s : Stand) → stand_behind game (lines_in input) ≡ s → status_of s ≡ Done
  clean_done clean (S.Caught p) is =
      let found = stand_caught game (logs_behind game (lines_in input)) p is in
      absurd (let never : true ≡ false = sym (clean p found.0 found.1) ∙ found.2 in cc)
  clean_done clean (S.Moving p) is = refl
  clean_done clean (S.Behind p r place) is = refl
  clean_done clean (S.Held p) is = refl
  clean_done clean S.Finished is = refl

  -- the status that is due has its cause
  pub schedule_caused : 1 ≤ game.ahead → ScheduleCause game input (schedule_answer game input).status
  schedule_caused ahead = go (bad_line game (lines_in input)) refl (opened_ends game 0 input ends)
    where
      go : (bad : Option ℕ) → bad_line game (lines_in input) ≡ bad → EndsSo (schedule_answer game input) bad (stand_behind game (lines_in input)) → ScheduleCause game input (schedule_answer game input).status
      go (Some n) e x = subst (λ (s : Status). ScheduleCause game input s) (sym x) e
      go None e (status, body) =
          subst (λ (s : Status). ScheduleCause game input s) (sym status) (by_stand e ahead (stand_behind game (lines_in input)) refl)

  -- at the command's end stands how the match stands
  ended : OnEnd (schedule_answer game input).status (EndsWith (schedule_answer game input).body (end_text (stand_behind game (lines_in input))))
  ended is = go (bad_line game (lines_in input)) (opened_ends game 0 input ends)
    where
      go : (bad : Option ℕ) → EndsSo (schedule_answer game input) bad (stand_behind game (lines_in input)) → EndsWith (schedule_answer game input).body (end_text (stand_behind game (lines_in input)))
      go (Some n) x = absurd (let never : false ≡ true = sym (ap is_end x) ∙ is in cc)
      go None x = x.1

  -- where all is good, the end of the command is due
  pub schedule_done : IsPlayedOut game input AreClean → (schedule_answer game input).status ≡ Done
  schedule_done p =
      let x : EndsSo (schedule_answer game input) None (stand_behind game (lines_in input)) =
      subst (λ (b : Option ℕ). EndsSo (schedule_answer game input) b (stand_behind game (lines_in input))) p.lines (opened_ends game 0 input ends) in
      x.0 ∙ clean_done p.logs (stand_behind game (lines_in input)) refl

-- the answer tells a match of which all holds that holds in any interleaving
pub schedule_tells : (game : Game) (input : Input) → 1 ≤ game.ahead → TellsMatch game input (schedule_answer game input)
schedule_tells game input ahead = record { holds = schedules_hold game (hostile_from game 0 (lines_in input)) (map meant (named_steps_from game 0 (lines_in input))) ahead; ends = ended game input }
