-- Words: what the words of the command say.
use Rattle.std.specs.Prelude.{ℕ, Bool, not, List, [], ◌∷◌, Option, Some, None, length, map, nat_le, ◌&&◌, if◌then◌else◌}
use Rattle.definitions.specs.Lists.{is_empty}
use Rattle.definitions.specs.declared.limits.TheConstants.{MOST_AUDITED}
use Rattle.file_commands.specs.declared.audit_words.AuditWords.{AuditWords}

-- a run of the command, by its words
pub record Auditing : Type 0 where
  -- the session's file
  pub session : List ℕ
  -- the files of the logs, in their order
  pub logs : List (List ℕ)

-- the run that the words say
abbrev pub auditing_said : AuditWords → Auditing
auditing_said words = record { session = words.session.now; logs = map (λ w. w.items) words.logs.now }

-- there is a log, and not more than one run takes
abbrev pub are_few : List (List ℕ) → Bool
are_few logs = not (is_empty logs) && nat_le (length logs) MOST_AUDITED

-- the run of the words behind the command's name: `SESSION LOG..`
abbrev pub auditing_in : List (List ℕ) → Option Auditing
auditing_in [] = None
auditing_in (session ∷ logs) = if are_few logs then Some (record { session = session; logs = logs }) else None
