-- The number of a status, and the line by which it is told.
use Rattle.std.specs.Prelude.{ℕ, List, [], ◌++◌, codes, decimal}
use Rattle.definitions.specs.declared.sessions.SessionRule.{SessionRule}
use Rattle.definitions.specs.declared.sessions.SessionRule.TheVariants.{S1, S2, S3, S4, S5, S6, S7, S8, S9, S10, S11, S12}
use Rattle.definitions.specs.declared.logs.LogWhy.{LogWhy}
use Rattle.definitions.specs.declared.logs.LogWhy.TheVariants.{TooLong, Torn, BadChain, BadEntry, NotReplayed}
use Rattle.run_frame.specs.declared.statuses.TextName.{TextName}
use Rattle.run_frame.specs.declared.statuses.TextName.TheVariants.{Script, Roster, Moves, Evidence, Seed, Roots}
use Rattle.run_frame.specs.declared.statuses.Status.{Status}
use Rattle.run_frame.specs.declared.statuses.Status.TheVariants.{Done, NoMemory, Usage, BadSession, InputFault, OutputFault, Caught, GaveUp, KeepFault, PollFault, BadLog, BadLine, OwnMove, BadSeal}

-- the exit status of a run that ends so
abbrev pub code_of : Status → ℕ
code_of Done = 0
code_of NoMemory = 1
code_of Usage = 2
code_of (BadSession line what) = 3
code_of InputFault = 4
code_of OutputFault = 5
code_of Caught = 6
code_of GaveUp = 7
code_of KeepFault = 8
code_of PollFault = 9
code_of (BadLog log at why) = 10
code_of (BadLine text line) = 11
code_of (OwnMove turn fault) = 12
code_of (BadSeal file at) = 14

-- the name of a rule of session texts
abbrev pub rule_name : SessionRule → List ℕ
rule_name S1 = codes "S1"
rule_name S2 = codes "S2"
rule_name S3 = codes "S3"
rule_name S4 = codes "S4"
rule_name S5 = codes "S5"
rule_name S6 = codes "S6"
rule_name S7 = codes "S7"
rule_name S8 = codes "S8"
rule_name S9 = codes "S9"
rule_name S10 = codes "S10"
rule_name S11 = codes "S11"
rule_name S12 = codes "S12"

-- the word for what is wrong with a log
abbrev pub why_word : LogWhy → List ℕ
why_word TooLong = codes "too-long"
why_word Torn = codes "torn"
why_word BadChain = codes "bad-chain"
why_word BadEntry = codes "bad-entry"
why_word NotReplayed = codes "not-replayed"

-- the word for a text
abbrev pub text_word : TextName → List ℕ
text_word Script = codes "script"
text_word Roster = codes "roster"
text_word Moves = codes "moves"
text_word Evidence = codes "evidence"
text_word Seed = codes "seed"
text_word Roots = codes "roots"

-- the line that tells of a session text that is not in its grammar
unfoldable pub bad_session_line : ℕ → SessionRule → List ℕ
bad_session_line line what = codes "bad session " ++ decimal line ++ codes " " ++ rule_name what ++ codes "\n"

-- the line that tells of a log that can't be used
unfoldable pub bad_log_line : ℕ → ℕ → LogWhy → List ℕ
bad_log_line log at why = codes "bad log " ++ decimal log ++ codes " at " ++ decimal at ++ codes " " ++ why_word why ++ codes "\n"

-- the line that tells of a line that is not in its grammar
unfoldable pub bad_line_line : TextName → ℕ → List ℕ
bad_line_line text line = codes "bad line " ++ text_word text ++ codes " " ++ decimal line ++ codes "\n"

-- the line that tells of a file that is none of sealed frames
unfoldable pub bad_seal_line : ℕ → ℕ → List ℕ
bad_seal_line file at = codes "bad seal " ++ decimal file ++ codes " at " ++ decimal at ++ codes "\n"

-- The line by which a status is told at the very end. Those that a command tells in its own text, and a fault of the sink,
-- have none.
abbrev pub refusal_of : Status → List ℕ
refusal_of Done = []
refusal_of NoMemory = codes "no memory\n"
refusal_of Usage = codes "usage\n"
refusal_of (BadSession line what) = bad_session_line line what
refusal_of InputFault = codes "input fault\n"
refusal_of OutputFault = []
refusal_of Caught = []
refusal_of GaveUp = []
refusal_of KeepFault = []
refusal_of PollFault = []
refusal_of (BadLog log at why) = bad_log_line log at why
refusal_of (BadLine text line) = bad_line_line text line
refusal_of (OwnMove turn fault) = []
refusal_of (BadSeal file at) = bad_seal_line file at
