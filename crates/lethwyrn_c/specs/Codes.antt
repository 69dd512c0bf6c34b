-- Codes: the numbers that C is told, as its header names them.
use Rattle.std.specs.Prelude.{ℕ}
use Rattle.definitions.specs.declared.world.MoveFault.{MoveFault}
use Rattle.definitions.specs.declared.world.MoveFault.TheVariants as M
use Rattle.definitions.specs.declared.answers.OwnFault.{OwnFault}
use Rattle.definitions.specs.declared.answers.OwnFault.TheVariants as O
use Rattle.definitions.specs.declared.answers.GotAnswer.{GotAnswer}
use Rattle.definitions.specs.declared.answers.GotAnswer.TheVariants as G
use Rattle.definitions.specs.declared.answers.Progress.{Progress}
use Rattle.definitions.specs.declared.answers.Progress.TheVariants as P
use Rattle.definitions.specs.declared.sessions.SessionRule.{SessionRule}
use Rattle.definitions.specs.declared.sessions.SessionRule.TheVariants as S
use Rattle.definitions.specs.declared.findings.Kind.{Kind}
use Rattle.definitions.specs.declared.findings.Kind.TheVariants as K
use Rattle.definitions.specs.declared.frames.What.{What}
use Rattle.definitions.specs.declared.frames.What.TheVariants as W
use Rattle.definitions.specs.declared.logs.LogWhy.{LogWhy}
use Rattle.definitions.specs.declared.logs.LogWhy.TheVariants as L
use Rattle.seal_keys.specs.declared.answer.SealAnswer.{SealAnswer}
use Rattle.seal_keys.specs.declared.answer.SealAnswer.TheVariants as A

-- why a move isn't legal
abbrev pub code_of_move : MoveFault → ℕ
code_of_move M.Outside = 11
code_of_move M.Wall = 12
code_of_move M.TooFar = 13
code_of_move M.StrikeOutside = 14
code_of_move M.StrikeFar = 15
code_of_move M.NoCharge = 16

-- why a choice was refused
abbrev pub code_of_fault : OwnFault → ℕ
code_of_fault O.NotNow = 10
code_of_fault (O.Illegal fault) = code_of_move fault

-- what became of a frame
abbrev pub code_of_answer : GotAnswer → ℕ
code_of_answer G.Taken = 40
code_of_answer G.Stashed = 41
code_of_answer G.Same = 42
code_of_answer G.Far = 43
code_of_answer G.Foreign = 44
code_of_answer G.Closed = 45
code_of_answer (G.Caught finding) = 46

-- how far a peer came
abbrev pub code_of_progress : Progress → ℕ
code_of_progress (P.Made count) = 50
code_of_progress P.Choose = 51
code_of_progress P.Waits = 52
code_of_progress P.Done = 53
code_of_progress (P.Caught finding) = 46

-- how many frames were made
abbrev pub made_by : Progress → ℕ
made_by (P.Made count) = count
made_by P.Choose = 0
made_by P.Waits = 0
made_by P.Done = 0
made_by (P.Caught finding) = 0

-- the number of a rule of session texts
abbrev pub code_of_rule : SessionRule → ℕ
code_of_rule S.S1 = 1
code_of_rule S.S2 = 2
code_of_rule S.S3 = 3
code_of_rule S.S4 = 4
code_of_rule S.S5 = 5
code_of_rule S.S6 = 6
code_of_rule S.S7 = 7
code_of_rule S.S8 = 8
code_of_rule S.S9 = 9
code_of_rule S.S10 = 10
code_of_rule S.S11 = 11
code_of_rule S.S12 = 12

-- the number of a kind of finding
abbrev pub code_of_kind : Kind → ℕ
code_of_kind K.TwoCommits = 1
code_of_kind K.BadOpening = 2
code_of_kind K.Collision = 3
code_of_kind K.Illegal = 4

-- which frame of a turn
abbrev pub code_of_what : What → ℕ
code_of_what W.Commit = 0
code_of_what W.Reveal = 1

-- why a log was refused
abbrev pub code_of_log : LogWhy → ℕ
code_of_log L.TooLong = 1
code_of_log L.Torn = 2
code_of_log L.BadChain = 3
code_of_log L.BadEntry = 4
code_of_log L.NotReplayed = 5

-- what became of the wish to seal a frame
abbrev pub code_of_seal : SealAnswer → ℕ
code_of_seal A.Done = 0
code_of_seal A.Used = 22
code_of_seal A.Foreign = 44
