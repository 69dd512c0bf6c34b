-- Commands: the commands that the program's words say, and the law of each.
use Rattle.std.specs.Prelude.{◌≡◌, ℕ, false, List, [], ◌∷◌, Option, Some, None, option_and_then, option_map, if◌then◌else◌}
use Rattle.std.specs.List.{list_all}
use Rattle.std.specs.Option.{option_or}
use Rattle.station.specs.Words.{is_word}
use Rattle.command_names.specs.declared.names.Name.{Name}
use Rattle.command_names.specs.declared.names.Name.TheVariants as N
use Rattle.command_names.specs.Names.{named}
use Rattle.line_io.specs.Files.{Contents}
use Rattle.run_frame.specs.Frame.{bare_answer}
use Rattle.run_frame.specs.Law.{Law, law_without_input}
use Rattle.run_frame.specs.declared.statuses.Status.{Status}
use Rattle.run_frame.specs.declared.statuses.Status.TheVariants.{Usage}
use Rattle.accuse_command.specs.AccuseLaw.{accuse_law}
use Rattle.accuse_command.specs.AccuseWords.{Accusing, accusing_in, accusing_said}
use Rattle.deposit_command.specs.DepositLaw.{deposit_law}
use Rattle.deposit_command.specs.Words.{Depositing, depositing_in, depositing_said}
use Rattle.drive_command.specs.DriveLaw.{drive_law}
use Rattle.drive_command.specs.Words.{Driving, driving_in, driving_said}
use Rattle.file_commands.specs.AuditLaw.{audit_law}
use Rattle.file_commands.specs.AuditWords.{Auditing, auditing_in, auditing_said}
use Rattle.file_commands.specs.JudgeLaw.{judge_law}
use Rattle.file_commands.specs.JudgeWords.{Judging, judging_in, judging_said}
use Rattle.file_commands.specs.SealedJudgeLaw.{sealed_judge_law}
use Rattle.file_commands.specs.SealedWords.{SealedJudging, sealed_judging_in, sealed_judging_said}
use Rattle.file_commands.specs.UpgradeLaw.{upgrade_law}
use Rattle.file_commands.specs.UpgradeWords.{upgrading_in}
use Rattle.key_commands.specs.RootLaw.{root_law}
use Rattle.key_commands.specs.SealLaw.{seal_law}
use Rattle.key_commands.specs.Words.{Keying, Sealing, keying_in, keying_said, sealing_in, sealing_said}
use Rattle.make_command.specs.MakeLaw.{make_law}
use Rattle.make_command.specs.Words.{making_in}
use Rattle.peer_command.specs.PeerLaw.{peer_law}
use Rattle.post_command.specs.PostLaw.{post_law}
use Rattle.seat_files.specs.Words.{Peering, peering_in, peering_said, posting_in, posting_said}
use Rattle.schedule_command.specs.ScheduleLaw.{schedule_law}
use Rattle.schedule_command.specs.Words.{scheduling_in}
use Rattle.watch_command.specs.WatchLaw.{watch_law}
use Rattle.watch_command.specs.Words.{Watching, watching_in, watching_said}
use Rattle.peer_runs.specs.declared.commands.Command.{Command as CommandWords}
use Rattle.peer_runs.specs.declared.commands.Command.TheVariants as said

-- a command
pub data Command : Type 0 where
  Drive : Driving → Command
  Upgrade : (session : List ℕ) → Command
  Judge : Judging → Command
  SealedJudge : SealedJudging → Command
  Audit : Auditing → Command
  Accuse : Accusing → Command
  Schedule : (session : List ℕ) → Command
  Make : (number : ℕ) → Command
  Peer : Peering → Command
  Post : Peering → Command
  Deposit : Depositing → Command
  Root : Keying → Command
  Seal : Sealing → Command
  Watch : Watching → Command

-- the command that the words say
abbrev pub command_said : CommandWords → Command
command_said (said.Drive driving) = Drive (driving_said driving)
command_said (said.Upgrade session) = Upgrade session.now
command_said (said.Judge judging) = Judge (judging_said judging)
command_said (said.SealedJudge judging) = SealedJudge (sealed_judging_said judging)
command_said (said.Audit auditing) = Audit (auditing_said auditing)
command_said (said.Accuse accusing) = Accuse (accusing_said accusing)
command_said (said.Schedule session) = Schedule session.now
command_said (said.Make number) = Make number
command_said (said.Peer peering) = Peer (peering_said peering)
command_said (said.Post peering) = Post (posting_said peering)
command_said (said.Deposit depositing) = Deposit (depositing_said depositing)
command_said (said.Root keying) = Root (keying_said keying)
command_said (said.Seal sealing) = Seal (sealing_said sealing)
command_said (said.Watch watching) = Watch (watching_said watching)

-- the command to judge: without roots where two words say so, and with them where three do
abbrev pub judge_in : List (List ℕ) → Option Command
judge_in words = option_or (option_map Judge (judging_in words)) (option_map SealedJudge (sealed_judging_in words))

-- the command of this name with these words
abbrev pub command_in : Name → List (List ℕ) → Option Command
command_in N.Accuse words = option_map Accuse (accusing_in words)
command_in N.Audit words = option_map Audit (auditing_in words)
command_in N.Deposit words = option_map Deposit (depositing_in words)
command_in N.Drive words = option_map Drive (driving_in words)
command_in N.Judge words = judge_in words
command_in N.Make words = option_map Make (making_in words)
command_in N.Peer words = option_map Peer (peering_in words)
command_in N.Post words = option_map Post (posting_in words)
command_in N.Root words = option_map Root (keying_in words)
command_in N.Schedule words = option_map Schedule (scheduling_in words)
command_in N.Seal words = option_map Seal (sealing_in words)
command_in N.Upgrade words = option_map Upgrade (upgrading_in words)
command_in N.Watch words = option_map Watch (watching_in words)

-- the command whose name is written so, with these words
unfoldable pub command_named : (name : List ℕ) → (words : List (List ℕ)) → Option Command
command_named name words = option_and_then (λ n. command_in n words) (named name)

-- the command that these words say: its name, and then its own words
abbrev pub command_read : List (List ℕ) → Option Command
command_read [] = None
command_read (name ∷ words) = command_named name words

-- the command of the program's words
unfoldable pub command_of : List (List ℕ) → Option Command
command_of words = if list_all is_word words then command_read words else None

-- why words that are no command end so
abbrev pub usage_cause : Contents → Status → Type 0
usage_cause contents Usage = Unit {0}
usage_cause contents status = ⊥

-- what is promised where words are no command: no file is read, no memory is taken, and they are told so
abbrev pub usage_law : Law
usage_law = record (law_without_input []
    (λ before after calls. after ≡ before)
    (λ contents. bare_answer Usage)
    usage_cause
    (λ contents. ⊥)
    (λ contents. Unit {0})) { memory = false }

-- the law of a command, and of words that are none
abbrev pub law_of : Option Command → Law
law_of None = usage_law
law_of (Some (Drive d)) = drive_law d
law_of (Some (Upgrade session)) = upgrade_law session
law_of (Some (Judge j)) = judge_law j
law_of (Some (SealedJudge j)) = sealed_judge_law j
law_of (Some (Audit a)) = audit_law a
law_of (Some (Accuse a)) = accuse_law a
law_of (Some (Schedule session)) = schedule_law session
law_of (Some (Make number)) = make_law number
law_of (Some (Peer p)) = peer_law p
law_of (Some (Post p)) = post_law p
law_of (Some (Deposit d)) = deposit_law d
law_of (Some (Root k)) = root_law k
law_of (Some (Seal s)) = seal_law s
law_of (Some (Watch w)) = watch_law w
