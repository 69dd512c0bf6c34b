-- Laws: where memory is wanting before a command has begun, its law is kept.
use Rattle.std.proofs.Common.{◌≡◌, Some, refl}
use Rattle.run_frame.specs.Outside.{Outside}
use Rattle.run_frame.specs.Runs.{Works}
use Rattle.run_frame.specs.declared.statuses.Status.TheVariants.{NoMemory}
use Rattle.run_frame.proofs.Working.{unremembered}
use Rattle.accuse_command.proofs.AccuseHolds.{accuse_holds}
use Rattle.deposit_command.proofs.DepositHolds.{deposit_holds}
use Rattle.drive_command.proofs.DriveHolds.{drive_holds}
use Rattle.file_commands.proofs.AuditHolds.{audit_holds}
use Rattle.file_commands.proofs.JudgeHolds.{judge_holds}
use Rattle.file_commands.proofs.SealedHolds.{sealed_holds}
use Rattle.file_commands.proofs.UpgradeHolds.{upgrade_holds}
use Rattle.key_commands.proofs.RootHolds.{root_holds}
use Rattle.key_commands.proofs.SealHolds.{seal_holds}
use Rattle.make_command.proofs.MakeHolds.{make_holds}
use Rattle.peer_command.proofs.PeerHolds.{peer_holds}
use Rattle.post_command.proofs.PostHolds.{post_holds}
use Rattle.schedule_command.proofs.ScheduleHolds.{schedule_holds}
use Rattle.watch_command.proofs.WatchHolds.{watch_holds}
use Rattle.peer_runs.specs.Commands.{Command, law_of}
use Rattle.peer_runs.specs.Commands as C

pub no_memory : (command : Command) (outside : Outside) → Works (law_of (Some command)) outside outside NoMemory
no_memory (C.Drive d) outside = unremembered _ (drive_holds d) refl outside
no_memory (C.Upgrade session) outside = unremembered _ (upgrade_holds session) refl outside
no_memory (C.Judge j) outside = unremembered _ (judge_holds j) refl outside
no_memory (C.SealedJudge j) outside = unremembered _ (sealed_holds j) refl outside
no_memory (C.Audit a) outside = unremembered _ (audit_holds a) refl outside
no_memory (C.Accuse a) outside = unremembered _ (accuse_holds a) refl outside
no_memory (C.Schedule session) outside = unremembered _ (schedule_holds session) refl outside
no_memory (C.Make number) outside = unremembered _ (make_holds number) refl outside
no_memory (C.Peer p) outside = unremembered _ (peer_holds p) refl outside
no_memory (C.Post p) outside = unremembered _ (post_holds p) refl outside
no_memory (C.Deposit d) outside = unremembered _ (deposit_holds d) refl outside
no_memory (C.Root k) outside = unremembered _ (root_holds k) refl outside
no_memory (C.Seal s) outside = unremembered _ (seal_holds s) refl outside
no_memory (C.Watch w) outside = unremembered _ (watch_holds w) refl outside
