use Rattle.std.proofs.Common.{◌≡◌, ◌++◌, ◌∙◌, ap, refl, subst, sym, List}
use Rattle.definitions.specs.declared.frames.TurnFrame.{TurnFrame}
use Rattle.definitions.specs.declared.logs.Entry.{Entry}
use Rattle.definitions.specs.World.{Game}
use Rattle.definitions.specs.Findings.{findings}
use Rattle.definition_laws.specs.Members.{Has}
use Rattle.frame_index.specs.Frames.{IsIndex}
use Rattle.evidence.specs.Showing.{frames_of_finding}
use Rattle.auditor.specs.Audits.{AuditState, IsAuditOf}
use Rattle.auditor.specs.Exhibits.{before_pair, is_illegal, pair_shown}
use Rattle.auditor.proofs.Paired.{frames_are}
use Rattle.auditor.proofs.auditor.Auditor.exhibit_all.Goals as goal

-- the frames are those by which the finding is shown
frames : (c : goal.After-drop-seen-2) (game : Game) (logs : List (List Entry)) → IsAuditOf game logs c.args.self.now → Has (findings game logs) c.args.finding.now → c.new.result ≡ frames_of_finding game logs c.args.finding.now
frames c game logs w m = subst At v.session at m v.index
  where
    v : IsAuditOf game logs (record { session = c.self.inside.session; index = c.self.inside.index; made = c.self.inside.made; counts = c.self.inside.counts; owners = c.self.inside.owners })
    v = subst (λ (a : AuditState). IsAuditOf game logs a) (sym c.self.view_is) w

    At : Game → Type 0
    At g = Has (findings g logs) c.args.finding.now → IsIndex g logs c.self.inside.index → c.new.result ≡ frames_of_finding g logs c.args.finding.now

    at : At c.self.inside.session
    at n i =
        let before = c.in_ok-put_before.ensures logs i n ∙ ap (λ (fs : List TurnFrame). fs ++ before_pair (is_illegal c.args.finding.now.kind) c.self.inside.session logs c.args.finding.now) c.new-frames.ensures.items in
        frames_are c.self.inside.session logs c.args.finding.now c.new.result
        (c.new.ensures ∙ c.in_ok-put_pair.ensures c.self.inside.session logs i n ∙ ap (λ (fs : List TurnFrame). fs ++ pair_shown logs c.args.finding.now) before)

pub returns : goal.returns
returns c = λ game logs w m. record { player = refl; turn = refl; kind = refl; frames = frames c game logs w m }
