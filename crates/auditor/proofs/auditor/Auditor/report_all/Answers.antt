use Rattle.std.proofs.Common.{List, arith, length, map, ap, subst, sym, ◌∙◌, ◌≡◌, ℕ}
use Rattle.definitions.specs.declared.logs.Entry.{Entry}
use Rattle.definitions.specs.declared.world.Move.{Move}
use Rattle.definitions.specs.Lists.{item_or}
use Rattle.definitions.specs.World.{Game, players_of}
use Rattle.auditor.specs.Agreed.{all_agreed_moves, world_by}
use Rattle.auditor.specs.Audits.{AuditState, IsAuditOf}
use Rattle.auditor.specs.Played.{AreLegalIfWhole}
use Rattle.auditor.specs.Reading.{IsReadable}
use Rattle.auditor.specs.Reports.{IsReportOf, Reported}
use Rattle.playout.proofs.Items.{item_past}
use Rattle.auditor.proofs.Worlds.{agreed_item, agreed_legal, item_length, line_past, map_lengths}
use Rattle.auditor.proofs.auditor.Auditor.report_all.Goals as goal

pub returns : goal.returns
returns c =
    let inside = c.self.inside in
    let self : AuditState = record { session = inside.session; index = inside.index; made = inside.made; counts = inside.counts; owners = inside.owners } in
    let r : Reported = record { found = c.in_ok-found.found.items; agreed = c.in_ok-agreed.agreed.counts.items; lines = c.in_ok-lines.lines.items } in
    let read : (logs : List (List Entry)) → IsReadable self logs → map (λ own. own.items) c.in_ok-agreed.agreed.moves.items ≡ all_agreed_moves self.session self.owners logs =
    subst (λ (a : AuditState). (logs : List (List Entry)) → IsReadable a logs → map (λ own. own.items) c.in_ok-agreed.agreed.moves.items ≡ all_agreed_moves a.session a.owners logs) (sym c.self.view_is) c.in_ok-agreed.ensures.moves in
    let many : length c.in_ok-agreed.agreed.counts.items ≡ players_of self.session =
    subst (λ (a : AuditState). length c.in_ok-agreed.agreed.counts.items ≡ players_of a.session) (sym c.self.view_is) c.in_ok-agreed.ensures.many in
    subst (λ (a : AuditState). (game : Game) (logs : List (List Entry)) → IsAuditOf game logs a → IsReportOf game a.owners logs r) c.self.view_is (λ game logs w.
    let here : IsAuditOf self.session logs self = subst (λ (g : Game). IsAuditOf g logs self) (sym w.session) w in
    subst (λ (g : Game). IsReportOf g self.owners logs r) w.session (record {
      found = c.in_ok-found.ensures logs (let n = w.many in omega (arith, n)) here.index;
      agreed = λ owned q lt.
          let moves = read logs (record { audit = here; owned = owned }) in
          ap (λ (ns : List ℕ). item_or ns q 0) (c.in_ok-agreed.ensures.counts ∙ map_lengths c.in_ok-agreed.agreed.moves.items ∙ ap (map length) moves)
          ∙ item_length (all_agreed_moves self.session self.owners logs) q ∙ ap length (agreed_item self.session self.owners logs q lt);
      world = λ owned q lt.
          let moves : map (λ own. own.items) c.deref-2.result.now ≡ all_agreed_moves self.session self.owners logs =
          ap (map (λ own. own.items)) c.deref-2.ensures.value ∙ read logs (record { audit = here; owned = owned }) in
          c.in_ok-lines.ensures.lines (subst (AreLegalIfWhole self.session) (sym moves) (agreed_legal self.session self.owners logs)) q lt
          ∙ ap (λ (ms : List (List Move)). world_by self.session ms q) moves;
      beyond = λ q ge. (
        item_past c.in_ok-agreed.agreed.counts.items q 0 (omega (arith, many, ge)),
        line_past c.in_ok-lines.lines.items q (let n = c.in_ok-lines.ensures.few in omega (arith, n, ge)),
      );
    }))
