use Rattle.std.proofs.Common.{Bor, List, None, Option, Some, [], ap, arith, map, slice_index_or, subst, sym, ℕ, ◌∙◌, ◌≡◌}
use Rattle.std.specs.Prelude.{slice_get}
use Rattle.definitions.specs.declared.logs.Entry.{Entry}
use Rattle.definitions.specs.Lists.{item_or}
use Rattle.definitions.proofs.Items.{item_is as item_same}
use Rattle.definition_laws.proofs.Nexts.{some_at}
use Rattle.frame_index.proofs.Wrong.{item_is}
use Rattle.auditor.specs.declared.reading.Reading.{Reading}
use Rattle.auditor.specs.Agreed.{resolved_by}
use Rattle.definitions.specs.World.{Game}
use Rattle.definitions.specs.Findings.{got_known}
use Rattle.auditor.specs.Audits.{AuditState, crossed, crossed_logs}
use Rattle.auditor.specs.Reading.{IsReadTurn}
use Rattle.auditor.proofs.Crossed.{crossed_there}
use Rattle.auditor.proofs.Owned.{by_got, by_made, owner_is, owner_isnt}
use Rattle.auditor.proofs.auditor.Auditor.resolved_at.Goals.{else-own, then-own}
use Rattle.auditor.proofs.auditor.Auditor.resolved_at.Goals as goal

pub returns : goal.returns
returns c = λ logs long owned got made.
    let game = c.args.self.now.session in
    let owners = c.args.self.now.owners in
    let inside = c.self.inside.owners in
    let named : inside ≡ owners = ap (λ (a : AuditState). a.owners) c.self.view_is in
    let played : c.self.inside.session ≡ game = ap (λ (a : AuditState). a.session) c.self.view_is in
    let q = c.args.player in
    let t = c.args.turn in
    let log = c.args.log in
    let h = some_at logs log (let n = long in let lt = c.requires.log in omega arith) in
    let there : item_or logs log [] ≡ h.0 = item_is logs log h.0 h.1 in
    let owner : slice_index_or inside log None ≡ item_or owners log None = item_same inside log None ∙ ap (λ (os : List (Option ℕ)). item_or os log None) named in
    let read : (ls : List (List Entry)) (g : List Entry) → IsReadTurn game q ls t c.if-own.reading.now → slice_get ls log ≡ Some g → c.read_move.result ≡ slice_get (got_known game q g).moves t =
    subst (λ (x : Game). (ls : List (List Entry)) (g : List Entry) → IsReadTurn x q ls t c.if-own.reading.now → slice_get ls log ≡ Some g → c.read_move.result ≡ slice_get (got_known x q g).moves t) played c.read_move.ensures in
    elim c.if-own.branch [
      | then-own w ↦
          let is : item_or owners log None ≡ Some q = sym owner ∙ owner_is (slice_index_or inside log None) q (sym c.eq-own.ensures ∙ w.if-own.true) in
          read (crossed_logs logs) (map crossed h.0) (subst (λ (r : Reading). IsReadTurn game q (crossed_logs logs) t r) (ap (λ (r : Bor Reading). r.now) (sym w.reading-is)) made) (crossed_there logs log h.0 h.1)
          ∙ by_made game (item_or owners log None) h.0 q t is (owned log q h.0 h.1 is) ∙ ap (λ (g : List Entry). resolved_by game (item_or owners log None) g q t) (sym there)
      | else-own w ↦
          read logs h.0 (subst (λ (r : Reading). IsReadTurn game q logs t r) (ap (λ (r : Bor Reading). r.now) (sym w.reading-is)) got) h.1
          ∙ by_got game (item_or owners log None) h.0 q t (λ is. owner_isnt (slice_index_or inside log None) q (sym c.eq-own.ensures ∙ w.if-own.false) (owner ∙ is))
          ∙ ap (λ (g : List Entry). resolved_by game (item_or owners log None) g q t) (sym there)
    ]
