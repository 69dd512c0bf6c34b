use Rattle.std.proofs.Common.{◌≡◌, ◌++◌, ◌∙◌, ap, arith, sym, List, Bool, true}
use Rattle.std.proofs.lemmas.Result.{on_ok_weaker}
use Rattle.definitions.specs.declared.frames.TurnFrame.{TurnFrame}
use Rattle.definition_laws.proofs.Least.{findings_Has}
use Rattle.frame_index.proofs.Wrong.{item_is}
use Rattle.evidence.specs.Showing.{turns_shown}
use Rattle.auditor.specs.Exhibits.{before_pair, is_illegal}
use Rattle.auditor.proofs.Paired.{reached}
use Rattle.auditor.proofs.exhibit.put_before.Goals as goal

pub returns-then-finding-players : goal.returns-then-finding-players
returns-then-finding-players c = λ logs w m.
    let player = (findings_Has c.args.session.now logs c.args.finding.now m).0 in
    let players = c.players.ensures.value in
    let more = c.if-finding-players.true in
    absurd (omega arith)

pub returns : goal.returns
returns c =
    let f = c.args.finding.now in
    let illegal : is_illegal f.kind ≡ true = sym c.is_illegal.ensures ∙ c.if-not-is_illegal.false in
    on_ok_weaker c.put_turns.result (λ e logs w m.
    let r = reached c.args.session.now logs f m illegal in
    e logs r.log w r.there r.before
    ∙ ap (λ (fs : List TurnFrame). c.args.out.now.items ++ fs)
    (ap (turns_shown c.args.session.now f.player f.turn) (sym (item_is logs f.first.log r.log r.there)) ∙ ap (λ (b : Bool). before_pair b c.args.session.now logs f) (sym illegal))) c.put_turns.ensures
