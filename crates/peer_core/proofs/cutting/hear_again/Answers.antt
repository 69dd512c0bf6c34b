use Rattle.std.proofs.Common.{◌≡◌, List, subst, sym, true}
use Rattle.definitions.specs.declared.logs.Entry.{Entry}
use Rattle.definitions.specs.Findings.{is_clean}
use Rattle.peer_core.proofs.FirstEntries.{first_honest, got_entry, got_parts, others_again, others_other}
use Rattle.peer_core.proofs.Peers.{log_few}
use Rattle.peer_core.proofs.cutting.hear_again.Goals as goal

pub offer-requires-clause-clean : goal.offer-requires-clause-clean
offer-requires-clause-clean c =
    let may = got_parts c.args.session.now c.args.me c.in-Got.from _ c.in-Got.frame (got_entry c.args.session.now c.args.me c.args.at c.in-Got.from c.args.entries.now _ c.in-Got.frame c.requires.honest c.requires.at c.in-Got.is) in
    let Is : List Entry → Type 0 = λ h. is_clean c.args.session.now h ≡ true in
    subst Is (sym c.split_at.ensures.front) may.0

pub offer-requires-clause-from : goal.offer-requires-clause-from
offer-requires-clause-from c =
    let may = got_parts c.args.session.now c.args.me c.in-Got.from _ c.in-Got.frame (got_entry c.args.session.now c.args.me c.args.at c.in-Got.from c.args.entries.now _ c.in-Got.frame c.requires.honest c.requires.at c.in-Got.is) in
    may.1

pub offer-requires-clause-few : goal.offer-requires-clause-few
offer-requires-clause-few c =
    log_few c.args.session.now c.args.me _ c.split_at.result.0.now c.facts.ensures c.requires.owner (first_honest c.args.session.now c.args.me c.args.at c.args.entries.now c.requires.honest) c.split_at.ensures.front

pub returns-in-Got : goal.returns-in-Got
returns-in-Got c = record {
  others = others_again c.args.session.now c.args.me c.args.at c.in-Got.from c.args.entries.now c.split_at.result.0.now _ c.in-Got.frame c.offer.new.self c.requires.honest c.requires.at c.in-Got.is
      c.split_at.ensures.front c.offer.ensures.others;
}

pub returns-in_default : goal.returns-in_default
returns-in_default c = record { others = others_other c.args.session.now c.args.me c.args.at c.args.entries.now _ c.args.others.now c.requires.at c.in_default.not-Got c.requires.others }
