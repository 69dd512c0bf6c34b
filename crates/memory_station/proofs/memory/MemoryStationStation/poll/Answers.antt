use Rattle.std.proofs.Common.{◌≡◌, List, ap, subst, ◌∙◌, rules}
use Rattle.socket_station.specs.declared.answers.Did.{Did}
use Rattle.socket_station.specs.declared.answers.Ready.{Ready}
use Rattle.socket_station.specs.Items.{Item, poll_item}
use Rattle.socket_station.specs.Standings.{OpensNew}
use Rattle.memory_station.specs.Answers.{did_by}
use Rattle.history_book.specs.Books.{with_item}
use Rattle.history_book.specs.HeldBooks.{HeldBook}
use Rattle.memory_station.specs.HeldRows.{listing, row_in}
use Rattle.memory_station.specs.HeldStations.{HeldStation, begun}
use Rattle.memory_station.proofs.Ties.{tied-same, moves-poll, fresh-poll, room-polled}
use Rattle.memory_station.proofs.memory.MemoryStationStation.poll.Goals as goal

pub invariant_of-self : goal.invariant_of-self
invariant_of-self c =
    let b = c.self.inside in
    let list = c.poll.new.ready in
    let said : c.as_slice.result.now ≡ list = search rules in
    let item : Item = poll_item (did_by c.begin-goes.result) list in
    let is : c.poll-2.new.self ≡ with_item item 0 (begun b.plan 0 0 b.book) =
    c.poll-2.ensures ∙ (ap (λ (r : List Ready). with_item (poll_item c.did-did.result r) 0 c.begin-goes.new.book) said
    ∙ (ap (λ (d : Did). with_item (poll_item d list) 0 c.begin-goes.new.book) c.did-did.ensures ∙ ap (λ (k : HeldBook). with_item item 0 k) c.begin-goes.ensures.book)) in
    let r = room-polled c.begin-goes.result list b.table c.poll.new.self c.poll.ensures.after in
    record {
      tied = tied-same b.book c.poll-2.new.self b.table c.poll.new.self item b.plan 0 0 0 c.self.invariant.tied is
          (λ n. c.poll.ensures.moves n ∙ moves-poll c.begin-goes.result list (listing b.table.rows) n (row_in b.table.rows n).standing c.poll.ensures.ready) r.0 r.1;
      most = c.self.invariant.most;
    }

pub returns-clause-fresh : goal.returns-clause-fresh
returns-clause-fresh c =
    let P : HeldStation → Type 0 = λ s. OpensNew s.book.history (poll_item c.did-did.result c.poll.new.ready) in
    subst P c.self.view_is (fresh-poll c.did-did.result c.poll.new.ready c.self.inside.book c.self.inside.table c.self.invariant.tied c.poll.ensures.fresh)
