use Rattle.std.proofs.Common.{◌≡◌, ◌≤◌, ◌<◌, ◌+◌, ◌++◌, ◌∷◌, [], ℕ, List, take, ap, sym, subst, ◌∙◌, arith, rules, None}
use Rattle.socket_station.specs.declared.answers.SocketWrite.{SocketWrite}
use Rattle.socket_station.specs.Items.{Item, Gave, write_item}
use Rattle.history_book.specs.declared.store.What.TheVariants.{Given}
use Rattle.history_book.specs.declared.room.Room.{Room}
use Rattle.history_book.specs.declared.tally.Tally.{Tally}
use Rattle.history_book.specs.Books.{given_by}
use Rattle.history_book.specs.HeldBooks.{HeldBook}
use Rattle.history_book.specs.Insides.{IsSeen}
use Rattle.history_book.specs.Rooms.{HasRoomFor, spent_by}
use Rattle.history_book.specs.Stores.{HeldPart, with_part}
use Rattle.history_book.proofs.Histories.{seen-gave}
use Rattle.history_book.proofs.Spendings.{had-room, held-more}
use Rattle.history_book.proofs.book.Book.write.Goals as goal

pub push-requires-clause-items : goal.push-requires-clause-items
push-requires-clause-items c =
    let b = c.self.inside in
    let same = ap (λ (k : HeldBook). k.room) c.self.view_is in
    let o : 0 < given_by c.args.write → b.room.spent ≡ None = λ h. ap (λ (r : Room). r.spent) same ∙ c.requires.open h in
    let P : Room → Type 0 = λ r. HasRoomFor r (given_by c.args.write) in
    (had-room c.args.write c.in-Gave.count b.store.items c.args.bytes.now b.room c.in-Gave.is c.requires.within o (subst P (sym same) c.requires.room) c.self.invariant.held.store_items).1

pub invariant_of-self : goal.invariant_of-self
invariant_of-self c =
    let b = c.self.inside in
    let s = c.args.socket in
    let n = c.in-Gave.count in
    let bytes = c.args.bytes.now in
    let same = ap (λ (k : HeldBook). k.room) c.self.view_is in
    let o : 0 < given_by c.args.write → b.room.spent ≡ None = λ h. ap (λ (r : Room). r.spent) same ∙ c.requires.open h in
    let P : Room → Type 0 = λ r. HasRoomFor r (given_by c.args.write) in
    let room = subst P (sym same) c.requires.room in
    let had = had-room c.args.write n b.store.items bytes b.room c.in-Gave.is c.requires.within o room c.self.invariant.held.store_items in
    let told : c.write.new.self ≡ b.notes ++ Gave s (take n bytes) ∷ [] = c.write.ensures ∙ ap (λ (w : SocketWrite). b.notes ++ write_item s w bytes ∷ []) c.in-Gave.is in
    let part : c.push.new.self.parts ≡ with_part (Given s) (take n bytes) b.store.parts = search rules in
    let Q : List Item → Type 0 = λ h. IsSeen h c.call.new.self b.dials c.push.new.self.parts b.journal in
    let R : List HeldPart → Type 0 = λ ps. IsSeen (b.notes ++ Gave s (take n bytes) ∷ []) c.call.new.self b.dials ps b.journal in
    let S : Tally → Type 0 = λ t. IsSeen (b.notes ++ Gave s (take n bytes) ∷ []) t b.dials (with_part (Given s) (take n bytes) b.store.parts) b.journal in
    let few : b.store.bytes ≤ c.push.new.self.bytes + given_by c.args.write = search rules in
    record {
      seen = subst Q (sym told) (subst R (sym part) (subst S (sym c.call.ensures) (seen-gave b.notes b.tally b.dials b.store.parts b.journal s (take n bytes) c.self.invariant.seen)));
      held = held-more (given_by c.args.write) b.room c.spend.new.self b.store c.push.new.self b.journal b.journal c.self.invariant.held (c.spend.ensures ∙ ap (λ (k : ℕ). spent_by k b.room) c.given_by.ensures) had.0 room
          c.push.ensures.items_left few (omega arith) (omega arith);
    }
