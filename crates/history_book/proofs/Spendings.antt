-- How the room that is left stays within what was taken at the start.
use Rattle.std.specs.Option.{is_none}
use Rattle.std.proofs.Common.{◌≡◌, ◌≤◌, ◌<◌, ℕ, ◌+◌, ◌-◌, List, Option, Some, None, refl, sym, ap, subst, ◌∙◌, arith, if◌then◌else◌}
use Rattle.socket_station.specs.declared.answers.SocketWrite.{SocketWrite}
use Rattle.socket_station.specs.declared.answers.SocketWrite.TheVariants.{Gave}
use Rattle.history_book.specs.declared.room.Room.{Room}
use Rattle.socket_station.specs.Withins.{GivesWithin}
use Rattle.history_book.specs.Books.{given_by}
use Rattle.history_book.specs.Insides.{IsHeld}
use Rattle.history_book.specs.Journals.{HeldJournal}
use Rattle.history_book.specs.Rooms.{HasRoomFor, spent_by}
use Rattle.history_book.specs.Stores.{HeldStore}

-- what an item leaves, whether it takes room or not
pub record Spent (n : ℕ) (room new : Room) : Type 0 where
  pub items : new.items ≤ room.items
  pub bytes : new.bytes ≤ room.bytes
  pub one : room.spent ≡ None → 0 < room.items → new.items + 1 ≤ room.items
  pub all : room.spent ≡ None → n ≤ room.bytes → new.bytes + n ≤ room.bytes

pub spent : (n : ℕ) (room new : Room) → new ≡ spent_by n room → Spent n room new
spent n room new e =
    let P : Room → Type 0 = λ r. Spent n room r in
    subst P (sym e) (by-spent room.spent refl)
  where
    by-spent : (o : Option ℕ) → room.spent ≡ o → Spent n room (if is_none o then record { items = room.items - 1; bytes = room.bytes - n; spent = room.spent } else room)
    by-spent None i = record { items = omega arith; bytes = omega arith; one = λ z h. omega arith; all = λ z h. omega arith }
    by-spent (Some k) i =
        let no : room.spent ≡ None → ⊥ = (λ z. let w : Some k ≡ None = sym i ∙ z in absurd (cc)) in
        record { items = omega arith; bytes = omega arith; one = λ z h. absurd (no z); all = λ z h. absurd (no z) }

pub held-spent : (n : ℕ) (room new : Room) (s : HeldStore) (j : HeldJournal) → IsHeld room s j → new ≡ spent_by n room → IsHeld new s j
held-spent n room new s j h e =
    let w = spent n room new e in
    let i = w.items in
    let b = w.bytes in
    let a1 = h.store_items in
    let a2 = h.store_bytes in
    let a3 = h.journal_items in
    let a4 = h.journal_bytes in
    record { store_items = omega (arith, i, a1); store_bytes = omega (arith, b, a2); journal_items = omega (arith, i, a3); journal_bytes = omega (arith, b, a4) }

-- the same where the item's bytes went into the store, into the log, or a sync into the log
pub held-more : (n : ℕ) (room new : Room) (s t : HeldStore) (j k : HeldJournal) → IsHeld room s j → new ≡ spent_by n room → room.spent ≡ None → HasRoomFor room n
    → s.items ≤ t.items + 1 → s.bytes ≤ t.bytes + n → j.items ≤ k.items + 1 → j.bytes ≤ k.bytes + n → IsHeld new t k
held-more n room new s t j k h e o r si sb ji jb =
    let w = spent n room new e in
    let i = w.one o (r o).0 in
    let b = w.all o (r o).1 in
    let a1 = h.store_items in
    let a2 = h.store_bytes in
    let a3 = h.journal_items in
    let a4 = h.journal_bytes in
    record { store_items = omega (arith, i, a1, si); store_bytes = omega (arith, b, a2, sb); journal_items = omega (arith, i, a3, ji); journal_bytes = omega (arith, b, a4, jb) }

-- a write that gave bytes had room for them
pub had-room : (write : SocketWrite) (count items : ℕ) (bytes : List ℕ) (room : Room) → write ≡ Gave count → GivesWithin write bytes → (0 < given_by write → room.spent ≡ None) → HasRoomFor room (given_by write) → room.items ≤ items
    → (room.spent ≡ None) × (0 < items)
had-room write count items bytes room e g o r h =
    let P : SocketWrite → Type 0 = λ w. GivesWithin w bytes in
    let some : 0 < count = (subst P e g).0 in
    let n : given_by write ≡ count = ap given_by e in
    let open_room : room.spent ≡ None = o (omega (arith, some, n)) in
    let i = (r open_room).0 in
    (open_room, omega (arith, i, h))
