use Rattle.std.proofs.Common.{◌≡◌, ◌<◌, ◌++◌, ◌∷◌, [], ℕ, List, Option, sym, ap, subst, ◌∙◌, rules, get_or, slice_set}
use Rattle.socket_station.specs.Items.{Item, dial_item}
use Rattle.history_book.specs.declared.dials.Dials.{Dials}
use Rattle.history_book.specs.declared.tally.Tally.{Tally}
use Rattle.history_book.specs.Books.{dialled_by}
use Rattle.history_book.specs.Dials.{no_dials, dialled_once}
use Rattle.history_book.specs.Insides.{IsSeen}
use Rattle.history_book.proofs.Histories.{seen-dial}
use Rattle.history_book.proofs.Spendings.{held-spent}
use Rattle.history_book.proofs.book.Book.dial.Goals as goal

pub invariant_of-self : goal.invariant_of-self
invariant_of-self c =
    let b = c.self.inside in
    let few : c.args.player < 256 = search rules in
    let is : c.note.new.self ≡ slice_set b.dials c.args.player (dialled_once (dialled_by c.args.dial) (get_or b.dials c.args.player no_dials)) =
    c.note.ensures ∙ ap (λ (o : Option ℕ). slice_set b.dials c.args.player (dialled_once o (get_or b.dials c.args.player no_dials))) c.socket_of.ensures in
    let P : List Item → Type 0 = λ h. IsSeen h c.call.new.self c.note.new.self b.store.parts b.journal in
    let Q : List Dials → Type 0 = λ d. IsSeen (b.notes ++ dial_item c.args.dial c.args.player c.args.addr ∷ []) c.call.new.self d b.store.parts b.journal in
    let R : Tally → Type 0 = λ t. IsSeen (b.notes ++ dial_item c.args.dial c.args.player c.args.addr ∷ []) t (slice_set b.dials c.args.player (dialled_once (dialled_by c.args.dial) (get_or b.dials c.args.player no_dials))) b.store.parts b.journal in
    record {
      seen = subst P (sym c.dial.ensures) (subst Q (sym is) (subst R (sym c.call.ensures) (seen-dial b.notes b.tally b.dials b.store.parts b.journal c.args.player c.args.dial c.args.addr few c.self.invariant.seen)));
      held = held-spent 0 b.room c.spend.new.self b.store b.journal c.self.invariant.held c.spend.ensures;
    }
