use Rattle.std.proofs.Common.{[], ◌∷◌, length, ap, sym, subst, ◌∙◌}
use Rattle.seal_keys.specs.Seals.{seal_len}
use Rattle.accuser.specs.SealBooks.{Book, KeepsSeals}
use Rattle.accuser.proofs.Noted.{long_more, noted_under, with_seal}
use Rattle.accuser.proofs.seal_book.SealBook.note.Goals as goal

pub invariant_of-self-2 : goal.invariant_of-self-2
invariant_of-self-2 c =
    let long = ap length c.in_ok-copy.ensures ∙ c.requires ∙ ap (λ (b : Book). seal_len b.game) (sym c.self.view_is) in
    long_more (seal_len c.self.inside.session) c.self.inside.seals.entries c.insert.new.self.entries c.key_of-key.result c.in_ok-copy.copy long c.in_ok-insert.ensures.updates.0 c.self.invariant

pub returns-clause-noted : goal.returns-clause-noted
returns-clause-noted c =
    let old : Book = record { game = c.self.inside.session; entries = c.self.inside.seals.entries } in
    let new : Book = record { game = c.self.inside.session; entries = c.insert.new.self.entries } in
    subst (λ (b : Book). KeepsSeals b new (with_seal c.args.frame.now c.args.seal.now ∷ [])) c.self.view_is
    (noted_under old new c.args.frame.now c.args.seal.now c.key_of-key.result c.in_ok-copy.copy c.key_of-key.ensures c.in_ok-copy.ensures
    (sym c.contains_key.ensures ∙ c.if-contains_key.false) c.in_ok-insert.ensures.updates.0 c.in_ok-insert.ensures.updates.1)
