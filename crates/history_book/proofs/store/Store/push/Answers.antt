use Rattle.std.proofs.Common.{◌≡◌, ◌++◌, ◌∷◌, [], List, length, map, refl, ap, sym, subst, ◌∙◌, arith, rules, length-append}
use Rattle.history_book.specs.declared.store.Part.{Part}
use Rattle.history_book.specs.Stores.{HeldStore, AreWithin, part_of, with_part}
use Rattle.history_book.proofs.Givings.{within-push, parts-push}
use Rattle.history_book.proofs.store.Store.push.Goals as goal

pub invariant_of-self : goal.invariant_of-self
invariant_of-self c =
    let parts = c.self.inside.parts.items in
    let bytes = c.self.inside.bytes.items in
    let p : Part = record { what = c.args.what; at = length bytes; len = length c.args.bytes.now } in
    let all : c.push.new.self.items ≡ parts ++ p ∷ [] = search rules in
    let more : c.extend_from_slice.new.self.items ≡ bytes ++ c.args.bytes.now = search rules in
    let m = ap length more in
    let n = length-append bytes c.args.bytes.now in
    let P : List Part → Type 0 = λ ps. AreWithin (length c.extend_from_slice.new.self.items) ps in
    subst P (sym all) (within-push (length bytes) (length c.extend_from_slice.new.self.items) parts p c.self.invariant (omega (arith, m, n)) (omega (arith, m, n)))

pub returns-clause-parts : goal.returns-clause-parts
returns-clause-parts c =
    let parts = c.self.inside.parts.items in
    let bytes = c.self.inside.bytes.items in
    let p : Part = record { what = c.args.what; at = length bytes; len = length c.args.bytes.now } in
    let all : c.push.new.self.items ≡ parts ++ p ∷ [] = search rules in
    let more : c.extend_from_slice.new.self.items ≡ bytes ++ c.args.bytes.now = search rules in
    ap (λ b. map (part_of b) c.push.new.self.items) more
    ∙ (ap (map (part_of (bytes ++ c.args.bytes.now))) all
    ∙ (parts-push bytes c.args.bytes.now parts p c.self.invariant refl refl
    ∙ ap (λ (s : HeldStore). with_part c.args.what c.args.bytes.now s.parts) c.self.view_is))
