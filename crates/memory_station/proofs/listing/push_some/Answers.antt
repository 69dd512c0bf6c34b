use Rattle.std.proofs.Common.{◌≤◌, ◌<◌, ◌++◌, ◌∷◌, [], sym, ap, ◌∙◌, length, take, append-nil, rules, arith, length-append}
use Rattle.std.specs.Prelude.{option_to_list}
use Rattle.std.proofs.lemmas.List.{take_all, take-append-le}
use Rattle.memory_station.proofs.listing.push_some.Goals as goal

pub returns-in-None : goal.returns-in-None
returns-in-None c =
    let few : length c.args.ready.now ≤ 64 = search rules in
    sym (ap (λ o. take 64 (c.args.ready.now ++ option_to_list o)) c.in-None.is ∙ (ap (take 64) (append-nil c.args.ready.now) ∙ take_all 64 c.args.ready.now few))

pub returns-then-len-lt64 : goal.returns-then-len-lt64
returns-then-len-lt64 c =
    let few : length c.args.ready.now < 64 = search rules in
    let n = length-append c.args.ready.now (c.in-Some.item ∷ []) in
    let m : length (c.args.ready.now ++ c.in-Some.item ∷ []) ≤ 64 = omega (arith, n) in
    c.push.ensures ∙ sym (ap (λ o. take 64 (c.args.ready.now ++ option_to_list o)) c.in-Some.is ∙ take_all 64 (c.args.ready.now ++ c.in-Some.item ∷ []) m)

pub returns-else-len-lt64 : goal.returns-else-len-lt64
returns-else-len-lt64 c =
    let full : 64 ≤ length c.args.ready.now = search rules in
    let few : length c.args.ready.now ≤ 64 = search rules in
    sym (take-append-le 64 c.args.ready.now (option_to_list c.args.item) full ∙ take_all 64 c.args.ready.now few)
