use Rattle.std.proofs.Common.{◌≡◌, ◌≤◌, ℕ, ◌∙◌, ap, arith, drop, List, ◌<◌, ◌^◌, rules}
use Rattle.definitions.specs.declared.logs.Entry.{Entry}
use Rattle.definitions.specs.Honest.{made_count}
use Rattle.peer_core.proofs.MadeFrames.{made_count_split}
use Rattle.peer_core.proofs.peer.Peer.sendable.Goals as goal

-- the frames behind a place of the log are among all
behind : (entries slice rest : List Entry) (stored made count : ℕ) → slice ≡ entries → made ≡ made_count entries → rest ≡ drop stored slice → count ≡ made_count rest → count ≤ made
behind entries slice rest stored made count same all back counted =
    let s = made_count_split entries stored in
    let r : count ≡ made_count (drop stored entries) = counted ∙ ap made_count (back ∙ ap (λ es. drop stored es) same) in omega arith

pub overflow_sub-result : goal.overflow_sub-result
overflow_sub-result c = behind _ _ _ c.args.stored _ _ c.entries-entries.ensures c.made_count-2.ensures c.split_at.ensures.back c.count_made.ensures

pub overflow_cast-result : goal.overflow_cast-result
overflow_cast-result c =
    let few = behind _ _ _ c.args.stored _ _ c.entries-entries.ensures c.made_count-2.ensures c.split_at.ensures.back c.count_made.ensures in
    let fits : c.made_count-2.result < 2 ^ 32 = c.made_count-2.type_inv in
    let below : c.count_made.result < 2 ^ 32 = omega arith in search rules
