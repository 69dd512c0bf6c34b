use Rattle.std.proofs.Common.{◌≡◌, ◌∙◌, ap, cond, refl, rules, subst, sym, List, Option, Some, []}
use Rattle.std.specs.Prelude.{◌&&◌, ◌==◌, OnErr, OnOk}
use Rattle.std.specs.Option.{option_map_or}
use Rattle.indexmap.specs.IndexMap.{get}
use Rattle.frame_index.specs.declared.kept.KeptFrame.{KeptFrame}
use Rattle.frame_index.specs.declared.kept.TurnFrames.{TurnFrames}
use Rattle.frame_index.specs.Frames.{IndexState, IsRefused, IsTaken, key_eq}
use Rattle.frame_index.proofs.Growing.{on_err, on_ok}
use Rattle.frame_index.proofs.Indexed.{refused_by, taken_by}
use Rattle.frame_index.proofs.Parted.{refused_beyond, taken_beyond}
use Rattle.frame_index.proofs.frames.FrameIndex.take_beyond.Goals as goal

items : TurnFrames → List KeptFrame
items v = v.kept.items

pub returns-in-Some-clause-ok : goal.returns-in-Some-clause-ok
unfolding items
returns-in-Some-clause-ok c =
    let old : items c.in-Some.frames.now ≡ option_map_or items (get key_eq c.self.inside.beyond (record { player = c.key_of-key.result.player; turn = c.key_of-key.result.turn })) [] =
    ap (λ (o : Option TurnFrames). option_map_or items o []) c.in-Some.ensures.value in
    let updates = (c.get_mut.follows.holds c.take.new.self).3 (search rules) in
    let was : IndexState = record { rows = c.self.inside.rows.items; beyond = c.self.inside.beyond.entries } in
    let new : IndexState = record { rows = c.self.inside.rows.items; beyond = (c.get_mut.follows.lender c.take.new.self).entries } in
    subst (λ (x : IndexState). OnOk c.take.result (IsTaken c.args.session.now c.args.frame.now c.args.spot x new)) c.self.view_is
    (on_ok c.take.result (λ grows. taken_beyond was new refl c.args.session.now c.args.frame.now c.args.spot c.requires.turn
    (taken_by items (λ q t. get key_eq c.self.inside.beyond (record { player = q; turn = t })) (λ q t. get key_eq (c.get_mut.follows.lender c.take.new.self) (record { player = q; turn = t }))
    c.key_of-key.result.player c.key_of-key.result.turn c.take.new.self (λ q t. updates.0 (record { player = q; turn = t })) c.args.session.now c.args.frame.now c.args.spot
    c.key_of-key.ensures.player c.key_of-key.ensures.turn (items c.in-Some.frames.now) old grows)) c.take.ensures.ok)

pub returns-in-Some-clause-err : goal.returns-in-Some-clause-err
unfolding items
returns-in-Some-clause-err c =
    let old : items c.in-Some.frames.now ≡ option_map_or items (get key_eq c.self.inside.beyond (record { player = c.key_of-key.result.player; turn = c.key_of-key.result.turn })) [] =
    ap (λ (o : Option TurnFrames). option_map_or items o []) c.in-Some.ensures.value in
    let updates = (c.get_mut.follows.holds c.take.new.self).3 (search rules) in
    let was : IndexState = record { rows = c.self.inside.rows.items; beyond = c.self.inside.beyond.entries } in
    let new : IndexState = record { rows = c.self.inside.rows.items; beyond = (c.get_mut.follows.lender c.take.new.self).entries } in
    subst (λ (x : IndexState). OnErr c.take.result (IsRefused x new)) c.self.view_is
    (on_err c.take.result (λ alike. refused_beyond was new refl
    (refused_by items (λ q t. get key_eq c.self.inside.beyond (record { player = q; turn = t })) (λ q t. get key_eq (c.get_mut.follows.lender c.take.new.self) (record { player = q; turn = t }))
    c.key_of-key.result.player c.key_of-key.result.turn c.take.new.self (λ q t. updates.0 (record { player = q; turn = t })) (items c.in-Some.frames.now) old alike)) c.take.ensures.err)

pub returns-clause-ok : goal.returns-clause-ok
unfolding items
returns-clause-ok c =
    let stayed : c.get_mut.follows.lender-at-none ≡ c.self.inside.beyond = c.get_mut.follows.holds-at-none in
    let none : option_map_or items (get key_eq c.self.inside.beyond (record { player = c.key_of-key.result.player; turn = c.key_of-key.result.turn })) [] ≡ [] =
    ap (λ (o : Option TurnFrames). option_map_or items o []) (sym c.in_default.ensures.value) in
    let was : IndexState = record { rows = c.self.inside.rows.items; beyond = c.self.inside.beyond.entries } in
    let new : IndexState = record { rows = c.self.inside.rows.items; beyond = c.insert.new.self.entries } in
    subst (λ (x : IndexState). IsTaken c.args.session.now c.args.frame.now c.args.spot x new) c.self.view_is
    (taken_beyond was new refl c.args.session.now c.args.frame.now c.args.spot c.requires.turn
    (taken_by items (λ q t. get key_eq c.self.inside.beyond (record { player = q; turn = t })) (λ q t. get key_eq c.insert.new.self (record { player = q; turn = t }))
    c.key_of-key.result.player c.key_of-key.result.turn c.take-2.new.self
    (λ q t. c.in_ok-insert.ensures.updates.0 (record { player = q; turn = t })
    ∙ (λ i. cond ((c.key_of-key.result.player == q) && (c.key_of-key.result.turn == t)) (Some c.take-2.new.self) (get key_eq (stayed i) (record { player = q; turn = t }))))
    c.args.session.now c.args.frame.now c.args.spot c.key_of-key.ensures.player c.key_of-key.ensures.turn (items c.new-frames.result) (c.new-frames.ensures ∙ sym none) c.in_ok-take.ensures.ok))
