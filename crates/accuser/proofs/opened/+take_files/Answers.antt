use Rattle.std.proofs.Common.{◌<◌, [], List, arith, map, refl, subst, sym, ℕ}
use Rattle.std.specs.Prelude.{Err, Ok}
use Rattle.frame_index.specs.declared.limits.TheConstants.{MOST_LOGS}
use Rattle.log_files.proofs.OneMore.{names_are, no_names}
use Rattle.accuser.specs.declared.opened.FilesFault.{FilesFault}
use Rattle.accuser.specs.Opened.{AreAnswered, ReadsSealed, is_shelf_failed, stopped_by}
use Rattle.accuser.proofs.Several.{none_taken}
use Rattle.accuser.proofs.Shelved.{goes_on, nothing_read, stopped}
use Rattle.accuser.proofs.opened.+take_files.Goals as goal

pub returns-in-empty : goal.returns-in-empty
returns-in-empty g t c =
    let s = g.H.Shelf.state c.args.shelf.now in
    let game = c.args.session.now in
    let roots = c.args.roots.now in
    subst (λ (names : List (List ℕ)). ReadsSealed game roots s s names c.args.number (is_shelf_failed {T = Unit {0}} (Ok tt)) (λ files. AreAnswered game roots c.args.taker.now c.args.taker.now c.args.number files (Ok tt)))
    (sym (no_names (λ w. w.items) c.args.names.now c.in-empty.len_below))
    (nothing_read game roots s [] c.args.number (λ files. AreAnswered game roots c.args.taker.now c.args.taker.now c.args.number files (Ok tt)) (λ files. none_taken game roots c.args.taker.now c.args.number [] refl))

pub returns-in-Ok : goal.returns-in-Ok
returns-in-Ok g t c =
    let state = g.H.Shelf.state in
    let game = c.args.session.now in
    let roots = c.args.roots.now in
    let below : c.args.number < MOST_LOGS = let few = c.requires.few in let some = c.in-len1-up.len_at_least in omega (arith, few, some) in
    subst (λ (names : List (List ℕ)). ReadsSealed game roots (state c.args.shelf.now) (state c.take_files.new.shelf) names c.args.number (is_shelf_failed c.take_files.result) (λ files. AreAnswered game roots c.args.taker.now c.take_files.new.taker c.args.number files c.take_files.result))
    (sym (names_are (λ w. w.items) c.args.names.now c.name-item.result _ c.in-len1-up.len_at_least c.name-item.is c.as_slice.ensures.value))
    (goes_on game roots (state c.args.shelf.now) (state c.take_file.new.shelf) (state c.take_files.new.shelf) _ _ c.args.taker.now c.take_file.new.taker c.take_files.new.taker c.args.number below
    (c.requires.untaken c.args.number (omega arith)).unowned c.take_files.result c.in-Ok.ensures c.take_files.ensures)

pub returns-in-Err : goal.returns-in-Err
returns-in-Err g t c =
    let state = g.H.Shelf.state in
    let game = c.args.session.now in
    let roots = c.args.roots.now in
    subst (λ (f : FilesFault). ReadsSealed game roots (state c.args.shelf.now) (state c.take_file.new.shelf) (map (λ w. w.items) c.args.names.now) c.args.number (is_shelf_failed {T = Unit {0}} (Err f)) (λ files. AreAnswered game roots c.args.taker.now c.take_file.new.taker c.args.number files (Err f))) (sym c.of.ensures)
    (subst (λ (names : List (List ℕ)). ReadsSealed game roots (state c.args.shelf.now) (state c.take_file.new.shelf) names c.args.number (is_shelf_failed {T = Unit {0}} (Err (stopped_by c.args.number c.in-Err.fault))) (λ files. AreAnswered game roots c.args.taker.now c.take_file.new.taker c.args.number files (Err (stopped_by c.args.number c.in-Err.fault))))
    (sym (names_are (λ w. w.items) c.args.names.now c.name-item.result _ c.in-len1-up.len_at_least c.name-item.is c.as_slice.ensures.value))
    (stopped game roots (state c.args.shelf.now) (state c.take_file.new.shelf) _ _ c.args.taker.now c.take_file.new.taker c.args.number c.in-Err.fault c.in-Err.ensures))
