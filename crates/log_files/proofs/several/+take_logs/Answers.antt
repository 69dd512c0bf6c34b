use Rattle.std.proofs.Common.{◌<◌, List, ℕ, arith, map, subst, sym}
use Rattle.std.proofs.lemmas.Grind.{common_steps}
use Rattle.frame_index.specs.declared.limits.TheConstants.{MOST_LOGS}
use Rattle.log_files.specs.declared.several.LogsTaken.{LogsTaken}
use Rattle.log_files.specs.declared.several.LogsTaken.TheVariants as became
use Rattle.log_files.specs.Several.{TakesFiles, stopped_by}
use Rattle.log_files.proofs.OneMore.{more_taken, names_are, no_names, none_taken, stopped_taken}
use Rattle.log_files.proofs.several.+take_logs.Goals as goal

pub returns-in-empty : goal.returns-in-empty
returns-in-empty g t c =
    let s = g.H.Shelf.state c.args.shelf.now in
    subst (λ (names : List (List ℕ)). TakesFiles c.args.session.now s s names c.args.auditor.now c.args.auditor.now c.args.number became.Whole) (sym (no_names (λ w. w.items) c.args.names.now c.in-empty.len_below))
    (none_taken _ _ _ _)

pub returns-in-Ok : goal.returns-in-Ok
returns-in-Ok g t c =
    let below : c.args.number < MOST_LOGS = let few = c.requires.few in let some = c.in-len1-up.len_at_least in omega (arith, few, some) in
    subst (λ (names : List (List ℕ)). TakesFiles c.args.session.now (g.H.Shelf.state c.args.shelf.now) (g.H.Shelf.state c.take_logs.new.shelf) names c.args.auditor.now c.take_logs.new.auditor c.args.number c.take_logs.result)
    (sym (names_are (λ w. w.items) c.args.names.now c.name-item.result _ c.in-len1-up.len_at_least c.name-item.is c.as_slice.ensures.value))
    (more_taken _ _ _ _ _ _ _ _ _ _ below c.take_logs.result c.in-Ok.ensures c.take_logs.ensures)

pub returns-in-Err : goal.returns-in-Err
returns-in-Err g t c =
    let state = g.H.Shelf.state in
    subst (λ (all : LogsTaken). TakesFiles c.args.session.now (state c.args.shelf.now) (state c.take_file.new.shelf) (map (λ w. w.items) c.args.names.now) c.args.auditor.now c.take_file.new.auditor c.args.number all) (sym c.of.ensures)
    (subst (λ (names : List (List ℕ)). TakesFiles c.args.session.now (state c.args.shelf.now) (state c.take_file.new.shelf) names c.args.auditor.now c.take_file.new.auditor c.args.number (stopped_by c.args.number c.in-Err.fault))
    (sym (names_are (λ w. w.items) c.args.names.now c.name-item.result _ c.in-len1-up.len_at_least c.name-item.is c.as_slice.ensures.value))
    (stopped_taken _ _ _ _ _ _ _ _ c.in-Err.fault c.in-Err.ensures))
