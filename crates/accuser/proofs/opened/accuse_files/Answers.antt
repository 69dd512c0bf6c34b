use Rattle.std.proofs.Common.{List, ap, map, subst, sym, ℕ, ◌∙◌}
use Rattle.std.specs.Prelude.{Err}
use Rattle.std.proofs.lemmas.Result.{err_from_is_err_and}
use Rattle.accuser.specs.declared.opened.FilesFault.{FilesFault}
use Rattle.accuser.specs.declared.opened.FilesFault.TheVariants.{Memory}
use Rattle.accuser.specs.Opened.{IsAccusation}
use Rattle.accuser.proofs.Shelved.{Answers, files_accuse, files_refused, nothing_read}
use Rattle.accuser.proofs.opened.accuse_files.Goals as goal

pub returns-in_err-taker : goal.returns-in_err-taker
returns-in_err-taker g c =
    let s = g.H.Shelf.state c.args.shelf.now in
    let game = c.args.session.now in
    let roots = c.args.roots.now in
    let names : List (List ℕ) = map (λ w. w.items) c.args.names.now in
    let p = err_from_is_err_and c.from_residual.result c.from_residual.ensures.1 in
    subst (Answers game roots s s names) (sym (p.1 ∙ ap (λ (f : FilesFault). Err f) p.2)) (nothing_read game roots s names 0 (λ files. IsAccusation game roots files (Err Memory)) (λ files. tt))

pub returns-in_err-buf : goal.returns-in_err-buf
returns-in_err-buf g c =
    let s = g.H.Shelf.state c.args.shelf.now in
    let game = c.args.session.now in
    let roots = c.args.roots.now in
    let names : List (List ℕ) = map (λ w. w.items) c.args.names.now in
    let p = err_from_is_err_and c.from_residual-in_err-buf.result c.from_residual-in_err-buf.ensures.1 in
    subst (Answers game roots s s names) (sym (p.1 ∙ ap (λ (f : FilesFault). Err f) p.2)) (nothing_read game roots s names 0 (λ files. IsAccusation game roots files (Err Memory)) (λ files. tt))

pub returns-in_err-take_files : goal.returns-in_err-take_files
returns-in_err-take_files g c =
    let state = g.H.Shelf.state in
    let game = c.args.session.now in
    let roots = c.args.roots.now in
    let names : List (List ℕ) = map (λ w. w.items) c.args.names.now in
    let p = err_from_is_err_and c.from_residual-in_err-take_files.result c.from_residual-in_err-take_files.ensures.1 in
    subst (Answers game roots (state c.args.shelf.now) (state c.take_files.new.shelf) names) (sym (p.1 ∙ ap (λ (f : FilesFault). Err f) p.2))
    (files_refused game roots (state c.args.shelf.now) (state c.take_files.new.shelf) names c.in_ok-taker.taker c.take_files.new.taker c.take_files.result _ c.in_err-take_files.was c.take_files.ensures)

pub returns : goal.returns
returns g c =
    let state = g.H.Shelf.state in
    let names : List (List ℕ) = map (λ w. w.items) c.args.names.now in
    files_accuse c.args.session.now c.args.roots.now (state c.args.shelf.now) (state c.take_files.new.shelf) names c.in_ok-taker.taker c.take_files.new.taker c.take_files.result
    c.in_ok-take_files.field-0 c.in_ok-of.field-0 c.in_ok-take_files.was c.in_ok-taker.ensures c.take_files.ensures c.in_ok-of.ensures
