use Rattle.std.proofs.Common.{[], ◌∷◌, ◌++◌, List, ℕ, ap, sym, ◌∙◌}
use Rattle.std.proofs.lemmas.Option.{slice_get-get_or}
use Rattle.accuser.proofs.Sealing.{no_seal_more, seal_more}
use Rattle.accuser.proofs.sealed_report.seals_of.Goals as goal
use Rattle.accuser.proofs.sealed_report.seals_of.Goals.{in-Some+in_ok-push, in_default}

pub loop-frame-preserved : goal.loop-frame-preserved
loop-frame-preserved c =
    let book = c.args.book.now in
    let frames = c.args.frames.now in
    let i = c.loop-frame.frame-index in
    let at = slice_get-get_or frames i _ c.loop-frame-test.true in
    elim c.match-branch-2.branch [
      | in-Some+in_ok-push w ↦ ap (λ v. v.items) w.seals-is ∙ w.in_ok-push.ensures.items ∙ ap (λ (ss : List (List ℕ)). ss ++ w.in-Some.seal ∷ []) c.loop-frame.invariant
          ∙ sym (seal_more book frames i _ w.in-Some.seal at (sym c.in_ok-seal.ensures ∙ w.in-Some.is))
      | in_default w ↦ ap (λ v. v.items) w.seals-is ∙ c.loop-frame.invariant ∙ sym (no_seal_more book frames i _ at (sym c.in_ok-seal.ensures ∙ w.in_default.is))
    ]
