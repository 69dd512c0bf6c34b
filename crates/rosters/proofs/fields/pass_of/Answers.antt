use Rattle.std.proofs.Common.{List, ℕ, sym, ap, ◌∙◌}
use Rattle.byte_fields.specs.Fields.{bytes_at}
use Rattle.rosters.proofs.Passes.{pass_whole}
use Rattle.rosters.proofs.fields.pass_of.Goals as goal

pub returns-in_err-pass : goal.returns-in_err-pass
returns-in_err-pass c =
    let whole = pass_whole c.args.digits.now c.in_ok-piece.piece c.requires (sym c.in_ok-piece.ensures.value) in
    let none = c.in_err-pass.ensures ∙ ap (λ (p : List ℕ). bytes_at 16 p 0) c.as_slice.ensures.bytes ∙ whole in
    absurd cc

pub returns : goal.returns
returns c =
    let whole = pass_whole c.args.digits.now c.in_ok-piece.piece c.requires (sym c.in_ok-piece.ensures.value) in
    c.in_ok-pass.ensures ∙ ap (λ (p : List ℕ). bytes_at 16 p 0) c.as_slice.ensures.bytes ∙ whole ∙ c.in_ok-piece.ensures.value
