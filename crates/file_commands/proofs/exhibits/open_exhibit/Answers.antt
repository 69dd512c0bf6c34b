use Rattle.std.proofs.Common.{◌≡◌, Bool, List, ℕ, Option, Some, None, sym, ◌∙◌, subst}
use Rattle.std.specs.Prelude.{Result, Err}
use Rattle.std.proofs.lemmas.Result.{err_from_is_err_and}
use Rattle.definitions.specs.declared.limits.TheConstants.{EVIDENCE_FRONT}
use Rattle.evidence.specs.declared.exhibit.Exhibit.{Exhibit}
use Rattle.evidence.specs.Reading.{exhibit_at}
use Rattle.line_io.specs.Fronts.{Fetched, IsFrontOf}
use Rattle.line_io.specs.declared.fronts.FrontFault.{FrontFault}
use Rattle.line_io.specs.declared.fronts.FrontFault.TheVariants.{NoMemory, Failed}
use Rattle.run_frame.specs.Faults.{status_of_front}
use Rattle.run_frame.specs.declared.statuses.Status.{Status}
use Rattle.run_frame.proofs.FrontFaults.{front_fetched}
use Rattle.file_commands.specs.Exhibits.{IsExhibitDue, evidence_front_of, exhibit_by}
use Rattle.file_commands.proofs.exhibits.open_exhibit.Goals as goal

-- the bytes that are read of an exhibit's file, by its front
evidence_front_read : (content : Option (List ℕ)) (text : List ℕ) → IsFrontOf EVIDENCE_FRONT content text → evidence_front_of content ≡ text
unfolding evidence_front_of
evidence_front_read None text h = absurd h
evidence_front_read (Some bytes) text h = sym h

-- no exhibit is read where the file was not
no_exhibit_due : (due : Result Exhibit Status) (fault : FrontFault) → IsExhibitDue due (Err (status_of_front fault))
no_exhibit_due due NoMemory = tt
no_exhibit_due due Failed = tt

pub returns : goal.returns
returns g c = record {
  fetched = subst (λ (f : Bool). Fetched (g.H.Shelf.state c.args.shelf.now) (g.H.Shelf.state c.read_front.new.shelf) c.args.name.now f) (sym c.exhibit_of.ensures.calm) c.in_ok-text.ensures.fetched;
  due = λ content h.
      subst (λ (b : List ℕ). IsExhibitDue (exhibit_by (exhibit_at b)) c.exhibit_of.result) (c.as_slice.ensures.value ∙ sym (evidence_front_read _ _ (c.in_ok-text.ensures.front_is content h))) c.exhibit_of.ensures.due;
}

pub returns-in_err-text : goal.returns-in_err-text
returns-in_err-text g c =
    let p = err_from_is_err_and c.from_residual.result c.from_residual.ensures.1 in
    let fault = c.in_err-text.field-0.0 in
    rw (p.1, p.2) (record { fetched = front_fetched _ _ _ _ fault c.in_err-text.ensures; due = λ content h. no_exhibit_due _ fault })
