-- What reading an evidence text answers, from what the text says.
use Rattle.std.proofs.Common.{◌≡◌, ℕ, List, Result, Ok, refl, sym, ap, subst, ◌∙◌, arith}
use Rattle.std.specs.Prelude.{◌++◌, IfOk}
use Rattle.text_lines.specs.Lines.{ended_lines_of, joined}
use Rattle.text_lines.specs.Answers.{Faults, Gives, IsRead}
use Rattle.text_lines.proofs.Answers.{faults, is_found, is_read}
use Rattle.text_lines.proofs.Joined.{joined-ended_lines_of}
use Rattle.text_lines.proofs.Steps.{bind_ok, ok_is}
use Rattle.text_fields.specs.declared.fault.TextFault.{TextFault}
use Rattle.text_fields.specs.declared.fault.TextFault.TheVariants.{Memory}
use Rattle.text_fields.specs.Faults.{is_memory}
use Rattle.text_fields.proofs.Faults.{only_memory}
use Rattle.evidence.specs.declared.exhibit.Exhibit.{Exhibit}
use Rattle.evidence.specs.Text.{IsExhibit, exhibit_lines, exhibit_text, head_lines}
use Rattle.evidence.specs.Reading.{head_at, frames_at, said_by, exhibit_at, exhibit_fault}
use Rattle.evidence.specs.Answers.{IsReadFrom}
use Rattle.evidence.proofs.Taken.{head_takes, frames_take}
use Rattle.evidence.proofs.Again.{said_again, ended_lines_of-exhibit_text}

-- what lines say is an exhibit, and they are its lines
said_found : (lines : List (List ℕ)) (x : Exhibit) → said_by lines ≡ Ok x → IsExhibit x × (lines ≡ exhibit_lines x)
unfolding said_by
said_found lines x e =
    let a = bind_ok (head_at 1 lines) _ x e in
    let b = bind_ok (frames_at 0 a.0.1) _ x a.2 in
    let head = head_takes 1 lines a.0 a.1 in
    let frames = frames_take 0 a.0.1 b.0 (omega arith) b.1 in
    let made : Exhibit = record { player = a.0.0.player; turn = a.0.0.turn; kind = a.0.0.kind; frames = b.0 } in
    let some = frames.some in
    let few = frames.few in
    subst (λ (y : Exhibit). IsExhibit y × (lines ≡ exhibit_lines y)) {x = made} (ok_is {E = TextFault} made x b.2) (
      record { player = head.player; turn = head.turn; some = omega arith; few = omega arith; frames = frames.frames },
      head.spelled ∙ ap (λ (ls : List (List ℕ)). head_lines 1 a.0.0.player a.0.0.turn a.0.0.kind ++ ls) frames.spelled,
    )

-- what a text says is an exhibit of this text
pub exhibit_found : (text : List ℕ) (x : Exhibit) → exhibit_at text ≡ Ok x → IsReadFrom x text
unfolding exhibit_at exhibit_text
exhibit_found text x e =
    let said = said_found (ended_lines_of text) x e in
    record { exhibit = said.0; text_is = sym (joined-ended_lines_of text) ∙ ap joined said.1 }

-- an exhibit's text says the exhibit
pub exhibit_again : (text : List ℕ) (x : Exhibit) → IsReadFrom x text → exhibit_at text ≡ Ok x
unfolding exhibit_at
exhibit_again text x from =
    ap said_by (ap ended_lines_of from.text_is ∙ ended_lines_of-exhibit_text x from.exhibit) ∙ said_again x from.exhibit

pub exhibit_read : (x : Exhibit) → IsExhibit x → exhibit_at (exhibit_text x) ≡ Ok x
exhibit_read x is = exhibit_again (exhibit_text x) x (record { exhibit = is; text_is = refl })

pub exhibit_spelled : (text : List ℕ) (x : Exhibit) → exhibit_at text ≡ Ok x → IsExhibit x × (text ≡ exhibit_text x)
exhibit_spelled text x e = let from = exhibit_found text x e in (from.exhibit, from.text_is)

-- ---- what the reader answers

pub found_in : (text : List ℕ) (r : Result Exhibit TextFault) → Gives is_memory (λ x. x) r (exhibit_at text) → IfOk r (λ x. IsReadFrom x text)
found_in text r given = is_found is_memory (λ x. IsReadFrom x text) r (exhibit_at text) (exhibit_found text) given

pub read_of : (text : List ℕ) (r : Result Exhibit TextFault) (x : Exhibit) → Gives is_memory (λ x. x) r (exhibit_at text) → IsReadFrom x text → IsRead Memory x r
read_of text r x given from = is_read is_memory Memory r (exhibit_at text) x only_memory given (exhibit_again text x from)

pub faults_of : (text : List ℕ) (r : Result Exhibit TextFault) → Gives is_memory (λ x. x) r (exhibit_at text) → Faults is_memory r (exhibit_fault text)
faults_of text r given = faults is_memory r (exhibit_at text) given
