-- Found: what reading the text of a sealed exhibit answers, from what the text says.
use Rattle.std.proofs.Common.{◌≡◌, ℕ, List, Result, Ok, refl, sym, ap, subst, ◌∙◌, arith}
use Rattle.std.specs.Prelude.{◌++◌, IfOk}
use Rattle.definitions.specs.World.{Game}
use Rattle.text_lines.specs.Lines.{ended_lines_of, joined}
use Rattle.text_lines.specs.Answers.{Faults, Gives, IsRead}
use Rattle.text_lines.proofs.Answers.{faults, is_found, is_read}
use Rattle.text_lines.proofs.Joined.{joined-ended_lines_of}
use Rattle.text_lines.proofs.Steps.{bind_ok, ok_is}
use Rattle.text_fields.specs.declared.fault.TextFault.{TextFault}
use Rattle.text_fields.specs.declared.fault.TextFault.TheVariants.{Memory}
use Rattle.text_fields.specs.Faults.{is_memory}
use Rattle.text_fields.proofs.Faults.{only_memory}
use Rattle.evidence.specs.Text.{head_lines}
use Rattle.evidence.specs.Reading.{head_at}
use Rattle.evidence.proofs.Taken.{head_takes}
use Rattle.seal_keys.specs.Seals.{seal_len}
use Rattle.sealed_evidence.specs.declared.sealed.SealedExhibit.{SealedExhibit}
use Rattle.sealed_text.specs.Text.{IsSealed, sealed_lines, sealed_text}
use Rattle.sealed_text.specs.Reading.{pairs_at, said_by, sealed_at, sealed_fault}
use Rattle.sealed_text.specs.Answers.{IsReadFrom}
use Rattle.sealed_text.proofs.Taken.{pairs_take}
use Rattle.sealed_text.proofs.Again.{ended_lines_of-sealed_text, said_again}

-- what lines say is a sealed exhibit, and they are its lines
said_found : (game : Game) (lines : List (List ℕ)) (x : SealedExhibit) → said_by (seal_len game) lines ≡ Ok x → IsSealed game x × (lines ≡ sealed_lines x)
unfolding said_by
said_found game lines x e =
    let a = bind_ok (head_at 2 lines) _ x e in
    let b = bind_ok (pairs_at (seal_len game) 0 a.0.1) _ x a.2 in
    let head = head_takes 2 lines a.0 a.1 in
    let pairs = pairs_take (seal_len game) 0 a.0.1 b.0 (omega arith) b.1 in
    let made : SealedExhibit = record { exhibit = record { player = a.0.0.player; turn = a.0.0.turn; kind = a.0.0.kind; frames = b.0.0 }; seals = b.0.1 } in
    let some = pairs.some in
    let few = pairs.few in
    subst (λ (y : SealedExhibit). IsSealed game y × (lines ≡ sealed_lines y)) {x = made} (ok_is {E = TextFault} made x b.2) (
      record { player = head.player; turn = head.turn; some = omega arith; few = omega arith; frames = pairs.frames; count = pairs.each; seals = pairs.seals },
      head.spelled ∙ ap (λ (ls : List (List ℕ)). head_lines 2 a.0.0.player a.0.0.turn a.0.0.kind ++ ls) pairs.spelled,
    )

-- what a text says is a sealed exhibit of this text
pub sealed_found : (game : Game) (text : List ℕ) (x : SealedExhibit) → sealed_at game text ≡ Ok x → IsReadFrom game x text
unfolding sealed_text
sealed_found game text x e =
    let said = said_found game (ended_lines_of text) x e in
    record { sealed = said.0; text_is = sym (joined-ended_lines_of text) ∙ ap joined said.1 }

-- a sealed exhibit's text says it
pub sealed_again : (game : Game) (text : List ℕ) (x : SealedExhibit) → IsReadFrom game x text → sealed_at game text ≡ Ok x
sealed_again game text x from =
    ap (said_by (seal_len game)) (ap ended_lines_of from.text_is ∙ ended_lines_of-sealed_text game x from.sealed) ∙ said_again game x from.sealed

pub sealed_read : (game : Game) (x : SealedExhibit) → IsSealed game x → sealed_at game (sealed_text x) ≡ Ok x
sealed_read game x is = sealed_again game (sealed_text x) x (record { sealed = is; text_is = refl })

-- ---- what the reader answers

pub found_in : (game : Game) (text : List ℕ) (r : Result SealedExhibit TextFault) → Gives is_memory (λ x. x) r (sealed_at game text) → IfOk r (λ x. IsReadFrom game x text)
found_in game text r given = is_found is_memory (λ x. IsReadFrom game x text) r (sealed_at game text) (sealed_found game text) given

pub read_of : (game : Game) (text : List ℕ) (r : Result SealedExhibit TextFault) (x : SealedExhibit) → Gives is_memory (λ x. x) r (sealed_at game text)
    → IsReadFrom game x text → IsRead Memory x r
read_of game text r x given from = is_read is_memory Memory r (sealed_at game text) x only_memory given (sealed_again game text x from)

pub faults_of : (game : Game) (text : List ℕ) (r : Result SealedExhibit TextFault) → Gives is_memory (λ x. x) r (sealed_at game text) → Faults is_memory r (sealed_fault game text)
faults_of game text r given = faults is_memory r (sealed_at game text) given
